-- Ops that were left to the general path, and runs of them.
use Rattle.std.proofs.Common.{refl, sym, ap, subst, ◌∙◌, arith}
use Rattle.std.specs.Prelude.{◌≡◌, ℕ, zero, suc, ◌<◌, Bool, true, false, if◌then◌else◌, List, [], ◌∷◌, ◌++◌, length, map, take, drop, slice_get, Some, Vec}
use Rattle.std.specs.Global.{Global}
use Rattle.std.specs.Prelude.{slice_index_or, slice_set}
use Rattle.fast_tree.specs.declared.instructions.Node.{Node}
use Rattle.fast_tree.specs.declared.instructions.Template.{Template}
use Rattle.fast_tree.specs.meaning.Numbers.{numbers_of}
use Rattle.fast_program.specs.declared.codes.Code.TheVariants.{General}
use Rattle.fast_program.specs.declared.ops.Op.{Op}
use Rattle.fast_program.specs.declared.programs.Program.{Program}
use Rattle.fast_program.specs.declared.starts.Start.{Start}
use Rattle.fast_program.specs.device.Codes.{IsCoded}
use Rattle.fast_program.specs.device.Ops.{IsOpOf, general_op}
use Rattle.fast_program.specs.device.Runs.{is_end, run_nodes, has_end, AreNumbered, Begins}
use Rattle.fast_program.specs.device.Starts.{IsStartOf}
use Rattle.fast_program.specs.device.Programs.{SuitNodes, AreStarts, BeginsNode, IsProgramOf}
use Rattle.fast_program.proofs.StartLists.{kept_starts}

-- one element more is replaced
pub mapped_more : {X : Type 0} (f : X → X) (xs : List X) (i : ℕ) (d : X) → i < length xs
    → slice_set (map f (take i xs) ++ drop i xs) i (f (slice_index_or (map f (take i xs) ++ drop i xs) i d)) ≡ map f (take (suc i) xs) ++ drop (suc i) xs
mapped_more f [] i d h = absurd (omega arith)
mapped_more f (x ∷ xs) zero d h = refl
mapped_more f (x ∷ xs) (suc i) d h = ap (λ ys. f x ∷ ys) (mapped_more f xs i d (omega arith))

-- of an op only the code changes, and an End stays one
end_by : (b : Bool) (op : Op) → is_end op.code ≡ b → is_end (if b then op else record op { code = General }).code ≡ b
end_by true op h = h
end_by false op h = refl

same_end : (op : Op) → is_end (general_op op).code ≡ is_end op.code
same_end op = end_by (is_end op.code) op refl

node_by : (b : Bool) (op : Op) → (if b then op else record op { code = General }).node ≡ op.node
node_by true op = refl
node_by false op = refl

at_by : (b : Bool) (op : Op) → (if b then op else record op { code = General }).at ≡ op.at
at_by true op = refl
at_by false op = refl

-- runs are unchanged
same_nodes : (ops : List Op) → run_nodes (map general_op ops) ≡ run_nodes ops
same_nodes [] = refl
same_nodes (o ∷ os) =
    ap (λ b. if b then [] else (general_op o).node ∷ run_nodes (map general_op os)) (same_end o)
    ∙ ap (λ n. if is_end o.code then [] else n ∷ run_nodes (map general_op os)) (node_by (is_end o.code) o)
    ∙ ap (λ ns. if is_end o.code then [] else o.node ∷ ns) (same_nodes os)

same_run : (ops : List Op) → has_end (map general_op ops) ≡ has_end ops
same_run [] = refl
same_run (o ∷ os) =
    ap (λ b. if b then true else has_end (map general_op os)) (same_end o) ∙ ap (λ b. if is_end o.code then true else b) (same_run os)

drop_mapped : (at : ℕ) (ops : List Op) → drop at (map general_op ops) ≡ map general_op (drop at ops)
drop_mapped zero ops = refl
drop_mapped (suc at) [] = refl
drop_mapped (suc at) (o ∷ os) = drop_mapped at os

general_begins : (ops : List Op) (at : ℕ) (body : List ℕ) → Begins ops at body → Begins (map general_op ops) at body
general_begins ops at body b = record {
  nodes = ap run_nodes (drop_mapped at ops) ∙ same_nodes (drop at ops) ∙ b.nodes;
  run = ap has_end (drop_mapped at ops) ∙ same_run (drop at ops) ∙ b.run;
}

general_start : (ops : List Op) (s : Start) (t : Template) → IsStartOf ops s t → IsStartOf (map general_op ops) s t
general_start ops s t h = record { body = general_begins ops s.at t.body.items h.body; id = h.id; reset = h.reset }

general_node : (ops : List Op) (at : ℕ) (x : Node) → BeginsNode ops at x → BeginsNode (map general_op ops) at x
general_node ops at x h = general_begins ops at (numbers_of x.shape) h

-- each was one
was : (ops : List Op) (i : ℕ) (op : Op) → slice_get (map general_op ops) i ≡ Some op → (old : Op) × (slice_get ops i ≡ Some old) × (general_op old ≡ op)
was [] i op h = absurd (cc h)
was (o ∷ os) zero op h = (o, refl, cc h)
was (o ∷ os) (suc i) op h = was os i op h

general_numbered : (ops : List Op) → AreNumbered ops → AreNumbered (map general_op ops)
general_numbered ops numbered i op here =
    let (old, found, is) = was ops i op here in
    ap (λ (p : Op). p.at) (sym is) ∙ at_by (is_end old.code) old ∙ numbered i old found

-- General suits every node
general_of : (ns : List Node) (op : Op) (x : Node) → slice_get ns op.node ≡ Some x
    → (y : Node) × (slice_get ns op.node ≡ Some y) × IsOpOf (record op { code = General }) op.node y.shape
unfolding IsCoded
general_of ns op x found = (x, found, (refl, tt))

general_suits : (ns : List Node) (ops : List Op) → SuitNodes ops ns → SuitNodes (map general_op ops) ns
general_suits ns ops suits i op here more =
    let (old, found, is) = was ops i op here in
    let none : is_end old.code ≡ false = sym (same_end old) ∙ ap (λ (p : Op). is_end p.code) is ∙ more in
    let (x, at, _) = suits i old found none in
    let general : record old { code = General } ≡ op = ap (λ b. if b then old else record old { code = General }) (sym none) ∙ is in
    subst (λ (p : Op). (y : Node) × (slice_get ns p.node ≡ Some y) × IsOpOf p p.node y.shape) general (general_of ns old x at)

-- a program stays that of its templates and nodes
pub general_program : (p : Program) (ops : Vec Op Global) → ops.items ≡ map general_op p.ops.items → (ts : List Template) (ns : List Node)
    → IsProgramOf p ts ns → IsProgramOf (record p { ops = ops }) ts ns
general_program p ops items ts ns is =
    let old : List Op = p.ops.items in
    let now : map general_op old ≡ ops.items = sym items in
    record {
      rests = subst (λ os. Begins os 0 []) now (general_begins old 0 [] is.rests);
      suits = subst (λ os. SuitNodes os ns) now (general_suits ns old is.suits);
      numbered = subst AreNumbered now (general_numbered old is.numbered);
      templates = subst (λ os. AreStarts IsStartOf os p.template_starts.items ts) now
          (kept_starts IsStartOf old (map general_op old) p.template_starts.items ts (general_start old) is.templates);
      order = is.order;
      bodies = subst (λ os. AreStarts BeginsNode os p.body_starts.items ns) now
          (kept_starts BeginsNode old (map general_op old) p.body_starts.items ns (general_node old) is.bodies);
    }
