-- Runs, and what is put behind them.
use Rattle.std.proofs.Common.{refl, sym, ap, subst, ◌∙◌, arith, inl, inr, ◌⊎◌}
use Rattle.std.specs.Prelude.{◌≡◌, ℕ, zero, suc, ◌<◌, Bool, true, false, if◌then◌else◌, List, [], ◌∷◌, ◌++◌, length, drop, slice_get, Some}
use Rattle.std.proofs.lemmas.Bool.{cases_lt}
use Rattle.std.proofs.lemmas.List.{drop_all, drop-append-le, append_assoc}
use Rattle.std.proofs.Math.Seq.{drop-append_seam}
use Rattle.fast_tree.specs.declared.instructions.Node.{Node}
use Rattle.fast_program.specs.declared.ops.Op.{Op}
use Rattle.fast_program.specs.device.Ops.{IsOpOf}
use Rattle.fast_program.specs.device.Runs.{is_end, run_nodes, has_end, HasEnd, AreNumbered, Begins}
use Rattle.fast_program.specs.device.Programs.{SuitNodes}

-- Ops of these nodes, without an End.
abbrev pub AreOps : List Op → List ℕ → Type 0
AreOps [] [] = Unit {0}
AreOps [] (n ∷ ns) = ⊥
AreOps (op ∷ ops) [] = ⊥
AreOps (op ∷ ops) (n ∷ ns) = (is_end op.code ≡ false) × (op.node ≡ n) × AreOps ops ns

-- one more at the end
pub one_more_op : (ops : List Op) (ns : List ℕ) (op : Op) (n : ℕ) → AreOps ops ns → is_end op.code ≡ false → op.node ≡ n
    → AreOps (ops ++ op ∷ []) (ns ++ n ∷ [])
one_more_op [] [] op n h more is = (more, is, tt)
one_more_op [] (m ∷ ms) op n h more is = absurd h
one_more_op (o ∷ os) [] op n h more is = absurd h
one_more_op (o ∷ os) (m ∷ ms) op n (first, named, rest) more is = (first, named, one_more_op os ms op n rest more is)

-- an End behind ops of nodes makes their run
closed_nodes : (ops : List Op) (ns : List ℕ) (end : Op) → AreOps ops ns → is_end end.code ≡ true → run_nodes (ops ++ end ∷ []) ≡ ns
closed_nodes [] [] end h ends = ap (λ b. if b then [] else end.node ∷ []) ends
closed_nodes [] (n ∷ ns) end h ends = absurd h
closed_nodes (o ∷ os) [] end h ends = absurd h
closed_nodes (o ∷ os) (n ∷ ns) end (first, named, rest) ends =
    ap (λ b. if b then [] else o.node ∷ run_nodes (os ++ end ∷ [])) first ∙ ap (λ m. m ∷ run_nodes (os ++ end ∷ [])) named
    ∙ ap (λ ms. n ∷ ms) (closed_nodes os ns end rest ends)

closed_run : (ops : List Op) (ns : List ℕ) (end : Op) → AreOps ops ns → is_end end.code ≡ true → HasEnd (ops ++ end ∷ [])
closed_run [] [] end h ends = ap (λ b. if b then true else false) ends
closed_run [] (n ∷ ns) end h ends = absurd h
closed_run (o ∷ os) [] end h ends = absurd h
closed_run (o ∷ os) (n ∷ ns) end (first, named, rest) ends = ap (λ b. if b then true else has_end (os ++ end ∷ [])) first ∙ closed_run os ns end rest ends

pub closed : (old ops : List Op) (ns : List ℕ) (end : Op) → AreOps ops ns → is_end end.code ≡ true → Begins ((old ++ ops) ++ end ∷ []) (length old) ns
closed old ops ns end h ends =
    let behind : drop (length old) ((old ++ ops) ++ end ∷ []) ≡ ops ++ end ∷ [] = ap (drop (length old)) (append_assoc old ops (end ∷ []))
    ∙ drop-append_seam old (ops ++ end ∷ []) in
    record {
      nodes = ap run_nodes behind ∙ closed_nodes ops ns end h ends;
      run = subst HasEnd (sym behind) (closed_run ops ns end h ends);
    }

-- a run is the same whatever stands behind it
nodes_by : (b : Bool) (n : ℕ) (new old : List ℕ) (more : Bool) → (if b then true else more) ≡ true → (more ≡ true → new ≡ old)
    → (if b then [] else n ∷ new) ≡ (if b then [] else n ∷ old)
nodes_by true n new old more h same = refl
nodes_by false n new old more h same = ap (λ ns. n ∷ ns) (same h)

same_nodes : (ops tail : List Op) → HasEnd ops → run_nodes (ops ++ tail) ≡ run_nodes ops
same_nodes [] tail h = absurd (cc h)
same_nodes (o ∷ os) tail h = nodes_by (is_end o.code) o.node (run_nodes (os ++ tail)) (run_nodes os) (has_end os) h (λ more. same_nodes os tail more)

end_by : (b new old : Bool) → (if b then true else old) ≡ true → (old ≡ true → new ≡ true) → (if b then true else new) ≡ true
end_by true new old h same = refl
end_by false new old h same = same h

same_end : (ops tail : List Op) → HasEnd ops → HasEnd (ops ++ tail)
same_end [] tail h = absurd (cc h)
same_end (o ∷ os) tail h = end_by (is_end o.code) (has_end (os ++ tail)) (has_end os) h (λ more. same_end os tail more)

-- the op of a run is there
pub run_within : (ops : List Op) (at : ℕ) → HasEnd (drop at ops) → at < length ops
run_within ops at h = elim (cases_lt at (length ops)) [
  | inl l ↦ l
  | inr l ↦ let none : drop at ops ≡ [] = drop_all at ops l in let e : false ≡ true = ap has_end (sym none) ∙ h in absurd (cc e)
]

pub kept_run : (ops tail : List Op) (at : ℕ) (body : List ℕ) → Begins ops at body → Begins (ops ++ tail) at body
kept_run ops tail at body b =
    let inside = run_within ops at b.run in
    let behind : drop at (ops ++ tail) ≡ drop at ops ++ tail = drop-append-le at ops tail (omega arith) in
    record {
      nodes = ap run_nodes behind ∙ same_nodes (drop at ops) tail b.run ∙ b.nodes;
      run = subst HasEnd (sym behind) (same_end (drop at ops) tail b.run);
    }

-- an op of more is one of those before, or the last
last_or : (ops : List Op) (last : Op) (i : ℕ) (op : Op) → slice_get (ops ++ last ∷ []) i ≡ Some op → (slice_get ops i ≡ Some op) ⊎ (last ≡ op)
last_or [] last zero op h = inr (cc h)
last_or [] last (suc i) op h = absurd (cc h)
last_or (o ∷ os) last zero op h = inl h
last_or (o ∷ os) last (suc i) op h = last_or os last i op h

-- no op, or one more, which tells how many are in front of it
pub numbered_none : AreNumbered []
numbered_none i op here = absurd (cc here)

pub last_at : {X : Type 0} (xs : List X) (last : X) (i : ℕ) (x : X) → slice_get (xs ++ last ∷ []) i ≡ Some x
    → (slice_get xs i ≡ Some x) ⊎ ((last ≡ x) × (i ≡ length xs))
last_at [] last zero x h = inr (cc h, refl)
last_at [] last (suc i) x h = absurd (cc h)
last_at (y ∷ ys) last zero x h = inl h
last_at (y ∷ ys) last (suc i) x h = elim (last_at ys last i x h) [
  | inl before ↦ inl before
  | inr same ↦ inr (same.0, ap suc same.1)
]

pub numbered_more : (ops : List Op) (op : Op) → AreNumbered ops → op.at ≡ length ops → AreNumbered (ops ++ op ∷ [])
numbered_more ops op numbered at i o here = elim (last_at ops op i o here) [
  | inl before ↦ numbered i o before
  | inr same ↦ ap (λ (p : Op). p.at) (sym same.0) ∙ at ∙ sym same.1
]

-- no op, one more op that suits its node, or an End
pub suit_none : (ns : List Node) → SuitNodes [] ns
suit_none ns i op here more = absurd (cc here)

pub suit_more : (ns : List Node) (ops : List Op) (op : Op) (x : Node) → SuitNodes ops ns → slice_get ns op.node ≡ Some x
    → IsOpOf op op.node x.shape → SuitNodes (ops ++ op ∷ []) ns
suit_more ns ops op x suits found is i o here more = elim (last_or ops op i o here) [
  | inl before ↦ suits i o before more
  | inr same ↦ subst (λ (p : Op). (y : Node) × (slice_get ns p.node ≡ Some y) × IsOpOf p p.node y.shape) same (x, found, is)
]

pub suit_end : (ns : List Node) (ops : List Op) (end : Op) → SuitNodes ops ns → is_end end.code ≡ true → SuitNodes (ops ++ end ∷ []) ns
suit_end ns ops end suits ends i o here more = elim (last_or ops end i o here) [
  | inl before ↦ suits i o before more
  | inr same ↦ let e : true ≡ false = sym ends ∙ ap (λ (p : Op). is_end p.code) same ∙ more in absurd (cc e)
]
