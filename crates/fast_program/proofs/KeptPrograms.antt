-- What a program holds, from a fact of one proof.
use Rattle.std.proofs.Common.{refl, sym, subst, ◌∙◌, ℕ, List, [], ◌≡◌, length, slice_get, Option, Some, None}
use Rattle.std.proofs.Props.{props}
use Rattle.std.proofs.Math.Logic.{∥∥₁_elim, ∥∥₁_map}
use Rattle.fast_tree.specs.declared.instructions.Node.{Node}
use Rattle.fast_tree.specs.declared.instructions.Template.{Template}
use Rattle.fast_tree.specs.meaning.Numbers.{numbers_of}
use Rattle.fast_program.specs.declared.ops.Op.{Op}
use Rattle.fast_program.specs.declared.programs.Program.{Program}
use Rattle.fast_program.specs.device.Ops.{IsOpOf}
use Rattle.fast_program.specs.declared.starts.Start.{Start}
use Rattle.fast_program.specs.device.Runs.{AreNumbered, Begins}
use Rattle.fast_program.specs.device.Starts.{IsStartOf}
use Rattle.fast_program.specs.device.Programs.{SuitNodes, BeginsNode, IsProgramOf}
use Rattle.fast_program.proofs.Claims.{op_again}
use Rattle.fast_program.proofs.StartLists.{as_many_starts, start_at}

-- the node of an op
abbrev HasNode : List Node → Op → Type 0
HasNode ns op = (x : Node) × (slice_get ns op.node ≡ Some x) × IsOpOf op op.node x.shape

node_again : (ns : List Node) (op : Op) (o : Option Node) → slice_get ns op.node ≡ o → ∥ HasNode ns op ∥₁ → HasNode ns op
node_again ns op None none h = absurd (∥∥₁_elim h (hlevel props) (λ (p : HasNode ns op). let e = sym none ∙ p.1 in cc e))
node_again ns op (Some x) found h = (
  x,
  found,
  op_again op op.node x.shape (∥∥₁_map h (λ (p : HasNode ns op). let e = sym p.1 ∙ found in let same : p.0 ≡ x = cc e in
      subst (λ (y : Node). IsOpOf op op.node y.shape) same p.2)),
)

begins_again : (ops : List Op) (at : ℕ) (body : List ℕ) → ∥ Begins ops at body ∥₁ → Begins ops at body
begins_again ops at body h = record { nodes = ∥∥₁_elim h (hlevel props) (λ b. b.nodes); run = ∥∥₁_elim h (hlevel props) (λ b. b.run) }

start_again : (ops : List Op) (s : Start) (t : Template) → ∥ IsStartOf ops s t ∥₁ → IsStartOf ops s t
start_again ops s t h = record {
  body = begins_again ops s.at t.body.items (∥∥₁_map h (λ b. b.body));
  id = ∥∥₁_elim h (hlevel props) (λ b. b.id);
  reset = ∥∥₁_elim h (hlevel props) (λ b. b.reset);
}

module _ (p : Program) (ts : List Template) (ns : List Node) (is : ∥ IsProgramOf p ts ns ∥₁) where
  pub kept_suits : SuitNodes p.ops.items ns
  kept_suits i op here more = node_again ns op (slice_get ns op.node) refl (∥∥₁_map is (λ of. of.suits i op here more))

  pub kept_rests : Begins p.ops.items 0 []
  kept_rests = begins_again p.ops.items 0 [] (∥∥₁_map is (λ of. of.rests))

  pub kept_numbered : AreNumbered p.ops.items
  kept_numbered i op here = ∥∥₁_elim is (hlevel props) (λ of. of.numbered i op here)

  pub template_starts : length p.template_starts.items ≡ length ts
  template_starts = ∥∥₁_elim is (hlevel props) (λ of. as_many_starts IsStartOf p.ops.items p.template_starts.items ts of.templates)

  pub body_starts : length p.body_starts.items ≡ length ns
  body_starts = ∥∥₁_elim is (hlevel props) (λ of. as_many_starts BeginsNode p.ops.items p.body_starts.items ns of.bodies)

  pub template_start : (i : ℕ) (s : Start) (t : Template) → slice_get p.template_starts.items i ≡ Some s → slice_get ts i ≡ Some t → IsStartOf p.ops.items s t
  template_start i s t here found = start_again p.ops.items s t
      (∥∥₁_map is (λ of. start_at IsStartOf p.ops.items i p.template_starts.items ts s t of.templates here found))

  pub start_number : (i : ℕ) (s : Start) → slice_get p.template_starts.items i ≡ Some s → s.number ≡ i
  start_number i s here = ∥∥₁_elim is (hlevel props) (λ of. of.order i s here)

  pub body_begins : (n at : ℕ) (x : Node) → slice_get p.body_starts.items n ≡ Some at → slice_get ns n ≡ Some x → Begins p.ops.items at (numbers_of x.shape)
  body_begins n at x here found = begins_again p.ops.items at (numbers_of x.shape)
      (∥∥₁_map is (λ of. start_at BeginsNode p.ops.items n p.body_starts.items ns at x of.bodies here found))
