-- A command that does not meet its conditions is one of the list.
use Rattle.std.proofs.Common.{below_more, refl, length, map}
use Rattle.std.specs.Prelude.{IsTrue, slice_index_or}
use Rattle.fast_value.specs.declared.kinds.Kind.TheVariants.{UInt32}
use Rattle.fast_value.specs.declared.values.Scalar.TheVariants.{U}
use Rattle.fast_dict.specs.meaning.Commands.{command_data, IsRunnable}
use Rattle.fast_dict.specs.declared.commands.StoreCommand.TheVariants.{Set}
use Rattle.fast_dict.proofs.Changes.{runnable_here, runnable_at}
use Rattle.fast_dict.proofs.commands.can_run.Goals as goal

pub returns-then-not-is_runnable : goal.returns-then-not-is_runnable
returns-then-not-is_runnable g c =
    let t = g.D.Store.terms c.args.store.now in
    let n = length (g.D.Store.dictionary c.args.store.now) in
    let no : IsTrue c.is_runnable.result → ⊥ = λ h. absurd (cc) in (
      λ h. absurd (cc),
      λ all. absurd (no (c.is_runnable.ensures.1
          (runnable_at command_data t t n n c.args.commands.now c.loop-command.command-index
          (Set 0 UInt32 (U 0)) refl refl c.loop-command-test.true all))),
    )

pub loop-command-preserved : goal.loop-command-preserved
loop-command-preserved g c =
    let yes : IsTrue c.is_runnable.result = cc in
    let here = runnable_here command_data (g.D.Store.terms c.args.store.now)
    (length (g.D.Store.dictionary c.args.store.now)) c.args.commands.now c.loop-command.command-index
    (Set 0 UInt32 (U 0)) c.loop-command-test.true (c.is_runnable.ensures.0 yes) in
    λ k d h. below_more (λ j. IsRunnable (g.D.Store.terms c.args.store.now) (length (g.D.Store.dictionary c.args.store.now))
    (slice_index_or (map command_data c.args.commands.now) j d)) _ (λ j b. c.loop-command.invariant j d b) (here d) k h
