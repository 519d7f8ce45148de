-- Each command is carried out on the dictionary that those before it leave.
use Rattle.std.proofs.Common.{◌≡◌, ◌<◌, ◌∙◌, ap, sym, subst, ℕ, List, length, map, true}
use Rattle.std.specs.Prelude.{IsTrue, Result, Ok, Err, is_err, OnErr, slice_index_or}
use Rattle.std.proofs.lemmas.List.{get_or-map}
use Rattle.fast_value.specs.declared.kinds.Kind.TheVariants.{UInt32}
use Rattle.fast_value.specs.declared.values.Scalar.TheVariants.{U}
use Rattle.fast_dict.specs.meaning.Commands.{CommandData, command_data, SetsText}
use Rattle.fast_dict.specs.declared.commands.StoreCommand.{StoreCommand}
use Rattle.fast_dict.specs.declared.commands.StoreCommand.TheVariants.{Set}
use Rattle.fast_dict.proofs.Changes.{after_more, length-after_more, at_ok, runnable_at}
use Rattle.fast_dict.proofs.commands.run.Goals as goal

-- what a fault tells
at_err : {A E P : Type 0} (r : Result A E) → is_err r ≡ true → OnErr r P → P
at_err (Ok x) is h = absurd (cc)
at_err (Err e) is h = h

-- a command of the list that sets a text
text_here : (cs : List StoreCommand) (i : ℕ) (x : StoreCommand) → i < length cs → SetsText (command_data (slice_index_or cs i x))
    → (d : CommandData) → SetsText (slice_index_or (map command_data cs) i d)
text_here cs i x h text d = rw (get_or-map command_data cs i x d h) text

pub carry_out-requires : goal.carry_out-requires
carry_out-requires g c = runnable_at command_data _ _ _ _ c.args.commands.now c.loop-count.count _ c.loop-count.invariant.same
    c.loop-count.invariant.size c.loop-count-test.true c.requires

pub loop-count-preserved : goal.loop-count-preserved
loop-count-preserved g c =
    let next = at_ok c.carry_out.result (cc) c.carry_out.ensures.ok in
    record {
      done = after_more command_data c.args.commands.now c.loop-count.count (Set 0 UInt32 (U 0)) (g.D.Store.dictionary c.args.store.now)
          (g.D.Store.dictionary c.loop-count.store) (g.D.Store.dictionary c.carry_out.new.store) c.loop-count-test.true
          c.loop-count.invariant.done next;
      size = length-after_more _ (g.D.Store.dictionary c.args.store.now) (g.D.Store.dictionary c.loop-count.store)
          (g.D.Store.dictionary c.carry_out.new.store) c.loop-count.invariant.size next;
      same = c.carry_out.ensures.same ∙ c.loop-count.invariant.same;
    }

pub returns-then-is_err-clause-done : goal.returns-then-is_err-clause-done
returns-then-is_err-clause-done g c = ap g.D.Store.dictionary
    (at_err c.carry_out.result (sym c.if-is_err.ensures.value) c.carry_out.ensures.err) ∙ c.loop-count.invariant.done

pub returns-then-is_err-clause-stopped : goal.returns-then-is_err-clause-stopped
returns-then-is_err-clause-stopped g c _ = text_here c.args.commands.now c.loop-count.count (Set 0 UInt32 (U 0)) c.loop-count-test.true
    (at_err c.carry_out.result (sym c.if-is_err.ensures.value) c.carry_out.ensures.text)

pub returns-then-is_err-clause-refused : goal.returns-then-is_err-clause-refused
returns-then-is_err-clause-refused g c _ = subst (λ t. IsTrue t.can_refuse) c.loop-count.invariant.same
    (at_err c.carry_out.result (sym c.if-is_err.ensures.value) c.carry_out.ensures.refused)
