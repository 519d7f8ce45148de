-- Buffered bytes of a unit that goes on after them.
use Rattle.std.specs.Prelude.{◌≡◌, ◌≢◌, ℕ, List, ◌++◌}
use Rattle.fast_value.specs.declared.settings.Limits.{Limits}
use Rattle.fast_machine.specs.declared.machine.Machine.{Machine}
use Rattle.fast_machine.specs.declared.machine.Waiting.TheVariants.{Map}
use Rattle.fast_machine.specs.device.Positions.{Set, front_at, IsReady}

-- Inside a message all of the bytes were added to those buffered, and the machine waits for more of the same unit.
pub record IsGatheredBy (set : Set) (l : Limits) (before after : Machine) (rest : List ℕ) : Type 0 where
  pub inside : before.waiting ≢ Map
  pub ready : IsReady set l after
  pub front : front_at before.waiting after ≡ front_at before.waiting before ++ rest
  pub same : after ≡ record before { carry = after.carry }
