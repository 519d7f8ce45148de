use Rattle.std.proofs.Common.{refl}
use Rattle.std.specs.Prelude.{None}
use Rattle.fast_machine.specs.device.Positions.{set_of, IsSupplied, IsFresh}
use Rattle.fast_decoder.specs.meaning.Decoding.{DecoderData}
use Rattle.fast_decoder.proofs.streams.Bounds.{stored-bound}
use Rattle.fast_decoder.proofs.streams.Starts.{sound_fresh, read_fresh}
use Rattle.fast_decoder.proofs.decoder.Decoder.reset.Goals as goal

-- the decoder that was reset
abbrev made : goal.After-self-2-1 → DecoderData
made c = record { set = set_of c.self.inside.templates.now; limits = c.self.inside.limits; machine = c.reset.new.self; consumed = 0; fault = None }

supplied : (c : goal.After-self-2-1) → IsSupplied (set_of c.self.inside.templates.now) c.self.inside.limits c.reset.new.self
supplied c = c.reset.ensures.supplied (set_of c.self.inside.templates.now) c.self.inside.limits c.self.invariant.supplied

fresh : (c : goal.After-self-2-1) → IsFresh (set_of c.self.inside.templates.now) c.reset.new.self
fresh c = c.reset.ensures.fresh (set_of c.self.inside.templates.now) c.self.inside.limits c.self.invariant.supplied

pub invariant_of-self : goal.invariant_of-self
invariant_of-self c = sound_fresh (made c) c.self.invariant.later (supplied c) (fresh c) refl

pub returns-clause-so : goal.returns-clause-so
returns-clause-so c = read_fresh (made c) c.self.invariant.later (supplied c) (fresh c) refl refl

pub returns-clause-no_turn : goal.returns-clause-no_turn
returns-clause-no_turn c = (fresh c).turns

pub returns-clause-bounded : goal.returns-clause-bounded
returns-clause-bounded c = stored-bound (set_of c.self.inside.templates.now) c.self.inside.limits c.reset.new.self (supplied c)
