-- What the pointer to a box owns may move to another thread where the box's value may: the value, and the right to free its block.
use mir.Raw.{raw}
use base.Fraction.{full_share}
use base.Shift.{Keyless}
use denote.RattleType.{RattleType}
use denote.Memory.{lone}
use denote.RawPtr.{Ptr, block_ptr, null_ptr}
use denote.Param.Send.{IsSend, part_keyless}
use Rattle.std.specs.Ptr.{points_to}
use Rattle.std.specs.Box.Ownership.{box_owns}
use Rattle.std.specs.declared.alloc.Global.{Global}
use Rattle.std.specs.contracts.impls.GlobalAllocator.TheImpl.{ghosts}
use Rattle.std.proofs.Crossing.{frees}

value_keyless : (R : RattleType) → IsSend R → (p : Ptr) (x : R.Denot) → Keyless (points_to R p x)
value_keyless R s (block_ptr b o) x = part_keyless R s full_share x b o
value_keyless R s null_ptr x = tt

pub box_keyless : (R : RattleType) → IsSend R → (a : Global) (p : Ptr) (x : R.Denot) → Keyless (box_owns (ghosts.dealloc_token a) R p x)
box_keyless R s a p x = (value_keyless R s p x, frees.frees a (raw (lone R.mir)) p)
