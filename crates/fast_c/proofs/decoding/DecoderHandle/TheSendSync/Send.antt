-- A decoder may move to another thread, and so may the pointer that owns its box.
use denote.Param.Send.{IsSend, owning_send, sendable}
use Rattle.std.proofs.alloc.Global.TheSendSync as heap
use Rattle.fast_c.specs.contracts.decoding.Decoding as boxed
use Rattle.fast_c.proofs.decoding.Decoding.TheSendSync.{the_send}
use Rattle.fast_c.specs.contracts.decoding.DecoderHandle.{the_row, the_type}
use Rattle.fast_c.proofs.Boxes.{box_keyless}

pub send : IsSend the_row
send = owning_send the_type (search sendable, (heap.the_field_send, tt)) (λ h. box_keyless boxed.the_row the_send h.alloc h.at h.value) (λ k x w. tt)
