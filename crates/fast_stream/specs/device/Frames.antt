-- The state of a machine as a stack of open segments, with its position in the innermost.
use Rattle.std.specs.Prelude.{ℕ, zero, suc, Bool, List, [], ◌∷◌}
use Rattle.fast_value.specs.meaning.Limits.{Bounds}
use Rattle.fast_tree.specs.meaning.Tree.{Body}
use Rattle.fast_dict.specs.meaning.Dictionary.{Dictionary}
use Rattle.fast_stream.specs.meaning.Events.{GroupEnd, ElementStart, ElementEnd, SequenceEnd, MessageEnd}
use Rattle.fast_stream.specs.meaning.Messages.{Context, State, own_bits}
use Rattle.fast_stream.specs.meaning.Grammar.{Grammar, give, hand, ◌>>=◌}
use Rattle.fast_stream.specs.device.Continuations.{segment_then, elements_then, body_then}

-- An open group or element: the instructions after it in the segment around it, and the bits that are left there; of an element also the
-- number of elements that follow, and the body of each.
pub data Frame : Type 0 where
  open_group : Body → List Bool → Frame
  open_element : ℕ → Body → Body → List Bool → Frame

-- The innermost segment is at its end.
unfoldable pub unwind : Bounds → List Frame → Context → Grammar Dictionary
unwind l [] c = hand MessageEnd (give c.dictionary)
unwind l (open_group rest left ∷ fs) d = hand GroupEnd (body_then l rest (record { context = d; bits = left }) (λ s. unwind l fs s.context))
unwind l (open_element n body rest left ∷ fs) d =
    hand ElementEnd (elements_then (segment_then body (body_then l body)) n d (λ e.
    hand SequenceEnd (body_then l rest (record { context = e; bits = left }) (λ s. unwind l fs s.context))))

-- The innermost segment goes on with these instructions.
unfoldable pub resume : Bounds → List Frame → Body → State → Grammar Dictionary
resume l fs rest s = body_then l rest s (λ r. unwind l fs r.context)

-- a segment that begins
abbrev pub opened : Bounds → List Frame → Body → Context → Grammar Dictionary
opened l fs body c = own_bits body >>= (λ b. resume l fs body (record { context = c; bits = b }))

-- a sequence of which n elements remain
abbrev pub elements_turn : Bounds → List Frame → ℕ → Body → Body → State → Grammar Dictionary
elements_turn l fs zero body is s = hand SequenceEnd (resume l fs is s)
elements_turn l fs (suc n) body is s = hand ElementStart (opened l (open_element n body is s.bits ∷ fs) body s.context)
