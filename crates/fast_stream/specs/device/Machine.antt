-- A machine's state as first-order data, and the reader that it stands for: the open segments, the unit that is being read, as the term
-- that begins with it, and the bytes of this unit that have been read.
use Rattle.std.specs.Prelude.{ℕ, ◌-◌, Bool, true, false, List, [], ◌∷◌, ℤ, Some}
use Rattle.fast_wire.specs.meaning.Maps.{bits}
use Rattle.fast_wire.specs.meaning.Integers.{delta_range}
use Rattle.fast_value.specs.declared.settings.Limits.{Limits}
use Rattle.fast_value.specs.meaning.Limits.{Bounds, bounds}
use Rattle.fast_value.specs.declared.codes.Code.{Code}
use Rattle.fast_value.specs.declared.codes.Code.TheVariants.{D2}
use Rattle.fast_tree.specs.meaning.Tree.{FieldData, Body, bits_of, Tree}
use Rattle.fast_dict.specs.meaning.Dictionary.{Dictionary, PreviousData, previous_at}
use Rattle.fast_dict.specs.meaning.Operators.{Outcome, decide, Kept, kept_length}
use Rattle.fast_stream.specs.meaning.Grammar.{Grammar, integer, raw, presence_map, narrow, ◌>>=◌, of_result}
use Rattle.fast_stream.specs.meaning.Fields.{text, sent_text, decimal_from, mantissa_change, part_change, field_term}
use Rattle.fast_stream.specs.meaning.Messages.{Context, State, Found, found, decimal_with}
use Rattle.fast_stream.specs.device.Readers.{Reader}
use Rattle.fast_stream.specs.device.GrammarReaders.{reader_of}
use Rattle.fast_stream.specs.device.Continuations.{handed_then, mantissa_after_then, sequence_from_then, segment_then, body_then}
use Rattle.fast_stream.specs.device.Continuations.{message_behind_then, message_then}
use Rattle.fast_stream.specs.device.Running.{Position, at_start, amid, at_fault, after_byte}
use Rattle.fast_stream.specs.device.Frames.{Frame, resume}

-- the use of a field's value, and the instructions after it
pub data Purpose : Type 0 where
  -- the identifier, after a message's map
  for_identifier : List ℕ → Purpose
  for_scalar : ℕ → Body → Purpose
  for_exponent : ℕ → FieldData → Body → Purpose
  for_mantissa : ℕ → ℤ → Body → Purpose
  for_length : ℕ → Body → Body → Purpose

-- the rest of the message after the value
unfoldable pub serve : Tree → Bounds → List Frame → Purpose → Found → Grammar Dictionary
serve t l fs (for_identifier m) r = message_behind_then t l m r
serve t l fs (for_scalar n is) r = handed_then n (resume l fs is) r.0 r.1
serve t l fs (for_exponent n mantissa is) r = mantissa_after_then l n mantissa (resume l fs is) r
serve t l fs (for_mantissa n e is) r = handed_then n (resume l fs is) (decimal_with e r.0) r.1
serve t l fs (for_length n body is) r = sequence_from_then l n (segment_then body (body_then l body)) (resume l fs is) r

-- the unit of a field: the first one, or a later one with the values of the units before it
pub data Stage : Type 0 where
  first : Bool → Stage
  behind_size : ℕ → Stage
  behind_exponent : ℤ → Stage
  behind_exponent_delta : ℤ → Stage
  behind_kept : Kept → Stage
  behind_part_size : Kept → ℕ → Stage

-- the field from this unit on
unfoldable pub stage_term : Bounds → FieldData → PreviousData → Stage → Grammar Outcome
stage_term l f p (first bit) = field_term l f p bit
stage_term l f p (behind_size n) = raw n (λ v. of_result (decide f p true (sent_text f.kind (Some v))))
stage_term l f p (behind_exponent e) = decimal_from (Some e) >>= (λ x. of_result (decide f p true x))
stage_term l f p (behind_exponent_delta e) = integer delta_range false D2 (mantissa_change f p e)
stage_term l f p (behind_kept kept) = text f.kind false (l.max_text - kept_length kept) >>= part_change f p kept
stage_term l f p (behind_part_size kept n) = raw n (λ v. part_change f p kept (Some v))

-- the unit inside a message for which a machine waits: the message's map, a segment's, or one of a field
pub data Waiting : Type 0 where
  in_map : Dictionary → Waiting
  in_segment_map : Body → Context → Waiting
  in_field : FieldData → Purpose → State → Stage → Waiting

-- the rest of the message as a term, from the partial unit on
unfoldable pub term_of : Tree → Bounds → List Frame → Waiting → Grammar Dictionary
term_of t l fs (in_map d) = message_then t l d
term_of t l fs (in_segment_map body c) = presence_map (λ m. narrow (bits_of body) m (resume l fs body (record { context = c; bits = bits m })))
term_of t l fs (in_field f purpose s stage) = stage_term l f (previous_at f.entry s.context.dictionary) stage >>= (λ o. serve t l fs purpose (found f s o))

-- the reader after these bytes, if it waits for each of them
abbrev pub after_bytes : {A : Type 0} → Reader A → List ℕ → Reader A
after_bytes r [] = r
after_bytes r (b ∷ w) = after_bytes (after_byte r b) w

-- a machine: between messages, in a unit of which these bytes have been read, or at a fault
pub data Machine : Type 0 where
  idle : Dictionary → Machine
  busy : List Frame → Waiting → List ℕ → Machine
  failed : Code → ℕ → Machine

-- the reader of a busy machine
abbrev pub stands_for : Tree → Limits → List Frame → Waiting → List ℕ → Reader Dictionary
stands_for t l fs u front = after_bytes (reader_of l.strict (term_of t (bounds l) fs u)) front

-- the position of a machine in the stream
abbrev pub position : Tree → Limits → Machine → Position Dictionary
position t l (idle d) = at_start d
position t l (busy fs u front) = amid (after_byte (stands_for t l fs u front))
position t l (failed c place) = at_fault c place
