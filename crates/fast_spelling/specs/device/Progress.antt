-- How far the slots of a body, or the elements of a sequence, are written.
use Rattle.std.specs.Prelude.{◌≡◌, ℕ, Bool, List, ◌++◌}
use Rattle.fast_value.specs.declared.settings.Limits.{Limits}
use Rattle.fast_value.specs.meaning.Messages.{Slots, Elements}
use Rattle.fast_tree.specs.meaning.Tree.{Body}
use Rattle.fast_dict.specs.meaning.Dictionary.{Dictionary}
use Rattle.fast_spelling.specs.declared.draft.Draft.{Draft}
use Rattle.fast_spelling.specs.declared.faults.EncodeFault.{EncodeFault}
use Rattle.fast_spelling.specs.meaning.Encoding.{EncodesBody, EncodesSegment, EncodesElements}
use Rattle.fast_spelling.specs.meaning.Refusals.{RefusesBody, RefusesSegment, RefusesElements}

-- Of a whole body and its slots this rest is left: what the rest says, with what was appended in front, is what the whole says.
pub record IsWritten (l : Limits) (whole : Body) (slots : Slots) (d : Dictionary) (old : Draft) (rest : Body) (left : Slots)
    (now : Dictionary) (new : Draft) : Type 0 where
  pub bits : List Bool
  pub bytes : List ℕ
  pub bits_are : new.bits ≡ old.bits ++ bits
  pub bytes_are : new.bytes.items ≡ old.bytes.items ++ bytes
  pub goes : (b : List Bool) (w : List ℕ) (d' : Dictionary) → EncodesBody l rest now left b w d' → EncodesBody l whole d slots (bits ++ b) (bytes ++ w) d'
  pub refuses : (c : EncodeFault) → RefusesBody l rest now left c → RefusesBody l whole d slots c

-- The same of elements, which leave the bits of the segment around them.
pub record AreWritten (l : Limits) (body : Body) (rows : Elements) (d : Dictionary) (old : Draft) (left : Elements) (now : Dictionary)
    (new : Draft) : Type 0 where
  pub bytes : List ℕ
  pub bits_are : new.bits ≡ old.bits
  pub bytes_are : new.bytes.items ≡ old.bytes.items ++ bytes
  pub goes : (w : List ℕ) (d' : Dictionary) → EncodesElements (EncodesSegment body (EncodesBody l body)) now left w d'
      → EncodesElements (EncodesSegment body (EncodesBody l body)) d rows (bytes ++ w) d'
  pub refuses : (c : EncodeFault) → RefusesElements (EncodesSegment body (EncodesBody l body))
      (RefusesSegment body (EncodesBody l body) (RefusesBody l body)) now left c
      → RefusesElements (EncodesSegment body (EncodesBody l body)) (RefusesSegment body (EncodesBody l body) (RefusesBody l body)) d rows c
