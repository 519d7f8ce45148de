-- What is known of the value of a line that is a field's.
use Rattle.std.proofs.Common.{◌≡◌, ℕ, List, sym, ◌∙◌, ap}
use Rattle.std.specs.Prelude.{Option, Some, None}
use Rattle.fast_value.specs.declared.values.Value.{Value}
use Rattle.fast_value.specs.meaning.Values.{value_data}
use Rattle.fast_lines.specs.declared.forms.Line.{Line}
use Rattle.fast_lines.specs.declared.forms.Line.TheVariants as Lent
use Rattle.fast_lines.specs.meaning.Forms.{field}
use Rattle.fast_lines.specs.meaning.Lines.{written}
use Rattle.fast_messages.specs.device.Ahead.{IsValueOf, TellsValue, TellsNone}

value_text : (m n : ℕ) (a b name text : List ℕ) → Some (field m a b) ≡ Some (field n name text) → b ≡ text
value_text m n a b name text e = cc (e)

pub told : (l : Line) (value : Option Value) → IsValueOf l value → TellsValue (Some l) value
told (Lent.Field m a b) (Some w) h n name text v e is = sym (value_text m n a.now b.now name text e) ∙ h
    ∙ (let same : w ≡ v = cc (is) in ap (λ (z : Value). written (value_data z)) same)
told (Lent.Field m a b) None h n name text v e is = absurd (cc (is))
told (Lent.Message a) value h n name text v e is = absurd (cc (e))
told (Lent.Group m a) value h n name text v e is = absurd (cc (e))
told Lent.GroupEnd value h n name text v e is = absurd (cc (e))
told (Lent.Sequence m a c) value h n name text v e is = absurd (cc (e))
told Lent.Element value h n name text v e is = absurd (cc (e))
told Lent.ElementEnd value h n name text v e is = absurd (cc (e))
told Lent.SequenceEnd value h n name text v e is = absurd (cc (e))
told Lent.MessageEnd value h n name text v e is = absurd (cc (e))

pub untold : (l : Line) (value : Option Value) → IsValueOf l value → TellsNone (Some l) value
untold (Lent.Field m a b) None h n name text v e is held same = h v held (value_text m n a.now b.now name text e ∙ same)
untold (Lent.Field m a b) (Some w) h n name text v e is held same = absurd (cc (is))
untold (Lent.Message a) value h n name text v e is held same = absurd (cc (e))
untold (Lent.Group m a) value h n name text v e is held same = absurd (cc (e))
untold Lent.GroupEnd value h n name text v e is held same = absurd (cc (e))
untold (Lent.Sequence m a c) value h n name text v e is held same = absurd (cc (e))
untold Lent.Element value h n name text v e is held same = absurd (cc (e))
untold Lent.ElementEnd value h n name text v e is held same = absurd (cc (e))
untold Lent.SequenceEnd value h n name text v e is held same = absurd (cc (e))
untold Lent.MessageEnd value h n name text v e is held same = absurd (cc (e))
