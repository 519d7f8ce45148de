use Rattle.std.proofs.Common.{◌≡◌, ap, ◌∙◌}
use Rattle.fast_value.specs.meaning.Initial.{IsInitial}
use Rattle.std.proofs.lemmas.Str.Ascii.{All-from_ascii}
use Rattle.fast_value.specs.meaning.Kinds.{AsciiText}
use Rattle.fast_value.specs.declared.kinds.Kind.TheVariants.{UInt32, Int32, UInt64, Int64, Decimal}
use Rattle.fast_value.proofs.initial.parse_initial.Goals as goal

pub returns-in-UInt32-clause-none : goal.returns-in-UInt32-clause-none
returns-in-UInt32-clause-none c e v h =
    let i : IsInitial UInt32 c.args.text.now v = rw c.in-UInt32.is at h in
    c.parse_unsigned.ensures.none e i.0 (rw c.as_bytes.ensures.value i.1)

pub returns-in-Int32-clause-none : goal.returns-in-Int32-clause-none
returns-in-Int32-clause-none c e v h =
    let i : IsInitial Int32 c.args.text.now v = rw c.in-Int32.is at h in
    c.parse_integer.ensures.none e i.0 (rw c.as_bytes-in-Int32.ensures.value i.1)

pub returns-in-UInt64-clause-none : goal.returns-in-UInt64-clause-none
returns-in-UInt64-clause-none c e v h =
    let i : IsInitial UInt64 c.args.text.now v = rw c.in-UInt64.is at h in
    c.parse_unsigned-in-UInt64.ensures.none e i.0 (rw c.as_bytes-in-UInt64.ensures.value i.1)

pub returns-in-Int64-clause-none : goal.returns-in-Int64-clause-none
returns-in-Int64-clause-none c e v h =
    let i : IsInitial Int64 c.args.text.now v = rw c.in-Int64.is at h in
    c.parse_integer-in-Int64.ensures.none e i.0 (rw c.as_bytes-in-Int64.ensures.value i.1)

pub returns-in-None-clause-none : goal.returns-in-None-clause-none
returns-in-None-clause-none c _ v h =
    let i : IsInitial Decimal c.args.text.now v = rw c.in-Decimal.is at h in
    c.in-None.ensures.none i.0 i.1 (rw c.as_bytes-in-Decimal.ensures.value i.2)

pub returns-in_ok-from_slice-in-Ascii-clause-value :
    goal.returns-in_ok-from_slice-in-Ascii-clause-value
returns-in_ok-from_slice-in-Ascii-clause-value c =
    let items : c.in_ok-from_slice-in-Ascii.field-0.items ≡ c.args.text.now = c.in_ok-from_slice-in-Ascii.ensures.items ∙ c.as_bytes-in-Ascii.ensures.value in
    rw c.in-Ascii.is (All-from_ascii c.args.text.now c.if-not-is_ascii.ensures.cases, ap AsciiText items)
