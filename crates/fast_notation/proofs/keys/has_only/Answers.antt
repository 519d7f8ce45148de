use Rattle.std.proofs.Common.{◌≡◌, map, sym, ap, ◌∙◌, false, ◌&&◌, string_bytes}
use Rattle.std.proofs.lemmas.Map.Iter.{rest_more, rest_all}
use Rattle.std.specs.Map.Iter.{deref}
use Rattle.fast_notation.specs.device.Reading.{is_one_of}
use Rattle.fast_notation.proofs.texts.TableKeys.{only_strings, has_only-strings}
use Rattle.fast_notation.proofs.keys.has_only.Goals as goal

pub returns-then-not-is_one_of : goal.returns-then-not-is_one_of
returns-then-not-is_one_of c =
    let front = rest_more deref c.loop-key.key-iterator c.next.new.self c.next.result c.in-Some.key c.in-Some.is c.next.ensures.steps in
    let ks = map (λ k. k.now) c.args.keys.now in
    let key : false ≡ is_one_of ks (string_bytes c.in-Some.key.now) = rw c.as_str.ensures.value at c.if-not-is_one_of.ensures in
    ap (λ b. b && only_strings ks c.next.new.self) key ∙ sym (ap (only_strings ks) front) ∙ c.loop-key.invariant.left
    ∙ sym (has_only-strings ks c.args.table.now.entries)

pub returns : goal.returns
returns c =
    let end = rest_all deref c.loop-key.key-iterator c.next.new.self c.next.result c.in-None.is c.next.ensures.steps in
    rw end at c.loop-key.invariant.left ∙ sym (has_only-strings (map (λ k. k.now) c.args.keys.now) c.args.table.now.entries)
