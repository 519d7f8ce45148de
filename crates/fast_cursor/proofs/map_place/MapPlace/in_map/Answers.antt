use Rattle.std.proofs.Common.{sym, subst, arith, ◌≡◌, ◌<◌, length, rules}
use Rattle.std.proofs.lemmas.List.{nil_from_length}
use Rattle.fast_cursor.specs.device.MapPlaces.{IsPlace}
use Rattle.fast_cursor.proofs.MapMarks.{IsShift, shift-first, shift-later, place-none, place-shifted, used-shifted}
use Rattle.fast_cursor.proofs.map_place.MapPlace.in_map.Goals as goal
use Rattle.fast_cursor.proofs.map_place.MapPlace.in_map.Goals.{then-self-eq0, else-self-eq0}

pub returns-then-is_empty-clause-place : goal.returns-then-is_empty-clause-place
returns-then-is_empty-clause-place c =
    let none : length c.args.map.now ≡ 0 = search (rules, c.if-is_empty.true) in
    subst (λ w. IsPlace w (record { word = 128; end = 8; len = 0 })) (sym (nil_from_length c.args.map.now none)) place-none

pub overflow_shl-result : goal.overflow_shl-result
overflow_shl-result c =
    let (old, len, place) = c.requires.place in
    let s : IsShift c.args.self c.if-self-eq0.used = elim c.if-self-eq0.branch [
      | then-self-eq0 w ↦ shift-first old c.args.self c.if-self-eq0.used (search (rules, w.if-self-eq0.true)) len place w.used-is
      | else-self-eq0 w ↦ shift-later old c.args.self c.if-self-eq0.used (search (rules, w.if-self-eq0.false)) place w.used-is
    ] in
    omega (arith, s.is)

pub returns-clause-place : goal.returns-clause-place
returns-clause-place c =
    let here : 0 < length c.args.map.now = search (rules, c.if-is_empty.false) in
    let (old, len, place) = c.requires.place in
    let s : IsShift c.args.self c.if-self-eq0.used = elim c.if-self-eq0.branch [
      | then-self-eq0 w ↦ shift-first old c.args.self c.if-self-eq0.used (search (rules, w.if-self-eq0.true)) len place w.used-is
      | else-self-eq0 w ↦ shift-later old c.args.self c.if-self-eq0.used (search (rules, w.if-self-eq0.false)) place w.used-is
    ] in
    place-shifted c.args.map.now c.args.self c.if-self-eq0.used c.word_at.result s c.requires.short here place.is.ends c.word_at.type_inv c.word_at.ensures

pub returns-clause-used : goal.returns-clause-used
returns-clause-used c front count =
    let here : 0 < length c.args.map.now = search (rules, c.if-is_empty.false) in
    let (old, len, place) = c.requires.place in
    let s : IsShift c.args.self c.if-self-eq0.used = elim c.if-self-eq0.branch [
      | then-self-eq0 w ↦ shift-first old c.args.self c.if-self-eq0.used (search (rules, w.if-self-eq0.true)) len place w.used-is
      | else-self-eq0 w ↦ shift-later old c.args.self c.if-self-eq0.used (search (rules, w.if-self-eq0.false)) place w.used-is
    ] in
    used-shifted c.args.map.now front c.args.self c.if-self-eq0.used c.word_at.result s here place.is.ends c.word_at.type_inv c.word_at.ensures count
