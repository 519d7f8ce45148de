-- A map is put before what stands there, and has the bits.
use Rattle.std.proofs.Common.{[], ◌∷◌, inr, refl, subst, ◌∙◌, take, drop, append_assoc}
use Rattle.std.specs.Prelude.{true, IfSome, IfNone}
use Rattle.fast_wire.specs.meaning.Maps.{bits, IsMap}
use Rattle.fast_spelling.specs.meaning.Encoding.{SameBits}
use Rattle.fast_spelling.specs.meaning.Refusals.{HaveNoMap}
use Rattle.fast_spelling.proofs.draft.put_map.Goals as goal

pub insert-requires : goal.insert-requires
insert-requires c = c.requires.place

pub insert-requires-in-Some-2 : goal.insert-requires-in-Some-2
insert-requires-in-Some-2 c = c.requires.place

pub returns-in_ok-insert-in-Some-clause-ok : goal.returns-in_ok-insert-in-Some-clause-ok
returns-in_ok-insert-in-Some-clause-ok c = (
  c.in-Some.byte ∷ [],
  (c.in-Some.ensures.map, c.in-Some.ensures.bits),
  c.in_ok-insert-in-Some.ensures ∙ append_assoc (take c.args.mark.bytes c.args.bytes.now.items) (c.in-Some.byte ∷ [])
      (drop c.args.mark.bytes c.args.bytes.now.items),
)

pub returns-in_ok-insert-in-Some-2-clause-ok : goal.returns-in_ok-insert-in-Some-2-clause-ok
returns-in_ok-insert-in-Some-2-clause-ok c =
    let map = c.in-Some-2.map in
    let b = (drop c.args.mark.bits c.args.presence.now) in
    let is = c.in-Some-2.is in
    let form : IsMap true map.items = subst (λ (r : _). IfSome r (λ m. IsMap true m.items)) is c.in_ok-map-in-None.ensures.map in
    let same : SameBits (bits map.items) b = subst (λ (r : _). IfSome r (λ m. SameBits (bits m.items) b)) is c.in_ok-map-in-None.ensures.bits in (
      map.items,
      (form, same),
      (rw c.as_slice.ensures.value at c.in_ok-insert-in-Some-2.ensures)
          ∙ append_assoc (take c.args.mark.bytes c.args.bytes.now.items) map.items (drop c.args.mark.bytes c.args.bytes.now.items),
    )

pub returns-in-None-2-clause-err : goal.returns-in-None-2-clause-err
returns-in-None-2-clause-err c = inr (
  refl,
  subst (λ (r : _). IfNone r (HaveNoMap (drop c.args.mark.bits c.args.presence.now))) c.in-None-2.is
      c.in_ok-map-in-None.ensures.none,
)
