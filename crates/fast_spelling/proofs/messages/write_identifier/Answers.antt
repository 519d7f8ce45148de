-- The bit is clear if the entry holds the identifier; else the identifier is sent and kept.
use Rattle.std.proofs.Common.{◌<◌, ◌^◌, ◌++◌, ℕ, List, [], ◌∷◌, refl, ap, sym, subst, ◌∙◌, arith}
use Rattle.std.specs.Prelude.{true, false, pos, Some}
use Rattle.std.proofs.lemmas.List.{append-nil}
use Rattle.fast_wire.specs.meaning.Shortest.{IsShortest}
use Rattle.fast_value.specs.declared.kinds.Kind.TheVariants.{UInt32}
use Rattle.fast_value.specs.meaning.Kinds.{U}
use Rattle.fast_tree.specs.meaning.Tree.{identifier}
use Rattle.fast_dict.specs.meaning.Dictionary.{PreviousData, assigned, write_at}
use Rattle.fast_spelling.proofs.encodings.Whole.{identifier_sent}
use Rattle.fast_spelling.proofs.rules.Usual.{copy_passed}
use Rattle.fast_spelling.proofs.messages.write_identifier.Goals as goal

-- an entry that holds the number
abbrev holding : ℕ → PreviousData
holding n = assigned UInt32 (U n)

pub returns-then-holds-clause-ok : goal.returns-then-holds-clause-ok
returns-then-holds-clause-ok c =
    let fits = c.ranges.id.fits in
    let small : c.args.id < 2 ^ 32 = omega (arith, fits) in (
      false ∷ [],
      [],
      c.in_ok-push_bit.ensures.bits,
      c.push_bit.ensures.bytes ∙ sym (append-nil c.args.draft.now.bytes.items),
      copy_passed c.args.limits identifier c.args.ledger.now.now (U c.args.id) refl (λ q. absurd (cc q)) ((0, small), omega arith)
          (c.if-holds.ensures.0 refl ∙ ap holding c.from-number.ensures),
    )

pub returns-clause-ok : goal.returns-clause-ok
returns-clause-ok c =
    let d = c.args.ledger.now.now in
    let w = c.in_ok-write_unsigned_as.ensures in
    let fits = c.ranges.id.fits in
    let small : c.args.id < 2 ^ 32 = omega (arith, fits) in (
      true ∷ [],
      w.0,
      c.in_ok-push_bit-2.ensures.bits,
      w.1 ∙ ap (λ (z : List ℕ). z ++ w.0) c.push_bit-2.ensures.bytes,
      identifier_sent c.args.limits d c.set.new.self.now c.args.id w.0 small
          (λ e. absurd (cc (c.if-holds.ensures.1 (e ∙ ap holding (sym c.from-number.ensures)))))
          (subst (λ (n : ℕ). IsShortest false false (Some (pos n)) w.0) c.from-number.ensures w.2)
          (c.in_ok-set.ensures.now ∙ ap (λ (n : ℕ). write_at identifier.entry (holding n) d) c.from-number.ensures),
    )
