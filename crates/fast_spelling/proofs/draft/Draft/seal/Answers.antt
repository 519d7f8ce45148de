-- The map takes the place of the byte that was kept for it, or none was kept.
use Rattle.std.proofs.Common.{◌≡◌, ℕ, ◌+◌, [], ◌++◌, ap, sym, subst, ◌∙◌, take, drop, arith}
use Rattle.std.specs.Prelude.{Bool, if◌then◌else◌}
use Rattle.std.proofs.lemmas.List.{take-append-drop}
use Rattle.fast_spelling.specs.meaning.Encoding.{ShortestMap}
use Rattle.fast_spelling.specs.declared.draft.Draft.{Draft}
use Rattle.fast_spelling.proofs.bytes.Bits.{closes_without}
use Rattle.fast_spelling.proofs.draft.Draft.seal.Goals as goal
use Rattle.fast_spelling.proofs.draft.Draft.seal.Goals.{then-has_map+in_ok-put_kept_map, else-has_map}

pub returns-clause-ok : goal.returns-clause-ok
returns-clause-ok c =
    let old = c.args.self.now.bytes.items in
    let place = c.args.mark.bytes in
    elim c.if-has_map.branch [
      | then-has_map+in_ok-put_kept_map w ↦
          let k = w.in_ok-put_kept_map.ensures in
          let b = drop c.args.mark.bits c.args.self.now.bits in
          let kept : place + 1 ≡ place + (if c.args.has_map then 1 else 0) = ap (λ (h : Bool). place + (if h then 1 else 0)) (sym w.if-has_map.true) in (
            k.0,
            subst (λ (h : Bool). ShortestMap h b k.0) (sym w.if-has_map.true) k.1,
            ap (λ (d : Draft). d.bytes.items) w.self-is ∙ k.2 ∙ ap (λ (n : ℕ). take place old ++ (k.0 ++ drop n old)) kept,
          )
      | else-has_map w ↦
          let none : place ≡ place + 0 = omega arith in
          let kept : place ≡ place + (if c.args.has_map then 1 else 0) = none ∙ ap (λ (h : Bool). place + (if h then 1 else 0)) (sym w.if-has_map.false) in (
            [],
            closes_without c.args.has_map (drop c.args.mark.bits c.args.self.now.bits) w.if-has_map.false,
            ap (λ (d : Draft). d.bytes.items) w.self-is ∙ sym (take-append-drop place old) ∙ ap (λ (n : ℕ). take place old ++ drop n old) kept,
          )
    ]
