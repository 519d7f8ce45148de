-- The bit goes to the word, after those that were in it have gone to the vector.
use Rattle.std.proofs.Common.{◌≡◌, ◌++◌, ◌∷◌, [], List, ap, sym, ◌∙◌}
use Rattle.std.specs.Prelude.{Bool}
use Rattle.std.proofs.lemmas.List.{append-nil, append_assoc}
use Rattle.fast_spelling.specs.declared.bits.Bits.TheInside.{Inside}
use Rattle.fast_spelling.specs.device.Presence.{bits_after}
use Rattle.fast_spelling.proofs.bytes.Presence.{after_one}
use Rattle.fast_spelling.proofs.bits.Bits.push.Goals as goal
use Rattle.fast_spelling.proofs.bits.Bits.push.Goals.{then-self-ge-FULL+in_ok-spill, else-self-ge-FULL}

pub returns : goal.returns
returns c =
    let mid = c.if-self-ge-FULL.self-inside in
    let old = c.self.inside in
    let all : List Bool = old.more.items ++ bits_after old.word in
    let same : mid.more.items ++ bits_after mid.word ≡ all = elim c.if-self-ge-FULL.branch [
      | then-self-ge-FULL+in_ok-spill w ↦
          ap (λ (i : Inside). i.more.items ++ bits_after i.word) w.self-inside-is
          ∙ ap (λ (l : List Bool). l ++ bits_after 1) w.in_ok-spill.ensures ∙ ap (λ (l : List Bool). all ++ l) after_one ∙ append-nil all
      | else-self-ge-FULL w ↦ ap (λ (i : Inside). i.more.items ++ bits_after i.word) w.self-inside-is
    ] in
    ap (λ (l : List Bool). mid.more.items ++ l) c.with_bit-self-inside.ensures.bits
    ∙ sym (append_assoc mid.more.items (bits_after mid.word) (c.args.bit ∷ []))
    ∙ ap (λ (l : List Bool). l ++ c.args.bit ∷ []) (same ∙ c.self.view_is)
