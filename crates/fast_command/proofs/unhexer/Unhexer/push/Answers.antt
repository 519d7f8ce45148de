use Rattle.std.proofs.Common.{◌∙◌, ℕ, List, length, ◌++◌, ◌∷◌, [], ◌+◌, ◌≡◌, arith}
use Rattle.std.proofs.lemmas.Grind.{common_steps}
use Rattle.fast_command.proofs.Unhexing.{blank_more}
use Rattle.fast_command.proofs.unhexer.Unhexer.push.Goals as goal
use Rattle.fast_command.proofs.unhexer.Unhexer.push.Goals.{in-Blank, in-Digit, in-Other}

-- one character more
longer : (n : ℕ) (t : List ℕ) (c : ℕ) → n ≡ length t → n + 1 ≡ length (t ++ c ∷ [])
longer n t c h = grind (arith, common_steps)

pub returns-clause-unhexes : goal.returns-clause-unhexes
returns-clause-unhexes c t v h =
    elim c.match-class_of.branch [
      | in-Blank w ↦ rw (w.self-is, w.byte-is) (record {
        len = longer c.args.self.now.len t c.args.character h.len;
        at = blank_more c.args.self.now.place t v c.args.character w.in-Blank.ensures h.at;
      })
      | in-Digit w ↦ rw (w.self-is, w.byte-is) (record {
        len = longer w.push_digit-byte.new.self.len t c.args.character (w.push_digit-byte.ensures.len ∙ h.len);
        at = w.push_digit-byte.ensures.at t v h.at;
      })
      | in-Other w ↦ rw (w.self-is, w.byte-is) (record {
        len = longer w.push_other.new.self.len t c.args.character (w.push_other.ensures.len ∙ h.len);
        at = w.push_other.ensures.at t v h.len h.at;
      })
    ]
