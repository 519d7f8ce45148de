use Rattle.std.proofs.Common.{◌≡◌, [], ◌∙◌, ap, subst, sym, append-nil}
use Rattle.std.specs.Int.{w64, from_le_bytes}
use Rattle.std.proofs.lemmas.List.Elements.{All-nil}
use Rattle.fast_wire.specs.device.Words.{IsFrontWord}
use Rattle.fast_fronts.proofs.words.front_word.Goals as goal

pub returns-in-Some : goal.returns-in-Some
returns-in-Some c =
    let first = c.in-Some.ensures.cases in
    record {
      zeros = [];
      none = All-nil (λ byte. byte ≡ 0);
      front = subst (IsFrontWord c.from_le_bytes.result) (sym (append-nil c.args.bytes.now)) (record {
        enough = first.enough;
        same = c.from_le_bytes.ensures ∙ ap (from_le_bytes w64) first.same;
      });
    }
