-- A later place has less of the text ahead.
use Rattle.std.proofs.Common.{◌≡◌, suc, ◌+◌, ◌<◌, ◌≤◌, List, ◌∷◌, length, ap, ◌∙◌, arith}
use Rattle.std.proofs.lemmas.List.{length-append}
use Rattle.fast_tree.specs.meaning.Tree.{Tree}
use Rattle.fast_stream.specs.meaning.Events.{EventData}
use Rattle.fast_lines.specs.meaning.Forms.{text_of_line}
use Rattle.fast_lines.specs.meaning.Lines.{lines}
use Rattle.fast_messages.specs.declared.cursors.Cursor.{Cursor}
use Rattle.fast_messages.specs.device.Cursors.{ahead, Advances, IsSaid}

-- behind a line
pub advance_shorter : (c next : Cursor) → Advances c next → length (ahead next) < length (ahead c)
advance_shorter c next h =
    let all : length (ahead c) ≡ length (text_of_line h.line) + suc (length (ahead next)) = ap length h.text
    ∙ length-append (text_of_line h.line) (0x0A ∷ ahead next) in
    omega (arith, all)

-- behind the lines of some events
pub said_shorter : (t : Tree) (es : List EventData) (c next : Cursor) → IsSaid t es c next → length (ahead next) ≤ length (ahead c)
said_shorter t es c next h =
    let all : length (ahead c) ≡ length (lines t es) + length (ahead next) = ap length h.text ∙ length-append (lines t es) (ahead next) in
    omega (arith, all)
