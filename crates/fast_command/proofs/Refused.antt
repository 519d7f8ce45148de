-- A text that is no template set is told as such.
use Rattle.std.proofs.Common.{◌≡◌, ◌≢◌, ℕ, ◌≤◌, List, Option, length, inr, sym, ◌∙◌}
use Rattle.std.specs.Io.KnownBytes.{IsAtEnd}
use Rattle.toml.specs.Parse.{parse_document}
use Rattle.fast_notation.specs.declared.codes.StaticCode.{StaticCode}
use Rattle.fast_notation.specs.declared.codes.StaticCode.TheVariants.{S1, S2, S3, S4, S5, D8, C1, C2, C3, C4, C5, C6, Memory as NoMemory}
use Rattle.fast_notation.specs.declared.codes.StaticFault.{StaticFault}
use Rattle.fast_notation.specs.meaning.FivePasses.{IsAtFault}
use Rattle.fast_notation.specs.meaning.Firsts.{IsFirstFault}
use Rattle.fast_text.specs.meaning.Streams.{Reads}
use Rattle.fast_command.specs.declared.faults.RunFault.{RunFault}
use Rattle.fast_command.specs.declared.faults.RunFault.TheVariants.{Read, Write, BadHex, Templates as Refused, Make, Text, Encode, Memory}
use Rattle.fast_command.specs.meaning.Report.{refused_by}
use Rattle.fast_command.specs.meaning.Sets.{IsSetRefused}
use Rattle.fast_command.specs.meaning.Texts.{text_limit, IsUnread}

-- all of a text was read, and it is refused with a code
pub refused_set : (left_old left_new : Option (List ℕ)) (HasFailed : Type 0) (text : List ℕ) (f : StaticFault)
    → Reads left_old left_new text → IsAtEnd left_new → length text ≤ text_limit
    → IsAtFault (parse_document text) f.code f.template → IsFirstFault (parse_document text) f.code f.template → (code : StaticCode)
    → f.code ≡ code → IsSetRefused left_old left_new HasFailed (refused_by code f)
refused_set left_old left_new HasFailed text f read end short fault first NoMemory is = tt
refused_set left_old left_new HasFailed text f read end short fault first S1 is =
    let other : f.code ≢ NoMemory = λ none. let clash : S1 ≡ NoMemory = sym is ∙ none in absurd (cc) in
    (text, read, end, short, inr (other, fault, first))
refused_set left_old left_new HasFailed text f read end short fault first S2 is =
    let other : f.code ≢ NoMemory = λ none. let clash : S2 ≡ NoMemory = sym is ∙ none in absurd (cc) in
    (text, read, end, short, inr (other, fault, first))
refused_set left_old left_new HasFailed text f read end short fault first S3 is =
    let other : f.code ≢ NoMemory = λ none. let clash : S3 ≡ NoMemory = sym is ∙ none in absurd (cc) in
    (text, read, end, short, inr (other, fault, first))
refused_set left_old left_new HasFailed text f read end short fault first S4 is =
    let other : f.code ≢ NoMemory = λ none. let clash : S4 ≡ NoMemory = sym is ∙ none in absurd (cc) in
    (text, read, end, short, inr (other, fault, first))
refused_set left_old left_new HasFailed text f read end short fault first S5 is =
    let other : f.code ≢ NoMemory = λ none. let clash : S5 ≡ NoMemory = sym is ∙ none in absurd (cc) in
    (text, read, end, short, inr (other, fault, first))
refused_set left_old left_new HasFailed text f read end short fault first D8 is =
    let other : f.code ≢ NoMemory = λ none. let clash : D8 ≡ NoMemory = sym is ∙ none in absurd (cc) in
    (text, read, end, short, inr (other, fault, first))
refused_set left_old left_new HasFailed text f read end short fault first C1 is =
    let other : f.code ≢ NoMemory = λ none. let clash : C1 ≡ NoMemory = sym is ∙ none in absurd (cc) in
    (text, read, end, short, inr (other, fault, first))
refused_set left_old left_new HasFailed text f read end short fault first C2 is =
    let other : f.code ≢ NoMemory = λ none. let clash : C2 ≡ NoMemory = sym is ∙ none in absurd (cc) in
    (text, read, end, short, inr (other, fault, first))
refused_set left_old left_new HasFailed text f read end short fault first C3 is =
    let other : f.code ≢ NoMemory = λ none. let clash : C3 ≡ NoMemory = sym is ∙ none in absurd (cc) in
    (text, read, end, short, inr (other, fault, first))
refused_set left_old left_new HasFailed text f read end short fault first C4 is =
    let other : f.code ≢ NoMemory = λ none. let clash : C4 ≡ NoMemory = sym is ∙ none in absurd (cc) in
    (text, read, end, short, inr (other, fault, first))
refused_set left_old left_new HasFailed text f read end short fault first C5 is =
    let other : f.code ≢ NoMemory = λ none. let clash : C5 ≡ NoMemory = sym is ∙ none in absurd (cc) in
    (text, read, end, short, inr (other, fault, first))
refused_set left_old left_new HasFailed text f read end short fault first C6 is =
    let other : f.code ≢ NoMemory = λ none. let clash : C6 ≡ NoMemory = sym is ∙ none in absurd (cc) in
    (text, read, end, short, inr (other, fault, first))

-- The text was not read.
pub refused_unread : (left_old left_new : Option (List ℕ)) (HasFailed : Type 0) (e : RunFault)
    → IsUnread text_limit left_old left_new HasFailed e → IsSetRefused left_old left_new HasFailed e
refused_unread left_old left_new HasFailed Read h = h
refused_unread left_old left_new HasFailed Write h = h
refused_unread left_old left_new HasFailed (BadHex place) h = h
refused_unread left_old left_new HasFailed (Refused f) h = absurd h
refused_unread left_old left_new HasFailed (Make cause) h = h
refused_unread left_old left_new HasFailed (Text line kind) h = h
refused_unread left_old left_new HasFailed (Encode message fault) h = h
refused_unread left_old left_new HasFailed Memory h = h
