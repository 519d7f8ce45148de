-- The template set of a call.
use Rattle.std.specs.Prelude.{◌≡◌, ◌≢◌, ◌⊎◌, ℕ, ◌≤◌, List, length, IsUtf8, Option, Some, None}
use Rattle.std.specs.Io.KnownBytes.{IsAtEnd}
use Rattle.toml.specs.Data.{Members}
use Rattle.toml.specs.Parse.{parse_document}
use Rattle.fast_notation.specs.declared.codes.StaticCode.TheVariants.{S1, Memory as NoMemory}
use Rattle.fast_notation.specs.declared.codes.StaticFault.{StaticFault}
use Rattle.fast_notation.specs.meaning.Checked.{IsTree}
use Rattle.fast_notation.specs.meaning.FivePasses.{IsAtFault}
use Rattle.fast_notation.specs.meaning.Firsts.{IsFirstFault}
use Rattle.fast_template.specs.declared.sets.Templates.{Templates}
use Rattle.fast_template.specs.meaning.Flat.{tree_of}
use Rattle.fast_text.specs.meaning.Streams.{Reads}
use Rattle.fast_command.specs.declared.faults.RunFault.{RunFault}
use Rattle.fast_command.specs.declared.faults.RunFault.TheVariants.{Templates as Refused}
use Rattle.fast_command.specs.meaning.Texts.{text_limit, IsUnread}

-- the set stands for the tree of the document that a text is
abbrev pub IsSetOf : List ℕ → Templates → Type 0
IsSetOf text t = (document : Members) × (parse_document text ≡ Some document) × IsTree document (tree_of t)

-- what is wrong with a text that is no template set: it is not UTF-8, or has the fault of the first pass that finds one
abbrev pub IsNoSet : List ℕ → StaticFault → Type 0
IsNoSet text f =
    (¬ (IsUtf8 text)) × (f ≡ record { code = S1; template = None })
    ⊎ (f.code ≢ NoMemory) × IsAtFault (parse_document text) f.code f.template × IsFirstFault (parse_document text) f.code f.template

-- The whole text of a set was read.
pub record IsSetRead (left_old left_new : Option (List ℕ)) (t : Templates) : Type 0 where
  pub text : List ℕ
  pub read : Reads left_old left_new text
  pub whole : IsAtEnd left_new
  pub short : length text ≤ text_limit
  pub set : IsSetOf text t

-- Why there is no set: the text was not read; or all of it was, and it is none.
abbrev pub IsSetRefused : (left_old left_new : Option (List ℕ)) → (HasFailed : Type 0) → RunFault → Type 0
IsSetRefused left_old left_new HasFailed (Refused f) = (text : List ℕ) × Reads left_old left_new text × IsAtEnd left_new
    × (length text ≤ text_limit) × IsNoSet text f
IsSetRefused left_old left_new HasFailed fault = IsUnread text_limit left_old left_new HasFailed fault
