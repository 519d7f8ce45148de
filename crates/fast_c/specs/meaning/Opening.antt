-- What the functions of include/fast.h answer that make a set, a decoder or an encoder.
use Rattle.std.specs.Prelude.{◌≡◌, ◌≢◌, ◌==◌, ℕ, not, List, IsUtf8, Option, Some, Result, Ok, Err, IfOk, IfErr, OnErr}
use Rattle.toml.specs.Data.{Members}
use Rattle.toml.specs.Parse.{parse_document}
use Rattle.fast_value.specs.declared.settings.Limits.{Limits}
use Rattle.fast_tree.specs.meaning.Tree.{Tree}
use Rattle.fast_notation.specs.declared.codes.StaticCode.TheVariants.{Memory}
use Rattle.fast_notation.specs.meaning.Checked.{IsTree}
use Rattle.fast_notation.specs.meaning.FivePasses.{IsAtFault}
use Rattle.fast_notation.specs.meaning.Firsts.{IsFirstFault}
use Rattle.fast_template.specs.declared.sets.Templates.{Templates}
use Rattle.fast_template.specs.meaning.Flat.{tree_of, nodes_of}
use Rattle.fast_dict.specs.meaning.EntryTexts.{HasLongInitial}
use Rattle.fast_stream.specs.declared.faults.MakeError.TheVariants as Make
use Rattle.fast_decoder.specs.meaning.Decoding.{AreBadLimits}
use Rattle.fast_records.specs.declared.status.Status.{Status}
use Rattle.fast_records.specs.declared.status.Status.TheVariants as To
use Rattle.fast_records.specs.meaning.Status.{status_number}

-- the limits of a call
abbrev pub limits_of : ℕ → ℕ → ℕ → ℕ → Limits
limits_of strict max_text max_elements max_total = record {
  strict = not (strict == 0);
  max_text = max_text;
  max_elements = max_elements;
  max_total = max_total;
}

-- the text is UTF-8, and the set stands for the tree of its document
abbrev pub IsSetOf : List ℕ → Templates → Type 0
IsSetOf text t = IsUtf8 text × (document : Members) × (parse_document text ≡ Some document) × IsTree document (tree_of t)

-- no set stands for the tree of the text's document
abbrev pub HasNoTree : List ℕ → Type 0
HasNoTree text = (document : Members) (t : Tree) → parse_document text ≡ Some document → ¬ (IsTree document t)

-- Why there is no set of a text: it is not UTF-8; it has the fault of the first pass that finds one; or memory was refused.
abbrev pub IsNoSet : List ℕ → Status → Type 0
IsNoSet text To.NotText = ¬ (IsUtf8 text)
IsNoSet text (To.Set c) = IsUtf8 text × (template : Option ℕ) × IsAtFault (parse_document text) c template
    × IsFirstFault (parse_document text) c template × (c ≢ Memory → HasNoTree text)
IsNoSet text (To.Make Make.Memory) = IsUtf8 text
IsNoSet text s = ⊥

-- Why no decoder or encoder is made: the limit on texts is out of range; then an initial value is longer; then memory was refused.
abbrev pub IsNotMade : Templates → Limits → Status → Type 0
IsNotMade t l (To.Make Make.BadLimits) = AreBadLimits l
IsNotMade t l (To.Make Make.InitialTooLong) = ¬ (AreBadLimits l) × HasLongInitial l.max_text (nodes_of t)
IsNotMade t l (To.Make Make.Memory) = ¬ (AreBadLimits l) × ¬ (HasLongInitial l.max_text (nodes_of t))
IsNotMade t l s = ⊥

-- under these limits a decoder or encoder can be made
abbrev pub CanBeMade : Templates → Limits → Type 0
CanBeMade t l = ¬ (AreBadLimits l) × ¬ (HasLongInitial l.max_text (nodes_of t))

-- the status of what is made, or why it is not
abbrev pub opened : {A : Type 0} → Result A Status → Status
opened (Ok a) = To.Done
opened (Err s) = s

-- What a call answers that makes something: it is made; or the status says why it is not, and the place of its pointer is as it was.
pub record Opens {A P : Type 0} (Made : A → Type 0) (Refused : Status → Type 0) (old new : P) (status : ℕ) : Type 0 where
  pub result : Result A Status
  pub ok : IfOk result Made
  pub err : IfErr result Refused
  pub told : status ≡ status_number (opened result)
  pub unchanged : OnErr result (new ≡ old)
