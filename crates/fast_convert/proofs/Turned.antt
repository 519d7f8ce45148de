-- From what is written of messages to what a run has done.
use Rattle.std.proofs.Common.{◌≡◌, ℕ, Bool, List, [], Option, Result, Ok, Err, inr, append-nil, sym, subst}
use Rattle.fast_value.specs.declared.settings.Limits.{Limits}
use Rattle.fast_value.specs.meaning.Messages.{MessageData}
use Rattle.fast_tree.specs.meaning.Tree.{Tree}
use Rattle.fast_template.specs.declared.sets.Templates.{Templates}
use Rattle.fast_template.specs.meaning.Flat.{tree_of}
use Rattle.fast_dict.specs.meaning.Dictionary.{Dictionary, fresh}
use Rattle.fast_text.specs.meaning.Streams.{Appends, AppendsFront}
use Rattle.fast_text.proofs.Writing.{appends_no_more}
use Rattle.fast_command.specs.declared.faults.RunFault.{RunFault}
use Rattle.fast_command.specs.declared.faults.RunFault.TheVariants.{Read, Write, BadHex, Templates as Refused, Make, Text, Encode, Memory}
use Rattle.fast_encoder.specs.meaning.Encoders.{EncoderData, tree}
use Rattle.fast_messages.specs.meaning.Reading.{Says}
use Rattle.fast_convert.specs.meaning.Converting.{AreWritten, IsWhole, IsTurned, IsConverted}

-- what the target keeps is handed on
pub handed_on : (t : Tree) (l : Limits) (hex : Bool) (d : Dictionary) (ms : List MessageData) (o mid n : Option (List ℕ)) (F F' : Type 0)
    (r : Result (Unit {0}) RunFault) → Appends mid n [] → (F → F')
    → AreWritten t l hex d ms o mid F r → AreWritten t l hex d ms o n F' r
handed_on t l hex d ms o mid n F F' (Ok u) none failed h = (h.0, h.1, h.2, appends_no_more o mid n _ h.3 none)
handed_on t l hex d ms o mid n F F' (Err (Encode k fault)) none failed h = (h.0, h.1, h.2, h.3, h.4, h.5, h.6, h.7, appends_no_more o mid n _ h.8 none)
handed_on t l hex d ms o mid n F F' (Err Write) none failed h =
    (h.0, h.1, h.2, h.3, h.4, record { front = h.5.front; rest = h.5.rest; is = h.5.is; added = appends_no_more o mid n _ h.5.added none }, failed h.6)
handed_on t l hex d ms o mid n F F' (Err Memory) none failed h = (h.0, h.1, h.2, h.3, h.4, appends_no_more o mid n _ h.5 none)
handed_on t l hex d ms o mid n F F' (Err Read) none failed h = absurd h
handed_on t l hex d ms o mid n F F' (Err (BadHex place)) none failed h = absurd h
handed_on t l hex d ms o mid n F F' (Err (Refused fault)) none failed h = absurd h
handed_on t l hex d ms o mid n F F' (Err (Make cause)) none failed h = absurd h
handed_on t l hex d ms o mid n F F' (Err (Text line kind)) none failed h = absurd h

-- all of it was added, and nothing is left
whole_front : (o n : Option (List ℕ)) (a : List ℕ) → Appends o n a → AppendsFront o n a
whole_front o n a h = record { front = a; rest = []; is = sym (append-nil a); added = h }

-- the target fails at the end
pub not_handed_on : (t : Tree) (l : Limits) (hex : Bool) (d : Dictionary) (ms : List MessageData) (o mid n : Option (List ℕ))
    (F F' : Type 0) (r : Result (Unit {0}) RunFault) → Appends mid n [] → F'
    → AreWritten t l hex d ms o mid F r → AreWritten t l hex d ms o n F' (Err Write)
not_handed_on t l hex d ms o mid n F F' (Ok u) none failed h =
    (ms, [], h.0, h.1, record { all_are = sym (append-nil ms); coded = h.2 }, whole_front o n _ (appends_no_more o mid n _ h.3 none), failed)
not_handed_on t l hex d ms o mid n F F' (Err (Encode k fault)) none failed h =
    (h.0, _, h.3, h.4, h.5, whole_front o n _ (appends_no_more o mid n _ h.8 none), failed)
not_handed_on t l hex d ms o mid n F F' (Err Write) none failed h =
    (h.0, h.1, h.2, h.3, h.4, record { front = h.5.front; rest = h.5.rest; is = h.5.is; added = appends_no_more o mid n _ h.5.added none }, failed)
not_handed_on t l hex d ms o mid n F F' (Err Memory) none failed h =
    (h.0, h.1, h.2, h.3, h.4, whole_front o n _ (appends_no_more o mid n _ h.5 none), failed)
not_handed_on t l hex d ms o mid n F F' (Err Read) none failed h = absurd h
not_handed_on t l hex d ms o mid n F F' (Err (BadHex place)) none failed h = absurd h
not_handed_on t l hex d ms o mid n F F' (Err (Refused fault)) none failed h = absurd h
not_handed_on t l hex d ms o mid n F F' (Err (Make cause)) none failed h = absurd h
not_handed_on t l hex d ms o mid n F F' (Err (Text line kind)) none failed h = absurd h

-- what was written of the messages of a text is what a run has done
pub turned : (set : Templates) (l : Limits) (hex : Bool) (lo ln o n : Option (List ℕ)) (R W : Type 0) (r : Result (Unit {0}) RunFault)
    → (h : IsTurned (tree_of set) l hex lo ln o n W r) → IsConverted set l hex lo ln o n R W r
turned set l hex lo ln o n R W (Ok u) h = h
turned set l hex lo ln o n R W (Err (Encode k fault)) h = h
turned set l hex lo ln o n R W (Err Write) h = h
turned set l hex lo ln o n R W (Err Memory) h = inr h
turned set l hex lo ln o n R W (Err Read) h = absurd h.written
turned set l hex lo ln o n R W (Err (BadHex place)) h = absurd h.written
turned set l hex lo ln o n R W (Err (Refused fault)) h = absurd h.written
turned set l hex lo ln o n R W (Err (Make cause)) h = absurd h.written
turned set l hex lo ln o n R W (Err (Text line kind)) h = absurd h.written

-- what a new encoder of the set and the limits has written of messages
pub from_new : (set : Templates) (l : Limits) (hex : Bool) (e : EncoderData) (ms : List MessageData) (o mid : Option (List ℕ)) (F : Type 0)
    (r : Result (Unit {0}) RunFault) → tree e ≡ tree_of set → e.limits ≡ l → e.dictionary ≡ fresh (tree_of set).entries
    → AreWritten (tree e) e.limits hex e.dictionary ms o mid F r → AreWritten (tree_of set) l hex (fresh (tree_of set).entries) ms o mid F r
from_new set l hex e ms o mid F r trees limits dictionary h =
    subst (λ (d : Dictionary). AreWritten (tree_of set) l hex d ms o mid F r) dictionary
    (subst (λ (k : Limits). AreWritten (tree_of set) k hex e.dictionary ms o mid F r) limits
    (subst (λ (t : Tree). AreWritten t e.limits hex e.dictionary ms o mid F r) trees h))

-- the messages of the whole text were written, and what the target keeps was handed on
pub all_handed_on : (set : Templates) (l : Limits) (hex : Bool) (lo ln o mid n : Option (List ℕ)) (R F F' : Type 0)
    (r : Result (Unit {0}) RunFault) (text : List ℕ) (ms : List MessageData)
    → IsWhole lo ln text → Says (tree_of set) text ms → Appends mid n [] → (F → F')
    → AreWritten (tree_of set) l hex (fresh (tree_of set).entries) ms o mid F r → IsConverted set l hex lo ln o n R F' r
all_handed_on set l hex lo ln o mid n R F F' r text ms whole says none failed h =
    turned set l hex lo ln o n R F' r (record {
      text = text;
      messages = ms;
      whole = whole;
      says = says;
      written = handed_on (tree_of set) l hex (fresh (tree_of set).entries) ms o mid n F F' r none failed h;
    })

-- the messages of the whole text were written, and the target fails at the end
pub all_not_handed_on : (set : Templates) (l : Limits) (hex : Bool) (lo ln o mid n : Option (List ℕ)) (F F' : Type 0)
    (r : Result (Unit {0}) RunFault) (text : List ℕ) (ms : List MessageData)
    → IsWhole lo ln text → Says (tree_of set) text ms → Appends mid n [] → F'
    → AreWritten (tree_of set) l hex (fresh (tree_of set).entries) ms o mid F r → IsTurned (tree_of set) l hex lo ln o n F' (Err Write)
all_not_handed_on set l hex lo ln o mid n F F' r text ms whole says none failed h =
    record {
      text = text;
      messages = ms;
      whole = whole;
      says = says;
      written = not_handed_on (tree_of set) l hex (fresh (tree_of set).entries) ms o mid n F F' r none failed h;
    }
