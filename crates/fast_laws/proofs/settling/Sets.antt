-- A set that was read is one from which messages are encoded.
use Rattle.std.proofs.Common.{ℕ, suc, ◌<◌, ◌≤◌, ◌^◌, List, [], ◌∷◌, sym, subst}
use Rattle.std.specs.Prelude.{All, Option, Some, None, IfSome}
use Rattle.std.proofs.lemmas.List.Elements.{All-nil, All-cons, All-head, All-tail}
use Rattle.toml.specs.Data.{Items, Members}
use Rattle.fast_value.specs.declared.settings.Limits.{Limits}
use Rattle.fast_tree.specs.meaning.AsWritten.{DeclaredTemplate}
use Rattle.fast_tree.specs.meaning.Entries.{Entry}
use Rattle.fast_tree.specs.meaning.Tree.{TemplateData, Tree}
use Rattle.fast_notation.specs.meaning.Checked.{IsTree}
use Rattle.fast_notation.specs.meaning.InPlace.{AreInPlace}
use Rattle.fast_notation.specs.meaning.Notation.{IdAt, WritesTemplates}
use Rattle.fast_template.specs.declared.sets.Templates.{Templates}
use Rattle.fast_template.specs.meaning.Flat.{nodes_of, tree_of}
use Rattle.fast_template.proofs.SetTrees.{distinct_ids}
use Rattle.fast_dict.specs.meaning.Dictionary.{fresh}
use Rattle.fast_dict.specs.meaning.EntryTexts.{HasLongInitial}
use Rattle.fast_spelling.proofs.again.MessagesAgain.{sound_fresh}
use Rattle.fast_laws.specs.meaning.Settling.{HasShortIds, CanEncode}
use Rattle.fast_laws.proofs.nodes.Granting.{set_is_granted}

-- the identifier, if there is one, is a uInt32
abbrev IsShort : Option ℕ → Type 0
IsShort i = IfSome i (λ id. id < 2 ^ 32)

id_short : (ms : Members) (i : Option ℕ) → IdAt ms i → IsShort i
id_short ms None h = tt
id_short ms (Some id) h = h.1

written_short : (xs : Items) (ts : List DeclaredTemplate) → WritesTemplates xs ts → All (λ t. IsShort t.id) ts
written_short xs [] h = All-nil (λ t. IsShort t.id)
written_short xs (t ∷ ts) (ms, rest, e, w, h) = All-cons (λ t. IsShort t.id) t ts (id_short ms t.id w.id) (written_short rest ts h)

placed_short : (all : List DeclaredTemplate) (entries : List Entry) (k : ℕ) (ts : List DeclaredTemplate) (n : ℕ) (us : List TemplateData)
    (m : ℕ) → AreInPlace all entries k ts n us m → All (λ t. IsShort t.id) ts → All (λ u. IsShort u.id) us
placed_short all entries k [] n [] m h short = All-nil (λ u. IsShort u.id)
placed_short all entries k [] n (u ∷ us) m h short = absurd h
placed_short all entries k (t ∷ ts) n [] m h short = absurd h
placed_short all entries k (t ∷ ts) n (u ∷ us) m (mid, _, id, _, _, rest) short =
    All-cons (λ u. IsShort u.id) u us (subst IsShort (sym id) (All-head (λ t. IsShort t.id) t ts short))
    (placed_short all entries (suc k) ts mid us m rest (All-tail (λ t. IsShort t.id) t ts short))

short_ids : (document : Members) (t : Tree) → IsTree document t → HasShortIds t
short_ids document t h = let (xs, _, written, _, _) = h.shape in
    placed_short h.written h.entries 0 h.written 0 t.templates h.nodes h.in_place (written_short xs h.written written)

pub new_can_encode : (document : Members) (t : Templates) (l : Limits) → IsTree document (tree_of t) → l.max_text ≤ 1048576
    → ¬ (HasLongInitial l.max_text (nodes_of t)) → CanEncode (tree_of t) l (fresh (tree_of t).entries)
new_can_encode document t l tree small short = record {
  granted = set_is_granted document t l tree short;
  distinct_ids = distinct_ids t;
  short_ids = short_ids document (tree_of t) tree;
  small = small;
  sound = sound_fresh l (tree_of t).entries;
}
