-- The encoding of a message, of which the readers of strict mode say that its items are spelled, by computing.
use Rattle.std.proofs.Common.{refl, ap, sym}
use Rattle.std.proofs.lemmas.List.{append-nil}
use Rattle.std.specs.Prelude.{nat_eq, ◌≡◌, ℕ, zero, suc, Bool, true, false, ◌&&◌, if◌then◌else◌, List, [], ◌∷◌, ◌++◌, slice_get, ℤ, pos}
use Rattle.std.specs.Prelude.{Option, Some, None, option_map, Ok, Err}
use Rattle.std.specs.Ordering.{int_eq}
use Rattle.fast_wire.specs.meaning.Integers.{Range, unsigned_range, IsWithin}
use Rattle.fast_wire.specs.meaning.Texts.{SpellsAscii}
use Rattle.fast_wire.specs.meaning.Maps.{bits}
use Rattle.fast_value.specs.declared.kinds.Kind.TheVariants.{UInt32}
use Rattle.fast_value.specs.declared.settings.Limits.{Limits}
use Rattle.fast_value.specs.declared.codes.Code.{Code}
use Rattle.fast_value.specs.declared.codes.Code.TheVariants.{D2}
use Rattle.fast_value.specs.meaning.Kinds.{ScalarData, U, I, AsciiText}
use Rattle.fast_value.specs.meaning.Messages.{ItemData, one, Slots, no_slots, MessageData}
use Rattle.fast_tree.specs.meaning.Tree.{FieldData, identifier, uses_bit, Label, Instruction, field, Body, end, step, TemplateData, Tree}
use Rattle.fast_dict.specs.meaning.Dictionary.{Dictionary, PreviousData, assigned, previous_at, write_at, reset}
use Rattle.fast_dict.specs.meaning.Operators.{Outcome, Sent, nothing, value, decide, IsItemOf, Op}
use Rattle.fast_dict.specs.meaning.Rule.{GoesUnsent, SentFor}
use Rattle.fast_stream.specs.meaning.Phrases.{whole}
use Rattle.fast_stream.specs.meaning.Messages.{with_slot}
use Rattle.fast_stream.specs.device.Readers.{Runs}
use Rattle.fast_stream.specs.device.GrammarReaders.{within, judged, judged_map, integer_reader, ascii_text_reader, presence_map_reader}
use Rattle.fast_stream.proofs.readers.Integers.{decides-within, reads-integer, reads-map}
use Rattle.fast_stream.proofs.readers.TextReaders.{reads-ascii}
use Rattle.fast_spelling.specs.meaning.Encoding.{Shortest, ShortestMap, SameBits, SpellsSent, EncodesField, Encodes, EncodesBody, EncodesMessage}
use Rattle.fast_spelling.proofs.rules.OneItem.{one_ok}
use Rattle.fast_examples.proofs.Computed.{are_small, small}

-- integers, texts and maps that the readers take
pub integer_read : (range : Range) (nullable : Bool) (x : Option ℤ) (w : List ℕ) → are_small w ≡ true
    → Runs (integer_reader true range nullable D2) w [] (whole x) → Shortest range nullable x w
integer_read range nullable x w s r = ((reads-integer true range nullable D2).says w [] (whole x) (small w s) r).0

pub text_read : (nullable : Bool) (room : ℕ) (v : Option (List ℕ)) (w : List ℕ) → are_small w ≡ true
    → Runs (ascii_text_reader nullable room) w [] (whole v) → SpellsAscii nullable room v w
text_read nullable room v w s r = ((reads-ascii nullable room).says w [] (whole v) (small w s) r).0

pub fits : (range : Range) (x : ℤ) → within range x ≡ true → IsWithin range x
fits range x = (decides-within range x).0

-- the same bits, with zeros after the last
abbrev same : Bool → Bool → Bool
same true b = b
same false true = false
same false false = true

abbrev are_clear : List Bool → Bool
are_clear [] = true
are_clear (b ∷ bs) = same false b && are_clear bs

abbrev pub are_same : List Bool → List Bool → Bool
are_same [] b = are_clear b
are_same (x ∷ a) [] = same false x && are_same a []
are_same (x ∷ a) (y ∷ b) = same x y && are_same a b

both : (a b : Bool) → a && b ≡ true → (a ≡ true) × (b ≡ true)
both true b e = (refl, e)
both false b e = absurd (cc e)

same_is : (a b : Bool) → same a b ≡ true → a ≡ b
same_is true b e = sym e
same_is false true e = absurd (cc e)
same_is false false e = refl

clear_bits : (b : List Bool) → are_clear b ≡ true → SameBits [] b
clear_bits [] e i = refl
clear_bits (x ∷ b) e zero = same_is false x (both (same false x) (are_clear b) e).0
clear_bits (x ∷ b) e (suc i) = clear_bits b (both (same false x) (are_clear b) e).1 i

same_bits : (a b : List Bool) → are_same a b ≡ true → SameBits a b
same_bits [] b e i = clear_bits b e i
same_bits (x ∷ a) [] e zero = sym (same_is false x (both (same false x) (are_same a []) e).0)
same_bits (x ∷ a) [] e (suc i) = same_bits a [] (both (same false x) (are_same a []) e).1 i
same_bits (x ∷ a) (y ∷ b) e zero = same_is x y (both (same x y) (are_same a b) e).0
same_bits (x ∷ a) (y ∷ b) e (suc i) = same_bits a b (both (same x y) (are_same a b) e).1 i

pub map_read : (b : List Bool) (m : List ℕ) → are_small m ≡ true → Runs (presence_map_reader true) m [] (whole m)
    → are_same (bits m) b ≡ true → ShortestMap true b m
map_read b m s r e = (((reads-map true).says m [] (whole m) (small m s) r).0, same_bits (bits m) b e)

-- Why a field's bit is not clear: it has none; nothing sent is a fault; nothing sent gives another value.
pub no_bit : (f : FieldData) (p : PreviousData) (v : Option ScalarData) → uses_bit f ≡ false → ¬ (GoesUnsent f p v)
no_bit f p v e (next, u, o) = absurd (cc (e, u))

pub a_fault : (f : FieldData) (p : PreviousData) (v : Option ScalarData) (c : Code) → decide f p false nothing ≡ Err c → ¬ (GoesUnsent f p v)
a_fault f p v c e (next, u, (i, o)) = absurd (cc (e, o))

-- two values are one, where both are a number or both are an ASCII text
abbrev same_text : List ℕ → List ℕ → Bool
same_text [] [] = true
same_text (c ∷ s) (d ∷ t) = nat_eq c d && same_text s t
same_text s t = false

abbrev pub is_value : ScalarData → Option ScalarData → Bool
is_value (U m) (Some (U n)) = nat_eq m n
is_value (I x) (Some (I y)) = int_eq x y
is_value (AsciiText s) (Some (AsciiText t)) = same_text s t
is_value v o = false

pub another : (f : FieldData) (p : PreviousData) (v : ScalarData) (o : Outcome) → decide f p false nothing ≡ Ok o
    → is_value v o.value ≡ false → is_value v (Some v) ≡ true → ¬ (GoesUnsent f p (Some v))
another f p v o e n y (next, u, (i, q)) =
    let same : o.value ≡ Some v = ap (λ (x : Outcome). x.value) (one_ok (decide f p false nothing) o (record { value = Some v; next = next }) e q) in
    absurd (cc (n, y, ap (is_value v) same))

-- a field that is not sent, and one that is
pub unsent : (l : Limits) (f : FieldData) (d : Dictionary) (v : Option ScalarData) (next : PreviousData) → uses_bit f ≡ true → IsItemOf f false nothing
    → decide f (previous_at f.entry d) false nothing ≡ Ok (record { value = v; next = next }) → EncodesField l f d v (false ∷ []) [] (write_at f.entry next d)
unsent l f d v next u i e = (false, nothing, next, ((next, u, (i, e)), refl), refl, (i, e), ap (λ (b : Bool). if b then false ∷ [] else []) (sym u), refl)

pub sent : (l : Limits) (f : FieldData) (d : Dictionary) (v : Option ScalarData) (item : Sent) (next : PreviousData) (w : List ℕ)
    → ¬ (GoesUnsent f (previous_at f.entry d) v) → SentFor f (previous_at f.entry d) v item
    → SpellsSent l f (previous_at f.entry d) item w → Op f (previous_at f.entry d) true item v next
    → EncodesField l f d v (if uses_bit f then true ∷ [] else []) w (write_at f.entry next d)
sent l f d v item next w n s k o = (true, item, next, (n, s), k, o, refl, refl)

-- an identifier that is sent
pub identified : (l : Limits) (d : Dictionary) (id : ℕ) (w : List ℕ) → ¬ (GoesUnsent identifier (previous_at (Some 0) d) (Some (U id)))
    → within (unsigned_range 32) (pos id) ≡ true
    → Shortest (unsigned_range 32) false (Some (pos id)) w
    → EncodesField l identifier d (Some (U id)) (true ∷ []) w (write_at (Some 0) (assigned UInt32 (U id)) d)
identified l d id w n f s = sent l identifier d (Some (U id)) (value (U id)) (assigned UInt32 (U id)) w n refl (pos id, refl, s)
    ((pos id, fits (unsigned_range 32) (pos id) f, refl), refl)

-- bodies and messages of parts
pub nothing_more : (l : Limits) (d : Dictionary) → EncodesBody l end d no_slots [] [] d
unfolding EncodesBody
nothing_more l d = (refl, refl, refl, refl)

pub more : (l : Limits) (i : Instruction) (is : Body) (d mid d' : Dictionary) (x : Option ItemData) (rest : Slots) (b1 b2 : List Bool)
    (u v : List ℕ) → Encodes l i d x b1 u mid → EncodesBody l is mid rest b2 v d'
    → EncodesBody l (step i is) d (with_slot x rest) (b1 ++ b2) (u ++ v) d'
unfolding EncodesBody
more l i is d mid d' x rest b1 b2 u v h k = (x, rest, b1, b2, u, v, mid, h, k, refl, refl, refl)

pub alone : (l : Limits) (at : Label) (f : FieldData) (d d' : Dictionary) (v : Option ScalarData) (b : List Bool) (w : List ℕ)
    → EncodesField l f d v b w d' → EncodesBody l (step (field at f) end) d (with_slot (option_map one v) no_slots) b w d'
unfolding Encodes EncodesBody
alone l at f d d' None b w h = (None, no_slots, b, [], w, [], d', h, (refl, refl, refl, refl), refl, sym (append-nil b), sym (append-nil w))
alone l at f d d' (Some v) b w h = (Some (one v), no_slots, b, [], w, [], d', h, (refl, refl, refl, refl), refl, sym (append-nil b), sym (append-nil w))

pub encoded : (t : Tree) (l : Limits) (d mid d' : Dictionary) (m : MessageData) (u : TemplateData) (id : ℕ) (b1 b2 : List Bool)
    (map x v : List ℕ) → slice_get t.templates m.template ≡ Some u → u.id ≡ Some id
    → EncodesField l identifier d (Some (U id)) b1 x mid → EncodesBody l u.body (if u.reset then reset mid else mid) m.slots b2 v d'
    → are_small map ≡ true → Runs (presence_map_reader true) map [] (whole map) → are_same (bits map) (b1 ++ b2) ≡ true
    → EncodesMessage t l d m (map ++ x ++ v) d'
unfolding EncodesMessage
encoded t l d mid d' m u id b1 b2 map x v e i h k s r q = (u, id, b1, b2, map, x, v, mid, e, i, h, k, map_read (b1 ++ b2) map s r q, refl)

-- On an `unfolding` line this name lets the readers of items compute.
unfoldable pub reading : Unit {0}
unfolding integer_reader ascii_text_reader presence_map_reader judged judged_map
reading = tt
