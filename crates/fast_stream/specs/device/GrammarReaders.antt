-- Readers of the units, and from them the reader of a term.
use Rattle.std.specs.Prelude.{◌≡◌, ℕ, zero, suc, ◌-◌, ◌%◌, ◌≤◌, ◌<◌, Bool, true, false, ◌&&◌, nat_le, nat_eq, if◌then◌else◌, List, [], ◌∷◌}
use Rattle.std.specs.Prelude.{◌++◌, length, ℤ, pos, negsuc, int_le, Option, Some, None, Result, Ok, Err}
use Rattle.std.specs.Ordering.{int_eq}
use Rattle.fast_wire.specs.meaning.Entities.{HaveNoStop, IsEntity}
use Rattle.fast_wire.specs.meaning.Integers.{Range, value}
use Rattle.fast_wire.specs.meaning.Maps.{map_limit}
use Rattle.fast_value.specs.declared.codes.Code.{Code}
use Rattle.fast_value.specs.declared.codes.Code.TheVariants.{D2, L1, L3, R6, R7, R9}
use Rattle.fast_stream.specs.meaning.Events.{EventData}
use Rattle.fast_stream.specs.meaning.Phrases.{Reached, whole, cut, wrong}
use Rattle.fast_stream.specs.meaning.Units.{width_checked}
use Rattle.fast_stream.specs.meaning.Grammar.{Grammar, give, fault, hand, integer, ascii_text, raw, presence_map, narrow}
use Rattle.fast_stream.specs.device.Readers.{Reader, Done, Emit, Stop, Byte, bind}

-- one event
abbrev pub hands_reader : EventData → Reader (Unit {0})
hands_reader e = Emit e (Done tt)

-- a result, or a fault
abbrev pub settles_reader : {A : Type 0} → Result A Code → Reader A
settles_reader (Ok a) = Done a
settles_reader (Err c) = Stop c

-- an entity, of which a prefix has been read, and of which at most n bytes follow
abbrev pub entity_reader : Code → ℕ → List ℕ → Reader (List ℕ)
entity_reader c zero front = Stop c
entity_reader c (suc n) front = Byte (λ b. if nat_le 128 b then Done (front ++ b ∷ []) else entity_reader c n (front ++ b ∷ []))

-- an entity, of which a prefix has been read, as a phrase
abbrev pub entity_phrase : Code → ℕ → List ℕ → List ℕ → List EventData → Reached (List ℕ) → Type 0
entity_phrase c n front w es (whole m) = IsEntity w × (length w ≤ n) × (m ≡ front ++ w) × (es ≡ [])
entity_phrase c n front w es cut = HaveNoStop w × (length w < n) × (es ≡ [])
entity_phrase c n front w es (wrong d) = HaveNoStop w × (length w ≡ n) × (d ≡ c) × (es ≡ [])

-- without its first byte the entity encodes the same number
abbrev pub overlong : (List ℕ → ℤ) → List ℕ → Bool
overlong v [] = false
overlong v (first ∷ []) = false
overlong v (first ∷ second ∷ rest) = int_eq (v (second ∷ rest)) (v (first ∷ second ∷ rest))

-- the value of a nullable integer
abbrev pub lowered : Bool → ℤ → Option ℤ
lowered false n = Some n
lowered true (pos zero) = None
lowered true (pos (suc n)) = Some (pos n)
lowered true (negsuc n) = Some (negsuc n)

-- in the range
abbrev pub within : Range → ℤ → Bool
within range x = int_le range.low x && int_le x range.high

-- an integer in its range, or the fault `outside`
abbrev pub fitting : Range → Code → Option ℤ → Result (Option ℤ) Code
fitting range outside None = Ok None
fitting range outside (Some x) = if within range x then Ok (Some x) else Err outside

-- the result of a complete entity as an integer
unfoldable pub judged : Bool → Range → Bool → Code → List ℕ → Result (Option ℤ) Code
judged strict range nullable outside w = if strict && overlong (value range) w then Err R6 else fitting range outside (lowered nullable (value range w))

-- an integer of ten bytes at most
unfoldable pub integer_reader : Bool → Range → Bool → Code → Reader (Option ℤ)
integer_reader strict range nullable outside = bind (entity_reader D2 10 []) (λ w. settles_reader (judged strict range nullable outside w))

-- the last of more than seven bits are zero
abbrev pub spare : List ℕ → Bool
spare [] = false
spare (a ∷ []) = false
spare (a ∷ b ∷ []) = nat_eq (b % 128) 0
spare (a ∷ b ∷ c ∷ w) = spare (b ∷ c ∷ w)

-- the result of a complete entity as a presence map
unfoldable pub judged_map : Bool → List ℕ → Result (List ℕ) Code
judged_map strict w = if strict && spare w then Err R7 else Ok w

-- a presence map
unfoldable pub presence_map_reader : Bool → Reader (List ℕ)
presence_map_reader strict = bind (entity_reader L3 map_limit []) (λ w. settles_reader (judged_map strict w))

-- n bytes more, after a prefix
abbrev pub raw_reader : ℕ → List ℕ → Reader (List ℕ)
raw_reader zero front = Done front
raw_reader (suc n) front = Byte (λ b. raw_reader n (front ++ b ∷ []))

-- a string of which a prefix has been read, with room for n more characters, at the byte b
abbrev pub characters_reader : ℕ → List ℕ → ℕ → Reader (Option (List ℕ))
characters_reader zero front b = Stop L1
characters_reader (suc n) front b = if nat_le 128 b then Done (Some (front ++ (b - 128) ∷ [])) else Byte (characters_reader n (front ++ b ∷ []))

-- a string after a zero in front, which is the empty string or a fault
abbrev pub after_zero_reader : Bool → Reader (Option (List ℕ))
after_zero_reader false = Stop R9
after_zero_reader true = Byte (λ b. if nat_eq b 0x80 then Done (Some []) else Stop R9)

-- a string of one byte, 0x80
abbrev pub bare_stop : Bool → Option (List ℕ)
bare_stop false = Some []
bare_stop true = None

-- a string at its first byte
abbrev pub first_character_reader : Bool → ℕ → ℕ → Reader (Option (List ℕ))
first_character_reader nullable room b = if nat_eq b 0 then after_zero_reader nullable else if nat_eq b 0x80 then Done
    (bare_stop nullable) else characters_reader room [] b

-- an ASCII string
unfoldable pub ascii_text_reader : Bool → ℕ → Reader (Option (List ℕ))
ascii_text_reader nullable room = Byte (first_character_reader nullable room)

-- the reader of a term, in strict mode or not
abbrev pub reader_of : {A : Type 0} → Bool → Grammar A → Reader A
reader_of s (give a) = Done a
reader_of s (fault c) = Stop c
reader_of s (hand e g) = Emit e (reader_of s g)
reader_of s (integer range nullable c g) = bind (integer_reader s range nullable c) (λ x. reader_of s (g x))
reader_of s (ascii_text nullable room g) = bind (ascii_text_reader nullable room) (λ x. reader_of s (g x))
reader_of s (raw n g) = bind (raw_reader n []) (λ x. reader_of s (g x))
reader_of s (presence_map g) = bind (presence_map_reader s) (λ x. reader_of s (g x))
reader_of s (narrow n m g) = bind (settles_reader (width_checked s n m)) (λ _. reader_of s g)
