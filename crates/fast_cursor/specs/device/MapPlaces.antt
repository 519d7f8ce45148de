-- The meaning of the fields of a position in a presence map.
use Rattle.std.specs.Prelude.{◌≡◌, ℕ, zero, suc, ◌-◌, ◌*◌, ◌%◌, ◌≤◌, nat_le, Bool, List, [], ◌∷◌, drop}
use Rattle.std.specs.Int.Count.{count_trailing_zeros}
use Rattle.fast_wire.specs.meaning.Maps.{map_limit, bits, first_bit, later_bits}
use Rattle.fast_cursor.specs.declared.map_place.MapPlace.{MapPlace}

-- The top n bits of a word of 64 are the first ones of a list, which zeros follow. After them the word has a set bit, which is the mark,
-- and zeros after that.
abbrev pub HasTop : ℕ → ℕ → List Bool → Type 0
HasTop zero word bs = word ≡ 9223372036854775808
HasTop (suc n) word bs = (nat_le 9223372036854775808 word ≡ first_bit bs) × HasTop n (word * 2 % 18446744073709551616) (later_bits bs)

-- the number of bits of a word before its mark
abbrev pub left_in : ℕ → ℕ
left_in word = 63 - count_trailing_zeros 64 word

-- The number of bits of a map before the next one, by the end of the bytes whose bits are in the word. Of a map of which nothing has been
-- read none is used.
abbrev pub used_at : List ℕ → ℕ → ℕ → ℕ
used_at [] end word = 0
used_at (b ∷ map) end word = 7 * end - left_in word

-- The bits in the word are the next ones of a map.
pub record IsWord (map : List ℕ) (end word : ℕ) : Type 0 where
  pub few : left_in word ≤ 56
  pub ends : 8 ≤ end
  pub none : map ≡ [] → end ≡ 8
  pub top : HasTop (left_in word) word (drop (used_at map end word) (bits map))

-- The position in a map, which is not too long.
pub record IsPlace (map : List ℕ) (p : MapPlace) : Type 0 where
  pub short : p.len ≤ map_limit
  pub is : IsWord map p.end p.word
