-- Where the cursor is at the first instruction of a message whose map is one byte.
use Rattle.std.proofs.Common.{sym, ap, ◌∙◌}
use Rattle.std.specs.Prelude.{◌≡◌, ℕ, List, [], ◌∷◌, take}
use Rattle.fast_wire.specs.meaning.Maps.{bits, later_bits}
use Rattle.fast_cursor.specs.device.Runs.{run_at}
use Rattle.fast_cursor.specs.device.Cursors.{CursorData, resting, bits_left}

pub record IsBegunAt (old c : CursorData) (rest ns : List ℕ) : Type 0 where
  pub frames : c.frames ≡ []
  pub left : c.left ≡ ns
  pub map : c.map ≡ take 1 rest
  pub rests : resting c ≡ resting old
  pub bits : bits_left c ≡ later_bits (bits (take 1 rest))

pub begun_at : (old new c : CursorData) (rest ns : List ℕ) (b start : ℕ) → old.frames ≡ [] → take 1 rest ≡ b ∷ [] → new ≡ record old {
  map = b ∷ [];
  used = 0;
  ends = 8;
} → c ≡ record new { left = run_at old.ops start; used = c.used; ends = c.ends }
    → bits_left c ≡ later_bits (bits (b ∷ [])) → run_at old.ops start ≡ ns → IsBegunAt old c rest ns
begun_at old new c rest ns b start outermost byte same at later nodes = record {
  frames = ap (λ (x : CursorData). x.frames) at ∙ ap (λ (x : CursorData). x.frames) same ∙ outermost;
  left = ap (λ (x : CursorData). x.left) at ∙ nodes;
  map = ap (λ (x : CursorData). x.map) at ∙ ap (λ (x : CursorData). x.map) same ∙ sym byte;
  rests = ap resting at ∙ ap resting same;
  bits = later ∙ ap (λ w. later_bits (bits w)) (sym byte);
}
