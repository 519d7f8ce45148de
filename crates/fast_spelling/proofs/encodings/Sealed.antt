-- A segment whose map takes the place of a byte that was kept for it.
use Rattle.std.proofs.Common.{◌≡◌, ℕ, ◌+◌, List, [], ◌∷◌, ◌++◌, length, take, drop, refl, ap, subst, ◌∙◌}
use Rattle.std.specs.Prelude.{Bool, true, false, if◌then◌else◌}
use Rattle.std.proofs.lemmas.List.{append_assoc}
use Rattle.std.proofs.Math.Seq.{take-append_seam, drop-append-add}
use Rattle.fast_value.specs.declared.settings.Limits.{Limits}
use Rattle.fast_value.specs.meaning.Messages.{Slots}
use Rattle.fast_tree.specs.meaning.Tree.{Body, has_map}
use Rattle.fast_dict.specs.meaning.Dictionary.{Dictionary}
use Rattle.fast_spelling.specs.declared.draft.Draft.{Draft}
use Rattle.fast_spelling.specs.device.Drafts.{Closes}
use Rattle.fast_spelling.specs.meaning.Encoding.{ShortestMap, EncodesBody}
use Rattle.fast_spelling.specs.device.Fields.{Wrote}
use Rattle.fast_spelling.proofs.encodings.Progress.{IsClosed, own_bits, bits_around}

abbrev kept_bytes : Bool → List ℕ
kept_bytes has = if has then 0 ∷ [] else []

behind_kept : (has : Bool) (w : List ℕ) → drop (if has then 1 else 0) (kept_bytes has ++ w) ≡ w
behind_kept true w = refl
behind_kept false w = refl

pub sealed : (l : Limits) (body : Body) (vs : Slots) (d mid : Dictionary) (a o b c : Draft) (has : Bool) (m k : ℕ)
    → o.bytes.items ≡ a.bytes.items ++ kept_bytes has → o.bits ≡ a.bits → Wrote (EncodesBody l body d vs) o b mid
    → has ≡ has_map body
    → m ≡ length a.bytes.items → k ≡ length a.bits → Closes has (take m b.bytes.items)
    (drop (m + (if has then 1 else 0)) b.bytes.items) (drop k b.bits) c.bytes.items → c.bits ≡ take k b.bits
    → IsClosed l body vs d mid a c
sealed l body vs d mid a o b c has m k u v (bits, bytes, p, q, e) h i n (map, short, r) s =
    let before = a.bytes.items in
    let some : ℕ = if has then 1 else 0 in
    let whole : b.bytes.items ≡ before ++ (kept_bytes has ++ bytes) = q ∙ ap (λ (z : List ℕ). z ++ bytes) u ∙ append_assoc before (kept_bytes has) bytes in
    let front : take m b.bytes.items ≡ before = ap (λ (z : ℕ). take z b.bytes.items) i ∙ ap (take (length before)) whole
    ∙ take-append_seam before (kept_bytes has ++ bytes) in
    let back : drop (m + some) b.bytes.items ≡ bytes = ap (λ (z : ℕ). drop (z + some) b.bytes.items) i
    ∙ ap (drop (length before + some)) whole ∙ drop-append-add before (kept_bytes has ++ bytes) some ∙ behind_kept has bytes in
    let all : b.bits ≡ a.bits ++ bits = p ∙ ap (λ (z : List Bool). z ++ bits) v in
    let own : drop k b.bits ≡ bits = own_bits a.bits bits b.bits k all n in
    record {
      bytes = map ++ bytes;
      bits_are = s ∙ bits_around a.bits bits b.bits k all n;
      bytes_are = r ∙ ap (λ (z : List ℕ). z ++ (map ++ drop (m + some) b.bytes.items)) front ∙ ap (λ (z : List ℕ). before ++ (map ++ z)) back;
      says = (bits, map, bytes, e, subst (λ (z : Bool). ShortestMap z bits map) h (subst (λ (z : List Bool). ShortestMap has z map) own short), refl);
    }
