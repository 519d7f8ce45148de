-- Every message is encoded or refused by an encoder.
use Rattle.std.proofs.Common.{◌≡◌, ◌⊎◌, inl, inr, ℕ, ◌<◌, ◌≤◌, List, ◌++◌, refl, sym, subst}
use Rattle.std.proofs.lemmas.Bool.{cases_lt}
use Rattle.toml.specs.Data.{Members}
use Rattle.fast_value.specs.declared.settings.Limits.{Limits}
use Rattle.fast_value.specs.meaning.Messages.{MessageData}
use Rattle.fast_tree.specs.meaning.Tree.{Tree}
use Rattle.fast_notation.specs.meaning.Checked.{IsTree}
use Rattle.fast_template.specs.declared.sets.Templates.{Templates}
use Rattle.fast_template.specs.meaning.Flat.{nodes_of, tree_of}
use Rattle.fast_dict.specs.meaning.Dictionary.{Dictionary, fresh}
use Rattle.fast_dict.specs.meaning.EntryTexts.{HasLongInitial}
use Rattle.fast_decoder.specs.meaning.Decoding.{AreBadLimits}
use Rattle.fast_spelling.specs.declared.faults.EncodeFault.{EncodeFault}
use Rattle.fast_spelling.specs.meaning.Again.{IsSound}
use Rattle.fast_spelling.specs.meaning.Refusals.{IsRefused}
use Rattle.fast_spelling.specs.meaning.Suiting.{SuitsTemplate, FitsLimits}
use Rattle.fast_spelling.proofs.again.MessagesAgain.{sound_fresh}
use Rattle.fast_spelling.proofs.encodings.Encoded.{encoded_is_spelled}
use Rattle.fast_spelling.proofs.encodings.Excluded.{refused_is_not_encoded}
use Rattle.fast_machine.specs.device.Positions.{Set, tree_in}
use Rattle.fast_laws.specs.meaning.Settling.{CanEncode, HasEncoding}
use Rattle.fast_laws.proofs.settling.Messages.{any_settled, next_can_encode}
use Rattle.fast_laws.proofs.settling.Sets.{new_can_encode}
use Rattle.fast_encoder.specs.meaning.Encoders.{EncoderData, IsEncoded, CanBeEncoded, IsAble, tree}

pub either : (e : EncoderData) (m : MessageData) (out : List ℕ) → IsAble e
    → CanBeEncoded e m out ⊎ ((c : EncodeFault) × IsRefused (tree e) e.limits e.dictionary m c)
either e m out able = by (any_settled (tree e) e.limits e.dictionary m able)
  where
    by : (SuitsTemplate (tree e) m × FitsLimits e.limits m.slots × HasEncoding (tree e) e.limits e.dictionary m)
        ⊎ ((c : EncodeFault) × IsRefused (tree e) e.limits e.dictionary m c)
        → CanBeEncoded e m out ⊎ ((c : EncodeFault) × IsRefused (tree e) e.limits e.dictionary m c)
    by (inl (suits, fits, (w, d, h))) = inl (
      record e { dictionary = d },
      out ++ w,
      record {
        bytes = w;
        appended = refl;
        suits = suits;
        fits = fits;
        ruled = h;
        spelled = encoded_is_spelled (tree e) e.limits e.dictionary m w d able.distinct_ids suits fits h;
      },
      refl,
      refl,
    )
    by (inr refused) = inr refused

pub never_both : (e : EncoderData) (m : MessageData) (out : List ℕ) (c : EncodeFault) → CanBeEncoded e m out → ¬ (IsRefused (tree e) e.limits e.dictionary m c)
never_both e m out c (f, longer, h, _, _) refused = refused_is_not_encoded
    (tree e) e.limits e.dictionary f.dictionary m h.bytes c h.suits h.fits h.ruled refused

-- the same set and limits
same_able : (e f : EncoderData) → f.set ≡ e.set → f.limits ≡ e.limits → CanEncode (tree e) e.limits f.dictionary → IsAble f
same_able e f same_set same_limits able = subst (λ (s : Set). CanEncode (tree_in s) f.limits f.dictionary) (sym same_set)
    (subst (λ (l : Limits). CanEncode (tree e) l f.dictionary) (sym same_limits) able)

with_dictionary : (e : EncoderData) (d : Dictionary) → IsAble e → IsSound e.limits d → CanEncode (tree e) e.limits d
with_dictionary e d able sound = record {
  granted = able.granted;
  distinct_ids = able.distinct_ids;
  short_ids = able.short_ids;
  small = able.small;
  sound = sound;
}

pub new : (document : Members) (t : Templates) (e : EncoderData) → IsTree document (tree_of t) → tree e ≡ tree_of t
    → e.dictionary ≡ fresh (tree_of t).entries → ¬ (AreBadLimits e.limits) → ¬ (HasLongInitial e.limits.max_text (nodes_of t)) → IsAble e
new document t e read same empty good short =
    let can = new_can_encode document t e.limits read (small (cases_lt 1048576 e.limits.max_text)) short in
    subst (λ (z : Tree). CanEncode z e.limits e.dictionary) (sym same) (subst (λ (d : Dictionary). CanEncode (tree_of t) e.limits d) (sym empty) can)
  where
    small : (1048576 < e.limits.max_text) ⊎ (e.limits.max_text ≤ 1048576) → e.limits.max_text ≤ 1048576
    small (inl h) = absurd (good (inr h))
    small (inr h) = h

pub reset : (e f : EncoderData) → IsAble e → f.dictionary ≡ fresh (tree e).entries → f.set ≡ e.set → f.limits ≡ e.limits → IsAble f
reset e f able empty same_set same_limits = same_able e f same_set same_limits
    (with_dictionary e f.dictionary able (subst (IsSound e.limits) (sym empty) (sound_fresh e.limits (tree e).entries)))

pub next : (e f : EncoderData) (m : MessageData) (out longer : List ℕ) → IsAble e → IsEncoded e m out f longer → f.set ≡ e.set → f.limits ≡ e.limits → IsAble f
next e f m out longer able h same_set same_limits = same_able e f same_set same_limits
    (next_can_encode (tree e) e.limits e.dictionary m h.bytes f.dictionary able h.suits h.fits h.ruled)
