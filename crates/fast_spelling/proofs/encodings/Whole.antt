-- A whole message: its identifier is never refused, and what is written or refused of its parts is so of the message.
use Rattle.std.proofs.Common.{◌≡◌, ◌<◌, ◌^◌, inl, inr, ℕ, List, [], ◌∷◌, ◌++◌, refl, ap, sym, subst, ◌∙◌, arith}
use Rattle.std.specs.Prelude.{Bool, true, false, if◌then◌else◌, take, drop, pos, Some, Ok, slice_get, option_map}
use Rattle.std.proofs.lemmas.List.{append_assoc}
use Rattle.std.proofs.lemmas.Option.{slice_get-map}
use Rattle.fast_wire.specs.meaning.Shortest.{IsShortest}
use Rattle.fast_value.specs.declared.kinds.Kind.TheVariants.{UInt32}
use Rattle.fast_value.specs.declared.settings.Limits.{Limits}
use Rattle.fast_value.specs.meaning.Kinds.{ScalarData, U}
use Rattle.fast_value.specs.meaning.Messages.{MessageData}
use Rattle.fast_tree.specs.declared.instructions.Template.{Template}
use Rattle.fast_tree.specs.meaning.Tree.{identifier, TemplateData}
use Rattle.fast_tree.specs.meaning.Nodes.{instructions_from, template_data, body_among}
use Rattle.fast_template.specs.declared.sets.Templates.{Templates}
use Rattle.fast_template.specs.meaning.Flat.{nodes_of, templates_of, tree_of}
use Rattle.fast_dict.specs.meaning.Dictionary.{Dictionary, PreviousData, assigned, previous_at, write_at, reset}
use Rattle.fast_dict.specs.meaning.Operators.{Outcome, nothing, unsent, value}
use Rattle.fast_spelling.specs.declared.draft.Draft.{Draft}
use Rattle.fast_spelling.specs.declared.faults.EncodeFault.{EncodeFault}
use Rattle.fast_spelling.specs.declared.faults.EncodeFault.TheVariants.{E1, E2, E3, E4, R9, Memory}
use Rattle.fast_spelling.specs.device.Drafts.{Closes}
use Rattle.fast_spelling.specs.meaning.Encoding.{ShortestMap, EncodesField, EncodesBody, EncodesMessage}
use Rattle.fast_spelling.specs.device.Fields.{Wrote}
use Rattle.fast_spelling.specs.meaning.Refusals.{RefusesField, RefusesBody, RefusesMessage, HaveNoMap}
use Rattle.fast_spelling.specs.meaning.Suiting.{IsKnownAs, SuitsTemplate, SuitsBody}
use Rattle.fast_spelling.proofs.rules.FieldsWritten.{field_done}
use Rattle.fast_spelling.proofs.rules.OneItem.{one_ok}

-- A mandatory copy of an integer can always be sent.
pub identifier_goes : (d : Dictionary) (n : ℕ) (c : EncodeFault) → ¬ (RefusesField identifier d (Some (U n)) c)
identifier_goes d n E1 h = h
identifier_goes d n E2 h = h
identifier_goes d n E3 h = h true (value (U n)) ((λ goes. h false nothing (goes, refl)), refl)
identifier_goes d n E4 h = h
identifier_goes d n R9 (bit, item, rule, zero) = zero
identifier_goes d n Memory h = h

-- The identifier is sent if its entry does not hold it.
held_alone : (p next : PreviousData) (v : ScalarData) → unsent identifier p ≡ Ok (record { value = Some v; next = next }) → p ≡ assigned UInt32 v
held_alone (assigned UInt32 u) next v e =
    let same : Some u ≡ Some v = ap (λ (z : Outcome). z.value) (one_ok (unsent identifier (assigned UInt32 u)) (record {
      value = Some u;
      next = assigned UInt32 u;
    }) (record { value = Some v; next = next }) refl e) in cc same
held_alone p next v e = absurd (cc e)

pub identifier_sent : (l : Limits) (d d' : Dictionary) (id : ℕ) (w : List ℕ) → id < 2 ^ 32
    → ¬ (previous_at identifier.entry d ≡ assigned UInt32 (U id)) → IsShortest false false (Some (pos id)) w
    → d' ≡ write_at identifier.entry (assigned UInt32 (U id)) d → EncodesField l identifier d (Some (U id)) (true ∷ []) w d'
identifier_sent l d d' id w small differs spelled written =
    field_done l identifier d (previous_at identifier.entry d) (Some (U id)) true (value (U id)) (true ∷ []) w d' refl (λ q. absurd (cc q))
    ((0, small), omega arith) ((λ (m, used, (none, g)). differs (held_alone (previous_at identifier.entry d) m (U id) g)), refl) small spelled
    refl written

-- a template of the set, in its tree
pub template_there : (t : Templates) (i : ℕ) (v : Template) → slice_get (templates_of t) i ≡ Some v
    → slice_get (tree_of t).templates i ≡ Some (template_data (instructions_from 0 (nodes_of t)) v)
template_there t i v found = slice_get-map (template_data (instructions_from 0 (nodes_of t))) (templates_of t) i
    ∙ ap (option_map (template_data (instructions_from 0 (nodes_of t)))) found

pub same_template : (t : Templates) (i : ℕ) (v : Template) (u : TemplateData) → slice_get (templates_of t) i ≡ Some v
    → slice_get (tree_of t).templates i ≡ Some u → u ≡ template_data (instructions_from 0 (nodes_of t)) v
same_template t i v u found at = let both : Some u ≡ Some (template_data (instructions_from 0 (nodes_of t)) v) = sym at ∙ template_there t i v found in cc both

pub slots_suit : (t : Templates) (m : MessageData) (v : Template) → slice_get (templates_of t) m.template ≡ Some v
    → SuitsTemplate (tree_of t) m → SuitsBody (body_among (nodes_of t) v.body.items) m.slots
slots_suit t m v found (u, at, suits) = subst (λ (z : TemplateData). SuitsBody z.body m.slots) (same_template t m.template v u found at) suits

pub template_suits : (t : Templates) (m : MessageData) (v : Template) → slice_get (templates_of t) m.template ≡ Some v
    → SuitsBody (body_among (nodes_of t) v.body.items) m.slots → SuitsTemplate (tree_of t) m
template_suits t m v found suits = (template_data (instructions_from 0 (nodes_of t)) v, template_there t m.template v found, suits)

pub identified : (t : Templates) (m : MessageData) (id : ℕ) (v : Template) → slice_get (templates_of t) m.template ≡ Some v
    → IsKnownAs (tree_of t) m id → v.id ≡ Some id
identified t m id v found (u, at, is) = ap (λ (z : TemplateData). z.id) (sym (same_template t m.template v u found at)) ∙ is

-- An instruction is refused behind the identifier and the reset.
pub body_refused : (t : Templates) (l : Limits) (d mid now : Dictionary) (m : MessageData) (id : ℕ) (v : Template) (a b : Draft)
    (c : EncodeFault) → slice_get (templates_of t) m.template ≡ Some v → IsKnownAs (tree_of t) m id
    → Wrote (EncodesField l identifier d (Some (U id))) a b mid → now ≡ (if v.reset then reset mid else mid)
    → RefusesBody l (body_among (nodes_of t) v.body.items) now m.slots c → RefusesMessage (tree_of t) l d m c
body_refused t l d mid now m id v a b c found known (b1, x, bits, bytes, field) is refused = (
  template_data (instructions_from 0 (nodes_of t)) v,
  id,
  b1,
  x,
  mid,
  template_there t m.template v found,
  identified t m id v found known,
  field,
  inl (subst (λ (z : Dictionary). RefusesBody l (body_among (nodes_of t) v.body.items) z m.slots c) is refused),
)

-- the bits of a draft that was empty before two writes
kept_bits : (a b c : Draft) (x y : List Bool) → a.bits ≡ [] → b.bits ≡ a.bits ++ x → c.bits ≡ b.bits ++ y → c.bits ≡ x ++ y
kept_bits a b c x y empty one two = two ∙ ap (λ (z : List Bool). z ++ y) (one ∙ ap (λ (z : List Bool). z ++ x) empty)

both_bytes : (a b c : Draft) (n : ℕ) (x y : List ℕ) → a.bytes.items ≡ [] → n ≡ 0 → b.bytes.items ≡ a.bytes.items ++ x
    → c.bytes.items ≡ b.bytes.items ++ y → drop n c.bytes.items ≡ x ++ y
both_bytes a b c n x y empty start one two = ap (λ (k : ℕ). drop k c.bytes.items) start ∙ two
    ∙ ap (λ (z : List ℕ). z ++ y) (one ∙ ap (λ (z : List ℕ). z ++ x) empty)

nothing_before : (n : ℕ) (w : List ℕ) → n ≡ 0 → take n w ≡ []
nothing_before n w start = ap (λ (k : ℕ). take k w) start

-- The bits of the whole segment have no map.
pub message_unmapped : (t : Templates) (l : Limits) (d mid now d' : Dictionary) (m : MessageData) (id : ℕ) (v : Template) (a b c : Draft)
    (e : EncodeFault) → slice_get (templates_of t) m.template ≡ Some v → IsKnownAs (tree_of t) m id
    → a.bits ≡ [] → Wrote (EncodesField l identifier d (Some (U id))) a b mid → now ≡ (if v.reset then reset mid else mid)
    → Wrote (EncodesBody l (body_among (nodes_of t) v.body.items) now m.slots) b c d'
    → HaveNoMap c.bits → e ≡ E3 → RefusesMessage (tree_of t) l d m e
message_unmapped t l d mid now d' m id v a b c e found known empty (b1, x, bits, bytes, field) is (b2, w, bits', bytes', body) none e3 = (
  template_data (instructions_from 0 (nodes_of t)) v,
  id,
  b1,
  x,
  mid,
  template_there t m.template v found,
  identified t m id v found known,
  field,
  inr (
    b2,
    w,
    d',
    subst (λ (z : Dictionary). EncodesBody l (body_among (nodes_of t) v.body.items) z m.slots b2 w d') is body,
    subst HaveNoMap (kept_bits a b c b1 b2 empty bits bits') none,
    e3,
  ),
)

-- All is written, and the map stands in front.
pub message_written : (t : Templates) (l : Limits) (d mid now d' : Dictionary) (m : MessageData) (id : ℕ) (v : Template) (a b c : Draft)
    (n : ℕ) (z : List ℕ) → slice_get (templates_of t) m.template ≡ Some v → IsKnownAs (tree_of t) m id
    → a.bits ≡ [] → a.bytes.items ≡ [] → n ≡ 0 → Wrote (EncodesField l identifier d (Some (U id))) a b mid
    → now ≡ (if v.reset then reset mid else mid) → Wrote (EncodesBody l (body_among (nodes_of t) v.body.items) now m.slots) b c d'
    → Closes true (take n c.bytes.items) (drop n c.bytes.items) c.bits z → EncodesMessage (tree_of t) l d m z d'
unfolding EncodesMessage
message_written t l d mid now d' m id v a b c n z found known no_bits no_bytes start_bytes (b1, x, bits, bytes, field) is
    (b2, w, bits', bytes', body) (map, shortest, all) = (
      template_data (instructions_from 0 (nodes_of t)) v,
      id,
      b1,
      b2,
      map,
      x,
      w,
      mid,
      template_there t m.template v found,
      identified t m id v found known,
      field,
      subst (λ (y : Dictionary). EncodesBody l (body_among (nodes_of t) v.body.items) y m.slots b2 w d') is body,
      subst (λ (y : List Bool). ShortestMap true y map) (kept_bits a b c b1 b2 no_bits bits bits') shortest,
      all ∙ ap (λ (y : List ℕ). y ++ (map ++ drop n c.bytes.items)) (nothing_before n c.bytes.items start_bytes)
          ∙ ap (λ (y : List ℕ). map ++ y) (both_bytes a b c n x w no_bytes start_bytes bytes bytes') ∙ sym (append_assoc map x w),
    )

kept_bytes : (a b c : Draft) (x y : List ℕ) → a.bytes.items ≡ 0 ∷ [] → b.bytes.items ≡ a.bytes.items ++ x
    → c.bytes.items ≡ b.bytes.items ++ y → drop 1 c.bytes.items ≡ x ++ y
kept_bytes a b c x y kept one two = ap (λ (z : List ℕ). drop 1 z) (two ∙ ap (λ (z : List ℕ). z ++ y) (one ∙ ap (λ (z : List ℕ). z ++ x) kept))

-- All is written behind a byte, and the map takes its place.
pub message_made : (t : Templates) (l : Limits) (d mid now d' : Dictionary) (m : MessageData) (id : ℕ) (v : Template) (a b c : Draft)
    (z : List ℕ) → slice_get (templates_of t) m.template ≡ Some v → IsKnownAs (tree_of t) m id
    → a.bits ≡ [] → a.bytes.items ≡ 0 ∷ [] → Wrote (EncodesField l identifier d (Some (U id))) a b mid
    → now ≡ (if v.reset then reset mid else mid) → Wrote (EncodesBody l (body_among (nodes_of t) v.body.items) now m.slots) b c d'
    → Closes true [] (drop 1 c.bytes.items) c.bits z → EncodesMessage (tree_of t) l d m z d'
unfolding EncodesMessage
message_made t l d mid now d' m id v a b c z found known no_bits kept (b1, x, bits, bytes, field) is (b2, w, bits', bytes', body) (map, shortest, all) = (
  template_data (instructions_from 0 (nodes_of t)) v,
  id,
  b1,
  b2,
  map,
  x,
  w,
  mid,
  template_there t m.template v found,
  identified t m id v found known,
  field,
  subst (λ (y : Dictionary). EncodesBody l (body_among (nodes_of t) v.body.items) y m.slots b2 w d') is body,
  subst (λ (y : List Bool). ShortestMap true y map) (kept_bits a b c b1 b2 no_bits bits bits') shortest,
  all ∙ ap (λ (y : List ℕ). map ++ y) (kept_bytes a b c x w kept bytes bytes') ∙ sym (append_assoc map x w),
)
