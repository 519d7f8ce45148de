-- What is told of a message is what stands, and nothing else.
use Rattle.std.proofs.Common.{◌≡◌, ◌⊎◌, inl, inr, ap, sym, subst, ℕ}
use Rattle.std.specs.Prelude.{slice_get, Some, Result, Err, true, false, IsTrue}
use Rattle.std.specs.Bool.{IsFalse}
use Rattle.fast_value.specs.declared.settings.Limits.{Limits}
use Rattle.fast_value.specs.meaning.Messages.{MessageData}
use Rattle.fast_tree.specs.declared.instructions.Template.{Template}
use Rattle.fast_tree.specs.meaning.Nodes.{body_among}
use Rattle.fast_tree.specs.meaning.Tree.{Tree}
use Rattle.fast_template.specs.declared.sets.Templates.{Templates}
use Rattle.fast_template.specs.meaning.Flat.{nodes_of, templates_of, tree_of}
use Rattle.fast_dict.specs.meaning.Dictionary.{Dictionary}
use Rattle.fast_spelling.specs.declared.faults.EncodeFault.{EncodeFault}
use Rattle.fast_spelling.specs.declared.faults.EncodeFault.TheVariants.{E2, E3, E4, R9, Memory}
use Rattle.fast_spelling.specs.device.Drafts.{IsTold}
use Rattle.fast_spelling.specs.meaning.Refusals.{RefusesMessage, IsRefused}
use Rattle.fast_spelling.specs.meaning.Suiting.{IsKnown, IsKnownAs, SuitsTemplate, SuitsBody, FitsLimits}
use Rattle.fast_spelling.proofs.encodings.Excluded.{one_refusal}
use Rattle.fast_spelling.proofs.encodings.Late.{message_late}
use Rattle.fast_spelling.proofs.encodings.Whole.{slots_suit, template_suits}

pub known_so : (t : Tree) (m : MessageData) (id : ℕ) → IsKnownAs t m id → IsKnown t m
known_so t m id (u, at, own) = (u, id, at, own)

-- The fault that was told is the only one.
pub told_alone : (t : Tree) (l : Limits) (d : Dictionary) (m : MessageData) (told c : EncodeFault)
    → (told ≡ Memory) ⊎ IsRefused t l d m told → IsRefused t l d m c
    → ◌≡◌ {A = Result Unit EncodeFault} (Err told) (Err c) ⊎ ◌≡◌ {A = Result Unit EncodeFault} (Err told) (Err Memory)
told_alone t l d m told c (inl memory) h = inr (ap Err memory)
told_alone t l d m told c (inr refused) h = inl (ap Err (one_refusal t l d m told c refused h))

-- A message that suits and fits is refused at an instruction.
pub late_refused : (t : Tree) (l : Limits) (d : Dictionary) (m : MessageData) (c : EncodeFault) → IsKnown t m → SuitsTemplate t m
    → FitsLimits l m.slots → IsTold (RefusesMessage t l d m) c → (c ≡ Memory) ⊎ IsRefused t l d m c
late_refused t l d m c known suits fits (inl memory) = inl memory
late_refused t l d m c known suits fits (inr refused) = inr (by c (message_late t l d m c refused) refused)
  where
    by : (e : EncodeFault) → (e ≡ E3) ⊎ (e ≡ R9) → RefusesMessage t l d m e → IsRefused t l d m e
    by e (inl is) h = subst (IsRefused t l d m) (sym is) (known, suits, fits, subst (RefusesMessage t l d m) is h)
    by e (inr is) h = subst (IsRefused t l d m) (sym is) (known, suits, fits, subst (RefusesMessage t l d m) is h)

-- The slots do not suit the template.
pub unsuited : (t : Templates) (l : Limits) (d : Dictionary) (m : MessageData) (id : ℕ) (v : Template)
    → slice_get (templates_of t) m.template ≡ Some v → IsKnownAs (tree_of t) m id
    → ¬ (SuitsBody (body_among (nodes_of t) v.body.items) m.slots) → IsRefused (tree_of t) l d m E2
unsuited t l d m id v found known never = (known_so (tree_of t) m id known, λ suits. never (slots_suit t m v found suits))

-- They do, and are too long or too many.
pub unfit : (t : Templates) (l : Limits) (d : Dictionary) (m : MessageData) (id : ℕ) (v : Template)
    → slice_get (templates_of t) m.template ≡ Some v → IsKnownAs (tree_of t) m id
    → SuitsBody (body_among (nodes_of t) v.body.items) m.slots → ¬ (FitsLimits l m.slots) → IsRefused (tree_of t) l d m E4
unfit t l d m id v found known suits never = (known_so (tree_of t) m id known, template_suits t m v found suits, never)

-- An answer is not both.
pub never_true : {A : Type 0} → IsTrue false → A
never_true e = absurd (cc e)

pub never_false : {A : Type 0} → IsFalse true → A
never_false e = absurd (cc e)
