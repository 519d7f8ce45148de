-- What a decoder stores, and what it has handed over, is bounded by its template set and limits.
use Rattle.std.proofs.Common.{◌≡◌, ◌∙◌, subst, sym, arith}
use Rattle.std.proofs.Math.Nat.{add-mul}
use Rattle.std.specs.Prelude.{ℕ, ◌+◌, ◌-◌, ◌*◌, ◌≤◌, List, length, vec_len}
use Rattle.fast_value.specs.declared.settings.Limits.{Limits}
use Rattle.fast_tree.specs.meaning.Sizes.{set_depth, message_cap, stored_cap}
use Rattle.fast_dict.specs.meaning.Slots.{slots_dictionary, slots_sized, slots_bounded}
use Rattle.fast_machine.specs.declared.machine.Machine.{Machine}
use Rattle.fast_stream.specs.meaning.Events.{EventData}
use Rattle.fast_stream.specs.meaning.Account.{held, Account, account_at}
use Rattle.fast_stream.specs.meaning.Streams.{End}
use Rattle.fast_stream.specs.meaning.Begins.{Begins}
use Rattle.fast_machine.specs.device.Positions.{Set, tree_in, IsSupplied}
use Rattle.fast_decoder.specs.meaning.Decoding.{DecoderData, tree, HasRead, account, stored_by, stored}
use Rattle.fast_stream.proofs.streams.Bound.{consumed-bound}
use Rattle.fast_stream.proofs.streams.Caps.{stream_begins, begun_bound}
use Rattle.fast_decoder.proofs.streams.Ends.{read-stream}

sum : (t c b e dep H k max km km2 : ℕ) → t ≡ max → c ≡ 22 + max → b + e ≤ km + k → dep ≡ H → km2 ≡ km + 2 * max
    → t + (c - 22) + b + e + dep + 146 * (dep + 1) ≤ km2 + k + 147 * (H + 1)
sum t c b e dep H k max km km2 text carry slots depth product = omega (arith, text, carry, slots, depth, product)

-- A machine that is supplied stores no more than the cap.
pub stored-bound : (set : Set) (l : Limits) (m : Machine) → IsSupplied set l m → held (stored_by m) ≤ stored_cap (tree_in set) l
stored-bound set l m h =
    let slots = subst (λ k. vec_len m.slots.block + vec_len m.slots.entries ≤ k * l.max_text + k) (slots_sized m.slots ∙ h.entries)
    (subst (λ n. vec_len m.slots.block + vec_len m.slots.entries ≤ length (slots_dictionary m.slots) * n + length
    (slots_dictionary m.slots)) h.max_text (slots_bounded m.slots)) in
    sum m.text.capacity m.carry.bytes.capacity (vec_len m.slots.block) (vec_len m.slots.entries) m.cursor.depth
    (set_depth (tree_in set)) set.entries l.max_text (set.entries * l.max_text) ((set.entries + 2) * l.max_text)
    h.text_room h.carry_room slots h.depth (add-mul set.entries 2 l.max_text)

-- A decoder that bytes led to stores no more than the cap.
pub read-bounded : (d : DecoderData) (w : List ℕ) (es : List EventData) → HasRead d w es → held (stored d) ≤ stored_cap (tree d) d.limits
read-bounded d w es so = stored-bound d.set d.limits d.machine so.sound.supplied

-- It has handed over no more events than its cap for each byte consumed.
pub read-events : (d : DecoderData) (w : List ℕ) (es : List EventData) → HasRead d w es → length es ≤ (account d).consumed * message_cap (tree d) d.limits
read-events d w es so =
    let (e, stream, ends) = read-stream d w es so in
    subst (λ (s : Account). length es ≤ s.consumed * message_cap (tree d) d.limits) (sym ends) (consumed-bound (tree d) d.limits w es e stream)

-- Nor more than its cap for each message begun.
pub read-messages : (d : DecoderData) (w : List ℕ) (es : List EventData) → HasRead d w es
    → (e : End) × (n : ℕ) × (account d ≡ account_at w e) × Begins (tree d) d.limits w e n × (length es ≤ n * message_cap (tree d) d.limits)
read-messages d w es so =
    let (e, stream, ends) = read-stream d w es so in
    let (n, begins) = stream_begins (tree d) d.limits w es e stream in
    (e, n, ends, begins, begun_bound (tree d) d.limits w es e n stream begins)
