-- A message that begins.
use Rattle.std.proofs.Common.{refl, sym, ap, ◌∙◌, subst, arith, inr}
use Rattle.std.specs.Prelude.{◌≡◌, ℕ, zero, suc, ◌≤◌, Bool, true, false, if◌then◌else◌, map, List, [], ◌∷◌, length, slice_get, Option, Some, IfSome}
use Rattle.std.specs.Borrow.{Bor}
use Rattle.fast_wire.specs.meaning.Entities.{IsEntity}
use Rattle.fast_wire.specs.meaning.Maps.{later_bits}
use Rattle.fast_value.specs.declared.settings.Limits.{Limits}
use Rattle.fast_value.specs.meaning.Limits.{Bounds}
use Rattle.fast_tree.specs.meaning.Tree.{Instruction, identifier}
use Rattle.fast_tree.specs.meaning.Numbers.{AreBelow}
use Rattle.fast_tree.specs.meaning.Sizes.{greatest, body_depth}
use Rattle.fast_tree.specs.declared.instructions.Template.{Template}
use Rattle.fast_tree.specs.meaning.Nodes.{template_data, instructions_from}
use Rattle.fast_dict.specs.meaning.Dictionary.{Dictionary, reset}
use Rattle.fast_dict.specs.meaning.Slots.{slots_terms}
use Rattle.fast_dict.specs.declared.slots.Slots.{Slots}
use Rattle.fast_program.specs.declared.starts.Start.{Start}
use Rattle.fast_cursor.specs.device.Cursors.{CursorData, resting, bits_left}
use Rattle.fast_stream.specs.meaning.Events.{MessageStart}
use Rattle.fast_stream.specs.device.Frames.{resume}
use Rattle.fast_stream.specs.device.GrammarReaders.{reader_of}
use Rattle.fast_stream.specs.meaning.Messages.{State, reset_if}
use Rattle.fast_stream.specs.device.Continuations.{message_of_then}
use Rattle.fast_machine.specs.device.Passing.{state_past}
use Rattle.fast_stream.specs.device.Readers.{Emit}
use Rattle.fast_machine.specs.device.Serving.{ServesNodes}
use Rattle.fast_machine.specs.device.Positions.{Set, body_in, frames_in, state_in, going_on, IsBehindMap, IsStartIn, CanTurn, AreFramesFit}
use Rattle.fast_machine.specs.declared.machine.Machine.{Machine}
use Rattle.fast_machine.specs.declared.turns.Turns.{Turns}
use Rattle.fast_stream.proofs.streams.Frames.{begin_message}

-- A template nests no deeper than its set.
pub no_deeper : (is : List Instruction) (ts : List Template) (i : ℕ) (t : Template) → slice_get ts i ≡ Some t
    → body_depth (template_data is t).body ≤ greatest (map (λ u. body_depth u.body) (map (template_data is) ts))
no_deeper is [] i t e = absurd (cc e)
no_deeper is (u ∷ us) zero t e =
    let same : u ≡ t = cc e in
    let own : body_depth (template_data is u).body ≡ body_depth (template_data is t).body = ap (λ (x : Template). body_depth (template_data is x).body) same in
    omega (arith, own)
no_deeper is (u ∷ us) (suc i) t e = let rest = no_deeper is us i t e in omega (arith, rest)

-- what a template leaves of the dictionary
reset-as : (b : Bool) (d : Dictionary) (bits : List Bool) → reset_if b (record {
  context = record { dictionary = d; counted = 0 };
  bits = bits;
}) ≡ record { context = record { dictionary = if b then reset d else d; counted = 0 }; bits = bits }
reset-as true d bits = refl
reset-as false d bits = refl

-- What is read of a message from its first event on.
pub begun : (set : Set) (s : Bool) (l : Bounds) (n : ℕ) (t : Template) (d d' : Dictionary) (c c' : CursorData)
    → d' ≡ (if t.reset then reset d else d) → c'.frames ≡ [] → c'.left ≡ t.body.items → bits_left c' ≡ later_bits (bits_left c)
    → reader_of s (message_of_then l n (template_data (instructions_from 0 set.nodes) t) (state_past identifier d 0 c)) ≡ Emit
    (MessageStart n) (reader_of s (going_on set l d' 0 c'))
begun set s l n t d d' c c' dictionary frames left bits =
    let on : List ℕ → State → _ = λ ns st. Emit (MessageStart n) (reader_of s (resume l [] (body_in set ns) st)) in
    ap (reader_of s) (begin_message l n (template_data (instructions_from 0 set.nodes) t) (state_past identifier d 0 c))
    ∙ ap (on t.body.items) (reset-as t.reset d (later_bits (bits_left c)))
    ∙ ap (λ x. on t.body.items (record { context = record { dictionary = x; counted = 0 }; bits = later_bits (bits_left c) })) (sym dictionary)
    ∙ ap (λ b. on t.body.items (record { context = record { dictionary = d'; counted = 0 }; bits = b })) (sym bits)
    ∙ ap (λ ns. on ns (state_in d' 0 c')) (sym left)
    ∙ ap (λ fs. Emit (MessageStart n) (reader_of s (resume l (frames_in set fs) (body_in set c'.left) (state_in d' 0 c')))) (sym frames)

-- The machine can turn.
pub begun_turns : (set : Set) (l : Limits) (m : Machine) (n : ℕ) (t : Template) (c : CursorData) (s : Slots) (turns : Turns)
    (latest : Option (Bor Start)) → IfSome latest (λ s. IsStartIn set s.now) → IsBehindMap set l m → slice_get set.templates n ≡ Some t
    → AreBelow (length set.nodes) t.body.items
    → slots_terms s ≡ slots_terms m.slots → c.frames ≡ [] → c.left ≡ t.body.items → c.map ≡ m.cursor.map → resting c ≡ resting m.cursor
    → CanTurn set l (record m {
      cursor = c;
      slots = s;
      counted = 0;
      turns = turns;
      latest = latest;
    })
begun_turns set l m n t c s turns latest known h found below terms frames left map rests =
    let depth : c.depth ≡ m.cursor.depth = ap (λ (x : CursorData). x.depth) rests in
    let deep = no_deeper (instructions_from 0 set.nodes) set.templates n t found in
    let room = h.supplied.depth in
    let none : length c.frames ≡ 0 = ap length frames in
    let body : body_depth (body_in set c.left) ≡ body_depth (body_in set t.body.items) = ap (λ ns. body_depth (body_in set ns)) left in
    record {
      supplied = record {
        entries = ap (λ x. x.entries) terms ∙ h.supplied.entries;
        serves = subst (λ x. ServesNodes set.entries x set.nodes) (sym terms) h.supplied.serves;
        some_entry = h.supplied.some_entry;
        max_text = ap (λ x. x.max_text) terms ∙ h.supplied.max_text;
        least_text = h.supplied.least_text;
        carry_room = h.supplied.carry_room;
        text_room = h.supplied.text_room;
        depth = depth ∙ room;
        program = ap (λ (x : CursorData). x.ops) rests ∙ h.supplied.program;
        identifier = h.supplied.identifier;
        counted = omega arith;
        latest = known;
      };
      placed = record {
        below = subst (AreBelow (length set.nodes)) (sym left) below;
        nested = omega (arith, deep, room, none, body, depth);
        frames = subst (λ fs. AreFramesFit set c.depth fs) (sym frames) tt;
      };
      mapped = inr (subst IsEntity (sym map) h.map);
    }
