-- The limits of a template set, and the most that it can cost: depth, events, turns, stored units.
use Rattle.std.specs.Prelude.{ℕ, suc, ◌+◌, ◌*◌, max, min, List, [], ◌∷◌, map}
use Rattle.fast_value.specs.declared.settings.Limits.{Limits}
use Rattle.fast_tree.specs.meaning.Tree.{Instruction, field, parts, group, sequence, Body, end, step, Tree}

-- the most bits of a segment: seven for each byte of the longest presence map
abbrev pub segment_limit : ℕ
segment_limit = 1022

-- the greatest depth of groups and sequences, and the longest chain of references
abbrev pub nesting_limit : ℕ
nesting_limit = 64

-- the most nodes of a set with references expanded
abbrev pub node_limit : ℕ
node_limit = 65536

-- the depth to which groups and sequences nest in a body
abbrev mutual
  pub depth : Instruction → ℕ
  depth (field l f) = 0
  depth (parts l e m) = 0
  depth (group l optional body) = suc (body_depth body)
  depth (sequence l length body) = suc (body_depth body)

  pub body_depth : Body → ℕ
  body_depth end = 0
  body_depth (step i is) = max (depth i) (body_depth is)

-- the greatest number of a list, and 0 if it is empty
abbrev pub greatest : List ℕ → ℕ
greatest [] = 0
greatest (n ∷ ns) = max n (greatest ns)

-- H: the depth of a set
abbrev pub set_depth : Tree → ℕ
set_depth t = greatest (map (λ u. body_depth u.body) t.templates)

-- The counts of a message: for a field, for a sequence without its elements, for a message beside its body. A group and an element count 2
-- beside theirs.
pub record Weights : Type 0 where
  pub field : ℕ
  pub sequence : ℕ
  pub message : ℕ

-- the events: one for a field, a start and an end for all others
abbrev pub event_weights : Weights
event_weights = record { field = 1; sequence = 2; message = 2 }

-- the turns of the machine
abbrev pub turn_weights : Weights
turn_weights = record { field = 2; sequence = 3; message = 4 }

-- the most that an instruction and a body can count, if each sequence has as many elements as one may have
abbrev mutual
  pub size : Weights → Limits → Instruction → ℕ
  size u l (field at f) = u.field
  size u l (parts at e m) = u.field
  size u l (group at optional body) = 2 + body_size u l body
  size u l (sequence at length body) = u.sequence + l.max_elements * (2 + body_size u l body)

  pub body_size : Weights → Limits → Body → ℕ
  body_size u l end = 0
  body_size u l (step i is) = size u l i + body_size u l is

-- the most that an instruction and a body can count, without the elements of sequences
abbrev mutual
  pub outer : Weights → Instruction → ℕ
  outer u (field at f) = u.field
  outer u (parts at e m) = u.field
  outer u (group at optional body) = 2 + body_outer u body
  outer u (sequence at length body) = u.sequence

  pub body_outer : Weights → Body → ℕ
  body_outer u end = 0
  body_outer u (step i is) = outer u i + body_outer u is

-- the greatest element at any depth, without the elements of the sequences in it
abbrev mutual
  pub widest : Weights → Instruction → ℕ
  widest u (field at f) = 0
  widest u (parts at e m) = 0
  widest u (group at optional body) = body_widest u body
  widest u (sequence at length body) = max (2 + body_outer u body) (body_widest u body)

  pub body_widest : Weights → Body → ℕ
  body_widest u end = 0
  body_widest u (step i is) = max (widest u i) (body_widest u is)

-- the most by the limit on each sequence, and the most by the limit on the elements of a message
abbrev pub product_cap : Weights → Tree → Limits → ℕ
product_cap u t l = greatest (map (λ s. u.message + body_size u l s.body) t.templates)

-- the most by the limit on the elements of a message
abbrev pub sum_cap : Weights → Tree → Limits → ℕ
sum_cap u t l = greatest (map (λ s. u.message + body_outer u s.body + l.max_total * body_widest u s.body) t.templates)

-- M: the most events of a message
abbrev pub message_cap : Tree → Limits → ℕ
message_cap t l = min (product_cap event_weights t l) (sum_cap event_weights t l)

-- W: the most turns of a message
abbrev pub turn_cap : Tree → Limits → ℕ
turn_cap t l = min (product_cap turn_weights t l) (sum_cap turn_weights t l)

-- S: the most bytes and records that a decoder stores: two buffered strings and one for each entry, the entries, and a frame with its map
-- for the message and for each level of nesting
abbrev pub stored_cap : Tree → Limits → ℕ
stored_cap t l = (t.entries + 2) * l.max_text + t.entries + 147 * (set_depth t + 1)
