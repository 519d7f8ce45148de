-- The equations of `item_data`, and one more slot or element at the end.
use Rattle.std.proofs.Common.{◌≡◌, suc, List, [], ◌∷◌, refl, ap, sym, ◌∙◌, length, map}
use Rattle.std.specs.Prelude.{Option, Some, None}
use Rattle.std.specs.declared.vec.Vec.{Vec}
use Rattle.std.specs.declared.alloc.Global.{Global}
use Rattle.std.specs.formers.vec.Vec.{mapped}
use Rattle.fast_value.specs.declared.values.Value.{Value}
use Rattle.fast_value.specs.declared.messages.Item.{Item}
use Rattle.fast_value.specs.declared.messages.Item.TheOpen.{One, Group, Sequence}
use Rattle.fast_value.specs.declared.messages.Item.TheVariants as V
use Rattle.fast_value.specs.declared.messages.Item.TheFolds.{fold-roll-Item}
use Rattle.fast_value.specs.declared.messages.Item.TheShapes.{former-Item-Group-0-at-1, former-Item-Sequence-0-at-1}
use Rattle.fast_value.specs.meaning.Values.{value_data}
use Rattle.fast_value.specs.meaning.Messages.{ItemData, one, group, sequence, absent, present, element, count}
use Rattle.fast_value.specs.meaning.Views.{item_data, item_step, slots_of, elements_of, slots_data, elements_data}

slots_mapped : (xs : List (Option Item)) → slots_of (map (former-Item-Group-0-at-1.map Item ItemData item_data) xs) ≡ slots_data xs
slots_mapped [] = refl
slots_mapped (None ∷ xs) = ap absent (slots_mapped xs)
slots_mapped (Some x ∷ xs) = ap (present (item_data x)) (slots_mapped xs)

row_mapped : (xs : List (Option Item)) → slots_of (map (former-Item-Sequence-0-at-1.map Item ItemData item_data) xs) ≡ slots_data xs
row_mapped [] = refl
row_mapped (None ∷ xs) = ap absent (row_mapped xs)
row_mapped (Some x ∷ xs) = ap (present (item_data x)) (row_mapped xs)

rows_mapped : (rs : List (Vec (Option Item) Global)) → elements_of
    (map (mapped {H = Global} (former-Item-Sequence-0-at-1.map Item ItemData item_data)) rs) ≡ elements_data rs
rows_mapped [] = refl
rows_mapped (r ∷ rs) =
    ap (λ s. element s (elements_of (map (mapped {H = Global} (former-Item-Sequence-0-at-1.map Item ItemData item_data)) rs))) (row_mapped r.items)
    ∙ ap (element (slots_data r.items)) (rows_mapped rs)

-- a value
pub item_data-One : (v : Value) → item_data (V.One v) ≡ one (value_data v)
item_data-One v = ap item_data (sym (V.rolls-One v)) ∙ fold-roll-Item ItemData item_step (One v)

-- a group
pub item_data-Group : (s : Vec (Option Item) Global) → item_data (V.Group s) ≡ group (slots_data s.items)
item_data-Group s = ap item_data (sym (V.rolls-Group s)) ∙ fold-roll-Item ItemData item_step (Group s) ∙ ap group (slots_mapped s.items)

-- a sequence
pub item_data-Sequence : (r : Vec (Vec (Option Item) Global) Global) → item_data (V.Sequence r) ≡ sequence (elements_data r.items)
item_data-Sequence r = ap item_data (sym (V.rolls-Sequence r)) ∙ fold-roll-Item ItemData item_step (Sequence r) ∙ ap sequence (rows_mapped r.items)

-- as many elements as rows
pub count-elements_data : (rs : List (Vec (Option Item) Global)) → count (elements_data rs) ≡ length rs
count-elements_data [] = refl
count-elements_data (r ∷ rs) = ap suc (count-elements_data rs)
