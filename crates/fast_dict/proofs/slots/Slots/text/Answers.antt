-- The slot lies within the block.
use Rattle.std.proofs.Common.{rules, arith, ◌≡◌, ◌+◌, ◌<◌, ◌≤◌, ◌∙◌, sym, vec_len}
use Rattle.std.specs.Prelude.{Some, None, slice_index_or}
use Rattle.std.proofs.lemmas.List.{get_or_read_under}
use Rattle.fast_dict.proofs.slots.Slots.text.Goals as goal

pub overflow_add-result : goal.overflow_add-result
overflow_add-result c =
    let b : c.args.entry < vec_len c.args.self.now.places = omega (arith, c.args.self.now.paired) in
    let at : slice_index_or c.args.self.now.places.items c.args.entry None ≡ Some c.in-Some.place =
    sym (get_or_read_under _ _ _ _ None c.index.ensures b c.args.self.now.places.ok.0) ∙ c.in-Some.is in
    let h : c.in-Some.place + c.args.self.now.max_text ≤ vec_len c.args.self.now.block = c.args.self.now.within c.args.entry c.in-Some.place at in
    search (rules, h)

pub slice_bounds-result-end : goal.slice_bounds-result-end
slice_bounds-result-end c =
    let b : c.args.entry < vec_len c.args.self.now.places = omega (arith, c.args.self.now.paired) in
    let at : slice_index_or c.args.self.now.places.items c.args.entry None ≡ Some c.in-Some.place =
    sym (get_or_read_under _ _ _ _ None c.index.ensures b c.args.self.now.places.ok.0) ∙ c.in-Some.is in
    let h : c.in-Some.place + c.args.self.now.max_text ≤ vec_len c.args.self.now.block = c.args.self.now.within c.args.entry c.in-Some.place at in
    search (rules, h)
