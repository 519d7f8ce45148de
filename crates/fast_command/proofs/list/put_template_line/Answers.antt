use Rattle.std.proofs.Common.{◌≡◌, ap, sym, ◌∙◌}
use Rattle.std.specs.Prelude.{decimal, string_bytes}
use Rattle.fast_text.proofs.Writing.{writes_both, writes_same}
use Rattle.fast_tree.specs.declared.instructions.Template.{Template}
use Rattle.fast_command.specs.meaning.Listing.{id_words, flag_word}
use Rattle.fast_command.proofs.Lists.{same_found}
use Rattle.fast_command.proofs.list.put_template_line.Goals as goal

pub returns : goal.returns
returns g c t found =
    let is : c.template-template.result.now ≡ t = same_found (sym c.template-template.ensures.found ∙ found) in
    let number = writes_both c.put.ensures (writes_same (ap decimal c.from.ensures) c.put_unsigned.ensures) in
    let name = writes_same (c.as_bytes.ensures.value ∙ ap (λ (u : Template). string_bytes u.name) is) c.put-3.ensures in
    let id = writes_same (ap (λ (u : Template). id_words u.id) is) c.put_id.ensures in
    let flag = writes_same (c.as_bytes-2.ensures.value ∙ c.flag_text.ensures ∙ ap (λ (u : Template). flag_word u.reset) is) c.put-6.ensures in
    let bits = writes_same (ap decimal (c.message_bits.ensures t found)) c.put_unsigned-2.ensures in
    let named = writes_both (writes_both number c.put-2.ensures) name in
    let with_id = writes_both (writes_both named c.put-4.ensures) id in
    let with_flag = writes_both (writes_both with_id c.put-5.ensures) flag in
    writes_both (writes_both (writes_both with_flag c.put-7.ensures) bits) c.put-8.ensures
