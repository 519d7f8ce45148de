use Rattle.std.proofs.Common.{◌∙◌, ◌++◌}
use Rattle.std.proofs.lemmas.Nat.{and_mask}
use Rattle.fast_fronts.proofs.stop_bits.FrontWords.{first_is}
use Rattle.fast_fronts.proofs.stop_bits.Loaded.{byte_at, padded_are}
use Rattle.fast_fronts.proofs.stop_bits.ShortEntities.{are_bytes}
use Rattle.fast_fronts.proofs.words.first_in.Goals as goal

pub returns : goal.returns
returns c =
    let bytes = c.args.bytes.now in
    let loaded = c.requires.front in
    let are = padded_are bytes loaded.zeros (are_bytes bytes c.type_inv.bytes) loaded.none in
    and_mask c.args.word 8 ∙ first_is c.args.word (bytes ++ loaded.zeros) are loaded.front ∙ byte_at bytes loaded.zeros loaded.none 0
