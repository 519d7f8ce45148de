use Rattle.std.specs.Str.Parse.{ParsesUnsigned, ExplainsUnsignedError, HasUnsignedDigitsIfOk}
use Rattle.clap.specs.Matches.{found_of}
use Rattle.fast_words.proofs.Given.{number_if_read}
use Rattle.fast_words.proofs.words.number_if.Goals as goal

pub returns : goal.returns
returns c =
    number_if_read (found_of c.args.matches.now) c.args.name.now c.get_one.result c.get_one.ensures.none c.get_one.ensures.value
    (λ t x (h : ParsesUnsigned 32 10 t x × ExplainsUnsignedError 10 t x × HasUnsignedDigitsIfOk t x). h.0)
