use Rattle.std.proofs.Common.{subst, sym}
use Rattle.std.specs.Str.Parse.{ParsesUnsigned, ExplainsUnsignedError, HasUnsignedDigitsIfOk}
use Rattle.clap.specs.Matches.{found_of}
use Rattle.clap.specs.Walk.{rows_of}
use Rattle.fast_words.specs.meaning.Words.{IsNumberAt}
use Rattle.fast_words.proofs.Given.{number_read}
use Rattle.fast_words.proofs.words.number_or.Goals as goal

pub returns : goal.returns
returns c =
    subst (IsNumberAt c.args.name.now (rows_of (found_of c.args.matches.now)) c.args.otherwise) (sym c.unwrap_or.ensures)
    (number_read (found_of c.args.matches.now) c.args.name.now c.get_one.result c.args.otherwise c.get_one.ensures.none
    c.get_one.ensures.value (λ t x (h : ParsesUnsigned 32 10 t x × ExplainsUnsignedError 10 t x × HasUnsignedDigitsIfOk t x). h.0))
