use Rattle.std.proofs.lemmas.Result.{err_from_is_err_and}
use Rattle.fast_text.proofs.front.front_text.Goals as goal

pub returns-in_err-text : goal.returns-in_err-text
returns-in_err-text c = rw ((err_from_is_err_and c.from_residual.result c.from_residual.ensures.1).1) tt

pub returns-in_err-extend_from_slice : goal.returns-in_err-extend_from_slice
returns-in_err-extend_from_slice c = rw ((err_from_is_err_and c.from_residual-in_err-extend_from_slice.result
    c.from_residual-in_err-extend_from_slice.ensures.1).1) tt

pub returns-in_err-extend_from_slice-2 : goal.returns-in_err-extend_from_slice-2
returns-in_err-extend_from_slice-2 c = rw ((err_from_is_err_and c.from_residual-in_err-extend_from_slice-2.result
    c.from_residual-in_err-extend_from_slice-2.ensures.1).1) tt

pub returns-in_err-extend_from_slice-3 : goal.returns-in_err-extend_from_slice-3
returns-in_err-extend_from_slice-3 c = rw ((err_from_is_err_and c.from_residual-in_err-extend_from_slice-3.result
    c.from_residual-in_err-extend_from_slice-3.ensures.1).1) tt

pub returns-in_err-extend_from_slice-4 : goal.returns-in_err-extend_from_slice-4
returns-in_err-extend_from_slice-4 c = rw ((err_from_is_err_and c.from_residual-in_err-extend_from_slice-4.result
    c.from_residual-in_err-extend_from_slice-4.ensures.1).1) tt
