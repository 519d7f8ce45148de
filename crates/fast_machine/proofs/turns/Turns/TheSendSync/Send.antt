-- A count of turns owns nothing, so it may move to another thread.
use denote.Param.Send.{IsSend, owning_send}
use Rattle.fast_machine.specs.contracts.turns.Turns.{the_row, the_type}

pub send : IsSend the_row
send = owning_send the_type tt (λ d. tt) (λ k x w. tt)
