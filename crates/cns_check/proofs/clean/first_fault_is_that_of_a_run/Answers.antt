use Rattle.cns_check.proofs.CleanLemmas.{first_of_opening, first_of_trade}
use Rattle.cns_check.proofs.clean.first_fault_is_that_of_a_run.Goals as goal

pub returns : goal.returns
returns c = record { trades = first_of_trade; openings = first_of_opening }
