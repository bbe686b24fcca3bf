use Rattle.std.proofs.Common.{take}
use Rattle.std.specs.Prelude.{All}
use Rattle.cns_depository.specs.Stock.{executed_of}
use Rattle.cns_system.specs.Agreement.{IsExecuted}
use Rattle.cns_system.proofs.agreement.are_executed.Given as goal

abbrev pub invariant-loop-reply : goal.invariant-loop-reply
invariant-loop-reply g l = All (IsExecuted (executed_of l.depot.log.records)) (take l.reply-index l.replies)
