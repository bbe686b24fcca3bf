use Rattle.std.proofs.Common.{rules}
use Rattle.cns_clearing.specs.Answers.{order_call}
use Rattle.cns_clearing.proofs.clearing.Clearing.order.Goals as goal

pub returns-in_err-up : goal.returns-in_err-up
unfolding order_call
returns-in_err-up g c = rw c.in_err-up.ensures.down.1 (search rules)

pub returns : goal.returns
unfolding order_call
returns g c = rw c.in_ok-up.ensures.up (search rules)
