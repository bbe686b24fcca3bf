use Rattle.std.proofs.Common.{refl, rules}
use Rattle.cns_clearing.specs.Answers.{trade_call}
use Rattle.cns_clearing.proofs.CallsLemmas.{adds, trade_new, trade_other}
use Rattle.cns_clearing.proofs.clearing.Clearing.take_trade.Goals as goal

pub returns-in_err-up : goal.returns-in_err-up
unfolding trade_call
returns-in_err-up g c = rw c.in_err-up.ensures.down.1 (search rules, refl)

pub returns-then-ne : goal.returns-then-ne
returns-then-ne g c = trade_other _ _ _ (search rules) (search rules) (search rules)

pub returns-in_err-add : goal.returns-in_err-add
returns-in_err-add g c = adds _ _ _ _ _ _ _ (trade_new _ _ _ (search rules) (search rules)) (search rules) c.add.ensures.commits

pub returns : goal.returns
returns g c = adds _ _ _ _ _ _ _ (trade_new _ _ _ (search rules) (search rules)) (search rules) c.add.ensures.commits
