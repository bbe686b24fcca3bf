use Rattle.std.proofs.Common.{refl, rules}
use Rattle.cns_clearing.specs.Answers.{reply_call}
use Rattle.cns_clearing.proofs.CallsLemmas.{adds, reply_again, reply_done, reply_much, reply_other, reply_unknown}
use Rattle.cns_clearing.proofs.clearing.Clearing.take_reply.Goals as goal

pub returns-in_err-up : goal.returns-in_err-up
unfolding reply_call
returns-in_err-up g c = rw c.in_err-up.ensures.down.1 (search rules, refl)

pub returns-in-Again : goal.returns-in-Again
returns-in-Again g c = reply_again _ _ (search rules) (search rules)

pub returns-in-UnknownMove : goal.returns-in-UnknownMove
returns-in-UnknownMove g c = reply_unknown _ _ (search rules) (search rules)

pub returns-in-Conflict : goal.returns-in-Conflict
returns-in-Conflict g c = reply_other _ _ (search rules) (search rules)

pub returns-in-TooMuch : goal.returns-in-TooMuch
returns-in-TooMuch g c = reply_much _ _ (search rules) (search rules)

pub returns-in_err-add : goal.returns-in_err-add
returns-in_err-add g c = adds _ _ _ _ _ _ _ (reply_done _ _ _ (search rules) (search rules)) (search rules) c.add.ensures.commits

pub returns : goal.returns
returns g c = adds _ _ _ _ _ _ _ (reply_done _ _ _ (search rules) (search rules)) (search rules) c.add.ensures.commits
