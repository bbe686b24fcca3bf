use Rattle.std.proofs.Common.{refl, rules}
use Rattle.cns_clearing.specs.Answers.{setting_call}
use Rattle.cns_clearing.proofs.CallsLemmas.{adds}
use Rattle.cns_clearing.proofs.clearing.Clearing.set.Goals as goal

pub returns-in_err-up : goal.returns-in_err-up
unfolding setting_call
returns-in_err-up g c = rw c.in_err-up.ensures.down.1 (search rules, refl)

pub returns-in_err-add : goal.returns-in_err-add
unfolding setting_call
returns-in_err-add g c = adds _ _ _ _ _ _ _ (rw c.in_ok-up.ensures.up) (search rules) c.add.ensures.commits

pub returns : goal.returns
unfolding setting_call
returns g c = adds _ _ _ _ _ _ _ (rw c.in_ok-up.ensures.up) (search rules) c.add.ensures.commits
