use Rattle.std.proofs.Common.{refl, rules}
use Rattle.cns_records.proofs.CallLemmas.{grown, no_room, not_grown}
use Rattle.cns_clearing.specs.Answers.{open_call}
use Rattle.cns_clearing.proofs.CallsLemmas.{open_again, opens}
use Rattle.cns_clearing.proofs.clearing.Clearing.lot_open.Goals as goal

pub returns-in_err-up-clause-lots : goal.returns-in_err-up-clause-lots
unfolding open_call
returns-in_err-up-clause-lots g c = rw c.in_err-up.ensures.down.1 (search rules, refl)

pub returns-then-is_some-clause-lots : goal.returns-then-is_some-clause-lots
returns-then-is_some-clause-lots g c = not_grown _ _ _ _ _ _ (open_again _ _ _ _ (search rules) (search rules)) refl refl

pub returns-in_err-plan-clause-lots : goal.returns-in_err-plan-clause-lots
returns-in_err-plan-clause-lots g c = no_room _ _ _ _ _ _ _ (opens _ _ _ _ (search rules) (search rules)) (search rules) refl

pub returns-in_err-answer-clause-lots : goal.returns-in_err-answer-clause-lots
returns-in_err-answer-clause-lots g c = no_room _ _ _ _ _ _ _ (opens _ _ _ _ (search rules) (search rules)) (search rules) refl

pub returns-in_err-lot_open_with-clause-lots : goal.returns-in_err-lot_open_with-clause-lots
returns-in_err-lot_open_with-clause-lots g c = no_room _ _ _ _ _ _ _ (opens _ _ _ _ (search rules) (search rules)) (search rules) (search rules)

pub returns-clause-lots : goal.returns-clause-lots
returns-clause-lots g c = grown _ _ _ _ _ _ _ (opens _ _ _ _ (search rules) (search rules)) (search rules) (search rules)
