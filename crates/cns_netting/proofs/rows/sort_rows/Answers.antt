use Rattle.std.proofs.Common.{rules}
use Rattle.std.proofs.lemmas.List.Sorted.{answers_always, ranks_by, sorted_far, sum_by-IsPermutation}
use Rattle.cns_netting.specs.Positions.{holding_of}
use Rattle.cns_netting.proofs.HoldingLemmas.{holding_order}
use Rattle.cns_netting.proofs.OrderLemmas.{in_order}
use Rattle.cns_netting.proofs.rows.sort_rows.Goals as goal

pub returns-clause-sums : goal.returns-clause-sums
returns-clause-sums c = λ f. sum_by-IsPermutation f _ _ c.sort_unstable_by_key.ensures.permutation

pub returns-clause-order : goal.returns-clause-order
returns-clause-order c =
    in_order _ (sorted_far _ (ranks_by holding_order holding_of) _ (c.sort_unstable_by_key.ensures.sorted holding_of (answers_always _ _ _ (λ f a r g h. search rules))))
