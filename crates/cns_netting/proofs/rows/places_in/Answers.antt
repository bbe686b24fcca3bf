use Rattle.std.proofs.Common.{ℕ, leb, ltb, rules}
use Rattle.std.proofs.lemmas.List.Sorted.{IsPartitionPoint-from_clause, IsPartitionedBy-leb, IsPartitionedBy-ltb}
use Rattle.cns_netting.specs.Positions.{issue_in}
use Rattle.cns_ids.proofs.ListLemmas.{IsNonDecreasingBy-behind, part_of_number}
use Rattle.cns_netting.proofs.PlaceLemmas.{stand_by_issue}
use Rattle.cns_netting.proofs.rows.places_in.Goals as goal

pub returns : goal.returns
returns c =
    let issue = c.args.issue in
    let by_issue : ℕ → ℕ = issue_in c.args.all.now.entries issue in
    let order = c.args.order.now in
    let first = c.partition_point-first.result in
    let by_order = stand_by_issue c.args.all.now.entries order issue c.requires in
    part_of_number by_issue issue order first c.partition_point-count.result
    (IsPartitionPoint-from_clause (λ (p : ℕ). ltb (by_issue p) issue) _ _ c.partition_point-first.ensures.partitioned (IsPartitionedBy-ltb by_issue _ issue by_order) (λ a r q k. search rules))
    (IsPartitionPoint-from_clause (λ (p : ℕ). leb (by_issue p) issue) _ _ c.partition_point-count.ensures.partitioned
    (IsPartitionedBy-leb by_issue _ issue (IsNonDecreasingBy-behind by_issue order first by_order)) (λ a r q k. search rules))
