use Rattle.std.proofs.Common.{leb, ltb, rules}
use Rattle.std.proofs.lemmas.List.Sorted.{IsPartitionPoint-from_clause, IsPartitionedBy-leb, IsPartitionedBy-ltb}
use Rattle.cns_netting.specs.declared.position.PositionRow.{PositionRow}
use Rattle.cns_ids.proofs.ListLemmas.{IsNonDecreasingBy-behind, part_of_number}
use Rattle.cns_netting.proofs.rows.rows_of_issue.Goals as goal

pub returns : goal.returns
returns c =
    let issue = c.args.issue in
    let by_issue = λ (r : PositionRow). r.issue in
    let rows = c.args.rows.now in
    let first = c.partition_point-first.result in
    part_of_number by_issue issue rows first c.partition_point-count.result
    (IsPartitionPoint-from_clause (λ (r : PositionRow). ltb r.issue issue) _ _ c.partition_point-first.ensures.partitioned (IsPartitionedBy-ltb by_issue _ issue c.requires) (λ a r q k. search rules))
    (IsPartitionPoint-from_clause (λ (r : PositionRow). leb r.issue issue) _ _ c.partition_point-count.ensures.partitioned
    (IsPartitionedBy-leb by_issue _ issue (IsNonDecreasingBy-behind by_issue rows first c.requires)) (λ a r q k. search rules))
