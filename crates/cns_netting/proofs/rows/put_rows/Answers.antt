use Rattle.std.proofs.Common.{ap, arith, Some}
use Rattle.std.specs.Prelude.{sum_by}
use Rattle.std.specs.Map.Iter.{deref_pair}
use Rattle.std.proofs.lemmas.List.Sums.{sum_by-cons}
use Rattle.std.proofs.lemmas.Map.Iter.{rest_more}
use Rattle.cns_ids.specs.declared.holding.Holding.{Holding}
use Rattle.cns_netting.specs.Positions.{row_if, row_part}
use Rattle.cns_netting.specs.declared.positions.Position.{Position}
use Rattle.cns_netting.proofs.rows.put_rows.Goals as goal

pub loop-holding-preserved : goal.loop-holding-preserved
loop-holding-preserved c = λ f.
    let first = rest_more deref_pair c.loop-holding.holding-iterator c.next.new.self c.next.result (c.in-Some.holding, c.in-Some.position) c.in-Some.is c.next.ensures.steps in
    let weight = λ (e : Holding × Position). row_part f (row_if c.args.issue.now e.0 (Some e.1)) in
    omega (arith, c.loop-holding.invariant f, ap (sum_by weight) first, sum_by-cons weight (c.in-Some.holding.now, c.in-Some.position.now) c.next.new.self, c.in_ok-put_row.ensures.sums f)
