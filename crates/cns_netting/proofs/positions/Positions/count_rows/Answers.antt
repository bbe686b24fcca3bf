use Rattle.std.proofs.Common.{◌≡◌, ℕ, ◌∙◌, ap, arith, cond, None, Some}
use Rattle.std.specs.Prelude.{sum_by}
use Rattle.std.specs.Map.Iter.{deref_pair}
use Rattle.std.proofs.lemmas.Map.Iter.{rest_all}
use Rattle.cns_ids.specs.declared.holding.Holding.{Holding}
use Rattle.cns_netting.specs.Positions.{Holdings, row_if, row_part}
use Rattle.cns_netting.specs.declared.positions.Position.{Position}
use Rattle.cns_netting.specs.declared.position.PositionRow.{PositionRow}
use Rattle.cns_netting.proofs.RowLemmas.{sum_by_entries}
use Rattle.cns_netting.proofs.positions.Positions.count_rows.Goals as goal

pub returns : goal.returns
returns g c = λ h are.
    let unique = rw (ap (λ (p : Holdings). p.entries) c.self.view_is) at c.len-most.ensures.unique in
    let one : PositionRow → ℕ = λ row. cond (g.T.RowTest.passing c.args.test.now row) 1 0 in
    let none = rest_all deref_pair c.loop-holding.holding-iterator c.next.new.self c.next.result c.in-None.is c.next.ensures.steps in
    let weight : Holding × Position → ℕ = λ e. row_part one (row_if None e.0 (Some e.1)) in
    let all : c.loop-holding.count ≡ sum_by weight c.args.self.now.entries = omega (arith, c.loop-holding.invariant.sum, ap (sum_by weight) none) in
    all ∙ sum_by_entries None c.args.self.now.entries h one unique are
