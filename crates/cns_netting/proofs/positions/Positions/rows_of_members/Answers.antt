use Rattle.std.proofs.Common.{◌≡◌, ◌∙◌, ap, arith, Some}
use Rattle.std.specs.Map.{lookup}
use Rattle.cns_ids.specs.Holding.{holding_at, holding_eq}
use Rattle.cns_ids.specs.declared.holding.Holding.{Holding}
use Rattle.cns_netting.specs.Positions.{Holdings, row_if, row_part}
use Rattle.cns_netting.proofs.MemberLemmas.{looked_up, member_more, sum_by_members}
use Rattle.cns_netting.proofs.positions.Positions.rows_of_members.Goals as goal

pub loop-number-preserved : goal.loop-number-preserved
loop-number-preserved c = λ f.
    let positions = c.args.self.now.entries in
    let k = holding_at c.args.issue c.member_after-member.result in
    member_more (λ (q : Holding). row_part f (row_if (Some c.args.issue) q (lookup (holding_eq q) positions))) c.loop-number.number c.args.issue c.member_after-member.result _ _ _
    c.member_after-member.ensures
    (ap (row_part f) (looked_up c.args.issue (lookup (holding_eq k) positions) c.position-position.result k c.position-position.ensures))
    (c.in_ok-put_row.ensures.sums f) (c.loop-number.invariant f)

pub returns : goal.returns
returns c = λ h are f.
    let all : c.loop-number.number ≡ 9999 = omega arith in
    let members = rw (ap (λ (p : Holdings). p.entries) c.self.view_is) at c.self.invariant.members in
    (rw all at c.loop-number.invariant f) ∙ sum_by_members c.args.issue c.args.self.now.entries h f members are
