use Rattle.std.proofs.Common.{◌≡◌, ◌∙◌, ap, arith}
use Rattle.cns_depository.specs.Stock.{brought_to, held_in, taken_from}
use Rattle.cns_depository.specs.declared.account.Side.TheVariants.{Outside}
use Rattle.cns_depository.specs.declared.moved.Moved.{Moved}
use Rattle.cns_depository.proofs.stock.Stock.held.Goals as goal

pub returns : goal.returns
unfolding held_in
returns c = λ p are.
    let issue = c.args.issue in
    let entered : c.moved_of-moved.result.entered ≡ brought_to p Outside issue =
    ap (λ (m : Moved). m.entered) c.moved_of-moved.ensures ∙ are.sums.entered Outside issue in
    let left : c.moved_of-moved.result.left ≡ taken_from p Outside issue =
    ap (λ (m : Moved). m.left) c.moved_of-moved.ensures ∙ are.sums.left Outside issue in
    omega (
      arith,
      c.saturating_sub.ensures,
      c.saturating_add-brought.ensures,
      c.sum.ensures.sum,
      c.sum.ensures.small,
      entered,
      left,
      are.sums.few,
      are.sums.left_small Outside issue,
    )
