use Rattle.std.proofs.Common.{◌∙◌, true, false, sym, refl, rules}
use Rattle.std.proofs.lemmas.Bool.{true≢false}
use Rattle.cns_clearing.specs.Answers.{tested_close_call}
use Rattle.cns_clearing.proofs.CallsLemmas.{tested_bad}
use Rattle.cns_clearing.proofs.clearing.Clearing.lot_close.Goals as goal

pub lot_close_served-requires : goal.lot_close_served-requires
lot_close_served-requires g c = record { served = c.is_served.ensures.served c.if-not-is_served.false }

pub returns-in_err-up : goal.returns-in_err-up
unfolding tested_close_call
returns-in_err-up g c = (true, (λ up. absurd (true≢false (sym c.in_err-up.ensures.down.1 ∙ up))), rw c.in_err-up.ensures.down.1 (search rules, refl))

pub returns-then-not-is_served : goal.returns-then-not-is_served
returns-then-not-is_served g c =
    let (lot, found, bad) = c.is_served.ensures.bad c.if-not-is_served.true in (
      false,
      (λ up. (λ is. absurd (true≢false (sym is)), λ served. absurd (bad (served lot found)))),
      tested_bad _ _ _ _ lot c.in_ok-up.ensures.up found,
    )

pub returns : goal.returns
returns g c = (true, (λ up. (λ is. c.is_served.ensures.served c.if-not-is_served.false, λ served. refl)), c.lot_close_served.ensures)
