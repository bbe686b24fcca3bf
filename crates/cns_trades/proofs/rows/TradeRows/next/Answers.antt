use Rattle.std.proofs.Common.{◌≡◌, ◌∷◌, [], Some, None, length, ap, rules, arith, refl}
use Rattle.cns_trades.specs.Held.{rows_held}
use Rattle.cns_trades.proofs.HeldLemmas.{no_trade, past_fault, past_trade}
use Rattle.cns_trades.proofs.rows.TradeRows.next.Goals as goal

pub returns-in_err-fault : goal.returns-in_err-fault
unfolding rows_held
returns-in_err-fault c =
    let none : c.self.inside.faults ≡ [] = search rules in
    let same : c.next.new.self ≡ c.self.inside.faults = search rules in
    let empty : c.args.self.now ≡ [] = rw (← c.self.view_is, none) refl in
    rw (same, c.self.view_is, empty) (search rules)

pub invariant_of-self-in-Some-1 : goal.invariant_of-self-in-Some-1
invariant_of-self-in-Some-1 c =
    let took : c.self.inside.faults ≡ Some c.in-Some.fault ∷ c.next.new.self = search rules in
    let size = ap length took in
    let few = c.self.invariant.1 in
    ((past_fault c.self.inside.number _ _ _ _ took c.self.invariant.0).0, omega (arith, size, few))

pub returns : goal.returns
returns c =
    let took : c.self.inside.faults ≡ Some c.in-Some.fault ∷ c.next.new.self = search rules in
    rw (← c.self.view_is) (past_fault c.self.inside.number _ _ _ _ took c.self.invariant.0).1

pub invariant_of-self-in_err-trade : goal.invariant_of-self-in_err-trade
invariant_of-self-in_err-trade c =
    let took : c.self.inside.faults ≡ None ∷ c.next.new.self = search rules in
    let none : c.self.inside.trades ≡ [] = search rules in
    absurd (no_trade _ _ _ took none c.self.invariant.0)

pub returns-in_err-trade : goal.returns-in_err-trade
returns-in_err-trade c =
    let took : c.self.inside.faults ≡ None ∷ c.next.new.self = search rules in
    let none : c.self.inside.trades ≡ [] = search rules in
    absurd (no_trade _ _ _ took none c.self.invariant.0)

pub invariant_of-self-in_default : goal.invariant_of-self-in_default
invariant_of-self-in_default c =
    let took : c.self.inside.faults ≡ None ∷ c.next.new.self = search rules in
    let first : c.self.inside.trades ≡ c.in_ok-trade.trade ∷ c.next-in_default.new.self = search rules in
    let size = ap length took in
    let few = c.self.invariant.1 in
    ((past_trade c.self.inside.number _ _ _ _ _ took first c.self.invariant.0).0, omega (arith, size, few))

pub returns-in_default : goal.returns-in_default
returns-in_default c =
    let took : c.self.inside.faults ≡ None ∷ c.next.new.self = search rules in
    let first : c.self.inside.trades ≡ c.in_ok-trade.trade ∷ c.next-in_default.new.self = search rules in
    rw (← c.self.view_is) (past_trade c.self.inside.number _ _ _ _ _ took first c.self.invariant.0).1
