use Rattle.std.proofs.Common.{◌≡◌, rules, true, arith, refl, [], ◌∷◌, Some, None}
use Rattle.std.specs.Result.{is_ok}
use Rattle.std.proofs.lemmas.List.{append-nil}
use Rattle.cns_trades.specs.FaultCode.{fault_of}
use Rattle.cns_trades.specs.Held.{Fit, rows_held}
use Rattle.cns_trades.proofs.HeldLemmas.{fit_more, held_more, length-rows_held}
use Rattle.cns_trades.proofs.rows.HeldRows.add.Goals as goal

pub invariant_of-self-in-Err : goal.invariant_of-self-in-Err
unfolding Fit
invariant_of-self-in-Err c =
    let at = c.self.inside in
    let fit = rw (append-nil at.trades.items) at (fit_more at.faults.items (Some c.in-Err.fault ∷ []) at.trades.items [] c.self.invariant tt) in
    rw (c.in_ok-push-in-Err.ensures.items, c.of.ensures) fit

pub returns-in-Err : goal.returns-in-Err
unfolding rows_held
returns-in-Err c =
    let at = c.self.inside in
    let held = rw (append-nil at.trades.items) at (held_more 1 at.faults.items (Some c.in-Err.fault ∷ []) at.trades.items [] c.self.invariant) in
    let size = length-rows_held 1 _ _ c.self.invariant in
    rw (c.in_ok-push-in-Err.ensures.items, c.of.ensures, held, c.in-Err.is, ← c.self.view_is, size) (search (rules, arith))

pub invariant_of-self-else-is_err : goal.invariant_of-self-else-is_err
unfolding Fit fault_of
invariant_of-self-else-is_err c =
    let at = c.self.inside in
    let ok : is_ok c.push-3.result ≡ true = search rules in
    let trades = rw ok at c.push-3.ensures.items in
    rw (c.in_ok-push.ensures.items, trades) (fit_more at.faults.items (None ∷ []) at.trades.items (c.in-Ok.trade ∷ []) c.self.invariant tt)

pub returns : goal.returns
unfolding rows_held fault_of
returns c =
    let at = c.self.inside in
    let ok : is_ok c.push-3.result ≡ true = search rules in
    let trades = rw ok at c.push-3.ensures.items in
    let held = held_more 1 at.faults.items (None ∷ []) at.trades.items (c.in-Ok.trade ∷ []) c.self.invariant in
    rw (c.in_ok-push.ensures.items, trades, held, ← c.self.view_is, c.in-Ok.is) refl
