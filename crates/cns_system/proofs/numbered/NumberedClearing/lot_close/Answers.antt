use Rattle.std.proofs.Common.{◌≡◌, List, Ok, Err, sym, subst, refl, rules}
use Rattle.cns_records.specs.Refusals.{commit_refusal}
use Rattle.cns_records.specs.declared.refusal.Refusal.TheVariants as refusal
use Rattle.cns_records.proofs.CallLemmas.{refused}
use Rattle.cns_system.specs.Lots.{going_lot}
use Rattle.cns_clearing.specs.declared.lot.Lot.{Lot}
use Rattle.cns_system.specs.Numbered.{AreTied, IsNumberedCommit, with_lot_ended}
use Rattle.cns_system.proofs.NumberedLemmas.{close_down, close_lots, close_none, close_tied, close_unserved, closed_by, end_is, served_by}
use Rattle.cns_system.proofs.LotsLemmas.{going_parts}
use Rattle.cns_system.proofs.numbered.NumberedClearing.lot_close.Goals as goal

pub returns-in_err-lot : goal.returns-in_err-lot
returns-in_err-lot g c =
    refused commit_refusal (IsNumberedCommit (with_lot_ended c.args.number)) _ c.in_err-lot.field-0.0 _ c.args.self.now _
    (close_none c.args.number _ _ _ c.args.self.now.lots c.in_err-lot.field-0.0 (search rules)) (search rules) (search rules)

pub returns-then-is_down : goal.returns-then-is_down
returns-then-is_down g c =
    rw (← c.self.view_is)
    (refused commit_refusal (IsNumberedCommit (with_lot_ended c.args.number)) _ refusal.Down _ _ _
    (close_down c.args.number _ _ _ c.self.inside.lots.lots c.in_ok-lot.lot.now (search rules) (search rules)) refl refl)

pub returns-then-not-is_served : goal.returns-then-not-is_served
returns-then-not-is_served g c =
    rw (← c.self.view_is)
    (refused commit_refusal (IsNumberedCommit (with_lot_ended c.args.number)) _ refusal.Unserved _ _ _
    (close_unserved c.args.number _ _ _ c.self.inside.lots.lots c.in_ok-lot.lot.now (search rules) (search rules) (search rules)) refl refl)

pub lot_close_served-requires : goal.lot_close_served-requires
lot_close_served-requires g c =
    let going : going_lot c.self.inside.lots.lots c.args.number ≡ Ok c.in_ok-lot.lot.now = search rules in
    record {
      served = rw (c.issue.ensures, c.tickets.ensures, c.is_sealed.ensures)
          (served_by c.args.number c.self.inside.node.lots c.self.inside.lots.lots c.in_ok-lot.lot.now c.self.invariant (going_parts _ _ _ going) (search rules));
    }

pub invariant_of-self : goal.invariant_of-self
invariant_of-self g c =
    let node = c.self.inside.node in
    let lots = c.self.inside.lots.lots in
    let lot = c.in_ok-lot.lot.now in
    let left = rw (c.issue.ensures, c.tickets.ensures, c.is_sealed.ensures) at c.in_err-closed.ensures in
    subst (λ (ls : List Lot). AreTied ls lots) (sym (close_lots node c.lot_close_served.new.self lot (Err c.in_err-closed.field-0.0) left)) c.self.invariant

pub returns-in_err-closed : goal.returns-in_err-closed
returns-in_err-closed g c =
    let node = c.self.inside.node in
    let lots = c.self.inside.lots.lots in
    let lot = c.in_ok-lot.lot.now in
    let left = rw (c.issue.ensures, c.tickets.ensures, c.is_sealed.ensures) at c.in_err-closed.ensures in
    let answer : c.from_residual-in_err-closed.result ≡ Err c.in_err-closed.field-0.0 = search rules in
    rw (← c.self.view_is, answer)
    (closed_by c.args.number (record { clear = node; lots = lots }) lot (Err c.in_err-closed.field-0.0) c.lot_close_served.new.self lots (search rules) (search rules) (search rules)
    left tt refl)

pub invariant_of-self-2 : goal.invariant_of-self-2
invariant_of-self-2 g c =
    let node = c.self.inside.node in
    let lots = c.self.inside.lots.lots in
    let lot = c.in_ok-lot.lot.now in
    let going : going_lot lots c.args.number ≡ Ok lot = search rules in
    let left = rw (c.issue.ensures, c.tickets.ensures, c.is_sealed.ensures) at c.in_ok-closed.ensures in
    let ended = end_is lots c.end-ended.new.self.lots c.args.number lot c.end-ended.result going c.end-ended.ensures in
    close_tied node c.lot_close_served.new.self lots c.end-ended.new.self.lots c.args.number lot c.self.invariant going
    (close_lots node c.lot_close_served.new.self lot (Ok c.in_ok-closed.closed) left) ended

pub returns : goal.returns
returns g c =
    let node = c.self.inside.node in
    let lots = c.self.inside.lots.lots in
    let lot = c.in_ok-lot.lot.now in
    let going : going_lot lots c.args.number ≡ Ok lot = search rules in
    let left = rw (c.issue.ensures, c.tickets.ensures, c.is_sealed.ensures) at c.in_ok-closed.ensures in
    let ended = end_is lots c.end-ended.new.self.lots c.args.number lot c.end-ended.result going c.end-ended.ensures in
    rw (← c.self.view_is)
    (closed_by c.args.number (record { clear = node; lots = lots }) lot (Ok c.in_ok-closed.closed) c.lot_close_served.new.self c.end-ended.new.self.lots going (search rules) (search rules) left ended tt)
