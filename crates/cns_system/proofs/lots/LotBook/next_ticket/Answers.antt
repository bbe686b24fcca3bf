use Rattle.std.proofs.Common.{◌≡◌, ◌∙◌, Ok, Err, refl, rules}
use Rattle.cns_system.specs.Lots.{HasNone, going_lot}
use Rattle.cns_system.proofs.lots.LotBook.next_ticket.Goals as goal

pub returns-in_err-find : goal.returns-in_err-find
returns-in_err-find c =
    let none : HasNone c.args.self.now.lots c.args.number c.in_err-find.field-0.0 = search rules in
    let answer : c.from_residual.result ≡ Err c.in_err-find.field-0.0 = search rules in
    answer ∙ rw none refl

pub returns : goal.returns
returns c =
    let is : going_lot c.args.self.now.lots c.args.number ≡ Ok c.in_ok-find.field-0.now = search rules in
    c.next_ticket.ensures ∙ rw is refl
