use Rattle.std.proofs.Common.{◌≡◌, true, false, None, Ok, refl, sym, rules}
use Rattle.cns_records.specs.Call.{answered}
use Rattle.cns_depository.specs.Answers.{dep_fault, reply_to}
use Rattle.cns_depository.specs.Stock.{executed_of, movement, movement_of}
use Rattle.cns_depository.specs.declared.fault.Answer.TheVariants.{Done}
use Rattle.cns_depository.proofs.NodeLemmas.{order_down, order_known, order_new}
use Rattle.cns_depository.proofs.depository.Depository.take_order.Goals as goal

-- the node is down
pub returns-then-is_down : goal.returns-then-is_down
returns-then-is_down g c =
    let down : c.args.self.now.log.down ≡ true = search rules in
    rw (order_down _ _ _ _ down) (refl, refl)

-- the number is known
pub returns-in-Some : goal.returns-in-Some
returns-in-Some g c =
    let up : c.args.self.now.log.down ≡ false = search rules in
    rw (order_known _ _ _ _ c.in-Some.known up (sym c.in-Some.ensures)) (c.again.ensures c.args.self.now)

-- the order is new, and its record was not committed
pub returns-in_err-execute : goal.returns-in_err-execute
returns-in_err-execute g c =
    let up : c.args.self.now.log.down ≡ false = search rules in
    let none : movement_of (executed_of c.args.self.now.log.records) c.args.order.now.number ≡ None = search rules in
    let is : c.movement-movement.result ≡ movement c.args.self.now.openings c.args.self.now.log.records c.args.order.now = search rules in
    let answer : c.from_residual.result ≡ answered dep_fault (Done (reply_to (movement c.args.self.now.openings c.args.self.now.log.records c.args.order.now))) c.execute.result = search rules in
    rw (order_new _ _ _ _ up none) (c.execute.result, answer, rw is at c.execute.ensures)

-- or it was
pub returns : goal.returns
returns g c =
    let up : c.args.self.now.log.down ≡ false = search rules in
    let none : movement_of (executed_of c.args.self.now.log.records) c.args.order.now.number ≡ None = search rules in
    let is : c.movement-movement.result ≡ movement c.args.self.now.openings c.args.self.now.log.records c.args.order.now = search rules in
    let answer : Ok (Done c.reply.result) ≡ answered dep_fault (Done (reply_to (movement c.args.self.now.openings c.args.self.now.log.records c.args.order.now))) c.execute.result = search rules in
    rw (order_new _ _ _ _ up none) (c.execute.result, answer, rw is at c.execute.ensures)
