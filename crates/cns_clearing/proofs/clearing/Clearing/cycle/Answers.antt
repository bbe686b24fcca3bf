use Rattle.std.proofs.Common.{◌≡◌, Err, Some, refl, rules, subst}
use Rattle.cns_netting.specs.History.{becoming_due}
use Rattle.cns_movements.specs.Book.{next_orders}
use Rattle.cns_clearing.specs.Answers.{NodeLeaves, covers_in, cycle_call}
use Rattle.cns_clearing.specs.Books.{history_of, order_book_of}
use Rattle.cns_clearing.specs.Node.{ClearNode}
use Rattle.cns_clearing.proofs.CallsLemmas.{adds, cycle_beside_lots, cycle_early, cycle_goes, cycle_spent, short_of}
use Rattle.cns_clearing.proofs.clearing.Clearing.cycle.Goals as goal

pub returns-in_err-books : goal.returns-in_err-books
unfolding cycle_call
returns-in_err-books g c = rw c.in_err-books.ensures.down.1 (search rules, refl)

pub returns-then-not-is_later : goal.returns-then-not-is_later
returns-then-not-is_later g c = cycle_early _ _ (search rules) (search rules)

pub returns-then-not-is_empty : goal.returns-then-not-is_empty
returns-then-not-is_empty g c = cycle_beside_lots _ _ (search rules) (search rules) (search rules)

pub returns-in_default : goal.returns-in_default
returns-in_default g c =
    let refused = λ (n : ClearNode). NodeLeaves (cycle_call c.args.id n.log.down n.log.records n.lots) (Err c.refusal_without_memory.result) n c.refusal_without_memory.new.self in
    subst refused (search rules) c.refusal_without_memory.ensures.refusal

pub returns-then-are_spent : goal.returns-then-are_spent
returns-then-are_spent g c = cycle_spent _ _ _ (search rules) (search rules) (search rules) (search rules) (search rules)

pub returns-in_err-orders : goal.returns-in_err-orders
returns-in_err-orders g c =
    short_of _ _ _ _ _ _ (cycle_goes _ _ _ _ (search rules) (search rules) (search rules) (search rules)) (search rules) (search rules)

pub returns-in_err-due : goal.returns-in_err-due
returns-in_err-due g c =
    adds _ _ _ c.add.result _ _ _ (cycle_goes _ _ _ _ (search rules) (search rules) (search rules) (search rules)) (search rules) (search rules)

pub returns : goal.returns
returns g c =
    let due : c.in_ok-due.due ≡ becoming_due (history_of c.args.self.now.log.records) c.args.id.day = search rules in
    let orders : c.in_ok-orders.orders ≡ next_orders (order_book_of c.args.self.now.log.records) (Some c.args.id) (covers_in c.args.self.now.log.records c.args.id.day) = search rules in
    adds _ _ _ c.add.result _ _ _ (cycle_goes _ _ _ _ (search rules) (search rules) (search rules) (search rules)) (rw (c.in_ok-due.was, due, orders)) (search rules)
