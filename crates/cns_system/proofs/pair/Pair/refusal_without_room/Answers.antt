use Rattle.std.proofs.Common.{◌≡◌, false, rules, subst, sym}
use Rattle.cns_movements.specs.Order.{AgreesWith}
use Rattle.cns_depository.specs.Stock.{executed_of, movement_of}
use Rattle.cns_system.proofs.LinkComes.{movement_found, none_found, short_down, short_known, short_new, short_other}
use Rattle.cns_system.proofs.pair.Pair.refusal_without_room.Goals as goal

pub returns-then-is_down : goal.returns-then-is_down
returns-then-is_down g c =
    short_down c.args.order.now c.args.self.now (search rules)

pub returns-in-Some : goal.returns-in-Some
returns-in-Some g c =
    let up : c.args.self.now.depot.log.down ≡ false = search rules in
    let known = movement_found (movement_of (executed_of c.args.self.now.depot.log.records) c.args.order.now.number) c.in-Some.executed c.in-Some.field-0-1 (search rules) in
    let other : AgreesWith c.in-Some.executed c.args.order.now → ⊥ = search rules in
    short_other c.args.order.now c.args.self.now known.0 up known.1 (λ agrees. other (subst (λ o. AgreesWith o c.args.order.now) known.2 agrees))

pub returns-in_default : goal.returns-in_default
returns-in_default g c =
    let up : c.args.self.now.depot.log.down ≡ false = search rules in
    let known = movement_found (movement_of (executed_of c.args.self.now.depot.log.records) c.args.order.now.number) c.in-Some.executed c.in-Some.field-0-1 (search rules) in
    let agrees : AgreesWith c.in-Some.executed c.args.order.now = search rules in
    short_known c.args.order.now c.args.self.now known.0 up known.1 (subst (λ o. AgreesWith o c.args.order.now) (sym known.2) agrees)

pub returns-in_default-2 : goal.returns-in_default-2
returns-in_default-2 g c =
    short_new c.args.order.now c.args.self.now (search rules) (none_found (movement_of (executed_of c.args.self.now.depot.log.records) c.args.order.now.number) (search rules))
