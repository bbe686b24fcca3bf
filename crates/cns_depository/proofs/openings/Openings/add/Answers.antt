use Rattle.std.proofs.Common.{◌≡◌, ◌+◌, ◌≤◌, ◌^◌, ◌∙◌, sym, arith}
use Rattle.std.specs.Prelude.{nat_eq, unwrap_or}
use Rattle.std.specs.HashMap.{get}
use Rattle.cns_ids.specs.Holding.{holding_eq}
use Rattle.cns_depository.proofs.IndexLemmas.{index_added}
use Rattle.cns_depository.proofs.openings.Openings.add.Goals as goal

pub invariant_of-self-2 : goal.invariant_of-self-2
invariant_of-self-2 c =
    let o = c.args.opening.now in
    let sum = c.sum_of.result + c.from.result in
    let total : sum ≡ unwrap_or (get nat_eq c.self.inside.sums o.issue) 0 + o.shares = omega (arith, c.sum_of.ensures, c.count.ensures.value, c.from.ensures) in
    let within : sum ≤ 10 ^ 18 = omega (arith, c.from-2.ensures, c.if-sum-from.false) in
    index_added c.self.inside.list.items c.make_room.new.list.items c.push_reserved.new.self.items o
    (get holding_eq c.self.inside.shares) (get holding_eq c.make_room.new.shares) (get holding_eq c.enter.new.shares)
    (get nat_eq c.self.inside.sums) (get nat_eq c.make_room.new.sums) (get nat_eq c.set_sum.new.sums)
    sum c.self.invariant c.make_room.ensures.list c.make_room.ensures.shares c.make_room.ensures.sums
    (sym c.is_held.ensures ∙ c.if-is_held.false) total within c.enter.ensures c.set_sum.ensures c.push_reserved.ensures.items
