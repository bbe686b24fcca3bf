use Rattle.std.proofs.Common.{◌∙◌, ap, arith}
use Rattle.cns_allocate.specs.Served.{turn_of}
use Rattle.cns_system.specs.Lot.{LotState}
use Rattle.cns_system.proofs.LotLemmas.{IsEntry_drawn, turn-has}
use Rattle.cns_system.proofs.entry.LotEntry.draw.Goals as goal

pub reserve-requires-clause-some : goal.reserve-requires-clause-some
reserve-requires-clause-some c =
    let next = ap (λ (lot : LotState). turn_of lot.turns c.args.member) c.self.view_is ∙ c.requires.turn in (turn-has c.self.inside.turns c.args.member c.args.asked c.self.invariant.plan next).some

pub reserve-requires-clause-budget : goal.reserve-requires-clause-budget
reserve-requires-clause-budget c =
    let next = ap (λ (lot : LotState). turn_of lot.turns c.args.member) c.self.view_is ∙ c.requires.turn in
    let turn = turn-has c.self.inside.turns c.args.member c.args.asked c.self.invariant.plan next in
    let shares = turn.shares in
    let budget = c.self.invariant.budget in omega arith

pub invariant_of-self : goal.invariant_of-self
invariant_of-self c =
    let next = ap (λ (lot : LotState). turn_of lot.turns c.args.member) c.self.view_is ∙ c.requires.turn in
    IsEntry_drawn c.self.inside.turns _ c.self.inside.pool _ c.args.member c.args.asked c.self.invariant next c.serve.ensures c.reserve.ensures.after
