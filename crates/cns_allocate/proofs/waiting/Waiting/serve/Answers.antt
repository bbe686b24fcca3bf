use Rattle.std.proofs.Common.{◌∙◌, ap}
use Rattle.cns_allocate.specs.Served.{without}
use Rattle.cns_allocate.proofs.WaitingLemmas.{placed_without, waiting_fewer}
use Rattle.cns_allocate.proofs.waiting.Waiting.serve.Goals as goal

pub invariant_of-self : goal.invariant_of-self
invariant_of-self c =
    let at = c.self.inside in
    let moved = c.first_placed-self-inside.ensures in
    let fewer = rw c.take_place.ensures.taken at moved in
    rw c.take_place.ensures.taken (waiting_fewer at.plan.now at.places.now c.args.member at.first c.first_placed-self-inside.result c.take_place.ensures.within c.self.invariant fewer.within fewer.left fewer.placed)

pub returns : goal.returns
returns c =
    let at = c.self.inside in
    rw c.take_place.ensures.taken (placed_without at.plan.now at.places.now c.args.member c.take_place.ensures.within ∙ ap (without c.args.member) c.self.view_is)
