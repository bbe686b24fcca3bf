use Rattle.std.proofs.Common.{ap}
use Rattle.cns_ids.specs.Holding.{holding_at}
use Rattle.cns_movements.specs.OpenShares.{open_at}
use Rattle.cns_movements.proofs.book.make_room.Goals as goal

pub returns-clause-shares : goal.returns-clause-shares
returns-clause-shares c = λ k m i. ap (open_at k) (c.reserve-3.ensures.entries.2 (holding_at i m))
