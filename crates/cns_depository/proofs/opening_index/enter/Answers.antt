use Rattle.std.proofs.Common.{◌∙◌, ap}
use Rattle.std.specs.Prelude.{Some, if◌then◌else◌, ◌==◌}
use Rattle.std.specs.HashMap.{get}
use Rattle.cns_ids.specs.Holding.{holding_at, holding_eq}
use Rattle.cns_depository.proofs.TotalLemmas.{swap}
use Rattle.cns_depository.proofs.opening_index.enter.Goals as goal

pub returns : goal.returns
returns c = λ member issue.
    let opening = c.args.opening.now in
    c.in-Ok.ensures.updates.0 (holding_at issue member)
    ∙ ap (λ here. if here then Some opening.shares else get holding_eq c.args.shares.now (holding_at issue member)) (swap (opening.issue == issue) (opening.member == member))
