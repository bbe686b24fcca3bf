use Rattle.std.proofs.Common.{rules}
use borrow.Author.Tests.{tests}
use Rattle.std.proofs.lemmas.Iterator.{YieldsList-from_slice}
use Rattle.std.proofs.lemmas.Iterator.Adapters.{items_from_extend}
use Rattle.std.proofs.lemmas.Iterator.Consumers.{YieldsList-from_filter_map}
use Rattle.cns_allocate.specs.Plan.{planned_of}
use Rattle.cns_allocate.proofs.plan.planned_rows.Goals as goal

pub returns : goal.returns
returns c =
    let planned = planned_of c.args.issue c.args.orders.now.book c.args.priorities.now.settings c.args.were_long.now in
    let items = items_from_extend c.extend.result c.extend.ensures.ran (YieldsList-from_filter_map _ planned (YieldsList-from_slice c.args.rows.now cc) c.filter_map.ensures.closure (λ x r q k. search (rules, tests))) in
    search rules
