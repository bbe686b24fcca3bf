use Rattle.std.proofs.Common.{rules}
use borrow.Author.Tests.{tests}
use Rattle.std.proofs.lemmas.Iterator.{YieldsList-from_slice}
use Rattle.std.proofs.lemmas.Iterator.Adapters.{items_from_extend}
use Rattle.std.proofs.lemmas.Iterator.Consumers.{YieldsList-at, YieldsList-from_copied, YieldsList-from_filter}
use Rattle.cns_allocate.specs.Group.{is_in}
use Rattle.cns_allocate.proofs.plan.add_group.Goals as goal

pub returns : goal.returns
returns c =
    let items =
    items_from_extend c.extend.result c.extend.ensures.ran
    (YieldsList-from_copied
    (YieldsList-at c.copied.ensures.source
    (YieldsList-from_filter _ (is_in c.args.group) (YieldsList-from_slice c.args.planned.now cc) c.filter.ensures.closure (λ x r q k. search (rules, tests))))) in
    search rules
