use Rattle.std.proofs.Common.{sym, ◌∙◌}
use Rattle.cns_audit.proofs.LeastLemmas.{takes_none, takes_read}
use Rattle.cns_audit.proofs.least.take_payload.Goals as goal

pub returns-in_default-clause-takes : goal.returns-in_default-clause-takes
returns-in_default-clause-takes c = takes_none c.args.payload.now c.in_default.field-0 c.args.ranges.now (sym c.in_default.is ∙ c.read.ensures.exact)

pub returns-clause-takes : goal.returns-clause-takes
returns-clause-takes c =
    takes_read c.args.payload.now c.in-Ok.entry c.in_ok-left.left c.args.ranges.now c.add.new.self (sym c.in-Ok.is ∙ c.read.ensures.exact) c.in_ok-left.ensures.more c.in_ok-left.ensures.none
