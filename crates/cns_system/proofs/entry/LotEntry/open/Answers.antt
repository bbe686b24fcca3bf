use Rattle.std.proofs.Common.{rules}
use Rattle.cns_system.proofs.LotLemmas.{IsEntry_new}
use Rattle.cns_system.proofs.entry.LotEntry.open.Goals as goal

pub invariant_of-result : goal.invariant_of-result
invariant_of-result c = IsEntry_new c.args.plan.now _ _ c.as_slice.ensures.lawful (search rules) (search rules)
