use Rattle.std.proofs.Common.{rules}
use Rattle.cns_clearing.proofs.CallsLemmas.{cycle_short}
use Rattle.cns_clearing.proofs.clearing.Clearing.refusal_without_memory.Goals as goal

pub returns-clause-refusal : goal.returns-clause-refusal
returns-clause-refusal g c = cycle_short _ c.are_spent.result _ _ _ c.requires.up c.requires.later c.requires.quiet (search rules) (search rules) (search rules)
