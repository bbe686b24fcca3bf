use Rattle.cns_allocate.proofs.serving.group_len.Goals as goal

pub returns-else-is_in-clause-group : goal.returns-else-is_in-clause-group
returns-else-is_in-clause-group c = (_, c.loop-len.invariant.group)

pub returns-after-loop-len-clause-group : goal.returns-after-loop-len-clause-group
returns-after-loop-len-clause-group c = (_, c.loop-len.invariant.group)
