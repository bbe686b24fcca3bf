use Rattle.std.proofs.Common.{refl, true}
use Rattle.cns_allocate.proofs.FollowLemmas.{follow-none}
use Rattle.cns_allocate.proofs.serving.serve.Goals as goal

pub returns-then-workers-eq0-clause-fault : goal.returns-then-workers-eq0-clause-fault
returns-then-workers-eq0-clause-fault g c = record { cell = refl; out = refl; follow = rw c.requires.none (follow-none c.args.plan.now true c.requires.plan.groups (λ e. cc)) }
