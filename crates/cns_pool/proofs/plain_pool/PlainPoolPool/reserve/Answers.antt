use Rattle.std.proofs.Common.{◌≡◌, ap, refl, arith, rules}
use Rattle.cns_pool.specs.Pool.{Pooled}
use Rattle.cns_pool.proofs.PoolLemmas.{IsStored_drawn}
use Rattle.cns_pool.proofs.plain_pool.PlainPoolPool.reserve.Goals as goal

pub invariant_of-self-2 : goal.invariant_of-self-2
invariant_of-self-2 c =
    let budget : c.self.inside.budget ≡ c.args.self.now.budget = ap (λ (p : Pooled). p.budget) c.self.view_is in
    let calls : c.self.inside.calls ≡ c.args.self.now.calls = ap (λ (p : Pooled). p.calls) c.self.view_is in
    IsStored_drawn _ _ _ _ _ _ (record { member = c.args.member; start = c.self.inside.asked; asked = c.args.asked })
    c.self.invariant refl c.requires.some (omega arith) (omega arith) (search rules) (search rules) (search rules)

pub returns-clause-lawful : goal.returns-clause-lawful
returns-clause-lawful c = (invariant_of-self-2 c).lawful
