use Rattle.std.proofs.Common.{◌≡◌, ℕ, Option, ◌∙◌, ap, arith}
use Rattle.std.specs.Prelude.{unwrap_or}
use Rattle.cns_depository.specs.declared.account.Account.TheVariants.{Member}
use Rattle.cns_depository.specs.Openings.{opening_shares}
use Rattle.cns_depository.proofs.OpeningLemmas.{member_small}
use Rattle.cns_depository.proofs.IndexLemmas.{opened_shares}
use Rattle.cns_depository.proofs.openings.Openings.shares.Goals as goal

held_is : (c : goal.After-held) → c.held.result ≡ opening_shares c.self.inside.list.items (Member c.in-Member.member) c.args.issue
held_is c =
    c.held.ensures ∙ ap (λ (s : Option ℕ). unwrap_or s 0) (c.self.invariant.held_is c.in-Member.member c.args.issue)
    ∙ opened_shares c.self.inside.list.items c.in-Member.member c.args.issue

pub returns-in-Member-clause-shares : goal.returns-in-Member-clause-shares
returns-in-Member-clause-shares c = rw (← c.self.view_is, c.in-Member.is) (held_is c)

pub returns-in-Member-clause-small : goal.returns-in-Member-clause-small
returns-in-Member-clause-small c = omega (arith, held_is c, member_small c.self.inside.list.items c.in-Member.member c.args.issue c.self.invariant.fits)
