use Rattle.std.proofs.Common.{◌∙◌, ap, sym}
use Rattle.std.specs.Prelude.{is_some}
use Rattle.cns_depository.proofs.IndexLemmas.{cns_unopened, opened_known, opened_member}
use Rattle.cns_depository.proofs.openings.Openings.names.Goals as goal

pub returns-in-Cns : goal.returns-in-Cns
returns-in-Cns c = rw (← c.self.view_is, c.in-Cns.is) (sym (cns_unopened c.self.inside.list.items c.args.issue))

pub returns-in-Member : goal.returns-in-Member
returns-in-Member c =
    let openings = c.self.inside.list.items in
    let member = c.in-Member.member in
    let issue = c.args.issue in
    rw (← c.self.view_is, c.in-Member.is) (c.is_held.ensures ∙ ap is_some (c.self.invariant.held_is member issue) ∙ opened_known openings member issue ∙ sym (opened_member openings member issue))
