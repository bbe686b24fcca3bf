use Rattle.std.proofs.Common.{◌∙◌, ap, rules}
use Rattle.cns_netting.specs.Positions.{position_found}
use Rattle.cns_netting.proofs.AddLemmas.{put_same}
use Rattle.cns_netting.proofs.PlaceLemmas.{listed_put, put_entry}
use Rattle.cns_netting.proofs.positions.Positions.name.Goals as goal

pub invariant_of-self : goal.invariant_of-self
invariant_of-self c =
    let w = c.or_insert.result.now in
    listed_put c.args.member c.args.issue w c.self.inside.all.entries _ c.self.inside.order.items
    (put_entry (λ k. search (rules, (c.in-Ok.ensures.update.0 w).0)) (search (rules, c.in-Ok.ensures.update.1 w))) (search rules) c.self.invariant

pub returns-clause-adds : goal.returns-clause-adds
returns-clause-adds c =
    let w = c.or_insert.result.now in
    rw (← c.self.view_is)
    (put_same c.args.member c.args.issue w c.self.inside.all.entries _
    (put_entry (λ k. search (rules, (c.in-Ok.ensures.update.0 w).0)) (search (rules, c.in-Ok.ensures.update.1 w)))
    (c.or_insert.ensures.value ∙ ap position_found c.in-Ok.ensures.value))
