use Rattle.std.proofs.Common.{◌∙◌, ap, rules}
use Rattle.cns_netting.specs.Positions.{position_found}
use Rattle.cns_netting.proofs.AddLemmas.{near_there, put_adds}
use Rattle.cns_netting.proofs.PlaceLemmas.{listed_put, put_entry}
use Rattle.cns_netting.proofs.positions.Positions.enter.Goals as goal

pub with-requires : goal.with-requires
with-requires c =
    let near = rw (← c.self.view_is) at c.requires.near in
    let fits = near_there c.args.member c.args.issue c.args.credit c.args.debit near (c.or_insert-entered.ensures.value ∙ ap position_found c.in-Ok.ensures.value) in
    record { long = fits.0; short = fits.1 }

pub invariant_of-self : goal.invariant_of-self
invariant_of-self c =
    let w = c.with.result in
    listed_put c.args.member c.args.issue w c.self.inside.all.entries _ c.self.inside.order.items
    (put_entry (λ k. search (rules, (c.in-Ok.ensures.update.0 w).0)) (search (rules, c.in-Ok.ensures.update.1 w))) (search rules) c.self.invariant

pub returns-clause-adds : goal.returns-clause-adds
returns-clause-adds c =
    let w = c.with.result in
    rw (← c.self.view_is)
    (put_adds c.args.member c.args.issue c.or_insert-entered.result.now w c.args.credit c.args.debit c.self.inside.all.entries _
    (put_entry (λ k. search (rules, (c.in-Ok.ensures.update.0 w).0)) (search (rules, c.in-Ok.ensures.update.1 w)))
    (c.or_insert-entered.ensures.value ∙ ap position_found c.in-Ok.ensures.value) c.with.ensures)
