use Rattle.std.proofs.Common.{◌≡◌, ◌∙◌, [], rules, sym}
use Rattle.std.specs.Map.{keys_of}
use Rattle.std.proofs.lemmas.List.{append-nil}
use Rattle.cns_ids.specs.Holding.{holding_at}
use Rattle.cns_netting.specs.Positions.{position_among}
use Rattle.cns_netting.proofs.AddLemmas.{put_adds}
use Rattle.cns_netting.proofs.PlaceLemmas.{listed_put}
use Rattle.cns_netting.proofs.positions.Positions.add.Goals as goal

pub invariant_of-self : goal.invariant_of-self
invariant_of-self c =
    let written = c.get_mut.follows.holds c.with.result in
    listed_put c.args.member c.args.issue c.with.result c.self.inside.all.entries _ c.self.inside.order.items
    (record { puts = (written.3 (search rules)).0; names = ([], written.1 ∙ sym (append-nil (keys_of c.self.inside.all.entries))) })
    (c.self.invariant.members (holding_at c.args.issue c.args.member) (search rules)) c.self.invariant

pub returns-clause-adds : goal.returns-clause-adds
returns-clause-adds c =
    let found : c.in-Some.position.now ≡ position_among c.self.inside.all.entries c.args.member c.args.issue = search rules in
    let written = c.get_mut.follows.holds c.with.result in
    rw (← c.self.view_is)
    (put_adds c.args.member c.args.issue c.in-Some.position.now c.with.result c.args.credit c.args.debit c.self.inside.all.entries _
    (record { puts = (written.3 (search rules)).0; names = ([], written.1 ∙ sym (append-nil (keys_of c.self.inside.all.entries))) }) found c.with.ensures)
