use Rattle.std.proofs.Common.{rules, ◌∙◌, sym, ap, arith}
use Rattle.cns_journal.specs.DiskJournal.{down_at, end_at}
use Rattle.cns_journal.proofs.DiskJournalLemmas.{commit_keeps, failed_holds, settled_images, up_holds}
use Rattle.cns_journal.proofs.disk_journal.DiskJournal.add.Goals as goal

pub invariant_of-self-in-Ok : goal.invariant_of-self-in-Ok
invariant_of-self-in-Ok g c =
    let few = c.self.invariant.few in
    let end = ap end_at c.in-Up.is in
    up_holds _ _ _ _ _ _ (λ honest. (c.in-Ok.ensures.ok (sym c.append.ensures.honest ∙ honest)).0) (omega (arith, end, few)) c.in-Ok.ensures.limit
    (c.self.invariant.decided (ap down_at c.in-Up.is))

pub invariant_of-self-in-Err : goal.invariant_of-self-in-Err
invariant_of-self-in-Err g c =
    let end = ap end_at c.in-Up.is in
    let settled = λ (honest : _). rw c.in-Up.is at c.self.invariant.stands (sym c.append.ensures.honest ∙ honest) in
    failed_holds _ (g.D.Disk.seen c.self.inside.disk) _ (g.D.Disk.images c.self.inside.disk) _ _ _ c.args.payload.now _ settled
    (λ honest. c.append.ensures.front (sym c.append.ensures.honest ∙ honest))
    (λ honest. c.append.ensures.images (sym c.append.ensures.honest ∙ honest) _ (g.met.D.Disk.reads_an_image _ honest))
    (search rules) (omega (arith, end, c.self.invariant.few)) (omega (arith, end, c.self.invariant.within))

pub returns-in-Ok-clause-durable : goal.returns-in-Ok-clause-durable
returns-in-Ok-clause-durable g c honest = settled_images (c.in-Ok.ensures.ok (rw (← c.self.view_is) at honest)).0

pub returns-in-Ok-clause-keeps : goal.returns-in-Ok-clause-keeps
returns-in-Ok-clause-keeps g c honest =
    let sure = rw (← c.self.view_is) at honest in
    let after = c.in-Ok.ensures.ok sure in
    commit_keeps c.self.inside.stage (g.D.Disk.seen c.self.inside.disk) (g.D.Disk.images c.self.inside.disk) c.in-Up.end _ (ap (λ s. s.journal) c.self.view_is) c.in-Up.is (c.self.invariant.stands sure)
    (c.self.invariant.decided (ap down_at c.in-Up.is)) after.0 after.1

pub returns-in-Ok-clause-no_damage : goal.returns-in-Ok-clause-no_damage
returns-in-Ok-clause-no_damage g c = rw (← c.self.view_is) (λ honest undamaged. c.append.ensures.no_damage honest (undamaged _ (g.met.D.Disk.reads_an_image _ honest)))

pub returns-in-Err-clause-no_damage : goal.returns-in-Err-clause-no_damage
returns-in-Err-clause-no_damage g c = rw (← c.self.view_is) (λ honest undamaged. c.append.ensures.no_damage honest (undamaged _ (g.met.D.Disk.reads_an_image _ honest)))
