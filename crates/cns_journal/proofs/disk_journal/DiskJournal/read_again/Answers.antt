use Rattle.std.proofs.Common.{rules, ◌≡◌, ◌∙◌, refl, sym, ap, arith, length}
use Rattle.cns_journal.proofs.DiskJournalLemmas.{fallen_holds, fallen_keeps, reopen_keeps, up_holds}
use Rattle.cns_journal.proofs.disk_journal.DiskJournal.read_again.Goals as goal

pub invariant_of-self : goal.invariant_of-self
invariant_of-self g c =
    let count : c.len.result ≡ length c.in-Ok.payloads.items = search rules in
    up_holds _ _ _ _ _ _ (λ honest. (c.in-Ok.ensures.value (sym c.reread.ensures.honest ∙ honest)).1) (omega (arith, count, c.in-Ok.ensures.size.0)) c.in-Ok.ensures.size.1 refl

pub invariant_of-self-in-Err-Device : goal.invariant_of-self-in-Err-Device
invariant_of-self-in-Err-Device g c =
    fallen_holds _ _ _ _ _ _ _ _ c.reread.ensures.honest c.reread.ensures.seen _ _ c.fallen-self-inside.ensures c.self.invariant

pub returns-in-Ok-clause-keeps : goal.returns-in-Ok-clause-keeps
returns-in-Ok-clause-keeps g c honest =
    let sure = rw (← c.self.view_is) at honest in
    let after = c.in-Ok.ensures.value sure in
    reopen_keeps c.self.inside.stage (g.D.Disk.seen c.self.inside.disk) (ap (λ s. s.journal) c.self.view_is) (c.self.invariant.found sure) after.0 after.1 (c.reread.ensures.seen sure).0

pub returns-in-Err-Device-clause-keeps : goal.returns-in-Err-Device-clause-keeps
returns-in-Err-Device-clause-keeps g c honest =
    let sure = rw (← c.self.view_is) at honest in
    fallen_keeps _ _ (g.D.Disk.seen c.self.inside.disk) (g.D.Disk.seen c.reread.new.disk) (g.D.Disk.images c.self.inside.disk) (g.D.Disk.images c.self.inside.disk) _ _ c.reread.ensures.honest c.reread.ensures.seen c.self.inside.stage _ c.fallen-self-inside.ensures c.self.invariant sure _
    (ap (λ s. s.journal) c.self.view_is)

pub returns-in-Err : goal.returns-in-Err
returns-in-Err g c = record {
  honest = search rules;
  leaves = search rules;
  keeps = search rules;
  foreseen = search rules;
  value = search rules;
  any_moment = search rules;
  durable = search rules;
  no_damage = search rules;
}
