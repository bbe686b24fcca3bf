use Rattle.std.proofs.Common.{rules, ◌∙◌}
use Rattle.cns_journal.proofs.TailLemmas.{closed-undamaged, reads-undamaged}
use Rattle.cns_journal.proofs.record_file.reread.Goals as goal

pub returns-in_err-sync-clause-no_damage : goal.returns-in_err-sync-clause-no_damage
returns-in_err-sync-clause-no_damage g c honest whole = reads-undamaged g.D.Disk.seen g.met.D.Disk.only_now honest (search rules) whole

pub returns-in_err-records-clause-no_damage : goal.returns-in_err-records-clause-no_damage
returns-in_err-records-clause-no_damage g c honest whole = reads-undamaged g.D.Disk.seen g.met.D.Disk.only_now honest (search rules) whole

pub returns-in_err-close-clause-no_damage : goal.returns-in_err-close-clause-no_damage
returns-in_err-close-clause-no_damage g c honest whole = let sure = c.read_records.ensures.honest ∙ c.sync.ensures.honest ∙ honest in
    closed-undamaged g.D.Disk.seen g.met.D.Disk.only_now honest (search rules) whole (g.met.D.Disk.reads_an_image _ sure) (c.close.ensures.no_damage sure)

pub returns-clause-no_damage : goal.returns-clause-no_damage
returns-clause-no_damage g c honest whole = let sure = c.read_records.ensures.honest ∙ c.sync.ensures.honest ∙ honest in
    closed-undamaged g.D.Disk.seen g.met.D.Disk.only_now honest (search rules) whole (g.met.D.Disk.reads_an_image _ sure) (c.close.ensures.no_damage sure)
