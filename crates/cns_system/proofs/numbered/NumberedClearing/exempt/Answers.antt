use Rattle.std.proofs.Common.{◌≡◌, refl}
use Rattle.cns_records.specs.declared.clear_record.ClearRecord.TheVariants.{Exempt}
use Rattle.cns_clearing.specs.Answers.{setting_call}
use Rattle.cns_system.proofs.NumberedLemmas.{call_tied}
use Rattle.cns_system.proofs.RecordedLemmas.{setting_records}
use Rattle.cns_system.proofs.numbered.NumberedClearing.exempt.Goals as goal

pub invariant_of-self : goal.invariant_of-self
invariant_of-self g c =
    call_tied (setting_call (Exempt c.args.member c.args.issue c.args.shares) c.self.inside.node.log.down) (λ x. ⊥) (λ r x. r ≡ Exempt c.args.member c.args.issue c.args.shares)
    c.exempt.result c.self.inside.node c.exempt.new.self
    c.self.inside.lots.lots (λ r x is ls. rw is refl) (setting_records (Exempt c.args.member c.args.issue c.args.shares) c.self.inside.node.log.down) c.self.invariant c.exempt.ensures
