use Rattle.std.proofs.Common.{◌≡◌, List, ℕ, length, ◌++◌, ◌≤◌, ap, sym, subst, ◌∙◌}
use Rattle.cns_records.specs.Clear.{spelling}
use Rattle.cns_records.proofs.ClearLaws.{read-spelling, spelling_short}
use Rattle.cns_records.proofs.clear_record.ClearRecord.write.Goals as goal

pub returns-in_err-add_payload-clause-back : goal.returns-in_err-add_payload-clause-back
returns-in_err-add_payload-clause-back c = λ writable. read-spelling c.args.self.now c.add_payload.ensures.ranges writable

pub returns-clause-size : goal.returns-clause-size
returns-clause-size c =
    let is : c.add_payload.new.payload.items ≡ spelling c.args.self.now =
    c.in_ok-add_payload.ensures.spelled ∙ ap (λ l. l ++ spelling c.args.self.now) c.new-payload.ensures.items in
    subst (λ (bytes : List ℕ). length bytes ≤ 1048576) (sym is) (spelling_short c.args.self.now c.add_payload.ensures.ranges)

pub returns-clause-back : goal.returns-clause-back
returns-clause-back c = λ writable. read-spelling c.args.self.now c.add_payload.ensures.ranges writable
