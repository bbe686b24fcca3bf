use Rattle.std.proofs.Common.{◌∙◌, sym}
use Rattle.std.proofs.lemmas.Result.{on_ok_weaker}
use Rattle.csv.specs.Records.{fields_of}
use Rattle.cns_check.specs.Kept.{IsOf}
use Rattle.cns_check.proofs.SectionLemmas.{is_refused, no_opening, opening_refused, opening_stands}
use Rattle.cns_check.proofs.openings.OpeningRowsCheckRows.check.Goals as goal

pub returns-in_default : goal.returns-in_default
returns-in_default c = on_ok_weaker c.add_faults.result (λ adds rows before held at is.
    no_opening rows before (fields_of c.args.fields.now) c.args.place.row (IsOf c.add_faults.new.found) (IsOf c.args.found.now) c.args.self.now.held c.faults_of-faults.result
    at (sym c.in_default.is ∙ c.opening_of.ensures) c.faults_of-faults.ensures adds (held, is)) c.add_faults.ensures

pub returns-in-Ok : goal.returns-in-Ok
returns-in-Ok c = λ rows before held at is.
    opening_stands rows before (fields_of c.args.fields.now) c.args.place.row (IsOf c.args.found.now) c.args.self.now.held c.add.new.self c.in-Some.opening
    at (sym c.in-Some.is ∙ c.opening_of.ensures) c.in-Ok.ensures.0 c.in-Ok.ensures.1 (held, is)

pub returns-in_default-fault : goal.returns-in_default-fault
returns-in_default-fault c =
    let refused = is_refused c.in-Err.fault c.args.self.now.held c.add.new.self c.in-Some.opening c.in_default-fault.not-OutOfMemory c.in-Err.ensures in
    on_ok_weaker c.add-in_default-fault.result (λ adds rows before held at is.
    opening_refused rows before (fields_of c.args.fields.now) c.args.place.row (IsOf c.add-in_default-fault.new.self) (IsOf c.args.found.now) c.args.self.now.held c.add.new.self c.in-Some.opening c.in-Err.fault
    at (sym c.in-Some.is ∙ c.opening_of.ensures) refused.0 refused.1 adds (held, is)) c.add-in_default-fault.ensures
