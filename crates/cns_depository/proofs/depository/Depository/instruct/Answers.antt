use Rattle.std.proofs.Common.{◌≡◌, true, false, None, Some, Ok, Err, refl, ap, sym, rules}
use Rattle.cns_records.specs.Call.{answered}
use Rattle.cns_depository.specs.Answers.{own_fault, own_refused}
use Rattle.cns_depository.specs.Stock.{instructed_of, instruction_of, own_refusal}
use Rattle.cns_depository.specs.declared.fault.Own.TheVariants.{Done}
use Rattle.cns_depository.proofs.NodeLemmas.{instruct_down, instruct_held, instruct_new, instruct_refused}
use Rattle.cns_depository.proofs.depository.Depository.instruct.Goals as goal

-- the node is down
pub returns-then-is_down : goal.returns-then-is_down
returns-then-is_down g c =
    let down : c.args.self.now.log.down ≡ true = search rules in
    rw (instruct_down _ _ _ _ down) (refl, refl)

-- the number is known
pub returns-in-Some : goal.returns-in-Some
returns-in-Some g c =
    let up : c.args.self.now.log.down ≡ false = search rules in
    rw (instruct_held _ _ _ _ c.in-Some.held up (sym c.in-Some.ensures)) (c.held_before.ensures c.args.self.now)

-- the instruction is new, and is refused
pub returns-in-Some-refusal : goal.returns-in-Some-refusal
returns-in-Some-refusal g c =
    let up : c.args.self.now.log.down ≡ false = search rules in
    let none : instruction_of (instructed_of c.args.self.now.log.records) c.args.instruction.now.member c.args.instruction.now.number ≡ None = search rules in
    let why : own_refusal c.args.self.now.openings c.args.self.now.log.records c.args.instruction.now ≡ Some c.in-Some-refusal.refusal = search rules in
    let answer : c.from.result ≡ own_refused c.in-Some-refusal.refusal = search rules in
    rw (instruct_refused _ _ _ _ c.in-Some-refusal.refusal up none why) (ap Err answer, refl)

-- it is carried out, and its record was not committed
pub returns-in_err-commit : goal.returns-in_err-commit
returns-in_err-commit g c =
    let up : c.args.self.now.log.down ≡ false = search rules in
    let none : instruction_of (instructed_of c.args.self.now.log.records) c.args.instruction.now.member c.args.instruction.now.number ≡ None = search rules in
    let fine : own_refusal c.args.self.now.openings c.args.self.now.log.records c.args.instruction.now ≡ None = search rules in
    let answer : c.from_residual.result ≡ answered own_fault Done c.commit.result = search rules in
    rw (instruct_new _ _ _ _ up none fine) (c.commit.result, answer, c.commit.ensures)

-- or it was
pub returns : goal.returns
returns g c =
    let up : c.args.self.now.log.down ≡ false = search rules in
    let none : instruction_of (instructed_of c.args.self.now.log.records) c.args.instruction.now.member c.args.instruction.now.number ≡ None = search rules in
    let fine : own_refusal c.args.self.now.openings c.args.self.now.log.records c.args.instruction.now ≡ None = search rules in
    let answer : Ok Done ≡ answered own_fault Done c.commit.result = search rules in
    rw (instruct_new _ _ _ _ up none fine) (c.commit.result, answer, c.commit.ensures)
