use Rattle.std.proofs.Common.{◌++◌, ◌∙◌, ap, sym, subst, append_assoc, take}
use Rattle.cns_check.specs.Findings.{in_row}
use Rattle.cns_check.specs.Kept.{IsOf}
use Rattle.cns_check.proofs.SectionLemmas.{no_more_fault, one_more_fault}
use Rattle.cns_check.proofs.rows.add_faults.Goals as goal
use Rattle.cns_check.proofs.rows.add_faults.Goals.{in-Some+in_ok-add, in_default}

pub loop-fault-preserved : goal.loop-fault-preserved
loop-fault-preserved c = λ before is.
    let t = c.args.table in
    let n = c.args.place.row in
    let faults = c.args.faults.now in
    let i = c.loop-fault.fault-index in
    let was = c.loop-fault.invariant before is in
    elim c.match-fault.branch [
      | in-Some+in_ok-add w ↦
          (let added = w.in_ok-add.ensures (before ++ in_row t n (take i faults)) was in
          let more = one_more_fault t n faults i w.in-Some.fault c.loop-fault-test.true w.in-Some.is in
          rw w.found-is (subst (IsOf w.add.new.self) (append_assoc before (in_row t n (take i faults)) _ ∙ ap (λ xs. before ++ xs) (sym more)) added))
      | in_default w ↦
          (let none = no_more_fault t n faults i c.loop-fault-test.true w.in_default.is in
          rw w.found-is (subst (IsOf c.loop-fault.found) (ap (λ xs. before ++ xs) (sym none)) was))
    ]
