use Rattle.std.proofs.Common.{◌∙◌, ap}
use Rattle.cns_tally.proofs.CountLemmas.{ended_none, ended_some}
use Rattle.cns_tally.proofs.lines.Lines.end_line.Goals.{in-Some, in_default}
use Rattle.cns_tally.proofs.lines.Lines.end_line.Goals as goal

pub returns : goal.returns
returns c = λ text h. elim c.match-kind_of.branch [
  | in-Some w ↦ ended_some _ _ text w.in-Some.kind (cc) (λ kinds e. ap (λ l. l.counts) w.self-is ∙ w.add.ensures kinds e) (cc) h
  | in_default w ↦ ended_none _ _ text (cc) (ap (λ l. l.counts) w.self-is) (cc) h
]
