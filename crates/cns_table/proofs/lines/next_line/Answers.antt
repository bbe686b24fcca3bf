use Rattle.std.proofs.Common.{sym, rules}
use Rattle.std.proofs.lemmas.List.{take_rest}
use Rattle.cns_table.specs.Run.{text_lines}
use Rattle.cns_table.proofs.RunLemmas.{line_ends, line_is_last, no_line}
use Rattle.cns_table.proofs.lines.next_line.Goals as goal

pub returns-then-is_empty-clause-lines : goal.returns-then-is_empty-clause-lines
returns-then-is_empty-clause-lines c = no_line c.args.text.now (search rules)

pub returns-in-Some-clause-lines : goal.returns-in-Some-clause-lines
returns-in-Some-clause-lines c = rw take_rest (line_ends c.args.text.now c.in-Some.place (search rules) (sym c.in-Some.ensures.place))

pub returns-in-None-clause-lines : goal.returns-in-None-clause-lines
unfolding text_lines
returns-in-None-clause-lines c = line_is_last c.args.text.now (search rules) (sym c.in-None.ensures.place)
