use Rattle.std.proofs.Common.{◌≡◌, ◌<◌, length, rules, sym}
use Rattle.std.specs.Prelude.{slice_index}
use Rattle.cns_input.proofs.SectionLemmas.{line_ends, line_is_empty, no_line_ends}
use Rattle.cns_input.proofs.sections.line_size.Goals as goal

pub returns-then-text-eq10-clause-size : goal.returns-then-text-eq10-clause-size
returns-then-text-eq10-clause-size c =
    let some : 0 < length c.args.text.now = search rules in
    let is : slice_index c.args.text.now 0 ≡ 10 = search rules in
    sym (line_is_empty c.args.text.now some is)

pub returns-in-Some-clause-size : goal.returns-in-Some-clause-size
returns-in-Some-clause-size c = sym (line_ends c.args.text.now c.in-Some.at c.in-Some.ensures)

pub returns-in-None-clause-size : goal.returns-in-None-clause-size
returns-in-None-clause-size c = sym (no_line_ends c.args.text.now c.in-None.ensures)
