use Rattle.std.proofs.Common.{◌∙◌, ap, sym}
use Rattle.std.proofs.lemmas.Bool.{eqb-true}
use Rattle.cns_input.specs.Script.{command_of}
use Rattle.cns_batch.proofs.RunLemmas.{line_held, line_read, no_lines}
use Rattle.cns_batch.proofs.lines.Commands.next_command.Goals as goal

pub loop-line-preserved : goal.loop-line-preserved
loop-line-preserved c =
    let first =
    line_read c.loop-line.self.number c.line_size.result c.loop-line.self.rest.now c.split_at.result.0.now c.split_at.result.1.now c.command_of.result
    (sym c.is_empty.ensures ∙ c.loop-line-test.true) c.line_size.ensures.size c.split_at.ensures.front c.split_at.ensures.back (c.command_of.ensures ∙ ap command_of c.line_text.ensures) in
    sym (rw c.in-Skip.is at first) ∙ c.loop-line.invariant

pub returns-in_default : goal.returns-in_default
returns-in_default c =
    let first =
    line_read c.loop-line.self.number c.line_size.result c.loop-line.self.rest.now c.split_at.result.0.now c.split_at.result.1.now c.command_of.result
    (sym c.is_empty.ensures ∙ c.loop-line-test.true) c.line_size.ensures.size c.split_at.ensures.front c.split_at.ensures.back (c.command_of.ensures ∙ ap command_of c.line_text.ensures) in
    sym c.loop-line.invariant ∙ first ∙ line_held c.loop-line.self.number c.command_of.result _ c.in_default.not-Skip

pub returns : goal.returns
returns c =
    let none = no_lines c.loop-line.self.number c.loop-line.self.rest.now (eqb-true _ 0 (sym c.is_empty.ensures ∙ c.loop-line-test.false)) in
    (sym c.loop-line.invariant ∙ none, none)
