use Rattle.cns_check.proofs.ScriptLemmas.{begun, begun_again, no_command, runs, skipped}
use Rattle.cns_check.proofs.script.standing.Goals as goal

pub returns-in-Skip : goal.returns-in-Skip
returns-in-Skip c = λ number rest. skipped c.args.beside number c.args.command rest c.in-Skip.is

pub returns-in-Bad : goal.returns-in-Bad
returns-in-Bad c = λ number rest. no_command c.args.beside c.saturating_sub-left.result number c.args.command rest c.in-Bad.is c.saturating_sub-left.ensures

pub returns-then-beside-gt0 : goal.returns-then-beside-gt0
returns-then-beside-gt0 c = λ number rest.
    begun_again c.args.beside c.saturating_sub-left.result number c.in-Beside.issue c.in-Beside.lines c.args.command rest c.in-Beside.is c.if-beside-gt0.true c.saturating_sub-left.ensures

pub returns-else-beside-gt0 : goal.returns-else-beside-gt0
returns-else-beside-gt0 c = λ number rest. begun c.args.beside number c.in-Beside.issue c.in-Beside.lines c.args.command rest c.in-Beside.is c.if-beside-gt0.false

pub returns-in_default : goal.returns-in_default
returns-in_default c = λ number rest.
    runs c.args.beside c.saturating_sub-left.result number c.args.command rest c.in_default.not-Skip c.in_default.not-Bad c.in_default.not-Beside c.saturating_sub-left.ensures
