use Rattle.std.proofs.Common.{◌≡◌, ◌∙◌, ◌++◌, ◌≤◌, ◌+◌, [], ◌∷◌, length, ap, sym, subst, refl, arith}
use Rattle.std.specs.Prelude.{map}
use Rattle.std.proofs.lemmas.List.{append-nil}
use Rattle.cns_input.specs.Script.{command_of}
use Rattle.cns_input.specs.Sections.{raw_lines}
use Rattle.cns_check.specs.Findings.{bad_lines, commands_from}
use Rattle.cns_check.specs.Kept.{IsOf}
use Rattle.cns_check.specs.declared.finding.Finding.TheVariants as finding
use Rattle.cns_check.proofs.ScriptLemmas.{found_of_line, first_line, if_bad, no_lines, nothing_bad, one_more_line, some_left}
use Rattle.cns_check.proofs.script.check_script.Goals as goal

pub loop-rest-init : goal.loop-rest-init
loop-rest-init c = ([], refl, λ before is. subst (IsOf c.args.found.now) (sym (append-nil before)) is, omega arith, omega arith)

pub loop-rest-preserved : goal.loop-rest-preserved
loop-rest-preserved c =
    let so_far = c.loop-rest.invariant in
    let n = c.loop-rest.number in
    let rest = c.loop-rest.rest.now in
    let line = c.split_at.result.0.now in
    let after = c.split_at.result.1.now in
    let bad = c.standing-stands.result.is_bad in
    let later = commands_from (n + 1) (raw_lines after) in
    let lines = first_line n c.line_size.result rest line after c.is_empty.result c.is_empty.ensures c.loop-rest-test.true c.line_size.ensures.size c.split_at.ensures.front c.split_at.ensures.back in
    let is_command = sym (c.command_of.ensures ∙ ap command_of c.line_text-text.ensures) in
    let step : bad_lines c.loop-rest.beside (commands_from n (raw_lines rest)) ≡ if_bad bad n ++ bad_lines c.standing-stands.result.beside later =
    ap (bad_lines c.loop-rest.beside) (lines ∙ ap (λ k. (n, k) ∷ later) is_command) ∙ c.standing-stands.ensures n later in
    let some = some_left rest c.is_empty.result c.is_empty.ensures c.loop-rest-test.true in
    let fewer : n + 1 + length after ≤ length c.args.script.now + 1 = omega (arith, c.split_at.ensures.back_len, c.line_size.ensures.some some, so_far.4) in (
      so_far.0 ++ if_bad bad n,
      one_more_line so_far.0 (if_bad bad n) _ _ _ so_far.1 step,
      λ before is. subst (IsOf c.add_line.new.found) (found_of_line bad n before so_far.0) (c.in_ok-add_line.ensures (before ++ map finding.Line so_far.0) (so_far.2 before is)),
      omega arith,
      fewer,
    )

pub returns : goal.returns
returns c = λ before is.
    let so_far = c.loop-rest.invariant in
    let none = no_lines c.loop-rest.number c.loop-rest.rest.now c.is_empty.result c.is_empty.ensures c.loop-rest-test.false in
    let all : so_far.0 ≡ bad_lines 0 (commands_from 1 (raw_lines c.args.script.now)) =
    sym (ap (λ xs. so_far.0 ++ xs) (ap (bad_lines c.loop-rest.beside) none ∙ nothing_bad c.loop-rest.beside) ∙ append-nil so_far.0) ∙ so_far.1 in
    subst (IsOf c.loop-rest.found) (ap (λ xs. before ++ map finding.Line xs) all) (so_far.2 before is)
