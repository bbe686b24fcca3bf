use Rattle.std.proofs.Common.{◌≡◌, ◌∙◌, ap, sym, refl, subst, true, map}
use Rattle.std.proofs.lemmas.Result.{err_from_is_err_and}
use Rattle.clap.specs.Words.{App, HasKind, fault_of, is_simple, subcommand_of}
use Rattle.clap.specs.Faults.{is_simple_and_free}
use Rattle.cns_command_line.specs.CommandLine.{AsksFor, cnsd_app}
use Rattle.cns_command_line.proofs.parse.parse_command_line.Goals as goal

is_simple_app : is_simple_and_free cnsd_app ≡ true
is_simple_app = refl

is_plain_app : is_simple cnsd_app ≡ true
is_plain_app = refl

pub returns-in_err-matches-clause-fails : goal.returns-in_err-matches-clause-fails
returns-in_err-matches-clause-fails c =
    let app = c.in_ok-command.ensures in
    let kinds = c.in_err-matches.ensures.kinds (ap is_simple_and_free app ∙ is_simple_app) in
    let p = err_from_is_err_and c.from_residual-in_err-matches.result c.from_residual-in_err-matches.ensures.1 in
    rw (p.1, p.2) (subst (λ a. HasKind (fault_of a (map (λ w. w.now) c.args.words.now)) c.in_err-matches.field-0.0) app kinds)

pub returns-clause-fails : goal.returns-clause-fails
returns-clause-fails c =
    let app = c.in_ok-command.ensures in
    ap (λ (a : App). fault_of a (map (λ w. w.now) c.args.words.now)) (sym app) ∙ c.in_ok-matches.ensures.kinds (ap is_simple_and_free app ∙ is_simple_app)

pub returns-clause-asks : goal.returns-clause-asks
returns-clause-asks c =
    let words = map (λ w. w.now) c.args.words.now in
    let app = c.in_ok-command.ensures in
    let rows = (c.in_ok-matches.ensures.matches (ap is_simple app ∙ is_plain_app)).1 ∙ ap (λ a. subcommand_of a words) app in
    subst (λ used. AsksFor used c.in_ok-request_of.field-0) rows c.in_ok-request_of.ensures
