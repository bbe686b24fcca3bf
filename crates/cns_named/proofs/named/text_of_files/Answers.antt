use Rattle.std.proofs.Common.{rules, ◌∙◌, sym, ap, map, codes}
use Rattle.std.specs.Prelude.{is_ok}
use Rattle.std.proofs.lemmas.Result.{err_from_is_err_and}
use Rattle.cns_named.specs.Named.{ended, has_line}
use Rattle.cns_named.proofs.LineLemmas.{any_of_mapped, head_in_openings, head_in_trades, headers_differ, text_is_made}
use Rattle.cns_named.proofs.named.text_of_files.Goals as goal
use Rattle.cns_named.proofs.named.text_of_files.Goals.{then-has_line_once_ended-via-then-has_line_once_ended, then-has_line_once_ended-via-else-has_line_once_ended+then-any_has_line}

pub returns-then-has_line_once_ended : goal.returns-then-has_line_once_ended
returns-then-has_line_once_ended c =
    let o = c.args.openings.now in
    let ts = map (λ f. f.items) c.args.trades.now in
    let s = c.args.script.now in
    let mapped = any_of_mapped (λ f. f.items) (λ file. has_line (codes "[script]") (ended file)) c.args.trades.now in
    elim c.then-has_line_once_ended.branch [
      | then-has_line_once_ended-via-then-has_line_once_ended w ↦ head_in_openings o ts s (sym c.has_line_once_ended.ensures ∙ w.if-has_line_once_ended.true)
      | then-has_line_once_ended-via-else-has_line_once_ended+then-any_has_line w ↦ head_in_trades o ts s (sym c.has_line_once_ended.ensures ∙ w.if-has_line_once_ended.false) (sym (w.any_has_line.ensures ∙ mapped) ∙ w.if-any_has_line.true)
    ]

pub returns-then-not-headers_agree : goal.returns-then-not-headers_agree
returns-then-not-headers_agree c =
    let ts = map (λ f. f.items) c.args.trades.now in
    let mapped = any_of_mapped (λ f. f.items) (λ file. has_line (codes "[script]") (ended file)) c.args.trades.now in
    headers_differ c.args.openings.now ts c.args.script.now (sym c.has_line_once_ended.ensures ∙ c.if-has_line_once_ended.false) (sym (c.any_has_line.ensures ∙ mapped) ∙ c.if-any_has_line.false)
    (sym c.headers_agree.ensures ∙ search rules)

pub returns-in_err-joined : goal.returns-in_err-joined
returns-in_err-joined c =
    let ts = map (λ f. f.items) c.args.trades.now in
    let mapped = any_of_mapped (λ f. f.items) (λ file. has_line (codes "[script]") (ended file)) c.args.trades.now in
    let made = text_is_made c.args.openings.now ts c.args.script.now (sym c.has_line_once_ended.ensures ∙ c.if-has_line_once_ended.false) (sym (c.any_has_line.ensures ∙ mapped) ∙ c.if-any_has_line.false)
    (sym c.headers_agree.ensures ∙ search rules) in
    let p = err_from_is_err_and c.from_residual.result c.from_residual.ensures.1 in
    rw (p.1, p.2) (ap is_ok made)

pub returns : goal.returns
returns c =
    let ts = map (λ f. f.items) c.args.trades.now in
    let mapped = any_of_mapped (λ f. f.items) (λ file. has_line (codes "[script]") (ended file)) c.args.trades.now in
    let made = text_is_made c.args.openings.now ts c.args.script.now (sym c.has_line_once_ended.ensures ∙ c.if-has_line_once_ended.false) (sym (c.any_has_line.ensures ∙ mapped) ∙ c.if-any_has_line.false)
    (sym c.headers_agree.ensures ∙ search rules) in
    rw c.in_ok-joined.ensures made
