use Rattle.std.proofs.Common.{◌∙◌, sym}
use Rattle.std.proofs.lemmas.Result.{IfOk-weaker}
use Rattle.cns_command_line.specs.CommandLine.{AsksFor, AsksForTable}
use Rattle.cns_command_line.proofs.parse.request_of.Goals as goal

pub returns-then-is_given : goal.returns-then-is_given
unfolding AsksFor
returns-then-is_given c =
    let texts = sym c.is_given.ensures ∙ c.if-is_given.true in
    IfOk-weaker c.cusip_request.result _ _ (λ r h. rw texts h) c.cusip_request.ensures

pub returns-then-is_asked : goal.returns-then-is_asked
unfolding AsksFor
returns-then-is_asked c =
    let texts = sym c.is_given.ensures ∙ c.if-is_given.false in
    let check = sym c.is_asked.ensures ∙ c.if-is_asked.true in
    IfOk-weaker c.check_request.result _ _ (λ r h. rw (texts, check) h) c.check_request.ensures

pub returns-then-is_asked-2 : goal.returns-then-is_asked-2
unfolding AsksFor AsksForTable
returns-then-is_asked-2 c =
    let texts = sym c.is_given.ensures ∙ c.if-is_given.false in
    let check = sym c.is_asked.ensures ∙ c.if-is_asked.false in
    let table = sym c.is_asked-2.ensures ∙ c.if-is_asked-2.true in
    rw (texts, check, table) c.is_set-last.ensures

pub returns-then-is_asked-3 : goal.returns-then-is_asked-3
unfolding AsksFor
returns-then-is_asked-3 c =
    let texts = sym c.is_given.ensures ∙ c.if-is_given.false in
    let check = sym c.is_asked.ensures ∙ c.if-is_asked.false in
    let table = sym c.is_asked-2.ensures ∙ c.if-is_asked-2.false in
    let journal = sym c.is_asked-3.ensures ∙ c.if-is_asked-3.true in
    IfOk-weaker c.journal_request.result _ _ (λ r h. rw (texts, check, table, journal) h) c.journal_request.ensures

pub returns-then-is_asked-4 : goal.returns-then-is_asked-4
unfolding AsksFor
returns-then-is_asked-4 c =
    let texts = sym c.is_given.ensures ∙ c.if-is_given.false in
    let check = sym c.is_asked.ensures ∙ c.if-is_asked.false in
    let table = sym c.is_asked-2.ensures ∙ c.if-is_asked-2.false in
    let journal = sym c.is_asked-3.ensures ∙ c.if-is_asked-3.false in
    let explain = sym c.is_asked-4.ensures ∙ c.if-is_asked-4.true in
    IfOk-weaker c.explain_request.result _ _ (λ r h. rw (texts, check, table, journal, explain) h) c.explain_request.ensures

pub returns : goal.returns
unfolding AsksFor
returns c =
    let texts = sym c.is_given.ensures ∙ c.if-is_given.false in
    let check = sym c.is_asked.ensures ∙ c.if-is_asked.false in
    let table = sym c.is_asked-2.ensures ∙ c.if-is_asked-2.false in
    let journal = sym c.is_asked-3.ensures ∙ c.if-is_asked-3.false in
    let explain = sym c.is_asked-4.ensures ∙ c.if-is_asked-4.false in
    IfOk-weaker c.run_request.result _ _ (λ r h. rw (texts, check, table, journal, explain) h) c.run_request.ensures
