use Rattle.std.proofs.Common.{sym, ◌∙◌}
use Rattle.cns_command_line.specs.CommandLine.{AsksForJournal}
use Rattle.cns_command_line.proofs.parse.journal_request.Goals as goal

pub returns-then-asks_dump : goal.returns-then-asks_dump
unfolding AsksForJournal
returns-then-asks_dump c = (sym c.asks_dump.ensures ∙ c.if-asks_dump.true, c.in_ok-file.ensures, c.is_set-csv.ensures)

pub returns-then-asks_check : goal.returns-then-asks_check
unfolding AsksForJournal
returns-then-asks_check c =
    (sym c.asks_dump.ensures ∙ c.if-asks_dump.false, sym c.asks_check.ensures ∙ c.if-asks_check.true, c.in_ok-folder.ensures, c.is_set-verbose.ensures)

pub returns : goal.returns
unfolding AsksForJournal
returns c = (sym c.asks_dump.ensures ∙ c.if-asks_dump.false, sym c.asks_check.ensures ∙ c.if-asks_check.false)
