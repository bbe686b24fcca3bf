-- Which lines of the text of a run tell that something of its input was not taken (this project's own rule).
use Rattle.std.specs.Prelude.{ℕ, bytes_eq, not, ◌==◌, ◌||◌, List, Option, Some, None, codes, if◌then◌else◌}
use Rattle.std.specs.List.{ends_with, list_any}
use Rattle.cns_words.specs.Words.{begins_with, line_words}
use Rattle.cns_tally.specs.declared.kind.Kind.{Kind}
use Rattle.cns_tally.specs.declared.kind.Kind.TheVariants as kind

-- what a line tells was not taken. Where the word `refused` stands in a line of the text, one word is behind it: the refusal's name
abbrev pub kind_of : List ℕ → Option Kind
kind_of line =
    if begins_with line (codes "row ") || begins_with line (codes "opening ") then Some kind.FaultyRow
    else if begins_with line (codes "line ") then Some kind.BadLine
    else if not (list_any (λ word. bytes_eq word (codes "refused")) (line_words line)) then None
    else if ends_with ◌==◌ line (codes " Device") then Some kind.DeviceFailure
    else if begins_with line (codes "trade ") then Some kind.RefusedTrade
    else Some kind.RefusedEvent
