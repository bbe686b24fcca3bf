-- What a tally is known to hold.
use Rattle.std.specs.Prelude.{ℕ, Bool, bytes_eq, ◌==◌, ◌&&◌, List, Option, Some, None, if◌then◌else◌}
use Rattle.cns_tally.specs.Counts.{begun_of, text_counts, front_of}
use Rattle.cns_tally.specs.declared.counts.Counts.{Counts}
use Rattle.cns_tally.specs.declared.lines.Lines.{Lines}
use Rattle.cns_tally.specs.declared.tally.Tally.{Tally}

abbrev pub same_counts : Counts → Counts → Bool
same_counts a b =
    (a.faulty_rows == b.faulty_rows) && (a.refused_trades == b.refused_trades) && (a.bad_lines == b.bad_lines)
    && (a.refused_events == b.refused_events) && (a.device_failures == b.device_failures)

-- whether the counts are those of a text, and what was begun is the line that it has begun
abbrev pub has_counted : Lines → List ℕ → Bool
has_counted lines text = same_counts lines.counts (text_counts text) && bytes_eq lines.begun.items (front_of (begun_of text))

-- the text, where it is what the lines have counted
abbrev pub if_counted : Lines → Option (List ℕ) → Option (List ℕ)
if_counted lines None = None
if_counted lines (Some text) = if has_counted lines text then Some text else None

-- the bytes that the writer is known to hold, where they are those that the tally has counted. They are so from the tally's making on, and
-- each write keeps it; only a writer whose bytes become known later, as the contract of a writer allows, may hold others
abbrev pub contents_of : {W : Type 0} → (W → Option (List ℕ)) → Tally W → Option (List ℕ)
contents_of contents tally = if_counted tally.lines (contents tally.writer)
