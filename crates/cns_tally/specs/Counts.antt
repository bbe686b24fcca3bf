-- How many lines of a text tell of what was not taken (this project's own rule).
use Rattle.std.specs.Prelude.{◌≡◌, ℕ, ◌-◌, ◌^◌, min, Bool, true, false, List, [], take, get_or}
use Rattle.std.specs.List.{count_by, filter_map, slice_split}
use Rattle.cns_words.specs.Words.{is_lf}
use Rattle.cns_tally.specs.Kinds.{kind_of}
use Rattle.cns_tally.specs.declared.kind.Kind.{Kind}
use Rattle.cns_tally.specs.declared.kind.Kind.TheVariants.{FaultyRow, BadLine, DeviceFailure, RefusedTrade, RefusedEvent}
use Rattle.cns_tally.specs.declared.counts.Counts.{Counts}
use Rattle.cns_tally.specs.declared.lines.Lines.{Lines}

-- the pieces of a text that its LFs part, the last of which no LF ends
abbrev pub pieces_of : List ℕ → List (List ℕ)
pieces_of text = slice_split is_lf text

-- the lines of a text, each up to its LF: as many of its pieces as it has LFs
abbrev pub lines_of : List ℕ → List (List ℕ)
lines_of text = take (count_by is_lf text) (pieces_of text)

-- the line that a text has begun, behind its last LF
abbrev pub begun_of : List ℕ → List ℕ
begun_of text = get_or (pieces_of text) (count_by is_lf text) []

-- what is read of a line: its first 64 bytes. No line of the text that tells of what was not taken has more
abbrev pub front_of : List ℕ → List ℕ
front_of line = take 64 line

-- what the lines of a text tell was not taken
abbrev pub kinds_of : List ℕ → List Kind
kinds_of text = filter_map (λ line. kind_of (front_of line)) (lines_of text)

-- how many pass a test, or the greatest number of 64 bits where they are more
abbrev pub capped_count : (Kind → Bool) → List Kind → ℕ
capped_count test kinds = min (count_by test kinds) (2 ^ 64 - 1)

abbrev pub is_faulty_row : Kind → Bool
is_faulty_row = elim [ FaultyRow ↦ true | _ ↦ false ]

abbrev pub is_refused_trade : Kind → Bool
is_refused_trade = elim [ RefusedTrade ↦ true | _ ↦ false ]

abbrev pub is_bad_line : Kind → Bool
is_bad_line = elim [ BadLine ↦ true | _ ↦ false ]

abbrev pub is_refused_event : Kind → Bool
is_refused_event = elim [ RefusedEvent ↦ true | _ ↦ false ]

abbrev pub is_device_failure : Kind → Bool
is_device_failure = elim [ DeviceFailure ↦ true | _ ↦ false ]

-- how many there are of each kind
abbrev pub counts_of_kinds : List Kind → Counts
counts_of_kinds kinds = record {
  faulty_rows = capped_count is_faulty_row kinds;
  refused_trades = capped_count is_refused_trade kinds;
  bad_lines = capped_count is_bad_line kinds;
  refused_events = capped_count is_refused_event kinds;
  device_failures = capped_count is_device_failure kinds;
}

-- how many lines of a text tell of what was not taken, of each kind
abbrev pub text_counts : List ℕ → Counts
text_counts text = counts_of_kinds (kinds_of text)

-- the counts are those of a text, and what was begun is the line that it has begun
pub record HasCounted (lines : Lines) (text : List ℕ) : Type 0 where
  pub counts : lines.counts ≡ text_counts text
  pub begun : lines.begun.items ≡ front_of (begun_of text)
