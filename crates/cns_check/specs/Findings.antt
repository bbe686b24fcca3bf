-- What is wrong with an input, all of it, in the order in which it stands there (this project's own rule).
use Rattle.std.specs.Prelude.{ℕ, zero, suc, ◌-◌, ◌^◌, ◌==◌, not, Bool, List, [], ◌∷◌, ◌++◌, length, map, get_or, codes, fold, filter_map, flat_map, Option, Some, None, Ok, Err, if◌then◌else◌}
use Rattle.std.specs.List.{enumerate_from}
use Rattle.std.specs.Result.{result_err}
use Rattle.csv.specs.Reading.{default_config, records, strip_bom}
use Rattle.cns_ids.specs.Cusip.{read_cusip}
use Rattle.cns_ids.specs.Number.{number_in}
use Rattle.cns_ids.specs.ReadDay.{read_day}
use Rattle.cns_trades.specs.Fields.{is_opening_header, is_trade_header}
use Rattle.cns_trades.specs.Openings.{opening_of}
use Rattle.cns_trades.specs.ReadId.{read_id}
use Rattle.cns_trades.specs.Records.{Fields}
use Rattle.cns_trades.specs.Rows.{told}
use Rattle.cns_trades.specs.declared.fault.RowFault.{RowFault}
use Rattle.cns_trades.specs.declared.fault.RowFault.TheVariants as fault
use Rattle.cns_trades.specs.declared.opening.Opening.{Opening}
use Rattle.cns_depository.specs.Openings.{opening_fault}
use Rattle.cns_input.specs.Script.{command_of}
use Rattle.cns_input.specs.Sections.{line_text, raw_lines, sections}
use Rattle.cns_input.specs.declared.command.Command.{Command}
use Rattle.cns_input.specs.declared.command.Command.TheVariants as command
use Rattle.cns_named.specs.Named.{has_line}
use Rattle.cns_check.specs.Mended.{mended}
use Rattle.cns_check.specs.declared.finding.Finding.{Finding}
use Rattle.cns_check.specs.declared.finding.Finding.TheVariants as finding
use Rattle.cns_check.specs.declared.finding.Head.{Head}
use Rattle.cns_check.specs.declared.finding.Head.TheVariants as head
use Rattle.cns_check.specs.declared.finding.Table.{Table}
use Rattle.cns_check.specs.declared.finding.Table.TheVariants as table

-- a head, alone in its line
abbrev pub head_text : Head → List ℕ
head_text head.Openings = codes "[openings]"
head_text head.Trades = codes "[trades]"
head_text head.Script = codes "[script]"

-- ---- the faults of a row, field by field

abbrev pub all_against : List (Option RowFault) → List RowFault
all_against = filter_map (λ fault. fault)

-- what the fields of a row of trades have against them; where there are not six, that is all that is said
abbrev pub against_trade : Fields → List (Option RowFault)
against_trade fs = if not (length fs == 6) then Some fault.Fields ∷ [] else
    result_err (told (λ _. fault.Id) (read_id (get_or fs 0 [])))
    ∷ result_err (told (λ _. fault.Settle) (read_day (get_or fs 1 [])))
    ∷ result_err (told fault.Buyer (number_in 1 9999 (get_or fs 2 [])))
    ∷ result_err (told fault.Seller (number_in 1 9999 (get_or fs 3 [])))
    ∷ result_err (told fault.Cusip (read_cusip (get_or fs 4 [])))
    ∷ result_err (told fault.Quantity (number_in 1 999999999999 (get_or fs 5 [])))
    ∷ []

abbrev pub against_opening : Fields → List (Option RowFault)
against_opening fs = if not (length fs == 3) then Some fault.Fields ∷ [] else
    result_err (told fault.Account (number_in 1 9999 (get_or fs 0 [])))
    ∷ result_err (told fault.Cusip (read_cusip (get_or fs 1 [])))
    ∷ result_err (told fault.Shares (number_in 0 (10 ^ 18) (get_or fs 2 [])))
    ∷ []

-- ---- the rows of a section

-- a row, by its number and by what its fields have against them
abbrev pub in_row : Table → ℕ → List (Option RowFault) → List Finding
in_row t n faults = map (finding.Row t n) (all_against faults)

abbrev pub in_trades : List Fields → List Finding
in_trades rows = flat_map (λ row. in_row table.Trades row.0 (against_trade row.1)) (enumerate_from 1 rows)

-- the openings that stand and what is found after one more row of openings, by its number
abbrev pub in_opening : List Opening × List Finding → ℕ × Fields → List Opening × List Finding
in_opening (held, found) (n, fs) = elim (opening_of fs) [
  | Err _ ↦ (held, found ++ in_row table.Openings n (against_opening fs))
  | Ok o ↦ elim (opening_fault held o) [ None ↦ (held ++ o ∷ [], found) | Some why ↦ (held, found ++ finding.OpeningRefused n why ∷ []) ]
]

abbrev pub held_and_found : List Fields → List Opening × List Finding
held_and_found rows = fold in_opening ([], []) (enumerate_from 1 rows)

abbrev pub in_openings : List Fields → List Finding
in_openings rows = (held_and_found rows).1

-- the records of a section: the first one is its header, and the others are its rows
unfoldable pub in_section : Table → (Fields → Bool) → (List Fields → List Finding) → List Fields → List Finding
in_section t is_header in_rows [] = []
in_section t is_header in_rows (r ∷ rs) = (if is_header r then [] else finding.NoHeader t ∷ []) ++ in_rows rs

abbrev pub records_of : List ℕ → List Fields
records_of text = records default_config (strip_bom text)

-- ---- the lines of a script

-- the numbers of the lines that are no command, or a BESIDE among those that run beside a lot, of which so many are left
unfoldable pub bad_lines : ℕ → List (ℕ × Command) → List ℕ
bad_lines beside [] = []
bad_lines beside ((n, command.Skip) ∷ ls) = bad_lines beside ls
bad_lines beside ((n, command.Bad) ∷ ls) = n ∷ bad_lines (beside - 1) ls
bad_lines zero ((n, command.Beside issue lines) ∷ ls) = bad_lines lines ls
bad_lines (suc beside) ((n, command.Beside issue lines) ∷ ls) = n ∷ bad_lines beside ls
bad_lines beside ((n, _) ∷ ls) = bad_lines (beside - 1) ls

abbrev pub commands_from : ℕ → List (List ℕ) → List (ℕ × Command)
commands_from n lines = enumerate_from n (map (λ line. command_of (line_text line)) lines)

abbrev pub in_script : List ℕ → List Finding
in_script script = map finding.Line (bad_lines 0 (commands_from 1 (raw_lines script)))

-- ---- the text

-- whether a head stands alone in some line
abbrev pub has_head : List ℕ → Head → Bool
has_head text h = has_line (head_text h) text

-- what is found of a head alone
abbrev pub no_head : List ℕ → Head → List Finding
no_head text h = if has_head text h then [] else finding.NoHead h ∷ []

-- the heads that stand in no line; where there is none, the heads stand in another order, or behind another first line
abbrev pub in_heads : List ℕ → List Finding
in_heads text =
    elim (filter_map (λ h. if has_head text h then None else Some (finding.NoHead h)) (head.Openings ∷ head.Trades ∷ head.Script ∷ []))
    [ [] ↦ finding.HeadOrder ∷ [] | (f ∷ fs) ↦ f ∷ fs ]

-- what is found in the sections of a text
abbrev pub in_sections : List ℕ → List ℕ → List ℕ → List Finding
in_sections openings trades script =
    in_section table.Openings is_opening_header in_openings (records_of openings)
    ++ in_section table.Trades is_trade_header in_trades (records_of trades)
    ++ in_script script

-- what is found in the sections that a text has once its heads are mended; nothing where it still has none
abbrev pub in_mended : List ℕ → List Finding
in_mended text = elim (sections (mended text)) [ None ↦ [] | Some (openings, trades, script) ↦ in_sections openings trades script ]

-- all that is found in a text: in its heads where it has no sections, and in those that it has once they are mended; and else in its sections
abbrev pub in_text : List ℕ → List Finding
in_text text = elim (sections text) [ None ↦ in_heads text ++ in_mended text | Some (openings, trades, script) ↦ in_sections openings trades script ]
