use Rattle.std.proofs.Common.{◌≡◌, ◌++◌, ℕ, List, Some, length, drop}
use Rattle.csv.specs.Reading.{Reached, Ready, default_config, source_of, strip_bom}
use Rattle.csv.specs.declared.parser.State.TheVariants as st
use Rattle.csv.specs.declared.reader.Trim.TheVariants as trim
use Rattle.cns_trades.specs.Records.{Fields}
use Rattle.cns_check.specs.Findings.{in_section}
use Rattle.cns_check.specs.Kept.{IsOf}
use Rattle.cns_check.specs.declared.finding.Finding.{Finding}
use Rattle.cns_check.proofs.rows.check_rows.Given as goal

abbrev pub invariant-loop-row : goal.invariant-loop-row
invariant-loop-row g l = (l.reader.trim ≡ trim.None) × Ready l.reader × (l.reader.config ≡ default_config)
    × (y : List ℕ) × (source_of (λ s. Some s.now) l.reader ≡ Some y)
    × (recs : List Fields) × Reached default_config st.StartRecord (strip_bom l.fn.text) recs l.reader.state y
    × (l.row ≡ length recs)
    × ((before : List Finding) → IsOf l.fn.found before
    → g.C.CheckRows.has_seen l.checks (drop 1 recs)
    × IsOf l.found (before ++ in_section g.C.CheckRows.table g.C.CheckRows.is_header g.C.CheckRows.in_rows recs))
