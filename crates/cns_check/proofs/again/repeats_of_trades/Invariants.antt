use Rattle.std.proofs.Common.{◌≡◌, ℕ, List, Some, length, drop}
use Rattle.csv.specs.Reading.{Reached, Ready, default_config, source_of, strip_bom}
use Rattle.csv.specs.declared.parser.State.TheVariants as st
use Rattle.csv.specs.declared.reader.Trim.TheVariants as trim
use Rattle.cns_trades.specs.Records.{Fields}
use Rattle.cns_check.specs.Repeats.{HasPassed}
use Rattle.cns_check.proofs.again.repeats_of_trades.Given as goal

abbrev pub invariant-loop-row : goal.invariant-loop-row
invariant-loop-row l = (l.reader.trim ≡ trim.None) × Ready l.reader × (l.reader.config ≡ default_config)
    × (y : List ℕ) × (source_of (λ s. Some s.now) l.reader ≡ Some y)
    × (recs : List Fields) × Reached default_config st.StartRecord (strip_bom l.fn.text) recs l.reader.state y
    × (l.row ≡ length recs)
    × HasPassed l.seen (drop 1 recs)
