use Rattle.std.proofs.Common.{◌≡◌, ℕ, List, Some, true}
use Rattle.csv.specs.Reading.{Reached, Ready, default_config, is_flexible, source_of, strip_bom}
use Rattle.csv.specs.declared.parser.State.TheVariants as st
use Rattle.csv.specs.declared.reader.Trim.TheVariants as trim
use Rattle.cns_trades.specs.Records.{Fields, StandBefore, under_header}
use Rattle.cns_trades.proofs.record.read_rows.Given as goal

abbrev pub invariant-loop-record : goal.invariant-loop-record
invariant-loop-record g l = (l.reader.trim ≡ trim.None) × Ready l.reader × (l.reader.config ≡ default_config)
    × (y : List ℕ) × (source_of (λ s. Some s.now) l.reader ≡ Some y)
    × (recs : List Fields) × Reached default_config st.StartRecord (strip_bom l.fn.text) recs l.reader.state y
    × StandBefore l.header_is_next recs × (under_header g.R.FromRecord.is_header g.R.FromRecord.row_at recs ≡ Some (g.L.RowList.rows l.rows))
    × (is_flexible l.reader ≡ true)
