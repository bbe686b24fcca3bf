-- The rows of the table (this project's own format).
use Rattle.std.specs.Prelude.{◌≡◌, ℕ, ◌==◌, false, List, [], ◌∷◌, ◌++◌, length, codes, if◌then◌else◌}
use Rattle.std.specs.Fmt.{decimal}
use Rattle.csv.specs.Records.{Row, fields_of, partial_of}
use Rattle.csv.specs.Writing.{default_writer, fields_written, has_written, with_style, writer_setup}
use Rattle.csv.specs.declared.writer.QuoteStyle.TheVariants.{Never}
use Rattle.csv.specs.declared.writer.Writer.{Writer}
use Rattle.csv.specs.declared.writer.WriterBuilder.{WriterBuilder}
use Rattle.cns_table.specs.Place.{cycle_date, cycle_kind}
use Rattle.cns_table.specs.declared.place.Place.{Place}

-- a writer that writes each field as it stands
abbrev pub bare_writer : WriterBuilder
bare_writer = with_style default_writer Never

-- a text between double quotes, or nothing where it is empty
abbrev pub quoted : List ℕ → List ℕ
quoted text = if length text == 0 then [] else 34 ∷ text ++ 34 ∷ []

-- the names of the columns
abbrev pub column_names : List (List ℕ)
column_names =
    codes "report" ∷ codes "date" ∷ codes "kind" ∷ codes "row" ∷ codes "cusip" ∷ codes "account" ∷ codes "free" ∷ codes "lent" ∷ codes "out" ∷ codes "shares" ∷ []

-- the fields of a row, by the place that it stands in and what it has in its columns: the number of its report, the date and the kind of
-- the report's cycle, and the columns, of which the CUSIP and the account stand in quotes
abbrev pub cells : Place → List (List ℕ) → List (List ℕ)
cells place (name ∷ cusip ∷ account ∷ numbers) =
    decimal place.reports ∷ cycle_date place.cycle ∷ cycle_kind place.cycle ∷ name ∷ quoted cusip ∷ quoted account ∷ numbers
cells place _ = []

-- a writer that writes each field as it stands has written whole rows
pub record StandsAtRow {W : Type 0} (writer : Writer W) : Type 0 where
  pub setup : writer_setup writer ≡ bare_writer
  pub fields : fields_written writer ≡ 0
  pub clean : has_written writer ≡ false

-- a record has these fields, and no more of another one
pub record HasFields (made : Row) (fields : List (List ℕ)) : Type 0 where
  pub whole : fields_of made ≡ fields
  pub none : partial_of made ≡ []
