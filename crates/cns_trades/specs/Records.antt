-- The rows of a text: its records under a header, as `csv` reads them.
use Rattle.std.specs.Prelude.{◌≡◌, ⊤, ℕ, ◌<◌, Bool, true, false, List, [], ◌∷◌, length, map, Option, Some, None, if◌then◌else◌}
use Rattle.std.specs.List.{enumerate_from}
use Rattle.csv.specs.Reading.{default_config, records, strip_bom}
use Rattle.std.specs.IoError.{error_kind}
use Rattle.std.specs.declared.io.ErrorKind.TheVariants as io
use Rattle.csv.specs.declared.error.ErrorKind.{ErrorKind}
use Rattle.csv.specs.declared.error.ErrorKind.TheVariants as kind
use Rattle.cns_trades.specs.declared.fault.CsvFault.{CsvFault}
use Rattle.cns_trades.specs.declared.fault.CsvFault.TheVariants as fault

-- a record is its fields
abbrev pub Fields : Type 0
Fields = List (List ℕ)

-- no record, or the header and the rows, numbered from 1 on; None where the first record is not the header
unfoldable pub under_header : {R : Type 0} → (Fields → Bool) → (ℕ → Fields → R) → List Fields → Option (List R)
under_header is_header row_at [] = Some []
under_header is_header row_at (r ∷ rs) = if is_header r then Some (map (λ row. row_at row.0 row.1) (enumerate_from 1 rs)) else None

-- the rows of a text: csv's records of bytes, with its default comma and double quote, no header handling and rows of
-- any length, after a byte order mark where there is one
abbrev pub rows_of : {R : Type 0} → (Fields → Bool) → (ℕ → Fields → R) → List ℕ → Option (List R)
rows_of is_header row_at text = under_header is_header row_at (records default_config (strip_bom text))

-- what a fault of reading says of the text's rows
abbrev pub TellsRows : {R : Type 0} → CsvFault → Option (List R) → Type 0
TellsRows fault.Header rows = rows ≡ None
TellsRows fault.Reading rows = ⊤
TellsRows fault.OutOfMemory rows = ⊤

-- the records that stand before the next one: none where the header is next, and else the header and rows
abbrev pub StandBefore : Bool → List Fields → Type 0
StandBefore true before = before ≡ []
StandBefore false before = 0 < length before

-- an error of want of memory: the library's own, or one of the reader underneath
abbrev pub IsWantOfMemory : ErrorKind → Type 0
IsWantOfMemory kind.OutOfMemory = ⊤
IsWantOfMemory (kind.Io e) = error_kind e ≡ io.OutOfMemory
IsWantOfMemory (kind.UnequalLengths pos expected len) = ⊥
IsWantOfMemory (kind.Utf8 pos err) = ⊥
IsWantOfMemory (kind.Serialize why) = ⊥
IsWantOfMemory (kind.Deserialize pos err) = ⊥

-- the faults of a reader of bytes that takes records of any length: the reader underneath, or memory
abbrev pub IsReaderFault : ErrorKind → Type 0
IsReaderFault (kind.Io e) = ⊤
IsReaderFault kind.OutOfMemory = ⊤
IsReaderFault (kind.UnequalLengths pos expected len) = ⊥
IsReaderFault (kind.Utf8 pos err) = ⊥
IsReaderFault (kind.Serialize why) = ⊥
IsReaderFault (kind.Deserialize pos err) = ⊥
