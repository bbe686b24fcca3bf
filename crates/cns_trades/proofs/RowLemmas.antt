-- Rows under a header, one record after another.
use Rattle.std.proofs.Common.{◌≡◌, ◌<◌, ◌+◌, ℕ, zero, suc, List, [], ◌∷◌, ◌++◌, length, Option, Some, None, Bool, true, false, refl, sym, ap, ◌∙◌, arith, add-one}
use Rattle.std.specs.Prelude.{get_or, if◌then◌else◌, map, unwrap_or}
use Rattle.std.specs.List.{enumerate_from}
use Rattle.csv.specs.Reading.{ExplainsRead, Reached, default_config, is_flexible, records, records_from}
use Rattle.csv.specs.Records.{field_at}
use Rattle.csv.specs.declared.parser.State.{State}
use Rattle.csv.specs.declared.parser.State.TheVariants as st
use Rattle.csv.specs.declared.error.ErrorKind.{ErrorKind}
use Rattle.csv.specs.declared.error.ErrorKind.TheVariants as kind
use Rattle.csv.specs.declared.reader.Reader.{Reader}
use Rattle.cns_trades.specs.declared.fault.CsvFault.{CsvFault}
use Rattle.cns_trades.specs.declared.fault.CsvFault.TheVariants as fault
use Rattle.cns_trades.specs.Records.{Fields, IsReaderFault, TellsRows, under_header}
use Rattle.cns_trades.proofs.AllRead.{some_same}

-- the rows that records are, numbered from n on
abbrev rows_from : {R : Type 0} → (ℕ → Fields → R) → ℕ → List Fields → List R
rows_from row_at n rs = map (λ row. row_at row.0 row.1) (enumerate_from n rs)

rows_from-append : {R : Type 0} (row_at : ℕ → Fields → R) (n : ℕ) (rs : List Fields) (r : Fields)
    → rows_from row_at n (rs ++ r ∷ []) ≡ rows_from row_at n rs ++ row_at (n + length rs) r ∷ []
rows_from-append row_at n [] r = grind arith
rows_from-append row_at n (x ∷ rs) r =
    let more = rows_from-append row_at (n + 1) rs r in
    let same : n + 1 + length rs ≡ n + suc (length rs) = omega arith in
    rw (more, same) refl

length-rows_from : {R : Type 0} (row_at : ℕ → Fields → R) (n : ℕ) (rs : List Fields) → length (rows_from row_at n rs) ≡ length rs
length-rows_from row_at n [] = refl
length-rows_from row_at n (r ∷ rs) = ap suc (length-rows_from row_at (n + 1) rs)

-- the header, where no record stands before it
pub takes_header : {R : Type 0} (is_header : Fields → Bool) (row_at : ℕ → Fields → R) (before : List Fields) (rows : List R) (r : Fields)
    → before ≡ [] → is_header r ≡ true → under_header is_header row_at before ≡ Some rows
    → under_header is_header row_at (before ++ r ∷ []) ≡ Some rows
unfolding under_header
takes_header is_header row_at [] rows r none h e = rw h e
takes_header is_header row_at (x ∷ xs) rows r none h e = cc none

-- a row, where the header stands before it
pub takes_row : {R : Type 0} (is_header : Fields → Bool) (row_at : ℕ → Fields → R) (before : List Fields) (rows : List R) (r : Fields)
    → 0 < length before → under_header is_header row_at before ≡ Some rows
    → under_header is_header row_at (before ++ r ∷ []) ≡ Some (rows ++ row_at (length rows + 1) r ∷ [])
unfolding under_header
takes_row is_header row_at [] rows r some e = absurd (omega (arith, some))
takes_row is_header row_at (x ∷ recs) rows r some e = by (is_header x) refl e
  where
    by : (b : Bool) → is_header x ≡ b → (if b then Some (rows_from row_at 1 recs) else None) ≡ Some rows
        → (if is_header x then Some (rows_from row_at 1 (recs ++ r ∷ [])) else None) ≡ Some (rows ++ row_at (length rows + 1) r ∷ [])
    by true h g =
        let same = some_same _ _ g in
        let size : length rows ≡ length recs = ap length (sym same) ∙ length-rows_from row_at 1 recs in
        let at : 1 + length recs ≡ length rows + 1 = omega (arith, size) in
        rw (h, rows_from-append row_at 1 recs r, same, at) refl
    by false h g = cc g

-- a text whose first record is not the header has no rows
pub not_header : {R : Type 0} (is_header : Fields → Bool) (row_at : ℕ → Fields → R) (xs : List ℕ) (recs : List Fields) (r : Fields) (s2 : State) (ys : List ℕ)
    → recs ≡ [] → is_header r ≡ false → Reached default_config st.StartRecord xs (recs ++ r ∷ []) s2 ys
    → under_header is_header row_at (records default_config xs) ≡ None
unfolding under_header records_from Reached
not_header is_header row_at xs [] r s2 ys none h g =
    let plus = add-one (length xs) in
    rw (plus, g.1, ← g.2, h) refl
not_header is_header row_at xs (x ∷ recs) r s2 ys none h g = cc none

-- a fault tells of the rows what it must
pub tells : {R : Type 0} (e : CsvFault) (rows : Option (List R)) → (e ≡ fault.Header → rows ≡ None) → TellsRows e rows
tells fault.Header rows h = h refl
tells fault.Reading rows h = tt
tells fault.OutOfMemory rows h = tt

-- a flexible reader of bytes fails for the reader underneath or for memory alone
pub reader_fault : {S : Type 0} (rem : S → Option (List ℕ)) (a b : Reader S) (k : ErrorKind) → is_flexible a ≡ true → ExplainsRead rem a b false k → IsReaderFault k
reader_fault rem a b (kind.Io e) f h = tt
reader_fault rem a b kind.OutOfMemory f h = tt
reader_fault rem a b (kind.UnequalLengths pos expected len) f h = let no = h.0 in cc (f, no)
reader_fault rem a b (kind.Utf8 pos err) f h = let no = h.0 in cc no
reader_fault rem a b (kind.Serialize why) f h = absurd h
reader_fault rem a b (kind.Deserialize pos err) f h = absurd h

-- the field at a place, or an empty one
pub field_or_empty : (fs : List (List ℕ)) (place : ℕ) → get_or fs place [] ≡ unwrap_or (field_at fs place) []
unfolding field_at
field_or_empty [] zero = refl
field_or_empty [] (suc place) = refl
field_or_empty (f ∷ fs) zero = refl
field_or_empty (f ∷ fs) (suc place) = field_or_empty fs place
