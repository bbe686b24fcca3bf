-- What is found in the records of a section, one after another.
use Rattle.std.proofs.Common.{◌≡◌, ◌<◌, ◌+◌, ℕ, suc, List, [], ◌∷◌, ◌++◌, length, refl, ap, sym, subst, ◌∙◌, append_assoc, arith, Bool, true, false, Option, Some, None, drop}
use Rattle.std.specs.Prelude.{if◌then◌else◌, map}
use Rattle.std.specs.List.{enumerate_from, flat_map, fold}
use Rattle.std.specs.Result.{result_ok}
use Rattle.std.proofs.Common.{take, get_or, Result, Ok, Err}
use Rattle.std.proofs.lemmas.Grind.{flat_map-append, fold-append}
use Rattle.std.proofs.lemmas.List.{append-nil, map-append, take_more}
use Rattle.cns_trades.specs.Openings.{opening_of}
use Rattle.cns_trades.specs.declared.opening.Opening.{Opening}
use Rattle.cns_depository.specs.Openings.{OpeningLeaves, opening_fault}
use Rattle.cns_depository.specs.declared.openings.OpeningFault.{OpeningFault}
use Rattle.cns_depository.specs.declared.openings.OpeningFault.TheVariants as opening_faults
use Rattle.std.proofs.lemmas.List.Elements.{filter_map-append}
use Rattle.cns_trades.specs.Records.{Fields}
use Rattle.cns_trades.specs.declared.fault.RowFault.{RowFault}
use Rattle.cns_check.specs.Findings.{against_opening, against_trade, all_against, held_and_found, in_opening, in_row, in_section, in_trades}
use Rattle.cns_check.specs.declared.finding.Finding.{Finding}
use Rattle.cns_check.specs.declared.finding.Finding.TheVariants as finding
use Rattle.cns_check.specs.declared.finding.Table.{Table}
use Rattle.cns_check.specs.declared.finding.Table.TheVariants as table

-- ---- the faults of a row

pub in_row-one : (t : Table) (n : ℕ) (faults : List (Option RowFault)) (f : RowFault) → in_row t n (faults ++ Some f ∷ []) ≡ in_row t n faults ++ finding.Row t n f ∷ []
in_row-one t n faults f = ap (map (finding.Row t n)) (filter_map-append (λ fault. fault) faults (Some f ∷ [])) ∙ map-append (finding.Row t n) (all_against faults) (f ∷ [])

pub in_row-none : (t : Table) (n : ℕ) (faults : List (Option RowFault)) → in_row t n (faults ++ None ∷ []) ≡ in_row t n faults
in_row-none t n faults = ap (map (finding.Row t n)) (filter_map-append (λ fault. fault) faults (None ∷ []) ∙ append-nil (all_against faults))

-- the faults up to a place, and the one that stands there
pub one_more_fault : (t : Table) (n : ℕ) (faults : List (Option RowFault)) (i : ℕ) (f : RowFault) → i < length faults → get_or faults i None ≡ Some f
    → in_row t n (take (i + 1) faults) ≡ in_row t n (take i faults) ++ finding.Row t n f ∷ []
one_more_fault t n faults i f within is = ap (in_row t n) (take_more faults i None within ∙ ap (λ x. take i faults ++ x ∷ []) is) ∙ in_row-one t n (take i faults) f

pub no_more_fault : (t : Table) (n : ℕ) (faults : List (Option RowFault)) (i : ℕ) → i < length faults → get_or faults i None ≡ None
    → in_row t n (take (i + 1) faults) ≡ in_row t n (take i faults)
no_more_fault t n faults i within is = ap (in_row t n) (take_more faults i None within ∙ ap (λ x. take i faults ++ x ∷ []) is) ∙ in_row-none t n (take i faults)

-- ---- rows with their numbers

enumerate_from-one : {X : Type 0} (n : ℕ) (xs : List X) (x : X) → enumerate_from n (xs ++ x ∷ []) ≡ enumerate_from n xs ++ (n + length xs, x) ∷ []
enumerate_from-one n [] x = grind arith
enumerate_from-one n (y ∷ ys) x =
    let more = enumerate_from-one (n + 1) ys x in
    let same : n + 1 + length ys ≡ n + suc (length ys) = omega arith in
    rw (more, same) refl

pub numbered-one : (rows : List Fields) (f : Fields) (n : ℕ) → n ≡ length rows + 1 → enumerate_from 1 (rows ++ f ∷ []) ≡ enumerate_from 1 rows ++ (n, f) ∷ []
numbered-one rows f n is =
    let at : 1 + length rows ≡ n = omega (arith, is) in
    enumerate_from-one 1 rows f ∙ ap (λ k. enumerate_from 1 rows ++ (k, f) ∷ []) at

rows-one : (h : ℕ × Fields → List Finding) (rows : List Fields) (f : Fields) (n : ℕ) → n ≡ length rows + 1
    → flat_map h (enumerate_from 1 (rows ++ f ∷ [])) ≡ flat_map h (enumerate_from 1 rows) ++ h (n, f)
rows-one h rows f n is =
    ap (flat_map h) (numbered-one rows f n is) ∙ flat_map-append h (enumerate_from 1 rows) ((n, f) ∷ []) ∙ ap (λ xs. flat_map h (enumerate_from 1 rows) ++ xs) (append-nil (h (n, f)))

-- one more row of trades
pub one_more_trade : (before : List Finding) (rows : List Fields) (f : Fields) (n : ℕ) (faults : List (Option RowFault)) → n ≡ length rows + 1 → all_against faults ≡ all_against (against_trade f)
    → (before ++ in_trades rows) ++ in_row table.Trades n faults ≡ before ++ in_trades (rows ++ f ∷ [])
one_more_trade before rows f n faults is same =
    let more = rows-one (λ row. in_row table.Trades row.0 (against_trade row.1)) rows f n is in
    append_assoc before (in_trades rows) (in_row table.Trades n faults) ∙ ap (λ xs. before ++ xs) (ap (λ xs. in_trades rows ++ map (finding.Row table.Trades n) xs) same ∙ sym more)

-- one more row of openings
openings-one : (rows : List Fields) (f : Fields) (n : ℕ) → n ≡ length rows + 1 → held_and_found (rows ++ f ∷ []) ≡ in_opening (held_and_found rows) (n, f)
openings-one rows f n is = ap (fold in_opening ([], [])) (numbered-one rows f n is) ∙ fold-append in_opening ([], []) (enumerate_from 1 rows) ((n, f) ∷ [])

is_fault : {T E : Type 0} (r : Result T E) → None ≡ result_ok r → (e : E) × (r ≡ Err e)
is_fault (Ok v) none = cc none
is_fault (Err e) none = (e, refl)

is_value : {T E : Type 0} (r : Result T E) (v : T) → Some v ≡ result_ok r → r ≡ Ok v
is_value (Ok w) v is = cc is
is_value (Err e) v is = cc is

-- what a row of openings leaves: these openings stand, and this is found
abbrev pub Leaves : List Fields → List Finding → (List Finding → Type 0) → List Opening → Type 0
Leaves rows before Is held = (held ≡ (held_and_found rows).0) × Is (before ++ (held_and_found rows).1)

leaves : (rows : List Fields) (before : List Finding) (Is : List Finding → Type 0) (held stands : List Opening) (all : List Finding)
    → held_and_found rows ≡ (stands, all) → held ≡ stands → Is (before ++ all) → Leaves rows before Is held
leaves rows before Is held stands all step same is = (same ∙ sym (ap (λ p. p.0) step), subst (λ p. Is (before ++ p.1)) (sym step) is)

-- it is none
pub no_opening : (rows : List Fields) (before : List Finding) (f : Fields) (n : ℕ) (Is Was : List Finding → Type 0) (held : List Opening) (faults : List (Option RowFault))
    → n ≡ length rows + 1 → None ≡ result_ok (opening_of f) → all_against faults ≡ all_against (against_opening f)
    → ((b : List Finding) → Was b → Is (b ++ in_row table.Openings n faults))
    → Leaves rows before Was held → Leaves (rows ++ f ∷ []) before Is held
no_opening rows before f n Is Was held faults at none same adds was =
    let was_found = (held_and_found rows).1 in
    let fault = is_fault (opening_of f) none in
    let step : in_opening (held_and_found rows) (n, f) ≡ ((held_and_found rows).0, was_found ++ in_row table.Openings n (against_opening f)) = rw (fault.1, in_opening) refl in
    let joined : (before ++ was_found) ++ in_row table.Openings n faults ≡ before ++ (was_found ++ in_row table.Openings n (against_opening f)) =
    append_assoc before was_found (in_row table.Openings n faults) ∙ ap (λ xs. before ++ (was_found ++ map (finding.Row table.Openings n) xs)) same in
    leaves (rows ++ f ∷ []) before Is held _ _ (openings-one rows f n at ∙ step) was.0 (subst Is joined (adds (before ++ was_found) was.1))

abbrev by_fault : Option OpeningFault → List Opening × List Finding → ℕ → Opening → List Opening × List Finding
by_fault why p n o = elim why [ None ↦ (p.0 ++ o ∷ [], p.1) | Some why ↦ (p.0, p.1 ++ finding.OpeningRefused n why ∷ []) ]

opening_step : (p : List Opening × List Finding) (n : ℕ) (f : Fields) (o : Opening) → opening_of f ≡ Ok o
    → in_opening p (n, f) ≡ by_fault (opening_fault p.0 o) p n o
opening_step p n f o is = rw (is, in_opening) refl

-- it is one, which stands
pub opening_stands : (rows : List Fields) (before : List Finding) (f : Fields) (n : ℕ) (Is : List Finding → Type 0) (held new : List Opening) (o : Opening)
    → n ≡ length rows + 1 → Some o ≡ result_ok (opening_of f) → opening_fault held o ≡ None → new ≡ held ++ o ∷ []
    → Leaves rows before Is held → Leaves (rows ++ f ∷ []) before Is new
opening_stands rows before f n Is held new o at is fits made was =
    let p = held_and_found rows in
    let here : opening_fault p.0 o ≡ None = subst (λ h. opening_fault h o ≡ None) was.0 fits in
    let step : in_opening p (n, f) ≡ (p.0 ++ o ∷ [], p.1) = opening_step p n f o (is_value (opening_of f) o is) ∙ ap (λ w. by_fault w p n o) here in
    leaves (rows ++ f ∷ []) before Is new _ _ (openings-one rows f n at ∙ step) (made ∙ ap (λ h. h ++ o ∷ []) was.0) was.1

-- it is one, which is refused
pub is_refused : (why : OpeningFault) (held new : List Opening) (o : Opening) → (why ≡ opening_faults.OutOfMemory → ⊥) → OpeningLeaves o (Err why) held new
    → (opening_fault held o ≡ Some why) × (new ≡ held)
is_refused opening_faults.Double held new o not left = left
is_refused opening_faults.IssueSum held new o not left = left
is_refused opening_faults.OutOfMemory held new o not left = absurd (not refl)

pub opening_refused : (rows : List Fields) (before : List Finding) (f : Fields) (n : ℕ) (Is Was : List Finding → Type 0) (held new : List Opening) (o : Opening) (why : OpeningFault)
    → n ≡ length rows + 1 → Some o ≡ result_ok (opening_of f) → opening_fault held o ≡ Some why → new ≡ held
    → ((b : List Finding) → Was b → Is (b ++ finding.OpeningRefused n why ∷ []))
    → Leaves rows before Was held → Leaves (rows ++ f ∷ []) before Is new
opening_refused rows before f n Is Was held new o why at is refused same adds was =
    let p = held_and_found rows in
    let here : opening_fault p.0 o ≡ Some why = subst (λ h. opening_fault h o ≡ Some why) was.0 refused in
    let step : in_opening p (n, f) ≡ (p.0, p.1 ++ finding.OpeningRefused n why ∷ []) = opening_step p n f o (is_value (opening_of f) o is) ∙ ap (λ w. by_fault w p n o) here in
    leaves (rows ++ f ∷ []) before Is new _ _ (openings-one rows f n at ∙ step) (same ∙ was.0) (subst Is (append_assoc before p.1 _) (adds (before ++ p.1) was.1))

-- ---- the records of a section

module _ (t : Table) (is_header : Fields → Bool) (in_rows : List Fields → List Finding) where
  abbrev found_in : List Fields → List Finding
  found_in = in_section t is_header in_rows

  pub nothing_in_no_records : found_in [] ≡ []
  unfolding in_section
  nothing_in_no_records = refl

  pub is_its_header : (r : Fields) → in_rows [] ≡ [] → is_header r ≡ true → found_in (r ∷ []) ≡ []
  unfolding in_section
  is_its_header r none is = rw (is, none) refl

  pub is_not_its_header : (r : Fields) → in_rows [] ≡ [] → is_header r ≡ false → found_in (r ∷ []) ≡ finding.NoHeader t ∷ []
  unfolding in_section
  is_not_its_header r none is = rw (is, none) refl

  -- one more row, where the header stands before it
  pub one_more_row : (P Q : List Finding → Type 0) (S Z : List Fields → Type 0) (records : List Fields) (f : Fields) (before : List Finding)
      → 0 < length records
      → ((rows : List Fields) (b : List Finding) → S rows → length records ≡ length rows + 1 → P (b ++ in_rows rows) → Z (rows ++ f ∷ []) × Q (b ++ in_rows (rows ++ f ∷ [])))
      → S (drop 1 records) → P (before ++ found_in records) → Z (drop 1 (records ++ f ∷ [])) × Q (before ++ found_in (records ++ f ∷ []))
  unfolding in_section
  one_more_row P Q S Z [] f before some checked seen found = absurd (omega (arith, some))
  one_more_row P Q S Z (r ∷ rows) f before some checked seen found =
      let head : List Finding = if is_header r then [] else finding.NoHeader t ∷ [] in
      let was = subst P (sym (append_assoc before head (in_rows rows))) found in
      let more = checked rows (before ++ head) seen (omega arith) was in
      (more.0, subst Q (append_assoc before head (in_rows (rows ++ f ∷ []))) more.1)

  -- the first record
  pub first_record : (P Q : List Finding → Type 0) (S : List Fields → Type 0) (records : List Fields) (f : Fields) (before : List Finding)
      → length records ≡ 0 → (P before → Q (before ++ found_in (f ∷ []))) → S (drop 1 records) → P (before ++ found_in records)
      → S (drop 1 (records ++ f ∷ [])) × Q (before ++ found_in (records ++ f ∷ []))
  unfolding in_section
  first_record P Q S [] f before none adds seen found = (seen, adds (subst P (append-nil before) found))
  first_record P Q S (r ∷ rows) f before none adds seen found = cc none
