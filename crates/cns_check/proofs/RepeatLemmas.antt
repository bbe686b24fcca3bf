-- Trades of which an earlier row has the id, row after row.
use Rattle.std.proofs.Common.{◌≡◌, ◌<◌, ◌≤◌, ◌+◌, ℕ, List, [], ◌∷◌, ◌++◌, length, take, drop, Bool, true, false, cond, Option, Some, None, filter_map, find, option_map, nat_lt, refl, ap, ap₂, sym, subst, ◌∙◌, arith}
use Rattle.std.specs.HashMap.{get}
use Rattle.std.specs.List.{cons_option, enumerate_from}
use Rattle.std.specs.Option.{option_or}
use Rattle.std.proofs.lemmas.Bool.{false≢true, le-ltb, lt-ltb, ltb-false, ltb-true}
use Rattle.std.proofs.lemmas.List.{append-nil, length_push, take-append-le, take_all}
use Rattle.std.proofs.lemmas.List.Elements.{filter-append, filter_map-append}
use Rattle.std.proofs.lemmas.List.Folds.{find-append}
use lib.Pointwise.{bytes_decides}
use Rattle.cns_trades.specs.Fields.{same_text}
use Rattle.cns_trades.specs.Records.{Fields}
use Rattle.cns_input.specs.Sections.{sections}
use Rattle.cns_check.specs.Findings.{records_of}
use Rattle.cns_check.specs.Repeats.{HasPassed, KeepsRepeats, first_row, first_with, numbered_id, numbered_ids, repeat_in, repeated_rows, repeats_among, repeats_in, repeats_of, row_id, rows_before}
use Rattle.cns_check.specs.declared.repeat.Repeats.{Repeats}
use Rattle.cns_check.specs.declared.seen.FirstRow.{FirstRow}
use Rattle.cns_check.specs.declared.seen.Seen.{Seen}
use Rattle.cns_check.proofs.SectionLemmas.{numbered-one}

-- ---- what is kept of one more

take-one : {A : Type 0} (n : ℕ) (xs : List A) (x : A) → take n (xs ++ x ∷ []) ≡ take n xs ++ cond (nat_lt (length xs) n) (x ∷ []) []
take-one n xs x = by (nat_lt (length xs) n) refl
  where
    by : (b : Bool) → nat_lt (length xs) n ≡ b → take n (xs ++ x ∷ []) ≡ take n xs ++ cond b (x ∷ []) []
    by true is =
        let few = ltb-true (length xs) n is in
        take_all n (xs ++ x ∷ []) (omega (arith, few, length_push xs x)) ∙ ap (λ ys. ys ++ x ∷ []) (sym (take_all n xs (omega (arith, few))))
    by false is = take-append-le n xs (x ∷ []) (ltb-false (length xs) n is) ∙ sym (append-nil (take n xs))

-- kept and counted, one more is of all
pub keeps_one : (old mid new : Repeats) (all : List (ℕ × ℕ)) (p : ℕ × ℕ)
    → repeated_rows mid ≡ repeated_rows old ++ cond (nat_lt old.count 1000) (p ∷ []) [] → mid.count ≡ old.count
    → repeated_rows new ≡ repeated_rows mid → new.count ≡ mid.count + 1
    → KeepsRepeats old all → KeepsRepeats new (all ++ p ∷ [])
keeps_one old mid new all p kept still same counted keeps = record {
  first = same ∙ kept ∙ ap₂ (λ xs n. xs ++ cond (nat_lt n 1000) (p ∷ []) []) keeps.first keeps.count ∙ sym (take-one 1000 all p);
  count = counted ∙ ap (λ n. n + 1) (still ∙ keeps.count) ∙ sym (length_push all p);
}

-- ---- the rows that have an id

ids-one : (rows : List Fields) (f : Fields) (n : ℕ) → n ≡ length rows + 1 → numbered_ids (rows ++ f ∷ []) ≡ numbered_ids rows ++ cons_option (numbered_id (n, f)) []
ids-one rows f n at = ap (filter_map numbered_id) (numbered-one rows f n at) ∙ filter_map-append numbered_id (enumerate_from 1 rows) ((n, f) ∷ [])

-- what a row adds to them, by its id
abbrev added : ℕ → Option (List ℕ) → List (ℕ × List ℕ)
added n o = cons_option (option_map (λ id. (n, id)) o) []

ids-some : (rows : List Fields) (f : Fields) (n : ℕ) (id : List ℕ) → n ≡ length rows + 1 → row_id f ≡ Some id → numbered_ids (rows ++ f ∷ []) ≡ numbered_ids rows ++ (n, id) ∷ []
ids-some rows f n id at is = ids-one rows f n at ∙ ap (λ o. numbered_ids rows ++ added n o) is

ids-none : (rows : List Fields) (f : Fields) (n : ℕ) → n ≡ length rows + 1 → row_id f ≡ None → numbered_ids (rows ++ f ∷ []) ≡ numbered_ids rows
ids-none rows f n at is = ids-one rows f n at ∙ ap (λ o. numbered_ids rows ++ added n o) is ∙ append-nil (numbered_ids rows)

-- each of them has a smaller number
abbrev AllBelow : ℕ → List (ℕ × List ℕ) → Type 0
AllBelow n [] = Unit {0}
AllBelow n (r ∷ rs) = (r.0 < n) × AllBelow n rs

abbrev ids_from : ℕ → List Fields → List (ℕ × List ℕ)
ids_from n rows = filter_map numbered_id (enumerate_from n rows)

below_from : (first n : ℕ) (rows : List Fields) → first + length rows ≤ n → AllBelow n (ids_from first rows)
below_from first n [] fits = tt
below_from first n (r ∷ rs) fits = by (row_id r) (below_from (first + 1) n rs (omega (arith, fits)))
  where
    by : (o : Option (List ℕ)) → AllBelow n (ids_from (first + 1) rs) → AllBelow n (cons_option (option_map (λ id. (first, id)) o) (ids_from (first + 1) rs))
    by None more = more
    by (Some id) more = (omega (arith, fits), more)

below_next : (rows : List Fields) (n : ℕ) → n ≡ length rows + 1 → AllBelow n (numbered_ids rows)
below_next rows n at = below_from 1 n rows (omega (arith, at))

-- ---- the rows before one

before-later : (n m : ℕ) (id : List ℕ) (rows : List (ℕ × List ℕ)) → m ≤ n → rows_before m (rows ++ (n, id) ∷ []) ≡ rows_before m rows
before-later n m id rows later =
    filter-append (λ (row : ℕ × List ℕ). nat_lt row.0 m) rows ((n, id) ∷ []) ∙ ap (λ b. rows_before m rows ++ cond b ((n, id) ∷ []) []) (le-ltb n m later) ∙ append-nil (rows_before m rows)

all_before : (n : ℕ) (rows : List (ℕ × List ℕ)) → AllBelow n rows → rows_before n rows ≡ rows
all_before n [] below = refl
all_before n (r ∷ rs) below = ap (λ b. cond b (r ∷ rows_before n rs) (rows_before n rs)) (lt-ltb r.0 n below.0) ∙ ap (λ xs. r ∷ xs) (all_before n rs below.1)

before-next : (n : ℕ) (id : List ℕ) (rows : List (ℕ × List ℕ)) → AllBelow n rows → rows_before n (rows ++ (n, id) ∷ []) ≡ rows
before-next n id rows below =
    let same : n ≤ n = omega arith in
    before-later n n id rows same ∙ all_before n rows below

-- ---- one more row

-- the rows whose id an earlier one has are so whatever stands behind them
repeat_in-later : (n : ℕ) (id : List ℕ) (rows : List (ℕ × List ℕ)) (r : ℕ × List ℕ) → r.0 < n → repeat_in (rows ++ (n, id) ∷ []) r ≡ repeat_in rows r
repeat_in-later n id rows r below =
    let later : r.0 ≤ n = omega (arith, below) in
    ap (λ before. option_map (λ first. (r.0, first)) (first_with r.1 before)) (before-later n r.0 id rows later)

same_repeats : (n : ℕ) (id : List ℕ) (rows later : List (ℕ × List ℕ)) → AllBelow n later → filter_map (repeat_in (rows ++ (n, id) ∷ [])) later ≡ filter_map (repeat_in rows) later
same_repeats n id rows [] below = refl
same_repeats n id rows (r ∷ rs) below = ap₂ cons_option (repeat_in-later n id rows r below.0) (same_repeats n id rows rs below.1)

-- what a row adds to them, by the first row that has its id
abbrev repeated : ℕ → Option ℕ → List (ℕ × ℕ)
repeated n o = cons_option (option_map (λ first. (n, first)) o) []

repeats_among-one : (n : ℕ) (id : List ℕ) (rows : List (ℕ × List ℕ)) → AllBelow n rows → repeats_among (rows ++ (n, id) ∷ []) ≡ repeats_among rows ++ repeated n (first_with id rows)
repeats_among-one n id rows below =
    filter_map-append (repeat_in (rows ++ (n, id) ∷ [])) rows ((n, id) ∷ [])
    ∙ ap₂ (λ xs before. xs ++ repeated n (first_with id before)) (same_repeats n id rows rows below) (before-next n id rows below)

repeats-one : (rows : List Fields) (f : Fields) (n : ℕ) (id : List ℕ) (o : Option ℕ) → n ≡ length rows + 1 → row_id f ≡ Some id → first_with id (numbered_ids rows) ≡ o
    → repeats_of (rows ++ f ∷ []) ≡ repeats_of rows ++ repeated n o
repeats-one rows f n id o at is first =
    ap repeats_among (ids-some rows f n id at is) ∙ repeats_among-one n id (numbered_ids rows) (below_next rows n at) ∙ ap (λ o. repeats_of rows ++ repeated n o) first

-- ---- the first row of an id

option_map-or : {A B : Type 0} (f : A → B) (a b : Option A) → option_map f (option_or a b) ≡ option_or (option_map f a) (option_map f b)
option_map-or f None b = refl
option_map-or f (Some x) b = refl

option_or-none : {A : Type 0} (o : Option A) → option_or o None ≡ o
option_or-none None = refl
option_or-none (Some x) = refl

option_map-cond : {A B : Type 0} (f : A → B) (b : Bool) (x : A) (o : Option A) → option_map f (cond b (Some x) o) ≡ cond b (Some (f x)) (option_map f o)
option_map-cond f true x o = refl
option_map-cond f false x o = refl

same_text-comm : (p q : List ℕ) → same_text p q ≡ same_text q p
same_text-comm p q = by (same_text p q) refl (same_text q p) refl
  where
    by : (a : Bool) → same_text p q ≡ a → (b : Bool) → same_text q p ≡ b → a ≡ b
    by true is true also = refl
    by false is false also = refl
    by true is false also = absurd (false≢true (sym also ∙ (bytes_decides q p).1 (sym ((bytes_decides p q).0 is))))
    by false is true also = absurd (false≢true (sym is ∙ (bytes_decides p q).1 (sym ((bytes_decides q p).0 also))))

first_with-one : (q id : List ℕ) (n : ℕ) (rows : List (ℕ × List ℕ)) → first_with q (rows ++ (n, id) ∷ []) ≡ option_or (first_with q rows) (cond (same_text q id) (Some n) None)
first_with-one q id n rows =
    let number : ℕ × List ℕ → ℕ = λ row. row.0 in
    let has : ℕ × List ℕ → Bool = λ row. same_text q row.1 in
    ap (option_map number) (find-append has rows ((n, id) ∷ [])) ∙ option_map-or number (find has rows) (find has ((n, id) ∷ []))
    ∙ ap (option_or (first_with q rows)) (option_map-cond number (same_text q id) (n, id) None)

-- a row whose id no earlier row has is the first one of its id
first_new : (q id : List ℕ) (n : ℕ) (rows : List (ℕ × List ℕ)) → first_with id rows ≡ None → cond (same_text id q) (Some n) (first_with q rows) ≡ first_with q (rows ++ (n, id) ∷ [])
first_new q id n rows none =
    by (same_text id q) refl ∙ sym (first_with-one q id n rows ∙ ap (λ b. option_or (first_with q rows) (cond b (Some n) None)) (same_text-comm q id))
  where
    by : (b : Bool) → same_text id q ≡ b → cond b (Some n) (first_with q rows) ≡ option_or (first_with q rows) (cond b (Some n) None)
    by true is = sym (ap (λ o. option_or o (Some n)) (ap (λ k. first_with k rows) (sym ((bytes_decides id q).0 is)) ∙ none))
    by false is = sym (option_or-none (first_with q rows))

-- one whose id an earlier row has is the first one of no id
first_known : (q id : List ℕ) (n m : ℕ) (rows : List (ℕ × List ℕ)) → first_with id rows ≡ Some m → first_with q rows ≡ first_with q (rows ++ (n, id) ∷ [])
first_known q id n m rows some = by (same_text q id) refl ∙ sym (first_with-one q id n rows)
  where
    by : (b : Bool) → same_text q id ≡ b → first_with q rows ≡ option_or (first_with q rows) (cond b (Some n) None)
    by true is =
        let found : first_with q rows ≡ Some m = ap (λ k. first_with k rows) ((bytes_decides q id).0 is) ∙ some in
        found ∙ sym (ap (λ o. option_or o (Some n)) found)
    by false is = sym (option_or-none (first_with q rows))

-- ---- what is known once a row was passed

-- it has no id
pub no_id : (seen : Seen) (rows : List Fields) (f : Fields) (n : ℕ) → n ≡ length rows + 1 → row_id f ≡ None → HasPassed seen rows → HasPassed seen (rows ++ f ∷ [])
no_id seen rows f n at none was =
    let same : numbered_ids rows ≡ numbered_ids (rows ++ f ∷ []) = sym (ids-none rows f n at none) in record {
      first = λ id. was.first id ∙ ap (first_with id) same;
      repeats = subst (λ ids. KeepsRepeats seen.repeats (repeats_among ids)) same was.repeats;
    }

-- an earlier row has its id
pub comes_again : (old new : Seen) (rows : List Fields) (f : Fields) (n : ℕ) (id : List ℕ) (m : ℕ) → n ≡ length rows + 1 → row_id f ≡ Some id → first_row old id ≡ Some m
    → ((q : List ℕ) → first_row new q ≡ first_row old q)
    → ((all : List (ℕ × ℕ)) → KeepsRepeats old.repeats all → KeepsRepeats new.repeats (all ++ (n, m) ∷ []))
    → HasPassed old rows → HasPassed new (rows ++ f ∷ [])
comes_again old new rows f n id m at is known same adds was =
    let found : first_with id (numbered_ids rows) ≡ Some m = sym (was.first id) ∙ known in record {
      first = λ q. same q ∙ was.first q ∙ first_known q id n m (numbered_ids rows) found ∙ ap (first_with q) (sym (ids-some rows f n id at is));
      repeats = subst (KeepsRepeats new.repeats) (sym (repeats-one rows f n id (Some m) at is found)) (adds (repeats_of rows) was.repeats);
    }

-- no earlier row has its id
pub is_first : (old new : Seen) (rows : List Fields) (f : Fields) (id : List ℕ) (here : FirstRow) → here.row ≡ length rows + 1 → row_id f ≡ Some id → first_row old id ≡ None
    → ((q : List ℕ) → get same_text new.first q ≡ cond (same_text id q) (Some here) (get same_text old.first q))
    → KeepsRepeats new.repeats (repeats_of rows)
    → HasPassed old rows → HasPassed new (rows ++ f ∷ [])
is_first old new rows f id here at is absent puts keeps was =
    let number : FirstRow → ℕ = λ r. r.row in
    let n = here.row in
    let ids = numbered_ids rows in
    let none : first_with id ids ≡ None = sym (was.first id) ∙ absent in record {
      first = λ q.
          ap (option_map number) (puts q) ∙ option_map-cond number (same_text id q) here (get same_text old.first q) ∙ ap (cond (same_text id q) (Some n)) (was.first q)
          ∙ first_new q id n ids none ∙ ap (first_with q) (sym (ids-some rows f n id at is));
      repeats = subst (KeepsRepeats new.repeats) (sym (repeats-one rows f n id None at is none ∙ append-nil (repeats_of rows))) keeps;
    }

-- ---- the records of a section

-- the first record is no row
pub header_passed : (seen : Seen) (records : List Fields) (f : Fields) → length records ≡ 0 → HasPassed seen (drop 1 records) → HasPassed seen (drop 1 (records ++ f ∷ []))
header_passed seen [] f none was = was
header_passed seen (r ∷ rs) f none was = cc none

pub row_passed : (old new : Seen) (records : List Fields) (f : Fields) (n : ℕ) → 0 < n → n ≡ length records
    → ((rows : List Fields) → n ≡ length rows + 1 → HasPassed old rows → HasPassed new (rows ++ f ∷ []))
    → HasPassed old (drop 1 records) → HasPassed new (drop 1 (records ++ f ∷ []))
row_passed old new [] f n some at adds was = absurd (omega (arith, some, at))
row_passed old new (r ∷ rows) f n some at adds was = adds rows (omega (arith, at)) was

-- ---- the text

pub in_its_trades : (text o t s : List ℕ) → Some (o, t, s) ≡ sections text → repeats_of (drop 1 (records_of t)) ≡ repeats_in text
in_its_trades text o t s is = rw (← is, repeats_in) refl

pub in_no_sections : (text : List ℕ) → None ≡ sections text → [] ≡ repeats_in text
in_no_sections text is = rw (← is, repeats_in) refl
