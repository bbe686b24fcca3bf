-- A text in which nothing is found.
use Rattle.std.proofs.Common.{◌≡◌, ◌+◌, ℕ, List, [], ◌∷◌, ◌++◌, length, map, get_or, refl, ap, sym, ◌∙◌, Bool, true, false, Option, Some, None, Result, Ok, Err}
use Rattle.std.specs.Prelude.{◌↔◌, ◌==◌, ◌^◌, not, if◌then◌else◌, flat_map, fold, filter_map, is_ok}
use Rattle.std.specs.List.{enumerate_from}
use Rattle.std.proofs.lemmas.Bool.{false≢true}
use Rattle.std.specs.Result.{result_err}
use Rattle.cns_ids.specs.Steps.{◌>>=◌}
use Rattle.cns_ids.specs.Cusip.{read_cusip}
use Rattle.cns_ids.specs.Number.{number_in}
use Rattle.cns_ids.specs.ReadDay.{read_day}
use Rattle.cns_ids.specs.declared.cusip.Cusip.{Cusip}
use Rattle.cns_trades.specs.ReadId.{read_id}
use Rattle.cns_trades.specs.declared.id.TradeId.{TradeId}
use Rattle.cns_trades.specs.declared.trade.Trade.{Trade}
use Rattle.cns_trades.specs.Fields.{is_opening_header, is_trade_header}
use Rattle.cns_trades.specs.Openings.{opening_of}
use Rattle.cns_trades.specs.Records.{Fields}
use Rattle.cns_trades.specs.Rows.{told, trade_of}
use Rattle.cns_trades.specs.declared.fault.RowFault.{RowFault}
use Rattle.cns_trades.specs.declared.fault.RowFault.TheVariants as fault
use Rattle.cns_trades.specs.declared.opening.Opening.{Opening}
use Rattle.cns_depository.specs.Openings.{opening_fault}
use Rattle.cns_depository.specs.declared.openings.OpeningFault.{OpeningFault}
use Rattle.cns_input.specs.Sections.{raw_lines, sections}
use Rattle.cns_check.specs.Clean.{AreOpenings, AreTrades, IsClean, IsFirst, IsTable}
use Rattle.cns_check.specs.Findings.{against_opening, against_trade, all_against, bad_lines, commands_from, has_head, in_heads, in_mended, in_opening, in_openings, in_row, in_script, in_section, in_sections, in_text, in_trades, records_of}
use Rattle.cns_check.specs.declared.finding.Finding.{Finding}
use Rattle.cns_check.specs.declared.finding.Finding.TheVariants as finding
use Rattle.cns_check.specs.declared.finding.Head.TheVariants as head
use Rattle.cns_check.specs.declared.finding.Table.{Table}
use Rattle.cns_check.specs.declared.finding.Table.TheVariants as table
use Rattle.cns_check.proofs.TextLemmas.{of_sections}

-- ---- the first fault of a row

first_of_three : {A B C T : Type 0} (a : Result A RowFault) (b : Result B RowFault) (c : Result C RowFault) (make : A → B → C → T)
    → IsFirst (a >>= λ x. b >>= λ y. c >>= λ z. Ok (make x y z)) (all_against (result_err a ∷ result_err b ∷ result_err c ∷ []))
first_of_three (Err e) b c make = (_, refl)
first_of_three (Ok x) (Err e) c make = (_, refl)
first_of_three (Ok x) (Ok y) (Err e) make = (_, refl)
first_of_three (Ok x) (Ok y) (Ok z) make = refl

first_of_six : {A B C D G H T : Type 0} (a : Result A RowFault) (b : Result B RowFault) (c : Result C RowFault) (d : Result D RowFault) (g : Result G RowFault) (h : Result H RowFault) (make : A → B → C → D → G → H → T)
    → IsFirst (a >>= λ x. b >>= λ y. c >>= λ z. d >>= λ u. g >>= λ v. h >>= λ w. Ok (make x y z u v w))
    (all_against (result_err a ∷ result_err b ∷ result_err c ∷ result_err d ∷ result_err g ∷ result_err h ∷ []))
first_of_six (Err e) b c d g h make = (_, refl)
first_of_six (Ok x) (Err e) c d g h make = (_, refl)
first_of_six (Ok x) (Ok y) (Err e) d g h make = (_, refl)
first_of_six (Ok x) (Ok y) (Ok z) (Err e) g h make = (_, refl)
first_of_six (Ok x) (Ok y) (Ok z) (Ok u) (Err e) h make = (_, refl)
first_of_six (Ok x) (Ok y) (Ok z) (Ok u) (Ok v) (Err e) make = (_, refl)
first_of_six (Ok x) (Ok y) (Ok z) (Ok u) (Ok v) (Ok w) make = refl

first_where : {B : Type 0} (b : Bool) (r : Result B RowFault) (faults : List (Option RowFault)) → IsFirst r (all_against faults)
    → IsFirst (if not b then Err fault.Fields else r) (all_against (if not b then Some fault.Fields ∷ [] else faults))
first_where true r faults h = h
first_where false r faults h = ([], refl)

pub first_of_trade : (fs : Fields) → IsFirst (trade_of fs) (all_against (against_trade fs))
unfolding trade_of
first_of_trade fs =
    let make : TradeId → ℕ → ℕ → ℕ → Cusip → ℕ → Trade = λ id settle buyer seller issue quantity.
    record { id = id; settle = settle; buyer = buyer; seller = seller; issue = issue; quantity = quantity } in
    first_where (length fs == 6) _ _
    (first_of_six (told (λ _. fault.Id) (read_id (get_or fs 0 []))) (told (λ _. fault.Settle) (read_day (get_or fs 1 []))) (told fault.Buyer (number_in 1 9999 (get_or fs 2 [])))
    (told fault.Seller (number_in 1 9999 (get_or fs 3 []))) (told fault.Cusip (read_cusip (get_or fs 4 []))) (told fault.Quantity (number_in 1 999999999999 (get_or fs 5 []))) make)

pub first_of_opening : (fs : Fields) → IsFirst (opening_of fs) (all_against (against_opening fs))
unfolding opening_of
first_of_opening fs =
    let make : ℕ → Cusip → ℕ → Opening = λ member issue shares. record { member = member; issue = issue; shares = shares } in
    first_where (length fs == 3) _ _
    (first_of_three (told fault.Account (number_in 1 9999 (get_or fs 0 []))) (told fault.Cusip (read_cusip (get_or fs 1 []))) (told fault.Shares (number_in 0 (10 ^ 18) (get_or fs 2 []))) make)

-- a row is taken exactly where it has no fault
no_fault : {B : Type 0} (r : Result B RowFault) (faults : List RowFault) → IsFirst r faults → (faults ≡ []) ↔ (is_ok r ≡ true)
no_fault (Ok x) faults h = (λ _. refl, λ _. h)
no_fault (Err e) faults h = (λ none. cc (sym h.1 ∙ none), λ is. cc is)

-- ---- lists without elements

left_none : {A : Type 0} (xs ys : List A) → xs ++ ys ≡ [] → xs ≡ []
left_none [] ys none = refl
left_none (x ∷ xs) ys none = cc none

right_none : {A : Type 0} (xs ys : List A) → xs ++ ys ≡ [] → ys ≡ []
right_none [] ys none = none
right_none (x ∷ xs) ys none = cc none

both_none : {A : Type 0} (xs ys : List A) → xs ≡ [] → ys ≡ [] → xs ++ ys ≡ []
both_none xs ys x y = rw (x, y) refl

map_none : {A B : Type 0} (f : A → B) (xs : List A) → map f xs ≡ [] → xs ≡ []
map_none f [] none = refl
map_none f (x ∷ xs) none = cc none

-- ---- trades

abbrev trades_from : ℕ → List Fields → List Finding
trades_from n rows = flat_map (λ row. in_row table.Trades row.0 (against_trade row.1)) (enumerate_from n rows)

no_trade_found : (n : ℕ) (rows : List Fields) → (trades_from n rows ≡ []) ↔ AreTrades rows
no_trade_found n [] = (λ _. tt, λ _. refl)
no_trade_found n (r ∷ rs) =
    let more = no_trade_found (n + 1) rs in
    let taken = no_fault (trade_of r) (all_against (against_trade r)) (first_of_trade r) in
    let here = in_row table.Trades n (against_trade r) in (
      λ none. (taken.0 (map_none (finding.Row table.Trades n) _ (left_none here _ none)), more.0 (right_none here _ none)),
      λ are. both_none here _ (ap (map (finding.Row table.Trades n)) (taken.1 are.0)) (more.1 are.1),
    )

-- ---- openings

-- what an opening leaves, by what speaks against it
abbrev by_refusal : Option OpeningFault → List Opening → List Finding → ℕ → Opening → List Opening × List Finding
by_refusal why held found n o = elim why [ None ↦ (held ++ o ∷ [], found) | Some why ↦ (held, found ++ finding.OpeningRefused n why ∷ []) ]

of_fault : (held : List Opening) (found : List Finding) (n : ℕ) (f : Fields) (e : RowFault) → opening_of f ≡ Err e → in_opening (held, found) (n, f) ≡ (held, found ++ in_row table.Openings n (against_opening f))
of_fault held found n f e is = rw (is, in_opening) refl

of_opening : (held : List Opening) (found : List Finding) (n : ℕ) (f : Fields) (o : Opening) → opening_of f ≡ Ok o → in_opening (held, found) (n, f) ≡ by_refusal (opening_fault held o) held found n o
of_opening held found n f o is = rw (is, in_opening) refl

-- what was found stays found
grows_by : (held : List Opening) (found : List Finding) (n : ℕ) (f : Fields) (r : Result Opening RowFault) → opening_of f ≡ r → (in_opening (held, found) (n, f)).1 ≡ [] → found ≡ []
grows_by held found n f (Err e) is none = left_none found _ (sym (ap (λ p. p.1) (of_fault held found n f e is)) ∙ none)
grows_by held found n f (Ok o) is none = by (opening_fault held o) (sym (ap (λ p. p.1) (of_opening held found n f o is)) ∙ none)
  where
    by : (why : Option OpeningFault) → (by_refusal why held found n o).1 ≡ [] → found ≡ []
    by None is = is
    by (Some why) is = left_none found _ is

grows : (xs : List (ℕ × Fields)) (p : List Opening × List Finding) → (fold in_opening p xs).1 ≡ [] → p.1 ≡ []
grows [] p none = none
grows ((n, f) ∷ xs) p none = grows_by p.0 p.1 n f (opening_of f) refl (grows xs (in_opening p (n, f)) none)

abbrev openings_from : ℕ → List Opening → List Fields → List Finding
openings_from n held rows = (fold in_opening (held, []) (enumerate_from n rows)).1

openings_stand : (n : ℕ) (held : List Opening) (rows : List Fields) → openings_from n held rows ≡ [] → AreOpenings held rows
openings_stand n held [] none = tt
openings_stand n held (r ∷ rs) none = by (opening_of r) refl (λ o. openings_stand (n + 1) (held ++ o ∷ []) rs)
  where
    rest : List Opening × List Finding → List Finding
    rest p = (fold in_opening p (enumerate_from (n + 1) rs)).1

    More : Type 0
    More = (o : Opening) → openings_from (n + 1) (held ++ o ∷ []) rs ≡ [] → AreOpenings (held ++ o ∷ []) rs

    here : (in_opening (held, []) (n, r)).1 ≡ []
    here = grows (enumerate_from (n + 1) rs) (in_opening (held, []) (n, r)) none

    stands : (o : Opening) → opening_of r ≡ Ok o → (why : Option OpeningFault) → opening_fault held o ≡ why → More → AreOpenings held (r ∷ rs)
    stands o is None fits more =
        let step : in_opening (held, []) (n, r) ≡ (held ++ o ∷ [], []) = of_opening held [] n r o is ∙ ap (λ why. by_refusal why held [] n o) fits in
        (o, is, fits, more o (sym (ap rest step) ∙ none))
    stands o is (Some why) refused more =
        let step : in_opening (held, []) (n, r) ≡ (held, finding.OpeningRefused n why ∷ []) = of_opening held [] n r o is ∙ ap (λ why. by_refusal why held [] n o) refused in
        let some : finding.OpeningRefused n why ∷ [] ≡ [] = sym (ap (λ p. p.1) step) ∙ here in
        cc some

    by : (result : Result Opening RowFault) → opening_of r ≡ result → More → AreOpenings held (r ∷ rs)
    by (Err e) is more =
        let found : in_row table.Openings n (against_opening r) ≡ [] = sym (ap (λ p. p.1) (of_fault held [] n r e is)) ∙ here in
        let taken = (no_fault (opening_of r) (all_against (against_opening r)) (first_of_opening r)).0 (map_none (finding.Row table.Openings n) (all_against (against_opening r)) found) in
        absurd (false≢true (sym (ap is_ok is) ∙ taken))
    by (Ok o) is more = stands o is (opening_fault held o) refl more

no_opening_found : (n : ℕ) (held : List Opening) (rows : List Fields) → AreOpenings held rows → openings_from n held rows ≡ []
no_opening_found n held [] are = refl
no_opening_found n held (r ∷ rs) are =
    let step : in_opening (held, []) (n, r) ≡ (held ++ are.0 ∷ [], []) = of_opening held [] n r are.0 are.1 ∙ ap (λ why. by_refusal why held [] n are.0) are.2 in
    ap (λ p. (fold in_opening p (enumerate_from (n + 1) rs)).1) step ∙ no_opening_found (n + 1) (held ++ are.0 ∷ []) rs are.3

-- ---- a table

no_finding_in_table : (t : Table) (is_header : Fields → Bool) (in_rows : List Fields → List Finding) (Are : List Fields → Type 0)
    → ((rows : List Fields) → (in_rows rows ≡ []) ↔ Are rows) → (records : List Fields) → (in_section t is_header in_rows records ≡ []) ↔ IsTable is_header Are records
unfolding in_section
no_finding_in_table t is_header in_rows Are rows-law [] = (λ _. tt, λ _. refl)
no_finding_in_table t is_header in_rows Are rows-law (r ∷ rs) = by (is_header r)
  where
    by : (b : Bool) → ((if b then [] else finding.NoHeader t ∷ []) ++ in_rows rs ≡ []) ↔ ((b ≡ true) × Are rs)
    by true = (λ none. (refl, (rows-law rs).0 none), λ is. (rows-law rs).1 is.1)
    by false = (λ none. cc none, λ is. cc is.0)

-- ---- the text

abbrev or_order : List Finding → List Finding
or_order xs = elim xs [ [] ↦ finding.HeadOrder ∷ [] | (f ∷ fs) ↦ f ∷ fs ]

some_found : (xs : List Finding) → or_order xs ≡ [] → ⊥
some_found [] none = cc none
some_found (x ∷ xs) none = cc none

heads_found : (text : List ℕ) → in_heads text ≡ [] → ⊥
heads_found text none = some_found (filter_map (λ h. if has_head text h then None else Some (finding.NoHead h)) (head.Openings ∷ head.Trades ∷ head.Script ∷ [])) none

abbrev openings_clean : List ℕ → Type 0
openings_clean text = IsTable is_opening_header (AreOpenings []) (records_of text)

abbrev trades_clean : List ℕ → Type 0
trades_clean text = IsTable is_trade_header AreTrades (records_of text)

abbrev script_clean : List ℕ → Type 0
script_clean text = bad_lines 0 (commands_from 1 (raw_lines text)) ≡ []

abbrev openings_found : List ℕ → List Finding
openings_found text = in_section table.Openings is_opening_header in_openings (records_of text)

abbrev trades_found : List ℕ → List Finding
trades_found text = in_section table.Trades is_trade_header in_trades (records_of text)

nothing_in_sections : (o t s : List ℕ) → (in_sections o t s ≡ []) ↔ (openings_clean o × trades_clean t × script_clean s)
nothing_in_sections o t s =
    let openings = no_finding_in_table table.Openings is_opening_header in_openings (AreOpenings []) (λ rows. (openings_stand 1 [] rows, no_opening_found 1 [] rows)) (records_of o) in
    let trades = no_finding_in_table table.Trades is_trade_header in_trades AreTrades (no_trade_found 1) (records_of t) in
    let tables = openings_found o ++ trades_found t in (
      λ none.
          let no_rows : openings_found o ++ trades_found t ≡ [] = left_none tables (in_script s) none in
          (openings.0 (left_none (openings_found o) (trades_found t) no_rows), trades.0 (right_none (openings_found o) (trades_found t) no_rows), map_none finding.Line _ (right_none tables (in_script s) none)),
      λ clean. both_none tables (in_script s) (both_none (openings_found o) (trades_found t) (openings.1 clean.0) (trades.1 clean.1)) (ap (map finding.Line) clean.2),
    )

pub nothing_found : (text : List ℕ) → (in_text text ≡ []) ↔ IsClean text
nothing_found text = (by (sections text) refl, λ clean. sym (of_sections text clean.0 clean.1 clean.2 (sym clean.3)) ∙ (nothing_in_sections clean.0 clean.1 clean.2).1 (clean.4, clean.5, clean.6))
  where
    by : (parts : Option (List ℕ × List ℕ × List ℕ)) → sections text ≡ parts → in_text text ≡ [] → IsClean text
    by None is none =
        let heads : in_text text ≡ in_heads text ++ in_mended text = rw (is, in_text) refl in
        absurd (heads_found text (left_none (in_heads text) (in_mended text) (sym heads ∙ none)))
    by (Some (o, t, s)) is none =
        let clean = (nothing_in_sections o t s).0 (of_sections text o t s (sym is) ∙ none) in
        (o, t, s, is, clean.0, clean.1, clean.2)
