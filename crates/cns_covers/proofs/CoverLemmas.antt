-- Covers of a history, by its positions; and what keeps shorts small.
use Rattle.std.proofs.Common.{◌≡◌, ◌≤◌, ◌+◌, ◌-◌, ℕ, List, [], ◌∷◌, length, Some, None, Bool, true, false, cond, refl, ap, ◌∙◌, arith}
use Rattle.std.specs.Prelude.{◌==◌, All, count_by, not, option_and_then, ℤ, pos, negsuc, ◌-ℤ◌, if◌then◌else◌}
use Rattle.std.specs.List.{filter_map, cons_option}
use Rattle.std.proofs.lemmas.Bool.{eqb-true}
use Rattle.std.proofs.lemmas.Int.{ints}
use Rattle.std.proofs.lemmas.List.Sums.{sum_by-cons}
use Rattle.cns_netting.specs.History.{accepted, credit, debit, debit_part, position_of, settled_debit}
use Rattle.cns_netting.specs.Rows.{holdings_of, open_row, rows_of}
use Rattle.cns_netting.specs.Book.{QuantitiesFit}
use Rattle.cns_netting.specs.declared.entry.NetEntry.{NetEntry}
use Rattle.cns_netting.specs.declared.entry.NetEntry.TheVariants.{Accepted, Netted, Settled}
use Rattle.cns_ids.specs.declared.holding.Holding.{Holding}
use Rattle.cns_ids.proofs.ListLemmas.{filter_map-cons_option}
use Rattle.cns_netting.specs.declared.position.PositionRow.{PositionRow}
use Rattle.cns_netting.proofs.BookLemmas.{sold-most}
use Rattle.cns_movements.specs.Book.{Orders}
use Rattle.cns_movements.specs.declared.order.MoveKind.TheVariants.{Cover}
use Rattle.cns_movements.specs.Order.{ask_for}
use Rattle.cns_covers.specs.Covers.{IsUnsettled, ShortsFit, covers_of, has_ask, left_of, row_ask, short_of}
use Rattle.cns_covers.specs.declared.exemptions.Exempted.{Exempted}
use Rattle.cns_covers.proofs.RowLemmas.{All-rows_of, cover_ask}

-- the size of a difference below 0
debit_part-difference : (c d : ℕ) → debit_part (pos c -ℤ pos d) ≡ d - c
debit_part-difference c d = by (pos c -ℤ pos d) refl
  where
    by : (z : ℤ) → (pos c -ℤ pos d) ≡ z → debit_part z ≡ d - c
    by (pos n) e = omega (arith, ints, e)
    by (negsuc n) e = omega (arith, ints, e)

-- nothing is covered of a position that is 0
ask_for-level : (member issue c d less : ℕ) → c ≡ d → None ≡ ask_for Cover member issue ((d - c) - less)
ask_for-level member issue c d less e = let none_left : 0 ≡ (d - c) - less = omega arith in ap (ask_for Cover member issue) none_left

-- the cover of a holding is that of its row
row_ask-open_row : (h : List NetEntry) (book : Orders) (settings : List Exempted) (k : Holding)
    → option_and_then (row_ask book settings) (open_row h k) ≡ cover_ask h book settings k
unfolding row_ask open_row
row_ask-open_row h book settings k = by (credit h k.member k.issue == debit h k.member k.issue) refl
  where
    by : (b : Bool) → (credit h k.member k.issue == debit h k.member k.issue) ≡ b
        → option_and_then (row_ask book settings)
        (if b then None else Some (record { issue = k.issue; member = k.member; position = position_of h k.member k.issue }))
        ≡ cover_ask h book settings k
    by true e = ask_for-level k.member k.issue _ _ _ (eqb-true _ _ e)
    by false e = rw (debit_part-difference (credit h k.member k.issue) (debit h k.member k.issue)) refl

-- the covers of the rows of holdings are the covers of the holdings
filter_map-rows : (h : List NetEntry) (book : Orders) (settings : List Exempted) (ks : List Holding)
    → filter_map (row_ask book settings) (filter_map (open_row h) ks) ≡ filter_map (cover_ask h book settings) ks
filter_map-rows h book settings [] = refl
filter_map-rows h book settings (k ∷ ks) =
    rw (filter_map-cons_option (row_ask book settings) (open_row h k) (filter_map (open_row h) ks), row_ask-open_row h book settings k, filter_map-rows h book settings ks) refl

pub covers_of-rows : (h : List NetEntry) (book : Orders) (settings : List Exempted) → filter_map (row_ask book settings) (rows_of h) ≡ covers_of h book settings
covers_of-rows h book settings = filter_map-rows h book settings (holdings_of h)

-- as many rows have a cover as there are covers of rows
has_ask-count : (book : Orders) (settings : List Exempted) (rows : List PositionRow) → count_by (has_ask book settings) rows ≡ length (filter_map (row_ask book settings) rows)
unfolding row_ask has_ask
has_ask-count book settings [] = refl
has_ask-count book settings (row ∷ rows) = sum_by-cons (λ r. cond (has_ask book settings r) 1 0) row rows ∙ by (left_of book settings row == 0) (has_ask-count book settings rows)
  where
    by : (b : Bool) → count_by (has_ask book settings) rows ≡ length (filter_map (row_ask book settings) rows)
        → cond (not b) 1 0 + count_by (has_ask book settings) rows
        ≡ length (cons_option (if b then None else Some (record { kind = Cover; member = row.member; issue = row.issue; asked = left_of book settings row })) (filter_map (row_ask book settings) rows))
    by true rest = omega (arith, rest)
    by false rest = omega (arith, rest)

pub covers_of-count : (h : List NetEntry) (book : Orders) (settings : List Exempted) → count_by (has_ask book settings) (rows_of h) ≡ length (covers_of h book settings)
covers_of-count h book settings = has_ask-count book settings (rows_of h) ∙ ap length (covers_of-rows h book settings)

-- all rows are short of at most 10^18 shares where all shorts are
pub rows_of-fit : (h : List NetEntry) → ShortsFit h → All (λ (row : PositionRow). short_of row ≤ 1000000000000000000) (rows_of h)
rows_of-fit h fit =
    All-rows_of (λ (row : PositionRow). short_of row ≤ 1000000000000000000) h
    (λ k. rw (debit_part-difference (credit h k.member k.issue) (debit h k.member k.issue)) (fit.within k.member k.issue))

-- without settlements nothing is settled away
settled_debit-none : (h : List NetEntry) (member issue : ℕ) → IsUnsettled h → settled_debit h member issue ≡ 0
unfolding settled_debit
settled_debit-none [] member issue h = refl
settled_debit-none (Accepted t ∷ h) member issue none = settled_debit-none h member issue none
settled_debit-none (Netted d ∷ h) member issue none = settled_debit-none h member issue none
settled_debit-none (Settled m i z ∷ h) member issue none = absurd none

-- at most a million trades of at most 999,999,999,999 shares each leave no short above 10^18
pub shorts_fit : (h : List NetEntry) → length (accepted h) ≤ 1000000 → QuantitiesFit h → IsUnsettled h → ShortsFit h
shorts_fit h few quantities none = record {
  within = λ member issue. omega (arith, sold-most None h member issue quantities, settled_debit-none h member issue none, few);
}

-- the same as after a netting
pub shorts_fit_netted : (day : ℕ) (h : List NetEntry) → length (accepted h) ≤ 1000000 → QuantitiesFit h → IsUnsettled h → ShortsFit (Netted day ∷ h)
unfolding QuantitiesFit
shorts_fit_netted day h few quantities none = shorts_fit (Netted day ∷ h) few quantities none
