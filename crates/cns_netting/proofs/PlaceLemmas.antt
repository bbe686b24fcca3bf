-- The places of holdings that stand in order, and the rows of the holdings there.
use Rattle.std.proofs.Common.{◌≡◌, ◌≤◌, ◌<◌, ◌+◌, ℕ, zero, suc, List, [], ◌∷◌, ◌++◌, length, length-append, take, get_or, Option, None, Some, Bool, true, false, cond, refl, sym, ap, ◌∙◌, arith, subst}
use Rattle.std.specs.Prelude.{◌==◌, if◌then◌else◌, All, IsSome, slice_get, sum_by}
use Rattle.std.specs.Cmp.{IsTotalOrder}
use Rattle.std.specs.List.{cons_option, filter_map}
use Rattle.std.specs.List.Sorted.{IsNonDecreasingBy, IsPermutation}
use Rattle.std.specs.Map.{keys_of, lookup}
use Rattle.std.specs.Option.{option_cmp, option_map, option_to_list}
use Rattle.std.specs.Ordering.{is_lt}
use Rattle.std.specs.Cmp.Lexicographic.{options_total}
use Rattle.std.proofs.lemmas.Bool.{true≢false}
use Rattle.std.proofs.lemmas.Bool.Decides.{nat_tests}
use Rattle.std.proofs.lemmas.List.{append-nil, take_more}
use Rattle.std.proofs.lemmas.List.Prefix.{front_fits, front_reads}
use Rattle.std.proofs.lemmas.List.Elements.{All-nil, All-push, All-weaker, filter_map-append}
use Rattle.std.proofs.lemmas.List.Sorted.{All-permutation, IsPermutation-append_left, IsPermutation-refl, ranks_by, sorted_far, sum_by-IsPermutation}
use Rattle.std.proofs.lemmas.List.Sums.{sum_by_more, sum_by_push}
use Rattle.std.proofs.lemmas.Map.Entries.{length-keys_of}
use Rattle.std.proofs.lemmas.Option.{slice_get-get_or, slice_get-map}
use Rattle.indexmap.specs.IndexMap.{insert_entry}
use Rattle.cns_ids.specs.Holding.{holding_at, holding_cmp, holding_eq}
use Rattle.cns_ids.specs.Member.{IsMember}
use Rattle.cns_ids.specs.declared.holding.Holding.{Holding}
use Rattle.cns_ids.proofs.HoldingLemmas.{Puts}
use Rattle.cns_ids.proofs.ListLemmas.{AllPairs-filter_map, IsSortedByKey-alike}
use Rattle.cns_netting.specs.Positions.{AreInOrder, AreListed, ArePlacesInOrder, holding_of, IsFrontOf, IsNotBefore, issue_in, issue_or, places_below, position_found, row_of_entry, row_by, row_if, row_in_place, row_part}
use Rattle.cns_netting.specs.History.{credit_part, debit_part}
use Rattle.cns_netting.specs.declared.position.PositionRow.{PositionRow}
use Rattle.cns_netting.specs.declared.positions.Position.{Position}
use Rattle.cns_netting.proofs.HoldingLemmas.{holding_order}
use Rattle.cns_netting.proofs.OrderLemmas.{in_issue-holding}
use Rattle.cns_netting.proofs.PositionLemmas.{IsPut, put_members}

-- holdings that may be named are compared as those that are
named_order : IsTotalOrder (option_cmp holding_cmp)
named_order = options_total holding_order

-- ---- the places

places-most : (n : ℕ) → All (λ (p : ℕ). p < n) (places_below n)
unfolding places_below
places-most zero = All-nil (λ (p : ℕ). p < 0)
places-most (suc n) =
    All-push (λ (p : ℕ). p < suc n) (places_below n) n (All-weaker (λ (p : ℕ). p < n) (λ (p : ℕ). p < suc n) (λ p less. omega (arith, less)) (places_below n) (places-most n)) (omega arith)

pub length-places_below : (n : ℕ) → length (places_below n) ≡ n
unfolding places_below
length-places_below zero = refl
length-places_below (suc n) = omega (arith, length-append (places_below n) (n ∷ []), length-places_below n)

-- one place more
pub place_more : (n : ℕ) (order more : List ℕ) → more ≡ order ++ n ∷ [] → IsPermutation (places_below n) order → IsPermutation (places_below (n + 1)) more
unfolding places_below
place_more n order more is each =
    let next : n + 1 ≡ suc n = omega arith in
    rw (is, next) (IsPermutation-append_left (n ∷ []) (places_below n) order each)

-- none of the holdings need stand in order
pub places_none : (positions : List (Holding × Position)) → ArePlacesInOrder [] positions
unfolding places_below
places_none positions = record { most = omega arith; each = IsPermutation-refl []; sorted = λ k d low high. absurd (omega (arith, high)) }

-- where nothing is named
pub listed_none : AreListed [] []
listed_none = record { members = λ k some. cc some; places = places_none [] }

-- each place is that of a holding
within : (order : List ℕ) (positions : List (Holding × Position)) → ArePlacesInOrder order positions → All (λ (p : ℕ). p < length order) order
within order positions places = All-permutation (λ (p : ℕ). p < length order) (places_below (length order)) order places.each (places-most (length order))

-- places stay in order where the same holdings stand in front
pub places_kept : (old new : List (Holding × Position)) (order : List ℕ) → IsFrontOf (keys_of old) (keys_of new) → ArePlacesInOrder order old → ArePlacesInOrder order new
places_kept old new order front before =
    let length_old = length-keys_of old in
    let length_new = length-keys_of new in
    let length_all = front_fits (keys_of new) (keys_of old) front.0 front.1 in
    record {
      most = omega (arith, before.most, length_old, length_new, length_all);
      each = before.each;
      sorted =
          IsSortedByKey-alike (option_cmp holding_cmp) (slice_get (keys_of old)) (slice_get (keys_of new)) order
          (All-weaker (λ (p : ℕ). p < length order) (λ (p : ℕ). slice_get (keys_of new) p ≡ slice_get (keys_of old) p) (λ p below. there p (omega (arith, below, before.most, length_old))) order (within order old before))
          before.sorted;
    }
  where
    there : (p : ℕ) → p < length (keys_of old) → slice_get (keys_of new) p ≡ slice_get (keys_of old) p
    there p below =
        let d = holding_at 0 0 in
        slice_get-get_or (keys_of new) p d (omega (arith, below, front_fits (keys_of new) (keys_of old) front.0 front.1))
        ∙ ap (λ (k : Holding). Some k) (front_reads d (keys_of new) (keys_of old) front.0 front.1 p below) ∙ sym (slice_get-get_or (keys_of old) p d below)

-- what positions keep stays where a value is put at a member's holding, and what was named keeps its place
pub listed_put : (member issue : ℕ) (w : Position) (old new : List (Holding × Position)) (order : List ℕ) → IsPut member issue w old new → IsMember member → AreListed old order → AreListed new order
listed_put member issue w old new order put is before = record {
  members = put_members member issue w (λ k. lookup (holding_eq k) old) (λ k. lookup (holding_eq k) new) put.puts is before.members;
  places = places_kept old new order put.names before.places;
}

-- a holding that was not named goes last
insert_entry-front : (es : List (Holding × Position)) (k : Holding) (v : Position) → IsFrontOf (keys_of es) (keys_of (insert_entry holding_eq es k v))
insert_entry-front [] k v = (k ∷ [], refl)
insert_entry-front (e ∷ es) k v = by (holding_eq k e.0) (insert_entry-front es k v)
  where
    by : (b : Bool) → IsFrontOf (keys_of es) (keys_of (insert_entry holding_eq es k v))
        → IsFrontOf (keys_of (e ∷ es)) (keys_of (cond b ((e.0, v) ∷ es) (e ∷ insert_entry holding_eq es k v)))
    by true rest = ([], sym (append-nil (keys_of (e ∷ es))))
    by false rest = (rest.0, ap (λ (ks : List Holding). e.0 ∷ ks) rest.1)

pub put_entry : {member issue : ℕ} {w : Position} {old new : List (Holding × Position)} → Puts member issue w (λ k. lookup (holding_eq k) old) (λ k. lookup (holding_eq k) new)
    → new ≡ insert_entry holding_eq old (holding_at issue member) w → IsPut member issue w old new
put_entry {member} {issue} {w} {old} puts is = record {
  puts = puts;
  names = subst (λ (es : List (Holding × Position)). IsFrontOf (keys_of old) (keys_of es)) (sym is) (insert_entry-front old (holding_at issue member) w);
}

-- of two holdings in places the later one is not less
far : (positions : List (Holding × Position)) (order : List ℕ) → ArePlacesInOrder order positions → (i j d : ℕ) → i ≤ j → j < length order
    → is_lt (option_cmp holding_cmp (slice_get (keys_of positions) (get_or order j d)) (slice_get (keys_of positions) (get_or order i d))) ≡ false
far positions order places i j d le below = sorted_far _ (ranks_by named_order (slice_get (keys_of positions))) order places.sorted i j d le below

-- so they stand by issue
pub stand_by_issue : (positions : List (Holding × Position)) (order : List ℕ) (issue : ℕ) → ArePlacesInOrder order positions → IsNonDecreasingBy (issue_in positions issue) order
stand_by_issue positions order issue places i j d le below =
    let named : get_or order i d < length (keys_of positions) =
    omega (arith, within order positions places i d (omega (arith, le, below)), places.most, length-keys_of positions) in
    by (slice_get (keys_of positions) (get_or order i d)) (slice_get (keys_of positions) (get_or order j d))
    (subst IsSome (sym (slice_get-get_or (keys_of positions) (get_or order i d) (holding_at 0 0) named)) refl)
    (far positions order places i j d le below)
  where
    not_before : (a b : Holding) → is_lt (holding_cmp b a) ≡ false → a.issue ≤ b.issue
    not_before a b greater = grind (arith, nat_tests)

    by : (a b : Option Holding) → IsSome a → is_lt (option_cmp holding_cmp b a) ≡ false → issue_or issue a ≤ issue_or issue b
    by None b named later = absurd cc
    by (Some a) None named later = absurd cc
    by (Some a) (Some b) named later = not_before a b later

-- ---- the rows of the holdings in places

-- a number of what is in each of the first places
first_sum : (number : Option (Holding × Position) → ℕ) (es : List (Holding × Position)) (n : ℕ) → n ≤ length es
    → sum_by (λ (p : ℕ). number (slice_get es p)) (places_below n) ≡ sum_by (λ (e : Holding × Position). number (Some e)) (take n es)
unfolding places_below
first_sum number es zero most = refl
first_sum number es (suc n) most =
    let e : Holding × Position = (holding_at 0 0, position_found None) in
    let next : n + 1 ≡ suc n = omega arith in
    omega (
      arith,
      sum_by_push (λ (p : ℕ). number (slice_get es p)) (places_below n) n,
      first_sum number es n (omega (arith, most)),
      sum_by_more (λ (x : Holding × Position). number (Some x)) es n e (omega (arith, most)),
      ap (λ (k : ℕ). sum_by (λ (x : Holding × Position). number (Some x)) (take k es)) next,
      ap number (slice_get-get_or es n e (omega (arith, most))),
    )

-- one row more, where the holding in the next place has one
pub rows_more : (issue : Option ℕ) (es : List (Holding × Position)) (places : List ℕ) (i d : ℕ) → i < length places
    → filter_map (row_in_place issue es) (take (i + 1) places) ≡ filter_map (row_in_place issue es) (take i places) ++ option_to_list (row_in_place issue es (get_or places i d))
rows_more issue es places i d below =
    ap (filter_map (row_in_place issue es)) (take_more places i d below)
    ∙ filter_map-append (row_in_place issue es) (take i places) (get_or places i d ∷ [])
    ∙ ap (λ rows. filter_map (row_in_place issue es) (take i places) ++ rows) (one (row_in_place issue es (get_or places i d)))
  where
    one : (o : Option PositionRow) → cons_option o [] ≡ option_to_list o
    one None = refl
    one (Some row) = refl

-- the row of a holding is its own
row_by-holding : (k : Holding) (o : Option Position) (row : PositionRow) → row_by k o ≡ Some row → holding_of row ≡ k
row_by-holding k None row e = cc e
row_by-holding k (Some s) row e = by (credit_part s.shares == debit_part s.shares) e
  where
    by : (b : Bool) → (if b then None else Some (record { issue = k.issue; member = k.member; position = s.shares })) ≡ Some row → holding_of row ≡ k
    by true g = cc g
    by false g = cc g

-- the rows of the holdings in places in order have the sums of those of the first holdings
pub rows-sum : (issue : Option ℕ) (positions : List (Holding × Position)) (order : List ℕ) → ArePlacesInOrder order positions → (f : PositionRow → ℕ)
    → sum_by (λ (p : ℕ). row_part f (row_in_place issue positions p)) order ≡ sum_by (λ (e : Holding × Position). row_part f (row_if issue e.0 (Some e.1))) (take (length order) positions)
rows-sum issue positions order places f =
    sum_by-IsPermutation (λ (p : ℕ). row_part f (row_in_place issue positions p)) (places_below (length order)) order places.each
    ∙ first_sum (λ (o : Option (Holding × Position)). row_part f (row_of_entry issue o)) positions (length order) places.most

-- a holding of another issue has no row in it
pub other_issue : (positions : List (Holding × Position)) (issue p : ℕ) → (issue_in positions issue p == issue) ≡ false → row_in_place (Some issue) positions p ≡ None
other_issue positions issue p other =
    by (slice_get positions p) (ap (λ (o : Option Holding). issue_or issue o == issue) (sym (slice_get-map (λ (e : Holding × Position). e.0) positions p)) ∙ other)
  where
    by : (o : Option (Holding × Position)) → (issue_or issue (option_map (λ (e : Holding × Position). e.0) o) == issue) ≡ false
        → row_of_entry (Some issue) o ≡ None
    by None e = refl
    by (Some x) e = ap (λ b. if b then row_by x.0 (Some x.1) else None) e

-- they are in order themselves
pub rows_in_order : (issue : Option ℕ) (positions : List (Holding × Position)) (order : List ℕ) → ArePlacesInOrder order positions
    → AreInOrder (filter_map (row_in_place issue positions) order)
rows_in_order issue positions order places =
    AllPairs-filter_map (λ (p q : ℕ). is_lt (option_cmp holding_cmp (slice_get (keys_of positions) q) (slice_get (keys_of positions) p)) ≡ false) IsNotBefore (row_in_place issue positions) not_before order
    (λ i j d less below. far positions order places i j d (omega (arith, less)) below)
  where
    by : (o : Option (Holding × Position)) (row : PositionRow) → row_of_entry issue o ≡ Some row
        → option_map (λ (e : Holding × Position). e.0) o ≡ Some (holding_of row)
    by None row e = cc e
    by (Some x) row e = ap (λ (k : Holding). Some k) (sym (in_issue-holding issue x.0 (row_by x.0 (Some x.1)) row (row_by-holding x.0 (Some x.1) row) e))

    own : (p : ℕ) (row : PositionRow) → row_in_place issue positions p ≡ Some row → slice_get (keys_of positions) p ≡ Some (holding_of row)
    own p row e = slice_get-map (λ (e : Holding × Position). e.0) positions p ∙ by (slice_get positions p) row e

    not_before : (p q : ℕ) (row later : PositionRow) → row_in_place issue positions p ≡ Some row → row_in_place issue positions q ≡ Some later
        → is_lt (option_cmp holding_cmp (slice_get (keys_of positions) q) (slice_get (keys_of positions) p)) ≡ false → IsNotBefore row later
    not_before p q row later first second not_less less =
        true≢false (sym (ap is_lt less) ∙ sym (λ t. is_lt (option_cmp holding_cmp (own q later second t) (own p row first t))) ∙ not_less)
