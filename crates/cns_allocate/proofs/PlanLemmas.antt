-- What holds of each plan.
use Rattle.std.proofs.Common.{◌≡◌, ◌≤◌, ◌+◌, ◌-◌, ℕ, List, [], ◌∷◌, ◌++◌, Some, None, Bool, true, false, cond, refl, ap, ◌∙◌, arith, append_assoc, Less}
use Rattle.std.specs.Prelude.{◌&&◌, ◌==◌, nat_lt, All, AllPairs, IfSome, count_by, sum_by, filter, ℤ, pos, negsuc, ◌-ℤ◌}
use Rattle.std.specs.List.{filter_map, flat_map}
use Rattle.std.proofs.Math.Bool.{and_comm}
use Rattle.std.proofs.lemmas.Bool.{and_from, and_parts, cond_both, eqb-true, ltb-true}
use Rattle.std.proofs.lemmas.Int.{ints}
use Rattle.std.proofs.lemmas.List.{append-nil}
use Rattle.std.proofs.lemmas.List.Elements.{All-append, All-filter, All-head, All-nil, All-tail, All-weaker, filter_passes}
use Rattle.std.proofs.lemmas.List.Sums.{sum_by-append, sum_by-cons}
use Rattle.std.proofs.lemmas.Map.Keys.{sorted_tail}
use Rattle.std.proofs.lemmas.Map.Views.{All-after_first}
use Rattle.cns_ids.proofs.ListLemmas.{All-filter_map, AllPairs-append_by, count-no, count-yes, count_by-filter_map, filter_map-filter, same_place}
use Rattle.cns_netting.specs.History.{credit, credit_part, debit, due, settled_credit, sold}
use Rattle.cns_ids.specs.Holding.{holding_cmp}
use Rattle.cns_netting.specs.Rows.{holdings_of, is_row_in, open_row, rows_of}
use Rattle.cns_netting.specs.Book.{IsBook}
use Rattle.cns_netting.specs.declared.entry.NetEntry.{NetEntry}
use Rattle.cns_netting.specs.declared.entry.NetEntry.TheVariants.{Accepted, Netted, Settled}
use Rattle.cns_ids.specs.declared.holding.Holding.{Holding}
use Rattle.cns_netting.specs.declared.position.PositionRow.{PositionRow}
use Rattle.cns_netting.proofs.BookLemmas.{bought-most}
use Rattle.cns_netting.proofs.HoldingLemmas.{AreAscending, holdings-ascending}
use Rattle.cns_movements.specs.Asked.{IsAsked}
use Rattle.cns_movements.specs.Order.{open_sum}
use Rattle.cns_movements.specs.declared.order.MoveKind.TheVariants.{Delivery}
use Rattle.cns_movements.specs.Book.{Orders}
use Rattle.cns_covers.specs.Bounds.{AreBounded}
use Rattle.cns_covers.specs.Covers.{IsUnsettled}
use Rattle.cns_covers.specs.declared.priorities.Prioritized.{Prioritized}
use Rattle.cns_covers.proofs.BoundLemmas.{other_place}
use Rattle.cns_covers.proofs.RowLemmas.{All-rows_of, IfSome-open_row}
use Rattle.cns_allocate.specs.Group.{is_in, rank}
use Rattle.cns_allocate.specs.Plan.{IsPlan, LongsFit, by_group, plan_of, planned_of, want_of}
use Rattle.cns_allocate.specs.declared.group.Group.{Group}
use Rattle.cns_allocate.specs.declared.group.Group.TheVariants.{Priority, WasLong, Other}
use Rattle.cns_allocate.specs.declared.planned.Planned.{Planned}

-- the size of a difference above 0
pub credit_part-difference : (c d : ℕ) → credit_part (pos c -ℤ pos d) ≡ c - d
credit_part-difference c d = by (pos c -ℤ pos d) refl
  where
    by : (z : ℤ) → (pos c -ℤ pos d) ≡ z → credit_part z ≡ c - d
    by (pos n) e = omega (arith, ints, e)
    by (negsuc n) e = omega (arith, ints, e)

-- ---- longs that fit

-- the longs of a book fit where settlements brought no member more than it sold
pub covered_longs : (h : List NetEntry) → IsBook h → ((member issue : ℕ) → settled_credit h member issue ≤ sold (due h) member issue) → LongsFit h
covered_longs h book covered = record { within = λ m i. omega (arith, bought-most None h m i book.quantities, book.few, covered m i) }

-- so they fit while the bounds of the covers hold
pub bounded_longs : (h : List NetEntry) (orders : Orders) → IsBook h → AreBounded h orders → LongsFit h
bounded_longs h orders book bounded = covered_longs h book (λ m i. omega (arith, bounded.covered m i))

-- without settlements no position is credited
settled_credit-none : (h : List NetEntry) (member issue : ℕ) → IsUnsettled h → settled_credit h member issue ≡ 0
unfolding settled_credit
settled_credit-none [] member issue h = refl
settled_credit-none (Accepted t ∷ h) member issue none = settled_credit-none h member issue none
settled_credit-none (Netted d ∷ h) member issue none = settled_credit-none h member issue none
settled_credit-none (Settled m i z ∷ h) member issue none = absurd none

-- and they fit where there is no settlement
pub unsettled_longs : (h : List NetEntry) → IsBook h → IsUnsettled h → LongsFit h
unsettled_longs h book none = covered_longs h book (λ m i. omega (arith, settled_credit-none h m i none))

-- all rows are long of at most 10^18 shares where all longs are
pub rows_of-fit : (h : List NetEntry) → LongsFit h → All (λ (row : PositionRow). credit_part row.position ≤ 1000000000000000000) (rows_of h)
rows_of-fit h fit =
    All-rows_of (λ (row : PositionRow). credit_part row.position ≤ 1000000000000000000) h
    (λ k. rw (credit_part-difference (credit h k.member k.issue) (debit h k.member k.issue)) (fit.within k.member k.issue))

-- so are those of an issue
pub rows_in-fit : (h : List NetEntry) (issue : ℕ) → LongsFit h → All (λ (row : PositionRow). credit_part row.position ≤ 1000000000000000000) (filter (is_row_in issue) (rows_of h))
rows_in-fit h issue fit = All-filter (is_row_in issue) (λ (row : PositionRow). credit_part row.position ≤ 1000000000000000000) (rows_of h) (rows_of-fit h fit)

-- the positions of the issue are all that the plan asks for
planned_in : (issue : ℕ) (book : Orders) (settings : List Prioritized) (were_long : List ℕ) (rows : List PositionRow)
    → filter_map (planned_of issue book settings were_long) (filter (is_row_in issue) rows) ≡ filter_map (planned_of issue book settings were_long) rows
unfolding planned_of
planned_in issue book settings were_long = filter_map-filter (planned_of issue book settings were_long) (is_row_in issue) (λ row e. rw e refl)

-- those planned in an issue, by member
abbrev pub wanting : ℕ → List NetEntry → Orders → List Prioritized → List ℕ → List Planned
wanting issue h book settings were_long = filter_map (planned_of issue book settings were_long) (rows_of h)

pub wanting-rows_in : (issue : ℕ) (h : List NetEntry) (book : Orders) (settings : List Prioritized) (were_long : List ℕ)
    → filter_map (planned_of issue book settings were_long) (filter (is_row_in issue) (rows_of h)) ≡ wanting issue h book settings were_long
wanting-rows_in issue h book settings were_long = planned_in issue book settings were_long (rows_of h)

-- what is planned of a position asks for a share, and for no more than the position has
planned_of-asked : (issue : ℕ) (book : Orders) (settings : List Prioritized) (were_long : List ℕ) (row : PositionRow)
    → credit_part row.position ≤ 1000000000000000000 → IfSome (planned_of issue book settings were_long row) (λ (p : Planned). IsAsked p.asked)
unfolding planned_of want_of
planned_of-asked issue book settings were_long row fit =
    let open_shares : ℕ = open_sum book.orders book.replies Delivery row.member row.issue in
    let want : ℕ = credit_part row.position - open_shares in
    cond_both ((row.issue == issue) && nat_lt 0 want) (Some _) None (λ o. IfSome o (λ (p : Planned). IsAsked p.asked))
    (λ e. let some = ltb-true 0 want (and_parts (row.issue == issue) (nat_lt 0 want) e).1 in record { from = omega arith; to = omega arith }) (λ e. tt)

-- ---- each member at most once

-- whether a holding, or a position, is of an issue and a member
abbrev is_holding_of : ℕ → ℕ → Holding → Bool
is_holding_of issue member k = (k.issue == issue) && (k.member == member)

abbrev is_row_of : ℕ → ℕ → PositionRow → Bool
is_row_of issue member row = (row.issue == issue) && (row.member == member)

abbrev pub is_planned_as : ℕ → Planned → Bool
is_planned_as member p = p.member == member

-- a holding that stands after another one is not of its issue and member
other_holding : (k x : Holding) → holding_cmp k x ≡ Less → is_holding_of k.issue k.member x ≡ false
other_holding k x less = and_comm (x.issue == k.issue) (x.member == k.member) ∙ other_place k x less

no_other : (k : Holding) (ks : List Holding) → All (λ (q : Holding). holding_cmp k q ≡ Less) ks → count_by (is_holding_of k.issue k.member) ks ≡ 0
no_other k [] apart = refl
no_other k (x ∷ xs) apart =
    count-no (is_holding_of k.issue k.member) x xs (other_holding k x (All-head (λ (q : Holding). holding_cmp k q ≡ Less) x xs apart))
    ∙ no_other k xs (All-tail (λ (q : Holding). holding_cmp k q ≡ Less) x xs apart)

holdings_once : (issue member : ℕ) (ks : List Holding) → AreAscending ks → count_by (is_holding_of issue member) ks ≤ 1
holdings_once issue member [] up = omega arith
holdings_once issue member (k ∷ ks) up = by (is_holding_of issue member k) refl (holdings_once issue member ks (sorted_tail holding_cmp k ks up))
  where
    by : (b : Bool) → is_holding_of issue member k ≡ b → count_by (is_holding_of issue member) ks ≤ 1 → count_by (is_holding_of issue member) (k ∷ ks) ≤ 1
    by true e rest =
        let same = same_place k.issue issue k.member member e in
        let none : count_by (is_holding_of issue member) ks ≡ 0 = rw (← same.0, ← same.1) (no_other k ks (All-after_first holding_cmp k ks up)) in
        omega (arith, count-yes (is_holding_of issue member) k ks e, none)
    by false e rest = omega (arith, count-no (is_holding_of issue member) k ks e, rest)

-- the position of a holding is of its issue and member
open_row-place : (h : List NetEntry) (issue member : ℕ) (k : Holding)
    → IfSome (open_row h k) (λ (row : PositionRow). is_row_of issue member row ≡ true → is_holding_of issue member k ≡ true)
open_row-place h issue member k =
    IfSome-open_row (λ (row : PositionRow). is_row_of issue member row ≡ true → is_holding_of issue member k ≡ true) h k (λ e. e)

-- the member planned of a position is that of the position, which is of the issue
planned_of-place : (issue : ℕ) (book : Orders) (settings : List Prioritized) (were_long : List ℕ) (member : ℕ) (row : PositionRow)
    → IfSome (planned_of issue book settings were_long row) (λ (p : Planned). is_planned_as member p ≡ true → is_row_of issue member row ≡ true)
unfolding planned_of
planned_of-place issue book settings were_long member row =
    let want : ℕ = want_of book row in
    cond_both ((row.issue == issue) && nat_lt 0 want) (Some _) None (λ o. IfSome o (λ (p : Planned). is_planned_as member p ≡ true → is_row_of issue member row ≡ true))
    (λ e same. and_from (row.issue == issue) (row.member == member) (and_parts (row.issue == issue) (nat_lt 0 want) e).0 same) (λ e. tt)

-- no member wants shares twice
pub wanting-once : (issue : ℕ) (h : List NetEntry) (book : Orders) (settings : List Prioritized) (were_long : List ℕ) (member : ℕ)
    → count_by (is_planned_as member) (wanting issue h book settings were_long) ≤ 1
wanting-once issue h book settings were_long member =
    omega (
      arith,
      count_by-filter_map (planned_of issue book settings were_long) (is_row_of issue member) (is_planned_as member)
          (planned_of-place issue book settings were_long member) (rows_of h),
      count_by-filter_map (open_row h) (is_holding_of issue member) (is_row_of issue member) (open_row-place h issue member) (holdings_of h),
      holdings_once issue member (holdings_of h) (holdings-ascending h),
    )

-- ---- by group

-- each element is in one of the groups
pub sum_by-by_group : (f : Planned → ℕ) (ps : List Planned) → sum_by f (by_group ps) ≡ sum_by f ps
sum_by-by_group f [] = refl
sum_by-by_group f (p ∷ ps) = by p.group _ _ _ (sum_by-by_group f ps)
  where
    added : (us vs : List Planned) → sum_by f (us ++ p ∷ vs) ≡ f p + sum_by f (us ++ vs)
    added us vs = omega (arith, sum_by-append f us (p ∷ vs), sum_by-append f us vs, sum_by-cons f p vs)

    by : (g : Group) (us bs cs : List Planned) → sum_by f (us ++ (bs ++ (cs ++ []))) ≡ sum_by f ps
        → sum_by f (cond (rank g == 0) (p ∷ us) us ++ (cond (rank g == 1) (p ∷ bs) bs ++ (cond (rank g == 2) (p ∷ cs) cs ++ []))) ≡ sum_by f (p ∷ ps)
    by Priority us bs cs e = omega (arith, e, added [] (us ++ (bs ++ (cs ++ []))), sum_by-cons f p ps)
    by WasLong us bs cs e = omega (arith, e, added us (bs ++ (cs ++ [])), sum_by-cons f p ps)
    by Other us bs cs e =
        omega (
          arith,
          e,
          sum_by-append f us (bs ++ (cs ++ [])),
          sum_by-append f us (bs ++ p ∷ (cs ++ [])),
          added bs (cs ++ []),
          sum_by-cons f p ps,
        )

-- what holds of each element holds of each in its group
pub All-by_group : (P : Planned → Type 0) (ps : List Planned) → All P ps → All P (by_group ps)
All-by_group P ps all = in_groups (Priority ∷ WasLong ∷ Other ∷ [])
  where
    in_groups : (gs : List Group) → All P (flat_map (λ g. filter (is_in g) ps) gs)
    in_groups [] = All-nil P
    in_groups (g ∷ gs) = All-append P _ _ (All-filter _ P ps all) (in_groups gs)

-- two members in the order of their groups
abbrev pub IsNoLater : Planned → Planned → Type 0
IsNoLater p q = rank p.group ≤ rank q.group

-- those of one group
pub one_group : (r : ℕ) (ps : List Planned) → All (λ (p : Planned). rank p.group ≡ r) ps → AllPairs IsNoLater ps
one_group r ps same i j d less below = omega (arith, same i d (omega arith), same j d below)

-- those of a group before others of that group or later ones
groups-append : (r : ℕ) (ps qs : List Planned) → All (λ (p : Planned). rank p.group ≡ r) ps → All (λ (q : Planned). r ≤ rank q.group) qs → AllPairs IsNoLater qs
    → AllPairs IsNoLater (ps ++ qs)
groups-append r ps qs same later pairs =
    AllPairs-append_by (λ (p : Planned). rank p.group) r ps qs (one_group r ps same)
    (All-weaker (λ (p : Planned). rank p.group ≡ r) (λ (p : Planned). rank p.group ≤ r) (λ p e. omega arith) ps same) pairs later

in_group : (g : Group) (ps : List Planned) → All (λ (p : Planned). rank p.group ≡ rank g) (filter (is_in g) ps)
in_group g ps =
    All-weaker (λ (p : Planned). is_in g p ≡ true) (λ (p : Planned). rank p.group ≡ rank g) (λ p e. eqb-true (rank p.group) (rank g) e) _
    (filter_passes (is_in g) ps)

from_group : (r s : ℕ) (ps : List Planned) → r ≤ s → All (λ (p : Planned). rank p.group ≡ s) ps → All (λ (p : Planned). r ≤ rank p.group) ps
from_group r s ps le same = All-weaker (λ (p : Planned). rank p.group ≡ s) (λ (p : Planned). r ≤ rank p.group) (λ p e. omega arith) ps same

groups-by_group : (ps : List Planned) → AllPairs IsNoLater (by_group ps)
groups-by_group ps =
    let none = λ (r : ℕ). All-nil (λ (p : Planned). r ≤ rank p.group) in
    let seconds = in_group WasLong ps in
    let others = in_group Other ps in
    let last = λ (r : ℕ) (le : r ≤ 2). All-append (λ (p : Planned). r ≤ rank p.group) _ [] (from_group r 2 _ le others) (none r) in
    groups-append 0 _ _ (in_group Priority ps) (All-append (λ (p : Planned). 0 ≤ rank p.group) _ _ (from_group 0 1 _ (omega arith) seconds) (last 0 (omega arith)))
    (groups-append 1 _ _ seconds (last 1 (omega arith)) (groups-append 2 _ [] others (none 2) (λ i j d less below. absurd (omega arith))))

-- the groups of those planned in an issue, added to a list one after another, are its plan
pub groups_added : (issue : ℕ) (h : List NetEntry) (book : Orders) (settings : List Prioritized) (were_long : List ℕ) (planned none firsts more all : List Planned)
    → planned ≡ wanting issue h book settings were_long → none ≡ [] → firsts ≡ none ++ filter (is_in Priority) planned → more ≡ firsts ++ filter (is_in WasLong) planned
    → all ≡ more ++ filter (is_in Other) planned → all ≡ plan_of issue h book settings were_long
groups_added issue h book settings were_long planned none firsts more all is_planned is_none is_firsts is_more is_all =
    let of = λ (group : Group). filter (is_in group) planned in
    let added : all ≡ by_group planned = rw (is_all, is_more, is_firsts, is_none, append-nil (of Other)) (append_assoc (of Priority) (of WasLong) (of Other)) in
    added ∙ ap by_group is_planned

-- each plan is one
pub IsPlan-plan_of : (issue : ℕ) (h : List NetEntry) (book : Orders) (settings : List Prioritized) (were_long : List ℕ) → LongsFit h
    → IsPlan (plan_of issue h book settings were_long)
IsPlan-plan_of issue h book settings were_long fit =
    let planned : List Planned = wanting issue h book settings were_long in
    record {
      asked =
          All-by_group (λ (p : Planned). IsAsked p.asked) planned
          (All-filter_map (planned_of issue book settings were_long) (λ (row : PositionRow). credit_part row.position ≤ 1000000000000000000) (λ (p : Planned). IsAsked p.asked)
          (planned_of-asked issue book settings were_long) (rows_of h) (rows_of-fit h fit));
      once = λ member. rw (sum_by-by_group (λ (p : Planned). cond (is_planned_as member p) 1 0) planned) (wanting-once issue h book settings were_long member);
      groups = groups-by_group planned;
    }
