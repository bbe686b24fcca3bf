-- The rows of the places of a stock and of the openings, in order, are the balances.
use Rattle.std.proofs.Common.{⊎_elim, ◌≡◌, ℕ, zero, suc, ◌+◌, ◌<◌, Bool, true, false, ◌||◌, List, length, get_or, [], ◌∷◌, ◌++◌, Option, Some, None, refl, sym, ap, ◌∙◌, subst, arith, inl, inr}
use Rattle.std.specs.Prelude.{◌≢◌, not, map, filter, if◌then◌else◌}
use Rattle.std.specs.HashMap.{keys, IsUnique}
use Rattle.std.specs.List.{filter_map, cons_option, All, AllByRecursion, Contains, IsDistinct}
use Rattle.std.specs.List.Sorted.{IsPermutation, IsSortedByKey, IsStrictlySortedBy}
use Rattle.std.specs.Map.{keys_of, lookup}
use Rattle.std.specs.Ordering.{is_eq, is_lt, ordering_reverse}
use Rattle.std.specs.Set.{is_member}
use Rattle.std.specs.declared.cmp.Ordering.TheVariants.{Less, Greater}
use Rattle.std.proofs.lemmas.Bool.{eq-eqb, cases_Bool, or_parts, true≢false}
use Rattle.std.proofs.lemmas.List.{length-map}
use Rattle.std.proofs.lemmas.List.Elements.{All-cons, All-head, All-nil, All-tail, Contains-append_left, Contains-append_right, filter_map-append}
use Rattle.std.proofs.lemmas.List.Sorted.{All-permutation, Contains-permutation, IsPermutation-map}
use Rattle.std.proofs.lemmas.Map.Keys.{apart_from_distinct, IsDistinct-IsPermutation, IsDistinct-cons, IsDistinct-head, IsDistinct-tail, sorted_from_all_adjacent}
use Rattle.std.proofs.lemmas.Option.{none-some}
use Rattle.std.proofs.Math.ListN.{get_or-map}
use Rattle.cns_records.specs.declared.dep_record.DepRecord.{DepRecord}
use Rattle.cns_trades.specs.declared.opening.Opening.{Opening}
use Rattle.cns_journal.proofs.LayoutLemmas.{by_bool}
use Rattle.cns_depository.specs.declared.account.Account.{Account}
use Rattle.cns_depository.specs.declared.account.Account.TheVariants.{Cns}
use Rattle.cns_depository.specs.declared.balances.BalanceRow.{BalanceRow}
use Rattle.cns_depository.specs.declared.account.Side.{Side}
use Rattle.cns_depository.specs.declared.account.Side.TheVariants.{Outside, At}
use Rattle.cns_depository.specs.declared.moved.Moved.{Moved}
use Rattle.cns_depository.specs.declared.place.Place.{Place}
use Rattle.cns_depository.specs.declared.stock.Stock.{Stock}
use Rattle.cns_depository.specs.Balances.{balance_row, balance_rows, place_cmp, row_place, stock_places, side_row}
use Rattle.cns_depository.specs.Openings.{opening_shares}
use Rattle.cns_depository.specs.Places.{AreNamedRows, is_opened, opened_place, unopened_row}
use Rattle.cns_depository.specs.Stock.{balance_of, moved_in}
use Rattle.cns_depository.specs.Totals.{IsStockOf, moved_at, place_eq}
use Rattle.cns_depository.proofs.IndexLemmas.{unopened_none}
use Rattle.cns_depository.proofs.PlaceLemmas.{by_order, place_equivalence, place_ties, place_total, same_place}
use Rattle.cns_depository.proofs.TotalLemmas.{equal_places}
use Rattle.cns_depository.proofs.RowLemmas.{above, GivesOwn, held_place, IsAmong, own_row, places_sorted, row_among, row_cases, rows_distinct}

-- ---- lists that have the same places with rows

abbrev Ascend : List Place → Type 0
Ascend ks = IsStrictlySortedBy place_cmp ks

-- the places of xs that give rows are among ys
abbrev Has : (Place → Option BalanceRow) → List Place → List Place → Type 0
Has f xs ys = (q : Place) (row : BalanceRow) → f q ≡ Some row → IsAmong q xs → IsAmong q ys

abbrev GivesNone : (Place → Option BalanceRow) → Place → Type 0
GivesNone f x = (row : BalanceRow) → f x ≡ Some row → ⊥

skip : (f : Place → Option BalanceRow) (x : Place) (xs : List Place) → GivesNone f x → filter_map f (x ∷ xs) ≡ filter_map f xs
skip f x xs none = row_cases (f x) (λ e. rw e refl) (λ row e. absurd (none row e))

not_before : (x y : Place) → place_cmp x y ≡ Less → place_cmp y x ≡ Less → ⊥
not_before x y e f = let turned : Less ≡ Greater = sym e ∙ place_total.antisymm x y ∙ ap ordering_reverse f in cc turned

below : (x q : Place) (ys : List Place) → AllByRecursion (λ y. place_cmp x y ≡ Less) ys → IsAmong q ys → place_cmp x q ≡ Less
below x q [] all in' = absurd in'
below x q (y ∷ ys) all (inl e) = ap (place_cmp x) (sym e) ∙ all.0
below x q (y ∷ ys) all (inr more) = below x q ys all.1 more

not_after_itself : (x : Place) (xs : List Place) → AllByRecursion (λ y. place_cmp x y ≡ Less) xs → IsAmong x xs → ⊥
not_after_itself x xs all in' = let less = below x x xs all in' in not_before x x less less

-- a place below the first of a list that ascends is not among it
not_among : (x y : Place) (ys : List Place) → place_cmp x y ≡ Less → Ascend (y ∷ ys) → IsAmong x (y ∷ ys) → ⊥
unfolding IsStrictlySortedBy
not_among x y ys less order (inl e) = let itself = ap (place_cmp x) (sym e) ∙ less in not_before x x itself itself
not_among x y ys less order (inr more) = not_before x y less (below y x ys order.0 more)

others : (f : Place → Option BalanceRow) (x : Place) (xs ys : List Place) → GivesNone f x → Has f ys (x ∷ xs) → Has f ys xs
others f x xs ys none has q row is in' = ⊎_elim (λ e. absurd (none row (ap f e ∙ is))) (λ more. more) (has q row is in')

rest : (f : Place → Option BalanceRow) (x y : Place) (xs ys : List Place) → x ≡ y → AllByRecursion (λ z. place_cmp x z ≡ Less) xs → Has f (x ∷ xs) (y ∷ ys) → Has f xs ys
rest f x y xs ys same order has q row is in' =
    ⊎_elim (λ e. absurd (not_after_itself x xs order (subst (λ (z : Place). IsAmong z xs) (sym (same ∙ e)) in'))) (λ more. more) (has q row is (inr in'))

-- lists that ascend have the same rows where the places of each that give rows are among those of the other
same_rows : (f : Place → Option BalanceRow) (xs ys : List Place) → Ascend xs → Ascend ys → Has f xs ys → Has f ys xs → filter_map f xs ≡ filter_map f ys
unfolding IsStrictlySortedBy
same_rows f [] [] sx sy there back = refl
same_rows f [] (y ∷ ys) sx sy there back =
    let none : GivesNone f y = λ row is. absurd (back y row is (inl refl)) in
    same_rows f [] ys tt sy.1 (λ q row is in'. absurd in') (λ q row is in'. back q row is (inr in')) ∙ sym (skip f y ys none)
same_rows f (x ∷ xs) [] sx sy there back =
    let none : GivesNone f x = λ row is. absurd (there x row is (inl refl)) in
    skip f x xs none ∙ same_rows f xs [] sx.1 tt (λ q row is in'. there q row is (inr in')) (λ q row is in'. absurd in')
same_rows f (x ∷ xs) (y ∷ ys) sx sy there back = by_order (place_cmp x y)
    (λ e. let none : GivesNone f x = λ row is. not_among x y ys e sy (there x row is (inl refl)) in
    skip f x xs none ∙ same_rows f xs (y ∷ ys) sx.1 sy (λ q row is in'. there q row is (inr in')) (others f x xs (y ∷ ys) none back))
    (λ e. let same = same_place x y e in
    ap (λ (z : Place). cons_option (f z) (filter_map f xs)) same
    ∙ ap (cons_option (f y)) (same_rows f xs ys sx.1 sy.1 (rest f x y xs ys same sx.0 there) (rest f y x ys xs (sym same) sy.0 back)))
    (λ e. let none : GivesNone f y = λ row is. not_among y x xs (place_total.antisymm y x ∙ ap ordering_reverse e) sx (back y row is (inl refl)) in
    same_rows f (x ∷ xs) ys sx sy.1 (others f y ys (x ∷ xs) none there) (λ q row is in'. back q row is (inr in')) ∙ sym (skip f y ys none))

-- ---- the places that are named

among_contained : (xs : List Place) (q : Place) → Contains xs q → IsAmong q xs
among_contained [] q (k, within, at) = absurd (omega (arith, within))
among_contained (x ∷ xs) q (zero, within, at) = inl at
among_contained (x ∷ xs) q (suc k, within, at) = inr (among_contained xs q (k, omega (arith, within), at))

contained : (xs : List Place) (q : Place) → IsAmong q xs → Contains xs q
contained [] q in' = absurd in'
contained (x ∷ xs) q (inl e) = (0, omega arith, e)
contained (x ∷ xs) q (inr more) = let rest = contained xs q more in (suc rest.0, omega (arith, rest.1), rest.2)

member_among : (ks : List Place) (q : Place) → is_member place_eq ks q ≡ true → IsAmong q ks
member_among [] q is = absurd (true≢false (sym is))
member_among (k ∷ ks) q is = by_bool (place_eq q k) (λ e. inl (sym (equal_places q k e))) (λ e. inr (member_among ks q (sym (ap (λ (b : Bool). b || is_member place_eq ks q) e) ∙ is)))

filter_among : (t : Place → Bool) (ks : List Place) (q : Place) → IsAmong q ks → t q ≡ true → IsAmong q (filter t ks)
filter_among t [] q in' is = absurd in'
filter_among t (k ∷ ks) q (inl e) is = rw (ap t e ∙ is) (inl e)
filter_among t (k ∷ ks) q (inr more) is = by_bool (t k) (λ e. rw e (inr (filter_among t ks q more is))) (λ e. rw e (filter_among t ks q more is))

-- ---- the places of a stock

-- what is found is of a place that is named
found_among : (es : List (Place × Moved)) (q : Place) → lookup (place_eq q) es ≢ None → IsAmong q (keys_of es)
found_among [] q found = absurd (found refl)
found_among (e ∷ es) q found =
    ⊎_elim (λ is. inl (sym (equal_places q e.0 is))) (λ other. inr (found_among es q (λ none. found (rw other none)))) (cases_Bool (place_eq q e.0))

moved_named : (s : Stock) (p : List DepRecord) (a : Account) (issue : ℕ) → IsStockOf s p → moved_in p a issue ≢ 0 → IsAmong (record { issue = issue; side = At a }) (keys s.moved)
moved_named s p a issue stock some =
    found_among s.moved.entries _ (λ none. some (sym (stock.sums.entered (At a) issue) ∙ ap (λ (m : Option Moved). (moved_at m).entered) none))

-- ---- the places of a report

-- a place that no opening names
abbrev is_other : List Opening → Place → Bool
is_other openings q = not (is_opened openings q)

-- those that openings name, then the others to or from which something was moved
abbrev places_of : List Opening → Stock → List Place
places_of openings s = map opened_place openings ++ filter (is_other openings) (keys s.moved)

-- a balance other than 0 is of a place that is opened, or into which something was moved
named_place : (s : Stock) (openings : List Opening) (p : List DepRecord) (a : Account) (issue : ℕ) → IsStockOf s p → balance_of openings p a issue ≢ 0
    → IsAmong (record { issue = issue; side = At a }) (places_of openings s)
unfolding balance_of
named_place s openings p a issue stock held =
    let q : Place = record { issue = issue; side = At a } in
    let opened = map opened_place openings in
    let others = filter (is_other openings) (keys s.moved) in
    by_bool (is_opened openings q)
    (λ is. among_contained _ q (Contains-append_left opened others q (contained opened q (member_among opened q is))))
    (λ other.
    let none : opening_shares openings a issue ≡ 0 = unopened_none openings a issue other in
    let moved = moved_named s p a issue stock (λ z. held (omega (arith, none, z))) in
    among_contained _ q (Contains-append_right opened others q (contained others q (filter_among (is_other openings) (keys s.moved) q moved (ap not other)))))

-- a place with a row is an account's, and is among those that have the account's
by_row : (openings : List Opening) (p : List DepRecord) (ks : List Place) (q : Place) (row : BalanceRow) → balance_row openings p q ≡ Some row
    → ((a : Account) (issue : ℕ) → balance_of openings p a issue ≢ 0 → IsAmong (record { issue = issue; side = At a }) ks) → IsAmong q ks
unfolding balance_row
by_row openings p ks q row is has = by q.side is
  where
    by : (s : Side) → side_row openings p s q.issue ≡ Some row → IsAmong (record { issue = q.issue; side = s }) ks
    by Outside is = absurd (none-some row is)
    by (At a) is = has a q.issue (λ none. none-some row (rw (eq-eqb (balance_of openings p a q.issue) 0 none) at is))

-- ---- places that differ

all_join : (P : Place → Type 0) (xs ys : List Place) → AllByRecursion P xs → AllByRecursion P ys → AllByRecursion P (xs ++ ys)
all_join P [] ys all more = more
all_join P (x ∷ xs) ys all more = (all.0, all_join P xs ys all.1 more)

all_by : (P Q : Place → Type 0) → ((q : Place) → P q → Q q) → (xs : List Place) → AllByRecursion P xs → AllByRecursion Q xs
all_by P Q so [] all = tt
all_by P Q so (x ∷ xs) all = (so x all.0, all_by P Q so xs all.1)

all_filter : (P : Place → Type 0) (t : Place → Bool) (xs : List Place) → AllByRecursion P xs → AllByRecursion P (filter t xs)
all_filter P t [] all = tt
all_filter P t (x ∷ xs) all = by_bool (t x) (λ e. rw e (all.0, all_filter P t xs all.1)) (λ e. rw e (all_filter P t xs all.1))

all_pass : (t : Place → Bool) (xs : List Place) → AllByRecursion (λ q. t q ≡ true) (filter t xs)
all_pass t [] = tt
all_pass t (x ∷ xs) = by_bool (t x) (λ e. subst (λ (b : Bool). AllByRecursion (λ q. t q ≡ true) (if b then x ∷ filter t xs else filter t xs)) (sym e) (e, all_pass t xs))
    (λ e. subst (λ (b : Bool). AllByRecursion (λ q. t q ≡ true) (if b then x ∷ filter t xs else filter t xs)) (sym e) (all_pass t xs))

distinct_filter : (t : Place → Bool) (xs : List Place) → IsDistinct place_eq xs → IsDistinct place_eq (filter t xs)
distinct_filter t [] distinct = distinct
distinct_filter t (x ∷ xs) distinct =
    let tail = distinct_filter t xs (IsDistinct-tail place_eq x xs distinct) in
    by_bool (t x) (λ e. rw e (IsDistinct-cons place_eq x (filter t xs) (all_filter (λ y. place_eq x y ≡ false) t xs (IsDistinct-head place_eq x xs distinct)) tail)) (λ e. rw e tail)

-- lists of which no place of the second is one of the first
distinct_join : (xs ys : List Place) → IsDistinct place_eq xs → IsDistinct place_eq ys → AllByRecursion (λ y. is_member place_eq xs y ≡ false) ys → IsDistinct place_eq (xs ++ ys)
distinct_join [] ys first second apart = second
distinct_join (x ∷ xs) ys first second apart =
    let parts = λ (y : Place) (e : is_member place_eq (x ∷ xs) y ≡ false). or_parts (place_eq y x) (is_member place_eq xs y) e in
    IsDistinct-cons place_eq x (xs ++ ys)
    (all_join (λ y. place_eq x y ≡ false) xs ys (IsDistinct-head place_eq x xs first)
    (all_by (λ y. is_member place_eq (x ∷ xs) y ≡ false) (λ y. place_eq x y ≡ false) (λ y e. place_equivalence.symm x y ∙ (parts y e).0) ys apart))
    (distinct_join xs ys (IsDistinct-tail place_eq x xs first) second
    (all_by (λ y. is_member place_eq (x ∷ xs) y ≡ false) (λ y. is_member place_eq xs y ≡ false) (λ y e. (parts y e).1) ys apart))

not_true : (b : Bool) → not b ≡ true → b ≡ false
not_true true e = sym e
not_true false e = refl

places_distinct : (openings : List Opening) (s : Stock) → IsDistinct place_eq (map opened_place openings) → IsUnique place_eq s.moved → IsDistinct place_eq (places_of openings s)
places_distinct openings s opened moved =
    let others = filter (is_other openings) (keys s.moved) in
    distinct_join (map opened_place openings) others opened (distinct_filter (is_other openings) (keys s.moved) moved)
    (all_by (λ q. is_other openings q ≡ true) (λ q. is_opened openings q ≡ false) (λ q e. not_true (is_opened openings q) e) others (all_pass (is_other openings) (keys s.moved)))

-- ---- rows in order

nothing : BalanceRow
nothing = record { issue = 0; account = Cns; shares = 0 }

-- places that differ and do not fall ascend
less : (x y : Place) → place_eq x y ≡ false → is_lt (place_cmp y x) ≡ false → place_cmp x y ≡ Less
less x y apart up = by_order (place_cmp x y) (λ e. e) (λ e. absurd (true≢false (sym (place_ties x y ∙ ap is_eq e) ∙ apart)))
    (λ e. absurd (true≢false (sym (ap is_lt (above x y e)) ∙ up)))

rows_rise : (rows : List BalanceRow) → IsSortedByKey row_place place_cmp rows → IsDistinct place_eq (map row_place rows) → Ascend (map row_place rows)
rows_rise rows sorted distinct = sorted_from_all_adjacent place_total (map row_place rows) (row_place nothing) (λ k within.
    let inside : k + 1 < length rows = omega (arith, within, length-map rows row_place) in
    let this = get_or-map row_place rows k nothing in
    let next = get_or-map row_place rows (k + 1) nothing in
    let apart : place_eq (get_or (map row_place rows) k (row_place nothing)) (get_or (map row_place rows) (k + 1) (row_place nothing)) ≡ false =
    apart_from_distinct place_eq (map row_place rows) k (k + 1) (row_place nothing) distinct (omega arith) within in
    let up : is_lt (place_cmp (row_place (get_or rows (k + 1) nothing)) (row_place (get_or rows k nothing))) ≡ false = sorted k nothing (omega arith) inside in
    less (get_or (map row_place rows) k (row_place nothing)) (get_or (map row_place rows) (k + 1) (row_place nothing)) apart (ap (λ (q : Place). is_lt (place_cmp q (get_or (map row_place rows) k (row_place nothing)))) next
    ∙ ap (λ (q : Place). is_lt (place_cmp (row_place (get_or rows (k + 1) nothing)) q)) this ∙ up))

-- the rows of the places of rows that places give are these rows
abbrev IsOwn : (Place → Option BalanceRow) → BalanceRow → Type 0
IsOwn f row = f (row_place row) ≡ Some row

gives_own : (f : Place → Option BalanceRow) (ks : List Place) → GivesOwn f → All (IsOwn f) (filter_map f ks)
gives_own f [] own = All-nil (IsOwn f)
gives_own f (k ∷ ks) own = by (f k) refl (gives_own f ks own)
  where
    by : (o : Option BalanceRow) → f k ≡ o → All (IsOwn f) (filter_map f ks) → All (IsOwn f) (cons_option o (filter_map f ks))
    by None is rest = rest
    by (Some row) is rest = All-cons (IsOwn f) row (filter_map f ks) (ap f (own k row is) ∙ is) rest

own_again : (f : Place → Option BalanceRow) (rows : List BalanceRow) → All (IsOwn f) rows → filter_map f (map row_place rows) ≡ rows
own_again f [] all = refl
own_again f (row ∷ rows) all =
    ap (λ (o : Option BalanceRow). cons_option o (filter_map f (map row_place rows))) (All-head (IsOwn f) row rows all)
    ∙ ap (λ (rs : List BalanceRow). row ∷ rs) (own_again f rows (All-tail (IsOwn f) row rows all))

place_among : (rows : List BalanceRow) (row : BalanceRow) → Contains rows row → IsAmong (row_place row) (map row_place rows)
place_among [] row (k, within, at) = absurd (omega (arith, within))
place_among (r ∷ rows) row (zero, within, at) = inl (ap row_place at)
place_among (r ∷ rows) row (suc k, within, at) = inr (place_among rows row (k, omega (arith, within), at))

unopened_rows : (openings : List Opening) (p : List DepRecord) (ks : List Place) → filter_map (unopened_row openings p) ks ≡ filter_map (balance_row openings p) (filter (is_other openings) ks)
unopened_rows openings p [] = refl
unopened_rows openings p (k ∷ ks) = by (is_opened openings k) (unopened_rows openings p ks)
  where
    by : (b : Bool) → filter_map (unopened_row openings p) ks ≡ filter_map (balance_row openings p) (filter (is_other openings) ks)
        → cons_option (if b then None else balance_row openings p k) (filter_map (unopened_row openings p) ks)
        ≡ filter_map (balance_row openings p) (if not b then k ∷ filter (is_other openings) ks else filter (is_other openings) ks)
    by true same = same
    by false same = ap (cons_option (balance_row openings p k)) same

-- the rows of the named places, in order, are the balances
pub rows_in_order : (s : Stock) (openings : List Opening) (p : List DepRecord) (rows sorted : List BalanceRow) → IsStockOf s p → AreNamedRows openings s p rows
    → IsPermutation rows sorted → IsSortedByKey row_place place_cmp sorted → sorted ≡ balance_rows openings p
rows_in_order s openings p rows sorted stock named moved order =
    let f : Place → Option BalanceRow = balance_row openings p in
    let own : GivesOwn f = own_row openings p in
    let places : List Place = places_of openings s in
    let ks : List Place = map row_place sorted in
    let are : rows ≡ filter_map f places =
    named.rows_are ∙ ap (λ (rs : List BalanceRow). filter_map f (map opened_place openings) ++ rs) (unopened_rows openings p (keys s.moved))
    ∙ sym (filter_map-append f (map opened_place openings) (filter (is_other openings) (keys s.moved))) in
    let apart : IsDistinct place_eq (map row_place rows) =
    subst (λ (rs : List BalanceRow). IsDistinct place_eq (map row_place rs)) (sym are) (rows_distinct f places own (places_distinct openings s named.opened_once named.moved_once)) in
    let distinct = IsDistinct-IsPermutation place_eq place_equivalence.symm (map row_place rows) ks (IsPermutation-map row_place rows sorted moved) apart in
    let given = All-permutation (IsOwn f) rows sorted moved (subst (λ (rs : List BalanceRow). All (IsOwn f) rs) (sym are) (gives_own f places own)) in
    sym (own_again f sorted given)
    ∙ same_rows f ks (stock_places openings p) (rows_rise sorted order distinct) (places_sorted openings p)
    (λ q row is in'. by_row openings p (stock_places openings p) q row is (λ a issue held. held_place openings p a issue held))
    (λ q row is in'.
    let there : IsAmong q places = by_row openings p places q row is (λ a issue held. named_place s openings p a issue stock held) in
    let here = subst (λ (rs : List BalanceRow). Contains rs row) (sym are) (row_among f places q row there is) in
    subst (λ (k : Place). IsAmong k ks) (own q row is) (place_among sorted row (Contains-permutation rows sorted row moved here)))
