-- Each balance other than 0 has its row, and the rows ascend.
use Rattle.std.proofs.Common.{⊎_elim, ◌≡◌, ℕ, ◌+◌, ◌<◌, length, take, get_or, false, List, [], ◌∷◌, ◌++◌, Option, Some, None, eqb, refl, sym, ap, ◌∙◌, subst, arith, inl, inr}
use Rattle.std.specs.Prelude.{◌≢◌, ◌⊎◌, ◌&&◌, fold, map}
use Rattle.std.specs.List.{cons_option, filter_map, Contains, AllByRecursion, IsDistinct}
use Rattle.std.specs.List.Sorted.{IsStrictlySortedBy}
use Rattle.std.specs.declared.cmp.Ordering.TheVariants.{Less, Greater}
use Rattle.std.specs.BTreeSet.{insert_key}
use Rattle.std.proofs.lemmas.Bool.{and_parts, cases_Bool, cases_eq, eqb-true, ne_eqb}
use Rattle.std.proofs.lemmas.Option.{none-some, same_Some}
use Rattle.std.proofs.lemmas.List.{map_push, take_more}
use Rattle.std.proofs.lemmas.List.Elements.{Contains-append_left, Contains-append_right, Contains-push, filter_map-append}
use Rattle.std.proofs.lemmas.Map.Keys.{IsDistinct-cons, IsDistinct-head, IsDistinct-tail}
use Rattle.std.proofs.lemmas.List.Sums.{sum_by-cons}
use Rattle.cns_records.specs.declared.dep_record.DepRecord.{DepRecord}
use Rattle.cns_trades.specs.declared.opening.Opening.{Opening}
use Rattle.cns_depository.specs.declared.account.Account.{Account}
use Rattle.cns_depository.specs.declared.account.Account.TheVariants.{Cns, Member}
use Rattle.cns_depository.specs.declared.account.Side.{Side}
use Rattle.cns_depository.specs.declared.account.Side.TheVariants.{Outside, At}
use Rattle.cns_depository.specs.declared.place.Place.{Place}
use Rattle.cns_depository.specs.declared.balances.BalanceRow.{BalanceRow}
use Rattle.cns_depository.specs.Account.{same_side}
use Rattle.cns_depository.specs.Openings.{is_opening_of, opening_shares}
use Rattle.cns_depository.specs.Places.{opened_place}
use Rattle.cns_depository.specs.Totals.{place_eq}
use Rattle.cns_depository.specs.Stock.{balance_of, brought_to, moved_in, part_in, transfer_of}
use Rattle.cns_depository.specs.Balances.{side_row, place_cmp, stock_places, balance_row, balance_rows, row_place, AreComplete, AreAscending}
use Rattle.cns_depository.proofs.MovementLemmas.{equal_sides}
use Rattle.cns_depository.proofs.OpeningLemmas.{opening_is, shares_other}
use Rattle.cns_depository.proofs.PlaceLemmas.{by_order, place_total, same_place}

-- a place is one of these
abbrev pub IsAmong : Place → List Place → Type 0
IsAmong q [] = ⊥
IsAmong q (x ∷ xs) = (x ≡ q) ⊎ IsAmong q xs

-- a place that is inserted, and those that were there
insert_keeps : (ks : List Place) (k q : Place) → IsAmong q ks → IsAmong q (insert_key place_cmp ks k)
insert_keeps [] k q in' = absurd in'
insert_keeps (x ∷ xs) k q in' = by_order (place_cmp k x) (λ e. rw e (inr in')) (λ e. rw e in') (λ e. rw e (⊎_elim inl (λ more. inr (insert_keeps xs k q more)) in'))

insert_has : (ks : List Place) (k : Place) → IsAmong k (insert_key place_cmp ks k)
insert_has [] k = inl refl
insert_has (x ∷ xs) k = by_order (place_cmp k x) (λ e. rw e (inl refl)) (λ e. rw e (inl (sym (same_place k x e)))) (λ e. rw e (inr (insert_has xs k)))

-- places with the one that an opening names, and with those that a record names, each once, ascending
abbrev with_opening : List Place → Opening → List Place
with_opening ps o = insert_key place_cmp ps (record { issue = o.issue; side = At (Member o.member) })

abbrev with_record : List Place → DepRecord → List Place
with_record ps e = let t = transfer_of e in insert_key place_cmp (insert_key place_cmp ps (record { issue = t.issue; side = t.giver })) (record { issue = t.issue; side = t.receiver })

-- the places of openings
opened_keeps : (os : List Opening) (ps : List Place) (q : Place) → IsAmong q ps → IsAmong q (fold with_opening ps os)
opened_keeps [] ps q in' = in'
opened_keeps (o ∷ os) ps q in' = opened_keeps os (with_opening ps o) q (insert_keeps ps _ q in')

opened_has : (os : List Opening) (ps : List Place) (m i : ℕ) → opening_shares os (Member m) i ≢ 0 → IsAmong (record { issue = i; side = At (Member m) }) (fold with_opening ps os)
opened_has [] ps m i held = absurd (held refl)
opened_has (o ∷ os) ps m i held = ⊎_elim (λ its. let is = opening_is o m i its in
    opened_keeps os (with_opening ps o) _ (subst (λ (q : Place). IsAmong q (with_opening ps o)) (λ j. record { issue = is.1 j; side = At (Member (is.0 j)) }) (insert_has ps _)))
    (λ other. opened_has os (with_opening ps o) m i (λ none. held (shares_other o os m i other ∙ none))) (cases_Bool (is_opening_of m i o))

-- the places of records
record_keeps : (ps : List Place) (e : DepRecord) (q : Place) → IsAmong q ps → IsAmong q (with_record ps e)
record_keeps ps e q in' = insert_keeps _ _ q (insert_keeps ps _ q in')

opening_place : (openings : List Opening) (p : List DepRecord) (a : Account) (i : ℕ) → opening_shares openings a i ≢ 0 → IsAmong (record { issue = i; side = At a }) (stock_places openings p)
unfolding stock_places
opening_place openings [] Cns i held = absurd (held refl)
opening_place openings [] (Member m) i held = opened_has openings [] m i held
opening_place openings (e ∷ p) a i held = record_keeps (stock_places openings p) e _ (opening_place openings p a i held)

moved_place : (openings : List Opening) (p : List DepRecord) (a : Account) (i : ℕ) → moved_in p a i ≢ 0 → IsAmong (record { issue = i; side = At a }) (stock_places openings p)
unfolding stock_places brought_to
moved_place openings [] a i held = absurd (held refl)
moved_place openings (e ∷ p) a i held =
    let t = transfer_of e in
    let ps = stock_places openings p in
    ⊎_elim (λ its.
    let both = and_parts (same_side t.receiver (At a)) (eqb t.issue i) its in
    let to = equal_sides t.receiver (At a) both.0 in
    let at = eqb-true t.issue i both.1 in
    subst (λ (q : Place). IsAmong q (with_record ps e)) (λ j. record { issue = at j; side = to j }) (insert_has (insert_key place_cmp ps (record { issue = t.issue; side = t.giver })) _))
    (λ other.
    let none : part_in (At a) i t ≡ 0 = rw other refl in
    record_keeps ps e _ (moved_place openings p a i (λ z. held (omega (arith, sum_by-cons (λ (x : DepRecord). part_in (At a) i (transfer_of x)) e p, none, z)))))
    (cases_Bool (same_side t.receiver (At a) && eqb t.issue i))

-- a balance other than 0 is of a place that is named
pub held_place : (openings : List Opening) (p : List DepRecord) (a : Account) (i : ℕ) → balance_of openings p a i ≢ 0 → IsAmong (record { issue = i; side = At a }) (stock_places openings p)
unfolding balance_of
held_place openings p a i held =
    ⊎_elim (λ none. moved_place openings p a i (λ z. held (omega (arith, none, z)))) (opening_place openings p a i) (cases_eq (opening_shares openings a i) 0)

-- a place gives no row, or one
pub row_cases : {P : Type 0} (found : Option BalanceRow) → (found ≡ None → P) → ((row : BalanceRow) → found ≡ Some row → P) → P
row_cases None none some = none refl
row_cases (Some row) none some = some row refl

-- the row that a place gives is among the rows
pub row_among : (f : Place → Option BalanceRow) (ks : List Place) (q : Place) (row : BalanceRow) → IsAmong q ks → f q ≡ Some row → Contains (filter_map f ks) row
row_among f [] q row in' is = absurd in'
row_among f (x ∷ xs) q row (inl e) is = rw (ap f e ∙ is) (Contains-append_left (row ∷ []) (filter_map f xs) row (Contains-push [] row))
row_among f (x ∷ xs) q row (inr more) is =
    let rest = row_among f xs q row more is in row_cases (f x) (λ e. rw e rest) (λ y e. rw e (Contains-append_right (y ∷ []) (filter_map f xs) row rest))

held_row : (openings : List Opening) (p : List DepRecord) (a : Account) (i : ℕ) → balance_of openings p a i ≢ 0
    → balance_row openings p (record { issue = i; side = At a }) ≡ Some (record { issue = i; account = a; shares = balance_of openings p a i })
unfolding balance_row
held_row openings p a i held = rw (ne_eqb (balance_of openings p a i) 0 held) refl

-- each balance other than 0 has its row
pub rows_complete : (openings : List Opening) (p : List DepRecord) → AreComplete openings p (balance_rows openings p)
rows_complete openings p a i held =
    row_among (balance_row openings p) (stock_places openings p) _ (record { issue = i; account = a; shares = balance_of openings p a i }) (held_place openings p a i held)
    (held_row openings p a i held)

-- what stands after a place stands after one before it
all_after : (k x : Place) (xs : List Place) → place_cmp k x ≡ Less → AllByRecursion (λ y. place_cmp x y ≡ Less) xs → AllByRecursion (λ y. place_cmp k y ≡ Less) xs
all_after k x [] below after = tt
all_after k x (y ∷ ys) below after = (place_total.trans k x y below after.0, all_after k x ys below after.1)

all_insert : (x k : Place) (xs : List Place) → place_cmp x k ≡ Less → AllByRecursion (λ y. place_cmp x y ≡ Less) xs → AllByRecursion (λ y. place_cmp x y ≡ Less) (insert_key place_cmp xs k)
all_insert x k [] below after = (below, tt)
all_insert x k (y ∷ ys) below after = by_order (place_cmp k y) (λ e. rw e (below, after)) (λ e. rw e after) (λ e. rw e (after.0, all_insert x k ys below after.1))

pub above : (k x : Place) → place_cmp k x ≡ Greater → place_cmp x k ≡ Less
above k x e = let back = place_total.antisymm x k in rw (back, e) refl

-- an insertion keeps the order
sorted_insert : (xs : List Place) (k : Place) → IsStrictlySortedBy place_cmp xs → IsStrictlySortedBy place_cmp (insert_key place_cmp xs k)
unfolding IsStrictlySortedBy
sorted_insert [] k sorted = (tt, tt)
sorted_insert (x ∷ xs) k sorted = by_order (place_cmp k x) (λ e. rw e ((e, all_after k x xs e sorted.0), sorted)) (λ e. rw e sorted)
    (λ e. rw e (all_insert x k xs (above k x e) sorted.0, sorted_insert xs k sorted.1))

opened_sorted : (os : List Opening) (ps : List Place) → IsStrictlySortedBy place_cmp ps → IsStrictlySortedBy place_cmp (fold with_opening ps os)
opened_sorted [] ps sorted = sorted
opened_sorted (o ∷ os) ps sorted = opened_sorted os (with_opening ps o) (sorted_insert ps _ sorted)

pub places_sorted : (openings : List Opening) (p : List DepRecord) → IsStrictlySortedBy place_cmp (stock_places openings p)
unfolding stock_places IsStrictlySortedBy
places_sorted openings [] = opened_sorted openings [] tt
places_sorted openings (e ∷ p) = sorted_insert _ _ (sorted_insert (stock_places openings p) _ (places_sorted openings p))

-- a place gives a row of its own
abbrev pub GivesOwn : (Place → Option BalanceRow) → Type 0
GivesOwn f = (k : Place) (row : BalanceRow) → f k ≡ Some row → row_place row ≡ k

-- what holds of each place holds of those of the rows
rows_all : (f : Place → Option BalanceRow) (P : Place → Type 0) (ks : List Place) → GivesOwn f → AllByRecursion P ks → AllByRecursion P (map row_place (filter_map f ks))
rows_all f P [] own all = tt
rows_all f P (k ∷ ks) own all = row_cases (f k) (λ none. rw none (rows_all f P ks own all.1)) (λ row is. rw is (subst P (sym (own k row is)) all.0, rows_all f P ks own all.1))

rows_sorted : (f : Place → Option BalanceRow) (ks : List Place) → GivesOwn f → IsStrictlySortedBy place_cmp ks → IsStrictlySortedBy place_cmp (map row_place (filter_map f ks))
unfolding IsStrictlySortedBy
rows_sorted f [] own sorted = tt
rows_sorted f (k ∷ ks) own sorted = row_cases (f k) (λ none. rw none (rows_sorted f ks own sorted.1))
    (λ row is. rw is (subst (λ (x : Place). AllByRecursion (λ y. place_cmp x y ≡ Less) (map row_place (filter_map f ks))) (sym (own k row is)) (rows_all f (λ y. place_cmp k y ≡ Less) ks own sorted.0), rows_sorted f ks own sorted.1))

pub own_row : (openings : List Opening) (p : List DepRecord) → GivesOwn (balance_row openings p)
unfolding balance_row
own_row openings p k row is = by k.side is
  where
    by : (s : Side) → side_row openings p s k.issue ≡ Some row → row_place row ≡ record { issue = k.issue; side = s }
    by Outside is = absurd (none-some row is)
    by (At a) is = ⊎_elim (λ none. absurd (none-some row (rw none at is))) (λ some. ap row_place (sym (same_Some _ row (rw some at is)))) (cases_Bool (eqb (balance_of openings p a k.issue) 0))

-- the rows of places that differ are of places that differ
pub rows_distinct : (f : Place → Option BalanceRow) (ks : List Place) → GivesOwn f → IsDistinct place_eq ks → IsDistinct place_eq (map row_place (filter_map f ks))
rows_distinct f [] own distinct = distinct
rows_distinct f (k ∷ ks) own distinct =
    let head = IsDistinct-head place_eq k ks distinct in
    let tail = rows_distinct f ks own (IsDistinct-tail place_eq k ks distinct) in
    row_cases (f k) (λ none. rw none tail)
    (λ row is. rw is (IsDistinct-cons place_eq (row_place row) (map row_place (filter_map f ks))
    (subst (λ (x : Place). AllByRecursion (λ y. place_eq x y ≡ false) (map row_place (filter_map f ks))) (sym (own k row is)) (rows_all f (λ y. place_eq k y ≡ false) ks own head)) tail))

-- a row and those that follow
pub one_more : {X : Type 0} (found : Option X) (rest : List X) → cons_option found [] ++ rest ≡ cons_option found rest
one_more None rest = refl
one_more (Some x) rest = refl

-- one row more, where the next opening has one
pub opened_more : (f : Place → Option BalanceRow) (os : List Opening) (i : ℕ) (d : Opening) → i < length os
    → filter_map f (map opened_place (take (i + 1) os)) ≡ filter_map f (map opened_place (take i os)) ++ cons_option (f (opened_place (get_or os i d))) []
opened_more f os i d within =
    ap (λ (xs : List Opening). filter_map f (map opened_place xs)) (take_more os i d within) ∙ ap (filter_map f) (map_push opened_place (take i os) (get_or os i d))
    ∙ filter_map-append f (map opened_place (take i os)) (opened_place (get_or os i d) ∷ [])

-- the rows stand by issue, then account
pub rows_ascend : (openings : List Opening) (p : List DepRecord) → AreAscending (balance_rows openings p)
rows_ascend openings p = rows_sorted (balance_row openings p) (stock_places openings p) (own_row openings p) (places_sorted openings p)
