-- The issues that orders name, each once and in order: they are the keys of the sums by issue, in order.
use Rattle.std.proofs.Common.{◌≡◌, ℕ, suc, Bool, List, [], ◌∷◌, Option, Some, nat_eq, refl, sym, ap, ◌∙◌, arith}
use Rattle.std.specs.Prelude.{fold, ◌==◌, ◌||◌}
use Rattle.std.specs.BTreeSet.{insert_key}
use Rattle.std.specs.Cmp.{nat_cmp_total}
use Rattle.std.specs.List.{IsDistinct, list_any}
use Rattle.std.specs.List.Sorted.{IsPermutation, IsSorted, IsStrictlySortedBy}
use Rattle.std.specs.Ordering.{is_eq, nat_cmp}
use Rattle.std.proofs.lemmas.Bool.Decides.{nat_tests}
use Rattle.std.proofs.lemmas.List.Folds.{list_any-append}
use Rattle.std.proofs.lemmas.List.Sorted.{IsNonDecreasingBy-from_sort, list_any-IsPermutation}
use Rattle.std.proofs.lemmas.Map.Keys.{IsDistinct-IsPermutation, IsStrictlyIncreasing-from_distinct, sorted_from_strictly_increasing}
use Rattle.std.proofs.lemmas.Map.Lookups.{btree_set_from_contains, exact_unsigned}
use Rattle.cns_ids.proofs.ListLemmas.{list_any-insert_key, nat_eq-sym, sorted-insert_key}
use Rattle.cns_ids.specs.declared.cycle.CycleId.{CycleId}
use Rattle.cns_movements.specs.Book.{Orders, with_asks}
use Rattle.cns_movements.specs.Order.{numbered, order_of}
use Rattle.cns_movements.specs.declared.order.Ask.{Ask}
use Rattle.cns_movements.specs.declared.order.Order.{Order}
use Rattle.cns_clearing.specs.Pools.{issues_of}
use Rattle.cns_clearing.specs.PoolSums.{asks_for, is_named}

-- ---- numbers in order

-- whether a number is one of some
abbrev is_in : ℕ → List ℕ → Bool
is_in n ns = list_any (λ m. is_eq (nat_cmp n m)) ns

-- one more is the one that is there besides
in_inserted : (i k : ℕ) (ns : List ℕ) → is_in i (insert_key nat_cmp ns k) ≡ (is_eq (nat_cmp i k) || is_in i ns)
in_inserted i k ns = list_any-insert_key nat_cmp (λ m. is_eq (nat_cmp i m)) k ns (λ x e. grind (arith, nat_tests))

-- ---- the issues of orders

-- the issues of orders beside others
abbrev with_issues : List ℕ → List Order → List ℕ
with_issues issues orders = fold (λ is (o : Order). insert_key nat_cmp is o.issue) issues orders

-- they stand in order, each once, where the others do
sorted_issues : (issues : List ℕ) (orders : List Order) → IsStrictlySortedBy nat_cmp issues → IsStrictlySortedBy nat_cmp (with_issues issues orders)
sorted_issues issues [] sorted = sorted
sorted_issues issues (o ∷ orders) sorted = sorted_issues (insert_key nat_cmp issues o.issue) orders (sorted-insert_key nat_cmp_total o.issue issues sorted)

-- they are the others and those that the orders name
in_issues : (i : ℕ) (issues : List ℕ) (orders : List Order) → is_in i (with_issues issues orders) ≡ (is_in i issues || is_named i orders)
in_issues i issues [] = grind arith
in_issues i issues (o ∷ orders) = grind (arith, nat_tests, in_issues i (insert_key nat_cmp issues o.issue) orders, in_inserted i o.issue issues)

-- what is found among numbers, by either test
found_alike : (i : ℕ) (ns : List ℕ) → is_in i ns ≡ list_any (nat_eq i) ns
found_alike i [] = refl
found_alike i (n ∷ ns) = grind (arith, nat_tests, found_alike i ns)

-- keys that are the issues which orders name, each once, are in order the list of these
pub issues_by_keys : (keys sorted : List ℕ) (orders : List Order) → IsDistinct nat_eq keys → ((i : ℕ) → list_any (nat_eq i) keys ≡ is_named i orders)
    → IsPermutation keys sorted → IsSorted nat_cmp sorted → sorted ≡ issues_of orders
unfolding issues_of IsStrictlySortedBy
issues_by_keys keys sorted orders distinct named moved order =
    btree_set_from_contains nat_cmp_total (record { keys = sorted }) (record { keys = issues_of orders })
    (sorted_from_strictly_increasing sorted (IsStrictlyIncreasing-from_distinct sorted (IsNonDecreasingBy-from_sort (λ n. n) sorted order) (IsDistinct-IsPermutation nat_eq nat_eq-sym keys sorted moved distinct)))
    (sorted_issues [] orders tt)
    (λ i. found_alike i sorted ∙ sym (list_any-IsPermutation (nat_eq i) keys sorted moved) ∙ named i ∙ sym (in_issues i [] orders))
    exact_unsigned

-- ---- as orders are added and confirmed

-- new orders name what the asks for them name
numbered_named : (n i : ℕ) (cycle : Option CycleId) (asks : List Ask) → is_named i (numbered n cycle asks) ≡ asks_for i asks
numbered_named n i cycle [] = refl
numbered_named n i cycle (a ∷ asks) = ap (λ b. (a.issue == i) || b) (numbered_named (suc n) i cycle asks)

-- so more orders name that besides
pub named_ordered : (book : Orders) (cycle : Option CycleId) (asks : List Ask) (i : ℕ) → is_named i (with_asks book cycle asks).orders ≡ (is_named i book.orders || asks_for i asks)
named_ordered book cycle asks i = list_any-append (λ (o : Order). o.issue == i) book.orders _ ∙ ap (λ b. is_named i book.orders || b) (numbered_named _ i cycle asks)

-- the issue of an order is named
pub order_named : (orders : List Order) (n i : ℕ) (o : Order) → order_of orders n ≡ Some o → ((o.issue == i) || is_named i orders) ≡ is_named i orders
order_named [] n i o found = cc found
order_named (x ∷ orders) n i o found = grind (arith, order_named orders n i o)
