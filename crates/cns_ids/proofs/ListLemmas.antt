-- Lists of any elements, and the numbers, tests, options and look-ups beside them: what std does not have.
use Rattle.std.proofs.Common.{◌≡◌, ◌≤◌, ◌<◌, ◌+◌, ◌-◌, ◌⊎◌, ℕ, zero, suc, List, [], ◌∷◌, ◌++◌, length, map, take, drop, get_or, slice_set, replicate, Option, Some, None, Bor, Bool, true, false, not, cond, ap, refl, sym, subst, arith, inl, inr, ◌∙◌, append_assoc, leb, ltb, leb-true, Ordering, Less, Equal, Greater}
use Rattle.std.specs.Prelude.{◌==◌, ◌&&◌, ◌||◌, nat_le, if◌then◌else◌, slice_get, All, AllPairs, IsPermutation, IfSome, MatchOption, count_by, filter, find, insert, option_and_then, option_map, position, sum_by}
use Rattle.std.specs.BTreeSet.{insert_key}
use Rattle.std.specs.Cmp.{IsEquivalence, IsTotalOrder}
use Rattle.std.specs.List.{AllByRecursion, AllZip, Contains, IsDistinct, cons_option, filter_map, list_any, remove}
use Rattle.std.specs.List.Sorted.{IsNonDecreasingBy, IsPartitionPoint, IsSortedByKey, IsStrictlySortedBy}
use Rattle.std.specs.Map.{keys_of, lookup}
use Rattle.std.specs.Option.{option_copied}
use Rattle.std.specs.Ordering.{is_lt, match_ordering, ordering_reverse}
use Rattle.std.specs.Slice.{IsItemAt}
use Rattle.std.proofs.lemmas.Bool.{and_parts, cases_lt, cond-false, cond-true, eq-eqb, eqb-true, false_from_ne_true, ltb-false, ltb-true, or_parts, true≢false}
use Rattle.std.proofs.lemmas.Bool.Decides.{nat_tests}
use Rattle.std.proofs.lemmas.List.{drop-drop, drop_more, get_or-drop, get_or-set_other, get_or-set_same, get_or_append_left, get_or_push, length-drop, take-append-drop, take_rest}
use Rattle.std.proofs.lemmas.List.Elements.{All-append, All-contains_itself, All-cons, All-filter, All-from_recursion, All-head, All-nil, All-tail, All-weaker, filter_passes, recursion_from_All}
use Rattle.std.proofs.lemmas.List.Filters.{length-filter_both, sum_by-filter_both}
use Rattle.std.proofs.lemmas.List.Kept.{AllPairs-cons}
use Rattle.std.proofs.lemmas.List.Sorted.{IsNonDecreasingBy-drop, IsNonDecreasingBy-take, IsPermutation-append_comm, IsPermutation-append_left, IsPermutation-append_right}
use Rattle.std.proofs.lemmas.List.Sums.{length-filter, sum_by-cons, sum_by-le}
use Rattle.std.proofs.lemmas.Map.Keys.{IsDistinct-head, IsDistinct-tail}
use Rattle.std.proofs.lemmas.Map.Views.{All-insert_key, lookup-from_Contains}
use Rattle.std.proofs.lemmas.Option.{slice_get_past, slice_get_read}

-- ---- numbers under a test

-- a number that counts where a test passes is at most itself
pub at_most : (b : Bool) (n : ℕ) → (if b then n else 0) ≤ n
at_most b n = grind arith

-- nothing counts for nothing
pub either_none : (b : Bool) (q : ℕ) → q ≡ 0 → (if b then q else 0) ≡ 0
either_none b q none = grind arith

-- a number counts where a test passes or where it fails
pub either-other : (b : Bool) (q : ℕ) → (if b then q else 0) + (if b then 0 else q) ≡ q
either-other b q = grind arith

-- what counts where x passes counts no less where y does, if y passes where x does
pub share_grows : (x y : Bool) (q : ℕ) → (x ≡ true → y ≡ true) → (if x then q else 0) ≤ (if y then q else 0)
share_grows x y q f = grind (arith, f)

-- two pairs of numbers that are found the same are
pub same_place : (k m j i : ℕ) → ((k == m) && (j == i)) ≡ true → (k ≡ m) × (j ≡ i)
same_place k m j i h = let both = and_parts _ _ h in (eqb-true k m both.0, eqb-true j i both.1)

-- two numbers are found the same either way round
pub nat_eq-sym : (a b : ℕ) → (a == b) ≡ (b == a)
nat_eq-sym a b = grind (arith, nat_tests)

-- ---- options

-- what holds of whatever may be there
IfSome_from : {X : Type 0} (P : X → Type 0) (o : Option X) → ((x : X) → o ≡ Some x → P x) → IfSome o P
IfSome_from P None each = tt
IfSome_from P (Some x) each = each x refl

-- what is there where a number is at most another is there where it is
pub some_within : {X : Type 0} (n most : ℕ) (x : X) (answer : Option X) → n ≤ most → answer ≡ (if nat_le n most then Some x else None) → answer ≡ None → ⊥
some_within n most x answer le is none = grind (arith, nat_tests)

-- ---- elements by their places

-- an element that is read at a place, and those behind it
pub drop_read : {X : Type 0} (xs : List X) (i : ℕ) (x : X) → i < length xs → x ≡ get_or xs i x → drop i xs ≡ x ∷ drop (i + 1) xs
drop_read xs i x below is = drop_more xs i x below ∙ ap (λ y. y ∷ drop (i + 1) xs) (sym is)

-- the n elements from a place on, and those behind them
pub drop-add : {X : Type 0} (m n : ℕ) (xs : List X) → drop m xs ≡ take n (drop m xs) ++ drop (m + n) xs
drop-add m n xs = sym (take-append-drop n (drop m xs)) ∙ ap (λ ys. take n (drop m xs) ++ ys) (drop-drop n m xs)

-- each place of a list, once one is written
pub get_or-set : {X : Type 0} (xs : List X) (at : ℕ) (value d : X) (m : ℕ) → at < length xs → get_or (slice_set xs at value) m d ≡ cond (m == at) value (get_or xs m d)
get_or-set xs at value d m within = grind (arith, nat_tests, get_or-set_same xs at value d within, get_or-set_other xs at m value d)

-- a list that has nothing but what it gives past its end
pub get_or-replicate_default : {X : Type 0} (n m : ℕ) (d : X) → get_or (replicate n d) m d ≡ d
get_or-replicate_default zero m d = refl
get_or-replicate_default (suc n) zero d = refl
get_or-replicate_default (suc n) (suc m) d = get_or-replicate_default n m d

-- what is read at a place is the element there
pub read_copied : {X : Type 0} (xs : List X) (i : ℕ) (r : Option (Bor X)) → IsItemAt xs i r → option_copied r ≡ slice_get xs i
read_copied xs i None is = sym (slice_get_past xs i is.3)
read_copied xs i (Some x) is = sym (slice_get_read xs (length xs) i x.now refl is.3.0 is.1)

-- what holds of each place and its element holds with one element more
pub places_push : {X : Type 0} (P : ℕ → X → Type 0) (xs : List X) (x : X) (n : ℕ) → length xs ≡ n → ((i : ℕ) (d : X) → i < n → P i (get_or xs i d)) → P n x
    → (i : ℕ) (d : X) → i < n + 1 → P i (get_or (xs ++ x ∷ []) i d)
places_push P xs x n count each last i d less = by (cases_lt i n)
  where
    by : (i < n) ⊎ (n ≤ i) → P i (get_or (xs ++ x ∷ []) i d)
    by (inl before) = let at : i < length xs = omega arith in rw (get_or_append_left xs (x ∷ []) d i at) (each i d before)
    by (inr upto) =
        let at : length xs ≡ i = omega arith in
        let same : n ≡ i = omega arith in
        rw (get_or_push xs x d i at) (subst (λ j. P j x) same last)

-- an element is removed behind the first n
pub drop-remove : {X : Type 0} (n k : ℕ) (xs : List X) → n ≤ length xs → drop n (remove xs (n + k)) ≡ remove (drop n xs) k
drop-remove zero k xs within = let same : zero + k ≡ k = omega arith in ap (remove xs) same
drop-remove (suc n) k [] within = absurd (omega arith)
drop-remove (suc n) k (x ∷ xs) within =
    let next : suc n + k ≡ suc (n + k) = omega arith in ap (λ j. drop (suc n) (remove (x ∷ xs) j)) next ∙ drop-remove n k xs (omega arith)

-- a list of which no element may be
pub nil_from_none : {X : Type 0} (xs : List X) → All (λ x. ⊥) xs → xs ≡ []
nil_from_none [] none = refl
nil_from_none (x ∷ xs) none = absurd (none 0 x (omega arith))

-- ---- elements in pairs

module _ {X : Type 0} (R : X → X → Type 0) (x : X) (xs : List X) (all : AllPairs R (x ∷ xs)) where
  -- the first is related to each later one
  pub AllPairs-head : All (R x) xs
  AllPairs-head k d below = all 0 (suc k) d (omega arith) (omega (arith, below))

  -- and the later ones in pairs
  pub AllPairs-tail : AllPairs R xs
  AllPairs-tail i j d less below = all (suc i) (suc j) d (omega (arith, less)) (omega (arith, below))

-- elements in order of a number up to r, and then elements in order of one from r on
pub AllPairs-append_by : {X : Type 0} (n : X → ℕ) (r : ℕ) (xs ys : List X) → AllPairs (λ x y. n x ≤ n y) xs → All (λ x. n x ≤ r) xs → AllPairs (λ x y. n x ≤ n y) ys
    → All (λ y. r ≤ n y) ys → AllPairs (λ x y. n x ≤ n y) (xs ++ ys)
AllPairs-append_by n r [] ys first upto later from = later
AllPairs-append_by n r (x ∷ xs) ys first upto later from =
    let here = All-head (λ y. n y ≤ r) x xs upto in
    AllPairs-cons (λ y z. n y ≤ n z) x (xs ++ ys)
    (All-append (λ y. n x ≤ n y) xs ys (AllPairs-head (λ y z. n y ≤ n z) x xs first) (All-weaker (λ y. r ≤ n y) (λ y. n x ≤ n y) (λ y le. omega arith) ys from))
    (AllPairs-append_by n r xs ys (AllPairs-tail (λ y z. n y ≤ n z) x xs first) (All-tail (λ y. n y ≤ r) x xs upto) later from)

-- the same where elements of one place are in order too
pub IsNonDecreasingBy-append : {X : Type 0} (n : X → ℕ) (r : ℕ) (xs ys : List X) → IsNonDecreasingBy n xs → All (λ x. n x ≤ r) xs → IsNonDecreasingBy n ys → All (λ y. r ≤ n y) ys
    → IsNonDecreasingBy n (xs ++ ys)
IsNonDecreasingBy-append {X} n r xs ys first upto last from i j d le below = by (cases_lt i j)
  where
    by : (i < j) ⊎ (j ≤ i) → n (get_or (xs ++ ys) i d) ≤ n (get_or (xs ++ ys) j d)
    by (inl less) =
        AllPairs-append_by n r xs ys (λ k l e before within. first k l e (omega arith) within) upto (λ k l e before within. last k l e (omega arith) within) from i j d less below
    by (inr upto_i) = let same : i ≡ j = omega arith in omega (arith, ap (λ k. n (get_or (xs ++ ys) k d)) same)

-- ---- two lists, element by element

module _ {X Y : Type 0} (R : X → Y → Type 0) where
  -- they are as long
  pub AllZip-length : (xs : List X) (ys : List Y) → AllZip R xs ys → length xs ≡ length ys
  AllZip-length [] [] all = refl
  AllZip-length [] (y ∷ ys) all = absurd all
  AllZip-length (x ∷ xs) [] all = absurd all
  AllZip-length (x ∷ xs) (y ∷ ys) all = omega (arith, AllZip-length xs ys all.1)

  -- two more behind them
  pub AllZip-append : (xs us : List X) (ys vs : List Y) → AllZip R xs ys → AllZip R us vs → AllZip R (xs ++ us) (ys ++ vs)
  AllZip-append [] us [] vs first last = last
  AllZip-append [] us (y ∷ ys) vs first last = absurd first
  AllZip-append (x ∷ xs) us [] vs first last = absurd first
  AllZip-append (x ∷ xs) us (y ∷ ys) vs first last = (first.0, AllZip-append xs us ys vs first.1 last)

  -- one more element at a place of each
  pub AllZip-insert : (i : ℕ) (x : X) (y : Y) (xs : List X) (ys : List Y) → i ≤ length xs → R x y → AllZip R xs ys → AllZip R (insert xs i x) (insert ys i y)
  AllZip-insert zero x y xs ys within is all = (is, all)
  AllZip-insert (suc i) x y [] ys within is all = absurd (omega arith)
  AllZip-insert (suc i) x y (u ∷ us) [] within is all = absurd all
  AllZip-insert (suc i) x y (u ∷ us) (v ∷ vs) within is all = (all.0, AllZip-insert i x y us vs (omega arith) is all.1)

-- ---- lists in another order

-- the second and the third of four lists change places
pub IsPermutation-between : {X : Type 0} (ps qs us vs : List X) → IsPermutation ((ps ++ qs) ++ (us ++ vs)) ((ps ++ us) ++ (qs ++ vs))
IsPermutation-between ps qs us vs =
    rw (append_assoc ps qs (us ++ vs), append_assoc ps us (qs ++ vs))
    (IsPermutation-append_right ps (qs ++ (us ++ vs)) (us ++ (qs ++ vs))
    (rw (← append_assoc qs us vs, ← append_assoc us qs vs) (IsPermutation-append_left vs (qs ++ us) (us ++ qs) (IsPermutation-append_comm qs us))))

-- ---- sums

-- a sum of two parts of each element
pub sum_by-plus : {X : Type 0} (f g s : X → ℕ) → ((x : X) → s x ≡ f x + g x) → (xs : List X) → sum_by s xs ≡ sum_by f xs + sum_by g xs
sum_by-plus f g s each [] = refl
sum_by-plus f g s each (x ∷ xs) = omega (arith, each x, sum_by-cons s x xs, sum_by-cons f x xs, sum_by-cons g x xs, sum_by-plus f g s each xs)

-- a sum is at most another where each of its parts is
pub sum_by-most : {X : Type 0} (f g : X → ℕ) (xs : List X) → All (λ x. f x ≤ g x) xs → sum_by f xs ≤ sum_by g xs
sum_by-most f g [] all = omega arith
sum_by-most f g (x ∷ xs) all =
    let here = All-head (λ y. f y ≤ g y) x xs all in
    omega (arith, here, sum_by-cons f x xs, sum_by-cons g x xs, sum_by-most f g xs (All-tail (λ y. f y ≤ g y) x xs all))

-- an element that is there where a test passes
pub either-sum : {X : Type 0} (f : X → ℕ) (b : Bool) (x : X) (xs : List X) → sum_by f (if b then x ∷ xs else xs) ≡ (if b then f x else 0) + sum_by f xs
either-sum f true x xs = sum_by-cons f x xs
either-sum f false x xs = omega arith

-- and one that is there where it fails
pub other-sum : {X : Type 0} (f : X → ℕ) (b : Bool) (x : X) (xs : List X) → sum_by f (if b then xs else x ∷ xs) ≡ (if b then 0 else f x) + sum_by f xs
other-sum f true x xs = omega arith
other-sum f false x xs = sum_by-cons f x xs

-- ---- what passes a test

-- what passes one test and then another passes both
pub filter_twice : {X : Type 0} (p q r : X → Bool) → ((x : X) → r x ≡ (q x && p x)) → (xs : List X) → filter p (filter q xs) ≡ filter r xs
filter_twice p q r each [] = refl
filter_twice p q r each (x ∷ xs) = grind (arith, each x, filter_twice p q r each xs)

-- the first that passes is what is found
pub find-filter : {X : Type 0} (test : X → Bool) (xs : List X) → find test xs ≡ slice_get (filter test xs) 0
find-filter test [] = refl
find-filter test (x ∷ xs) = grind (arith, find-filter test xs)

-- where none passes, each fails
pub list_any-false : {X : Type 0} (test : X → Bool) (xs : List X) → list_any test xs ≡ false → All (λ x. test x ≡ false) xs
list_any-false test [] none = All-nil _
list_any-false test (x ∷ xs) none =
    let parts = or_parts (test x) (list_any test xs) none in
    All-cons (λ y. test y ≡ false) x xs parts.0 (list_any-false test xs parts.1)

-- a sum over those that pass, where the others count for nothing
pub sum_by-filter : {X : Type 0} (number weight : X → ℕ) (test : X → Bool) → ((x : X) → test x ≡ true → number x ≡ weight x) → ((x : X) → test x ≡ false → weight x ≡ 0)
    → (xs : List X) → sum_by number (filter test xs) ≡ sum_by weight xs
sum_by-filter number weight test same others [] = refl
sum_by-filter number weight test same others (x ∷ xs) =
    grind (arith, sum_by-filter number weight test same others xs, same x, others x, sum_by-cons weight x xs, sum_by-cons number x (filter test xs))

-- ---- how many pass a test

-- one more where the first passes
pub count-yes : {X : Type 0} (test : X → Bool) (x : X) (xs : List X) → test x ≡ true → count_by test (x ∷ xs) ≡ suc (count_by test xs)
count-yes test x xs e = grind (arith, sum_by-cons (λ y. cond (test y) 1 0) x xs)

-- and no more where it fails
pub count-no : {X : Type 0} (test : X → Bool) (x : X) (xs : List X) → test x ≡ false → count_by test (x ∷ xs) ≡ count_by test xs
count-no test x xs e = grind (arith, sum_by-cons (λ y. cond (test y) 1 0) x xs)

-- none where the list is found to have none
pub count-none : {X : Type 0} (test : X → Bool) (xs : List X) → list_any test xs ≡ false → count_by test xs ≡ 0
count-none test [] e = refl
count-none test (x ∷ xs) e = grind (arith, count-none test xs, sum_by-cons (λ y. cond (test y) 1 0) x xs)

-- and some where it is found to have some
pub count-some : {X : Type 0} (test : X → Bool) (xs : List X) → list_any test xs ≡ true → 1 ≤ count_by test xs
count-some test [] e = absurd cc
count-some test (x ∷ xs) e = grind (arith, count-some test xs, sum_by-cons (λ y. cond (test y) 1 0) x xs)

-- no more of what another test keeps
pub count_by-filter : {X : Type 0} (p q : X → Bool) (xs : List X) → count_by q (filter p xs) ≤ count_by q xs
count_by-filter p q xs = omega (arith, sum_by-filter_both p (λ x. not (p x)) (λ x. refl) (λ x. cond (q x) 1 0) xs)

-- elements that have different numbers from 1 to n are at most n
pub pigeonhole : {X : Type 0} (f : X → ℕ) (n : ℕ) (xs : List X) → All (λ x. (1 ≤ f x) × (f x ≤ n)) xs → ((number : ℕ) → count_by (λ x. f x == number) xs ≤ 1)
    → length xs ≤ n
pigeonhole f zero [] all once = omega arith
pigeonhole f zero (x ∷ xs) all once = let here = all 0 x (omega arith) in absurd (omega (arith, here.0, here.1))
pigeonhole {X = X} f (suc n) xs all once =
    omega (
      arith,
      once (suc n),
      length-filter last xs,
      length-filter_both last other (λ x. refl) xs,
      pigeonhole f n (filter other xs) below (λ number. omega (arith, once number, count_by-filter other (λ x. f x == number) xs)),
    )
  where
    last : X → Bool
    last x = f x == suc n

    other : X → Bool
    other x = not (last x)

    below : All (λ x. (1 ≤ f x) × (f x ≤ n)) (filter other xs)
    below k d within = (here.0, by (cases_lt (f x) (suc n)))
      where
        x : X
        x = get_or (filter other xs) k d

        here : (1 ≤ f x) × (f x ≤ suc n)
        here = All-filter other (λ y. (1 ≤ f y) × (f y ≤ suc n)) xs all k d within

        by : (f x < suc n) ⊎ (suc n ≤ f x) → f x ≤ n
        by (inl less) = omega (arith, less)
        by (inr least) = absurd (true≢false (sym (filter_passes other xs k d within) ∙ ap not (eq-eqb (f x) (suc n) (omega (arith, least, here.1)))))

-- ---- what is made of each element, where something is

-- what holds of an element that may be there, and of those after it
All-cons_option : {X : Type 0} (P : X → Type 0) (o : Option X) (xs : List X) → IfSome o P → All P xs → All P (cons_option o xs)
All-cons_option P None xs one rest = rest
All-cons_option P (Some x) xs one rest = All-cons P x xs one rest

-- what holds of each element that is made holds of them all
pub All-filter_map : {X Y : Type 0} (f : X → Option Y) (P : X → Type 0) (Q : Y → Type 0) → ((x : X) → P x → IfSome (f x) Q) → (xs : List X) → All P xs → All Q (filter_map f xs)
All-filter_map f P Q each [] all = All-nil Q
All-filter_map f P Q each (x ∷ xs) all =
    All-cons_option Q (f x) (filter_map f xs) (each x (All-head P x xs all)) (All-filter_map f P Q each xs (All-tail P x xs all))

-- and what holds of each pair of them
pub AllPairs-filter_map : {X Y : Type 0} (Q : X → X → Type 0) (R : Y → Y → Type 0) (made : X → Option Y)
    → ((x z : X) (y w : Y) → made x ≡ Some y → made z ≡ Some w → Q x z → R y w) → (xs : List X) → AllPairs Q xs → AllPairs R (filter_map made xs)
AllPairs-filter_map Q R made each [] all = λ i j d less below. absurd (omega (arith, below))
AllPairs-filter_map {X} {Y} Q R made each (x ∷ xs) all = by (made x) refl (AllPairs-filter_map Q R made each xs (AllPairs-tail Q x xs all))
  where
    by : (o : Option Y) → made x ≡ o → AllPairs R (filter_map made xs) → AllPairs R (cons_option o (filter_map made xs))
    by None e rest = rest
    by (Some y) e rest =
        AllPairs-cons R y (filter_map made xs)
        (All-filter_map made (Q x) (R y) (λ z q. IfSome_from (R y) (made z) (λ w later. each x z y w e later q)) xs (AllPairs-head Q x xs all)) rest

-- no more of what is made pass, where it passes only if what it is made of does
pub count_by-filter_map : {X Y : Type 0} (f : X → Option Y) (q : X → Bool) (p : Y → Bool) → ((x : X) → IfSome (f x) (λ y. p y ≡ true → q x ≡ true))
    → (xs : List X) → count_by p (filter_map f xs) ≤ count_by q xs
count_by-filter_map f q p each [] = omega arith
count_by-filter_map {Y = Y} f q p each (x ∷ xs) =
    omega (arith, sum_by-cons (λ y. cond (q y) 1 0) x xs, by (f x) (each x), count_by-filter_map f q p each xs)
  where
    by : (o : Option Y) → IfSome o (λ y. p y ≡ true → q x ≡ true) → count_by p (cons_option o (filter_map f xs)) ≤ cond (q x) 1 0 + count_by p (filter_map f xs)
    by None h = omega arith
    by (Some y) h = omega (arith, sum_by-cons (λ z. cond (p z) 1 0) y (filter_map f xs), share_grows (p y) (q x) 1 h)

-- what is made of those that pass a test is all that is made, where nothing is made of the others
pub filter_map-filter : {X Y : Type 0} (f : X → Option Y) (test : X → Bool) → ((x : X) → test x ≡ false → f x ≡ None) → (xs : List X) → filter_map f (filter test xs) ≡ filter_map f xs
filter_map-filter f test none [] = refl
filter_map-filter f test none (x ∷ xs) = by (test x) refl (filter_map-filter f test none xs)
  where
    by : (b : Bool) → test x ≡ b → filter_map f (filter test xs) ≡ filter_map f xs → filter_map f (cond b (x ∷ filter test xs) (filter test xs)) ≡ cons_option (f x) (filter_map f xs)
    by true e rest = ap (cons_option (f x)) rest
    by false e rest = rw (none x e) rest

-- what is made of an element that may be there
pub filter_map-cons_option : {X Y : Type 0} (f : X → Option Y) (o : Option X) (xs : List X) → filter_map f (cons_option o xs) ≡ cons_option (option_and_then f o) (filter_map f xs)
filter_map-cons_option f None xs = refl
filter_map-cons_option f (Some x) xs = refl

-- ---- the place of the first element that passes a test

-- the place by cases on the list
position-cons : {X : Type 0} (p : X → Bool) (x : X) (xs : List X) → position p (x ∷ xs) ≡ cond (p x) (Some 0) (option_map (λ k. suc k) (position p xs))
position-cons p x xs = grind (arith, nat_tests)

-- what stands at the place is what is found
pub position_found : {X : Type 0} (p : X → Bool) (xs : List X) → MatchOption (position p xs) (find p xs ≡ None) (λ k. (d : X) → find p xs ≡ Some (get_or xs k d))
position_found p [] = refl
position_found {X = X} p (x ∷ xs) = grind (arith, position_found p xs, position-cons p x xs)

-- there is no place where nothing is found
pub position_no : {X : Type 0} (p : X → Bool) (xs : List X) → find p xs ≡ None → position p xs ≡ None
position_no p [] none = refl
position_no p (x ∷ xs) none = grind (arith, position_no p xs, position-cons p x xs)

-- one more at the end is the first that passes where no other did
pub position_push : {X : Type 0} (p : X → Bool) (xs : List X) (y : X) → find p xs ≡ None → p y ≡ true → position p (xs ++ y ∷ []) ≡ Some (length xs)
position_push p [] y none passes = position-cons p y [] ∙ cond-true _ _ _ passes
position_push p (x ∷ xs) y none passes = grind (arith, position_push p xs y, position-cons p x (xs ++ y ∷ []))

-- and where it fails the place stays
pub position_push_other : {X : Type 0} (p : X → Bool) (xs : List X) (y : X) → p y ≡ false → position p (xs ++ y ∷ []) ≡ position p xs
position_push_other p [] y other = position-cons p y [] ∙ cond-false _ _ _ other
position_push_other p (x ∷ xs) y other = rw (position-cons p x xs, position-cons p x (xs ++ y ∷ []), position_push_other p xs y other)

-- the place stays where each element is changed to one that passes as it did
pub position_map : {X : Type 0} (p : X → Bool) (f : X → X) → ((x : X) → p (f x) ≡ p x) → (xs : List X) → position p (map f xs) ≡ position p xs
position_map p f same [] = refl
position_map p f same (x ∷ xs) = rw (position-cons p x xs, position-cons p (f x) (map f xs), same x, position_map p f same xs)

-- and there is none where each is changed to one that fails
pub position_none : {X : Type 0} (p : X → Bool) (f : X → X) → ((x : X) → p (f x) ≡ false) → (xs : List X) → position p (map f xs) ≡ None
position_none p f fails [] = refl
position_none p f fails (x ∷ xs) = rw (position-cons p (f x) (map f xs), fails x, position_none p f fails xs)

-- where none passes, a change of those that pass changes none
map_none : {X : Type 0} (p : X → Bool) (f : X → X) → ((x : X) → p x ≡ false → f x ≡ x) → (xs : List X) → count_by p xs ≡ 0 → map f xs ≡ xs
map_none p f fixed [] none = refl
map_none {X = X} p f fixed (x ∷ xs) none = grind (arith, map_none p f fixed xs, fixed x, sum_by-cons (λ (y : X). cond (p y) 1 0) x xs)

-- and where one does, it is a write at its place
pub map_once : {X : Type 0} (p : X → Bool) (f : X → X) → ((x : X) → p x ≡ false → f x ≡ x) → (xs : List X) → count_by p xs ≤ 1
    → MatchOption (position p xs) (map f xs ≡ xs) (λ k. (d : X) → slice_set xs k (f (get_or xs k d)) ≡ map f xs)
map_once p f fixed [] once = refl
map_once {X = X} p f fixed (x ∷ xs) once =
    rw (position-cons p x xs) (grind (arith, map_once p f fixed xs, map_none p f fixed xs, fixed x, sum_by-cons (λ (y : X). cond (p y) 1 0) x xs))

-- ---- lists in order

-- one more key at its place leaves keys in order
pub sorted-insert_key : {K : Type 0} {R : K → K → Ordering} (o : IsTotalOrder R) (k : K) (ks : List K) → IsStrictlySortedBy R ks → IsStrictlySortedBy R (insert_key R ks k)
unfolding IsStrictlySortedBy
sorted-insert_key o k [] h = (tt, tt)
sorted-insert_key {K} {R} o k (x ∷ xs) h = by (R k x) refl (sorted-insert_key o k xs h.1)
  where
    later : All (λ q. R x q ≡ Less) xs
    later = All-from_recursion (λ q. R x q ≡ Less) xs h.0

    by : (r : Ordering) → R k x ≡ r → IsStrictlySortedBy R (insert_key R xs k) → IsStrictlySortedBy R (match_ordering r (k ∷ x ∷ xs) (x ∷ xs) (x ∷ insert_key R xs k))
    by Less e rest = ((e, recursion_from_All (λ q. R k q ≡ Less) xs (All-weaker (λ q. R x q ≡ Less) (λ q. R k q ≡ Less) (λ q less. o.trans k x q e less) xs later)), h)
    by Equal e rest = h
    by Greater e rest = (recursion_from_All (λ q. R x q ≡ Less) _ (All-insert_key R k (λ q. R x q ≡ Less) xs later (o.antisymm x k ∙ ap ordering_reverse e)), rest)

-- and is found besides those that were there, by a test that answers alike for equal keys
pub list_any-insert_key : {K : Type 0} (R : K → K → Ordering) (test : K → Bool) (k : K) (ks : List K) → ((x : K) → R k x ≡ Equal → test k ≡ test x)
    → list_any test (insert_key R ks k) ≡ (test k || list_any test ks)
list_any-insert_key R test k [] alike = refl
list_any-insert_key {K} R test k (x ∷ xs) alike = by (R k x) refl (list_any-insert_key R test k xs alike)
  where
    by : (r : Ordering) → R k x ≡ r → list_any test (insert_key R xs k) ≡ (test k || list_any test xs)
        → list_any test (match_ordering r (k ∷ x ∷ xs) (x ∷ xs) (x ∷ insert_key R xs k)) ≡ (test k || (test x || list_any test xs))
    by Less e rest = refl
    by Equal e rest = grind (arith, alike x e)
    by Greater e rest = grind (arith, rest)

-- a list in order by one key is so by another that is the same at each of its elements
pub IsSortedByKey-alike : {X K : Type 0} (cmp : K → K → Ordering) (key next : X → K) (xs : List X) → All (λ x. next x ≡ key x) xs → IsSortedByKey key cmp xs → IsSortedByKey next cmp xs
IsSortedByKey-alike cmp key next xs same sorted k d low high =
    let first = same k d (omega (arith, high)) in
    let second = same (k + 1) d high in
    (λ t. is_lt (cmp (second t) (first t))) ∙ sorted k d low high

-- the elements from a place on, as a slice has them
abbrev pub behind : {X : Type 0} → List X → ℕ → List X
behind xs first = take (length xs - first) (drop first xs)

-- they are in order where all are
pub IsNonDecreasingBy-behind : {X : Type 0} (n : X → ℕ) (xs : List X) (first : ℕ) → IsNonDecreasingBy n xs → IsNonDecreasingBy n (behind xs first)
IsNonDecreasingBy-behind n xs first sorted = IsNonDecreasingBy-take n (length xs - first) (drop first xs) (IsNonDecreasingBy-drop n first xs sorted)

module _ {X : Type 0} (n : X → ℕ) (m : ℕ) where
  -- whether an element has the number m
  abbrev has : X → Bool
  has x = n x == m

  -- elements of smaller numbers before others
  after_smaller : (xs : List X) (first : ℕ) → ((k : ℕ) (d : X) → k < first → k < length xs → n (get_or xs k d) < m) → filter has (drop first xs) ≡ filter has xs
  after_smaller [] zero smaller = refl
  after_smaller [] (suc first) smaller = refl
  after_smaller (x ∷ xs) zero smaller = refl
  after_smaller (x ∷ xs) (suc first) smaller =
      let other : has x ≡ false = false_from_ne_true (has x) (λ e. absurd (omega (arith, smaller 0 x (omega arith) (omega arith), eqb-true (n x) m e))) in
      after_smaller xs first (λ k d less below. smaller (suc k) d (omega (arith, less)) (omega (arith, below)))
      ∙ sym (ap (λ (b : Bool). cond b (x ∷ filter has xs) (filter has xs)) other)

  -- none of larger numbers
  none_larger : (xs : List X) → ((k : ℕ) (d : X) → k < length xs → m < n (get_or xs k d)) → filter has xs ≡ []
  none_larger [] larger = refl
  none_larger (x ∷ xs) larger =
      let other : has x ≡ false = false_from_ne_true (has x) (λ e. absurd (omega (arith, larger 0 x (omega arith), eqb-true (n x) m e))) in
      ap (λ (b : Bool). cond b (x ∷ filter has xs) (filter has xs)) other ∙ none_larger xs (λ k d below. larger (suc k) d (omega (arith, below)))

  -- elements of the number, and larger ones behind them
  first_ones : (xs : List X) (count : ℕ) → ((k : ℕ) (d : X) → k < count → k < length xs → n (get_or xs k d) ≡ m)
      → ((k : ℕ) (d : X) → count ≤ k → k < length xs → m < n (get_or xs k d)) → take count xs ≡ filter has xs
  first_ones [] zero same larger = refl
  first_ones [] (suc count) same larger = refl
  first_ones (x ∷ xs) zero same larger = sym (none_larger (x ∷ xs) (λ k d below. larger k d (omega arith) below))
  first_ones (x ∷ xs) (suc count) same larger =
      let one : has x ≡ true = eq-eqb (n x) m (same 0 x (omega arith) (omega arith)) in
      let rest =
      first_ones xs count (λ k d less below. same (suc k) d (omega (arith, less)) (omega (arith, below)))
      (λ k d less below. larger (suc k) d (omega (arith, less)) (omega (arith, below))) in
      ap (λ ys. x ∷ ys) rest
      ∙ sym (ap (λ (b : Bool). cond b (x ∷ filter has xs) (filter has xs)) one)

  -- two searches by halves find the elements of a number in a list in order, the second one behind what the first one found
  pub part_of_number : (xs : List X) (first count : ℕ) → IsPartitionPoint (λ (y : X). ltb (n y) m ≡ true) (λ (y : X). ltb (n y) m ≡ false) xs first
      → IsPartitionPoint (λ (y : X). leb (n y) m ≡ true) (λ (y : X). leb (n y) m ≡ false) (behind xs first) count → take count (behind xs first) ≡ filter (λ (x : X). n x == m) xs
  part_of_number xs first count start found = rw take_rest
      (first_ones (drop first xs) count same (λ k d le below. leb-false_less (n (get_or (drop first xs) k d)) (end.1 k d le below))
      ∙ after_smaller xs first (λ k d less below. ltb-true _ _ (start.0 k d (omega arith) less)))
    where
      end : IsPartitionPoint (λ (y : X). leb (n y) m ≡ true) (λ (y : X). leb (n y) m ≡ false) (drop first xs) count
      end = rw take_rest at found

      leb-false_less : (a : ℕ) → leb a m ≡ false → m < a
      leb-false_less a e = grind (arith, nat_tests)

      same : (k : ℕ) (d : X) → k < count → k < length (drop first xs) → n (get_or (drop first xs) k d) ≡ m
      same k d less below =
          let most : n (get_or (drop first xs) k d) ≤ m = leb-true _ _ (end.0 k d (omega arith) less) in
          let here : get_or (drop first xs) k d ≡ get_or xs (first + k) d = get_or-drop first xs k d in
          let there : m ≤ n (get_or xs (first + k) d) =
          ltb-false _ _ (start.1 (first + k) d (omega arith) (omega (arith, below, length-drop first xs))) in
          omega (arith, most, there, ap n here)

-- ---- sums over keys that differ

module _ {K : Type 0} {eq : K → K → Bool} (laws : IsEquivalence eq) (exact : (a b : K) → eq a b ≡ true → a ≡ b) where
  -- a number of each key but one
  other_keys : K → (K → ℕ) → K → ℕ
  other_keys a g q = if eq a q then 0 else g q

  -- it is the number where that key is not
  other_stays : (a : K) (g : K → ℕ) (ks : List K) → AllByRecursion (λ q. eq a q ≡ false) ks → sum_by (other_keys a g) ks ≡ sum_by g ks
  unfolding other_keys
  other_stays a g [] apart = refl
  other_stays a g (k ∷ ks) apart = omega (arith, sum_by-cons (other_keys a g) k ks, sum_by-cons g k ks, other_stays a g ks apart.1, same)
    where
      same : other_keys a g k ≡ g k
      same = Prim.rw apart.0 refl

  -- the sum with one key taken out, where it is not there or counts for nothing
  one_out : (a : K) (g : K → ℕ) (ks : List K) → IsDistinct eq ks → (list_any (eq a) ks ≡ false → g a ≡ 0) → sum_by g ks ≡ g a + sum_by (other_keys a g) ks
  unfolding other_keys
  one_out a g [] distinct none = omega (arith, none refl)
  one_out a g (k ∷ ks) distinct none = by (eq a k) refl none (one_out a g ks (IsDistinct-tail eq k ks distinct))
    where
      by : (b : Bool) → eq a k ≡ b → ((b || list_any (eq a) ks) ≡ false → g a ≡ 0) → ((list_any (eq a) ks ≡ false → g a ≡ 0) → sum_by g ks ≡ g a + sum_by (other_keys a g) ks)
          → sum_by g (k ∷ ks) ≡ g a + sum_by (other_keys a g) (k ∷ ks)
      by true e nothing rest =
          let same : a ≡ k = exact a k e in
          let apart = subst (λ x. AllByRecursion (λ q. eq x q ≡ false) ks) (sym same) (IsDistinct-head eq k ks distinct) in
          omega (arith, sum_by-cons g k ks, sum_by-cons (other_keys a g) k ks, other_stays a g ks apart, ap g same, gone)
        where
          gone : other_keys a g k ≡ 0
          gone = Prim.rw e refl
      by false e nothing rest = omega (arith, sum_by-cons g k ks, sum_by-cons (other_keys a g) k ks, rest nothing, here)
        where
          here : other_keys a g k ≡ g k
          here = Prim.rw e refl

  -- two lists of keys that differ have the same sum, where each key that counts is in both
  pub same_sums : (g : K → ℕ) (xs ys : List K) → IsDistinct eq xs → IsDistinct eq ys → ((q : K) → list_any (eq q) xs ≡ false → g q ≡ 0) → ((q : K) → list_any (eq q) ys ≡ false → g q ≡ 0)
      → sum_by g xs ≡ sum_by g ys
  unfolding other_keys
  same_sums g [] ys da db na nb = omega (arith, sum_by-le g 0 ys (λ k d below. omega (arith, na (get_or ys k d) refl)))
  same_sums g (a ∷ xs) ys da db na nb =
      let rest =
      same_sums (other_keys a g) xs ys (IsDistinct-tail eq a xs da) db (λ q none. in_rest (eq a q) q refl (λ e. na q (Prim.rw (laws.symm q a, e) none)))
      (λ q none. in_rest (eq a q) q refl (λ e. nb q none)) in
      omega (arith, sum_by-cons g a xs, other_stays a g xs (IsDistinct-head eq a xs da), one_out a g ys db (nb a), rest)
    where
      in_rest : (b : Bool) (q : K) → eq a q ≡ b → (eq a q ≡ false → g q ≡ 0) → other_keys a g q ≡ 0
      in_rest true q e none = Prim.rw e refl
      in_rest false q e none = Prim.rw e (none e)

-- a sum over entries by what a look-up finds at each key
keyed-sum : {K V : Type 0} (g : K → Option V → ℕ) (all : K → Option V) (es : List (K × V)) → AllByRecursion (λ e. all e.0 ≡ Some e.1) es
    → sum_by (λ e. g e.0 (Some e.1)) es ≡ sum_by (λ q. g q (all q)) (keys_of es)
keyed-sum g all [] found = refl
keyed-sum g all (e ∷ es) found =
    omega (arith, sum_by-cons (λ x. g x.0 (Some x.1)) e es, sum_by-cons (λ q. g q (all q)) e.0 (keys_of es), keyed-sum g all es found.1, ap (g e.0) found.0)

-- a sum over entries is the one over their keys by look-up
pub entries-sum : {K V : Type 0} {eq : K → K → Bool} (laws : IsEquivalence eq) (g : K → Option V → ℕ) (es : List (K × V)) → IsDistinct eq (keys_of es)
    → sum_by (λ e. g e.0 (Some e.1)) es ≡ sum_by (λ q. g q (lookup (eq q) es)) (keys_of es)
entries-sum {eq = eq} laws g es distinct =
    keyed-sum g (λ q. lookup (eq q) es) es
    (recursion_from_All _ es (All-weaker (Contains es) (λ e. lookup (eq e.0) es ≡ Some e.1) (λ e there. lookup-from_Contains laws e.0 e.1 es distinct there) es (All-contains_itself es)))

-- ---- look-ups by number after a value is put at one

-- a value is put at a number
abbrev pub PutsAt : {V : Type 0} → ℕ → V → (ℕ → Option V) → (ℕ → Option V) → Type 0
PutsAt {V} n w old new = (i : ℕ) → new i ≡ cond (n == i) (Some w) (old i)

-- what holds of each look-up before and after: it holds of the value that is put, and of each that stays
pub put_holds : {V : Type 0} (P : Bool → Option V → Option V → Type 0) (n : ℕ) (w : V) (old new : ℕ → Option V) → PutsAt n w old new → P true (old n) (Some w)
    → ((o : Option V) → P false o o) → (i : ℕ) → P (n == i) (old i) (new i)
put_holds {V} P n w old new puts there stays i = by (n == i) refl (puts i)
  where
    by : (b : Bool) → (n == i) ≡ b → new i ≡ cond b (Some w) (old i) → P b (old i) (new i)
    by true e is = subst (λ (k : ℕ). P true (old k) (new i)) (eqb-true n i e) (subst (λ (o : Option V). P true (old n) o) (sym is) there)
    by false e is = subst (λ (o : Option V). P false (old i) o) (sym is) (stays (old i))

-- where values are put twice the last one counts
pub puts_again : {V : Type 0} (n : ℕ) (w v : V) (old mid new : ℕ → Option V) → PutsAt n w old mid → PutsAt n v old new → PutsAt n v mid new
puts_again {V} n w v old mid new first last i = by (n == i) (first i) (last i)
  where
    by : (b : Bool) → mid i ≡ cond b (Some w) (old i) → new i ≡ cond b (Some v) (old i) → new i ≡ cond b (Some v) (mid i)
    by true f l = l
    by false f l = l ∙ sym f
