-- What one seat's step, a split and a join leave of a cell's law.
use Rattle.std.proofs.Common.{◌≡◌, ◌≢◌, ℕ, ◌+◌, ◌-◌, ◌≤◌, Bool, true, false, List, [], ◌∷◌, ◌++◌, length, min, set, sym, refl, ◌∙◌, subst, ⊎_elim, arith, true≢false, length-append, length-set}
use Rattle.std.specs.Prelude.{◌||◌, cond, nat_lt, sum_by}
use Rattle.std.proofs.lemmas.List.Sums.{sum_by-append, sum_by_push}
use mathlib.Core.Option.{some}
use lib.ListN.{get_elem?}
use Rattle.atomic_table.proofs.Lists.{at_set}
use Rattle.cns_pool.specs.declared.view.View.{View}
use Rattle.cns_pool.specs.Tiles.{Interval, lies_in, cover_count, size_sum}
use Rattle.cns_pool.specs.Seen.{Seen, both_seen}
use Rattle.cns_pool.specs.CellLaw.{Account, asked_in_all, calls_of, IsFeeder, IsSeat, IsCell}
use Rattle.cns_pool.specs.CellWords.{no_view, view_after_join}
use Rattle.cns_pool.proofs.TileLemmas.{below_number, lies_in_number}
use Rattle.cns_pool.proofs.SumLemmas.{sum_by_put, sum_by_cut, sum_by_merged, sum_by_alone, get_elem?_push}

-- 1 for a share below n, and else 0
abbrev below : ℕ → ℕ → ℕ
below share n = cond (nat_lt share n) 1 0

-- in how many of the intervals a share lies, one more among them
pub cover_count_push : (share : ℕ) (intervals : List Interval) (next : Interval)
    → cover_count share (intervals ++ next ∷ []) ≡ cover_count share intervals + (min 1 (next.0 + next.1 - share) - min 1 (next.0 - share))
cover_count_push share intervals next =
    omega (arith, sum_by_push (λ (i : Interval). cond (lies_in share i) 1 0) intervals next, lies_in_number share next.0 next.1)

pub size_sum_push : (intervals : List Interval) (next : Interval) → size_sum (intervals ++ next ∷ []) ≡ size_sum intervals + next.1
size_sum_push intervals next = sum_by_push (λ (i : Interval). i.1) intervals next

-- the end of an interval becomes the end of what is drawn
pub below_push : (share n more : ℕ) → (min 1 (n + more - share) - min 1 (n - share)) + below share n ≡ below share (n + more)
below_push share n more = omega (arith, below_number share n, below_number share (n + more))

pub by_seal : {P : Type 0} (sealed : Bool) → (sealed ≡ true → P) → (sealed ≡ false → P) → P
by_seal true is_true is_false = is_true refl
by_seal false is_true is_false = is_false refl

-- an account has what was seen
abbrev HasSeen : Account → Seen → Type 0
HasSeen account seen = (seen.poured ≤ account.poured) × (seen.asked ≤ asked_in_all account) × (seen.sealed ≡ true → account.sealed ≡ true)

pub has_seen : (account : Account) (number : ℕ) (v : View) → IsSeat account number v → HasSeen account v.seen
has_seen account number v seat = (seat.saw_poured, seat.saw_asked, seat.saw_seal)

-- a seat, part by part
pub seat_by : (account : Account) (number : ℕ) (v : View) → HasSeen account v.seen → (v.works ≡ true → v.given ≡ account.given) → length v.intervals ≤ v.made → (v.feeds ≡ true → IsFeeder account number v)
    → IsSeat account number v
seat_by account number v saw given made feeds = record { saw_poured = saw.0; saw_asked = saw.1; saw_seal = saw.2; given = given; made = made; feeds = feeds }

-- what the change of one seat's view asks
pub record ChangesSeat (old new : Account) (number : ℕ) (v w : View) : Type 0 where
  pub budget : asked_in_all new + w.budget ≡ asked_in_all old + v.budget
  pub unsealed : new.sealed ≡ false → new.refused ≡ 0
  pub tiled : (share : ℕ) → cover_count share w.intervals + below share old.drawn ≡ cover_count share v.intervals + below share new.drawn
  pub sizes : size_sum w.intervals + old.drawn ≡ size_sum v.intervals + new.drawn
  pub calls : calls_of w ≡ calls_of v
  pub given : new.given ≡ old.given
  pub own : IsSeat new number w
  pub others : (other : ℕ) (u : View) → other ≢ number → IsSeat old other u → IsSeat new other u

-- a seat of an equal number and view
seat_at : (account : Account) (m n : ℕ) (v w : View) → m ≡ n → v ≡ w → IsSeat account n v → IsSeat account m w
seat_at account m n v w number view seat = subst (λ (z : ℕ × View). IsSeat account z.0 z.1) (λ i. (sym number i, view i)) seat

pub IsCell_changed : (views : List View) (old new : Account) (number : ℕ) (v w : View) → IsCell old views → get_elem? views number ≡ some v → ChangesSeat old new number v w
    → IsCell new (set views number w)
IsCell_changed views old new number v w cell at moves = record {
  budget = omega (arith, sum_by_put (λ (u : View). u.budget) views number v w at, moves.budget, cell.budget);
  unsealed = moves.unsealed;
  tiled = λ share. omega (arith, sum_by_put (λ (u : View). cover_count share u.intervals) views number v w at, moves.tiled share, cell.tiled share);
  sizes = omega (arith, sum_by_put (λ (u : View). size_sum u.intervals) views number v w at, moves.sizes, cell.sizes);
  calls = omega (arith, sum_by_put calls_of views number v w at, moves.calls, moves.given, cell.calls);
  seats = λ other u found. ⊎_elim (λ here. seat_at new other number w u here.0 here.1 moves.own) (λ there. moves.others other u there.0 (cell.seats other u there.1)) (at_set views number other w u found);
}

-- the account where the seat of this number feeds
abbrev pub fed_by : Account → ℕ → Account
fed_by account feeder = record account { feeder = feeder }

-- a seat stays one there, where it still feeds if it did
seat_stays : (account : Account) (feeder number : ℕ) (v : View) → (number ≡ account.feeder → number ≡ feeder) → IsSeat account number v → IsSeat (fed_by account feeder) number v
seat_stays account feeder number v stays seat = seat_by (fed_by account feeder) number v (has_seen account number v seat) seat.given seat.made
    (λ feeds. let f = seat.feeds feeds in record { one = stays f.one; pours = f.pours; seals = f.seals; most = f.most })

-- what a split of one seat's view in two asks; `last` is the number of the new seat, and `feeder` that of the seat that feeds then
pub record SplitsSeat (account : Account) (feeder number last : ℕ) (v left right : View) : Type 0 where
  pub budget : left.budget + right.budget ≡ v.budget
  pub tiled : (share : ℕ) → cover_count share left.intervals + cover_count share right.intervals ≡ cover_count share v.intervals
  pub sizes : size_sum left.intervals + size_sum right.intervals ≡ size_sum v.intervals
  pub calls : calls_of left + calls_of right ≡ calls_of v
  pub own : IsSeat (fed_by account feeder) number left
  pub other_own : IsSeat (fed_by account feeder) last right
  pub others : (other : ℕ) → other ≢ number → other ≡ account.feeder → other ≡ feeder

pub IsCell_split : (views : List View) (account : Account) (feeder number : ℕ) (v left right : View) → IsCell account views → get_elem? views number ≡ some v
    → SplitsSeat account feeder number (length views) v left right → IsCell (fed_by account feeder) (set views number left ++ right ∷ [])
IsCell_split views account feeder number v left right cell at splits = let new : Account = fed_by account feeder in record {
  budget = omega (arith, sum_by_cut (λ (u : View). u.budget) views number v left right at splits.budget, cell.budget);
  unsealed = cell.unsealed;
  tiled = λ share. sum_by_cut (λ (u : View). cover_count share u.intervals) views number v left right at (splits.tiled share) ∙ cell.tiled share;
  sizes = sum_by_cut (λ (u : View). size_sum u.intervals) views number v left right at splits.sizes ∙ cell.sizes;
  calls = sum_by_cut calls_of views number v left right at splits.calls ∙ cell.calls;
  seats = λ other u found. ⊎_elim
      (λ before. ⊎_elim (λ here. seat_at new other number left u here.0 here.1 splits.own)
      (λ there. seat_stays account feeder other u (splits.others other there.0) (cell.seats other u there.1)) (at_set views number other left u before))
      (λ end. seat_at new other (length views) right u (end.0 ∙ length-set views number left) end.1 splits.other_own)
      (get_elem?_push (set views number left) right u other found);
}

-- two views put together, which feed as a third one does
abbrev pub joined_as : View → View → View → View
joined_as v u x = record (view_after_join v u) { feeds = x.feeds; poured = x.poured; pour_room = x.pour_room; sealed = x.sealed }

-- what a join of another seat's view into one asks
pub record JoinsSeat (account : Account) (feeder number other : ℕ) (x : View) : Type 0 where
  pub feeds : x.feeds ≡ true → IsFeeder (fed_by account feeder) number x
  pub others : (third : ℕ) → third ≢ other → third ≡ account.feeder → third ≡ feeder

-- the seat that is joined in, before
pub before_join : (views : List View) (number other : ℕ) (w u : View) → other ≢ number → get_elem? (set views number w) other ≡ some u → get_elem? views other ≡ some u
before_join views number other w u differs at = ⊎_elim (λ here. absurd (differs here.0)) (λ there. there.1) (at_set views number other w u at)

or_cases : {P : Type 0} (a b : Bool) → (a ≡ true → P) → (b ≡ true → P) → a || b ≡ true → P
or_cases true b left right is = left refl
or_cases false b left right is = right is

saw_both : (account : Account) (one other : Seen) → HasSeen account one → HasSeen account other → HasSeen account (both_seen one other)
saw_both account one other saw also = (omega (arith, saw.0, also.0), omega (arith, saw.1, also.1), or_cases one.sealed other.sealed saw.2 also.2)

-- the seat that it is joined into, after
joined_own : (account : Account) (feeder number other : ℕ) (v u x : View) → IsSeat account number v → IsSeat account other u → (x.feeds ≡ true → IsFeeder (fed_by account feeder) number x)
    → IsSeat (fed_by account feeder) number (joined_as v u x)
joined_own account feeder number other v u x mine its feeds =
    seat_by (fed_by account feeder) number (joined_as v u x) (saw_both account v.seen u.seen (has_seen account number v mine) (has_seen account other u its)) mine.given
    (omega (arith, mine.made, its.made, length-append v.intervals u.intervals)) (λ fed. let f = feeds fed in record { one = f.one; pours = f.pours; seals = f.seals; most = f.most })

-- a view that has nothing fits any account
no_view_fits : (account : Account) (number : ℕ) → IsSeat account number no_view
no_view_fits account number =
    seat_by account number no_view (omega arith, omega arith, λ h. absurd (true≢false (sym h))) (λ h. absurd (true≢false (sym h))) (omega arith) (λ h. absurd (true≢false (sym h)))

pub IsCell_joined : (views : List View) (account : Account) (feeder number other : ℕ) (v u x : View) → IsCell account views → get_elem? views number ≡ some v → other ≢ number
    → get_elem? (set views number (joined_as v u x)) other ≡ some u → JoinsSeat account feeder number other x → IsCell (fed_by account feeder) (set (set views number (joined_as v u x)) other no_view)
IsCell_joined views account feeder number other v u x cell at differs also joins = let new : Account = fed_by account feeder in let w : View = joined_as v u x in record {
  budget = omega (arith, sum_by_merged (λ (y : View). y.budget) views number other v u w no_view refl at also refl, cell.budget);
  unsealed = cell.unsealed;
  tiled = λ share. sum_by_merged (λ (y : View). cover_count share y.intervals) views number other v u w no_view refl at also
      (sum_by-append (λ (i : Interval). cond (lies_in share i) 1 0) v.intervals u.intervals) ∙ cell.tiled share;
  sizes = sum_by_merged (λ (y : View). size_sum y.intervals) views number other v u w no_view refl at also (sum_by-append (λ (i : Interval). i.1) v.intervals u.intervals) ∙ cell.sizes;
  calls = sum_by_merged calls_of views number other v u w no_view refl at also (omega arith) ∙ cell.calls;
  seats = λ third y found. ⊎_elim
      (λ here. seat_at new third other no_view y here.0 here.1 (no_view_fits new other))
      (λ there. ⊎_elim
      (λ here. seat_at new third number w y here.0 here.1 (joined_own account feeder number other v u x (cell.seats number v at) (cell.seats other u (before_join views number other w u differs also)) joins.feeds))
      (λ beyond. seat_stays account feeder third y (joins.others third there.0) (cell.seats third y beyond.1)) (at_set views number third w y there.1))
      (at_set (set views number w) other third no_view y found);
}

-- a seat without calls has no tickets
none_drawn : (intervals : List Interval) (made calls : ℕ) → length intervals ≤ made → made + calls ≡ 0 → size_sum intervals ≡ 0
none_drawn [] made calls within none = refl
none_drawn (i ∷ intervals) made calls within none = absurd (omega arith)

none_covered : (share : ℕ) (intervals : List Interval) (made calls : ℕ) → length intervals ≤ made → made + calls ≡ 0 → cover_count share intervals ≡ 0
none_covered share [] made calls within none = refl
none_covered share (i ∷ intervals) made calls within none = absurd (omega arith)

module _ (views : List View) (account : Account) (cell : IsCell account views) (number : ℕ) (v : View) (at : get_elem? views number ≡ some v) (works : v.works ≡ true) (all : v.given ≡ calls_of v) where
  calls_are : sum_by calls_of views ≡ calls_of v
  calls_are = cell.calls ∙ sym ((cell.seats number v at).given works) ∙ all

  -- where no call is out, the seat has all tickets
  pub all_drawn : size_sum v.intervals ≡ account.drawn
  all_drawn = sym (sum_by_alone (λ (u : View). size_sum u.intervals) calls_of views number v at (λ i u found none. none_drawn u.intervals u.made u.calls (cell.seats i u found).made none) calls_are) ∙ cell.sizes

  pub all_covered : (share : ℕ) → cover_count share v.intervals ≡ below share account.drawn
  all_covered share = sym (sum_by_alone (λ (u : View). cover_count share u.intervals) calls_of views number v at (λ i u found none. none_covered share u.intervals u.made u.calls (cell.seats i u found).made none) calls_are) ∙ cell.tiled share
