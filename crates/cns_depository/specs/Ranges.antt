-- Between what the openings of a depository lie, by its records alone (this project's own rules).
use Rattle.std.specs.Prelude.{◌≡◌, ℕ, zero, suc, ◌+◌, ◌-◌, ◌^◌, ◌≤◌, min, max, Bool, false, List, [], ◌++◌, ◌∷◌, Option, Some, None, nat_le, nat_lt, ◌&&◌, if◌then◌else◌, unwrap_or}
use Rattle.std.specs.List.{fold}
use Rattle.cns_records.specs.declared.dep_record.DepRecord.{DepRecord}
use Rattle.cns_trades.specs.declared.opening.Opening.{Opening}
use Rattle.cns_records.specs.declared.dep_record.DepRecord.TheVariants.{Exec, Own}
use Rattle.cns_depository.specs.declared.account.Account.{Account}
use Rattle.cns_depository.specs.declared.account.Account.TheVariants.{Cns, Member}
use Rattle.cns_depository.specs.declared.account.Side.{Side}
use Rattle.cns_depository.specs.declared.account.Side.TheVariants.{Outside, At}
use Rattle.cns_depository.specs.declared.place.Place.{Place}
use Rattle.cns_depository.specs.declared.ranges.Range.{Range}
use Rattle.cns_depository.specs.Least.{least}
use Rattle.cns_depository.specs.Openings.{DoIssuesFit, issue_sum, opening_fault, opening_shares}
use Rattle.cns_depository.specs.Stock.{IsLawfulDepot}
use Rattle.cns_depository.specs.Totals.{place_eq}

-- the openings of a list that stand, each behind those before it
abbrev pub with_opening : List Opening → Opening → List Opening
with_opening held o = elim (opening_fault held o) [ None ↦ held ++ o ∷ [] | Some _ ↦ held ]

abbrev pub standing : List Opening → List Opening
standing list = fold with_opening [] list

-- openings that are no more than others, and of no account less than records need
pub record AreEnough (less more : List Opening) (p : List DepRecord) : Type 0 where
  pub enough : (member issue : ℕ) → least p (Member member) issue ≤ opening_shares less (Member member) issue
  pub fewer : (member issue : ℕ) → opening_shares less (Member member) issue ≤ opening_shares more (Member member) issue
  pub sums : (issue : ℕ) → issue_sum less issue ≤ issue_sum more issue

-- openings of which each stands behind those before it, and with which records are lawful
pub record AreOpeningsOf (openings : List Opening) (p : List DepRecord) : Type 0 where
  pub fit : DoIssuesFit openings
  pub lawful : IsLawfulDepot openings p

-- the place of an account, and that of all accounts
abbrev pub place_of : Account → ℕ → Place
place_of a issue = record { issue = issue; side = At a }

abbrev pub issue_place : ℕ → Place
issue_place issue = record { issue = issue; side = Outside }

-- with how many shares an account opens, and all accounts, before anything is known: the CNS account with none
abbrev pub first_range : Side → Range
first_range Outside = record { least = 0; most = 10 ^ 18 }
first_range (At Cns) = record { least = 0; most = 0 }
first_range (At (Member m)) = record { least = 0; most = 10 ^ 18 }

abbrev pub range_by : Place → Option Range → Range
range_by k found = unwrap_or found (first_range k.side)

-- the sum of a number of each member, 0 to n
unfoldable pub up_to : ℕ → (ℕ → ℕ) → ℕ
up_to zero f = f 0
up_to (suc n) f = up_to n f + f (suc n)

-- the sum of what the CNS account and members must have opened with
abbrev pub least_sum : ℕ → List DepRecord → ℕ → ℕ
least_sum n p issue = least p Cns issue + up_to n (λ m. least p (Member m) issue)

-- the ranges of places are those of these records: an account's begins with what it must have opened with, and that of an issue with no more
-- than the accounts must have; and all openings with which the records are lawful lie in them
pub record AreRanges (ranges : Place → Range) (p : List DepRecord) : Type 0 where
  pub least_is : (a : Account) (issue : ℕ) → (ranges (place_of a issue)).least ≡ least p a issue
  pub sum_least : (issue : ℕ) → (n : ℕ) × ((ranges (issue_place issue)).least ≤ least_sum n p issue)
  pub most : (openings : List Opening) → AreOpeningsOf openings p → (a : Account) (issue : ℕ) → opening_shares openings a issue ≤ (ranges (place_of a issue)).most
  pub sum_most : (openings : List Opening) → AreOpeningsOf openings p → (issue : ℕ) → issue_sum openings issue ≤ (ranges (issue_place issue)).most

-- whether a record moved all that its giver had: less than its order asked for
abbrev pub takes_all : DepRecord → Bool
takes_all (Exec o moved) = nat_lt moved o.asked
takes_all (Own i) = false

-- whether some number of shares lies in a range
abbrev pub is_met : Range → Bool
is_met range = nat_le range.least range.most

-- a range once an account must have opened with so many shares at least, or with just so many
abbrev pub narrowed_range : Range → ℕ → Bool → Range
narrowed_range range needed exactly = record { least = max range.least needed; most = if exactly then min range.most needed else range.most }

-- that of an issue, once the accounts must have opened with so many more, or with so many at most
abbrev pub raised : Range → ℕ → Range
raised range more = record range { least = min (2 ^ 128 - 1) (range.least + more) }

abbrev pub limited : Range → ℕ → Range
limited range most = record range { most = min range.most most }

-- an account in an issue must have opened with so many shares at least, or with just so many
pub record IsDemanded (a : Account) (issue needed : ℕ) (exactly : Bool) (old new : Place → Range) : Type 0 where
  pub place : new (place_of a issue) ≡ narrowed_range (old (place_of a issue)) needed exactly
  pub sum : new (issue_place issue) ≡ raised (old (issue_place issue)) (max (old (place_of a issue)).least needed - (old (place_of a issue)).least)
  pub others : (k : Place) → place_eq (place_of a issue) k ≡ false → place_eq (issue_place issue) k ≡ false → new k ≡ old k

-- all accounts together opened with at most so many
pub record IsLimited (issue most : ℕ) (old new : Place → Range) : Type 0 where
  pub sum : new (issue_place issue) ≡ limited (old (issue_place issue)) most
  pub others : (k : Place) → place_eq (issue_place issue) k ≡ false → new k ≡ old k

-- the least opening of a place's range: where it is a member's, and of 1 to 10^18 shares
abbrev pub least_at : ℕ → Side → ℕ → Option Opening
least_at issue Outside shares = None
least_at issue (At Cns) shares = None
least_at issue (At (Member m)) shares = if nat_lt 0 shares && nat_le shares (10 ^ 18) then Some (record { member = m; issue = issue; shares = shares }) else None

abbrev pub least_opening : Place × Range → Option Opening
least_opening e = least_at e.0.issue e.0.side e.1.least
