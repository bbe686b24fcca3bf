-- The shares of an issue's positions above 0 and of those below 0, by look-up.
use Rattle.std.specs.Prelude.{◌≡◌, ℕ, zero, suc, ◌+◌, ◌-◌, ◌^◌, ◌<◌, ◌≤◌, ◌==◌, nat_eq, List, Option, Some, None, IsSome, if◌then◌else◌}
use Rattle.std.specs.HashMap.{HashMap, get}
use Rattle.cns_netting.specs.declared.undue.Undue.{Undue}
use Rattle.cns_netting.specs.History.{credit_part, debit_part}
use Rattle.cns_netting.specs.Positions.{credit_among, debit_among}
use Rattle.cns_ids.specs.declared.holding.Holding.{Holding}
use Rattle.cns_netting.specs.declared.positions.Position.{Position}
use Rattle.cns_netting.specs.declared.totals.Totals.{Totals}

-- the sum of a number for each member 1 to n
unfoldable pub total : ℕ → (ℕ → ℕ) → ℕ
total zero g = 0
total (suc n) g = total n g + g (suc n)

-- the shares of the positions above 0 and of those below 0; there are none where the issue is not named
abbrev pub longs_at : Option Totals → ℕ
longs_at None = 0
longs_at (Some t) = t.longs

abbrev pub shorts_at : Option Totals → ℕ
shorts_at None = 0
shorts_at (Some t) = t.shorts

module _ {T : Type 0} where
  -- the shares of the positions above 0 in an issue, and of those below 0
  abbrev pub longs_in : HashMap ℕ Totals T → ℕ → ℕ
  longs_in totals issue = longs_at (get nat_eq totals issue)

  abbrev pub shorts_in : HashMap ℕ Totals T → ℕ → ℕ
  shorts_in totals issue = shorts_at (get nat_eq totals issue)

  -- the issue of a trade is named
  abbrev pub HasIssue : HashMap ℕ Totals T → Undue → Type 0
  HasIssue totals t = IsSome (get nat_eq totals t.issue)

  -- what is named stays so
  abbrev pub KeepIssues : HashMap ℕ Totals T → HashMap ℕ Totals T → Type 0
  KeepIssues old new = (issue : ℕ) → IsSome (get nat_eq old issue) → IsSome (get nat_eq new issue)

  -- the totals once a position in an issue is counted anew
  pub record Recounts (issue : ℕ) (was is : Position) (old new : HashMap ℕ Totals T) : Type 0 where
    pub longs : (i : ℕ) → longs_in new i + (if issue == i then credit_part was.shares else 0) ≡ longs_in old i + (if issue == i then credit_part is.shares else 0)
    pub shorts : (i : ℕ) → shorts_in new i + (if issue == i then debit_part was.shares else 0) ≡ shorts_in old i + (if issue == i then debit_part is.shares else 0)
    pub issues : KeepIssues old new

-- a position among those of an issue's totals may be counted anew: the totals fit
pub record CanCount (above below : ℕ) (was is : Position) : Type 0 where
  pub longs : credit_part was.shares ≤ above
  pub shorts : debit_part was.shares ≤ below
  pub more_longs : above + credit_part is.shares < 2 ^ 128
  pub more_shorts : below + debit_part is.shares < 2 ^ 128

-- the totals of each issue are those of the positions that the members have in it
pub record AreTotalsOf {T : Type 0} (totals : HashMap ℕ Totals T) (positions : List (Holding × Position)) : Type 0 where
  pub longs : (issue : ℕ) → longs_in totals issue ≡ total 9999 (λ member. credit_among positions member issue - debit_among positions member issue)
  pub shorts : (issue : ℕ) → shorts_in totals issue ≡ total 9999 (λ member. debit_among positions member issue - credit_among positions member issue)
