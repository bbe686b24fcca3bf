-- What a book keeps.
use Rattle.std.specs.Prelude.{◌≡◌, ℕ, ◌+◌, ◌≤◌, ◌&&◌, nat_le, List, [], ◌∷◌, All, length, ℤ, pos, neg_ℤ, ◌≤ℤ◌, sum_by, if◌then◌else◌}
use Rattle.std.specs.BinaryHeap.{IsHeap}
use Rattle.std.specs.HashMap.{HashMap}
use Rattle.cns_netting.specs.History.{accepted, credit_part, debit_part, settled_credit, settled_debit}
use Rattle.cns_netting.specs.Positions.{ArePositionsOf, IsNamed}
use Rattle.cns_netting.specs.Totals.{AreTotalsOf, HasIssue}
use Rattle.cns_netting.specs.Undue.{earlier, waiting_of, undue}
use Rattle.cns_netting.specs.declared.entry.NetEntry.{NetEntry}
use Rattle.cns_netting.specs.declared.entry.NetEntry.TheVariants.{Accepted, Netted, Settled}
use Rattle.cns_ids.specs.declared.holding.Holding.{Holding}
use Rattle.cns_netting.specs.declared.positions.Position.{Position}
use Rattle.cns_netting.specs.declared.totals.Totals.{Totals}
use Rattle.cns_netting.specs.declared.undue.Undue.{Undue}

-- the history, the newest entry first, and for how many more entries there is room
pub record NetRoom : Type 0 where
  pub history : List NetEntry
  pub room : ℕ

-- a position within 10^18 of 0
pub record IsWithin (z : ℤ) : Type 0 where
  pub low : neg_ℤ (pos 1000000000000000000) ≤ℤ z
  pub high : z ≤ℤ pos 1000000000000000000

-- the accepted trades' quantities are in range
unfoldable pub QuantitiesFit : List NetEntry → Type 0
QuantitiesFit [] = Unit {0}
QuantitiesFit (Accepted t ∷ h) = (t.quantity ≤ 999999999999) × QuantitiesFit h
QuantitiesFit (Netted d ∷ h) = QuantitiesFit h
QuantitiesFit (Settled m i z ∷ h) = QuantitiesFit h

-- settled amounts are at most 2 * 10^18 in size
unfoldable pub AmountsFit : List NetEntry → Type 0
AmountsFit [] = Unit {0}
AmountsFit (Accepted t ∷ h) = AmountsFit h
AmountsFit (Netted d ∷ h) = AmountsFit h
AmountsFit (Settled m i z ∷ h) = (credit_part z ≤ 2000000000000000000) × (debit_part z ≤ 2000000000000000000) × AmountsFit h

-- the settlements of a member in an issue come to at most 2 * 10^18 either way
pub record AreSettlementsBounded (h : List NetEntry) (member issue : ℕ) : Type 0 where
  pub in_most : settled_credit h member issue ≤ settled_debit h member issue + 2000000000000000000
  pub out_most : settled_debit h member issue ≤ settled_credit h member issue + 2000000000000000000

-- at most a million trades, their quantities in range, and settlements that leave each position within 10^18 of 0
pub record IsBook (h : List NetEntry) : Type 0 where
  pub few : length (accepted h) ≤ 1000000
  pub quantities : QuantitiesFit h
  pub amounts : AmountsFit h
  pub settled : (member issue : ℕ) → AreSettlementsBounded h member issue

-- what a book keeps beside its history: the position of each holding, the totals of each issue, and of the trades that are not due
-- what netting needs, in a heap; the holdings and the issue of each such trade are named
pub record IsKeptBook {T : Type 0} (h : List NetEntry) (holdings : List (Holding × Position)) (issues : HashMap ℕ Totals T) (waiting : List Undue) : Type 0 where
  pub book : IsBook h
  pub positions : ArePositionsOf holdings h
  pub totals : AreTotalsOf issues holdings
  pub undue : (f : Undue → ℕ) → sum_by f waiting ≡ sum_by (λ t. f (waiting_of t)) (undue h)
  pub named : All (IsNamed holdings) waiting
  pub named_issues : All (HasIssue issues) waiting
  pub heap : IsHeap earlier waiting

-- for how many more entries there is room: for none where two more holdings, one more issue, or one more trade that is not due,
-- may not fit
abbrev pub room_of : ℕ → ℕ → ℕ → ℕ → ℕ
room_of entries holdings issues waiting = if nat_le 2 holdings && nat_le 1 issues && nat_le 1 waiting then entries else 0
