-- What the records of a depository come to, by look-up (this project's own rules).
use Rattle.std.specs.Prelude.{◌≡◌, ℕ, ◌*◌, ◌^◌, ◌<◌, ◌≤◌, Bool, List, reverse, length, find, Option, Some, None}
use Rattle.std.specs.HashMap.{get, spare}
use Rattle.std.specs.List.{slice_get}
use Rattle.cns_records.specs.declared.dep_record.DepRecord.{DepRecord}
use Rattle.cns_records.specs.declared.dep_record.DepRecord.TheVariants.{Exec, Own}
use Rattle.cns_depository.specs.declared.account.Side.{Side}
use Rattle.cns_depository.specs.declared.key.Key.{Key}
use Rattle.cns_depository.specs.declared.key.Key.TheVariants as key
use Rattle.cns_depository.specs.declared.moved.Moved.{Moved}
use Rattle.cns_depository.specs.declared.place.Place.{Place}
use Rattle.cns_depository.specs.declared.stock.Stock.{Stock}
use Rattle.cns_depository.specs.contracts.key.KeyPartialEq.TheImpl as keys
use Rattle.cns_depository.specs.contracts.place.PlacePartialEq.TheImpl as place
use Rattle.cns_depository.specs.Node.{DepNode, IsNode}
use Rattle.cns_depository.specs.Stock.{brought_to, taken_from}

-- whether two places are the same, and whether two keys are
abbrev pub place_eq : Place → Place → Bool
place_eq = place.ghosts.eq

abbrev pub key_eq : Key → Key → Bool
key_eq = keys.ghosts.eq

-- what is found for a place; nothing was moved where nothing is found
abbrev pub moved_at : Option Moved → Moved
moved_at None = record { entered = 0; left = 0 }
moved_at (Some m) = m

-- the key of a record: the number of the order that it executed, or the member and the number of its instruction
abbrev pub key_of : DepRecord → Key
key_of (Exec o moved) = key.Movement o.number
key_of (Own i) = key.Own i.member i.number

-- the record of a key
abbrev pub record_of : List DepRecord → Key → Option DepRecord
record_of p k = find (λ (e : DepRecord). key_eq (key_of e) k) p

-- the record of a key has this index among the records, the first one first; there is none where no index is found
abbrev pub HasIndex : List DepRecord → Key → Option ℕ → Type 0
HasIndex p k None = record_of p k ≡ None
HasIndex p k (Some i) = (i < length p) × (slice_get (reverse p) i ≡ record_of p k)

-- what was brought to each place and taken from it is that of these records, the newest first, which moved at most 10^18 shares each
pub record AreTransferred (moved : Place → Moved) (p : List DepRecord) : Type 0 where
  pub entered : (s : Side) (issue : ℕ) → (moved (record { issue = issue; side = s })).entered ≡ brought_to p s issue
  pub left : (s : Side) (issue : ℕ) → (moved (record { issue = issue; side = s })).left ≡ taken_from p s issue
  pub few : length p ≤ 2 ^ 64
  pub entered_small : (s : Side) (issue : ℕ) → brought_to p s issue ≤ 10 ^ 18 * length p
  pub left_small : (s : Side) (issue : ℕ) → taken_from p s issue ≤ 10 ^ 18 * length p

-- and so is the index of the record of each key
pub record AreStockTotals (moved : Place → Moved) (indices : Key → Option ℕ) (p : List DepRecord) : Type 0 where
  pub sums : AreTransferred moved p
  pub found : (k : Key) → HasIndex p k (indices k)

-- a stock is what these records come to
abbrev pub IsStockOf : Stock → List DepRecord → Type 0
IsStockOf s p = AreStockTotals (λ k. moved_at (get place_eq s.moved k)) (get key_eq s.indices) p

-- a stock is what some records come to
abbrev pub IsStock : Stock → Type 0
IsStock s = (p : List DepRecord) × IsStockOf s p

-- there is room for one more record
abbrev pub HasStockRoom : Stock → Type 0
HasStockRoom s = (2 ≤ spare s.moved) × (1 ≤ spare s.indices)

-- what a depository keeps: a lawful log, and what its records come to
pub record IsStockKept (stock : Stock) (node : DepNode) : Type 0 where
  pub lawful : IsNode node
  pub totals : IsStockOf stock node.log.records
