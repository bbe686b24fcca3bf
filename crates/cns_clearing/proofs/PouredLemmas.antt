-- What lots have of the shares that are there.
use Rattle.std.proofs.Common.{◌≡◌, ◌≤◌, ◌+◌, ◌-◌, ℕ, List, Option, Some, None, refl, arith}
use Rattle.std.specs.Prelude.{option_map, unwrap_or}
use Rattle.cns_records.specs.Clear.{AreWritable}
use Rattle.cns_records.specs.declared.clear_record.ClearRecord.{ClearRecord}
use Rattle.cns_clearing.specs.Answers.{IsPoured}
use Rattle.cns_clearing.specs.Books.{IsLawful, order_book_of}
use Rattle.cns_clearing.specs.Lots.{AreLots, avail_in}
use Rattle.cns_clearing.specs.Node.{ClearNode}
use Rattle.cns_clearing.specs.Pools.{covered_of, delivered_of, free_of, lent_of, lot_of, out_of}
use Rattle.cns_clearing.specs.declared.lot.Lot.{Lot}
use Rattle.cns_clearing.proofs.LotLemmas.{lot_found}
use Rattle.cns_clearing.proofs.PlanLemmas.{lot_pours}
use Rattle.cns_clearing.proofs.TotalLemmas.{avail_most, taken_covered}

-- a lot has no more than is there
pub found_most : (c : List ClearRecord) (lots : List Lot) (issue : ℕ) (lot : Lot) → IsLawful c → AreLots c lots → lot_of lots issue ≡ Some lot → lot.poured ≤ avail_in c issue
found_most c lots issue lot lawful are found =
    let is = lot_found c lots issue lot are found in
    rw (← is.1) (lot_pours c lot lawful is.0)

-- nor is more lent than is there
pub lent_most : (c : List ClearRecord) (lots : List Lot) (issue : ℕ) → IsLawful c → AreLots c lots → lent_of lots issue ≤ avail_in c issue
lent_most c lots issue lawful are = by (lot_of lots issue) refl
  where
    by : (o : Option Lot) → lot_of lots issue ≡ o → unwrap_or (option_map (λ (l : Lot). l.poured) o) 0 ≤ avail_in c issue
    by None e = omega arith
    by (Some lot) e = found_most c lots issue lot lawful are e

-- with the shares that are free it is at most 10^18
pub free_most : (c : List ClearRecord) (lots : List Lot) (issue free : ℕ) → IsLawful c → AreWritable c → AreLots c lots → free ≡ free_of (order_book_of c) lots issue
    → free + lent_of lots issue ≤ 1000000000000000000
free_most c lots issue free lawful fits are is = omega (arith, is, lent_most c lots issue lawful are, avail_most c issue lawful fits)

-- so free, lent and out, and with what deliveries took, shares are all that covers brought
pub pool_whole : (c : List ClearRecord) (lots : List Lot) (issue : ℕ) → IsLawful c → AreLots c lots
    → free_of (order_book_of c) lots issue + lent_of lots issue + out_of (order_book_of c) issue + delivered_of (order_book_of c) issue ≡ covered_of (order_book_of c) issue
pool_whole c lots issue lawful are =
    omega (arith, lent_most c lots issue lawful are, taken_covered c issue lawful)

-- what a pour adds is what was free
pub pour_free : (node : ClearNode) (issue shares : ℕ) (lot : Lot) → lot_of node.lots issue ≡ Some lot → shares ≡ avail_in node.log.records issue - lot.poured
    → shares ≡ free_of (order_book_of node.log.records) node.lots issue
pour_free node issue shares lot found is =
    let lent : lent_of node.lots issue ≡ lot.poured = rw found refl in
    omega (arith, is, lent)

-- and with it the lot has all that is there
pub pour_adds : (node : ClearNode) (issue shares : ℕ) (lot : Lot) → IsLawful node.log.records → AreWritable node.log.records → AreLots node.log.records node.lots → lot_of node.lots issue ≡ Some lot
    → shares ≡ avail_in node.log.records issue - lot.poured → IsPoured node issue shares
pour_adds node issue shares lot lawful fits are found is =
    let most = found_most node.log.records node.lots issue lot lawful are found in
    let there = avail_most node.log.records issue lawful fits in
    record { lot = lot; found = found; all = omega (arith, is, most); few = omega (arith, is, most, there) }
