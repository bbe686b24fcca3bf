-- The plan of a lot and the shares poured into it: what holds of them at its opening holds until it closes.
use Rattle.std.proofs.Common.{◌≡◌, ℕ, ◌≤◌, List, [], ◌∷◌, ◌++◌, refl, subst, arith}
use Rattle.std.specs.Prelude.{All, filter}
use Rattle.std.proofs.lemmas.List.Elements.{All-weaker}
use Rattle.cns_netting.specs.Rows.{is_row_in}
use Rattle.cns_netting.specs.declared.position.PositionRow.{PositionRow}
use Rattle.cns_allocate.specs.Plan.{IsPlan}
use Rattle.cns_allocate.specs.declared.planned.Planned.{Planned}
use Rattle.cns_allocate.proofs.PlanLemmas.{IsPlan-plan_of, bounded_longs}
use Rattle.cns_allocate.proofs.WantLemmas.{plan_of-wants}
use Rattle.cns_covers.specs.Bounds.{want_in}
use Rattle.cns_records.specs.Clear.{AreWritable}
use Rattle.cns_records.specs.declared.clear_record.ClearRecord.{ClearRecord}
use Rattle.cns_clearing.specs.Books.{IsLawful, books_of, history_of, order_book_of}
use Rattle.cns_clearing.specs.Lots.{AreQuiet, IsLot, avail_in, longs_among, plan_in}
use Rattle.cns_clearing.specs.declared.lot.Lot.{Lot}
use Rattle.cns_clearing.proofs.BooksLemmas.{lawful_before, lawful_sound, writable_before}
use Rattle.cns_clearing.proofs.LotLemmas.{lot_split}
use Rattle.cns_clearing.proofs.PoolLemmas.{avail_since}
use Rattle.cns_clearing.proofs.WantLemmas.{want_since}

-- ---- the records before the opening of a lot

-- what leaves a lot open leaves it open up to any point
quiet_first : (issue : ℕ) (xs ys : List ClearRecord) → AreQuiet issue (xs ++ ys) → AreQuiet issue xs
quiet_first issue [] ys quiet = tt
quiet_first issue (x ∷ xs) ys quiet = (quiet.0, quiet_first issue xs ys quiet.1)

-- the records before the opening of a lot are lawful, and writable
pub lot_lawful : (c : List ClearRecord) (lot : Lot) → IsLawful c → (is : IsLot c lot) → IsLawful is.before
lot_lawful c lot lawful is = lawful_before (is.later ++ is.middle) is.before (subst IsLawful (lot_split c lot is) lawful)

-- and writable
pub lot_writable : (c : List ClearRecord) (lot : Lot) → AreWritable c → (is : IsLot c lot) → AreWritable is.before
lot_writable c lot fits is = writable_before (is.later ++ is.middle) is.before (subst AreWritable (lot_split c lot is) fits)

-- the shares poured into a lot are there
pub lot_pours : (c : List ClearRecord) (lot : Lot) → IsLawful c → IsLot c lot → lot.poured ≤ avail_in c lot.issue
lot_pours c lot lawful is =
    let there =
    avail_since is.later (is.middle ++ is.before) lot.issue (subst IsLawful is.split lawful) (quiet_first lot.issue is.later is.middle is.quiet) in
    rw is.split (omega (arith, there, is.poured))

-- ---- who was long

-- the members that are long in an issue stand among the rows of it
pub longs_in_part : (issue : ℕ) (rows : List PositionRow) → longs_among issue (filter (is_row_in issue) rows) ≡ longs_among issue rows
longs_in_part issue [] = refl
longs_in_part issue (row ∷ rows) = grind (arith, longs_in_part issue rows)

-- ---- the plan of a lot

-- the plan of a lot is one
pub lot_plan : (c : List ClearRecord) (lot : Lot) → IsLawful c → AreWritable c → IsLot c lot → IsPlan lot.plan
lot_plan c lot lawful fits is =
    let b = books_of is.before in
    let sound = lawful_sound is.before (lot_lawful c lot lawful is) (lot_writable c lot fits is) in
    rw is.plan (IsPlan-plan_of lot.issue b.history b.orders b.priorities (longs_among lot.issue b.previous) (bounded_longs b.history b.orders sound.netted sound.bounded))

-- those planned in a lot want no less than they did at its opening
pub lot_wants : (c : List ClearRecord) (lot : Lot) → IsLawful c → IsLot c lot → All (λ (p : Planned). p.asked ≤ want_in (history_of c) (order_book_of c) p.member lot.issue) lot.plan
lot_wants c lot lawful is =
    let b = books_of is.before in
    let split = lot_split c lot is in
    let since = λ (m : ℕ). rw (← split) at (want_since (is.later ++ is.middle) is.before m lot.issue (subst IsLawful split lawful) is.quiet) in
    rw is.plan
    (All-weaker (λ (p : Planned). p.asked ≤ want_in b.history b.orders p.member lot.issue) (λ (p : Planned). p.asked ≤ want_in (history_of c) (order_book_of c) p.member lot.issue)
    (λ p le. omega (arith, le, since p.member)) (plan_in is.before lot.issue) (plan_of-wants lot.issue b.history b.orders b.priorities (longs_among lot.issue b.previous)))
