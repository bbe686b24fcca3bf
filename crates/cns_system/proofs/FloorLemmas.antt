-- Busy lots by number, and what an event leaves of them.
use Rattle.std.proofs.Common.{◌≡◌, ◌∙◌, ◌≤◌, ◌<◌, ◌+◌, ℕ, zero, suc, Bool, true, false, cond, List, [], ◌∷◌, take, get_or, length, Option, Some, None, Result, ap, sym, subst, refl, arith, inl, inr}
use Rattle.std.specs.Prelude.{◌==◌, ◌-◌, All, MatchOption, option_map, slice_get, slice_set, unwrap_or, if◌then◌else◌}
use Rattle.std.proofs.lemmas.Bool.{eq-eqb, eqb-false, eqb-true, false_from_ne_true}
use Rattle.std.proofs.lemmas.List.Elements.{All-head, All-map, All-tail, All-weaker}
use Rattle.std.proofs.lemmas.List.{set-get_or}
use Rattle.std.proofs.lemmas.List.Folds.{map_fixed}
use Rattle.std.proofs.lemmas.Option.{get_or_from_slice_get, same_Some, slice_get_within}
use Rattle.cns_allocate.proofs.TurnLemmas.{count_none, find-none, find-passes}
use Rattle.cns_records.specs.Clear.{AreWritable}
use Rattle.cns_clearing.specs.Answers.{IsPoured}
use Rattle.cns_clearing.specs.Books.{IsLawful, order_book_of}
use Rattle.cns_clearing.proofs.LotLemmas.{found_issue}
use Rattle.cns_clearing.proofs.PouredLemmas.{pour_adds}
use Rattle.cns_clearing.specs.Lots.{AreLots, avail_in, lots_poured, refilled}
use Rattle.cns_clearing.specs.Pools.{free_of, lent_of, lot_of}
use Rattle.cns_clearing.specs.declared.lot.Lot.{Lot}
use Rattle.cns_records.specs.declared.clear_record.ClearRecord.{ClearRecord}
use Rattle.cns_records.specs.declared.refusal.Refusal.TheVariants as refusal
use Rattle.cns_system.specs.Floor.{AreBusy, AreByNumber, BusyLot, BySystem, FloorState, FloorStep, IsBusy, IsCellFed, IsBusyPlace, LooksAsked, NamesLot, PourFits, SparesBusy, busy_after_pour, busy_at, busy_with_look, busy_with_pour, busy_with_seal, changed_at, is_open, lot_changed, served_at, with_busy}
use Rattle.cns_system.specs.Lot.{LotState}
use Rattle.cns_wire.specs.Packet.{at_number}
use Rattle.cns_system.specs.Numbered.{AreTied, NumberedNode}
use Rattle.cns_system.specs.Readers.{PlanStep}
use Rattle.cns_system.specs.Scene.{Comes}
use Rattle.cns_system.specs.Shown.{Shown, shown_of}
use Rattle.cns_system.specs.World.{World}
use Rattle.cns_system.specs.declared.event.Event.{Event}
use Rattle.cns_system.specs.declared.event.Event.TheVariants as event
use Rattle.cns_system.specs.declared.event.NodeName.{NodeName}
use Rattle.cns_system.specs.declared.event.NodeName.TheVariants as node
use Rattle.cns_journal.specs.declared.keeper.NotPlanned.{NotPlanned}
use Rattle.cns_system.specs.declared.outcome.Outcome.{Outcome}
use Rattle.cns_system.specs.declared.outcome.Outcome.TheVariants as outcomes
use Rattle.cns_system.proofs.EventHolds.{pour_holds}
use Rattle.cns_system.proofs.EventKeeps.{step_keeps_lots}
use Rattle.cns_system.proofs.HappensLemmas.{OrRefused, comes_told}
use Rattle.cns_system.proofs.LotsLemmas.{IsGoing}
use Rattle.cns_system.proofs.RunLemmas.{Goes, goes_same, goes_step}
use Rattle.cns_system.proofs.SpareLemmas.{KeepsRest, rest_same}
use Rattle.cns_system.proofs.TiedLemmas.{found_poured}

-- ---- the busy lot of a number

-- where none is found, none has the number
pub none_busy : (busy : List BusyLot) (n : ℕ) → busy_at busy n ≡ None → All (λ (b : BusyLot). b.lot ≡ n → ⊥) busy
none_busy busy n none =
    let of_number : BusyLot → Bool = λ b. b.lot == n in
    All-weaker (λ (b : BusyLot). of_number b ≡ false) (λ (b : BusyLot). b.lot ≡ n → ⊥) (λ b other. eqb-false b.lot n other) busy
    (count_none of_number busy (find-none of_number busy none))

-- what is found has the number
pub busy_number : (busy : List BusyLot) (n : ℕ) (b : BusyLot) → busy_at busy n ≡ Some b → b.lot ≡ n
busy_number busy n b found = eqb-true b.lot n (find-passes (λ (c : BusyLot). c.lot == n) busy b found)

-- where none has the number, none is found
pub none_found : (busy : List BusyLot) (n : ℕ) → All (λ (b : BusyLot). b.lot ≡ n → ⊥) busy → busy_at busy n ≡ None
none_found [] n others = refl
none_found (x ∷ busy) n others =
    let P : BusyLot → Type 0 = λ b. b.lot ≡ n → ⊥ in
    let differs = false_from_ne_true (x.lot == n) (λ e. All-head P x busy others (eqb-true x.lot n e)) in
    ap (λ (t : Bool). cond t (Some x) (busy_at busy n)) differs ∙ none_found busy n (All-tail P x busy others)

-- the first that has the number is found
pub first_found : (busy : List BusyLot) (n place : ℕ) (b : BusyLot) → All (λ (c : BusyLot). c.lot ≡ n → ⊥) (take place busy) → slice_get busy place ≡ Some b → b.lot ≡ n
    → busy_at busy n ≡ Some b
first_found [] n place b others found is = cc
first_found (x ∷ busy) n zero b others found is =
    let same : x ≡ b = same_Some x b found in
    ap (λ (t : Bool). cond t (Some x) (busy_at busy n)) (eq-eqb x.lot n (ap (λ (c : BusyLot). c.lot) same ∙ is)) ∙ ap Some same
first_found (x ∷ busy) n (suc place) b others found is =
    let P : BusyLot → Type 0 = λ c. c.lot ≡ n → ⊥ in
    let differs = false_from_ne_true (x.lot == n) (λ e. All-head P x (take place busy) others (eqb-true x.lot n e)) in
    ap (λ (t : Bool). cond t (Some x) (busy_at busy n)) differs ∙ first_found busy n place b (All-tail P x (take place busy) others) found is

-- a busy lot that stands in a place, and has the number
pub record IsAt (busy : List BusyLot) (n place : ℕ) (x : BusyLot) : Type 0 where
  pub found : slice_get busy place ≡ Some x
  pub number : x.lot ≡ n

-- the one that is read in the place where it was found
pub read_busy : (busy items : List BusyLot) (n place : ℕ) (x : BusyLot) → items ≡ busy → IsBusyPlace (busy_at items n) items (Some place) → x ≡ get_or busy place x → IsAt busy n place x
read_busy busy items n place x same is read =
    let there : slice_get busy place ≡ Some is.0 = ap (λ (bs : List BusyLot). slice_get bs place) (sym same) ∙ is.2 in
    let one : x ≡ is.0 = read ∙ get_or_from_slice_get busy place is.0 x there in
    record { found = there ∙ ap Some (sym one); number = ap (λ (b : BusyLot). b.lot) one ∙ busy_number items n is.0 is.1 }

-- one that is served is busy
served_busy : (f : FloorState) (n : ℕ) (b : BusyLot) → served_at f n ≡ Some b → busy_at f.busy n ≡ Some b
served_busy f n b found = by (is_open f.system.clear.lots n) found
  where
    by : (t : Bool) → (if t then busy_at f.busy n else None) ≡ Some b → busy_at f.busy n ≡ Some b
    by true is = is
    by false is = cc

pub read_served : (f now : FloorState) (n place : ℕ) (x : BusyLot) → f ≡ now → IsBusyPlace (served_at now n) now.busy (Some place) → x ≡ get_or f.busy place x → IsAt f.busy n place x
read_served f now n place x same is read =
    read_busy f.busy now.busy n place x (ap (λ (g : FloorState). g.busy) (sym same)) (is.0, served_busy now n is.0 is.1, is.2) read

-- what is lent, by the node's open lot
abbrev lent_by : Option Lot → ℕ
lent_by o = unwrap_or (option_map (λ (l : Lot). l.poured) o) 0

-- ---- a change of the busy lot of a number

stays : (change : BusyLot → BusyLot) (n : ℕ) (b : BusyLot) → (b.lot ≡ n → ⊥) → changed_at change n b ≡ b
stays change n b other = by (b.lot == n) refl
  where
    by : (t : Bool) → (b.lot == n) ≡ t → (if t then change b else b) ≡ b
    by true e = absurd (other (eqb-true b.lot n e))
    by false e = refl

changes : (change : BusyLot → BusyLot) (n : ℕ) (b : BusyLot) → b.lot ≡ n → changed_at change n b ≡ change b
changes change n b is = ap (λ (t : Bool). if t then change b else b) (eq-eqb b.lot n is)

pub all_stay : (change : BusyLot → BusyLot) (n : ℕ) (busy : List BusyLot) → All (λ (b : BusyLot). b.lot ≡ n → ⊥) busy → with_busy change n busy ≡ busy
all_stay change n busy others =
    map_fixed (changed_at change n) busy (All-weaker (λ (b : BusyLot). b.lot ≡ n → ⊥) (λ (b : BusyLot). changed_at change n b ≡ b) (stays change n) busy others)

-- it is a change in its place
pub change_in_place : (change : BusyLot → BusyLot) (n : ℕ) (busy : List BusyLot) (place : ℕ) (b : BusyLot) → AreByNumber busy → slice_get busy place ≡ Some b → b.lot ≡ n
    → with_busy change n busy ≡ slice_set busy place (change b)
change_in_place change n [] place b order found is = cc
change_in_place change n (x ∷ busy) zero b order found is =
    let same : x ≡ b = same_Some x b found in
    let here : x.lot ≡ n = ap (λ (c : BusyLot). c.lot) same ∙ is in
    let others = All-weaker (λ (c : BusyLot). x.lot < c.lot) (λ (c : BusyLot). c.lot ≡ n → ⊥) (λ c below e. absurd (omega (arith, below, e, here))) busy order.0 in
    ap (λ (ys : List BusyLot). changed_at change n x ∷ ys) (all_stay change n busy others)
    ∙ ap (λ (y : BusyLot). y ∷ busy) (changes change n x here ∙ ap change same)
change_in_place change n (x ∷ busy) (suc place) b order found is =
    let at = order.0 place x (slice_get_within busy place b found) in
    let later : x.lot < n = subst (λ (m : ℕ). x.lot < m) (ap (λ (c : BusyLot). c.lot) (get_or_from_slice_get busy place b x found) ∙ is) at in
    ap (λ (y : BusyLot). y ∷ with_busy change n busy) (stays change n x (λ e. absurd (omega (arith, later, e))))
    ∙ ap (λ (ys : List BusyLot). x ∷ ys) (change_in_place change n busy place b order.1 found is)

-- the numbers stay
number_stays : (change : BusyLot → BusyLot) (n : ℕ) → ((b : BusyLot) → (change b).lot ≡ b.lot) → (b : BusyLot) → (changed_at change n b).lot ≡ b.lot
number_stays change n same b = by (b.lot == n)
  where
    by : (t : Bool) → (if t then change b else b).lot ≡ b.lot
    by true = same b
    by false = refl

order_stays : (change : BusyLot → BusyLot) (n : ℕ) → ((b : BusyLot) → (change b).lot ≡ b.lot) → (busy : List BusyLot) → AreByNumber busy → AreByNumber (with_busy change n busy)
order_stays change n same [] order = tt
order_stays change n same (x ∷ busy) order = (
  All-map (λ (c : BusyLot). (changed_at change n x).lot < c.lot) (changed_at change n) busy
      (All-weaker (λ (c : BusyLot). x.lot < c.lot) (λ (c : BusyLot). (changed_at change n x).lot < (changed_at change n c).lot)
      (λ c below. rw (number_stays change n same x, number_stays change n same c) below) busy order.0),
  order_stays change n same busy order.1,
)

-- busy lots stay busy, where each does with that change
busy_changed : (change : BusyLot → BusyLot) (n : ℕ) (old new : NumberedNode) → ((b : BusyLot) → (change b).lot ≡ b.lot) → ((b : BusyLot) → IsBusy old b → IsBusy new (changed_at change n b))
    → (busy : List BusyLot) → AreBusy old busy → AreBusy new (with_busy change n busy)
busy_changed change n old new same each busy are = record {
  each = All-map (IsBusy new) (changed_at change n) busy (All-weaker (IsBusy old) (λ (b : BusyLot). IsBusy new (changed_at change n b)) each busy are.each);
  order = order_stays change n same busy are.order;
}

-- ---- what an event leaves

-- a busy lot stays busy, and so do all
busy_kept : (changed : Option ℕ) (old new : World) (b : BusyLot) → IsBusy old.clear b → length old.clear.lots ≤ length new.clear.lots → KeepsRest changed (shown_of old) (shown_of new)
    → (changed ≡ Some b.lot → is_open old.clear.lots b.lot ≡ false) → IsBusy new.clear b
busy_kept changed old new b is longer rest spared = record {
  given = let a = is.given in omega arith;
  fed = λ lot found going.
      let before = rest b.lot lot spared is.given found going in
      let fed = is.fed lot before.0 going in
      record { poured = fed.poured ∙ ap lent_by (sym before.1); tickets = fed.tickets; unsealed = fed.unsealed };
}

pub all_kept : (changed : Option ℕ) (old new : World) (busy : List BusyLot) → AreBusy old.clear busy → length old.clear.lots ≤ length new.clear.lots
    → KeepsRest changed (shown_of old) (shown_of new) → All (λ (b : BusyLot). changed ≡ Some b.lot → is_open old.clear.lots b.lot ≡ false) busy → AreBusy new.clear busy
all_kept changed old new busy are longer rest spared = record {
  each = λ k d below. busy_kept changed old new _ (are.each k d below) longer rest (spared k d below);
  order = are.order;
}

-- where no lot changes, all are kept
all_same : (old new : World) (busy : List BusyLot) → AreBusy old.clear busy → new.clear.lots ≡ old.clear.lots → new.clear.clear.lots ≡ old.clear.clear.lots → AreBusy new.clear busy
all_same old new busy are lots open_lots =
    all_kept None old new busy are (omega (arith, ap length lots)) (rest_same None (shown_of old) (shown_of new) lots open_lots) (λ k d below some. let no = some in cc)

-- an event that changes no busy lot, but one that has ended
pub step_kept : (e : Event) (outcome : Outcome) (old new : World) (f : FloorState) → f.system ≡ old → AreTied old.clear.clear.lots old.clear.lots → Comes e outcome old new
    → AreBusy old.clear f.busy → SparesBusy e f → AreBusy new.clear f.busy
step_kept e outcome old new f is tied comes are spared =
    let kept = step_keeps_lots e outcome old new comes in
    all_kept (lot_changed e) old new f.busy are kept.longer (kept.rest tied)
    (subst (λ (w : World). All (λ (b : BusyLot). lot_changed e ≡ Some b.lot → is_open w.clear.lots b.lot ≡ false) f.busy) is spared)

-- a plan of a failure changes no lot
pub plan_kept : (name : NodeName) (stands : Bool) (result : Result (Unit {0}) NotPlanned) (old new : World) (busy : List BusyLot) → PlanStep name stands result old new
    → AreBusy old.clear busy → AreBusy new.clear busy
plan_kept node.Clear stands result old new busy h are = all_same old new busy are h.1 h.0.1
plan_kept node.Depot stands result old new busy h are = subst (λ (n : NumberedNode). AreBusy n busy) (sym h.1) are

-- what the clearing node's records and open lots are, whatever the keepers are
pub record AreBacked (w : World) : Type 0 where
  pub lawful : IsLawful w.clear.clear.log.records
  pub fits : AreWritable w.clear.clear.log.records
  pub lots : AreLots w.clear.clear.log.records w.clear.clear.lots

-- ---- a pour

-- the lot of an issue has all shares that are there once it is poured into
lent_poured : (c : List ClearRecord) (issue : ℕ) (lots : List Lot) (lot : Lot) → lot_of lots issue ≡ Some lot → lent_of (lots_poured c issue lots) issue ≡ avail_in c issue
lent_poured c issue lots lot found =
    ap lent_by (found_poured c issue issue lots ∙ ap (option_map (refilled issue (length c) (avail_in c issue))) found)
    ∙ ap (λ (b : Bool). (if b then record lot { upto = length c; poured = avail_in c issue } else lot).poured) (eq-eqb lot.issue issue (found_issue lots issue lot found))

pub not_poured : (outcome : Outcome) (n : ℕ) (busy : List BusyLot) → ((shares : ℕ) → outcome ≡ outcomes.Poured shares → ⊥) → busy_after_pour outcome n busy ≡ busy
not_poured (outcomes.Poured shares) n busy other = absurd (other shares refl)
not_poured _ n busy other = refl

-- what a pour into the lot of a number comes to, and leaves
record PoursInto (n : ℕ) (w : Shown) (outcome : Outcome) (left : Shown) : Type 0 where
  pub lot : LotState
  pub at : IsGoing w.lots n lot
  pub told : outcome ≡ outcomes.Poured (free_of (order_book_of w.clear.records) w.open_lots lot.issue)
  pub lots : left.lots ≡ w.lots
  pub open_lots : left.open_lots ≡ lots_poured w.clear.records lot.issue w.open_lots

-- a pour comes to it, or is refused
pours_by : (n : ℕ) (outcome : Outcome) (old new : World) → Comes (event.LotPour n) outcome old new → OrRefused (PoursInto n) (shown_of old) outcome (shown_of new)
pours_by n outcome old new comes =
    comes_told (PoursInto n) (event.LotPour n) outcome old new comes
    (λ d. pour_holds (OrRefused (PoursInto n) (shown_of old)) d (shown_of old) n (λ lot at. inr (record { lot = lot; at = at; told = refl; lots = refl; open_lots = refl })))

-- a pour of these shares adds them to what the lot of the issue had, to all that are there
added_by : (n : ℕ) (outcome : Outcome) (old new : World) → AreBacked old → (p : PoursInto n (shown_of old) outcome (shown_of new)) → AreTied old.clear.clear.lots old.clear.lots
    → IsPoured old.clear.clear p.lot.issue (free_of (order_book_of old.clear.clear.log.records) old.clear.clear.lots p.lot.issue)
added_by n outcome old new backed p tied =
    let twin = tied.each n p.lot p.at.found p.at.going in
    let lent : lent_of old.clear.clear.lots p.lot.issue ≡ twin.twin.poured = ap lent_by twin.found in
    pour_adds old.clear.clear p.lot.issue (free_of (order_book_of old.clear.clear.log.records) old.clear.clear.lots p.lot.issue) twin.twin backed.lawful backed.fits backed.lots twin.found
    (ap (λ (x : ℕ). avail_in old.clear.clear.log.records p.lot.issue - x) lent)

-- what is poured into the lot of a number is poured into its cell
poured_busy : (n : ℕ) (outcome : Outcome) (old new : World) (b : BusyLot) → AreBacked old → AreTied old.clear.clear.lots old.clear.lots → Comes (event.LotPour n) outcome old new
    → (p : PoursInto n (shown_of old) outcome (shown_of new)) → IsBusy old.clear b
    → IsBusy new.clear (changed_at (busy_with_pour (free_of (order_book_of old.clear.clear.log.records) old.clear.clear.lots p.lot.issue)) n b)
poured_busy n outcome old new b backed tied comes p busy = by (b.lot == n) refl
  where
    shares : ℕ
    shares = free_of (order_book_of old.clear.clear.log.records) old.clear.clear.lots p.lot.issue

    more : b.lot ≡ n → (l : LotState) → at_number old.clear.lots b.lot ≡ Some l → IsCellFed new.clear.clear.lots (busy_with_pour shares b) l
    more same l found =
        let pour = added_by n outcome old new backed p tied in
        let one : p.lot ≡ l = same_Some p.lot l (sym p.at.found ∙ ap (at_number old.clear.lots) (sym same) ∙ found) in
        let fed = busy.fed p.lot (ap (at_number old.clear.lots) same ∙ p.at.found) p.at.going in
        let before : b.poured ≡ pour.lot.poured = fed.poured ∙ ap lent_by pour.found in
        let after : lent_of new.clear.clear.lots p.lot.issue ≡ avail_in old.clear.clear.log.records p.lot.issue =
        ap (λ (ls : List Lot). lent_of ls p.lot.issue) p.open_lots ∙ lent_poured old.clear.clear.log.records p.lot.issue old.clear.clear.lots pour.lot pour.found in
        subst (IsCellFed new.clear.clear.lots (busy_with_pour shares b)) one
        (record { poured = ap (λ (x : ℕ). x + shares) before ∙ pour.all ∙ sym after; tickets = fed.tickets; unsealed = fed.unsealed })

    by : (t : Bool) → (b.lot == n) ≡ t → IsBusy new.clear (if t then busy_with_pour shares b else b)
    by true e = record {
      given = let a = busy.given in let len = ap length p.lots in omega arith;
      fed = λ l here up. more (eqb-true b.lot n e) l (ap (λ (lots : List LotState). at_number lots b.lot) (sym p.lots) ∙ here);
    }
    by false e =
        let kept = step_keeps_lots (event.LotPour n) outcome old new comes in
        busy_kept (Some n) old new b busy kept.longer (kept.rest tied) (λ some. absurd (eqb-false b.lot n e (sym (same_Some n b.lot some))))

pub pour_kept : (n : ℕ) (outcome : Outcome) (old new : World) (busy : List BusyLot) → AreBacked old → AreTied old.clear.clear.lots old.clear.lots → Comes (event.LotPour n) outcome old new
    → AreBusy old.clear busy → AreBusy new.clear (busy_after_pour outcome n busy)
pour_kept n outcome old new busy backed tied comes are = by (pours_by n outcome old new comes)
  where
    by : OrRefused (PoursInto n) (shown_of old) outcome (shown_of new) → AreBusy new.clear (busy_after_pour outcome n busy)
    by (inl refuses) = rw (refuses.is) (all_same old new busy are refuses.lots refuses.open_lots)
    by (inr p) =
        let shares = free_of (order_book_of old.clear.clear.log.records) old.clear.clear.lots p.lot.issue in
        subst (λ (o : Outcome). AreBusy new.clear (busy_after_pour o n busy)) (sym p.told)
        (busy_changed (busy_with_pour shares) n old.clear new.clear (λ b. refl) (λ b is. poured_busy n outcome old new b backed tied comes p is) busy are)

-- the cell takes what was poured into the lot
pub pour_fits : (n shares : ℕ) (outcome : Outcome) (old new : World) (busy : List BusyLot) → AreBacked old → AreTied old.clear.clear.lots old.clear.lots
    → Comes (event.LotPour n) outcome old new → outcome ≡ outcomes.Poured shares → AreBusy old.clear busy → PourFits n shares busy
pour_fits n shares outcome old new busy backed tied comes told are = by (pours_by n outcome old new comes)
  where
    by : OrRefused (PoursInto n) (shown_of old) outcome (shown_of new) → PourFits n shares busy
    by (inl refuses) = absurd (cc (told, refuses.is))
    by (inr p) =
        let pour = added_by n outcome old new backed p tied in
        let same : shares ≡ free_of (order_book_of old.clear.clear.log.records) old.clear.clear.lots p.lot.issue = cc (told, p.told) in
        λ k d below number.
        let fed = (are.each k d below).fed p.lot (ap (at_number old.clear.lots) number ∙ p.at.found) p.at.going in
        let poured = fed.poured ∙ ap lent_by pour.found in
        let few = pour.few in omega (arith, same, few, poured)

-- ---- what an event comes to, by the busy lot that is found

pub match_some : (found : Option BusyLot) (P : Type 0) (A : BusyLot → Type 0) (b : BusyLot) → found ≡ Some b → A b → MatchOption found P A
match_some found P A b is a = subst (λ (o : Option BusyLot). MatchOption o P A) (sym is) a

-- both nodes and the link change by an event, or stay
goes_by : (found : Option BusyLot) (A : BusyLot → Type 0) (e : Event) (o : Outcome) (old new : FloorState) → ((b : BusyLot) → A b → new.system ≡ old.system)
    → MatchOption found (BySystem e o old new) A → Goes old.system new.system
goes_by None A e o old new same h = goes_step e o old.system new.system h.0
goes_by (Some b) A e o old new same h = goes_same old.system new.system (same b h)

pub floor_goes : (e : Event) (o : Outcome) (old new : FloorState) → FloorStep e o old new → Goes old.system new.system
floor_goes (event.Reserve lot member) o old new h =
    goes_by (busy_at old.busy lot) (λ (b : BusyLot). (o ≡ outcomes.Refused refusal.LotBusy) × (new ≡ old)) (event.Reserve lot member) o old new (λ b a. ap (λ (f : FloorState). f.system) a.1) h
floor_goes (event.LotClose lot) o old new h =
    goes_by (busy_at old.busy lot) (λ (b : BusyLot). (o ≡ outcomes.Refused refusal.LotBusy) × (new ≡ old)) (event.LotClose lot) o old new (λ b a. ap (λ (f : FloorState). f.system) a.1) h
floor_goes (event.LotPour lot) o old new h = goes_step (event.LotPour lot) o old.system new.system h.0
floor_goes (event.LookPoured lot) o old new h =
    goes_by (served_at old lot) (λ (b : BusyLot). (o ≡ outcomes.LookedPoured b.poured) × (new ≡ old)) (event.LookPoured lot) o old new (λ b a. ap (λ (f : FloorState). f.system) a.1) h
floor_goes (event.LookAsked lot) o old new h =
    goes_by (served_at old lot) (λ (b : BusyLot). LooksAsked lot b o old new) (event.LookAsked lot) o old new (λ b a. ap (λ (f : FloorState). f.system) a.seen) h
floor_goes (event.Seal lot) o old new h =
    goes_by (served_at old lot) (λ (b : BusyLot). (o ≡ outcomes.Done) × (new ≡ record old { busy = with_busy busy_with_seal lot old.busy })) (event.Seal lot) o old new
    (λ b a. ap (λ (f : FloorState). f.system) a.1) h
floor_goes e o old new h = goes_step e o old.system new.system h.0

-- ---- the cell's own events

-- so many more may be poured into the cell that is read
pub fits_at : (n shares place : ℕ) (busy : List BusyLot) (x : BusyLot) → PourFits n shares busy → IsAt busy n place x → x.poured + shares ≤ 1000000000000000000
fits_at n shares place busy x fits at =
    let same = get_or_from_slice_get busy place x x at.found in
    subst (λ (b : BusyLot). b.lot ≡ n → b.poured + shares ≤ 1000000000000000000) same (fits place x (slice_get_within busy place x at.found)) at.number

-- what a change in its place leaves
pub changed_in_place : (change : BusyLot → BusyLot) (n place : ℕ) (busy : List BusyLot) (x new : BusyLot) → AreByNumber busy → IsAt busy n place x → new ≡ change x
    → slice_set busy place new ≡ with_busy change n busy
changed_in_place change n place busy x new order at is =
    ap (λ (b : BusyLot). slice_set busy place b) is ∙ sym (change_in_place change n busy place x order at.found at.number)

-- a look leaves the busy lot, and so all, as it was; it is of the one that is served
pub record LooksAt (f now : FloorState) (n place : ℕ) (x new : BusyLot) : Type 0 where
  pub found : served_at now n ≡ Some x
  pub same : record f { busy = slice_set f.busy place new } ≡ now

pub looks_at : (f now : FloorState) (n place : ℕ) (x new : BusyLot) → f ≡ now → IsBusyPlace (served_at now n) now.busy (Some place) → x ≡ get_or f.busy place x → new ≡ x
    → LooksAt f now n place x new
looks_at f now n place x new same is read stays =
    let at = read_served f now n place x same is read in
    let one : is.0 ≡ x = same_Some is.0 x (sym is.2 ∙ ap (λ (g : FloorState). slice_get g.busy place) (sym same) ∙ at.found) in
    let items : slice_set f.busy place new ≡ f.busy = ap (λ (b : BusyLot). slice_set f.busy place b) (stays ∙ read) ∙ set-get_or f.busy place x in
    record {
      found = is.1 ∙ ap Some one;
      same = ap (λ (bs : List BusyLot). record f { busy = bs }) items ∙ same;
    }

-- a change that leaves the number of a busy lot, and what was poured into its cell; a seal and a look are such
pub record LeavesPours (change : BusyLot → BusyLot) : Type 0 where
  pub lot : (b : BusyLot) → (change b).lot ≡ b.lot
  pub poured : (b : BusyLot) → (change b).poured ≡ b.poured

pub seal_leaves : LeavesPours busy_with_seal
seal_leaves = record { lot = λ b. refl; poured = λ b. refl }

pub look_leaves : (asked : ℕ) → LeavesPours (busy_with_look asked)
look_leaves asked = record { lot = λ b. refl; poured = λ b. refl }

changed_busy : (change : BusyLot → BusyLot) → LeavesPours change → (node : NumberedNode) (n : ℕ) (b : BusyLot) → IsBusy node b → IsBusy node (changed_at change n b)
changed_busy change leaves node n b is = by (b.lot == n)
  where
    by : (t : Bool) → IsBusy node (if t then change b else b)
    by true = record {
      given = subst (λ (m : ℕ). m ≤ length node.lots) (sym (leaves.lot b)) is.given;
      fed = λ l found going.
          let fed = is.fed l (ap (at_number node.lots) (sym (leaves.lot b)) ∙ found) going in
          record { poured = leaves.poured b ∙ fed.poured; tickets = fed.tickets; unsealed = fed.unsealed };
    }
    by false = is

all_changed : (change : BusyLot → BusyLot) → LeavesPours change → (node : NumberedNode) (n : ℕ) (busy : List BusyLot) → AreBusy node busy → AreBusy node (with_busy change n busy)
all_changed change leaves node n busy are = busy_changed change n node node leaves.lot (changed_busy change leaves node n) busy are

-- such a change of the one that is served, in its place: it is found, and the floor is the one with that change
pub record ChangesAt (change : BusyLot → BusyLot) (f now : FloorState) (n place : ℕ) (x new : BusyLot) : Type 0 where
  pub found : served_at now n ≡ Some x
  pub kept : AreBusy f.system.clear (slice_set f.busy place new)
  pub changed : record f { busy = slice_set f.busy place new } ≡ record now { busy = with_busy change n now.busy }

pub changes_at : (change : BusyLot → BusyLot) → LeavesPours change → (f now : FloorState) (n place : ℕ) (x new : BusyLot) → f ≡ now
    → IsBusyPlace (served_at now n) now.busy (Some place) → x ≡ get_or f.busy place x → new ≡ change x → AreBusy f.system.clear f.busy → ChangesAt change f now n place x new
changes_at change leaves f now n place x new same is read changed are =
    let at = read_served f now n place x same is read in
    let one : is.0 ≡ x = same_Some is.0 x (sym is.2 ∙ ap (λ (g : FloorState). slice_get g.busy place) (sym same) ∙ at.found) in
    let items : slice_set f.busy place new ≡ with_busy change n f.busy = changed_in_place change n place f.busy x new are.order at changed in
    record {
      found = is.1 ∙ ap Some one;
      kept = subst (AreBusy f.system.clear) (sym items) (all_changed change leaves f.system.clear n f.busy are);
      changed = ap (λ (bs : List BusyLot). record f { busy = bs }) items ∙ ap (λ (g : FloorState). record g { busy = with_busy change n g.busy }) same;
    }

-- ---- events that change no busy lot, but one that has ended

pub seal_spared : (f : FloorState) (n : ℕ) → served_at f n ≡ None → All (λ (b : BusyLot). Some n ≡ Some b.lot → is_open f.system.clear.lots b.lot ≡ false) f.busy
seal_spared f n none = by (is_open f.system.clear.lots n) refl none
  where
    by : (t : Bool) → is_open f.system.clear.lots n ≡ t → (if t then busy_at f.busy n else None) ≡ None
        → All (λ (b : BusyLot). Some n ≡ Some b.lot → is_open f.system.clear.lots b.lot ≡ false) f.busy
    by true e is = λ k d below some. absurd (none_busy f.busy n is k d below (sym (same_Some n _ some)))
    by false e is = λ k d below some. subst (λ (i : ℕ). is_open f.system.clear.lots i ≡ false) (same_Some n _ some) e

pub unless_spared : (e : Event) (n : ℕ) (f : FloorState) (items : List BusyLot) → items ≡ f.busy → NamesLot e n → busy_at items n ≡ None → SparesBusy e f
unless_spared e n f items same names none =
    let none' : busy_at f.busy n ≡ None = ap (λ (bs : List BusyLot). busy_at bs n) (sym same) ∙ none in
    λ k d below some. absurd (none_busy f.busy n none' k d below (sym (same_Some n _ (sym names ∙ some))))
