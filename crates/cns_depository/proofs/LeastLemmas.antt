-- The least openings: records that may stand with any openings may stand with these.
use Rattle.std.proofs.Common.{◌≡◌, ℕ, ◌+◌, ◌-◌, ◌^◌, ◌≤◌, ◌&&◌, true, false, List, [], ◌∷◌, None, arith, refl, ap, sym, ◌∙◌}
use Rattle.std.specs.Prelude.{◌==◌, ◌<◌, max, min, nat_lt}
use Rattle.std.proofs.lemmas.Bool.{and_from, and_left, cond-false, cond-true, eq-eqb, le-ltb, ltb-false}
use Rattle.std.proofs.lemmas.List.Sums.{sum_by-cons}
use Rattle.cns_movements.specs.declared.order.MoveKind.TheVariants.{Cover, Delivery}
use Rattle.cns_movements.specs.declared.order.Order.{Order}
use Rattle.cns_records.specs.declared.dep_record.DepRecord.{DepRecord}
use Rattle.cns_records.specs.declared.dep_record.DepRecord.TheVariants.{Exec, Own}
use Rattle.cns_records.specs.declared.instruction.Instruction.{Instruction}
use Rattle.cns_trades.specs.declared.opening.Opening.{Opening}
use Rattle.cns_depository.specs.declared.account.Account.{Account}
use Rattle.cns_depository.specs.declared.account.Account.TheVariants.{Cns, Member}
use Rattle.cns_depository.specs.declared.account.Side.TheVariants.{At, Outside}
use Rattle.cns_depository.specs.declared.fault.OwnRefusal.TheVariants.{IssueSum}
use Rattle.cns_depository.specs.declared.movement.Movement.{Movement}
use Rattle.cns_depository.specs.Account.{giver, own_giver, own_receiver, receiver, same_account, same_side}
use Rattle.cns_depository.specs.Least.{least}
use Rattle.cns_depository.specs.Openings.{issue_sum, opening_shares}
use Rattle.cns_depository.specs.Ranges.{AreEnough}
use Rattle.cns_depository.specs.Stock.{IsExecutable, IsLawfulDepot, balance_of, brought_to, held_in, moved_in, moved_out, own_refusal, part_in, part_out, taken_from, transfer_of}
use Rattle.cns_depository.specs.declared.account.Side.{Side}
use Rattle.cns_depository.proofs.BalanceLemmas.{moved_out_covered}
use Rattle.cns_depository.proofs.MovementLemmas.{by_sort, none_refused}

pub own_account : (a : Account) → same_account a a ≡ true
own_account Cns = refl
own_account (Member m) = eq-eqb m m refl

pub own_side : (s : Side) → same_side s s ≡ true
own_side Outside = refl
own_side (At a) = own_account a

-- no lawful records began with less
pub least_lawful : (openings : List Opening) (p : List DepRecord) (a : Account) (issue : ℕ) → IsLawfulDepot openings p → least p a issue ≤ opening_shares openings a issue
unfolding least
least_lawful openings [] a issue lawful = omega arith
least_lawful openings (e ∷ p) a issue lawful =
    let before = least_lawful openings p a issue lawful.1 in
    let now = moved_out_covered openings (e ∷ p) a issue lawful in
    omega (arith, before, now)

pub least_before : (e : DepRecord) (p : List DepRecord) (a : Account) (issue : ℕ) → least p a issue ≤ least (e ∷ p) a issue
unfolding least
least_before e p a issue = omega arith

-- what a record takes of its giver, and leaves elsewhere
pub taken_here : (e : DepRecord) (p : List DepRecord) (s : Side) (issue : ℕ) → (transfer_of e).giver ≡ s → (transfer_of e).issue ≡ issue → taken_from (e ∷ p) s issue ≡ (transfer_of e).shares + taken_from p s issue
unfolding taken_from
taken_here e p s issue from of =
    let t = transfer_of e in
    let both = and_from (same_side t.giver s) (t.issue == issue) (ap (λ x. same_side x s) from ∙ own_side s) (eq-eqb t.issue issue of) in
    omega (arith, cond-true _ t.shares 0 both, sum_by-cons (λ (e : DepRecord). part_out s issue (transfer_of e)) e p)

taken_other : (e : DepRecord) (p : List DepRecord) (s : Side) (issue : ℕ) → (same_side (transfer_of e).giver s && ((transfer_of e).issue == issue)) ≡ false → taken_from (e ∷ p) s issue ≡ taken_from p s issue
unfolding taken_from
taken_other e p s issue other = omega (arith, cond-false _ (transfer_of e).shares 0 other, sum_by-cons (λ (e : DepRecord). part_out s issue (transfer_of e)) e p)

-- what it brings is not less, and nothing where it is not the receiver's
brought_more : (e : DepRecord) (p : List DepRecord) (s : Side) (issue : ℕ) → brought_to p s issue ≤ brought_to (e ∷ p) s issue
unfolding brought_to
brought_more e p s issue = omega (arith, sum_by-cons (λ (e : DepRecord). part_in s issue (transfer_of e)) e p)

pub brought_other : (e : DepRecord) (p : List DepRecord) (s : Side) (issue : ℕ) → same_side (transfer_of e).receiver s ≡ false → brought_to (e ∷ p) s issue ≡ brought_to p s issue
unfolding brought_to
brought_other e p s issue other =
    omega (arith, cond-false _ (transfer_of e).shares 0 (and_left (same_side (transfer_of e).receiver s) ((transfer_of e).issue == issue) other), sum_by-cons (λ (e : DepRecord). part_in s issue (transfer_of e)) e p)

pub least_is : (e : DepRecord) (p : List DepRecord) (a : Account) (issue : ℕ) → least (e ∷ p) a issue ≡ max (least p a issue) (moved_out (e ∷ p) a issue - moved_in (e ∷ p) a issue)
unfolding least
least_is e p a issue = refl

-- what has passed what was brought is no more than the most by which it did so
least_covers : (p : List DepRecord) (a : Account) (issue : ℕ) → moved_out p a issue - moved_in p a issue ≤ least p a issue
unfolding least taken_from brought_to
least_covers [] a issue = omega arith
least_covers (e ∷ p) a issue = omega arith

pub least_same : (e : DepRecord) (p : List DepRecord) (a : Account) (issue : ℕ) → (same_side (transfer_of e).giver (At a) && ((transfer_of e).issue == issue)) ≡ false
    → least (e ∷ p) a issue ≡ least p a issue
least_same e p a issue other = omega (arith, least_is e p a issue, least_covers p a issue, taken_other e p (At a) issue other, brought_more e p (At a) issue)

balance_is : (openings : List Opening) (p : List DepRecord) (a : Account) (issue : ℕ) → balance_of openings p a issue ≡ (opening_shares openings a issue + moved_in p a issue) - moved_out p a issue
unfolding balance_of
balance_is openings p a issue = refl

cns_balance : (openings others : List Opening) (p : List DepRecord) (issue : ℕ) → balance_of openings p Cns issue ≡ balance_of others p Cns issue
unfolding balance_of
cns_balance openings others p issue = refl

pub held_is : (openings : List Opening) (p : List DepRecord) (issue : ℕ) → held_in openings p issue ≡ (issue_sum openings issue + taken_from p Outside issue) - brought_to p Outside issue
unfolding held_in
held_is openings p issue = refl

held_less : (less more : List Opening) (p : List DepRecord) (issue : ℕ) → issue_sum less issue ≤ issue_sum more issue → held_in less p issue ≤ held_in more p issue
unfolding held_in
held_less less more p issue fewer = omega (arith, fewer)

enough_before : (less more : List Opening) (e : DepRecord) (p : List DepRecord) → AreEnough less more (e ∷ p) → AreEnough less more p
enough_before less more e p are = record {
  enough = λ member issue. omega (arith, least_before e p (Member member) issue, are.enough member issue);
  fewer = are.fewer;
  sums = are.sums;
}

-- who gives receives nothing
order_apart : (o : Order) → same_account (receiver o) (giver o) ≡ false
order_apart o = elim o.kind as (λ kind. same_account (receiver (record o { kind = kind })) (giver (record o { kind = kind })) ≡ false) [ Cover ↦ refl | Delivery ↦ refl ]

-- what an account that gave all that it had opened with
pub all_taken : (openings : List Opening) (p : List DepRecord) (o : Order) (moved : ℕ) → moved < o.asked → IsLawfulDepot openings (Exec o moved ∷ p)
    → opening_shares openings (giver o) o.issue ≤ moved_out (Exec o moved ∷ p) (giver o) o.issue - moved_in (Exec o moved ∷ p) (giver o) o.issue
all_taken openings p o moved less lawful =
    omega (
      arith,
      less,
      ap (λ (m : Movement). m.moved) lawful.0.moves,
      balance_is openings p (giver o) o.issue,
      taken_here (Exec o moved) p (At (giver o)) o.issue refl refl,
      brought_other (Exec o moved) p (At (giver o)) o.issue (order_apart o),
      moved_out_covered openings p (giver o) o.issue lawful.1,
    )

module _ (less more : List Opening) (p : List DepRecord) where
  moves_same : (o : Order) (moved : ℕ) → AreEnough less more (Exec o moved ∷ p) → IsLawfulDepot more (Exec o moved ∷ p) → moved ≡ min o.asked (balance_of less p (giver o) o.issue)
  moves_same o moved are lawful = by (giver o) refl
    where
      moves : moved ≡ min o.asked (balance_of more p (giver o) o.issue)
      moves = ap (λ (m : Movement). m.moved) lawful.0.moves

      by : (a : Account) → giver o ≡ a → moved ≡ min o.asked (balance_of less p (giver o) o.issue)
      by Cns e =
          let same : balance_of more p (giver o) o.issue ≡ balance_of less p (giver o) o.issue =
          ap (λ (x : Account). balance_of more p x o.issue) e ∙ cns_balance more less p o.issue ∙ ap (λ (x : Account). balance_of less p x o.issue) (sym e) in
          moves ∙ ap (min o.asked) same
      by (Member m) e =
          let out = taken_here (Exec o moved) p (At (Member m)) o.issue (ap At e) refl in
          let into = brought_other (Exec o moved) p (At (Member m)) o.issue (ap (same_account (receiver o)) (sym e) ∙ order_apart o) in
          let need = least_is (Exec o moved) p (Member m) o.issue in
          let held = ap (λ (x : Account). balance_of more p x o.issue) e ∙ balance_is more p (Member m) o.issue in
          let has = ap (λ (x : Account). balance_of less p x o.issue) e ∙ balance_is less p (Member m) o.issue in
          omega (arith, moves, held, has, moved_out_covered more p (Member m) o.issue lawful.1, out, into, need, are.enough m o.issue, are.fewer m o.issue)

  still_may : (i : Instruction) → AreEnough less more (Own i ∷ p) → own_refusal more p i ≡ None → own_refusal less p i ≡ None
  still_may i are may = by_sort i.sort
      (λ deposit.
      let fits = ltb-false (10 ^ 18) (held_in more p i.issue + i.shares) (none_refused IssueSum (nat_lt (10 ^ 18) (held_in more p i.issue + i.shares)) (rw deposit at may)) in
      rw (deposit, le-ltb (10 ^ 18) (held_in less p i.issue + i.shares) (omega (arith, fits, held_less less more p i.issue (are.sums i.issue)))) refl)
      (λ withdraw.
      let from : own_giver i ≡ At (Member i.member) = rw withdraw refl in
      let into : same_side (own_receiver i) (At (Member i.member)) ≡ false = rw withdraw refl in
      let enough : i.shares ≤ balance_of less p (Member i.member) i.issue =
      omega (
        arith,
        balance_is less p (Member i.member) i.issue,
        taken_here (Own i) p (At (Member i.member)) i.issue from refl,
        brought_other (Own i) p (At (Member i.member)) i.issue into,
        least_is (Own i) p (Member i.member) i.issue,
        are.enough i.member i.issue,
      ) in
      rw (withdraw, le-ltb (balance_of less p (Member i.member) i.issue) i.shares enough) refl)

  still_stands : (e : DepRecord) → AreEnough less more (e ∷ p) → IsLawfulDepot more (e ∷ p) → IsExecutable less p e
  still_stands (Exec o moved) are lawful = record {
    number_is_new = lawful.0.number_is_new;
    moves = ap (λ (n : ℕ). record { order = o; moved = n }) (moves_same o moved are lawful);
  }
  still_stands (Own i) are lawful = record { number_is_new = lawful.0.number_is_new; may = still_may i are lawful.0.may }

-- with openings that are enough all may stand that may stand with more
pub enough_lawful : (less more : List Opening) (p : List DepRecord) → AreEnough less more p → IsLawfulDepot more p → IsLawfulDepot less p
enough_lawful less more [] are lawful = tt
enough_lawful less more (e ∷ p) are lawful = (still_stands less more p e are lawful, enough_lawful less more p (enough_before less more e p are) lawful.1)
