-- What is so of the movements that lawful records executed.
use Rattle.std.proofs.Common.{◌≡◌, ℕ, ◌≤◌, Bool, false, ◌&&◌, List, [], ◌∷◌, None, arith, refl, ap}
use Rattle.std.specs.Prelude.{◌==◌, All, sum_by, if◌then◌else◌}
use Rattle.std.proofs.lemmas.List.Elements.{All-cons, All-nil}
use Rattle.std.proofs.lemmas.List.Sums.{sum_by-cons}
use Rattle.cns_movements.specs.Order.{is_cover, is_delivery}
use Rattle.cns_movements.specs.declared.order.MoveKind.TheVariants.{Cover, Delivery}
use Rattle.cns_movements.specs.declared.order.Order.{Order}
use Rattle.cns_records.specs.declared.dep_record.DepRecord.{DepRecord}
use Rattle.cns_records.specs.declared.dep_record.DepRecord.TheVariants.{Exec, Own}
use Rattle.cns_trades.specs.declared.opening.Opening.{Opening}
use Rattle.cns_depository.specs.declared.account.Account.TheVariants.{Cns}
use Rattle.cns_depository.specs.declared.account.Side.TheVariants.{At}
use Rattle.cns_records.specs.declared.instruction.Instruction.{Instruction}
use Rattle.cns_records.specs.declared.instruction.Sort.TheVariants.{Deposit, Withdraw}
use Rattle.cns_depository.specs.declared.movement.Movement.{Movement}
use Rattle.cns_depository.specs.Account.{giver, own_giver, own_receiver, receiver, same_account, same_side}
use Rattle.cns_depository.specs.Stock.{IsLawfulDepot, brought_to, executed_of, moved_in, moved_out, movement_of, part_in, part_out, taken_from, transfer_of}

-- no two movements are of one number
abbrev pub AreOnce : List Movement → Type 0
AreOnce [] = Unit {0}
AreOnce (m ∷ movements) = (movement_of movements m.order.number ≡ None) × AreOnce movements

pub lawful_once : (openings : List Opening) (p : List DepRecord) → IsLawfulDepot openings p → AreOnce (executed_of p)
lawful_once openings [] lawful = tt
lawful_once openings (Exec o moved ∷ p) lawful = (lawful.0.number_is_new, lawful_once openings p lawful.1)
lawful_once openings (Own i ∷ p) lawful = lawful_once openings p lawful.1

-- a movement moved no more than was asked for
abbrev pub IsWithin : Movement → Type 0
IsWithin m = m.moved ≤ m.order.asked

pub lawful_within : (openings : List Opening) (p : List DepRecord) → IsLawfulDepot openings p → All IsWithin (executed_of p)
lawful_within openings [] lawful = All-nil IsWithin
lawful_within openings (Exec o moved ∷ p) lawful =
    let moves = ap (λ (m : Movement). m.moved) lawful.0.moves in
    All-cons IsWithin (record { order = o; moved = moved }) (executed_of p) (omega (arith, moves)) (lawful_within openings p lawful.1)
lawful_within openings (Own i ∷ p) lawful = lawful_within openings p lawful.1

-- ---- what movements bring to the CNS account, and take from it

-- what a movement moved, where its order passes a test
abbrev pub moved_where : (Order → Bool) → Movement → ℕ
moved_where test m = if test m.order then m.moved else 0

-- the shares of an issue that covers moved, and those that deliveries moved
abbrev pub covers_moved : List Movement → ℕ → ℕ
covers_moved movements issue = sum_by (moved_where (λ o. is_cover o.kind && (o.issue == issue))) movements

abbrev pub deliveries_moved : List Movement → ℕ → ℕ
deliveries_moved movements issue = sum_by (moved_where (λ o. is_delivery o.kind && (o.issue == issue))) movements

cover_enters : (o : Order) → same_account (receiver o) Cns ≡ is_cover o.kind
cover_enters o = elim o.kind as (λ kind. same_account (receiver (record o { kind = kind })) Cns ≡ is_cover kind) [ Cover ↦ refl | Delivery ↦ refl ]

delivery_leaves : (o : Order) → same_account (giver o) Cns ≡ is_delivery o.kind
delivery_leaves o = elim o.kind as (λ kind. same_account (giver (record o { kind = kind })) Cns ≡ is_delivery kind) [ Cover ↦ refl | Delivery ↦ refl ]

-- a sum over records to which each adds what its movement moved, where the order passes a test, and an instruction nothing
sum_executed : (part : DepRecord → ℕ) (test : Order → Bool) → ((o : Order) (moved : ℕ) → part (Exec o moved) ≡ moved_where test (record { order = o; moved = moved }))
    → ((i : Instruction) → part (Own i) ≡ 0) → (p : List DepRecord) → sum_by part p ≡ sum_by (moved_where test) (executed_of p)
sum_executed part test same none [] = refl
sum_executed part test same none (Exec o moved ∷ p) =
    let m : Movement = record { order = o; moved = moved } in
    omega (arith, sum_by-cons part (Exec o moved) p, sum_by-cons (moved_where test) m (executed_of p), same o moved, sum_executed part test same none p)
sum_executed part test same none (Own i ∷ p) = omega (arith, sum_by-cons part (Own i) p, none i, sum_executed part test same none p)

-- no instruction brings anything to the CNS account, or takes anything from it
own_enters : (i : Instruction) → same_side (own_receiver i) (At Cns) ≡ false
own_enters i = elim i.sort as (λ sort. same_side (own_receiver (record i { sort = sort })) (At Cns) ≡ false) [ Deposit ↦ refl | Withdraw ↦ refl ]

own_leaves : (i : Instruction) → same_side (own_giver i) (At Cns) ≡ false
own_leaves i = elim i.sort as (λ sort. same_side (own_giver (record i { sort = sort })) (At Cns) ≡ false) [ Deposit ↦ refl | Withdraw ↦ refl ]

-- covers alone move shares into the CNS account, and deliveries alone move them out of it
pub moved_in_cns : (p : List DepRecord) (issue : ℕ) → moved_in p Cns issue ≡ covers_moved (executed_of p) issue
unfolding brought_to
moved_in_cns p issue =
    sum_executed (λ e. part_in (At Cns) issue (transfer_of e)) (λ o. is_cover o.kind && (o.issue == issue))
    (λ o moved. ap (λ (b : Bool). if b && (o.issue == issue) then moved else 0) (cover_enters o))
    (λ i. ap (λ (b : Bool). if b && (i.issue == issue) then i.shares else 0) (own_enters i)) p

pub moved_out_cns : (p : List DepRecord) (issue : ℕ) → moved_out p Cns issue ≡ deliveries_moved (executed_of p) issue
unfolding taken_from
moved_out_cns p issue =
    sum_executed (λ e. part_out (At Cns) issue (transfer_of e)) (λ o. is_delivery o.kind && (o.issue == issue))
    (λ o moved. ap (λ (b : Bool). if b && (o.issue == issue) then moved else 0) (delivery_leaves o))
    (λ i. ap (λ (b : Bool). if b && (i.issue == issue) then i.shares else 0) (own_leaves i)) p
