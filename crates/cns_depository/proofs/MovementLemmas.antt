-- What records execute and transfer.
use Rattle.std.proofs.Common.{◌≡◌, ℕ, ◌≤◌, Bool, true, false, cond, ◌&&◌, List, [], ◌∷◌, Option, Some, None, ⊎_elim, arith, refl, ap}
use Rattle.std.specs.Prelude.{◌==◌, nat_lt, option_and_then}
use Rattle.std.proofs.lemmas.Bool.{cases_Bool, cond-false, cond-true, eqb-true, ltb-false}
use Rattle.cns_records.specs.declared.dep_record.DepRecord.{DepRecord}
use Rattle.cns_records.specs.declared.dep_record.DepRecord.TheVariants.{Exec, Own}
use Rattle.cns_trades.specs.declared.opening.Opening.{Opening}
use Rattle.cns_depository.specs.declared.account.Account.{Account}
use Rattle.cns_depository.specs.declared.account.Account.TheVariants.{Cns, Member}
use Rattle.cns_depository.specs.declared.account.Side.{Side}
use Rattle.cns_depository.specs.declared.account.Side.TheVariants.{Outside, At}
use Rattle.cns_depository.specs.declared.movement.Movement.{Movement}
use Rattle.cns_depository.specs.Account.{giver, same_account, same_side}
use Rattle.cns_depository.specs.Stock.{IsExecutable, balance_of, executed_in, executed_of, instructed_in, instructed_of, instruction_of, movement_of, transfer_of}
use Rattle.cns_depository.specs.Totals.{key_eq, key_of, record_of}
use Rattle.cns_depository.specs.declared.key.Key.{Key}
use Rattle.cns_depository.specs.declared.key.Key.TheVariants as key
use Rattle.cns_records.specs.declared.instruction.Sort.{Sort}
use Rattle.cns_records.specs.declared.instruction.Sort.TheVariants.{Deposit, Withdraw}
use Rattle.cns_depository.specs.declared.fault.OwnRefusal.{OwnRefusal}
use Rattle.cns_depository.specs.declared.fault.OwnRefusal.TheVariants.{TooFew}

pub equal_accounts : (a b : Account) → same_account a b ≡ true → a ≡ b
equal_accounts Cns Cns same = refl
equal_accounts Cns (Member n) same = absurd cc
equal_accounts (Member m) Cns same = absurd cc
equal_accounts (Member m) (Member n) same = ap Member (eqb-true m n same)

pub equal_sides : (a b : Side) → same_side a b ≡ true → a ≡ b
equal_sides Outside Outside same = refl
equal_sides Outside (At a) same = absurd cc
equal_sides (At a) Outside same = absurd cc
equal_sides (At a) (At b) same = ap At (equal_accounts a b same)

-- ---- records by their keys

-- the record of a key is the newest one, where it has the key
pub newest_record : (e : DepRecord) (p : List DepRecord) (k : Key) → key_eq (key_of e) k ≡ true → record_of (e ∷ p) k ≡ Some e
newest_record e p k its = cond-true (key_eq (key_of e) k) (Some e) (record_of p k) its

-- and else that of those before it
pub earlier_record : (e : DepRecord) (p : List DepRecord) (k : Key) → key_eq (key_of e) k ≡ false → record_of (e ∷ p) k ≡ record_of p k
earlier_record e p k other = cond-false (key_eq (key_of e) k) (Some e) (record_of p k) other

-- the movement of a number is that of the record of its key
pub movement_by_key : (p : List DepRecord) (n : ℕ) → option_and_then executed_in (record_of p (key.Movement n)) ≡ movement_of (executed_of p) n
movement_by_key [] n = refl
movement_by_key (Exec o moved ∷ p) n = ⊎_elim (λ e. rw e refl) (λ e. rw e (movement_by_key p n)) (cases_Bool (o.number == n))
movement_by_key (Own i ∷ p) n = movement_by_key p n

-- and an instruction is that of the record of its key
pub instruction_by_key : (p : List DepRecord) (m n : ℕ) → option_and_then instructed_in (record_of p (key.Own m n)) ≡ instruction_of (instructed_of p) m n
instruction_by_key [] m n = refl
instruction_by_key (Exec o moved ∷ p) m n = instruction_by_key p m n
instruction_by_key (Own i ∷ p) m n = ⊎_elim (λ e. rw e refl) (λ e. rw e (instruction_by_key p m n)) (cases_Bool ((i.member == m) && (i.number == n)))

-- ---- what records take

-- sides that are accounts' are the same where the accounts are
pub same_At : (a b : Account) → At a ≡ At b → a ≡ b
same_At a b e = cc

-- a test at which a refusal would be told fails where none is
pub none_refused : (r : OwnRefusal) (b : Bool) → ◌≡◌ {A = Option OwnRefusal} (cond b (Some r) None) None → b ≡ false
none_refused r true e = absurd cc
none_refused r false e = refl

-- a deposit or a withdrawal
pub by_sort : {P : Type 0} (sort : Sort) → (sort ≡ Deposit → P) → (sort ≡ Withdraw → P) → P
by_sort Deposit deposit withdraw = deposit refl
by_sort Withdraw deposit withdraw = withdraw refl

-- what a record takes of an account is there
pub transfer_covered : (openings : List Opening) (p : List DepRecord) (e : DepRecord) (a : Account) → IsExecutable openings p e → (transfer_of e).giver ≡ At a
    → (transfer_of e).shares ≤ balance_of openings p a (transfer_of e).issue
transfer_covered openings p (Exec o moved) a allowed from =
    let held = ap (λ (x : Account). balance_of openings p x o.issue) (same_At (giver o) a from) in
    omega (arith, ap (λ (m : Movement). m.moved) allowed.moves, held)
transfer_covered openings p (Own i) a allowed from = by_sort i.sort
    (λ deposit. let none : Outside ≡ At a = rw deposit at from in absurd cc)
    (λ withdraw.
    let held = ap (λ (x : Account). balance_of openings p x i.issue) (same_At (Member i.member) a (rw withdraw at from)) in
    let enough = none_refused TooFew (nat_lt (balance_of openings p (Member i.member) i.issue) i.shares) (rw withdraw at allowed.may) in
    omega (arith, held, ltb-false (balance_of openings p (Member i.member) i.issue) i.shares enough))
