-- What any calls of a journal on a disk leave of it, and a crash at any moment of them.
use Rattle.std.proofs.Common.{◌≡◌, ◌⊎◌, inl, inr, ⊎_elim, ℕ, suc, ◌≤◌, Bool, true, false, List, [], ◌∷◌, Result, Ok, Err, refl, arith}
use Rattle.std.specs.Prelude.{Any, IfOk, IsErrOf, OnOk}
use Rattle.cns_journal.specs.Disk.{EachImage, LeavesOnly}
use Rattle.cns_journal.specs.DiskJournal.{AreCalls, AnyCalls, AnyCallsDoNoDamage, Call, DiskState, IsCall, IsDurable, MayLeave}
use Rattle.cns_journal.specs.Keeper.{CommitKeeps, CommitLeaves, IsReopened, Journal, ReopenKeeps}
use Rattle.cns_journal.specs.Layout.{HasWithOrWithout, journal_of}
use Rattle.cns_journal.specs.Tail.{IsUndamaged}
use Rattle.cns_journal.specs.declared.keeper.KeepFault.{KeepFault}
use Rattle.cns_journal.specs.declared.keeper.KeepFault.TheVariants.{Memory, Down, Device}
use Rattle.cns_journal.proofs.Moments.{at_end}

module _ {D : Type 0} {images : D → List ℕ → Type 0} {moment : D → ℕ} (left_since : D → ℕ → List ℕ → Type 0) where
  -- what each call leaves, where it keeps what is so between two calls, is all that calls leave since a moment before them
  left_by : (I : DiskState D → Type 0) (P : Call × Journal → List ℕ → Type 0)
      → ((c : Call × Journal) (old next : DiskState D) → c.1 ≡ old.journal → IsCall images moment left_since c.0 old next → I old → LeavesOnly moment left_since old.disk next.disk (P c) × I next)
      → (calls : List (Call × Journal)) (old new : DiskState D) → AreCalls images moment left_since calls old new → I old
      → (t : ℕ) (image : List ℕ) → t ≤ moment old.disk → left_since new.disk t image → left_since old.disk t image ⊎ Any (λ (c : Call × Journal). P c image) calls
  left_by I P leaves [] old new same holds t image le left = inl (rw same at left)
  left_by I P leaves (c ∷ calls) old new are holds t image le left =
      let one = leaves c old are.1.0 are.0 are.1.1 holds in
      elim (left_by I P leaves calls are.1.0 new are.1.2 one.1 t image (omega (arith, le, one.0.later)) left) [
        | inr some ↦ inr (suc some.0, some.1, (let less = some.2 in omega arith), some.3, some.4)
        | inl before ↦ ⊎_elim inl (λ this. inr (0, c, omega arith, refl, this)) (one.0.before t image le before)
      ]

  module _ {honest : D → Bool} (only_now : (disk : D) (image : List ℕ) → honest disk ≡ true → left_since disk (moment disk) image → images disk image) where
    -- a crash at any moment of calls leaves what one of them may leave, or what was there before
    pub any_calls : AnyCalls honest images moment left_since
    any_calls calls old new sure durable are image left =
        ⊎_elim (λ now. inl (durable image (only_now old.disk image sure now))) inr
        (left_by (IsDurable images) (λ c. MayLeave c.0 c.1) (λ c old next is one holds. (rw is (one.any_moment holds), one.stays holds)) calls old new are durable (moment old.disk) image (omega arith) left)

    -- nor do they do damage
    pub any_calls_harmless : AnyCallsDoNoDamage honest images moment left_since
    any_calls_harmless calls old new sure whole are image left =
        ⊎_elim (λ now. whole image (only_now old.disk image sure now)) (λ some. some.4)
        (left_by (λ j. EachImage (images j.disk) IsUndamaged) (λ c. IsUndamaged) (λ c old next is one holds. ((one.no_damage holds).any_moment, (one.no_damage holds).after))
        calls old new are whole (moment old.disk) image (omega arith) left)

  -- what is durable stays so over a commit and over a reopening
  module _ {honest : D → Bool} (counts_now : (disk : D) (t : ℕ) (image : List ℕ) → honest disk ≡ true → t ≤ moment disk → images disk image → left_since disk t image) where
    -- over a commit
    pub commit-stays : (payload : List ℕ) (result : Result (Unit {0}) KeepFault) (old new : DiskState D) → honest new.disk ≡ true
        → CommitKeeps payload result old.journal new.journal → CommitLeaves result old.run new.run
        → (old.run.down ≡ false → LeavesOnly moment left_since old.disk new.disk (HasWithOrWithout old.journal.kept payload))
        → OnOk result (EachImage (images new.disk) (λ image. journal_of image ≡ new.journal.kept))
        → ((IsErrOf result Memory ⊎ IsErrOf result Down) → new ≡ old)
        → IsDurable images old → IsDurable images new
    commit-stays payload (Ok _) old new sure keeps leaves run done same durable = λ image now. inl (done image now)
    commit-stays payload (Err Memory) old new sure keeps leaves run done same durable = rw (same (inl refl)) durable
    commit-stays payload (Err Down) old new sure keeps leaves run done same durable = rw (same (inr refl)) durable
    commit-stays payload (Err Device) old new sure keeps leaves run done same durable = λ image now.
        rw keeps.1 (⊎_elim inl (λ with. inr (payload, refl, with)) (at_end counts_now sure (run leaves.0) image now))

    -- over a reopening
    pub reopen-stays : (result : Result (List (List ℕ)) KeepFault) (old new : DiskState D) → honest new.disk ≡ true → ReopenKeeps result old.journal new.journal
        → LeavesOnly moment left_since old.disk new.disk (λ image. IsReopened old.journal (journal_of image))
        → IfOk result (λ given. EachImage (images new.disk) (λ image. journal_of image ≡ given)) → IsDurable images new
    reopen-stays (Ok given) old new sure keeps run done image now = rw keeps.1 (inl (done image now))
    reopen-stays (Err fault) old new sure keeps run done image now = rw keeps (at_end counts_now sure run image now)
