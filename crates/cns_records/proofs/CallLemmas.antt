-- What a call leaves, once it is known what it comes to.
use Rattle.std.proofs.Common.{◌≡◌, Result, Ok, Err, inl, inr}
use Rattle.cns_journal.specs.declared.record_log.CommitFault.{CommitFault}
use Rattle.cns_records.specs.Call.{CallLeaves, Changes, Grows, Deed, Commits, Tells, answered}

module _ {R X E N : Type 0} (refusal : CommitFault → E) (Commit : R → Result (Unit {0}) CommitFault → N → N → Type 0) where
  pub refused : (call : Result (Deed R X) E) (e : E) (result : Result X E) (old new : N) → call ≡ Err e → result ≡ Err e → new ≡ old → CallLeaves refusal Commit call result old new
  refused call e result old new is answer same = rw is (answer, same)

  pub told : (call : Result (Deed R X) E) (x : X) (result : Result X E) (old new : N) → call ≡ Ok (Tells x) → result ≡ Ok x → new ≡ old → CallLeaves refusal Commit call result old new
  told call x result old new is answer same = rw is (answer, same)

  pub committed : (call : Result (Deed R X) E) (r : R) (x : X) (done : Result (Unit {0}) CommitFault) (result : Result X E) (old new : N) → call ≡ Ok (Commits r x)
      → result ≡ answered refusal x done → Commit r done old new → CallLeaves refusal Commit call result old new
  committed call r x done result old new is answer left = rw is (done, answer, left)

module _ {X E N : Type 0} where
  pub unchanged : (call : Result (X × N) E) (e : E) (result : Result X E) (old new : N) → call ≡ Err e → result ≡ Err e → new ≡ old → Changes call result old new
  unchanged call e result old new is answer same = rw is (answer, same)

  pub changed : (call : Result (X × N) E) (x : X) (n : N) (result : Result X E) (old new : N) → call ≡ Ok (x, n) → result ≡ Ok x → new ≡ n → Changes call result old new
  changed call x n result old new is answer left = rw is (answer, left)

  pub not_grown : (short : E) (call : Result (X × N) E) (e : E) (result : Result X E) (old new : N) → call ≡ Err e → result ≡ Err e → new ≡ old → Grows short call result old new
  not_grown short call e result old new is answer same = rw is (answer, same)

  pub grown : (short : E) (call : Result (X × N) E) (x : X) (n : N) (result : Result X E) (old new : N) → call ≡ Ok (x, n) → result ≡ Ok x → new ≡ n → Grows short call result old new
  grown short call x n result old new is answer left = rw is (inl (answer, left))

  pub no_room : (short : E) (call : Result (X × N) E) (x : X) (n : N) (result : Result X E) (old new : N) → call ≡ Ok (x, n) → result ≡ Err short → new ≡ old → Grows short call result old new
  no_room short call x n result old new is answer same = rw is (inr (answer, same))
