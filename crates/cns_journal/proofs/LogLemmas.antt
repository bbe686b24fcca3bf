-- What reading a journal again gives, over any kind of record.
use Rattle.std.proofs.Common.{◌≡◌, ℕ, ◌+◌, ◌<◌, Bool, true, false, List, [], ◌∷◌, ◌++◌, length, map, reverse, Option, Some, None, Result, Ok, Err, refl, sym, ap, ◌∙◌, subst, arith, inl, inr}
use Rattle.std.proofs.Common.{take, drop, get_or, append_assoc, length-append}
use Rattle.std.proofs.lemmas.Bool.{eq-eqb, ne_eqb}
use Rattle.std.proofs.lemmas.List.{drop_more, map-append, take-append-drop, reverse-append, length-reverse, length-map, reverse-reverse}
use Rattle.std.proofs.lemmas.Option.{none-some}
use Rattle.cns_journal.specs.Keeper.{Running, Journal, Foresight, IsReopened, PlanLeaves, ReopenKeeps, StandsAsForeseen, KeeperState}
use Rattle.cns_journal.specs.declared.keeper.NotPlanned.{NotPlanned}
use Rattle.std.specs.Prelude.{◌==◌}
use Rattle.cns_journal.specs.RecordLog.{GivesBack, FitsTried, IsLawfulLog, IsLog, IsGivenUp, IsReadBack, LogCommits, LogPlanned, LogShown, LogState, LogRestarts, MayStand, log_shown}
use Rattle.cns_journal.specs.Replay.{Reread, AreAllowed, AreFit, AreReplayed, IsBadPlace, AdmitLeaves, ReplayGives, Rejects}
use Rattle.cns_journal.specs.declared.record_log.CommitFault.{CommitFault}
use Rattle.cns_journal.specs.declared.record_log.CommitFault.TheVariants as commit
use Rattle.cns_journal.specs.declared.record_log.ReplayFault.{ReplayFault}
use Rattle.cns_journal.specs.declared.record_log.Restarted.{Restarted}
use Rattle.cns_journal.specs.declared.record_log.ReplayFault.TheVariants.{OutOfMemory, BadJournal, Device}

-- what stands round an element
taken_round : {X : Type 0} (f : X → List ℕ) (xs : List X) (i : ℕ) (x : X) → i < length xs → x ≡ get_or xs i x
    → map f xs ≡ map f (take i xs) ++ f x ∷ map f (drop (i + 1) xs)
taken_round f xs i x within is =
    ap (map f) (sym (take-append-drop i xs)) ∙ map-append f (take i xs) (drop i xs)
    ∙ ap (λ l. map f (take i xs) ++ map f l) (drop_more xs i x within ∙ ap (λ y. y ∷ drop (i + 1) xs) (sym is))

-- the order turned round an element
reverse_round : {R : Type 0} (before rest : List R) (e : R) → reverse (before ++ e ∷ rest) ≡ reverse rest ++ e ∷ reverse before
reverse_round before rest e =
    reverse-append before (e ∷ rest) ∙ ap (λ l. l ++ reverse before) (reverse-append (e ∷ []) rest) ∙ append_assoc (reverse rest) (e ∷ []) (reverse before)

-- one record more that has a payload
fit_more : {R : Type 0} (fits : R → Type 0) (xs : List R) (x : R) → AreFit fits xs → fits x → AreFit fits (xs ++ x ∷ [])
fit_more fits [] x all one = (one, tt)
fit_more fits (y ∷ ys) x all one = (all.0, fit_more fits ys x all.1 one)

-- a plan leaves what is known of the record whose commit failed
plan_stands : (stands : Bool) (result : Result (Unit {0}) NotPlanned) (known known' : Foresight) → PlanLeaves stands result known known' → known'.stands ≡ known.stands
plan_stands stands (Ok done) known known' planned = ap (λ (f : Foresight). f.stands) planned.1
plan_stands stands (Err fault) known known' planned = ap (λ (f : Foresight). f.stands) planned.1

module _ {R : Type 0} (spelling : R → List ℕ) (allows : List R → R → Type 0) (fits : R → Type 0) where
  -- a payload is refused
  pub refused_replay : {X : Type 0} (f : X → List ℕ) (xs : List X) (i : ℕ) (x : X) (items items' : List R) (fault : ReplayFault)
      → i < length xs → x ≡ get_or xs i x → AreReplayed allows fits items → map spelling items ≡ map f (take i xs)
      → AdmitLeaves spelling allows fits (f x) (Err fault) items items' → ReplayGives spelling allows fits (map f xs) (Err fault)
  refused_replay f xs i x items items' OutOfMemory within is replayed before left = tt
  refused_replay f xs i x items items' Device within is replayed before left = left
  refused_replay f xs i x items items' (BadJournal place) within is replayed before left =
      record {
        before = items;
        payload = f x;
        after = map f (drop (i + 1) xs);
        given_is = rw before (taken_round f xs i x within is);
        replayed = replayed;
        place_is = left.0;
        bad = left.1;
      }

  -- what stands after other records is allowed without them
  pub allowed_drop : (xs ys : List R) → AreAllowed allows (xs ++ ys) → AreAllowed allows ys
  allowed_drop [] ys all = all
  allowed_drop (x ∷ xs) ys all = allowed_drop xs ys all.1

  module _ (injective : (a b : R) → fits a → fits b → spelling a ≡ spelling b → a ≡ b) where
    -- payloads that begin with those of some records are of records that begin with them
    round : (before full : List R) (payload : List ℕ) (after : List (List ℕ)) → AreFit fits before → AreFit fits full → map spelling full ≡ map spelling before ++ payload ∷ after
        → ((entry : R) (rest : List R) → full ≡ before ++ entry ∷ rest → spelling entry ≡ payload → fits entry → ⊥) → ⊥
    round [] [] payload after fits_before fits_full same none = cc
    round [] (e ∷ rest) payload after fits_before fits_full same none = none e rest refl (cc) fits_full.0
    round (b ∷ before) [] payload after fits_before fits_full same none = cc
    round (b ∷ before) (e ∷ full) payload after fits_before fits_full same none =
        let first = injective e b fits_full.0 fits_before.0 (cc) in
        round before full payload after fits_before.1 fits_full.1 (cc) (λ entry rest is spelled fit. none entry rest (λ i. first i ∷ is i) spelled fit)

    -- the payloads of allowed records have no bad place
    pub never_bad : (full : List R) (given : List (List ℕ)) (place : ℕ) → AreReplayed allows fits full → given ≡ map spelling full → IsBadPlace spelling allows fits given place → ⊥
    never_bad full given place r is bad =
        round bad.before full bad.payload bad.after bad.replayed.all_fit r.all_fit (sym is ∙ bad.given_is) (λ entry rest split spelled fit.
        let lawful = subst (AreAllowed allows) (ap reverse split ∙ reverse_round bad.before rest entry) r.allowed in
        bad.bad entry fit spelled (allowed_drop (reverse rest) (entry ∷ reverse bad.before) lawful).0)

    -- what an honest keeper gives back has no bad place
    gives_back_good : (items : List R) (tried : Option R) (given : List (List ℕ)) (place : ℕ) → AreAllowed allows (reverse items) → AreFit fits items
        → MayStand allows (reverse items) tried → FitsTried fits tried → GivesBack spelling items tried given → IsBadPlace spelling allows fits given place → ⊥
    gives_back_good items tried given place allowed fit may tried_fits gives bad =
        elim gives [
          | inl same ↦ never_bad items given place (record { allowed = allowed; all_fit = fit }) same bad
          | inr more ↦
              let u : R = more.0 in
              let replayed : AreReplayed allows fits (items ++ u ∷ []) = record {
                allowed = rw (reverse-append items (u ∷ [])) (rw more.1 at may, allowed);
                all_fit = fit_more fits items u fit (rw more.1 at tried_fits);
              } in
              never_bad (items ++ u ∷ []) given place replayed more.2 bad
        ]

    -- records with the same payloads are the same
    pub same_records : (xs ys : List R) → AreFit fits xs → AreFit fits ys → map spelling xs ≡ map spelling ys → xs ≡ ys
    same_records [] [] fx fy same = refl
    same_records [] (y ∷ ys) fx fy same = absurd cc
    same_records (x ∷ xs) [] fx fy same = absurd cc
    same_records (x ∷ xs) (y ∷ ys) fx fy same =
        let first = injective x y fx.0 fy.0 (cc) in let others = same_records xs ys fx.1 fy.1 (cc) in λ i. first i ∷ others i

    -- the value of a log with these parts
    abbrev state_of : List R → Option R → Bool → List (List ℕ) → KeeperState → LogState R
    state_of items tried down rejected k = record {
      records = reverse items;
      tried = tried;
      down = down;
      rejected = rejected;
      failures = k.run.failures;
      honest = k.honest;
      foresight = k.foresight;
    }

    -- what a refused restart leaves
    pub restart_refused : (items : List R) (tried : Option R) (down : Bool) (rejected rejected' : List (List ℕ)) (old new : KeeperState) (fault : ReplayFault)
        → IsLog spelling fits items tried down old → IsLawfulLog allows (state_of items tried down rejected old)
        → Reread spelling allows fits (Err fault) rejected' old new → Rejects {A = List R} (Err fault) rejected rejected'
        → LogRestarts spelling allows fits (Err fault) (state_of items tried down rejected old) (state_of items tried true rejected' new)
    restart_refused items tried down rejected rejected' old new Device n law r same = (Err Device, refl, r.honest, (same, r.leaves.1, r.foreseen.1, r.foreseen.0))
    restart_refused items tried down rejected rejected' old new (BadJournal place) n law r same = (
      Err (BadJournal place),
      refl,
      r.0.honest,
      (
        ap (λ (x : Running). x.failures) r.0.leaves.0,
        r.0.foreseen,
        r.1,
        λ h. gives_back_good items tried rejected' place law.allowed n.all_fit law.tried n.tried_fits (n.journal_down h rejected' (r.0.keeps h).0) r.1,
      ),
    )
    restart_refused items tried down rejected rejected' old new OutOfMemory n law r same =
        elim r [
          | inl none ↦ (Err OutOfMemory, refl, none.honest, (same, ap (λ (x : Running). x.failures) none.leaves, inl none.foreseen))
          | inr some ↦ (Err OutOfMemory, refl, some.1.honest, (same, ap (λ (x : Running). x.failures) some.1.leaves.0, inr some.1.foreseen))
        ]

    -- one more record came back, or none
    restarts : (items items' : List R) (tried : Option R) (down : Bool) (rejected : List (List ℕ)) (old new : KeeperState) (kept : Bool)
        → AreFit fits items → AreFit fits items' → FitsTried fits tried → GivesBack spelling items tried (map spelling items')
        → kept ≡ (length items' == length items + 1)
        → IsReadBack kept (state_of items tried down rejected old) (reverse items')
    restarts items items' tried down rejected old new kept fit fit' tried_fits gives test =
        elim gives [
          | inl same ↦
              let is = same_records items' items fit' fit same in
              rw (test, ne_eqb (length items') (length items + 1) (λ e. omega (arith, e, ap length is))) (ap reverse is)
          | inr more ↦
              let u : R = more.0 in
              let is = same_records items' (items ++ u ∷ []) fit' (fit_more fits items u fit (rw more.1 at tried_fits)) more.2 in
              rw (test, eq-eqb (length items') (length items + 1) (omega (arith, ap length is, length-append items (u ∷ [])))) (u, more.1, ap reverse is ∙ reverse-append items (u ∷ []))
        ]

    -- where it was known beforehand whether one more record comes back, just that is answered
    kept_as_foreseen : (items items' : List R) (tried : Option R) (j : Journal) (known : Option Bool) (kept stands : Bool)
        → ((s : Bool) → known ≡ Some s → (r : R) × (tried ≡ Some r) × (j ≡ record { kept = map spelling items; undecided = Some (spelling r) }))
        → StandsAsForeseen known (Ok (map spelling items')) j → kept ≡ (length items' == length items + 1) → known ≡ Some stands → kept ≡ stands
    kept_as_foreseen items items' tried j known kept stands foreseen given test is =
        let size : length j.kept ≡ length items = ap (λ (x : Journal). length x.kept) (foreseen stands is).2 ∙ length-map items spelling in
        let back = length-map items' spelling in
        let seen : StandsAsForeseen (Some stands) (Ok (map spelling items')) j = rw is at given in
        test ∙ (elim stands as (λ s. StandsAsForeseen (Some s) (Ok (map spelling items')) j → (length items' == length items + 1) ≡ s) [
          | true ↦ λ more. eq-eqb (length items') (length items + 1) (omega (arith, more, size, back))
          | false ↦ λ same. ne_eqb (length items') (length items + 1) (λ e. omega (arith, e, ap length same, size, back))
        ] seen)

    -- what a restart leaves that succeeds
    pub restart_accepted : (items items' : List R) (tried : Option R) (down : Bool) (rejected : List (List ℕ)) (old new : KeeperState) (a b n : ℕ)
        → IsLog spelling fits items tried down old
        → Reread spelling allows fits (Ok items') [] old new → a ≡ length items' → b ≡ length items → n ≡ length items'
        → LogRestarts spelling allows fits (Ok (record { records = n; kept = a == b + 1 })) (state_of items tried down rejected old) (state_of items' None false [] new)
    restart_accepted items items' tried down rejected old new a b n log r a_is b_is n_is =
        let test : (a == b + 1) ≡ (length items' == length items + 1) = rw (a_is, b_is) refl in (
          Ok (reverse items'),
          rw (length-reverse items', length-reverse items, n_is, test) refl,
          r.0.honest,
          (
            refl,
            ap (λ (x : Running). x.failures) r.0.leaves.0,
            r.0.foreseen,
            r.1.allowed,
            λ h. (
              a == b + 1,
              restarts items items' tried down rejected old new (a == b + 1) log.all_fit r.1.all_fit log.tried_fits
                  (log.journal_down h (map spelling items') (r.0.keeps h).0) test,
              λ stands is. kept_as_foreseen items items' tried old.journal old.foresight.stands (a == b + 1) stands (log.foreseen h) (r.0.stands h) test is,
            ),
          ),
        )

  -- a log whose keeper has the same journal, and knows the same beforehand of the record whose commit failed
  log_same : (items : List R) (tried : Option R) (down down' : Bool) (old new : KeeperState) → IsLog spelling fits items tried down old
      → new.honest ≡ old.honest → (old.honest ≡ true → new.journal ≡ old.journal) → new.foresight.stands ≡ old.foresight.stands
      → (down' ≡ false → (down ≡ false) × (new.run.down ≡ old.run.down)) → IsLog spelling fits items tried down' new
  log_same items tried down down' old new n is same known ran =
      record {
        all_fit = n.all_fit;
        tried_fits = n.tried_fits;
        up = λ now. ((n.up (ran now).0).0, (ran now).1 ∙ (n.up (ran now).0).1);
        journal_up = λ now h. same (sym is ∙ h) ∙ n.journal_up (ran now).0 (sym is ∙ h);
        journal_down = λ h given gives. n.journal_down (sym is ∙ h) given (rw (same (sym is ∙ h)) at gives);
        foreseen = λ h s seen. rw (same (sym is ∙ h)) (n.foreseen (sym is ∙ h) s (sym known ∙ seen));
      }

  -- a refused reopening leaves the log down
  log_down : (items : List R) (tried : Option R) (down : Bool) (old new : KeeperState) → IsLog spelling fits items tried down old
      → new.honest ≡ old.honest → (old.honest ≡ true → new.journal ≡ old.journal) → new.foresight ≡ old.foresight
      → IsLog spelling fits items tried true new
  log_down items tried down old new n is same foresees = log_same items tried down true old new n is same (ap (λ (f : Foresight). f.stands) foresees) (λ now. absurd cc)

  -- so does one whose payloads could not be taken; what it gave is kept from then on
  log_lost : (items : List R) (tried : Option R) (down : Bool) (old new : KeeperState) (got : List (List ℕ))
      → IsLog spelling fits items tried down old
      → new.honest ≡ old.honest → (old.honest ≡ true → ReopenKeeps (Ok got) old.journal new.journal) → new.foresight ≡ record old.foresight { stands = None }
      → IsLog spelling fits items tried true new
  log_lost items tried down old new got n is gave lost =
      record {
        all_fit = n.all_fit;
        tried_fits = n.tried_fits;
        up = λ now. cc;
        journal_up = λ now. cc;
        journal_down = λ h given gives.
            let g = gave (sym is ∙ h) in
            let same : IsReopened (record { kept = got; undecided = None }) given = rw g.1 at gives in
            let e : given ≡ got = elim same [ inl e ↦ e | inr more ↦ absurd (none-some more.0 more.1) ] in
            rw e (n.journal_down (sym is ∙ h) got g.0);
        foreseen = λ h s stands. absurd (none-some s (sym (ap (λ (f : Foresight). f.stands) lost) ∙ stands));
      }

  -- a plan changes nothing but what is known of the next commit
  pub log_planned : (items : List R) (tried : Option R) (down : Bool) (old new : KeeperState) (stands : Bool) (result : Result (Unit {0}) NotPlanned)
      → IsLog spelling fits items tried down old
      → new.honest ≡ old.honest → new.run ≡ old.run → (old.honest ≡ true → new.journal ≡ old.journal) → PlanLeaves stands result old.foresight new.foresight
      → IsLog spelling fits items tried down new
  log_planned items tried down old new stands result n is ran same planned =
      log_same items tried down down old new n is same (plan_stands stands result old.foresight new.foresight planned) (λ now. (now, ap (λ (x : Running). x.down) ran))

  -- what the keeper of a log has once it is given up
  pub log_given_up : (items : List R) (tried : Option R) (down : Bool) (rejected : List (List ℕ)) (keeper : KeeperState) (log : LogState R)
      → IsLog spelling fits items tried down keeper
      → record { records = reverse items; tried = tried; down = down; rejected = rejected; failures = keeper.run.failures; honest = keeper.honest; foresight = keeper.foresight } ≡ log
      → IsGivenUp spelling log keeper
  log_given_up items tried down rejected keeper log n seen =
      rw (← seen) (record {
        honest = refl;
        keeps = λ h. record {
          up = λ now. rw (reverse-reverse items) (n.journal_up now h);
          any = λ given gives. rw (reverse-reverse items) (n.journal_down h given gives);
        };
        run = λ now. (n.up now).1;
        failures = refl;
        foresight = refl;
      })

  -- what a restart leaves that was refused
  pub log_unread : (items : List R) (tried : Option R) (down : Bool) (rejected : List (List ℕ)) (old new : KeeperState) (fault : ReplayFault)
      → IsLog spelling fits items tried down old
      → Reread spelling allows fits (Err fault) rejected old new → IsLog spelling fits items tried true new
  log_unread items tried down rejected old new Device n r = log_down items tried down old new n r.honest r.keeps r.foreseen.1
  log_unread items tried down rejected old new (BadJournal place) n r = log_lost items tried down old new rejected n r.0.honest r.0.keeps r.0.foreseen
  log_unread items tried down rejected old new OutOfMemory n r =
      elim r [
        | inl none ↦ log_down items tried down old new n none.honest none.keeps none.foreseen
        | inr some ↦ log_lost items tried down old new some.0 n some.1.honest some.1.keeps some.1.foreseen
      ]

-- a log stays lawful where what is committed may stand, and through plans and restarts
module _ {R : Type 0} (allows : List R → R → Type 0) where
  -- what is committed
  pub committed_lawful : (r : R) (result : Result (Unit {0}) CommitFault) (old new : LogState R) → IsLawfulLog allows old → old.down ≡ false
      → allows old.records r → LogCommits r result old new → IsLawfulLog allows new
  committed_lawful r (Ok done) old new law up may left = rw left.0 (record { allowed = (may, law.allowed); tried = rw (law.up up) tt; up = law.up })
  committed_lawful r (Err commit.OutOfMemory) old new law up may left = rw left law
  committed_lawful r (Err commit.Device) old new law up may left = rw left.0 (record { allowed = law.allowed; tried = may; up = λ now. cc })

  -- a plan
  pub planned_lawful : (stands : Bool) (result : Result (Unit {0}) NotPlanned) (old new : LogState R) → IsLawfulLog allows old
      → LogPlanned stands result old new → IsLawfulLog allows new
  planned_lawful stands result old new law left = rw left.1 (record { allowed = law.allowed; tried = law.tried; up = law.up })

  -- a log that shows what a lawful one may
  lawful_of : (new : LogState R) (shown : LogShown R) → shown ≡ log_shown new → AreAllowed allows shown.records → MayStand allows shown.records shown.tried
      → (shown.down ≡ false → shown.tried ≡ None) → IsLawfulLog allows new
  lawful_of new shown is allowed tried up = record {
    allowed = subst (λ (s : LogShown R). AreAllowed allows s.records) is allowed;
    tried = subst (λ (s : LogShown R). MayStand allows s.records s.tried) is tried;
    up = subst (λ (s : LogShown R). s.down ≡ false → s.tried ≡ None) is up;
  }

  -- a restart
  pub restarted_lawful : (spelling : R → List ℕ) (fits : R → Type 0) (result : Result Restarted ReplayFault) (old new : LogState R)
      → IsLawfulLog allows old → LogRestarts spelling allows fits result old new → IsLawfulLog allows new
  restarted_lawful spelling fits result old new law (Ok records, is, honest, left) =
      lawful_of new (record { records = records; tried = None; down = false }) (ap (λ (p : Result Restarted ReplayFault × LogShown R). p.1) is) left.3 tt (λ up. refl)
  restarted_lawful spelling fits result old new law (Err fault, is, honest, left) =
      lawful_of new (record (log_shown old) { down = true }) (ap (λ (p : Result Restarted ReplayFault × LogShown R). p.1) is) law.allowed law.tried (λ up. absurd cc)

  -- one that is refused leaves the records
  pub unread_records : (spelling : R → List ℕ) (fits : R → Type 0) (fault : ReplayFault) (old new : LogState R)
      → LogRestarts spelling allows fits (Err fault) old new → new.records ≡ old.records
  unread_records spelling fits fault old new (Ok records, is, honest, left) = let told = ap (λ (p : Result Restarted ReplayFault × LogShown R). p.0) is in absurd cc
  unread_records spelling fits fault old new (Err other, is, honest, left) = sym (ap (λ (p : Result Restarted ReplayFault × LogShown R). p.1.records) is)
