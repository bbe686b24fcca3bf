-- What a journal on a disk keeps after a call, over plain values.
use Rattle.std.proofs.Common.{◌≡◌, inl, inr, ℕ, ◌≤◌, Bool, true, List, [], ◌∷◌, ◌++◌, take, Option, Some, None, sym, ◌∙◌, ap, arith, refl}
use Rattle.cns_journal.specs.Keeper.{Journal, IsReopened}
use Rattle.cns_journal.specs.Disk.{EachImage}
use Rattle.cns_journal.specs.DiskJournal.{IsJournal, Stands, fallen, kept_of}
use Rattle.cns_journal.specs.Layout.{HasWithOrWithout, IsSettled, journal_of, size_of}
use Rattle.cns_journal.specs.declared.disk_journal.Stage.{Stage}
use Rattle.cns_journal.specs.declared.disk_journal.Stage.TheVariants.{Unread, Up, Down}
use Rattle.cns_journal.proofs.AppendLemmas.{below-end}
use Rattle.cns_journal.proofs.LayoutLemmas.{front-same, size-append}

-- a journal that is up keeps what its file stands for, in each image
settled_kept : {file : List ℕ} {images : List ℕ → Type 0} {end : ℕ} → IsSettled file images end → journal_of file ≡ kept_of (Up end) file
settled_kept {file} settled = sym (below-end file settled refl)

-- so does each of its images
pub settled_images : {file : List ℕ} {images : List ℕ → Type 0} {end : ℕ} → IsSettled file images end → EachImage images (λ image. journal_of image ≡ kept_of (Up end) file)
settled_images settled image here = ap journal_of (settled.durable image here) ∙ settled_kept settled

-- after a reopening or a commit that succeeded
pub up_holds : (honest : Bool) (file : List ℕ) (images : List ℕ → Type 0) (end count : ℕ) (undecided : Option (List ℕ)) → (honest ≡ true → IsSettled file images end)
    → count ≤ end → end ≤ 4611686018427387904 → undecided ≡ None → IsJournal honest file images (Up end) count undecided
up_holds honest file images end count undecided settled few within decided =
    record { within = within; few = few; decided = λ up. decided; stands = settled; found = λ is. inl (settled_kept (settled is)) }

-- the acknowledged records stand within those of the file
kept_within : (file : List ℕ) (end : ℕ) (kept : List (List ℕ)) (undecided : Option (List ℕ)) → end ≡ size_of kept → IsReopened (record { kept = kept; undecided = undecided }) (journal_of file) → end ≤ size_of (journal_of file)
kept_within file end kept undecided end_is (inl same) = omega (arith, end_is, ap size_of same)
kept_within file end kept undecided end_is (inr more) = omega (arith, end_is, ap size_of more.2, size-append kept (more.0 ∷ []))

-- after a reopening at which the device failed
module _ (honest honest' : Bool) (file file' : List ℕ) (images images' : List ℕ → Type 0) (count : ℕ) (undecided : Option (List ℕ)) (honest_is : honest' ≡ honest)
    (seen : honest ≡ true → (journal_of file' ≡ journal_of file) × (take (size_of (journal_of file)) file' ≡ take (size_of (journal_of file)) file)) where
  -- what was acknowledged stays so
  kept_at : (stage : Stage) → IsJournal honest file images stage count undecided → honest ≡ true → kept_of (fallen stage) file' ≡ kept_of stage file
  kept_at Unread held sure = (seen sure).0
  kept_at (Up end) held sure = let settled = held.stands sure in
      below-end file' settled (front-same end (size_of (journal_of file)) file' file (omega (arith, settled.end_is)) (seen sure).1) ∙ settled_kept settled
  kept_at (Down end) held sure = ap (λ l. journal_of (l ++ 0 ∷ []))
      (front-same end (size_of (journal_of file)) file' file (kept_within file end (kept_of (Down end) file) undecided (held.stands sure) (held.found sure)) (seen sure).1)

  -- the end stands
  stands_at : (stage : Stage) → IsJournal honest file images stage count undecided → honest ≡ true → Stands (fallen stage) file' images'
  stands_at Unread held sure = tt
  stands_at (Up end) held sure = (held.stands sure).end_is ∙ ap size_of (settled_kept (held.stands sure) ∙ sym (kept_at (Up end) held sure))
  stands_at (Down end) held sure = held.stands sure ∙ ap size_of (sym (kept_at (Down end) held sure))

  -- so all holds that does between two calls
  pub fallen_holds : (stage stage' : Stage) → stage' ≡ fallen stage → IsJournal honest file images stage count undecided → IsJournal honest' file' images' stage' count undecided
  fallen_holds stage stage' is held = rw is (record {
    within = grind (arith, held.within);
    few = grind (arith, held.few);
    decided = λ up. grind (arith, up);
    stands = λ sure'. stands_at stage held (sym honest_is ∙ sure');
    found = λ sure'. let sure = sym honest_is ∙ sure' in
        rw (kept_at stage held sure, (seen sure).0) (held.found sure);
  })

  -- and the journal is the same
  pub fallen_keeps : (stage stage' : Stage) → stage' ≡ fallen stage → IsJournal honest file images stage count undecided → honest ≡ true
      → (journal : Journal) → Path Journal (record { kept = kept_of stage file; undecided = undecided }) journal → Path Journal (record { kept = kept_of stage' file'; undecided = undecided }) journal
  fallen_keeps stage stage' is held sure journal journal_is = rw is (ap (λ l. record { kept = l; undecided = undecided }) (kept_at stage held sure) ∙ journal_is)

-- after a commit that succeeded
pub commit_keeps : {journal : Journal} (stage : Stage) (file : List ℕ) (images : List ℕ → Type 0) (end : ℕ) (payload : List ℕ) {file' : List ℕ} {images' : List ℕ → Type 0} {end' : ℕ} {undecided : Option (List ℕ)}
    → Path Journal (record { kept = kept_of stage file; undecided = undecided }) journal → stage ≡ Up end → Stands stage file images → undecided ≡ None
    → IsSettled file' images' end' → journal_of file' ≡ journal_of file ++ payload ∷ []
    → (journal.undecided ≡ None) × Path Journal (record { kept = kept_of (Up end') file'; undecided = undecided }) (record { kept = journal.kept ++ payload ∷ []; undecided = journal.undecided })
commit_keeps stage file images end payload {undecided = undecided} is stage_is stands none settled more =
    let before : IsSettled file images end = rw stage_is at stands in
    rw (← is, stage_is) (none, ap (λ l. record { kept = l; undecided = undecided }) (sym (settled_kept settled) ∙ more ∙ ap (λ l. l ++ payload ∷ []) (settled_kept before)))

-- after a commit at which the device failed
reopened_of : {kept kept' : List (List ℕ)} {payload aside : List ℕ} (file : List ℕ) → kept ≡ kept' → payload ≡ aside → HasWithOrWithout kept payload file
    → IsReopened (record { kept = kept'; undecided = Some aside }) (journal_of file)
reopened_of file kept_is payload_is (inl same) = inl (same ∙ kept_is)
reopened_of {aside = aside} file kept_is payload_is (inr more) = inr (aside, refl, more ∙ (λ i. kept_is i ++ payload_is i ∷ []))

pub failed_holds : (honest : Bool) (file file' : List ℕ) (images images' : List ℕ → Type 0) (end count : ℕ) (payload aside : List ℕ)
    → (honest ≡ true → IsSettled file images end) → (honest ≡ true → take end file' ≡ take end file) → (honest ≡ true → HasWithOrWithout (journal_of file) payload file')
    → payload ≡ aside → count ≤ end → end ≤ 4611686018427387904 → IsJournal honest file' images' (Down end) count (Some aside)
failed_holds honest file file' images images' end count payload aside settled front left is few within =
    let kept : honest ≡ true → journal_of file ≡ kept_of (Down end) file' = λ sure. settled_kept (settled sure) ∙ ap (λ l. journal_of (l ++ 0 ∷ [])) (sym (front sure)) in
    record {
      within = within;
      few = few;
      decided = λ up. grind (arith, up);
      stands = λ sure. (settled sure).end_is ∙ ap size_of (kept sure);
      found = λ sure. reopened_of file' (kept sure) is (left sure);
    }

-- after a reopening that succeeded
pub reopen_keeps : {journal : Journal} (stage : Stage) (file : List ℕ) {file' : List ℕ} {images' : List ℕ → Type 0} {end' : ℕ} {undecided : Option (List ℕ)} {given : List (List ℕ)}
    → Path Journal (record { kept = kept_of stage file; undecided = undecided }) journal → IsReopened (record { kept = kept_of stage file; undecided = undecided }) (journal_of file)
    → given ≡ journal_of file → IsSettled file' images' end' → journal_of file' ≡ journal_of file
    → IsReopened journal given × Path Journal (record { kept = kept_of (Up end') file'; undecided = None }) (record { kept = given; undecided = None })
reopen_keeps stage file is found given_is settled same =
    rw (← is, given_is) (found, ap (λ l. record { kept = l; undecided = None }) (sym (settled_kept settled) ∙ same))
