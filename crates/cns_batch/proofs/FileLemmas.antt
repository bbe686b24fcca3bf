-- A file that is cut has a first part of the records of the whole.
use Rattle.std.proofs.Common.{◌≡◌, ◌⊎◌, ℕ, zero, suc, ◌+◌, ◌<◌, ◌≤◌, true, List, [], ◌∷◌, ◌++◌, length, map, reverse, take, drop, Ok, refl, sym, ap, ◌∙◌, subst, inl, inr, arith, length-drop}
use Rattle.std.proofs.Math.Seq.{take-append_seam}
use Rattle.std.proofs.lemmas.List.{length-take, reverse-append, take-append-drop, take-map}
use Rattle.cns_journal.specs.Layout.{behind, counts, first_payload, first_records, journal_of, payload_length, size_of}
use Rattle.cns_journal.specs.Replay.{AreAllowed, AreFit, AreReplayed, ReplayGives}
use Rattle.cns_journal.proofs.LayoutLemmas.{by_bool, counts-true, journal-same, length-part, records-false, records-true, take-short}
use Rattle.cns_batch.specs.Files.{FilesMayBeCut, IsFirstPart, MayBeCut}

-- records that count end before the last byte
some_end : (n : ℕ) (file : List ℕ) → counts file ≡ true → (first_records n (behind file) ≡ []) ⊎ (size_of (first_records n (behind file)) < length (behind file))
    → 5 + length (first_payload file) + size_of (first_records n (behind file)) < length file
some_end n file all (inl none) = let whole = (counts-true file all).whole in rw (none, length-part file (payload_length file) whole) (omega (arith, whole))
some_end n file all (inr before) =
    let whole = (counts-true file all).whole in
    rw (length-part file (payload_length file) whole) (omega (arith, whole, before, length-drop (5 + payload_length file) file))

ends_before : (n : ℕ) (file : List ℕ) → (first_records n file ≡ []) ⊎ (size_of (first_records n file) < length file)
ends_before zero file = inl refl
ends_before (suc n) file =
    by_bool (counts file) (λ all. inr (rw (records-true n file all) (some_end n file all (ends_before n (behind file))))) (λ none. inl (records-false (suc n) file none))

cut_payloads : (size : ℕ) (file : List ℕ) → IsFirstPart (journal_of (take size file)) (journal_of file)
cut_payloads size file = elim (ends_before (length (take size file)) (take size file)) [
  | inl none ↦ (journal_of file, rw none refl)
  | inr before ↦
      let payloads = journal_of (take size file) in
      let end : size_of payloads ≤ size = omega (arith, before, length-take size file) in
      (journal_of (drop (size_of payloads) file), journal-same payloads (take size file) file refl (omega (arith, before, length-take size file)) (sym (take-short (size_of payloads) size file end)))
]

-- ---- records that are taken

allowed_before : {R : Type 0} (allows : List R → R → Type 0) (later first : List R) → AreAllowed allows (later ++ first) → AreAllowed allows first
allowed_before allows [] first all = all
allowed_before allows (r ∷ later) first (one, all) = allowed_before allows later first all

fit_before : {R : Type 0} (fits : R → Type 0) (first later : List R) → AreFit fits (first ++ later) → AreFit fits first
fit_before fits [] later all = tt
fit_before fits (r ∷ first) later (one, all) = (one, fit_before fits first later all)

taken_before : {R : Type 0} (allows : List R → R → Type 0) (fits : R → Type 0) (first later : List R) → AreReplayed allows fits (first ++ later) → AreReplayed allows fits first
taken_before allows fits first later all = record {
  allowed = allowed_before allows (reverse later) (reverse first) (rw (← reverse-append first later) all.allowed);
  all_fit = fit_before fits first later all.all_fit;
}

pub may_be_cut : {R : Type 0} (spelling : R → List ℕ) (allows : List R → R → Type 0) (fits : R → Type 0) (file : List ℕ) → MayBeCut spelling allows fits file
may_be_cut {R} spelling allows fits file = record { payloads = λ size. cut_payloads size file; records = cut_records }
  where
    cut_records : (size : ℕ) (items : List R) → ReplayGives spelling allows fits (journal_of file) (Ok items)
        → (first : List R) × IsFirstPart first items × ReplayGives spelling allows fits (journal_of (take size file)) (Ok first)
    cut_records size items (taken, spelled) =
        let cut = cut_payloads size file in
        let n = length (journal_of (take size file)) in
        let both : items ≡ take n items ++ drop n items = sym (take-append-drop n items) in
        let same : map spelling (take n items) ≡ journal_of (take size file) =
        sym (take-map spelling n items) ∙ ap (take n) (spelled ∙ cut.1) ∙ take-append_seam (journal_of (take size file)) cut.0 in
        (take n items, (drop n items, both), (taken_before allows fits (take n items) (drop n items) (subst (AreReplayed allows fits) both taken), same))

pub files_may_be_cut : FilesMayBeCut
files_may_be_cut = (λ file. may_be_cut _ _ _ file, λ openings file. may_be_cut _ _ _ file)
