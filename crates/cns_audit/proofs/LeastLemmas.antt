-- The records of a file, taken one after another.
use Rattle.std.proofs.Common.{◌≡◌, List, [], ◌∷◌, ◌++◌, Option, Some, None, Ok, Err, Bool, true, false, ℕ, refl, sym, ap, ◌∙◌, subst}
use Rattle.std.specs.Prelude.{map, reverse}
use Rattle.std.proofs.lemmas.List.{append_assoc, append-nil, reverse-append, reverse-reverse}
use Rattle.cns_journal.specs.Layout.{journal_of}
use Rattle.cns_journal.specs.Replay.{AreFit}
use Rattle.cns_journal.proofs.LogLemmas.{allowed_drop}
use Rattle.cns_records.specs.Dep.{HasDepPayload, dep_spelling, read_dep_of}
use Rattle.cns_records.specs.declared.bad_record.BadRecord.{BadRecord}
use Rattle.cns_records.specs.declared.dep_record.DepRecord.{DepRecord}
use Rattle.cns_records.proofs.DepLaws.{dep_bad_is_none, dep_read-spelling}
use Rattle.cns_records.proofs.FieldLemmas.{ok_is}
use Rattle.cns_trades.specs.declared.opening.Opening.{Opening}
use Rattle.cns_depository.specs.Ranges.{AreOpeningsOf}
use Rattle.cns_depository.specs.RangesOf.{AreRangesOf}
use Rattle.cns_depository.specs.Stock.{IsExecutable}
use Rattle.cns_depository.specs.declared.ranges.OpeningRanges.{OpeningRanges}
use Rattle.cns_audit.specs.Least.{HasRecords, TakesPayload}

-- of the records of a file some are taken, and the others are those of the payloads that are left
pub record IsTaken (p : List DepRecord) (ranges : OpeningRanges) (left : List (List ℕ)) : Type 0 where
  pub done : List DepRecord
  pub rest : List DepRecord
  pub ranges_are : AreRangesOf ranges done
  pub all : p ≡ reverse rest ++ done
  pub spelled : map dep_spelling rest ≡ left
  pub fit : AreFit HasDepPayload rest

reverse_step : (r : DepRecord) (rest done : List DepRecord) → reverse (r ∷ rest) ++ done ≡ reverse rest ++ r ∷ done
reverse_step r rest done = ap (λ (xs : List DepRecord). xs ++ done) (reverse-append (r ∷ []) rest) ∙ append_assoc (reverse rest) (r ∷ []) done

-- openings with which records are lawful are such of those before them
before : (openings : List Opening) (xs q : List DepRecord) → AreOpeningsOf openings (xs ++ q) → AreOpeningsOf openings q
before openings xs q are = record { fit = are.fit; lawful = allowed_drop dep_spelling (IsExecutable openings) HasDepPayload xs q are.lawful }

pub taken_first : (file : List ℕ) (p : List DepRecord) (ranges : OpeningRanges) → HasRecords file p → AreRangesOf ranges [] → IsTaken p ranges (journal_of file)
taken_first file p ranges has are = record {
  done = [];
  rest = reverse p;
  ranges_are = are;
  all = sym (append-nil (reverse (reverse p)) ∙ reverse-reverse p);
  spelled = has.spelled;
  fit = has.fit;
}

-- what is read of a payload is the record that it spells
pub takes_read : (payload : List ℕ) (entry : DepRecord) (left : Bool) (old new : OpeningRanges) → Ok entry ≡ read_dep_of payload
    → ((p : List DepRecord) → AreRangesOf old p → AreRangesOf new (entry ∷ p))
    → (left ≡ false → (p : List DepRecord) → AreRangesOf old p → (openings : List Opening) → AreOpeningsOf openings (entry ∷ p) → ⊥) → TakesPayload payload (Some left) old new
takes_read payload entry left old new read more none r fit spelled p are =
    let same : entry ≡ r = ok_is entry r (read ∙ ap read_dep_of (sym spelled) ∙ dep_read-spelling r fit.0 fit.1) in
    subst (λ (e : DepRecord). AreRangesOf new (e ∷ p) × ((openings : List Opening) → AreOpeningsOf openings (e ∷ p) → Some left ≡ Some true)) same
    (more p are, λ openings all. by left (λ none_left. none none_left p are openings all))
  where
    by : (b : Bool) → (b ≡ false → ⊥) → Some b ≡ Some true
    by true some = refl
    by false some = absurd (some refl)

-- and where none is read, it spells no record
pub takes_none : (payload : List ℕ) (fault : BadRecord) (ranges : OpeningRanges) → Err fault ≡ read_dep_of payload → TakesPayload payload None ranges ranges
takes_none payload fault ranges bad r fit spelled p are = absurd (dep_bad_is_none payload fault bad r fit spelled)

-- one more is taken, and openings are left
pub taken_next : (p : List DepRecord) (openings : List Opening) (ranges new : OpeningRanges) (payload : List ℕ) (left rest_left : List (List ℕ)) (found : Option Bool)
    → AreOpeningsOf openings p → IsTaken p ranges left → left ≡ payload ∷ rest_left → TakesPayload payload found ranges new → IsTaken p new rest_left × (found ≡ Some true)
taken_next p openings ranges new payload left rest_left found are t same takes = by t.rest t.all t.spelled t.fit
  where
    by : (rest : List DepRecord) → p ≡ reverse rest ++ t.done → map dep_spelling rest ≡ left → AreFit HasDepPayload rest → IsTaken p new rest_left × (found ≡ Some true)
    by [] all spelled fit = absurd cc
    by (r ∷ rest) all spelled fit =
        let head : dep_spelling r ≡ payload = cc in
        let tail : map dep_spelling rest ≡ rest_left = cc in
        let whole : p ≡ reverse rest ++ r ∷ t.done = all ∙ reverse_step r rest t.done in
        let one = takes r fit.0 head t.done t.ranges_are in
        let all_of = before openings (reverse rest) (r ∷ t.done) (subst (AreOpeningsOf openings) whole are) in
        (record { done = r ∷ t.done; rest = rest; ranges_are = one.0; all = whole; spelled = tail; fit = fit.1 }, one.1 openings all_of)

-- and in the end all are
pub taken_all : (p : List DepRecord) (ranges : OpeningRanges) (left : List (List ℕ)) → left ≡ [] → IsTaken p ranges left → AreRangesOf ranges p
taken_all p ranges left none t = by t.rest t.all (t.spelled ∙ none)
  where
    by : (rest : List DepRecord) → p ≡ reverse rest ++ t.done → map dep_spelling rest ≡ [] → AreRangesOf ranges p
    by [] all spelled = subst (AreRangesOf ranges) (sym all) t.ranges_are
    by (r ∷ rest) all spelled = absurd cc
