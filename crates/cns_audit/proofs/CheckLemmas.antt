-- What the number of faults that were told says.
use Rattle.std.proofs.Common.{◌≡◌, inl, inr, ℕ, ◌<◌, Bool, true, false, List, None, refl, arith}
use Rattle.std.specs.Prelude.{◌||◌}
use Rattle.cns_trades.specs.declared.opening.Opening.{Opening}
use Rattle.cns_audit.specs.Check.{IsAllSound, IsFaulty, AreAsked, NoneOpen, TellsFault, are_damaged, has_fallen, is_refused}
use Rattle.cns_audit.specs.Opened.{IsOpening, CannotOpen}
use Rattle.cns_audit.specs.declared.check.Asked.{Asked}
use Rattle.cns_audit.specs.declared.journal.Journals.{Journals}
use Rattle.cns_audit.specs.declared.opened.Opened.{Opened}
use Rattle.cns_audit.specs.declared.opened.Opened.TheVariants.{Agreed, Refused}

module _ (asked : Asked) (journals : Journals) (openings : List Opening) (opened : Opened) (of : AreAsked asked openings)
    (opening : IsOpening openings journals.clear.now journals.depot.now opened) (first mid last : ℕ) where
  clean_at : (opened' : Opened) → IsOpening openings journals.clear.now journals.depot.now opened' → (fell_out damaged : Bool) → has_fallen asked ≡ fell_out → are_damaged journals ≡ damaged
      → TellsFault fell_out first mid → TellsFault (damaged || is_refused opened') mid last → last ≡ 0 → IsAllSound asked journals
  clean_at opened' opens fell_out true is damage told tells none = absurd (omega arith)
  clean_at (Refused clear depot) opens fell_out false is damage told tells none = absurd (omega arith)
  clean_at (Agreed system) opens true false is damage told tells none = absurd (omega arith)
  clean_at (Agreed system) opens false false is damage told tells none = record { rows = is; undamaged = damage; opens = (openings, of, (system, opens)) }

  pub clean_by : TellsFault (has_fallen asked) first mid → TellsFault (are_damaged journals || is_refused opened) mid last → last ≡ 0 → IsAllSound asked journals
  clean_by = clean_at opened opening (has_fallen asked) (are_damaged journals) refl refl

  module _ (none_open : CannotOpen openings journals.clear.now journals.depot.now → asked.openings ≡ None → NoneOpen journals) where
    faulty_at : (opened' : Opened) → IsOpening openings journals.clear.now journals.depot.now opened' → (fell_out damaged : Bool) → has_fallen asked ≡ fell_out → are_damaged journals ≡ damaged
        → TellsFault fell_out first mid → TellsFault (damaged || is_refused opened') mid last → 0 < last → first ≡ 0 → IsFaulty asked journals
    faulty_at opened' opens fell_out true is damage told tells some none = inr (inl damage)
    faulty_at (Refused clear depot) opens fell_out false is damage told tells some none = inr (inr ((openings, of, opens), none_open opens))
    faulty_at (Agreed system) opens true false is damage told tells some none = inl is
    faulty_at (Agreed system) opens false false is damage told tells some none = absurd (omega arith)

    pub faulty_by : TellsFault (has_fallen asked) first mid → TellsFault (are_damaged journals || is_refused opened) mid last → 0 < last → first ≡ 0 → IsFaulty asked journals
    faulty_by = faulty_at opened opening (has_fallen asked) (are_damaged journals) refl refl
