-- What is told of the tail of a file, by whether a crash may leave it.
use Rattle.std.proofs.Common.{◌≡◌, ◌≢◌, ℕ, Bool, true, false, List, sym, ◌∙◌, ap, arith}
use Rattle.std.specs.Prelude.{if◌then◌else◌}
use Rattle.std.proofs.lemmas.Bool.Decides.{nat_tests}
use Rattle.cns_journal.specs.Tail.{behind_records, is_crash}
use Rattle.cns_journal.proofs.LayoutLemmas.{by_bool}
use Rattle.cns_file.specs.Tail.{DamageIsReported, is_nothing, tail_kind}
use Rattle.cns_file.specs.declared.tail.Tail.TheVariants.{Nothing, Crash, Damage}

kind-nothing : (tail : List ℕ) → is_nothing tail ≡ true → tail_kind tail ≡ Nothing
kind-nothing tail is = ap (λ (b : Bool). if b then Nothing else (if is_crash tail then Crash else Damage)) is

kind-other : (tail : List ℕ) → is_nothing tail ≡ false → tail_kind tail ≡ (if is_crash tail then Crash else Damage)
kind-other tail is = ap (λ (b : Bool). if b then Nothing else (if is_crash tail then Crash else Damage)) is

kind-crash : (tail : List ℕ) → is_crash tail ≡ true → tail_kind tail ≢ Damage
kind-crash tail crash damage = by_bool (is_nothing tail)
    (λ nothing. cc (sym (kind-nothing tail nothing) ∙ damage))
    (λ other. cc (sym (ap (λ (b : Bool). if b then Crash else Damage) crash) ∙ sym (kind-other tail other) ∙ damage))

crash-nothing : (tail : List ℕ) → is_nothing tail ≡ true → is_crash tail ≡ true
crash-nothing tail nothing = grind (arith, nat_tests)

kind-damage : (tail : List ℕ) → tail_kind tail ≢ Damage → is_crash tail ≡ true
kind-damage tail other = by_bool (is_crash tail) (λ crash. crash) (λ none. by_bool (is_nothing tail) (crash-nothing tail)
    (λ some. absurd (other (kind-other tail some ∙ ap (λ (b : Bool). if b then Crash else Damage) none))))

pub damage_is_reported : DamageIsReported
damage_is_reported file = (kind-crash (behind_records file), kind-damage (behind_records file))
