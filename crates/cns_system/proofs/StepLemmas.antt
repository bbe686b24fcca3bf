-- Values in steps: what their steps give, and which faults they have.
use Rattle.std.proofs.Common.{◌≡◌, Bool, true, false, Option, Some, None, Result, Ok, Err, refl}
use Rattle.std.specs.Prelude.{IfErr, IfOk}
use Rattle.std.specs.Option.{ok_or}
use Rattle.cns_ids.specs.Steps.{◌>>=◌, ◌>>◌, need}

module _ {A B E : Type 0} (P : B → Type 0) where
  -- what is given is what comes after the first step gives
  pub ok_then : (first : Result A E) (next : A → Result B E) → ((a : A) → first ≡ Ok a → IfOk (next a) P) → IfOk (first >>= next) P
  ok_then (Ok a) next rest = rest a refl
  ok_then (Err e) next rest = tt

-- what is given in steps of which the first two are a call
pub steps_by : {A B C E : Type 0} (P : C → Type 0) (first : Result A E) (second : A → Result B E) (third : B → Result C E)
    → ((a : A) → first ≡ Ok a → IfOk (second a) (λ (b : B). IfOk (third b) P)) → IfOk ((first >>= second) >>= third) P
steps_by {B} {C} {E} P (Ok a) second third rest = after (second a) (rest a refl)
  where
    after : (r : Result B E) → IfOk r (λ (b : B). IfOk (third b) P) → IfOk (r >>= third) P
    after (Ok b) h = h
    after (Err e) h = tt
steps_by P (Err e) second third rest = tt

-- where the first step is to find a value, a fault is that there is none, or is of what comes after
module _ {A B E : Type 0} where
  pub ok_found : (P : B → Type 0) (value : Option A) (e : E) (next : A → Result B E) → ((a : A) → value ≡ Some a → IfOk (next a) P) → IfOk (ok_or value e >>= next) P
  ok_found P None e next rest = tt
  ok_found P (Some a) e next rest = rest a refl

  pub err_found : (P : E → Type 0) (value : Option A) (e : E) (next : A → Result B E) → P e → ((a : A) → value ≡ Some a → IfErr (next a) P) → IfErr (ok_or value e >>= next) P
  err_found P None e next here rest = here
  err_found P (Some a) e next here rest = rest a refl

-- and where it is that something holds
pub ok_needed : {B E : Type 0} (P : B → Type 0) (holds : Bool) (e : E) (next : Result B E) → (holds ≡ true → IfOk next P) → IfOk (need holds e >> next) P
ok_needed P true e next rest = rest refl
ok_needed P false e next rest = tt
