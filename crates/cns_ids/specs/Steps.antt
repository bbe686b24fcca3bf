-- A value in steps, each of which gives one or a fault; the first fault ends it. (`do` is written with these.)
use Rattle.std.specs.Prelude.{Bool, Result, Ok, Err, if◌then◌else◌}

infixl 10 ◌>>=◌
abbrev pub ◌>>=◌ : {A B E : Type 0} → Result A E → (A → Result B E) → Result B E
(Ok x) >>= f = f x
(Err e) >>= f = Err e

infixl 10 ◌>>◌
abbrev pub ◌>>◌ : {A B E : Type 0} → Result A E → Result B E → Result B E
first >> next = first >>= λ _. next

-- a step that goes on where something holds
abbrev pub need : {E : Type 0} → Bool → E → Result (Unit {0}) E
need holds e = if holds then Ok tt else Err e
