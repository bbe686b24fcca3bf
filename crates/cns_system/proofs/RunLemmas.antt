-- A run of events goes on by one more, and what stays so over it.
use Rattle.std.proofs.Common.{◌≡◌, List, [], ◌∷◌, ◌++◌, length, ap, refl, subst, sym, arith}
use Rattle.cns_system.specs.Floor.{NumbersRise}
use Rattle.cns_system.specs.Headline.{AreStrict}
use Rattle.cns_system.specs.World.{World}
use Rattle.cns_system.specs.Run.{Occurs, Run}
use Rattle.cns_system.specs.declared.event.Event.{Event}
use Rattle.cns_system.specs.declared.outcome.Outcome.{Outcome}
use Rattle.cns_system.proofs.EventKeeps.{step_keeps_lots}

pub one_more : (events : List Event) (outcomes : List Outcome) (e : Event) (o : Outcome) (old between new : World)
    → Run events outcomes old between → Occurs e o between new → Run (events ++ e ∷ []) (outcomes ++ o ∷ []) old new
one_more [] [] e o old between new run occurs = (new, subst (λ w. Occurs e o w new) run occurs, refl)
one_more [] (p ∷ outcomes) e o old between new run occurs = absurd run
one_more (f ∷ events) [] e o old between new run occurs = absurd run
one_more (f ∷ events) (p ∷ outcomes) e o old between new run occurs =
    (run.0, run.1, one_more events outcomes e o run.0 between new run.2 occurs)

-- ---- what stays so

-- allocations close lots where they did before, and lot numbers that were given stay given
pub record Goes (old new : World) : Type 0 where
  pub strict : AreStrict old → AreStrict new
  pub rises : NumbersRise old new

pub goes_same : (old new : World) → new ≡ old → Goes old new
goes_same old new same =
    record { strict = λ s. subst AreStrict (sym same) s; rises = let len = ap (λ (w : World). length w.clear.lots) same in omega (arith, len) }

pub goes_on : (old between new : World) → Goes old between → Goes between new → Goes old new
goes_on old between new first then =
    record { strict = λ s. then.strict (first.strict s); rises = let a = first.rises in let b = then.rises in omega (arith, a, b) }

pub goes_step : (e : Event) (outcome : Outcome) (old new : World) → Occurs e outcome old new → Goes old new
goes_step e outcome old new occurs = record { strict = occurs.strict; rises = (step_keeps_lots e outcome old new occurs.comes).longer }

pub goes_run : (events : List Event) (told : List Outcome) (old new : World) → Run events told old new → Goes old new
goes_run [] [] old new run = goes_same old new run
goes_run [] (o ∷ told) old new run = absurd run
goes_run (e ∷ events) [] old new run = absurd run
goes_run (e ∷ events) (o ∷ told) old new run = goes_on old run.0 new (goes_step e o old run.0 run.1) (goes_run events told run.0 new run.2)
