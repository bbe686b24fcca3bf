-- What a script does, as a tree: what it asks of both nodes, what it does by the answer, and what it tells.
use Rattle.std.specs.Prelude.{ℕ, Bool, List, [], ◌∷◌, Option}
use Rattle.cns_pool.specs.declared.ticket.Ticket.{Ticket}
use Rattle.cns_records.specs.declared.refusal.Refusal.{Refusal}
use Rattle.cns_system.specs.Shown.{Shown}
use Rattle.cns_system.specs.declared.event.Event.{Event}
use Rattle.cns_system.specs.declared.event.NodeName.{NodeName}
use Rattle.cns_system.specs.declared.outcome.Outcome.{Outcome}
use Rattle.cns_report.specs.Outcomes.{outcome_line}

-- what workers drew of a lot: their tickets, by start; what cut them off; and whether the lot is sealed before it is closed
pub record Haul : Type 0 where
  pub tickets : List Ticket
  pub cut : Option Refusal
  pub sealed : Bool

-- an act gives a value; or it tells a text first; or it lets an event happen, plans the next commit of a node to fail, looks at what both
-- nodes show, or takes what workers drew of a lot that is no longer busy, and goes on by what comes of that: the outcome; whether a
-- failure is planned; what is shown; and what was drawn, or that the lot was not busy
pub data Act (A : Type 0) : Type 0 where
  Gives : A → Act A
  Tells : List ℕ → Act A → Act A
  Lets : Event → (Outcome → Act A) → Act A
  Plans : NodeName → Bool → (Bool → Act A) → Act A
  Looks : (Shown → Act A) → Act A
  Draws : ℕ → (Option Haul → Act A) → Act A

-- nothing is done or told
abbrev pub done : Act (Unit {0})
done = Gives tt

-- a text is told
abbrev pub tells : List ℕ → Act (Unit {0})
tells text = Tells text done

-- one act, and then another one by what the first gives (`do` is written with these)
infixl 10 ◌>>=◌
unfoldable pub ◌>>=◌ : {A B : Type 0} → Act A → (A → Act B) → Act B
Gives a >>= next = next a
Tells text act >>= next = Tells text (act >>= next)
Lets e act >>= next = Lets e (λ o. act o >>= next)
Plans name stands act >>= next = Plans name stands (λ planned. act planned >>= next)
Looks act >>= next = Looks (λ w. act w >>= next)
Draws lot act >>= next = Draws lot (λ haul. act haul >>= next)

infixl 10 ◌>>◌
abbrev pub ◌>>◌ : {A B : Type 0} → Act A → Act B → Act B
first >> next = first >>= λ _. next

-- an act for each of a list, in its order
unfoldable pub each : {A : Type 0} → (A → Act (Unit {0})) → List A → Act (Unit {0})
each act [] = done
each act (x ∷ xs) = act x >> each act xs

-- an event happens, and its outcome is told
abbrev pub happened : Event → Act Outcome
happened e = Lets e (λ o. Tells (outcome_line e o) (Gives o))

-- the same, whatever it comes to
abbrev pub single : Event → Act (Unit {0})
single e = Lets e (λ o. tells (outcome_line e o))
