-- What the calls that run a script do: a way through an act, by what came of each thing that it asked, and what was written of its text.
use Rattle.std.specs.Prelude.{◌≡◌, ◌<◌, ◌≤◌, ℕ, ◌+◌, Bool, List, [], ◌∷◌, ◌++◌, Option, Result, Ok, Err, length, take}
use Rattle.std.specs.Io.KnownBytes.{Appends}
use Rattle.std.specs.List.{flat_map}
use Rattle.cns_system.specs.Shown.{Shown}
use Rattle.cns_system.specs.declared.event.Event.{Event}
use Rattle.cns_system.specs.declared.event.NodeName.{NodeName}
use Rattle.cns_system.specs.declared.outcome.Outcome.{Outcome}
use Rattle.cns_report.specs.Draft.{Written}
use Rattle.cns_batch.specs.declared.fault.OutputFault.{OutputFault}
use Rattle.cns_batch.specs.declared.fault.OutputFault.TheVariants as fault
use Rattle.cns_batch.specs.Acts.{Act, Draws, Gives, Haul, Lets, Looks, Plans, Tells}
use Rattle.cns_batch.specs.declared.runner.Runner.{Runner}

-- ---- what is written

-- what was told and is not yet written, and what its writer holds
pub record Output : Type 0 where
  pub held : List ℕ
  pub sent : Option (List ℕ)

-- a text was told: a part of what is told is written, and the rest is held
abbrev pub Writes : List ℕ → Output → Output → Type 0
Writes text old new = (part : List ℕ) × Appends old.sent new.sent part × (part ++ new.held ≡ old.held ++ text)

-- a first part of what is held and of a text was written
abbrev pub BreaksOff : List ℕ → Output → Option (List ℕ) → Type 0
BreaksOff text old sent = (size : ℕ) × Appends old.sent sent (take size (old.held ++ text))

-- a call tells a text, or breaks off
abbrev pub Prints : {E : Type 0} → List ℕ → Result (Unit {0}) E → Output → Output → Type 0
Prints text (Ok _) old new = Writes text old new
Prints text (Err e) old new = BreaksOff text old new.sent

-- what a page that holds this text has told and not yet written, and what its writer holds
abbrev pub output : Written → Option (List ℕ) → Output
output page sent = record { held = page.text; sent = sent }

-- memory is wanting only where a page has no room for a text
abbrev pub HasNoRoom : List ℕ → Result (Unit {0}) OutputFault → Written → Type 0
HasNoRoom text (Ok _) page = Unit {0}
HasNoRoom text (Err fault.Memory) page = page.room < length page.text + length text
HasNoRoom text (Err fault.Write) page = Unit {0}

-- a call on a page tells a text, or breaks off; the page keeps the memory that it has
abbrev pub Puts : List ℕ → Result (Unit {0}) OutputFault → Written → Written → Option (List ℕ) → Option (List ℕ) → Type 0
Puts text result old new sent sent' = Prints text result (output old sent) (output new sent') × (old.room ≤ new.room) × HasNoRoom text result old

-- ---- a way through an act

-- what passes between a run and both nodes: a text is told; an event comes to an outcome; a failure is planned, or is not; both nodes show
-- something; workers drew something of a lot, or the lot was not busy
pub data Exchange : Type 0 where
  Told : List ℕ → Exchange
  Came : Event → Outcome → Exchange
  Planned : NodeName → Bool → Bool → Exchange
  Showed : Shown → Exchange
  Drew : ℕ → Option Haul → Exchange

-- the text that is told by it
abbrev pub text_in : Exchange → List ℕ
text_in (Told text) = text
text_in _ = []

abbrev pub text_said : List Exchange → List ℕ
text_said said = flat_map text_in said

-- an exchange is the next one of an act, and this is left of the act
abbrev pub IsNextExchange : {A : Type 0} → Exchange → Act A → Act A → Type 0
IsNextExchange x (Gives a) left = ⊥
IsNextExchange x (Tells text next) left = (x ≡ Told text) × (left ≡ next)
IsNextExchange x (Lets e next) left = (o : Outcome) × (x ≡ Came e o) × (left ≡ next o)
IsNextExchange x (Plans name stands next) left = (planned : Bool) × (x ≡ Planned name stands planned) × (left ≡ next planned)
IsNextExchange x (Looks next) left = (w : Shown) × (x ≡ Showed w) × (left ≡ next w)
IsNextExchange x (Draws lot next) left = (haul : Option Haul) × (x ≡ Drew lot haul) × (left ≡ next haul)

-- exchanges are the first ones of an act, and this is left of the act
abbrev pub ActLeaves : {A : Type 0} → Act A → List Exchange → Act A → Type 0
ActLeaves act [] left = left ≡ act
ActLeaves {A} act (x ∷ said) left = (next : Act A) × IsNextExchange x act next × ActLeaves next said left

-- an exchange leads from what both nodes were to what they are; a text that is told leaves them
abbrev pub Leads : {N : Type 0} → (Exchange → N → N → Type 0) → Exchange → N → N → Type 0
Leads leads (Told text) old new = new ≡ old
Leads leads x old new = leads x old new

abbrev pub IsLed : {N : Type 0} → (Exchange → N → N → Type 0) → List Exchange → N → N → Type 0
IsLed leads [] old new = new ≡ old
IsLed {N} leads (x ∷ said) old new = (between : N) × Leads leads x old between × IsLed leads said between new

-- ---- the calls

-- both nodes, what was told and is not yet written, and what the writer holds
pub record Place (N : Type 0) : Type 0 where
  pub nodes : N
  pub held : List ℕ
  pub sent : Option (List ℕ)

abbrev pub output_at : {N : Type 0} → Place N → Output
output_at p = record { held = p.held; sent = p.sent }

-- the place of a runner, whose writer holds this
abbrev pub at : {N : Type 0} → Runner N → Option (List ℕ) → Place N
at run sent = record { nodes = run.nodes; held = run.page.text; sent = sent }

-- an act has come so far that another one is left of it
pub record Continues {A N : Type 0} (leads : Exchange → N → N → Type 0) (act left : Act A) (old new : Place N) : Type 0 where
  pub said : List Exchange
  pub follows : ActLeaves act said left
  pub led : IsLed leads said old.nodes new.nodes
  pub writes : Writes (text_said said) (output_at old) (output_at new)

-- an act has come so far, and a first part of what was held and of what it told was written
pub record Stops {A N : Type 0} (leads : Exchange → N → N → Type 0) (act : Act A) (old new : Place N) : Type 0 where
  pub said : List Exchange
  pub left : Act A
  pub follows : ActLeaves act said left
  pub led : IsLed leads said old.nodes new.nodes
  pub writes : BreaksOff (text_said said) (output_at old) new.sent

-- a call does an act, or stops in it
abbrev pub Runs : {A E N : Type 0} → (Exchange → N → N → Type 0) → Act A → Result A E → Place N → Place N → Type 0
Runs leads act (Ok a) old new = Continues leads act (Gives a) old new
Runs leads act (Err e) old new = Stops leads act old new

-- a call that leaves this
abbrev pub leaves : {A E : Type 0} → Result (Unit {0}) E → A → Result A E
leaves (Ok _) a = Ok a
leaves (Err e) a = Err e
