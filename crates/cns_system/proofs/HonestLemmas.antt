-- The restart of an honest keeper.
use Rattle.std.proofs.Common.{◌≡◌, ◌∷◌, Bool, true, false, List, Option, Some, None, refl, inl, inr}
use Rattle.std.specs.Prelude.{◌⊎◌, unwrap_or, if◌then◌else◌}
use Rattle.cns_system.specs.Happens.{ClearReads, Decision, DepotReads, DeviceFails, FindsBad, NoMemory}
use Rattle.cns_system.specs.Scene.{Chance, ComesBack, Decides, Forgets, Scene, KeeperKnowledge, decision_at, given_back, restart_decision, restart_fails}
use Rattle.cns_system.specs.Shown.{Shown}
use Rattle.cns_system.specs.declared.event.Event.TheVariants as event
use Rattle.cns_system.specs.declared.event.NodeName.TheVariants as node

-- a journal gives the records back, and at most the one besides whose commit failed
abbrev pub AreBack : {R : Type 0} → Option R → List R → List R → Type 0
AreBack tried records read = (read ≡ records) ⊎ ((r : _) × (tried ≡ Some r) × (read ≡ r ∷ records))

back : {R : Type 0} (tried : Option R) (comes : Bool) (records : List R) → AreBack tried records (given_back tried comes records)
back tried false records = inl refl
back None true records = inl refl
back (Some r) true records = inr (r, refl, refl)

-- there is no memory, its device fails, or its journal gives the records back: what is so of each of these is so of what is decided at the restart of an
-- honest keeper
module _ {R : Type 0} (reads : List R → Decision) (s : KeeperKnowledge) (tried : Option R) (records : List R) (honest : s.honest ≡ true) (P : Decision → Type 0) (short : P NoMemory)
    (device : P DeviceFails) (given : (read : List R) → AreBack tried records read → P (reads read)) where
  goes : (comes : Bool) → P (reads (given_back tried (unwrap_or s.foresight.stands comes) records))
  goes comes = given (given_back tried (unwrap_or s.foresight.stands comes) records) (back tried (unwrap_or s.foresight.stands comes) records)

  failing : (fails : Bool) → P (if fails then DeviceFails else reads (given_back tried (unwrap_or s.foresight.stands false) records))
  failing true = device
  failing false = goes false

  pub honestly : (chance : Chance) → P (restart_decision reads s tried records chance)
  honestly Forgets = short
  honestly ComesBack = rw honest (goes true)
  honestly (Decides NoMemory) = short
  honestly (Decides DeviceFails) = rw honest (failing (restart_fails s.foresight.next (Decides DeviceFails)))
  honestly (Decides _) = rw honest (goes false)

-- so at a restart of either node no payload is bad, and its records are back
abbrev pub GivesClear : Shown → Decision → Type 0
GivesClear w (ClearReads c) = AreBack w.clear.tried w.clear.records c
GivesClear w (FindsBad place) = ⊥
GivesClear w _ = Unit {0}

abbrev pub GivesDepot : Shown → Decision → Type 0
GivesDepot w (DepotReads p) = AreBack w.depot.tried w.depot.records p
GivesDepot w (FindsBad place) = ⊥
GivesDepot w _ = Unit {0}

pub clear_gives : (s : Scene) (chance : Chance) → s.clear.honest ≡ true → GivesClear s.shown (decision_at chance (event.Restart node.Clear) s)
clear_gives s chance honest = honestly ClearReads s.clear s.shown.clear.tried s.shown.clear.records honest (GivesClear s.shown) tt tt (λ c back. back) chance

pub depot_gives : (s : Scene) (chance : Chance) → s.depot.honest ≡ true → GivesDepot s.shown (decision_at chance (event.Restart node.Depot) s)
depot_gives s chance honest = honestly DepotReads s.depot s.shown.depot.tried s.shown.depot.records honest (GivesDepot s.shown) tt tt (λ p back. back) chance
