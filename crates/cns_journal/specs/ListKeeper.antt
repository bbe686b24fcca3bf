-- What contracts see of a keeper in memory, and what exactly its calls leave (this project's own rules).
use Rattle.std.specs.Prelude.{◌≡◌, ℕ, ◌+◌, ◌-◌, ◌^◌, min, Bool, true, List, [], ◌∷◌, ◌++◌, length, Option, Some, None, Result, Ok, Err, if◌then◌else◌, is_some, option_map}
use Rattle.cns_journal.specs.declared.keeper.KeepFault.{KeepFault}
use Rattle.cns_journal.specs.Keeper.{Running, Journal, Foresight, Forecast, Succeeds, Fails}
use Rattle.cns_journal.specs.declared.keeper.KeepFault.TheVariants.{Memory, Down, Device}

-- a record whose commit failed, and whether it stands at the reopening
pub record Failed : Type 0 where
  pub payload : List ℕ
  pub stands : Bool

-- the payload of a failed record
abbrev pub payload_of : Failed → List ℕ
payload_of failed = failed.payload

-- the acknowledged records, the undecided one, whether the next commit fails and then stands, and how many have failed
pub record ListState : Type 0 where
  pub kept : List (List ℕ)
  pub undecided : Option Failed
  pub plan : Option Bool
  pub failures : ℕ

-- what every keeper shows of this one: it is down while a record is undecided, and counts what it keeps
abbrev pub running_of : ListState → Running
running_of keeper = record { down = is_some keeper.undecided; failures = keeper.failures; count = length keeper.kept }

-- what every keeper shows of this one's journal
abbrev pub journal_of : ListState → Journal
journal_of keeper = record { kept = keeper.kept; undecided = option_map payload_of keeper.undecided }

-- the next commit fails as planned, and succeeds without a plan
abbrev pub forecast_of : Option Bool → Forecast
forecast_of None = Succeeds
forecast_of (Some stands) = Fails stands

abbrev pub stands_of : Failed → Bool
stands_of failed = failed.stands

-- all that this keeper does is known beforehand
abbrev pub foresight_of : ListState → Foresight
foresight_of keeper = record { next = forecast_of keeper.plan; stands = option_map stands_of keeper.undecided }

-- what a commit leaves, by its answer: it fails exactly as planned, where it is not down and has memory
abbrev pub ListCommit : List ℕ → Result (Unit {0}) KeepFault → ListState → ListState → Type 0
ListCommit payload (Ok _) old new = (old.undecided ≡ None) × (old.plan ≡ None) × (new ≡ record old { kept = old.kept ++ payload ∷ [] })
ListCommit payload (Err Memory) old new = (old.undecided ≡ None) × (new ≡ old)
ListCommit payload (Err Down) old new = (is_some old.undecided ≡ true) × (new ≡ old)
ListCommit payload (Err Device) old new =
    (old.undecided ≡ None) × ((stands : Bool) × (old.plan ≡ Some stands)
    × (new ≡ record { kept = old.kept; undecided = Some (record { payload = payload; stands = stands }); plan = None; failures = min (old.failures + 1) (2 ^ 64 - 1) }))

-- the acknowledged records, and then the undecided one where it stands
abbrev pub with_standing : List (List ℕ) → Option Failed → List (List ℕ)
with_standing kept None = kept
with_standing kept (Some failed) = if failed.stands then kept ++ failed.payload ∷ [] else kept

-- what a reopening leaves, by its answer: it is refused only for want of memory, and leaves the plan
abbrev pub ListReopen : Result (List (List ℕ)) KeepFault → ListState → ListState → Type 0
ListReopen (Ok given) old new = (given ≡ with_standing old.kept old.undecided) × (new ≡ record old { kept = given; undecided = None })
ListReopen (Err Memory) old new = new ≡ old
ListReopen (Err Down) old new = ⊥
ListReopen (Err Device) old new = ⊥
