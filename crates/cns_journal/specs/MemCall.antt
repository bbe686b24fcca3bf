-- How a disk in memory keeps its calls.
use Rattle.std.specs.Prelude.{◌≡◌, ℕ, zero, suc, true, false, List, [], ◌∷◌}
use Rattle.cns_journal.specs.MemDisk.{Step, Nothing, Writes, Cuts, Syncs, Starts, Plan, fails_now, is_stopped}
use Rattle.cns_journal.specs.declared.mem_disk.Turn.{Turn}
use Rattle.cns_journal.specs.declared.mem_disk.Turn.TheVariants as turn
use Rattle.cns_journal.specs.declared.mem_disk.Kind.{Kind}
use Rattle.cns_journal.specs.declared.mem_disk.Kind.TheVariants as kind

-- a call that did something, by its kind and its bytes
abbrev pub step_of : Kind → List ℕ → Step
step_of (kind.Writes at) bytes = Writes at bytes
step_of (kind.Cuts len) bytes = Cuts len
step_of kind.Syncs bytes = Syncs
step_of kind.Starts bytes = Starts bytes

-- a call that did something, and how many just before it did nothing
pub record Noted : Type 0 where
  pub step : Step
  pub idle : ℕ

-- so many calls that did nothing, after these
abbrev pub idled : ℕ → List Step → List Step
idled zero steps = steps
idled (suc n) steps = Nothing ∷ idled n steps

-- all calls, the latest first
abbrev pub steps_of : List Noted → List Step
steps_of [] = []
steps_of (noted ∷ rest) = noted.step ∷ idled noted.idle (steps_of rest)

-- how the next call ends is as planned
abbrev pub IsTurn : Turn → Plan → Type 0
IsTurn turn.Runs plan = fails_now plan ≡ false
IsTurn turn.Fails plan = (fails_now plan ≡ true) × (is_stopped plan ≡ false)
IsTurn turn.Stopped plan = is_stopped plan ≡ true
