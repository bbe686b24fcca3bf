-- How the two words of a cell stand for its account, and what each step on them tells its seat and leaves of the seat's view.
use Rattle.std.specs.Prelude.{◌≡◌, ℕ, ◌+◌, ◌-◌, ◌≤◌, Bool, true, false, List, [], ◌∷◌, ◌++◌, if◌then◌else◌}
use Rattle.atomic_table.specs.Table.{State, Me, Step}
use Rattle.cns_pool.specs.declared.pool.Asked.{Asked}
use Rattle.cns_pool.specs.declared.pool.TheConstants.{MAX_POOL}
use Rattle.cns_pool.specs.declared.view.View.{View}
use Rattle.cns_pool.specs.Tiles.{size_sum}
use Rattle.cns_pool.specs.Seen.{nothing_seen, both_seen}
use Rattle.cns_pool.specs.CellLaw.{Account, asked_in_all, calls_of, IsCell}

-- a token: its view, and no slots
abbrev pub Token : Type 0
Token = Me (Unit {0}) View

-- bit 63
abbrev pub seal_bit : Bool → ℕ
seal_bit true = 9223372036854775808
seal_bit false = 0

-- the word of the asked shares, which has the seal too
abbrev pub word_of : Asked → ℕ
word_of asked = seal_bit asked.sealed + asked.sum

-- the words: the poured shares first, which a split and a join read, and then the asked ones
abbrev pub words_of : Account → List ℕ
words_of account = account.poured ∷ word_of (record { sum = asked_in_all account; sealed = account.sealed }) ∷ []

-- the rule of the table
pub record KeepsCell (table : State (Unit {0}) View) : Type 0 where
  pub account : Account
  pub words : table.words ≡ words_of account
  pub cell : IsCell account table.views

-- a view that has nothing
abbrev pub no_view : View
no_view = record {
  feeds = false;
  works = false;
  poured = 0;
  pour_room = 0;
  sealed = false;
  intervals = [];
  budget = 0;
  calls = 0;
  made = 0;
  given = 0;
  seen = nothing_seen;
}

-- the first seat, which feeds and works
abbrev pub first_view : ℕ → ℕ → ℕ → View
first_view budget pours calls = record no_view { feeds = true; works = true; pour_room = pours; budget = budget; calls = calls; given = calls }

-- its two parts
abbrev pub working_part : View → View
working_part view = record view { feeds = false; poured = 0; pour_room = 0; sealed = false }

abbrev pub feeding_part : View → View
feeding_part view = record no_view { feeds = true; poured = view.poured; pour_room = view.pour_room; sealed = view.sealed; seen = view.seen }

-- a worker's view without a part of its budget and calls, and that part
abbrev pub view_after_split : ℕ → ℕ → View → View
view_after_split budget calls view = record view { budget = view.budget - budget; calls = view.calls - calls }

abbrev pub view_split_off : ℕ → ℕ → View → View
view_split_off budget calls view = record no_view { works = true; budget = budget; calls = calls; given = view.given; seen = view.seen }

-- two views put together
abbrev pub view_after_join : View → View → View
view_after_join view other = record view {
  intervals = view.intervals ++ other.intervals;
  budget = view.budget + other.budget;
  calls = view.calls + other.calls;
  made = view.made + other.made;
  seen = both_seen view.seen other.seen;
}

-- the last view: the worker's, with the feeder's joined into it
abbrev pub last_view : View → View → View
last_view worker feeder = record (view_after_join worker feeder) { feeds = feeder.feeds; poured = feeder.poured; pour_room = feeder.pour_room; sealed = feeder.sealed }

-- what a seat has seen, as a view that has nothing else; and a seat that is told of it
abbrev pub note_of : View → View
note_of view = record no_view { seen = view.seen }

abbrev pub view_told : View → View → View
view_told view note = record view { seen = both_seen view.seen note.seen }

-- a view after a reserve of these shares, where it found so many asked and the seal or not
abbrev pub view_after_ticket : View → ℕ → ℕ → View
view_after_ticket view shares start = record view { intervals = view.intervals ++ (start, shares) ∷ []; budget = view.budget - shares; calls = view.calls - 1; made = view.made + 1; seen = record view.seen { asked = start + shares } }

abbrev pub view_after_sealed : View → ℕ → ℕ → View
view_after_sealed view shares asked = record view { budget = view.budget - shares; calls = view.calls - 1; made = view.made + 1; seen = record view.seen { asked = asked + shares; sealed = true } }

abbrev pub view_after_reserve : View → ℕ → Asked → View
view_after_reserve view shares asked = if asked.sealed then view_after_sealed view shares asked.sum else view_after_ticket view shares asked.sum

-- what the word of the asked shares tells a seat that finds it
pub record FindsAsked (view : View) (found : ℕ) : Type 0 where
  pub asked : Asked
  pub word : found ≡ word_of asked
  pub budget : asked.sum + view.budget ≤ MAX_POOL
  pub least : view.seen.asked ≤ asked.sum
  pub sealed : view.seen.sealed ≡ true → asked.sealed ≡ true
  pub feeder : view.feeds ≡ true → asked.sealed ≡ view.sealed
  pub exact : view.works ≡ true → view.given ≡ calls_of view → asked.sealed ≡ false → asked.sum ≡ size_sum view.intervals
  pub all : view.works ≡ true → view.given ≡ calls_of view → size_sum view.intervals ≤ asked.sum

-- what the word of the poured shares tells a seat that finds it, and what the seat then knows of all seats
pub record FindsPoured (view : View) (found : ℕ) : Type 0 where
  pub least : view.seen.poured ≤ found
  pub feeder : view.feeds ≡ true → found ≡ view.poured
  pub budget : view.budget ≤ MAX_POOL
  pub calls : view.works ≡ true → calls_of view ≤ view.given

-- what each step tells, and leaves of the token
abbrev pub reserve_step : Step (Unit {0}) → Token → ℕ → Token → Type 0
reserve_step step before found after = (finds : FindsAsked before.0 found) × (after ≡ (view_after_reserve before.0 step.first finds.asked, before.1))

abbrev pub pour_step : Step (Unit {0}) → Token → ℕ → Token → Type 0
pour_step step before found after = after ≡ (record before.0 { poured = before.0.poured + step.first; pour_room = before.0.pour_room - step.first }, before.1)

abbrev pub look_poured_step : Step (Unit {0}) → Token → ℕ → Token → Type 0
look_poured_step step before found after = FindsPoured before.0 found × (after ≡ (record before.0 { seen = record before.0.seen { poured = found } }, before.1))

abbrev pub look_asked_step : Step (Unit {0}) → Token → ℕ → Token → Type 0
look_asked_step step before found after = (finds : FindsAsked before.0 found)
    × (after ≡ (record before.0 { seen = record before.0.seen { asked = finds.asked.sum; sealed = finds.asked.sealed } }, before.1))

abbrev pub seal_step : Step (Unit {0}) → Token → ℕ → Token → Type 0
seal_step step before found after = after ≡ (record before.0 { sealed = true; seen = record before.0.seen { sealed = true } }, before.1)
