-- What holds of a cell between any two of its steps, as counts and sums over what its seats have (this project's own rules).
use Rattle.std.specs.Prelude.{◌≡◌, ℕ, ◌+◌, ◌≤◌, Bool, true, false, List, length, sum_by, nat_lt, if◌then◌else◌}
use mathlib.Core.Option.{some}
use lib.ListN.{get_elem?}
use Rattle.cns_pool.specs.declared.pool.TheConstants.{MAX_POOL}
use Rattle.cns_pool.specs.declared.view.View.{View}
use Rattle.cns_pool.specs.Tiles.{size_sum, cover_count}

-- the shares of all tickets, and those of the reserves that met the seal; the shares poured, and the seal; the calls given at the
-- opening; and the number of the seat that feeds
pub record Account : Type 0 where
  pub drawn : ℕ
  pub refused : ℕ
  pub poured : ℕ
  pub sealed : Bool
  pub given : ℕ
  pub feeder : ℕ

-- the shares that were asked, refused or not
abbrev pub asked_in_all : Account → ℕ
asked_in_all account = account.drawn + account.refused

-- the calls that a seat has made and may still make
abbrev pub calls_of : View → ℕ
calls_of view = view.made + view.calls

-- the feeder's seat: what was poured and the seal are its own, and all that it may still pour keeps to the limit
pub record IsFeeder (account : Account) (number : ℕ) (view : View) : Type 0 where
  pub one : number ≡ account.feeder
  pub pours : view.poured ≡ account.poured
  pub seals : view.sealed ≡ account.sealed
  pub most : account.poured + view.pour_room ≤ MAX_POOL

-- any seat: it has seen no more than there is, and has no more tickets than it made calls
pub record IsSeat (account : Account) (number : ℕ) (view : View) : Type 0 where
  pub saw_poured : view.seen.poured ≤ account.poured
  pub saw_asked : view.seen.asked ≤ asked_in_all account
  pub saw_seal : view.seen.sealed ≡ true → account.sealed ≡ true
  pub given : view.works ≡ true → view.given ≡ account.given
  pub made : length view.intervals ≤ view.made
  pub feeds : view.feeds ≡ true → IsFeeder account number view

-- the seats together: what was asked and all that they may still ask keep to the limit; before the seal no reserve is refused; their
-- tickets tile up to the shares drawn, as counted for each share; and their calls are those given
pub record IsCell (account : Account) (views : List View) : Type 0 where
  pub budget : asked_in_all account + sum_by (λ (view : View). view.budget) views ≤ MAX_POOL
  pub unsealed : account.sealed ≡ false → account.refused ≡ 0
  pub tiled : (share : ℕ) → sum_by (λ (view : View). cover_count share view.intervals) views ≡ (if nat_lt share account.drawn then 1 else 0)
  pub sizes : sum_by (λ (view : View). size_sum view.intervals) views ≡ account.drawn
  pub calls : sum_by calls_of views ≡ account.given
  pub seats : (number : ℕ) (view : View) → get_elem? views number ≡ some view → IsSeat account number view
