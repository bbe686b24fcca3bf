-- Splits and joins of seats, the opening and the close of a cell keep its law.
use Rattle.std.proofs.Common.{◌≡◌, ℕ, zero, suc, ◌+◌, ◌<◌, ◌≤◌, true, false, List, [], ◌∷◌, length, sym, refl, ap, ◌∙◌, subst, arith, true≢false, append-nil}
use Rattle.std.specs.Prelude.{cond, nat_lt}
use mathlib.Core.Option.{some, some-injective, some-ne-none}
use lib.ListN.{get_elem?}
use Rattle.atomic_table.specs.Seated.{TableId}
use Rattle.atomic_table.specs.Table.{Splits, Joins, Final, opening, Seen as SeenBy}
use Rattle.cns_pool.specs.declared.pool.TheConstants.{MAX_POOL}
use Rattle.cns_pool.specs.declared.view.View.{View}
use Rattle.cns_pool.specs.Tiles.{Tiles, size_sum}
use Rattle.cns_pool.specs.Seen.{both_seen}
use Rattle.cns_pool.specs.CellLaw.{Account, calls_of, IsSeat}
use Rattle.cns_pool.specs.CellWords.{Token, KeepsCell, no_view, first_view, working_part, feeding_part, view_after_split, view_split_off, view_after_join, last_view, note_of, view_told}
use Rattle.cns_pool.proofs.TileLemmas.{below_number}
use Rattle.cns_pool.proofs.CellLemmas.{has_seen, seat_by, fed_by, IsCell_split, before_join, IsCell_joined, all_drawn, all_covered}

-- the account of a new cell
abbrev new_account : ℕ → Account
new_account calls = record { drawn = 0; refused = 0; poured = 0; sealed = false; given = calls; feeder = 0 }

first_fits : (budget pours calls : ℕ) → pours ≤ MAX_POOL → (number : ℕ) (v : View) → get_elem? (first_view budget pours calls ∷ []) number ≡ some v → IsSeat (new_account calls) number v
first_fits budget pours calls room zero v at = subst (IsSeat (new_account calls) 0) (some-injective (first_view budget pours calls) v at) (record {
  saw_poured = omega arith;
  saw_asked = omega arith;
  saw_seal = λ h. absurd (true≢false (sym h));
  given = λ _. refl;
  made = omega arith;
  feeds = λ _. record { one = refl; pours = refl; seals = refl; most = omega arith };
})
first_fits budget pours calls room (suc number) v at = absurd (some-ne-none v (sym at))

pub opens : (budget pours calls : ℕ) → budget ≤ MAX_POOL → pours ≤ MAX_POOL → KeepsCell (opening (0 ∷ 0 ∷ []) [] (first_view budget pours calls))
opens budget pours calls fits room = record {
  account = new_account calls;
  words = refl;
  cell = record {
    budget = omega arith;
    unsealed = λ _. refl;
    tiled = λ share. omega (arith, below_number share 0);
    sizes = refl;
    calls = omega arith;
    seats = first_fits budget pours calls room;
  };
}

-- the feeder's part of the first seat is split off
pub feeder_splits : (id : ℕ) (v : View) → v.feeds ≡ true → Splits KeepsCell id v (working_part v) (feeding_part v)
feeder_splits id v feeds s rule at =
    let account = rule.account in let last : ℕ = length s.views in let of = rule.cell.seats id v at in let f = of.feeds feeds in record {
      account = fed_by account last;
      words = rule.words;
      cell = IsCell_split s.views account last id v (working_part v) (feeding_part v) rule.cell at (record {
        budget = omega arith;
        tiled = λ share. omega arith;
        sizes = omega arith;
        calls = omega arith;
        own = seat_by (fed_by account last) id (working_part v) (has_seen account id v of) of.given of.made (λ h. absurd (true≢false (sym h)));
        other_own = seat_by (fed_by account last) last (feeding_part v) (has_seen account id v of) (λ h. absurd (true≢false (sym h))) (omega arith)
            (λ _. record { one = refl; pours = f.pours; seals = f.seals; most = f.most });
        others = λ other differs feeding. absurd (differs (feeding ∙ sym f.one));
      });
    }

-- a part of a worker's budget and calls is split off
pub worker_splits : (id budget calls : ℕ) (v : View) → v.works ≡ true → budget ≤ v.budget → calls ≤ v.calls → Splits KeepsCell id v (view_after_split budget calls v) (view_split_off budget calls v)
worker_splits id budget calls v works within call s rule at =
    let account = rule.account in let of = rule.cell.seats id v at in record {
      account = account;
      words = rule.words;
      cell = IsCell_split s.views account account.feeder id v (view_after_split budget calls v) (view_split_off budget calls v) rule.cell at (record {
        budget = omega arith;
        tiled = λ share. omega arith;
        sizes = omega arith;
        calls = omega arith;
        own = seat_by account id (view_after_split budget calls v) (has_seen account id v of) of.given of.made
            (λ feeds. let f = of.feeds feeds in record { one = f.one; pours = f.pours; seals = f.seals; most = f.most });
        other_own = seat_by account (length s.views) (view_split_off budget calls v) (has_seen account id v of) (λ _. of.given works) (omega arith) (λ h. absurd (true≢false (sym h)));
        others = λ other differs feeding. feeding;
      });
    }

-- what a seat has seen is split off
pub note_splits : (id : ℕ) (v : View) → Splits KeepsCell id v v (note_of v)
note_splits id v s rule at =
    let account = rule.account in let of = rule.cell.seats id v at in record {
      account = account;
      words = rule.words;
      cell = IsCell_split s.views account account.feeder id v v (note_of v) rule.cell at (record {
        budget = omega arith;
        tiled = λ share. omega arith;
        sizes = omega arith;
        calls = omega arith;
        own = of;
        other_own = seat_by account (length s.views) (note_of v) (has_seen account id v of) (λ h. absurd (true≢false (sym h))) (omega arith) (λ h. absurd (true≢false (sym h)));
        others = λ other differs feeding. feeding;
      });
    }

-- a worker's seat is joined into another one
pub worker_joins : (id other : ℕ) (v u : View) → Joins KeepsCell id v other u (view_after_join v u) no_view
worker_joins id other v u s rule at differs also =
    let account = rule.account in let of = rule.cell.seats id v at in record {
      account = account;
      words = rule.words;
      cell = IsCell_joined s.views account account.feeder id other v u v rule.cell at differs also (record { feeds = of.feeds; others = λ third differs feeding. feeding });
    }

-- the feeder's seat is joined into the last worker's
pub feeder_joins : (id other : ℕ) (v u : View) → u.feeds ≡ true → Joins KeepsCell id v other u (last_view v u) no_view
feeder_joins id other v u feeds s rule at differs also =
    let account = rule.account in let f = (rule.cell.seats other u (before_join s.views id other (last_view v u) u differs also)).feeds feeds in record {
      account = fed_by account id;
      words = rule.words;
      cell = IsCell_joined s.views account id id other v u u rule.cell at differs also (record {
        feeds = λ _. record { one = refl; pours = f.pours; seals = f.seals; most = f.most };
        others = λ third differs feeding. absurd (differs (feeding ∙ sym f.one));
      });
    }

-- what has nothing but what it has seen adds nothing else
note_adds : (v w : View) → view_after_join v (note_of w) ≡ view_told v (note_of w)
note_adds v w =
    let none : (n : ℕ) → n + 0 ≡ n = λ n. omega arith in
    λ i. record v { intervals = append-nil v.intervals i; budget = none v.budget i; calls = none v.calls i; made = none v.made i; seen = both_seen v.seen w.seen }

note_joins : (id other : ℕ) (v u w : View) → u ≡ note_of w → Joins KeepsCell id v other u (view_told v u) no_view
note_joins id other v u w note = subst (λ (x : View). Joins KeepsCell id v other x (view_told v x) no_view) (sym note)
    (subst (λ (both : View). Joins KeepsCell id v other (note_of w) both no_view) (note_adds v w) (worker_joins id other v (note_of w)))

-- what a seat of a cell asks that is told what another one has seen; `me` is the token of the note
pub told : (cell its notes : TableId) (id other : ℕ) (v w : View) (me : Token) → its ≡ cell → notes ≡ cell → cell.words ≡ 2 → me ≡ (note_of w, [])
    → (its ≡ cell) × (notes ≡ cell) × (me.1 ≡ []) × (0 < cell.words) × Joins KeepsCell id v other me.0 (view_told v me.0) no_view
told cell its notes id other v w me here there two is = (here, there, ap (λ (t : Token). t.1) is, omega arith, note_joins id other v me.0 w (ap (λ (t : Token). t.0) is))

-- what the end of the table tells of a seat that feeds and has all calls
pub record Ended (v : View) : Type 0 where
  pub tiles : Tiles v.intervals
  pub poured : v.seen.poured ≤ v.poured
  pub asked : v.sealed ≡ false → v.seen.asked ≤ size_sum v.intervals
  pub sealed : v.seen.sealed ≡ true → v.sealed ≡ true

pub closes : (words : List ℕ) (values : List (Unit {0})) (id : ℕ) (v : View) → Final (SeenBy KeepsCell id v) words values → v.feeds ≡ true → v.works ≡ true → v.given ≡ calls_of v → Ended v
closes words values id v (s, (rule, at), _, _, _) feeds works all =
    let of = rule.cell.seats id v at in let f = of.feeds feeds in let is = f.pours in let seen = of.saw_poured in record {
      tiles = λ share. all_covered s.views rule.account rule.cell id v at works all share ∙ ap (λ (n : ℕ). cond (nat_lt share n) 1 0) (sym (all_drawn s.views rule.account rule.cell id v at works all));
      poured = omega arith;
      asked = λ unsealed. omega (arith, of.saw_asked, rule.cell.unsealed (sym f.seals ∙ unsealed), all_drawn s.views rule.account rule.cell id v at works all);
      sealed = λ sealed. f.seals ∙ of.saw_seal sealed;
    }
