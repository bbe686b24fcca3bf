-- The order of places.
use Rattle.std.proofs.Common.{◌≡◌, ◌∙◌, ℕ, refl, sym, ap, arith}
use Rattle.std.specs.Cmp.{IsEquivalence, IsTotalOrder, tied_itself}
use Rattle.std.specs.Ordering.{eq_by_cmp, is_eq, nat_cmp, ordering_then}
use Rattle.std.specs.declared.cmp.Ordering.{Ordering}
use Rattle.std.specs.declared.cmp.Ordering.TheVariants.{Less, Equal, Greater}
use Rattle.std.proofs.lemmas.Bool.{true≢false}
use Rattle.std.proofs.lemmas.Cmp.{nat_cmp_total, on_total, ranked, then_total}
use Rattle.cns_depository.specs.declared.account.Account.{Account}
use Rattle.cns_depository.specs.declared.account.Account.TheVariants.{Cns, Member}
use Rattle.cns_depository.specs.declared.account.Side.{Side}
use Rattle.cns_depository.specs.declared.account.Side.TheVariants.{Outside, At}
use Rattle.cns_depository.specs.declared.place.Place.{Place}
use Rattle.cns_depository.specs.contracts.place.PlaceEq.TheImpl.Laws.{laws-law}
use Rattle.cns_depository.specs.Balances.{place_cmp, account_rank, side_rank}
use Rattle.cns_depository.specs.Totals.{place_eq}
use Rattle.cns_journal.proofs.LayoutLemmas.{by_bool}
use Rattle.cns_depository.proofs.TotalLemmas.{equal_places}

-- the order is one
pub place_total : IsTotalOrder place_cmp
place_total = then_total (on_total (λ (k : Place). k.issue) nat_cmp_total) (on_total (λ (k : Place). side_rank k.side) nat_cmp_total)

-- places that compare equal are the same
same_number : (x y : ℕ) → nat_cmp x y ≡ Equal → x ≡ y
same_number x y e = ranked x y Equal (sym e)

same_rank : (a b : Account) → account_rank a ≡ account_rank b → a ≡ b
same_rank Cns Cns e = refl
same_rank Cns (Member m) e = absurd (omega (arith, e))
same_rank (Member m) Cns e = absurd (omega (arith, e))
same_rank (Member m) (Member k) e = ap Member (omega (arith, e))

same_side_rank : (a b : Side) → side_rank a ≡ side_rank b → a ≡ b
same_side_rank Outside Outside e = refl
same_side_rank Outside (At b) e = absurd (omega (arith, e))
same_side_rank (At a) Outside e = absurd (omega (arith, e))
same_side_rank (At a) (At b) e = ap At (same_rank a b (omega (arith, e)))

both_equal : (x y : Ordering) → ordering_then x y ≡ Equal → (x ≡ Equal) × (y ≡ Equal)
both_equal Less y e = absurd cc
both_equal Equal y e = (refl, e)
both_equal Greater y e = absurd cc

pub same_place : (a b : Place) → place_cmp a b ≡ Equal → a ≡ b
same_place a b e =
    let both = both_equal (nat_cmp a.issue b.issue) (nat_cmp (side_rank a.side) (side_rank b.side)) e in
    let side = same_side_rank a.side b.side (same_number (side_rank a.side) (side_rank b.side) both.1) in
    let issue = same_number a.issue b.issue both.0 in
    λ i. record { issue = issue i; side = side i }

-- places are equal where they compare equal
pub place_equivalence : IsEquivalence place_eq
place_equivalence = laws-law

-- what follows in each case of an order
pub by_order : {P : Type 0} (r : Ordering) → (r ≡ Less → P) → (r ≡ Equal → P) → (r ≡ Greater → P) → P
by_order Less less equal greater = less refl
by_order Equal less equal greater = equal refl
by_order Greater less equal greater = greater refl

pub place_ties : (x y : Place) → place_eq x y ≡ eq_by_cmp place_cmp x y
place_ties x y = by_bool (place_eq x y)
    (λ same. same ∙ sym (ap (λ z. eq_by_cmp place_cmp z y) (equal_places x y same) ∙ ap is_eq (tied_itself place_total y)))
    (λ other. by_order (place_cmp x y) (λ e. other ∙ rw e refl)
    (λ e. absurd (true≢false (sym (place_equivalence.refl x) ∙ ap (place_eq x) (same_place x y e) ∙ other)))
    (λ e. other ∙ rw e refl))
