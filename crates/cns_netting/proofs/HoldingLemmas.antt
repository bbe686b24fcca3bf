-- The holdings of a history stand in order.
use Rattle.std.proofs.Common.{◌≡◌, List, [], ◌∷◌, true, arith, rules}
use Rattle.std.specs.Cmp.{IsEquivalence, IsTotalOrder}
use Rattle.std.specs.Cmp.Rules.{comparing}
use Rattle.std.specs.List.Sorted.{IsStrictlySortedBy}
use Rattle.std.proofs.lemmas.Bool.Decides.{nat_tests}
use Rattle.std.proofs.lemmas.Cmp.{nat_cmp_total, on_total, then_total}
use Rattle.cns_ids.specs.Holding.{holding_cmp, holding_eq}
use Rattle.cns_netting.specs.Rows.{holdings_of}
use Rattle.cns_netting.specs.declared.entry.NetEntry.{NetEntry}
use Rattle.cns_netting.specs.declared.entry.NetEntry.TheVariants.{Accepted, Netted, Settled}
use Rattle.cns_ids.specs.declared.holding.Holding.{Holding}
use Rattle.cns_ids.proofs.ListLemmas.{sorted-insert_key}

-- holdings are compared by issue and then by member
pub holding_order : IsTotalOrder holding_cmp
holding_order = then_total (on_total (λ (k : Holding). k.issue) nat_cmp_total) (on_total (λ (k : Holding). k.member) nat_cmp_total)

pub holding_eq_laws : IsEquivalence holding_eq
holding_eq_laws = Prim.search (comparing, rules)

pub equal_holdings : (a b : Holding) → holding_eq a b ≡ true → a ≡ b
equal_holdings a b e =
    let issue : a.issue ≡ b.issue = grind (arith, nat_tests) in
    let member : a.member ≡ b.member = grind (arith, nat_tests) in
    λ i. record { issue = issue i; member = member i }

-- each holding stands before all that follow it
abbrev pub AreAscending : List Holding → Type 0
AreAscending = IsStrictlySortedBy holding_cmp

-- so each of them is there at most once
pub holdings-ascending : (h : List NetEntry) → AreAscending (holdings_of h)
unfolding holdings_of IsStrictlySortedBy
holdings-ascending [] = tt
holdings-ascending (Accepted t ∷ h) = sorted-insert_key holding_order _ _ (sorted-insert_key holding_order _ _ (holdings-ascending h))
holdings-ascending (Netted d ∷ h) = holdings-ascending h
holdings-ascending (Settled m i z ∷ h) = sorted-insert_key holding_order _ _ (holdings-ascending h)
