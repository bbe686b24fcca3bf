-- A list of trades by their ids.
use Rattle.std.proofs.Common.{◌≡◌, ◌<◌, ℕ, suc, List, [], ◌∷◌, ◌++◌, length, Option, Some, None, Bool, true, false, refl, sym, ap, ◌∙◌}
use Rattle.std.specs.Prelude.{map, ◌==◌, nat_lt, if◌then◌else◌}
use Rattle.std.specs.Map.{lookup}
use borrow.Author.Tests.{ltb-true}
use Rattle.std.proofs.lemmas.List.{map-append}
use lib.Pointwise.{bytes_decides}
use Rattle.std.specs.Option.{option_map}
use Rattle.cns_trades.specs.Listed.{same_trade, trade_in}
use Rattle.cns_trades.specs.declared.list.Terms.{Terms}
use Rattle.cns_trades.specs.Fields.{same_text}
use Rattle.cns_trades.specs.Verdicts.{verdict_by, known, verdict}
use Rattle.cns_trades.specs.declared.trade.Trade.{Trade}
use Rattle.cns_trades.specs.declared.list.Verdict.TheVariants as verdicts

pub same_self : (id : List ℕ) → same_text id id ≡ true
same_self id = (bytes_decides id id).1 refl

-- the trade of an id, by a look-up in the entries
pub known-lookup : (id : List ℕ) (es : List (List ℕ × Terms)) → known id (map trade_in es) ≡ option_map (λ u. trade_in (id, u)) (lookup (same_text id) es)
known-lookup id [] = refl
known-lookup id (e ∷ es) = by (same_text id e.0) refl (known-lookup id es)
  where
    by : (b : Bool) → same_text id e.0 ≡ b → known id (map trade_in es) ≡ option_map (λ u. trade_in (id, u)) (lookup (same_text id) es)
        → known id (map trade_in (e ∷ es)) ≡ option_map (λ u. trade_in (id, u)) (lookup (same_text id) (e ∷ es))
    by true is more = let same = (bytes_decides id e.0).0 is in rw is (ap (λ k. Some (trade_in (k, e.1))) (sym same))
    by false is more = rw (is, more) refl

-- what the list says of a trade between two members whose id is found, and of one whose id is not
pub verdict-found : (es : List (List ℕ × Terms)) (t : Trade) (u : Terms) → (t.buyer == t.seller) ≡ false → lookup (same_text t.id) es ≡ Some u
    → verdict (map trade_in es) t ≡ (if same_trade (trade_in (t.id, u)) t then verdicts.Same else verdicts.Conflict)
verdict-found es t u h found = let k = known-lookup t.id es ∙ ap (option_map (λ u. trade_in (t.id, u))) found in rw (h, k) refl

pub verdict-none : (es : List (List ℕ × Terms)) (t : Trade) → (t.buyer == t.seller) ≡ false → lookup (same_text t.id) es ≡ None
    → verdict (map trade_in es) t ≡ (if nat_lt (length (map trade_in es)) 1000000 then verdicts.New else verdicts.Full)
verdict-none es t h none = let k = known-lookup t.id es ∙ ap (option_map (λ u. trade_in (t.id, u))) none in rw (h, k) refl

-- an id that is not known is not found
pub not_found : (id : List ℕ) (es : List (List ℕ × Terms)) → known id (map trade_in es) ≡ None → lookup (same_text id) es ≡ None
not_found id es none = by (lookup (same_text id) es) (sym (known-lookup id es) ∙ none)
  where
    by : (o : Option Terms) → option_map (λ u. trade_in (id, u)) o ≡ None → o ≡ None
    by None e = refl
    by (Some u) e = cc e

-- a new trade has an id that is not known
pub new-unknown : (held : List Trade) (t : Trade) → verdict held t ≡ verdicts.New → known t.id held ≡ None
new-unknown held t h = by (t.buyer == t.seller) (known t.id held) h
  where
    by : (b : Bool) (o : Option Trade) → (if b then verdicts.SameMember else verdict_by held t o) ≡ verdicts.New → o ≡ None
    by true o e = cc e
    by false None e = refl
    by false (Some u) e = same (same_trade u t) e
      where
        same : (b : Bool) → (if b then verdicts.Same else verdicts.Conflict) ≡ verdicts.New → Some u ≡ None
        same true e = cc e
        same false e = cc e

pub trades_size : (es : List (List ℕ × Terms)) → length (map trade_in es) ≡ length es
trades_size [] = refl
trades_size (e ∷ es) = ap suc (trades_size es)

pub trades-more : (es : List (List ℕ × Terms)) (t : Trade) (u : Terms) → trade_in (t.id, u) ≡ t → map trade_in (es ++ (t.id, u) ∷ []) ≡ map trade_in es ++ t ∷ []
trades-more es t u is = map-append trade_in es ((t.id, u) ∷ []) ∙ ap (λ t. map trade_in es ++ t ∷ []) is

-- a new trade finds fewer than a million
pub new-few : (held : List Trade) (t : Trade) → verdict held t ≡ verdicts.New → length held < 1000000
new-few held t h = by (t.buyer == t.seller) (known t.id held) h
  where
    at_limit : (b : Bool) → nat_lt (length held) 1000000 ≡ b → (if b then verdicts.New else verdicts.Full) ≡ verdicts.New → length held < 1000000
    at_limit true is e = ltb-true _ _ is
    at_limit false is e = cc e

    by : (b : Bool) (o : Option Trade) → (if b then verdicts.SameMember else verdict_by held t o) ≡ verdicts.New → length held < 1000000
    by true o e = cc e
    by false None e = at_limit (nat_lt (length held) 1000000) refl e
    by false (Some u) e = same (same_trade u t) e
      where
        same : (b : Bool) → (if b then verdicts.Same else verdicts.Conflict) ≡ verdicts.New → length held < 1000000
        same true e = cc e
        same false e = cc e
