-- Rows that are held: one more, and one fewer.
use Rattle.std.proofs.Common.{◌≡◌, ◌+◌, ℕ, suc, List, [], ◌∷◌, ◌++◌, length, Option, Some, None, refl, arith}
use Rattle.cns_trades.specs.Held.{Fit, rows_held}
use Rattle.cns_trades.specs.declared.fault.RowFault.{RowFault}
use Rattle.cns_trades.specs.declared.trade.Trade.{Trade}
use Rattle.cns_trades.specs.declared.row.Row.TheVariants as row

pub length-rows_held : (n : ℕ) (es : List (Option RowFault)) (ts : List Trade) → Fit es ts → length (rows_held n es ts) ≡ length es
unfolding rows_held Fit
length-rows_held n [] ts fit = refl
length-rows_held n (Some e ∷ es) ts fit = let more = length-rows_held (n + 1) es ts fit in rw more refl
length-rows_held n (None ∷ es) [] fit = absurd fit
length-rows_held n (None ∷ es) (t ∷ ts) fit = let more = length-rows_held (n + 1) es ts fit in rw more refl

-- rows behind rows
pub fit_more : (es fs : List (Option RowFault)) (ts us : List Trade) → Fit es ts → Fit fs us → Fit (es ++ fs) (ts ++ us)
unfolding Fit
fit_more [] fs [] us fit more = more
fit_more [] fs (t ∷ ts) us fit more = absurd fit
fit_more (Some e ∷ es) fs ts us fit more = fit_more es fs ts us fit more
fit_more (None ∷ es) fs [] us fit more = absurd fit
fit_more (None ∷ es) fs (t ∷ ts) us fit more = fit_more es fs ts us fit more

pub held_more : (n : ℕ) (es fs : List (Option RowFault)) (ts us : List Trade) → Fit es ts
    → rows_held n (es ++ fs) (ts ++ us) ≡ rows_held n es ts ++ rows_held (n + length es) fs us
unfolding rows_held Fit
held_more n [] fs [] us fit = let same : n + 0 ≡ n = omega arith in rw same refl
held_more n [] fs (t ∷ ts) us fit = absurd fit
held_more n (Some e ∷ es) fs ts us fit =
    let more = held_more (n + 1) es fs ts us fit in
    let same : n + 1 + length es ≡ n + suc (length es) = omega arith in
    rw (more, same) refl
held_more n (None ∷ es) fs [] us fit = absurd fit
held_more n (None ∷ es) fs (t ∷ ts) us fit =
    let more = held_more (n + 1) es fs ts us fit in
    let same : n + 1 + length es ≡ n + suc (length es) = omega arith in
    rw (more, same) refl

-- one row fewer
pub past_fault : (n : ℕ) (all es : List (Option RowFault)) (ts : List Trade) (e : RowFault) → all ≡ Some e ∷ es → Fit all ts
    → Fit es ts × (rows_held n all ts ≡ row.Fault n e ∷ rows_held (n + 1) es ts)
unfolding Fit rows_held
past_fault n all es ts e is fit = (rw is at fit, rw is refl)

pub past_trade : (n : ℕ) (all es : List (Option RowFault)) (held ts : List Trade) (t : Trade) → all ≡ None ∷ es → held ≡ t ∷ ts → Fit all held
    → Fit es ts × (rows_held n all held ≡ row.Trade t ∷ rows_held (n + 1) es ts)
unfolding Fit rows_held
past_trade n all es held ts t is first fit = (rw (is, first) at fit, rw (is, first) refl)

pub no_trade : (all es : List (Option RowFault)) (held : List Trade) → all ≡ None ∷ es → held ≡ [] → Fit all held → ⊥
unfolding Fit
no_trade all es held is none fit = rw (is, none) at fit
