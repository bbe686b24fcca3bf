-- The faults that rows have: the numbers that they tell are small.
use Rattle.std.proofs.Common.{◌≡◌, ◌<◌, ◌+◌, ℕ, List, [], ◌∷◌, length, Option, Some, None, Bool, true, false, refl, arith}
use Rattle.std.specs.Prelude.{◌==◌, get_or, if◌then◌else◌, IfErr, not, slice_index, Ok, Err, Result}
use Rattle.std.proofs.lemmas.Bool.{eqb-true}
use Rattle.cns_ids.specs.Cusip.{check_digit, first_bad, is_listed_at, number_of, read_cusip, with_digit}
use Rattle.cns_ids.specs.Number.{number_in}
use Rattle.cns_ids.specs.ReadDay.{read_day}
use Rattle.cns_ids.specs.Steps.{◌>>=◌}
use Rattle.cns_ids.specs.declared.cusip.CusipFault.TheVariants as cusip
use Rattle.cns_trades.proofs.AllRead.{some_same}
use Rattle.cns_trades.specs.FaultCode.{IsSmall}
use Rattle.cns_trades.specs.ReadId.{read_id}
use Rattle.cns_trades.specs.Records.{Fields}
use Rattle.cns_trades.specs.Rows.{told, trade_of}
use Rattle.cns_trades.specs.declared.fault.RowFault.{RowFault}
use Rattle.cns_trades.specs.declared.fault.RowFault.TheVariants as fault
use Rattle.cns_trades.specs.declared.trade.Trade.{Trade}

-- the first place that is bad lies in the text
first_bad-within : (place : ℕ) (text : List ℕ) (bad : ℕ) → first_bad place text ≡ Some bad → bad < place + length text
unfolding first_bad
first_bad-within place [] bad e = cc e
first_bad-within place (c ∷ cs) bad e = by (is_listed_at place c) e (first_bad-within (place + 1) cs bad)
  where
    by : (b : Bool) → (if b then first_bad (place + 1) cs else Some place) ≡ Some bad → (first_bad (place + 1) cs ≡ Some bad → bad < place + 1 + length cs)
        → bad < place + length (c ∷ cs)
    by true h more = omega (arith, more h)
    by false h more = let same = some_same _ _ h in omega (arith, same)

-- the numbers that a fault of a CUSIP tells are of one digit
cusip_fault-small : (text : List ℕ) → IfErr (read_cusip text) (λ f. IsSmall (fault.Cusip f))
unfolding read_cusip
cusip_fault-small text = by (length text == 9) refl
  where
    by_digit : (b : Bool) → IfErr (if b then Ok (number_of text) else Err (cusip.CheckDigit (check_digit text))) (λ f. IsSmall (fault.Cusip f))
    by_digit true = tt
    by_digit false = omega arith

    found : (bad : Option ℕ) → length text ≡ 9 → first_bad 1 text ≡ bad → IfErr (with_digit text bad) (λ f. IsSmall (fault.Cusip f))
    found None nine is = by_digit (slice_index text 8 == 48 + check_digit text)
    found (Some place) nine is = omega (arith, first_bad-within 1 text place is, nine)

    by : (b : Bool) → (length text == 9) ≡ b → IfErr (if b then with_digit text (first_bad 1 text) else Err cusip.Length) (λ f. IsSmall (fault.Cusip f))
    by true e = found (first_bad 1 text) (eqb-true _ _ e) refl
    by false e = tt

-- a fault of each kind
free : {A E : Type 0} {P : E → Type 0} (r : Result A E) → ((e : E) → P e) → IfErr r P
free (Ok a) all = tt
free (Err e) all = all e

-- a step of reading: its own fault, or one of the next steps
step : {A B E : Type 0} (tell : E → RowFault) (r : Result A E) (next : A → Result B RowFault) → IfErr r (λ e. IsSmall (tell e))
    → ((a : A) → IfErr (next a) IsSmall) → IfErr (told tell r >>= next) IsSmall
step tell (Ok a) next small rest = rest a
step tell (Err e) next small rest = small

-- the number of fields, and the steps
unless : (b : Bool) (r : Result Trade RowFault) → IfErr r IsSmall → IfErr (if b then Err fault.Fields else r) IsSmall
unless true r small = tt
unless false r small = small

-- and so those of a row
pub trade_fault-small : (fs : Fields) → IfErr (trade_of fs) IsSmall
unfolding trade_of
trade_fault-small fs = unless (not (length fs == 6)) _
    (step (λ _. fault.Id) (read_id (get_or fs 0 [])) _ (free _ (λ e. tt)) (λ id. step (λ _. fault.Settle) (read_day (get_or fs 1 [])) _ (free _ (λ e. tt))
    (λ settle. step fault.Buyer (number_in 1 9999 (get_or fs 2 [])) _ (free _ (λ e. tt)) (λ buyer. step fault.Seller (number_in 1 9999 (get_or fs 3 [])) _ (free _ (λ e. tt))
    (λ seller. step fault.Cusip (read_cusip (get_or fs 4 [])) _ (cusip_fault-small (get_or fs 4 []))
    (λ issue. step fault.Quantity (number_in 1 999999999999 (get_or fs 5 [])) _ (free _ (λ e. tt)) (λ quantity. tt)))))))
