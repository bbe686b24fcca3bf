use Rattle.std.proofs.Common.{◌≡◌, ◌++◌, ◌∙◌, [], Bool, true, false, List, None, Option, ap, arith, refl, subst, sym}
use Rattle.std.specs.Prelude.{OnOk, if◌then◌else◌}
use Rattle.std.specs.HashMap.{get}
use Rattle.std.specs.List.{cons_option}
use Rattle.std.proofs.lemmas.List.{append-nil}
use Rattle.cns_records.specs.declared.dep_record.DepRecord.{DepRecord}
use Rattle.cns_trades.specs.declared.opening.Opening.{Opening}
use Rattle.cns_depository.specs.declared.account.Account.{Account}
use Rattle.cns_depository.specs.declared.account.Side.{Side}
use Rattle.cns_depository.specs.declared.account.Side.TheVariants.{At, Outside}
use Rattle.cns_depository.specs.declared.balances.BalanceRow.{BalanceRow}
use Rattle.cns_depository.specs.declared.place.Place.{Place}
use Rattle.cns_depository.specs.Balances.{balance_row, shares_row, side_row}
use Rattle.cns_depository.specs.Places.{is_opened, unopened_row}
use Rattle.cns_depository.specs.Stock.{balance_of}
use Rattle.cns_depository.specs.Totals.{moved_at, place_eq}
use Rattle.cns_depository.proofs.IndexLemmas.{unopened_none}
use Rattle.cns_depository.proofs.TotalLemmas.{balance_by}
use Rattle.cns_depository.proofs.balances.add_unopened.Goals as goal

-- the outside has no row
outside_none : (openings : List Opening) (p : List DepRecord) (k : Place) → k.side ≡ Outside → unopened_row openings p k ≡ None
unfolding balance_row
outside_none openings p k is = by (is_opened openings k)
  where
    by : (b : Bool) → (if b then None else side_row openings p k.side k.issue) ≡ None
    by true = refl
    by false = ap (λ (s : Side). side_row openings p s k.issue) is

-- that of an account
account_row_is : (openings : List Opening) (p : List DepRecord) (k : Place) (a : Account) → k.side ≡ At a → is_opened openings (record { issue = k.issue; side = At a }) ≡ false
    → unopened_row openings p k ≡ shares_row k.issue a (balance_of openings p a k.issue)
unfolding balance_row
account_row_is openings p k a is other =
    ap (λ (s : Side). unopened_row openings p (record { issue = k.issue; side = s })) is
    ∙ ap (λ (b : Bool). if b then None else shares_row k.issue a (balance_of openings p a k.issue)) other

pub returns-in-Outside : goal.returns-in-Outside
returns-in-Outside c = λ s p are found.
    let rows = c.args.rows.now.items in
    sym (append-nil rows) ∙ ap (λ (o : Option BalanceRow). rows ++ cons_option o []) (sym (outside_none c.args.openings.now p c.args.place.now c.in-Outside.is))

pub returns-else-names : goal.returns-else-names
returns-else-names c = λ s p are found.
    let openings = c.args.openings.now in
    let k = c.args.place.now in
    let a = c.in-At.account in
    let other : is_opened openings (record { issue = k.issue; side = At a }) ≡ false = sym c.names.ensures ∙ c.if-names.false in
    let at = ap (λ (x : Side). get place_eq s.moved (record { issue = k.issue; side = x })) (sym c.in-At.is) ∙ found in
    let balance : c.balance.result ≡ balance_of openings p a k.issue =
    balance_by s openings p a k.issue c.args.moved.now 0 c.balance.result are (sym (ap moved_at at)) (sym (unopened_none openings a k.issue other)) (omega arith) c.balance.ensures in
    let row : unopened_row openings p k ≡ shares_row k.issue a c.balance.result = account_row_is openings p k a c.in-At.is other ∙ ap (shares_row k.issue a) (sym balance) in
    subst (λ (o : Option BalanceRow). OnOk c.add_row.result (c.add_row.new.rows.items ≡ c.args.rows.now.items ++ cons_option o [])) (sym row) c.add_row.ensures
