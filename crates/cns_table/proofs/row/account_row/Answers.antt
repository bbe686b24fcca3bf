use Rattle.std.proofs.Common.{◌≡◌, ◌∙◌, true, refl, sym}
use Rattle.std.proofs.lemmas.List.{take_rest}
use Rattle.cns_table.specs.Row.{account_columns, has_account_form, is_shares_of}
use Rattle.cns_table.proofs.row.account_row.Goals as goal

pub returns : goal.returns
unfolding account_columns
returns c =
    let has : has_account_form c.args.line.now ≡ true = sym c.has_account_form.ensures.form ∙ c.if-not-has_account_form.false in
    let right = rw take_rest at c.in_ok-shares.ensures in
    let shares : is_shares_of c.args.kind c.in_ok-shares.shares.now ≡ true = sym c.is_shares.ensures ∙ c.if-not-is_shares.false in
    rw (has, ← right, shares) refl
