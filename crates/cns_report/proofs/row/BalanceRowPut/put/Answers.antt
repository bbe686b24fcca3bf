use Rattle.std.proofs.Common.{◌∷◌, ◌++◌, [], ℕ, List, ◌∙◌, ap, sym}
use Rattle.std.specs.Fmt.{decimal}
use Rattle.std.proofs.lemmas.List.{append_assoc}
use Rattle.std.proofs.lemmas.Result.{on_ok_weaker}
use Rattle.cns_ids.specs.Cusip.{cusip_text}
use Rattle.cns_report.specs.Report.{account_text, balance_line}
use Rattle.cns_report.specs.Right.{right_20}
use Rattle.cns_report.proofs.row.BalanceRowPut.put.Goals as goal

pub returns-clause-begun : goal.returns-clause-begun
unfolding balance_line
returns-clause-begun c =
    let row = c.args.self.now in
    let issue = 32 ∷ cusip_text row.issue in
    let shares = right_20 (decimal row.shares) in
    let of =
    ap (λ (of : List ℕ). of ++ (shares ++ 10 ∷ [])) c.issue_and_account-of.ensures
    ∙ append_assoc (issue ++ 32 ∷ c.account_digits.result) (32 ∷ []) (shares ++ 10 ∷ [])
    ∙ ap (λ (account : List ℕ). (issue ++ 32 ∷ account) ++ 32 ∷ (shares ++ 10 ∷ [])) c.account_digits.ensures
    ∙ sym (append_assoc (issue ++ 32 ∷ account_text row.account) (32 ∷ shares) (10 ∷ [])) in
    on_ok_weaker c.put.result (λ begun. begun ∙ ap (λ (t : List ℕ). c.args.draft.now.begun ++ 66 ∷ 65 ∷ 76 ∷ t) of) c.put.ensures.begun
