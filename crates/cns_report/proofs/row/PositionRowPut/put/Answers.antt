use Rattle.std.proofs.Common.{◌≡◌, ◌∷◌, ◌++◌, [], ℕ, List, ◌∙◌, ap, rules}
use Rattle.std.specs.Prelude.{ℤ}
use Rattle.std.specs.Fmt.{signed_decimal}
use Rattle.std.specs.Int.{w64}
use Rattle.std.proofs.lemmas.List.{append_assoc}
use Rattle.std.proofs.lemmas.Result.{on_ok_weaker}
use mir.Val.{of_z, to_z}
use Rattle.cns_ids.specs.Cusip.{cusip_text}
use Rattle.cns_report.specs.Report.{position_line}
use Rattle.cns_report.specs.Right.{right_20}
use Rattle.cns_report.proofs.row.PositionRowPut.put.Goals as goal

pub returns-clause-begun : goal.returns-clause-begun
unfolding position_line
returns-clause-begun c =
    let row = c.args.self.now in
    let issue = 32 ∷ cusip_text row.issue in
    let number : ℤ → List ℕ = λ z. right_20 (signed_decimal z) ++ 10 ∷ [] in
    let kept = to_z w64 (of_z w64 row.position) in
    let same : kept ≡ row.position = search rules in
    let of =
    ap (λ (of : List ℕ). of ++ number kept) c.issue_and_account-of.ensures
    ∙ append_assoc (issue ++ 32 ∷ c.to_bytes.result) (32 ∷ []) (number kept)
    ∙ ap (λ (member : List ℕ). (issue ++ 32 ∷ member) ++ 32 ∷ number kept) c.to_bytes.ensures in
    on_ok_weaker c.put.result
    (λ begun. begun ∙ ap (λ (t : List ℕ). c.args.draft.now.begun ++ 80 ∷ 79 ∷ 83 ∷ t) of ∙ ap (λ (z : ℤ). c.args.draft.now.begun ++ position_line (record row { position = z })) same) c.put.ensures.begun
