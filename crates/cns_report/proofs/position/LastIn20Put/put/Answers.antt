use Rattle.std.proofs.Common.{◌++◌, ◌∷◌, [], ◌∙◌, ap}
use Rattle.std.proofs.lemmas.Result.{on_ok_weaker}
use Rattle.cns_report.specs.Right.{right_20}
use Rattle.cns_report.proofs.RowLemmas.{right_of}
use Rattle.cns_report.proofs.position.LastIn20Put.put.Goals as goal

pub returns-clause-begun : goal.returns-clause-begun
returns-clause-begun g c =
    let text = right_of c.as_bytes-digits.result.now c.copy_from_slice.new.self c.copy_from_slice.ensures.after c.if-digits-gt-PLACES.false in
    let digits = ap (λ t. right_20 t ++ 10 ∷ []) (c.as_bytes-digits.ensures.value ∙ c.format.ensures.text) in
    on_ok_weaker c.add-2.result (λ begun. begun ∙ ap (λ t. c.args.draft.now.begun ++ t) (text ∙ digits)) c.add-2.ensures.begun
