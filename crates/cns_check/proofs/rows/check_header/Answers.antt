use Rattle.std.proofs.Common.{◌∙◌, ap, sym, subst, ◌++◌, ◌∷◌, []}
use Rattle.std.proofs.lemmas.List.{append-nil}
use Rattle.std.proofs.lemmas.Result.{on_ok_weaker}
use Rattle.cns_check.specs.Kept.{IsOf}
use Rattle.cns_check.specs.declared.finding.Finding.TheVariants as finding
use Rattle.cns_check.proofs.SectionLemmas.{is_its_header, is_not_its_header}
use Rattle.cns_check.proofs.rows.check_header.Goals as goal

pub returns-then-is_header : goal.returns-then-is_header
returns-then-is_header g c = λ before is.
    let none = is_its_header g.C.CheckRows.table g.C.CheckRows.is_header g.C.CheckRows.in_rows _ g.C.CheckRows.nothing_in_none (sym c.is_header.ensures ∙ c.if-is_header.true) in
    subst (IsOf c.args.found.now) (sym (ap (λ xs. before ++ xs) none ∙ append-nil before)) is

pub returns : goal.returns
returns g c = on_ok_weaker c.add.result (λ adds before is.
    let one = is_not_its_header g.C.CheckRows.table g.C.CheckRows.is_header g.C.CheckRows.in_rows _ g.C.CheckRows.nothing_in_none (sym c.is_header.ensures ∙ c.if-is_header.false) in
    let here = ap (λ t. before ++ finding.NoHeader t ∷ []) c.table-2.ensures ∙ sym (ap (λ xs. before ++ xs) one) in
    subst (IsOf c.add.new.self) here (adds before is)) c.add.ensures
