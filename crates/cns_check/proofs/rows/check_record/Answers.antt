use Rattle.std.proofs.Common.{◌<◌, ◌∙◌, arith, length, sym}
use Rattle.std.proofs.lemmas.Result.{on_ok_weaker}
use Rattle.csv.specs.Records.{fields_of}
use Rattle.cns_check.specs.Kept.{IsOf}
use Rattle.cns_check.proofs.SectionLemmas.{first_record, one_more_row}
use Rattle.cns_check.proofs.rows.check_record.Goals as goal

pub returns-then-place-eq0 : goal.returns-then-place-eq0
returns-then-place-eq0 g c = on_ok_weaker c.check_header.result (λ adds records before seen at is.
    first_record g.C.CheckRows.table g.C.CheckRows.is_header g.C.CheckRows.in_rows (IsOf c.args.found.now) (IsOf c.check_header.new.found) (g.C.CheckRows.has_seen c.args.checks.now) records (fields_of c.args.fields.now) before
    (sym at ∙ c.if-place-eq0.true) (adds before) seen is) c.check_header.ensures

pub returns-else-place-eq0 : goal.returns-else-place-eq0
returns-else-place-eq0 g c = on_ok_weaker c.check.result (λ adds records before seen at is.
    let some : 0 < length records = omega arith in
    one_more_row g.C.CheckRows.table g.C.CheckRows.is_header g.C.CheckRows.in_rows (IsOf c.args.found.now) (IsOf c.check.new.found) (g.C.CheckRows.has_seen c.args.checks.now) (g.C.CheckRows.has_seen c.check.new.self) records (fields_of c.args.fields.now) before
    some (λ rows b s e p. adds rows b s (at ∙ e) p) seen is) c.check.ensures
