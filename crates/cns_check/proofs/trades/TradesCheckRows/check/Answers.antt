use Rattle.std.proofs.Common.{◌++◌, subst}
use Rattle.std.proofs.lemmas.Result.{on_ok_weaker}
use Rattle.csv.specs.Records.{fields_of}
use Rattle.cns_check.specs.Findings.{in_trades}
use Rattle.cns_check.specs.Kept.{IsOf}
use Rattle.cns_check.proofs.SectionLemmas.{one_more_trade}
use Rattle.cns_check.proofs.trades.TradesCheckRows.check.Goals as goal

pub returns : goal.returns
returns c = on_ok_weaker c.add_faults.result (λ adds rows before seen at is.
    let more = one_more_trade before rows (fields_of c.args.fields.now) c.args.place.row c.faults_of-faults.result at c.faults_of-faults.ensures in
    (tt, subst (IsOf c.add_faults.new.found) more (adds (before ++ in_trades rows) is))) c.add_faults.ensures
