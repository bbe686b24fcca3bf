use Rattle.std.proofs.Common.{◌≡◌, ◌++◌, sym, subst}
use Rattle.std.specs.Prelude.{codes}
use Rattle.std.proofs.lemmas.List.{append-nil}
use Rattle.cns_report.specs.Outcomes.{event_line}
use Rattle.cns_report.specs.Refusals.{refusal_text}
use Rattle.cns_batch.specs.ByWorkers.{not_drawn}
use Rattle.cns_batch.specs.Runs.{Puts}
use Rattle.cns_batch.proofs.page.Page.not_drawn.Goals as goal

pub returns : goal.returns
unfolding event_line
returns g c =
    let line = codes "reserve" ++ codes " refused " ++ refusal_text c.args.refusal ++ codes "\n" in
    let text : line ≡ not_drawn c.args.refusal = sym (append-nil line) in
    subst (λ l. Puts l c.told.result c.args.self.now c.told.new.self (g.W.Write.contents c.args.writer.now) (g.W.Write.contents c.told.new.writer)) text c.told.ensures
