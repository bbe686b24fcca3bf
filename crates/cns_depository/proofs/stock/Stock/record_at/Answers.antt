use Rattle.std.proofs.Common.{◌∙◌, sym, reverse, arith}
use Rattle.std.proofs.lemmas.Grind.{common_steps}
use Rattle.std.proofs.lemmas.Option.{gets}
use Rattle.cns_depository.proofs.TotalLemmas.{index_none_of, index_some_of}
use Rattle.cns_depository.proofs.stock.Stock.record_at.Goals as goal

pub returns-in_err-index : goal.returns-in_err-index
returns-in_err-index c =
    c.from_residual.ensures ∙ sym (index_none_of (reverse c.args.records.now) c.args.key.now _ (c.requires.found c.args.key.now) (sym c.in_err-index.ensures.value))

pub returns : goal.returns
returns c =
    rw (← index_some_of c.args.records.now c.args.key.now c.in_ok-index.index.now _ (c.requires.found c.args.key.now) (sym c.in_ok-index.ensures.value))
    (grind (arith, common_steps, gets))
