use Rattle.std.proofs.Common.{ap, rules}
use Rattle.cns_system.specs.Lot.{with_end}
use Rattle.cns_system.specs.Lots.{LotsRoom}
use Rattle.cns_system.proofs.LotsLemmas.{change_leaves, lot-read, none_changed}
use Rattle.cns_system.proofs.lots.LotBook.end.Goals as goal

pub returns-in_err-index : goal.returns-in_err-index
returns-in_err-index c =
    none_changed with_end c.args.self.now.lots c.args.number c.in_err-index.field-0.0 _ (search rules) (search rules)

pub returns : goal.returns
returns c =
    change_leaves with_end _ _ c.args.number c.in_ok-index.index c.index_mut-lot.result.now c.end.new.self
    (lot-read _ _ c.args.number c.in_ok-index.index c.index_mut-lot.result.now (ap (λ (b : LotsRoom). b.lots) c.self.view_is) c.in_ok-index.ensures.gives c.index_mut-lot.ensures.value) c.end.ensures
