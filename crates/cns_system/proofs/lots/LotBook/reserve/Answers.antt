use Rattle.std.proofs.Common.{ap, rules}
use Rattle.cns_system.specs.Lots.{LotsRoom}
use Rattle.cns_system.proofs.LotsLemmas.{lot-read, none_reserved, reserve_leaves}
use Rattle.cns_system.proofs.lots.LotBook.reserve.Goals as goal

pub returns-in_err-index : goal.returns-in_err-index
returns-in_err-index c =
    none_reserved c.args.self.now.lots c.args.number c.args.member c.in_err-index.field-0.0 _ (search rules) (search rules)

pub returns : goal.returns
returns c =
    reserve_leaves _ _ c.args.number c.in_ok-index.index c.args.member c.reserve.result c.index_mut-lot.result.now c.reserve.new.self
    (lot-read _ _ c.args.number c.in_ok-index.index c.index_mut-lot.result.now (ap (λ (b : LotsRoom). b.lots) c.self.view_is) c.in_ok-index.ensures.gives c.index_mut-lot.ensures.value) c.reserve.ensures
