use Rattle.std.proofs.Common.{refl}
use Rattle.cns_trades.proofs.IdLemmas.{is_stored, stored_front}
use Rattle.cns_trades.proofs.id.TradeId.of.Goals as goal

pub invariant_of-result : goal.invariant_of-result
invariant_of-result c = is_stored c.args.text.now c.copy_from_slice.new.self c.copy_from_slice.ensures.after c.requires

pub returns : goal.returns
returns c =
    let same = c.copy_from_slice.ensures.after in
    let front = stored_front c.args.text.now c.args.text.now refl c.requires in
    rw same front
