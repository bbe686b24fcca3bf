use Rattle.std.proofs.Common.{◌≡◌, map, vec_items, take, reverse}
use Rattle.cns_journal.specs.Replay.{AreReplayed}
use Rattle.cns_journal.proofs.record_log.replay.Given as goal

abbrev pub invariant-loop-payload : goal.invariant-loop-payload
invariant-loop-payload g l = record {
  replayed : AreReplayed (g.L.Ledger.allows l.context) g.L.Record.Record.fits l.records.items;
  spelled : map g.L.Record.Record.spelling l.records.items ≡ map vec_items (take l.payload-index l.payloads);
  comes : g.L.Ledger.comes_to l.ledger (reverse l.records.items);
}
