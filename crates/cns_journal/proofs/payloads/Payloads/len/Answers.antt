use Rattle.std.proofs.Common.{rules}
use Rattle.cns_journal.proofs.PayloadLemmas.{length-pieces}
use Rattle.cns_journal.proofs.payloads.Payloads.len.Goals as goal

pub returns : goal.returns
returns c = search (rules, length-pieces)
