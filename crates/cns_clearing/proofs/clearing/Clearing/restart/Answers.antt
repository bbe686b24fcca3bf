use Rattle.cns_records.proofs.ClearLaws.{spelling_injective}
use Rattle.cns_clearing.proofs.NodeLemmas.{node_restarted, node_unread}
use Rattle.cns_clearing.proofs.clearing.Clearing.restart.Goals as goal

pub restart-requires-clause-comes : goal.restart-requires-clause-comes
restart-requires-clause-comes g c = record { books_are = c.new-books.ensures; lawful = tt; fits = tt }

pub restart-requires-clause-payloads : goal.restart-requires-clause-payloads
restart-requires-clause-payloads g c = spelling_injective

pub invariant_of-self : goal.invariant_of-self
invariant_of-self g c =
    node_restarted _ _ _ (record { log = c.restart.new.self; lots = c.clear.new.self.lots }) c.in-Ok.restarted c.self.invariant (c.in-Ok.ensures.leaves, c.clear.ensures) c.in-Ok.ensures.comes

pub invariant_of-self-in-Err : goal.invariant_of-self-in-Err
invariant_of-self-in-Err g c =
    node_unread _ _ (record { log = c.restart.new.self; lots = c.clear.new.self.lots }) c.in-Err.fault c.self.invariant (c.in-Err.ensures.leaves, c.clear.ensures)
