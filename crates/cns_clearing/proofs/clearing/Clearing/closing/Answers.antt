use Rattle.std.proofs.Common.{◌≡◌, Some, rules, sym}
use Rattle.cns_clearing.specs.Pools.{lot_of}
use Rattle.cns_clearing.proofs.AllocationLemmas.{allocation_lawful, close_spent, recordable}
use Rattle.cns_clearing.proofs.CallsLemmas.{close_none, close_unnumbered}
use Rattle.cns_clearing.proofs.DrawnLemmas.{tickets_drawn}
use Rattle.cns_clearing.proofs.LotLemmas.{lot_found}
use Rattle.cns_clearing.proofs.clearing.Clearing.closing.Goals as goal

pub returns-in_default-clause-refused : goal.returns-in_default-clause-refused
returns-in_default-clause-refused g c = close_none _ _ _ _ _ (search rules)

pub returns-then-are_spent : goal.returns-then-are_spent
returns-then-are_spent g c =
    let lot = c.in-Some.lot.now in
    let found : lot_of c.args.self.now.lots c.args.issue ≡ Some lot = rw c.lots-lots.ensures.lots at (sym c.in-Some.ensures) in
    let spent = close_spent _ _ lot c.args.tickets.now c.args.sealed _ _ _ _ c.books.ensures.books c.count.ensures.value c.delivery_count-count.ensures c.are_spent.ensures c.if-are_spent.true in
    record { closes = tt; recordable = tt; refused = close_unnumbered _ _ _ _ _ lot found spent }

pub returns : goal.returns
returns g c =
    let lot = c.in-Some.lot.now in
    let law = c.lots-lots.ensures.records in
    let found : lot_of c.args.self.now.lots c.args.issue ≡ Some lot = rw c.lots-lots.ensures.lots at (sym c.in-Some.ensures) in
    let served = c.requires.served lot found in
    let lawful = allocation_lawful _ lot c.args.tickets.now c.args.sealed (lot_found _ _ _ _ c.lots-lots.ensures.lawful found).0 served in
    let numbers = close_spent _ _ lot c.args.tickets.now c.args.sealed _ _ _ _ c.books.ensures.books c.count.ensures.value c.delivery_count-count.ensures c.are_spent.ensures c.if-are_spent.false in
    record {
      closes = record { found = found; served = served; lawful = lawful; numbers = numbers };
      recordable = rw tickets_drawn at (recordable _ _ law.0 law.1 lawful);
      refused = tt;
    }
