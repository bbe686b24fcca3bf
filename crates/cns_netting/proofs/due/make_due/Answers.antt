use Rattle.std.proofs.Common.{arith, rules, sym}
use Rattle.std.specs.BinaryHeap.{heap_items}
use Rattle.std.proofs.lemmas.List.Elements.{All-weaker}
use Rattle.cns_netting.specs.declared.undue.Undue.{Undue}
use Rattle.cns_netting.specs.Positions.{bought_by, IsNamed, sold_by}
use Rattle.cns_netting.specs.Totals.{HasIssue}
use Rattle.cns_netting.proofs.AddLemmas.{adds_none, all_named}
use Rattle.cns_netting.proofs.KeptLemmas.{near_by}
use Rattle.cns_netting.proofs.QueueLemmas.{all-later, left-later, none-settled}
use Rattle.cns_netting.proofs.TradeLemmas.{settled-left}
use Rattle.cns_netting.proofs.due.make_due.Goals as goal

pub add_due_counted-count-requires : goal.add_due_counted-count-requires
add_due_counted-count-requires c =
    rw c.as_slice.ensures.value (record {
      named = c.requires.named;
      issues = c.requires.issues;
      near = near_by c.args.day (heap_items c.args.undue.now) c.requires.near;
      totals = c.requires.totals;
    })

pub returns-clause-left : goal.returns-clause-left
returns-clause-left c = λ f. left-later c.args.day f (heap_items c.args.undue.now) (heap_items c.retain_later.new.undue) c.retain_later.ensures.later

pub returns-clause-named : goal.returns-clause-named
returns-clause-named c =
    let waiting = heap_items c.args.undue.now in
    all-later c.args.day (IsNamed c.add_due_counted-count.new.positions.entries) waiting (heap_items c.retain_later.new.undue) c.retain_later.ensures.later
    (all_named (rw c.as_slice.ensures.value at c.add_due_counted-count.ensures.adds) waiting c.requires.named)

pub returns-clause-issues : goal.returns-clause-issues
returns-clause-issues c =
    let waiting = heap_items c.args.undue.now in
    all-later c.args.day (HasIssue c.add_due_counted-count.new.totals) waiting (heap_items c.retain_later.new.undue) c.retain_later.ensures.later
    (All-weaker (HasIssue c.args.totals.now) (HasIssue c.add_due_counted-count.new.totals) (λ t one. c.add_due_counted-count.ensures.issues _ one) waiting c.requires.issues)

pub returns-then-not-has_due : goal.returns-then-not-has_due
returns-then-not-has_due c =
    let waiting = heap_items c.args.undue.now in
    let later = c.has_due.ensures (search rules) in
    record {
      heap = c.requires.heap;
      left = λ f. omega (arith, settled-left c.args.day f waiting, none-settled c.args.day f waiting later);
      count = sym (none-settled c.args.day (λ (t : Undue). 1) waiting later);
      adds = adds_none c.args.positions.now.entries (λ m i. none-settled c.args.day (bought_by m i) waiting later) (λ m i. none-settled c.args.day (sold_by m i) waiting later);
      named = c.requires.named;
      issues = c.requires.issues;
      totals = c.requires.totals;
    }
