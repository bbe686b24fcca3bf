use Rattle.std.proofs.Common.{rules, ◌≡◌, ◌+◌, ◌-◌, ◌<◌, ℕ, List, length, drop, vec_items, ◌∙◌, ap, subst, arith}
use Rattle.cns_journal.specs.RecordFile.{HasLess, IsNext}
use Rattle.cns_journal.proofs.ReadLemmas.{all_read, count_more, reads_on, size_more, so_far_more}
use Rattle.cns_journal.proofs.record_file.read_records.Goals as goal

pub records-preserved : goal.records-preserved
records-preserved g c =
    let known = c.records.invariant in
    let within = known.within in
    let items = c.in_ok-push-in-Record.ensures.items in
    let taken : c.len-in-Record.result ≡ length c.in-Record.payload.items = search rules in
    let less : 5 + length c.in-Record.payload.items < c.in_ok-len.len - c.records.end = subst (HasLess (c.in_ok-len.len - c.records.end)) c.in-Record.is c.in_ok-payload.ensures.less in
    record {
      within = omega (arith, less, taken, within);
      count = count_more _ _ _ _ c.len-in-Record.result items known.count;
      size = size_more vec_items _ _ _ _ _ items taken known.size;
      honest = c.read_next.ensures.honest ∙ known.honest;
      failures = search rules;
      reads = λ honest. reads_on (known.reads honest) (c.read_next.ensures.reads (known.honest ∙ honest));
      len = known.len;
      so_far = λ honest. so_far_more vec_items _ _ (known.reads honest).same _ _ (known.so_far honest) _ _ _ items taken
          (subst (IsNext (drop c.records.end (g.D.Disk.seen c.records.disk))) c.in-Record.is
          (c.in_ok-payload.ensures.value (known.honest ∙ honest) (omega (arith, known.len honest, ap (λ (l : List ℕ). length l) (known.reads honest).same, within))));
    }

pub returns-in-End-clause-value : goal.returns-in-End-clause-value
returns-in-End-clause-value g c honest =
    let known = c.records.invariant in
    let within = known.within in
    all_read vec_items _ _ (known.reads honest).same _ _ (known.so_far honest) _ known.size
    (subst (IsNext (drop c.records.end (g.D.Disk.seen c.records.disk))) c.in-End.is
    (c.in_ok-payload.ensures.value (known.honest ∙ honest) (omega (arith, known.len honest, ap (λ (l : List ℕ). length l) (known.reads honest).same, within))))
