use Rattle.std.proofs.Common.{rules, ℕ, List, ◌∷◌, length, sym, ◌∙◌, ap, arith}
use Rattle.cns_journal.specs.Layout.{journal_of}
use Rattle.cns_journal.proofs.LayoutLemmas.{counts-true, journal-more}
use Rattle.cns_file.proofs.records.FileRecordsIterator.next.Goals as goal

pub returns-clause-steps : goal.returns-clause-steps
returns-clause-steps c =
    let first = c.in_ok-record.ensures.some in
    let rest : List ℕ = c.args.self.now.rest.now in
    journal-more rest (counts-true rest first.0) ∙ (λ i. sym first.1 i ∷ journal_of (sym first.2 i))

pub returns-clause-goes : goal.returns-clause-goes
returns-clause-goes c =
    let more = ap (λ (l : List (List ℕ)). length l) (returns-clause-steps c) in
    record { on = λ _. (search rules, search rules, omega (arith, more)); keeps = search rules; rests = search rules }
