use Rattle.std.proofs.Common.{◌+◌, List, ℕ, length, take, drop, ◌∙◌, ap, arith}
use Rattle.cns_journal.proofs.ReadLemmas.{is_next}
use Rattle.cns_journal.proofs.record_file.read_next.Goals as goal

pub returns-clause-value : goal.returns-clause-value
returns-clause-value g c honest left =
    let header = c.in_ok-header.ensures.value honest (omega (arith, left, c.if-left-le-HEADER.false)) in
    let same = (c.read_header.ensures.reads honest).same in
    let long = ap (λ (l : List ℕ). length l) same in
    let payload = c.in_ok-read_bytes.ensures.value (c.read_header.ensures.honest ∙ honest) (omega (arith, long, left, c.if-left-size.false)) in
    is_next _ _ c.args.left c.in_ok-header.header.gate c.in_ok-header.header.size _ left header.0 header.1 (grind arith) (omega arith) (omega arith)
    (payload ∙ ap (λ l. take c.in_ok-header.header.size (drop (c.args.at + 5) l)) same)
