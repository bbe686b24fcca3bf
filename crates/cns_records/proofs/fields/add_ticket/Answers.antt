use Rattle.std.proofs.Common.{◌≡◌, ℕ, List, ◌++◌, ◌∙◌, rules}
use Rattle.std.proofs.lemmas.List.{append_assoc}
use Rattle.std.specs.Int.{w16, w64, to_be_bytes}
use Rattle.cns_records.specs.Drawn.{ticket_bytes}
use Rattle.cns_records.specs.declared.drawn.Drawn.{Drawn}
use Rattle.cns_records.proofs.fields.add_ticket.Goals as goal

three : (s a b c : List ℕ) → ((s ++ a) ++ b) ++ c ≡ s ++ (a ++ (b ++ c))
three s a b c = append_assoc (s ++ a) b c ∙ append_assoc s a (b ++ c)

added : (t : Drawn) (s s1 s2 s3 a b c : List ℕ) → s1 ≡ s ++ a → s2 ≡ s1 ++ b → s3 ≡ s2 ++ c
    → a ≡ to_be_bytes w16 t.member → b ≡ to_be_bytes w64 t.start → c ≡ to_be_bytes w64 t.asked → s3 ≡ s ++ ticket_bytes t
added t s s1 s2 s3 a b c e1 e2 e3 ea eb ec = rw (e3, e2, e1, ea, eb, ec) (three s (to_be_bytes w16 t.member) (to_be_bytes w64 t.start) (to_be_bytes w64 t.asked))

pub returns : goal.returns
returns c =
    let member = c.to_be_bytes.result in
    let start = c.to_be_bytes-2.result in
    let asked = c.to_be_bytes-3.result in
    added c.args.ticket.now c.args.bytes.now.items c.extend_from_slice.new.self.items c.extend_from_slice-2.new.self.items c.extend_from_slice-3.new.self.items member start asked
    c.in_ok-extend_from_slice.ensures.items c.in_ok-extend_from_slice-2.ensures.items c.in_ok-extend_from_slice-3.ensures.items
    (search rules) (search rules) (search rules)
