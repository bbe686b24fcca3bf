use Rattle.std.proofs.Common.{◌≡◌, ℕ, List, [], ◌∷◌, ◌++◌, refl, rules}
use Rattle.std.proofs.lemmas.List.{append_assoc}
use Rattle.std.specs.Int.{w64, to_be_bytes}
use Rattle.std.specs.List.{flat_map}
use Rattle.cns_ids.specs.Cusip.{cusip_text}
use Rattle.cns_records.specs.Clear.{spelling}
use Rattle.cns_records.specs.Drawn.{drawn_bytes, ticket_bytes}
use Rattle.cns_records.specs.Fields.{flag_bytes}
use Rattle.cns_records.specs.declared.allocation.Allocation.{Allocation}
use Rattle.cns_records.specs.declared.clear_record.ClearRecord.TheVariants.{Allocate}
use Rattle.cns_records.proofs.clear_record.add_allocate.Goals as goal

added : (a : Allocation) (s s0 s1 s2 s3 s4 s5 s6 s7 issue opened upto poured sealed count drawn : List ℕ) → s0 ≡ s ++ 1 ∷ 5 ∷ [] → s1 ≡ s0 ++ issue
    → s2 ≡ s1 ++ opened → s3 ≡ s2 ++ upto → s4 ≡ s3 ++ poured → s5 ≡ s4 ++ sealed → s6 ≡ s5 ++ count → s7 ≡ s6 ++ drawn → issue ≡ cusip_text a.issue
    → opened ≡ to_be_bytes w64 a.opened → upto ≡ to_be_bytes w64 a.upto → poured ≡ to_be_bytes w64 a.poured → sealed ≡ flag_bytes a.sealed
    → count ++ drawn ≡ drawn_bytes a.drawn → s7 ≡ s ++ spelling (Allocate a)
unfolding spelling
added a s s0 s1 s2 s3 s4 s5 s6 s7 issue opened upto poured sealed count drawn e0 e1 e2 e3 e4 e5 e6 e7 is_issue is_opened is_upto is_poured is_sealed are_drawn =
    rw (e7, e6, e5, e4, e3, e2, e1, e0, is_issue, is_opened, is_upto, is_poured, is_sealed, ← are_drawn) (simp append_assoc refl)

pub returns-clause-spelled : goal.returns-clause-spelled
returns-clause-spelled c =
    added c.args.allocation.now c.args.payload.now.items c.begin.new.payload.items c.extend_from_slice.new.self.items c.extend_from_slice-2.new.self.items
    c.extend_from_slice-3.new.self.items c.extend_from_slice-4.new.self.items c.extend_from_slice-5.new.self.items c.extend_from_slice-6.new.self.items
    c.add_tickets.new.bytes.items c.to_bytes-issue.result c.to_be_bytes-opened.result c.to_be_bytes-upto.result c.to_be_bytes-poured.result
    (c.from-sealed.result ∷ []) c.to_be_bytes-count.result (flat_map ticket_bytes c.as_slice-tickets.result.now)
    c.in_ok-begin.ensures c.in_ok-extend_from_slice.ensures.items c.in_ok-extend_from_slice-2.ensures.items c.in_ok-extend_from_slice-3.ensures.items
    c.in_ok-extend_from_slice-4.ensures.items c.in_ok-extend_from_slice-5.ensures.items c.in_ok-extend_from_slice-6.ensures.items c.in_ok-add_tickets.ensures
    (search rules) (search rules) (search rules) (search rules) (search rules) (search rules)
