use Rattle.std.proofs.Common.{◌≡◌, List, ℕ, [], ◌∷◌, ◌++◌, length, refl, rules}
use Rattle.std.proofs.lemmas.List.{append_assoc}
use Rattle.std.specs.Int.{w16, w64, to_be_bytes}
use Rattle.cns_ids.specs.Cusip.{cusip_text}
use Rattle.cns_trades.specs.declared.trade.Trade.{Trade}
use Rattle.cns_movements.specs.Fields.{day_bytes}
use Rattle.cns_records.specs.Clear.{spelling}
use Rattle.cns_records.specs.declared.clear_record.ClearRecord.TheVariants.{Accept}
use Rattle.cns_records.proofs.clear_record.add_accept.Goals as goal

added : (t : Trade) (s s0 s1 s2 id terms : List ℕ) → s0 ≡ s ++ 1 ∷ 1 ∷ length id ∷ [] → s1 ≡ s0 ++ id → s2 ≡ s1 ++ terms → id ≡ t.id
    → terms ≡ day_bytes t.settle ++ to_be_bytes w16 t.buyer ++ to_be_bytes w16 t.seller ++ cusip_text t.issue ++ to_be_bytes w64 t.quantity
    → s2 ≡ s ++ spelling (Accept t)
unfolding spelling
added t s s0 s1 s2 id terms e0 e1 e2 is_id are_terms = rw (e2, e1, e0, is_id, are_terms) (simp append_assoc refl)

pub returns-clause-spelled : goal.returns-clause-spelled
returns-clause-spelled c =
    added c.args.trade.now c.args.payload.now.items c.begin.new.payload.items c.extend_from_slice.new.self.items c.extend_from_slice-2.new.self.items
    c.as_bytes-id.result.now c.terms_of-terms.result c.in_ok-begin.ensures c.in_ok-extend_from_slice.ensures.items c.in_ok-extend_from_slice-2.ensures.items
    (search rules) c.terms_of-terms.ensures.bytes
