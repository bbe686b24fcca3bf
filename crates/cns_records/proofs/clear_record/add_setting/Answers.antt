use Rattle.std.proofs.Common.{◌≡◌, ℕ, List, [], ◌∷◌, ◌++◌, refl, rules}
use Rattle.std.proofs.lemmas.List.{append_assoc}
use Rattle.std.specs.Int.{w16, to_be_bytes}
use Rattle.cns_ids.specs.Cusip.{cusip_text}
use Rattle.cns_records.proofs.clear_record.add_setting.Goals as goal

added : (kind m i : ℕ) (s s0 s1 s2 s3 member issue value : List ℕ) → s0 ≡ s ++ 1 ∷ kind ∷ [] → s1 ≡ s0 ++ member → s2 ≡ s1 ++ issue → s3 ≡ s2 ++ value
    → member ≡ to_be_bytes w16 m → issue ≡ cusip_text i → s3 ≡ s ++ 1 ∷ kind ∷ (to_be_bytes w16 m ++ (cusip_text i ++ value))
added kind m i s s0 s1 s2 s3 member issue value e0 e1 e2 e3 is_member is_issue = rw (e3, e2, e1, e0, is_member, is_issue) (simp append_assoc refl)

pub returns-clause-spelled : goal.returns-clause-spelled
returns-clause-spelled c =
    added c.args.kind c.args.member c.args.issue c.args.payload.now.items c.begin.new.payload.items c.extend_from_slice.new.self.items
    c.extend_from_slice-2.new.self.items c.extend_from_slice-3.new.self.items c.to_be_bytes-member.result c.to_bytes-issue.result c.args.value.now
    c.in_ok-begin.ensures c.in_ok-extend_from_slice.ensures.items c.in_ok-extend_from_slice-2.ensures.items c.in_ok-extend_from_slice-3.ensures.items
    (search rules) (search rules)
