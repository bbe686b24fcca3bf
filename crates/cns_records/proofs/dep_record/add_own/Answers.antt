use Rattle.std.proofs.Common.{◌≡◌, ℕ, List, [], ◌∷◌, ◌++◌, refl, rules}
use Rattle.std.proofs.lemmas.List.{append_assoc}
use Rattle.std.specs.Int.{w16, w64, to_be_bytes}
use Rattle.cns_ids.specs.Cusip.{cusip_text}
use Rattle.cns_records.specs.Dep.{dep_spelling}
use Rattle.cns_records.specs.Instruction.{sort_bytes}
use Rattle.cns_records.specs.declared.dep_record.DepRecord.TheVariants.{Own}
use Rattle.cns_records.specs.declared.instruction.Instruction.{Instruction}
use Rattle.cns_records.proofs.dep_record.add_own.Goals as goal

added : (i : Instruction) (version sort : ℕ) (s s0 s1 s2 s3 s4 member number issue shares : List ℕ) → version ≡ 2 → s0 ≡ s ++ version ∷ 8 ∷ sort ∷ [] → s1 ≡ s0 ++ member
    → s2 ≡ s1 ++ number → s3 ≡ s2 ++ issue → s4 ≡ s3 ++ shares → sort ∷ [] ≡ sort_bytes i.sort → member ≡ to_be_bytes w16 i.member
    → number ≡ to_be_bytes w64 i.number → issue ≡ cusip_text i.issue → shares ≡ to_be_bytes w64 i.shares → s4 ≡ s ++ dep_spelling (Own i)
unfolding dep_spelling
added i version sort s s0 s1 s2 s3 s4 member number issue shares is_version e0 e1 e2 e3 e4 is_sort is_member is_number is_issue are_shares =
    rw (e4, e3, e2, e1, e0, is_version, ← is_sort, is_member, is_number, is_issue, are_shares) (simp append_assoc refl)

pub returns-clause-spelled : goal.returns-clause-spelled
returns-clause-spelled c =
    added c.args.instruction.now c.byte.result c.match-instruction.sort c.args.payload.now.items c.begin.new.payload.items c.extend_from_slice.new.self.items
    c.extend_from_slice-2.new.self.items c.extend_from_slice-3.new.self.items c.extend_from_slice-4.new.self.items
    c.to_be_bytes-member.result c.to_be_bytes-number.result c.to_bytes-issue.result c.to_be_bytes-shares.result
    (search rules) c.in_ok-begin.ensures c.in_ok-extend_from_slice.ensures.items c.in_ok-extend_from_slice-2.ensures.items c.in_ok-extend_from_slice-3.ensures.items c.in_ok-extend_from_slice-4.ensures.items
    (search rules) (search rules) (search rules) (search rules) (search rules)
