use Rattle.std.proofs.Common.{◌≡◌, ℕ, List, [], ◌∷◌, ◌++◌, refl, rules}
use Rattle.std.proofs.lemmas.List.{append_assoc}
use Rattle.std.specs.Int.{w64, to_be_bytes}
use Rattle.cns_movements.specs.Fields.{order_bytes, version_byte, version_of}
use Rattle.cns_movements.specs.declared.order.Order.{Order}
use Rattle.cns_records.specs.Dep.{dep_spelling}
use Rattle.cns_records.specs.Fields.{move_kind_bytes}
use Rattle.cns_records.specs.declared.dep_record.DepRecord.TheVariants.{Exec}
use Rattle.cns_records.proofs.dep_record.add_exec.Goals as goal

added : (o : Order) (n version kind : ℕ) (s s0 s1 s2 fields moved : List ℕ) → version ≡ version_byte (version_of o) → s0 ≡ s ++ version ∷ 7 ∷ kind ∷ [] → s1 ≡ s0 ++ fields → s2 ≡ s1 ++ moved
    → kind ∷ [] ≡ move_kind_bytes o.kind → fields ≡ order_bytes o → moved ≡ to_be_bytes w64 n → s2 ≡ s ++ dep_spelling (Exec o n)
unfolding dep_spelling
added o n version kind s s0 s1 s2 fields moved is_version e0 e1 e2 is_kind are_fields is_moved =
    rw (e2, e1, e0, is_version, ← is_kind, are_fields, is_moved) (simp append_assoc refl)

pub returns-clause-spelled : goal.returns-clause-spelled
returns-clause-spelled c =
    added c.args.order.now c.args.moved c.byte.result c.match-order.kind c.args.payload.now.items c.begin.new.payload.items c.extend_from_slice.new.self.items
    c.extend_from_slice-2.new.self.items c.write_bytes.new.bytes c.to_be_bytes-moved.result
    (search rules) c.in_ok-begin.ensures c.in_ok-extend_from_slice.ensures.items c.in_ok-extend_from_slice-2.ensures.items
    (search rules) c.write_bytes.ensures.text (search rules)
