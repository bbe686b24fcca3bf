use Rattle.std.proofs.Common.{rules, ◌≡◌, ◌∷◌, ◌++◌, ◌≤◌, [], length, arith}
use Rattle.cns_journal.proofs.PayloadLemmas.{all_more, length-pieces, pieces_more}
use Rattle.cns_journal.proofs.payloads.Payloads.push.Goals as goal

pub invariant_of-self-2 : goal.invariant_of-self-2
invariant_of-self-2 c =
    let lengths : c.push_reserved.new.self.items ≡ c.self.inside.lengths.items ++ length c.args.payload.now ∷ [] = search rules in
    let bytes : c.extend_from_slice.new.self.items ≡ c.self.inside.bytes.items ++ c.args.payload.now = search rules in
    (search rules, rw lengths (rw bytes (all_more _ _ _ c.self.invariant.1)))

pub returns-clause-ok : goal.returns-clause-ok
returns-clause-ok c =
    let lengths : c.push_reserved.new.self.items ≡ c.self.inside.lengths.items ++ length c.args.payload.now ∷ [] = search rules in
    let bytes : c.extend_from_slice.new.self.items ≡ c.self.inside.bytes.items ++ c.args.payload.now = search rules in
    rw lengths (rw bytes (rw (← c.self.view_is) (pieces_more _ _ _ c.self.invariant.1)))

pub returns-clause-limit : goal.returns-clause-limit
returns-clause-limit c =
    let few : length c.push_reserved.new.self.items ≤ 4611686018427387904 = search rules in
    omega (arith, few, length-pieces c.push_reserved.new.self.items c.extend_from_slice.new.self.items)
