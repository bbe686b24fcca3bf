use Rattle.std.proofs.Common.{◌≡◌, ◌+◌, ◌≤◌, ◌^◌, ℕ, ◌∙◌, ap, arith}
use Rattle.std.specs.Prelude.{if◌then◌else◌}
use Rattle.std.specs.HashMap.{get}
use Rattle.cns_depository.specs.Totals.{moved_at, place_eq}
use Rattle.cns_depository.proofs.TotalLemmas.{sums_more}
use Rattle.cns_depository.proofs.moved.add_transfer.Goals as goal

pub returns : goal.returns
returns c = λ p are few.
    let t = c.transfer_of-transfer.result in
    let shares : c.from-shares.result ≡ t.shares = omega (arith, c.from-shares.ensures, c.count.ensures.value) in
    let small : t.shares ≤ 10 ^ 18 = omega (arith, c.count.ensures.range) in
    sums_more (λ k. moved_at (get place_eq c.args.moved.now k)) _ p c.args.entry.now t c.from-shares.result are few c.transfer_of-transfer.ensures shares small
    (λ k. c.leave.ensures.entered k ∙ c.enter.ensures.entered k)
    (λ k. c.leave.ensures.left k ∙ ap (λ (n : ℕ). n + (if place_eq (record { issue = t.issue; side = t.giver }) k then c.from-shares.result else 0)) (c.enter.ensures.left k))
