use Rattle.std.proofs.Common.{◌≡◌, ◌%◌, ◌∙◌, arith, refl}
use Rattle.cns_ids.proofs.ShareLemmas.{even_share, odd_share}
use Rattle.cns_ids.proofs.cusip.share_at.Goals as goal

pub returns-then-place-eq0-clause-share : goal.returns-then-place-eq0-clause-share
returns-then-place-eq0-clause-share c = c.share_in.ensures ∙ (even_share c.args.character (omega (arith, c.ranges.character))).value ∙ rw c.if-place-eq0.true refl

pub returns-then-place-eq0-clause-small : goal.returns-then-place-eq0-clause-small
returns-then-place-eq0-clause-small c = rw c.share_in.ensures (even_share c.args.character (omega (arith, c.ranges.character))).small

pub returns-then-place-eq0-clause-ascii : goal.returns-then-place-eq0-clause-ascii
returns-then-place-eq0-clause-ascii c = rw c.share_in.ensures (even_share c.args.character (omega (arith, c.ranges.character))).ascii

pub returns-else-place-eq0-clause-share : goal.returns-else-place-eq0-clause-share
returns-else-place-eq0-clause-share c =
    let odd : c.args.place % 2 ≡ 1 = omega arith in
    c.share_in-else-place-eq0.ensures ∙ (odd_share c.args.character (omega (arith, c.ranges.character))).value ∙ rw odd refl

pub returns-else-place-eq0-clause-small : goal.returns-else-place-eq0-clause-small
returns-else-place-eq0-clause-small c = rw c.share_in-else-place-eq0.ensures (odd_share c.args.character (omega (arith, c.ranges.character))).small

pub returns-else-place-eq0-clause-ascii : goal.returns-else-place-eq0-clause-ascii
returns-else-place-eq0-clause-ascii c = rw c.share_in-else-place-eq0.ensures (odd_share c.args.character (omega (arith, c.ranges.character))).ascii
