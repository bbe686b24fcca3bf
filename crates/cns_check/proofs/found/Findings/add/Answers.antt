use Rattle.std.proofs.Common.{subst}
use Rattle.std.proofs.lemmas.Result.{on_ok_weaker}
use Rattle.cns_check.specs.Kept.{CountsOne}
use Rattle.cns_check.proofs.KeptLemmas.{adds_one}
use Rattle.cns_check.proofs.found.Findings.add.Goals as goal

pub returns : goal.returns
returns c =
    let old = c.args.self.now in
    let mid = c.keep.new.self in
    let new = c.count_one.new.self in
    on_ok_weaker c.count_one.result (λ counts all is. adds_one c.args.finding old mid new all c.in_ok-keep.ensures (subst (λ p. CountsOne p mid new) c.part.ensures counts) is) c.count_one.ensures
