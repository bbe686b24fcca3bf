use Rattle.std.proofs.Common.{Ok}
use Rattle.std.proofs.lemmas.Iterator.{YieldsList-from_slice}
use Rattle.std.proofs.lemmas.Iterator.Adapters.{fact_from_collect}
use Rattle.std.proofs.lemmas.Iterator.Consumers.{YieldsList-at, YieldsList-from_copied}
use Rattle.std.specs.Prelude.{⊤, nat_eq}
use Rattle.std.specs.HashSet.{IsFromIterResult}
use Rattle.cns_allocate.proofs.were_long.WereLong.of.Goals as goal

pub invariant_of-result : goal.invariant_of-result
invariant_of-result c =
    let road = YieldsList-from_copied (YieldsList-at c.copied.ensures.source (YieldsList-from_slice c.args.members.now cc)) in
    let made = fact_from_collect {E = ⊤} (IsFromIterResult nat_eq) (Ok c.in_ok-among.among) c.in_ok-among.ensures.ran road in
    made.0
