use Rattle.std.proofs.Common.{refl, rules}
use Rattle.cns_check.proofs.RepeatLemmas.{keeps_one}
use Rattle.cns_check.proofs.repeat.Repeats.add.Goals as goal

pub returns : goal.returns
returns c = λ all keeps.
    keeps_one c.args.self.now c.keep.new.self _ all (c.args.repeat.row, c.args.repeat.earlier_row) c.in_ok-keep.ensures.kept c.in_ok-keep.ensures.count refl (search rules) keeps
