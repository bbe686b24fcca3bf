use Rattle.std.proofs.Common.{sym, subst}
use Rattle.cns_records.specs.Clear.{HasRanges}
use Rattle.cns_records.proofs.clear_record.add_payload.Goals as goal

pub returns-in-Exempt-clause-ranges : goal.returns-in-Exempt-clause-ranges
returns-in-Exempt-clause-ranges c =
    subst HasRanges (sym c.in-Exempt.is) (c.add_setting.ensures.ranges.0, c.add_setting.ensures.ranges.1, c.count.ensures.range)

pub returns-in-Priority-clause-ranges : goal.returns-in-Priority-clause-ranges
returns-in-Priority-clause-ranges c = subst HasRanges (sym c.in-Priority.is) c.add_setting-in-Priority.ensures.ranges
