use Rattle.std.proofs.Common.{◌∙◌, ap, rules}
use Rattle.std.specs.HashMap.{get}
use Rattle.cns_depository.specs.Ranges.{AreRanges, range_by}
use Rattle.cns_depository.specs.Totals.{moved_at, place_eq}
use Rattle.cns_depository.proofs.RangeLemmas.{ranges_same}
use Rattle.cns_depository.proofs.TotalLemmas.{sums_kept}
use Rattle.cns_depository.proofs.ranges.OpeningRanges.add.Goals as goal

pub add_transfer-requires-clause-sums : goal.add_transfer-requires-clause-sums
add_transfer-requires-clause-sums c = (c.requires.0, sums_kept _ _ c.requires.0 (λ k. ap moved_at (c.in_ok-reserve.ensures.entries.2 k)) c.requires.1.sums)

pub returns-clause-more : goal.returns-clause-more
returns-clause-more c = λ p are.
    let kept = sums_kept (λ k. moved_at (get place_eq c.args.self.now.moved k)) _ p (λ k. ap moved_at (c.in_ok-reserve.ensures.entries.2 k)) are.sums in
    let sums = c.add_transfer.ensures p kept (search (rules, are.count)) in
    let named : AreRanges (λ k. range_by k (get place_eq c.name.new.ranges k)) p =
    ranges_same (λ k. range_by k (get place_eq c.args.self.now.ranges k)) _ p
    (λ k. c.name.ensures.range k ∙ ap (range_by k) (c.in_ok-reserve-2.ensures.entries.2 k)) are.ranges in
    record {
      sums = sums;
      count = search (rules, are.count);
      ranges = c.narrow.ensures.ranges p sums named;
    }

pub returns-clause-none : goal.returns-clause-none
returns-clause-none c = λ none p are openings of.
    let kept = sums_kept (λ k. moved_at (get place_eq c.args.self.now.moved k)) _ p (λ k. ap moved_at (c.in_ok-reserve.ensures.entries.2 k)) are.sums in
    let sums = c.add_transfer.ensures p kept (search (rules, are.count)) in
    let named : AreRanges (λ k. range_by k (get place_eq c.name.new.ranges k)) p =
    ranges_same (λ k. range_by k (get place_eq c.args.self.now.ranges k)) _ p
    (λ k. c.name.ensures.range k ∙ ap (range_by k) (c.in_ok-reserve-2.ensures.entries.2 k)) are.ranges in
    c.narrow.ensures.none none p sums named openings of
