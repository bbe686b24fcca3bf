use Rattle.std.proofs.Common.{append_assoc, get_or, take}
use Rattle.std.specs.List.{filter_map}
use Rattle.std.specs.Option.{option_to_list}
use Rattle.cns_netting.specs.Positions.{row_in_place}
use Rattle.cns_netting.proofs.PlaceLemmas.{rows_more}
use Rattle.cns_netting.proofs.rows.put_places.Goals as goal

pub loop-place-preserved : goal.loop-place-preserved
loop-place-preserved c =
    let row = row_in_place c.args.issue.now c.args.all.now.entries in
    let places = c.args.places.now in
    let n = c.loop-place.place-index in
    let more = rows_more c.args.issue.now c.args.all.now.entries places n 0 c.loop-place-test.true in
    let joined = append_assoc c.args.rows.now.items (filter_map row (take n places)) (option_to_list (row (get_or places n 0))) in
    cc (c.in_ok-put_in.ensures, c.loop-place.invariant, more, joined)
