use Rattle.std.proofs.Common.{[], sym}
use Rattle.std.specs.Map.{keys_of}
use Rattle.std.proofs.lemmas.List.{append-nil}
use Rattle.cns_netting.proofs.positions.Positions.rows.Goals as goal

pub rows_by-requires : goal.rows_by-requires
rows_by-requires c = ([], sym (append-nil (keys_of c.args.self.now.entries)))
