use Rattle.std.proofs.Common.{rules, ◌≤◌, length}
use Rattle.cns_batch.proofs.PutLemmas.{all_put, none_put}
use Rattle.cns_batch.proofs.page.Page.rows.Goals as goal

pub returns-then-is_empty : goal.returns-then-is_empty
returns-then-is_empty g c = let none : length c.args.rows.now ≤ 0 = search rules in all_put none (none_put g.R.Put.text c.args.rows.now c.args.self.now _)
