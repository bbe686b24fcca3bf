use Rattle.std.proofs.Common.{refl, rules}
use Rattle.cns_records.specs.declared.refusal.Refusal.TheVariants as refusal
use Rattle.cns_records.proofs.CallLemmas.{no_room, not_grown}
use Rattle.cns_system.specs.Numbered.{opening_call}
use Rattle.cns_system.proofs.NumberedLemmas.{opening_again, opening_down, opening_goes, opening_spent}
use Rattle.cns_system.proofs.floor.refusal_without_cell.Goals as goal

pub returns-then-is_down : goal.returns-then-is_down
returns-then-is_down g c =
    let n = c.args.system.now.clear in
    not_grown refusal.OutOfMemory (opening_call c.args.issue n) refusal.Down _ n n (opening_down c.args.issue n (search rules)) refl refl

pub returns-then-is_some : goal.returns-then-is_some
returns-then-is_some g c =
    let n = c.args.system.now.clear in
    not_grown refusal.OutOfMemory (opening_call c.args.issue n) refusal.LotAlready _ n n (opening_again c.args.issue n (search rules) (search rules)) refl refl

pub returns-then-len-ge-MAX_LOTS : goal.returns-then-len-ge-MAX_LOTS
returns-then-len-ge-MAX_LOTS g c =
    let n = c.args.system.now.clear in
    not_grown refusal.OutOfMemory (opening_call c.args.issue n) refusal.LotsSpent _ n n (opening_spent c.args.issue n (search rules) (search rules) (search rules)) refl refl

pub returns : goal.returns
returns g c =
    let n = c.args.system.now.clear in
    no_room refusal.OutOfMemory (opening_call c.args.issue n) _ _ _ n n (opening_goes c.args.issue n (search rules) (search rules) (search rules)) refl refl
