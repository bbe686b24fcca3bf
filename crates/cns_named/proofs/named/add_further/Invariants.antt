use Rattle.std.proofs.Common.{◌≡◌, ◌++◌, take}
use Rattle.std.specs.Prelude.{flat_map, map}
use Rattle.cns_named.specs.Named.{behind_first, ended}
use Rattle.cns_named.proofs.named.add_further.Given as goal

abbrev pub invariant-loop-file : goal.invariant-loop-file
invariant-loop-file l = l.out.items ≡ l.fn.out.items ++ flat_map (λ further. ended (behind_first further)) (map (λ f. f.items) (take l.file-index l.files))
