use Rattle.std.proofs.Common.{rules, ◌≡◌, ◌∙◌, ◌∷◌, ap}
use Rattle.std.specs.List.{list_any}
use Rattle.cns_named.specs.Named.{begins_otherwise, first_line}
use Rattle.cns_named.proofs.LineLemmas.{agree_by_first}
use Rattle.cns_named.proofs.named.headers_agree.Goals as goal

pub returns-in-Some : goal.returns-in-Some
returns-in-Some c =
    let first = c.split_first_line.ensures.line ∙ ap first_line c.as_slice.ensures.value in
    let split : c.args.files.now ≡ c.in-Some.first.now ∷ c.in-Some.further.now = search rules in
    agree_by_first (λ f. f.items) c.args.files.now c.in-Some.further.now c.in-Some.first.now c.any_begins_otherwise.result split
    (c.any_begins_otherwise.ensures ∙ ap (λ line. list_any (λ f. begins_otherwise line f.items) c.in-Some.further.now) first)
