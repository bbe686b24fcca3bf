use Rattle.std.proofs.Common.{◌∙◌, ap, map, string_bytes, []}
use Rattle.std.specs.Prelude.{unwrap_or}
use Rattle.std.proofs.lemmas.Result.{IfOk-weaker}
use Rattle.clap.specs.Words.{found_of}
use Rattle.clap.proofs.WalkLemmas.{raw_values-rows}
use Rattle.cns_command_line.proofs.values.values_of.Goals as goal

pub returns-in-Some : goal.returns-in-Some
returns-in-Some c =
    let found = found_of c.args.matches.now in
    let values = c.get_strs.ensures ∙ raw_values-rows found c.args.id.now in
    IfOk-weaker c.owned.result _ _ (λ all h. h ∙ ap (λ o. unwrap_or o []) (rw c.in-Some.is at values)) c.owned.ensures

pub returns-in-None : goal.returns-in-None
returns-in-None c =
    let found = found_of c.args.matches.now in
    let values = c.get_strs.ensures ∙ raw_values-rows found c.args.id.now in
    ap (map string_bytes) c.new.ensures.items ∙ ap (λ o. unwrap_or o []) (rw c.in-None.is at values)
