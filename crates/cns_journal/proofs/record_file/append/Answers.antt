use Rattle.std.proofs.Common.{rules, ◌≡◌, true, inl, ◌∙◌, arith}
use Rattle.cns_journal.proofs.Moments.{at_end, harmless, runs_on, seen_at_end, weaken}
use Rattle.std.proofs.lemmas.Grind.{common_steps}
use Rattle.std.proofs.lemmas.Result.{on_ok_weaker}
use Rattle.cns_journal.proofs.AppendLemmas.{both-done, front-stays, gate-fits, gate-leaves, stage-leaves, staged-front}
use Rattle.cns_journal.proofs.TailLemmas.{gate-undamaged, record-undamaged}
use Rattle.cns_journal.proofs.record_file.append.Goals as goal

-- the first write failed
pub returns-in_err-write_through : goal.returns-in_err-write_through
returns-in_err-write_through g c =
    let settled = c.requires.settled in
    let sure = λ (honest : g.D.Disk.honest c.args.disk.now ≡ true). c.write_through.ensures.honest ∙ honest in
    let run = λ (honest : g.D.Disk.honest c.args.disk.now ≡ true). c.write_through.ensures.any_moment honest (omega (arith, (settled honest).inside)) (settled honest).durable in
    let any_moment = λ (honest : g.D.Disk.honest c.args.disk.now ≡ true). weaken (run honest) (λ image h. inl (stage-leaves (settled honest) _ c.requires.record c.requires.size.0 image h)) in
    record {
      honest = search rules;
      ok = search rules;
      limit = search rules;
      any_moment = any_moment;
      images = λ honest. at_end g.met.D.Disk.counts_now (sure honest) (any_moment honest);
      front = λ honest. front-stays _ _ c.args.end _ _ (omega arith) (seen_at_end g.met.D.Disk.counts_now (sure honest) (run honest) g.met.D.Disk.reads_an_image);
      no_damage = λ honest whole. harmless g.met.D.Disk.counts_now (sure honest) (weaken (run honest) (record-undamaged (settled honest) whole _ c.requires.record c.requires.size.0));
      failures = search rules;
    }

-- the second write was the last call
pub returns : goal.returns
returns g c =
    let settled = c.requires.settled in
    let mid = λ (honest : g.D.Disk.honest c.args.disk.now ≡ true). c.write_through.ensures.honest ∙ honest in
    let last = λ (honest : g.D.Disk.honest c.args.disk.now ≡ true). c.write_through-2.ensures.honest ∙ mid honest in
    let written = λ (honest : g.D.Disk.honest c.args.disk.now ≡ true). c.in_ok-write_through.ensures.written honest (omega (arith, (settled honest).inside)) in
    let fits = λ (honest : g.D.Disk.honest c.args.disk.now ≡ true). gate-fits (settled honest) _ c.requires.record c.requires.size.0 (written honest).0 in
    let first = λ (honest : g.D.Disk.honest c.args.disk.now ≡ true). c.write_through.ensures.any_moment honest (omega (arith, (settled honest).inside)) (settled honest).durable in
    let second = λ (honest : g.D.Disk.honest c.args.disk.now ≡ true). c.write_through-2.ensures.any_moment (mid honest) (fits honest) (written honest).1 in
    let any_moment = λ (honest : g.D.Disk.honest c.args.disk.now ≡ true).
    runs_on (weaken (first honest) (λ image h. inl (stage-leaves (settled honest) _ c.requires.record c.requires.size.0 image h)))
    (weaken (second honest) (gate-leaves (settled honest) _ c.requires.record c.requires.size.0 (written honest).0)) in
    record {
      honest = search rules;
      ok = λ honest. on_ok_weaker c.write_through-2.result (λ y. both-done (settled honest) _ c.requires.record c.requires.size.0 (written honest).0 y.0 _ y.1) (c.write_through-2.ensures.written (mid honest) (fits honest));
      limit = grind (arith, common_steps);
      any_moment = any_moment;
      images = λ honest. at_end g.met.D.Disk.counts_now (last honest) (any_moment honest);
      front = λ honest. front-stays _ _ c.args.end _ _ (omega arith) (seen_at_end g.met.D.Disk.counts_now (last honest) (second honest) g.met.D.Disk.reads_an_image)
          ∙ staged-front (settled honest) _ c.requires.record c.requires.size.0 (written honest).0;
      no_damage = λ honest whole. harmless g.met.D.Disk.counts_now (last honest) (runs_on (weaken (first honest) (record-undamaged (settled honest) whole _ c.requires.record c.requires.size.0))
          (weaken (second honest) (gate-undamaged (settled honest) whole _ c.requires.record c.requires.size.0 (written honest).0)));
      failures = search rules;
    }
