use Rattle.std.proofs.Common.{rules, ◌≡◌, true, inr, sym, ◌∙◌, arith}
use Rattle.std.proofs.lemmas.Result.{on_ok_weaker}
use Rattle.cns_journal.proofs.CloseLemmas.{closed_settled, cut_same, end_within, few_by, inside_by, settled_by, shortened_same, torn_same}
use Rattle.cns_journal.proofs.Moments.{harmless, runs_on, seen_at_end, weaken}
use Rattle.cns_journal.proofs.TailLemmas.{cut-undamaged, short-undamaged}
use Rattle.cns_journal.proofs.record_file.close.Goals as goal

-- the gate is closed already
pub returns-in-Some-eq0-clause-ok : goal.returns-in-Some-eq0-clause-ok
returns-in-Some-eq0-clause-ok g c honest =
    settled_by (c.requires.durable honest) (c.requires.end honest) (c.requires.gate honest) c.in-Some-eq0.is (sym c.in-Some-eq0.field-0-is ∙ c.in-Some-eq0.field-0-test)

-- the cut failed
pub returns-in_err-cut_through-in-Some : goal.returns-in_err-cut_through-in-Some
returns-in_err-cut_through-in-Some g c =
    let inside = λ (honest : g.D.Disk.honest c.args.disk.now ≡ true). inside_by (g.D.Disk.seen c.args.disk.now) c.args.end (c.requires.gate honest) c.in-Some.is in
    let last = λ (honest : g.D.Disk.honest c.args.disk.now ≡ true). c.cut_through.ensures.honest ∙ honest in
    let run = λ (honest : g.D.Disk.honest c.args.disk.now ≡ true). c.cut_through.ensures.any_moment honest (omega (arith, inside honest)) (c.requires.durable honest) in
    record {
      honest = search rules;
      ok = search rules;
      any_moment = λ honest. weaken (run honest) (λ image h. (shortened_same _ (c.requires.end honest) image (inside honest) h).0);
      seen = λ honest. shortened_same _ (c.requires.end honest) _ (inside honest) (seen_at_end g.met.D.Disk.counts_now (last honest) (run honest) g.met.D.Disk.reads_an_image);
      no_damage = λ honest whole. harmless g.met.D.Disk.counts_now (last honest) (weaken (run honest) (cut-undamaged _ whole (c.requires.end honest) (inside honest)));
      failures = search rules;
    }

-- the file was cut, and then the gate was written
pub returns-in_ok-cut_through-in-Some : goal.returns-in_ok-cut_through-in-Some
returns-in_ok-cut_through-in-Some g c =
    let inside = λ (honest : g.D.Disk.honest c.args.disk.now ≡ true). inside_by (g.D.Disk.seen c.args.disk.now) c.args.end (c.requires.gate honest) c.in-Some.is in
    let mid = λ (honest : g.D.Disk.honest c.args.disk.now ≡ true). c.cut_through.ensures.honest ∙ honest in
    let last = λ (honest : g.D.Disk.honest c.args.disk.now ≡ true). c.write_through.ensures.honest ∙ mid honest in
    let cut = λ (honest : g.D.Disk.honest c.args.disk.now ≡ true). c.in_ok-cut_through-in-Some.ensures.cut honest (omega (arith, inside honest)) in
    let same = λ (honest : g.D.Disk.honest c.args.disk.now ≡ true). cut_same (g.D.Disk.seen c.args.disk.now) (c.requires.end honest) (g.D.Disk.seen c.cut_through.new.disk) (inside honest) (cut honest).0 in
    let first = λ (honest : g.D.Disk.honest c.args.disk.now ≡ true). c.cut_through.ensures.any_moment honest (omega (arith, inside honest)) (c.requires.durable honest) in
    let second = λ (honest : g.D.Disk.honest c.args.disk.now ≡ true). c.write_through.ensures.any_moment (mid honest) (end_within (g.D.Disk.seen c.cut_through.new.disk) (same honest).0) (cut honest).1 in
    record {
      honest = search rules;
      ok = λ honest. on_ok_weaker c.write_through.result (λ y. (closed_settled _ (same honest).0 _ _ (same honest).1 y.0 y.1).0)
          (c.write_through.ensures.written (mid honest) (end_within (g.D.Disk.seen c.cut_through.new.disk) (same honest).0));
      any_moment = λ honest. runs_on (weaken (first honest) (λ image h. (shortened_same _ (c.requires.end honest) image (inside honest) h).0))
          (weaken (second honest) (λ image h. (torn_same _ (same honest).0 image (same honest).1 h).0 ∙ (same honest).2));
      seen = λ honest. let after = torn_same _ (same honest).0 _ (same honest).1 (seen_at_end g.met.D.Disk.counts_now (last honest) (second honest) g.met.D.Disk.reads_an_image) in
          (after.0 ∙ (same honest).2, after.1 ∙ (same honest).3);
      no_damage = λ honest whole. let left = cut-undamaged _ whole (c.requires.end honest) (inside honest) in
          harmless g.met.D.Disk.counts_now (last honest) (runs_on (weaken (first honest) left) (weaken (second honest) (short-undamaged _ (left _ (inr (cut honest).0)) (same honest).0 (same honest).1)));
      failures = search rules;
    }

-- nothing stands at the end, and the gate was written
pub returns-in-None : goal.returns-in-None
returns-in-None g c =
    let few = λ (honest : g.D.Disk.honest c.args.disk.now ≡ true). few_by (g.D.Disk.seen c.args.disk.now) c.args.end (c.requires.gate honest) c.in-None.is in
    let last = λ (honest : g.D.Disk.honest c.args.disk.now ≡ true). c.write_through-in-None.ensures.honest ∙ honest in
    let run = λ (honest : g.D.Disk.honest c.args.disk.now ≡ true). c.write_through-in-None.ensures.any_moment honest (end_within (g.D.Disk.seen c.args.disk.now) (c.requires.end honest)) (c.requires.durable honest) in
    record {
      honest = search rules;
      ok = λ honest. on_ok_weaker c.write_through-in-None.result (λ y. (closed_settled _ (c.requires.end honest) _ _ (few honest) y.0 y.1).0)
          (c.write_through-in-None.ensures.written honest (end_within (g.D.Disk.seen c.args.disk.now) (c.requires.end honest)));
      any_moment = λ honest. weaken (run honest) (λ image h. (torn_same _ (c.requires.end honest) image (few honest) h).0);
      seen = λ honest. torn_same _ (c.requires.end honest) _ (few honest) (seen_at_end g.met.D.Disk.counts_now (last honest) (run honest) g.met.D.Disk.reads_an_image);
      no_damage = λ honest whole. harmless g.met.D.Disk.counts_now (last honest) (weaken (run honest) (short-undamaged _ whole (c.requires.end honest) (few honest)));
      failures = search rules;
    }
