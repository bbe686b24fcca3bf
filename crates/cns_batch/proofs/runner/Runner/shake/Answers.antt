use Rattle.std.proofs.Common.{◌∙◌, ap}
use Rattle.cns_shake.specs.Shake.{event_of, pcg32}
use Rattle.cns_batch.proofs.ActLemmas.{continues_here, continues_more, followed_gives, leaves_fault, stops_after, stops_followed}
use Rattle.cns_batch.proofs.CommandLemmas.{draw_looks, draws_over}
use Rattle.cns_batch.proofs.runner.Runner.shake.Goals as goal

pub loop-draw-init : goal.loop-draw-init
loop-draw-init g c = continues_here

pub returns-in_err-draw : goal.returns-in_err-draw
returns-in_err-draw g c =
    let (w, shows, counts) = c.counts.ensures in
    let event = c.draw-event.ensures.event ∙ ap (event_of (pcg32 c.loop-draw.shaker).0) counts in
    leaves_fault c.from_residual.result _ c.from_residual.ensures.0
    (stops_after (draw_looks 16 c.loop-draw._draw c.loop-draw.shaker w c.loop-draw-test.true shows c.loop-draw.invariant) (stops_followed _ (rw event at c.in_err-draw.ensures)))

pub loop-draw-preserved : goal.loop-draw-preserved
loop-draw-preserved g c =
    let (w, shows, counts) = c.counts.ensures in
    let event = c.draw-event.ensures.event ∙ ap (event_of (pcg32 c.loop-draw.shaker).0) counts in
    rw c.draw-event.ensures.next
    (continues_more (draw_looks 16 c.loop-draw._draw c.loop-draw.shaker w c.loop-draw-test.true shows c.loop-draw.invariant) (followed_gives _ (rw event at c.in_ok-draw.ensures)))

pub returns : goal.returns
returns g c = rw (draws_over 16 c.loop-draw._draw c.loop-draw.shaker c.loop-draw-test.false) at c.loop-draw.invariant
