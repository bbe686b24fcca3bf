-- What a planned failure leaves.
use Rattle.std.proofs.Common.{◌≡◌, ◌≢◌, ◌∙◌, Bool, true, Result, Ok, Err, ap, refl, sym, subst}
use Rattle.cns_journal.specs.Keeper.{Forecast, Foresight, Unforeseen}
use Rattle.cns_journal.specs.declared.keeper.NotPlanned.{NotPlanned}
use Rattle.cns_journal.specs.RecordLog.{log_shown}
use Rattle.cns_system.specs.Accord.{Accord, IsInAccord}
use Rattle.cns_system.specs.Headline.{AreStrict}
use Rattle.cns_system.specs.Readers.{PlanStep}
use Rattle.cns_system.specs.Scene.{Plans, Scene, is_foreseen, scene_of, knowledge_of}
use Rattle.cns_system.specs.Shown.{Shown, shown_of}
use Rattle.cns_system.specs.World.{World}
use Rattle.cns_system.specs.declared.event.NodeName.{NodeName}
use Rattle.cns_system.specs.declared.event.NodeName.TheVariants as node
use Rattle.cns_system.proofs.StrictLemmas.{IsStrict, log_strict, shown_strict}

-- ---- plans

foreseen_when : (next : Forecast) → next ≢ Unforeseen → is_foreseen next ≡ true
foreseen_when Unforeseen known = absurd (known refl)
foreseen_when _ known = refl

-- only what is known of one node's keeper has changed
clear_planned : (f : Foresight) (old new : World) → new.clear.clear.log ≡ record old.clear.clear.log { foresight = new.clear.clear.log.foresight }
    → new.clear.clear.log.foresight ≡ f → new.clear.clear.lots ≡ old.clear.clear.lots → new.clear.lots ≡ old.clear.lots → new.depot ≡ old.depot
    → new.order_packets ≡ old.order_packets → new.reply_packets ≡ old.reply_packets
    → scene_of new ≡ record (scene_of old) { clear = record (knowledge_of old.clear.clear.log) { foresight = f } }
clear_planned f old new log foresight open_lots lots depot orders replies = cc (ap log_shown log, ap knowledge_of log)

depot_planned : (f : Foresight) (old new : World) → new.depot.log ≡ record old.depot.log { foresight = new.depot.log.foresight }
    → new.depot.log.foresight ≡ f
    → new.depot.openings ≡ old.depot.openings → new.clear ≡ old.clear → new.order_packets ≡ old.order_packets → new.reply_packets ≡ old.reply_packets
    → scene_of new ≡ record (scene_of old) { depot = record (knowledge_of old.depot.log) { foresight = f } }
depot_planned f old new log foresight openings clear orders replies = cc (ap log_shown log, ap knowledge_of log)

-- a plan leaves so much of both nodes, the link and what is known of the keepers
pub plan_leaves : (name : NodeName) (stands : Bool) (result : Result (Unit {0}) NotPlanned) (old new : World) → PlanStep name stands result old new
    → Plans name stands result (scene_of old) (scene_of new)
plan_leaves node.Clear stands (Ok u) old new ((((known, foresight), log), open_lots), lots, depot, orders, replies) =
    (foreseen_when old.clear.clear.log.foresight.next known, clear_planned _ old new log foresight open_lots lots depot orders replies)
plan_leaves node.Clear stands (Err refused) old new ((((unknown, foresight), log), open_lots), lots, depot, orders, replies) =
    (ap is_foreseen unknown, clear_planned _ old new log foresight open_lots lots depot orders replies)
plan_leaves node.Depot stands (Ok u) old new ((((known, foresight), log), openings), clear, orders, replies) =
    (foreseen_when old.depot.log.foresight.next known, depot_planned _ old new log foresight openings clear orders replies)
plan_leaves node.Depot stands (Err refused) old new ((((unknown, foresight), log), openings), clear, orders, replies) =
    (ap is_foreseen unknown, depot_planned _ old new log foresight openings clear orders replies)

-- nothing that is shown, and of no keeper whether it is honest
record IsPlanned (old new : World) : Type 0 where
  shown : shown_of new ≡ shown_of old
  clear : new.clear.clear.log.honest ≡ old.clear.clear.log.honest
  depot : new.depot.log.honest ≡ old.depot.log.honest

planned_same : (name : NodeName) (stands : Bool) (result : Result (Unit {0}) NotPlanned) (old new : World) → Plans name stands result (scene_of old) (scene_of new) → IsPlanned old new
planned_same node.Clear stands (Ok u) old new (known, is) =
    record { shown = ap (λ (s : Scene). s.shown) is; clear = ap (λ (s : Scene). s.clear.honest) is; depot = ap (λ (s : Scene). s.depot.honest) is }
planned_same node.Depot stands (Ok u) old new (known, is) =
    record { shown = ap (λ (s : Scene). s.shown) is; clear = ap (λ (s : Scene). s.clear.honest) is; depot = ap (λ (s : Scene). s.depot.honest) is }
planned_same name stands (Err refused) old new (unknown, is) =
    record { shown = ap (λ (s : Scene). s.shown) is; clear = ap (λ (s : Scene). s.clear.honest) is; depot = ap (λ (s : Scene). s.depot.honest) is }

-- so both nodes and the link stay in accord, and allocations close lots
pub planned_accord : (name : NodeName) (stands : Bool) (result : Result (Unit {0}) NotPlanned) (old new : World) → PlanStep name stands result old new → IsInAccord old → IsInAccord new
planned_accord name stands result old new step accord clear_honest depot_honest =
    let same = planned_same name stands result old new (plan_leaves name stands result old new step) in
    subst Accord (sym same.shown) (accord (sym same.clear ∙ clear_honest) (sym same.depot ∙ depot_honest))

pub planned_strict : (name : NodeName) (stands : Bool) (result : Result (Unit {0}) NotPlanned) (old new : World) → PlanStep name stands result old new → AreStrict old → AreStrict new
planned_strict name stands result old new step strict honest =
    let same = planned_same name stands result old new (plan_leaves name stands result old new step) in
    log_strict new.clear.clear.log (subst (λ (w : Shown). IsStrict w.clear) (sym same.shown) (shown_strict old.clear.clear.log (strict (sym same.clear ∙ honest))))
