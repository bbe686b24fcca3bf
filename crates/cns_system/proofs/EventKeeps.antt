-- What each event keeps, by one walk over the function of what happens: the accord of both nodes and the link, allocations that close lots, and the lots
-- but the one that the event is of.
use Rattle.std.proofs.Common.{◌≡◌, ◌∙◌, [], true, false, List, None, refl, sym, subst, inl}
use Rattle.std.specs.Prelude.{IfOk, map}
use Rattle.cns_records.specs.declared.clear_record.ClearRecord.{ClearRecord}
use Rattle.cns_records.specs.declared.clear_record.ClearRecord.TheVariants as entry
use Rattle.cns_records.specs.declared.dep_record.DepRecord.{DepRecord}
use Rattle.cns_records.specs.declared.dep_record.DepRecord.TheVariants as dep
use Rattle.cns_clearing.specs.Answers.{cycle_call, setting_call, trade_call}
use Rattle.cns_clearing.specs.Books.{IsLawful}
use Rattle.cns_clearing.specs.Lots.{AreLots, ClosesLot, lots_after, new_lot}
use Rattle.cns_clearing.specs.declared.answer.Cycled.{Cycled}
use Rattle.cns_clearing.specs.declared.lot.Lot.{Lot}
use Rattle.cns_depository.specs.Answers.{reply_to}
use Rattle.cns_depository.specs.Stock.{IsLawfulDepot, executed_of}
use Rattle.cns_system.specs.Accord.{Accord, AreLawful, FitsStock, IsInAccord}
use Rattle.cns_system.specs.Floor.{lot_changed}
use Rattle.cns_system.specs.Happens.{ClearReads, Decision, DepotReads, DeviceFails, FindsBad, NoMemory, judged, node_restarted}
use Rattle.cns_system.specs.Headline.{AreStrict}
use Rattle.cns_system.specs.Lot.{LotState, with_end, with_seal, with_ticket}
use Rattle.cns_system.specs.Numbered.{AreTied, with_lot_ended}
use Rattle.cns_system.specs.Scene.{Chance, Comes, Scene, decision_at, scene_of}
use Rattle.cns_system.specs.Shown.{Shown, clear_added, clear_failed, shown_of}
use Rattle.cns_system.specs.World.{World}
use Rattle.cns_system.specs.declared.entry.Look.{Look}
use Rattle.cns_system.specs.declared.event.Event.{Event}
use Rattle.cns_system.specs.declared.event.Event.TheVariants as event
use Rattle.cns_system.specs.declared.event.NodeName.TheVariants as node
use Rattle.cns_system.specs.declared.outcome.Outcome.{Outcome}
use Rattle.cns_system.specs.declared.outcome.Outcome.TheVariants as outcomes
use Rattle.cns_system.proofs.AccordLemmas.{clear_stays, reply_put}
use Rattle.cns_system.proofs.EventHolds.{close_holds, commit_holds, look_holds, open_holds, order_holds, own_holds, pour_holds, reply_holds, reserve_holds, seal_holds, send_holds}
use Rattle.cns_system.proofs.HappensLemmas.{Holds, comes_keeps, happened, refused_keeps}
use Rattle.cns_system.proofs.HonestLemmas.{AreBack, GivesClear, GivesDepot, clear_gives, depot_gives}
use Rattle.cns_system.proofs.KeepsLemmas.{adds_accord, clear_back, clear_down, depot_back, depot_down, executes_accord, order_accord, replied, sends_accord}
use Rattle.cns_system.proofs.RecordedLemmas.{allocated, cycle_records, setting_records, trade_records}
use Rattle.cns_system.proofs.SpareLemmas.{KeepsLots, closes_one, ends_all, keeps_same, opens_one, pours_one, updates_one}
use Rattle.cns_system.proofs.StrictLemmas.{IsStrict, close_closes, log_strict, shown_strict, strict_added, strict_back, strict_down}

-- what has to be so before an event for the accord to stay
record AccordBefore (s : Scene) : Type 0 where
  lawful : IsLawful s.shown.clear.records
  stock : IsLawfulDepot s.shown.openings s.shown.depot.records
  accord : Accord s.shown
  clear_honest : s.clear.honest ≡ true
  depot_honest : s.depot.honest ≡ true

-- and for allocations to close lots
record StrictBefore (s : Scene) : Type 0 where
  lots : AreLots s.shown.clear.records s.shown.open_lots
  tied : AreTied s.shown.open_lots s.shown.lots
  strict : IsStrict s.shown.clear
  honest : s.clear.honest ≡ true

-- what an event keeps
record Keeps (s : Scene) (e : Event) (left : Shown) : Type 0 where
  accord : AccordBefore s → Accord left
  strict : StrictBefore s → IsStrict left.clear
  lots : KeepsLots (lot_changed e) s.shown left

module _ (s : Scene) (e : Event) where
  abbrev w : Shown
  w = s.shown

  abbrev Kept : Outcome → Shown → Type 0
  Kept outcome left = Keeps s e left

  -- an event keeps all that it leaves as it was
  same : Keeps s e w
  same = record { accord = λ b. b.accord; strict = λ b. b.strict; lots = keeps_same (lot_changed e) w w refl refl }

  -- one that changes lots alone keeps the accord, and allocations that close lots
  of_lots : (open_lots : List Lot) (lots : List LotState) → KeepsLots (lot_changed e) w (record w { open_lots = open_lots; lots = lots }) → Keeps s e (record w { open_lots = open_lots; lots = lots })
  of_lots open_lots lots kept = record {
    accord = λ b. clear_stays w b.accord w.clear.tried w.clear.down open_lots lots b.accord.clear_tried b.accord.clear_up;
    strict = λ b. b.strict;
    lots = kept;
  }

  -- one that changes the depository and the link alone keeps allocations that close lots, and the lots
  of_depot : (left : Shown) → left.clear ≡ w.clear → left.lots ≡ w.lots → left.open_lots ≡ w.open_lots → (AccordBefore s → Accord left) → Keeps s e left
  of_depot left clear lots open_lots accord =
      record { accord = accord; strict = λ b. subst IsStrict (sym clear) b.strict; lots = keeps_same (lot_changed e) w left lots open_lots }

  -- one that commits a record of the clearing node keeps the accord where the record fits what was executed, and allocations that close lots where it does
  adds : (r : ClearRecord) (lots : List LotState) → w.clear.down ≡ false → (AccordBefore s → FitsStock (executed_of w.depot.records) r) → (StrictBefore s → ClosesLot w.clear.records r)
      → KeepsLots (lot_changed e) w (record (clear_added r w) { lots = lots }) → Keeps s e (record (clear_added r w) { lots = lots }) × Keeps s e (clear_failed r w)
  adds r lots up fits closes kept = (
    record { accord = λ b. (adds_accord w b.accord r lots up (fits b)).0; strict = λ b. (strict_added w.clear b.strict r up (closes b)).0; lots = kept },
    record {
      accord = λ b. (adds_accord w b.accord r lots up (fits b)).1;
      strict = λ b. (strict_added w.clear b.strict r up (closes b)).1;
      lots = keeps_same (lot_changed e) w (clear_failed r w) refl refl;
    },
  )

  -- so does one whose record is neither a confirmation nor an allocation
  adds_plain : (r : ClearRecord) → w.clear.down ≡ false → FitsStock (executed_of w.depot.records) r → ClosesLot w.clear.records r → lots_after r w.open_lots ≡ w.open_lots
      → Keeps s e (clear_added r w) × Keeps s e (clear_failed r w)
  adds_plain r up fits closes open_lots = adds r w.lots up (λ b. fits) (λ b. closes) (keeps_same (lot_changed e) w (clear_added r w) refl open_lots)

-- a restart of each node keeps them, whatever is decided
module _ (s : Scene) where
  clear_read : (c : List ClearRecord) → (s.clear.honest ≡ true → AreBack s.shown.clear.tried s.shown.clear.records c)
      → Keeps s (event.Restart node.Clear) (record s.shown { clear = record { records = c; tried = None; down = false }; open_lots = []; lots = map with_end s.shown.lots })
  clear_read c back = record {
    accord = λ b. clear_back s.shown b.accord c (map with_end s.shown.lots) (back b.clear_honest);
    strict = λ b. strict_back s.shown.clear b.strict c (back b.honest);
    lots = ends_all s.shown _ refl;
  }

  clear_unread : Keeps s (event.Restart node.Clear) (record s.shown { clear = record s.shown.clear { down = true }; open_lots = []; lots = map with_end s.shown.lots })
  clear_unread = record {
    accord = λ b. clear_down s.shown b.accord (map with_end s.shown.lots);
    strict = λ b. strict_down s.shown.clear b.strict;
    lots = ends_all s.shown _ refl;
  }

  clear_restarts : (d : Decision) → (s.clear.honest ≡ true → GivesClear s.shown d) → Keeps s (event.Restart node.Clear) (node_restarted d node.Clear s.shown).1
  clear_restarts NoMemory gives = clear_unread
  clear_restarts DeviceFails gives = clear_unread
  clear_restarts (FindsBad place) gives = clear_unread
  clear_restarts (ClearReads c) gives = clear_read c gives
  clear_restarts _ gives = clear_read s.shown.clear.records (λ honest. inl refl)

  depot_read : (p : List DepRecord) → (s.depot.honest ≡ true → AreBack s.shown.depot.tried s.shown.depot.records p)
      → Keeps s (event.Restart node.Depot) (record s.shown { depot = record { records = p; tried = None; down = false } })
  depot_read p back = of_depot s (event.Restart node.Depot) _ refl refl refl (λ b. depot_back s.shown b.accord p (back b.depot_honest))

  depot_unread : Keeps s (event.Restart node.Depot) (record s.shown { depot = record s.shown.depot { down = true } })
  depot_unread = of_depot s (event.Restart node.Depot) _ refl refl refl (λ b. depot_down s.shown b.accord)

  depot_restarts : (d : Decision) → (s.depot.honest ≡ true → GivesDepot s.shown d) → Keeps s (event.Restart node.Depot) (node_restarted d node.Depot s.shown).1
  depot_restarts NoMemory gives = depot_unread
  depot_restarts DeviceFails gives = depot_unread
  depot_restarts (FindsBad place) gives = depot_unread
  depot_restarts (DepotReads p) gives = depot_read p gives
  depot_restarts _ gives = depot_read s.shown.depot.records (λ honest. inl refl)

-- whatever an accepted event leaves, it keeps them
accepted : (s : Scene) (chance : Chance) (e : Event) → IfOk (judged e s.shown) (Holds (Kept s e) (decision_at chance e s) s.shown)
unfolding judged
accepted s chance (event.Trade t) =
    commit_holds (Kept s (event.Trade t)) _ s.shown (λ _. outcomes.Accepted) (entry.Accept t) (trade_call t s.shown.clear.down s.shown.clear.records)
    (trade_records t s.shown.clear.down s.shown.clear.records) (λ x up. adds_plain s (event.Trade t) (entry.Accept t) up tt tt refl)
accepted s chance (event.Exempt m i n) =
    commit_holds (Kept s (event.Exempt m i n)) _ s.shown (λ _. outcomes.Done) (entry.Exempt m i n) (setting_call (entry.Exempt m i n) s.shown.clear.down)
    (setting_records (entry.Exempt m i n) s.shown.clear.down) (λ x up. adds_plain s (event.Exempt m i n) (entry.Exempt m i n) up tt tt refl)
accepted s chance (event.Priority m i on) =
    commit_holds (Kept s (event.Priority m i on)) _ s.shown (λ _. outcomes.Done) (entry.Priority m i on) (setting_call (entry.Priority m i on) s.shown.clear.down)
    (setting_records (entry.Priority m i on) s.shown.clear.down) (λ x up. adds_plain s (event.Priority m i on) (entry.Priority m i on) up tt tt refl)
accepted s chance (event.Cycle id) =
    commit_holds (Kept s (event.Cycle id)) _ s.shown (λ (done : Cycled). outcomes.Cycled done) (entry.Cycle id)
    (cycle_call id s.shown.clear.down s.shown.clear.records s.shown.open_lots) (cycle_records id s.shown.clear.down s.shown.clear.records s.shown.open_lots)
    (λ x up. adds_plain s (event.Cycle id) (entry.Cycle id) up tt tt refl)
accepted s chance (event.LotOpen issue) = open_holds (Kept s (event.LotOpen issue)) _ s.shown issue (λ none. of_lots s (event.LotOpen issue) _ _ (opens_one s.shown (new_lot s.shown.clear.records issue)))
accepted s chance (event.LotPour number) = pour_holds (Kept s (event.LotPour number)) _ s.shown number (λ lot at. of_lots s (event.LotPour number) _ _ (pours_one s.shown number lot at))
accepted s chance (event.Reserve number member) =
    reserve_holds (Kept s (event.Reserve number member)) _ s.shown number member
    (λ lot t at drawn. of_lots s (event.Reserve number member) _ _ (updates_one s.shown _ number lot (with_ticket t lot) at refl (λ other differ. refl)))
accepted s chance (event.Seal number) =
    seal_holds (Kept s (event.Seal number)) _ s.shown number
    (λ lot at. of_lots s (event.Seal number) _ _ (updates_one s.shown _ number lot (with_seal lot) at refl (λ other differ. refl)))
accepted s chance (event.LotClose number) =
    close_holds (Kept s (event.LotClose number)) _ s.shown number
    (λ done close up. adds s (event.LotClose number) (allocated close) (with_lot_ended number s.shown.lots) up (λ b. tt)
    (λ b. close_closes number s.shown.clear.records s.shown.open_lots s.shown.lots b.lots b.tied close) (closes_one s.shown number close))
accepted s chance (event.LookPoured number) =
    look_holds (Kept s (event.LookPoured number)) _ s.shown number (λ (look : Look). outcomes.LookedPoured look.poured) (λ outcome. same s (event.LookPoured number))
accepted s chance (event.LookAsked number) =
    look_holds (Kept s (event.LookAsked number)) _ s.shown number (λ (look : Look). outcomes.LookedAsked look.asked look.sealed) (λ outcome. same s (event.LookAsked number))
accepted s chance (event.Send number) =
    send_holds (Kept s (event.Send number)) _ s.shown number (λ packet o found. of_depot s (event.Send number) _ refl refl refl (λ b. sends_accord s.shown b.accord number o found))
accepted s chance (event.OrderIn packet) =
    order_holds (Kept s (event.OrderIn packet)) _ s.shown packet
    (λ place known at. of_depot s (event.OrderIn packet) _ refl refl refl (λ b. reply_put s.shown b.accord (reply_to known) (known, at, refl)))
    (λ place o at up fresh.
    let left = λ (b : AccordBefore s). order_accord s.shown b.accord b.lawful b.stock packet o at up fresh in
    (of_depot s (event.OrderIn packet) _ refl refl refl (λ b. (left b).0), of_depot s (event.OrderIn packet) _ refl refl refl (λ b. (left b).1)))
accepted s chance (event.ReplyIn packet) =
    reply_holds (Kept s (event.ReplyIn packet)) _ s.shown packet (λ r. same s (event.ReplyIn packet))
    (λ r at up. adds s (event.ReplyIn packet) (entry.Confirm r) s.shown.lots up (λ b. replied s.shown b.accord packet r at) (λ b. tt) (keeps_same None s.shown _ refl refl))
accepted s chance (event.Own i) =
    own_holds (Kept s (event.Own i)) _ s.shown i (same s (event.Own i))
    (λ up.
    let left = λ (b : AccordBefore s). executes_accord s.shown b.accord (dep.Own i) up tt in
    (of_depot s (event.Own i) _ refl refl refl (λ b. (left b).0), of_depot s (event.Own i) _ refl refl refl (λ b. (left b).1)))
accepted s chance (event.Restart node.Clear) = clear_restarts s (decision_at chance (event.Restart node.Clear) s) (clear_gives s chance)
accepted s chance (event.Restart node.Depot) = depot_restarts s (decision_at chance (event.Restart node.Depot) s) (depot_gives s chance)

-- so does each event that comes
event_keeps : (e : Event) (outcome : Outcome) (old new : World) → Comes e outcome old new → Keeps (scene_of old) e (shown_of new)
event_keeps e outcome old new comes =
    let s : Scene = scene_of old in
    comes_keeps (Kept s e) e outcome old new comes (refused_keeps (λ r. Kept s e (outcomes.Refused r) s.shown) (judged e s.shown) (λ r. same s e)) (same s e) (λ chance. accepted s chance e)

-- each event keeps both nodes and the link in accord, where the records are lawful
pub step_keeps : (e : Event) (outcome : Outcome) (old new : World) → AreLawful old → Comes e outcome old new → IsInAccord old → IsInAccord new
step_keeps e outcome old new lawful comes accord clear_honest depot_honest =
    let h = happened e outcome old new comes in
    let was = sym h.clear_honest ∙ clear_honest in
    let was_depot = sym h.depot_honest ∙ depot_honest in
    (event_keeps e outcome old new comes).accord
    (record { lawful = lawful.0; stock = lawful.1; accord = accord was was_depot; clear_honest = was; depot_honest = was_depot })

-- and allocations that close lots
pub step_strict : (e : Event) (outcome : Outcome) (old new : World) → AreLots old.clear.clear.log.records old.clear.clear.lots → AreTied old.clear.clear.lots old.clear.lots
    → Comes e outcome old new → AreStrict old → AreStrict new
step_strict e outcome old new lots tied comes strict honest =
    let was = sym (happened e outcome old new comes).clear_honest ∙ honest in
    log_strict new.clear.clear.log
    ((event_keeps e outcome old new comes).strict (record { lots = lots; tied = tied; strict = shown_strict old.clear.clear.log (strict was); honest = was }))

-- and the lots but the one that it is of
pub step_keeps_lots : (e : Event) (outcome : Outcome) (old new : World) → Comes e outcome old new → KeepsLots (lot_changed e) (shown_of old) (shown_of new)
step_keeps_lots e outcome old new comes = (event_keeps e outcome old new comes).lots
