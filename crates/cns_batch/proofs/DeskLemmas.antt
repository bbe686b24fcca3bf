-- The way through an act at a desk, by what came to pass: how a lot is opened, and how one that workers served is ended.
use Rattle.std.proofs.Common.{◌≡◌, ◌<◌, ◌≤◌, ℕ, Bool, true, false, ◌||◌, List, [], ◌∷◌, ◌++◌, length, take, drop, Option, Some, None, Result, Ok, Err, refl, sym, ap, ◌∙◌, inl, inr, arith, length-append}
use Rattle.std.specs.Prelude.{All, MatchOption, is_ok, is_some, option_map, if◌then◌else◌}
use Rattle.std.specs.List.{flat_map}
use Rattle.std.proofs.Math.Seq.{drop-append_seam, take-append_seam}
use Rattle.std.proofs.lemmas.Bool.{le-leb, lt-leb}
use Rattle.std.proofs.lemmas.List.{append-nil, length-map}
use Rattle.std.proofs.lemmas.List.Concat.{flat_map-append}
use Rattle.std.proofs.lemmas.List.Elements.{All-append, All-cons, All-head, All-nil, All-tail}
use Rattle.std.proofs.lemmas.List.Sorted.{length_permutation}
use Rattle.cns_journal.specs.declared.keeper.NotPlanned.{NotPlanned}
use Rattle.cns_pool.specs.declared.ticket.Ticket.{Ticket}
use Rattle.cns_records.specs.declared.refusal.Refusal.{Refusal}
use Rattle.cns_system.specs.Accord.{IsInAccord}
use Rattle.cns_system.specs.Begin.{IsBegun, IsNotBegun, opened_of}
use Rattle.cns_system.specs.Finish.{AreAllEntered, FinishGives, IsEnded, IsFinished, IsNotEntered, draws, is_sealed, reserves, sealed_at}
use Rattle.cns_system.specs.Floor.{BusyLot, FloorState, IsLawfulFloor, busy_at}
use Rattle.cns_system.specs.Headline.{IsAgreed}
use Rattle.cns_system.specs.Run.{Occurs, Run}
use Rattle.cns_system.specs.Scene.{Plans, Scene, scene_of}
use Rattle.cns_system.specs.World.{World}
use Rattle.cns_system.specs.declared.desk.Cut.{Cut}
use Rattle.cns_system.specs.declared.event.Event.{Event}
use Rattle.cns_system.specs.declared.event.NodeName.{NodeName}
use Rattle.cns_system.specs.declared.floor.Begun.{Begun}
use Rattle.cns_system.specs.declared.event.Event.TheVariants as event
use Rattle.cns_system.specs.declared.outcome.Outcome.{Outcome}
use Rattle.cns_system.specs.declared.outcome.Outcome.TheVariants as outcomes
use Rattle.cns_report.specs.Outcomes.{event_line, outcome_line}
use Rattle.cns_batch.specs.Acts.{Act, Draws, Gives, Haul, Lets, Tells, ◌>>=◌, ◌>>◌, done, happened, single, tells}
use Rattle.cns_batch.specs.ByWorkers.{ComesToPass, HasCome, LeadsAtDesk, closed_after_seal, closed_by, closed_text, cut_text, cut_told, end_text, entered, hauled, lot_line, not_drawn, refusal_of, ticket_line}
use Rattle.cns_batch.specs.Commands.{opened}
use Rattle.cns_batch.specs.Runs.{BreaksOff, Came, Continues, Drew, Exchange, ActLeaves, IsLed, Leads, Place, Prints, Runs, Stops, Told, Writes, output_at, text_said}
use Rattle.cns_batch.specs.Runs as x
use Rattle.cns_batch.proofs.CommandLemmas.{after_open}
use Rattle.cns_batch.proofs.ActLemmas.{bind_follows, follows_more, text_more}

-- ---- what comes to pass leads from any nodes to themselves

leads_by : {N : Type 0} (e : Exchange) (nodes : N) → ComesToPass e → Leads LeadsAtDesk e nodes nodes
leads_by (Told text) nodes pass = refl
leads_by e nodes pass = pass

led_by : {N : Type 0} (said : List Exchange) (nodes : N) → All ComesToPass said → IsLed LeadsAtDesk said nodes nodes
led_by [] nodes all = refl
led_by (e ∷ said) nodes all = (nodes, leads_by e nodes (All-head ComesToPass e said all), led_by said nodes (All-tail ComesToPass e said all))

passes_of : {N : Type 0} (e : Exchange) (old new : N) → Leads LeadsAtDesk e old new → ComesToPass e
passes_of (Told text) old new leads = tt
passes_of e old new leads = leads

pub all_pass : {N : Type 0} (said : List Exchange) (old new : N) → IsLed LeadsAtDesk said old new → All ComesToPass said
all_pass [] old new led = All-nil ComesToPass
all_pass (e ∷ said) old new (between, leads, led) = All-cons ComesToPass e said (passes_of e old between leads) (all_pass said between new led)

-- ---- a way through an act, and its text

pub record Way {A : Type 0} (act left : Act A) (text : List ℕ) : Type 0 where
  said : List Exchange
  follows : ActLeaves act said left
  passes : All ComesToPass said
  text_is : text_said said ≡ text

way_here : {A : Type 0} {act : Act A} → Way act act []
way_here = record { said = []; follows = refl; passes = All-nil ComesToPass; text_is = refl }

way_more : {A : Type 0} {a b d : Act A} {s t : List ℕ} → Way a b s → Way b d t → Way a d (s ++ t)
way_more {a = a} {b = b} {d = d} one two = record {
  said = one.said ++ two.said;
  follows = follows_more a b d one.said two.said one.follows two.follows;
  passes = All-append ComesToPass one.said two.said one.passes two.passes;
  text_is = text_more one.said two.said ∙ rw (one.text_is, two.text_is) refl;
}

way_bind : {A B : Type 0} {a b : Act A} {s : List ℕ} (next : A → Act B) → Way a b s → Way (a >>= next) (b >>= next) s
way_bind {a = a} {b = b} next one = record { said = one.said; follows = bind_follows a b next one.said one.follows; passes = one.passes; text_is = one.text_is }

way_tells : {A : Type 0} (text : List ℕ) {next : Act A} → Way (Tells text next) next text
way_tells text {next} = record {
  said = Told text ∷ [];
  follows = (next, (refl, refl), refl);
  passes = All-cons ComesToPass (Told text) [] tt (All-nil ComesToPass);
  text_is = append-nil text;
}

way_lets : {A : Type 0} (e : Event) (o : Outcome) (next : Outcome → Act A) → HasCome e o → Way (Lets e next) (next o) []
way_lets e o next come = record {
  said = Came e o ∷ [];
  follows = (next o, (o, refl, refl), refl);
  passes = All-cons ComesToPass (Came e o) [] come (All-nil ComesToPass);
  text_is = refl;
}

way_draws : {A : Type 0} (lot : ℕ) (haul : Option Haul) (next : Option Haul → Act A) → ComesToPass (Drew lot haul) → Way (Draws lot next) (next haul) []
way_draws lot haul next pass = record {
  said = Drew lot haul ∷ [];
  follows = (next haul, (haul, refl, refl), refl);
  passes = All-cons ComesToPass (Drew lot haul) [] pass (All-nil ComesToPass);
  text_is = refl;
}

way_happened : (e : Event) (o : Outcome) → HasCome e o → Way (happened e) (Gives o) (outcome_line e o)
way_happened e o come = way_more (way_lets e o (λ (o : Outcome). Tells (outcome_line e o) (Gives o)) come) (way_tells (outcome_line e o))

way_single : (e : Event) (o : Outcome) → HasCome e o → Way (single e) done (outcome_line e o)
way_single e o come = way_more (way_lets e o (λ (o : Outcome). tells (outcome_line e o)) come) (way_tells (outcome_line e o))

-- a call does an act so, or stops in it
pub way_continues : {A N : Type 0} {act left : Act A} {text : List ℕ} {p q : Place N} → Way act left text → Writes text (output_at p) (output_at q) → q.nodes ≡ p.nodes
    → Continues LeadsAtDesk act left p q
way_continues {p = p} way writes same = record { said = way.said; follows = way.follows; led = rw same (led_by way.said p.nodes way.passes); writes = rw way.text_is writes }

pub way_stops : {A N : Type 0} {act left : Act A} {text : List ℕ} {p q : Place N} → Way act left text → BreaksOff text (output_at p) q.sent → q.nodes ≡ p.nodes → Stops LeadsAtDesk act p q
way_stops {left = left} {p = p} way breaks same =
    record { said = way.said; left = left; follows = way.follows; led = rw same (led_by way.said p.nodes way.passes); writes = rw way.text_is breaks }

pub way_runs : {E N : Type 0} {act : Act (Unit {0})} {text : List ℕ} (result : Result (Unit {0}) E) (p q : Place N) → Way act done text → Prints text result (output_at p) (output_at q) → q.nodes ≡ p.nodes
    → Runs LeadsAtDesk act result p q
way_runs (Ok u) p q way writes same = way_continues way writes same
way_runs (Err e) p q way breaks same = way_stops way breaks same

-- ---- events

-- nodes are in accord and as the headline has them
abbrev IsSoundWorld : World → Type 0
IsSoundWorld w = IsInAccord w × IsAgreed w

occurred : {e : Event} {o : Outcome} {old new : World} → IsSoundWorld old → Occurs e o old new → HasCome e o
occurred {old = old} {new = new} (accord, agreed) occurs = inr (inl (old, new, accord, agreed, occurs))

-- a lot is opened, or is not
way_opened : {f : FloorState} {new : World} (issue : ℕ) (o : Outcome) → IsLawfulFloor f → Occurs (event.LotOpen issue) o f.system new → Way (opened issue) (after_open o) (outcome_line (event.LotOpen issue) o)
unfolding opened ◌>>=◌
way_opened issue o lawful occurs = way_bind after_open (way_happened (event.LotOpen issue) o (occurred (lawful.accord, lawful.headline) occurs))

pub way_begun : {issue : ℕ} {begun : Begun} {f g : FloorState} (longs : ℕ) → IsLawfulFloor f → IsBegun issue begun f g → longs ≡ length begun.plan
    → Way (opened issue) (Gives (Some (opened_of begun))) (lot_line begun.lot begun.poured longs)
unfolding event_line
way_begun {issue = issue} {begun = begun} longs lawful is many =
    rw (many, ← append-nil (lot_line begun.lot begun.poured (length begun.plan))) (way_opened issue (outcomes.LotOpened (opened_of begun)) lawful is.opened)

pub way_unbegun : {f g : FloorState} (issue : ℕ) (o : Outcome) → IsLawfulFloor f → IsNotBegun issue o f g → Way (opened issue) (Gives None) (outcome_line (event.LotOpen issue) o)
way_unbegun issue o lawful (occurs, (r, refused)) = rw (ap after_open refused) at (way_opened issue o lawful occurs.0)

-- ---- tickets are entered

abbrev after_entry : ℕ → List Ticket → Outcome → Act Bool
after_entry lot tickets = elim [ outcomes.Drawn drawn ↦ entered lot tickets | _ ↦ Gives false ]

-- the first of them, one after another
way_entered : (lot : ℕ) (first rest : List Ticket) (old new : World) → IsSoundWorld old → Run (reserves lot first) (draws first) old new
    → Way (entered lot (first ++ rest)) (entered lot rest) (flat_map (ticket_line lot) (draws first)) × IsSoundWorld new
unfolding entered ◌>>=◌
way_entered lot [] rest old new sound same = (way_here, rw same sound)
way_entered lot (t ∷ first) rest old new sound (between, occurs, run) =
    let (way, later) = way_entered lot first rest between new (occurs.accord, occurs.agreed) run in
    let one = way_bind (after_entry lot (first ++ rest)) (way_happened (event.Reserve lot t.member) (outcomes.Drawn t) (occurred sound occurs)) in
    (way_more one way, later)

-- the line of a refused ticket is the same for each member
refused_line : (lot member : ℕ) (r : Refusal) → outcome_line (event.Reserve lot member) (outcomes.Refused r) ≡ not_drawn r
unfolding event_line
refused_line lot member r = refl

not_entered : (lot : ℕ) (t : Ticket) (r : Refusal) (old new : World) → IsSoundWorld old → IsNotEntered lot t r old new → HasCome (event.Reserve lot t.member) (outcomes.Refused r)
not_entered lot t r old new sound (inl occurs) = occurred sound occurs
not_entered lot t r old new sound (inr (bad, same, differs)) = inr (inr (lot, t.member, refl, ap (λ (r : Refusal). outcomes.Refused r) bad))

-- one is not entered, and none after it
way_refused : (lot : ℕ) (t : Ticket) (rest : List Ticket) (r : Refusal) → HasCome (event.Reserve lot t.member) (outcomes.Refused r) → Way (entered lot (t ∷ rest)) (Gives false) (not_drawn r)
unfolding entered ◌>>=◌
way_refused lot t rest r come = rw (refused_line lot t.member r) at (way_bind (after_entry lot rest) (way_happened (event.Reserve lot t.member) (outcomes.Refused r) come))

-- ---- the lot is closed

way_ended : (lot : ℕ) (sealed : Bool) (last : List Outcome) (old new : World) → IsSoundWorld old → IsEnded lot sealed last old new → Way (closed_by lot sealed) done (closed_text lot sealed last)
way_ended lot false last old new sound (o, is, occurs) = rw is (way_single (event.LotClose lot) o (occurred sound occurs))
way_ended lot true last old new sound (inl (o, is, (r, refused), occurs)) =
    let line = outcome_line (event.Seal lot) (outcomes.Refused r) in
    rw (is, refused) (way_more (way_lets (event.Seal lot) (outcomes.Refused r) (closed_after_seal lot) (occurred sound (rw refused at occurs))) (way_tells line))
way_ended lot true last old new sound (inr (rest, between, is, sealed, (closed, is_closed, occurs))) =
    rw (is, is_closed)
    (way_more (way_lets (event.Seal lot) outcomes.Done (closed_after_seal lot) (occurred sound sealed)) (way_single (event.LotClose lot) closed (occurred (sealed.accord, sealed.agreed) occurs)))

some_ended : (lot : ℕ) (sealed : Bool) (last : List Outcome) (old new : World) → IsEnded lot sealed last old new → 0 < length last
some_ended lot false last old new (o, is, occurs) = rw is (omega arith)
some_ended lot true last old new (inl (o, is, refusal, occurs)) = rw is (omega arith)
some_ended lot true last old new (inr (rest, between, is, sealed, closed)) = rw is (omega arith)

way_told : (cut : Option Cut) → Way (cut_told (option_map refusal_of cut)) done (cut_text cut)
way_told None = way_here
way_told (Some cut) = way_tells (not_drawn (refusal_of cut))

-- ---- all of it

abbrev after_all : ℕ → Option Cut → Bool → Bool → Act (Unit {0})
after_all lot cut sealed all = if all then (cut_told (option_map refusal_of cut) >> closed_by lot sealed) else done

abbrev haul_of : List Ticket → Option Cut → Bool → Haul
haul_of tickets cut sealed = record { tickets = tickets; cut = option_map refusal_of cut; sealed = sealed }

way_whole : (lot : ℕ) (tickets : List Ticket) (cut : Option Cut) (sealed : Bool) (last : List Outcome) (old between new : World)
    → IsSoundWorld old → Run (reserves lot tickets) (draws tickets) old between → IsEnded lot sealed last between new
    → Way (hauled lot (Some (haul_of tickets cut sealed))) done (flat_map (ticket_line lot) (draws tickets) ++ (cut_text cut ++ closed_text lot sealed last))
unfolding entered ◌>>=◌
way_whole lot tickets cut sealed last old between new sound run ended =
    let (way, later) = way_entered lot tickets [] old between sound run in
    way_more (way_bind (after_all lot cut sealed) (rw (append-nil tickets) at way))
    (way_more (way_bind (λ _. closed_by lot sealed) (way_told cut)) (way_ended lot sealed last between new later ended))

way_part : (lot : ℕ) (first : List Ticket) (t : Ticket) (rest : List Ticket) (cut : Option Cut) (sealed : Bool) (r : Refusal) (old between new : World)
    → IsSoundWorld old → Run (reserves lot first) (draws first) old between → IsNotEntered lot t r between new
    → Way (hauled lot (Some (haul_of (first ++ t ∷ rest) cut sealed))) done (flat_map (ticket_line lot) (draws first ++ outcomes.Refused r ∷ []))
unfolding ◌>>=◌
way_part lot first t rest cut sealed r old between new sound run not =
    let (way, later) = way_entered lot first (t ∷ rest) old between sound run in
    rw (flat_map-append (ticket_line lot) (draws first) (outcomes.Refused r ∷ []), append-nil (not_drawn r))
    (way_bind (after_all lot cut sealed) (way_more way (way_refused lot t rest r (not_entered lot t r between new later not))))

-- its text, where more was told than there are tickets, and where not
pub end_is : (lot n many : ℕ) (cut : Option Cut) (sealed : Bool) (told first last : List Outcome) → n ≡ many → first ≡ take n told → last ≡ drop n told → n < length told
    → flat_map (ticket_line lot) first ++ (cut_text cut ++ closed_text lot sealed last) ≡ end_text lot many cut sealed told
end_is lot n many cut sealed told first last same front back more = rw (front, back, ← same, lt-leb (length told) n more) refl

part_text : (lot many : ℕ) (cut : Option Cut) (sealed : Bool) (told : List Outcome) → length told ≤ many → end_text lot many cut sealed told ≡ flat_map (ticket_line lot) told
part_text lot many cut sealed told le = rw (le-leb (length told) many le) refl

-- the lot was busy, and was finished
way_finished : (lot : ℕ) (handed : List Ticket) (cut : Option Cut) (sealed : Bool) (told : List Outcome) (old new : World) → IsSoundWorld old → IsFinished lot handed sealed told old new
    → Way (Draws lot (hauled lot)) done (end_text lot (length handed) cut sealed told)
way_finished lot handed cut sealed told old new sound is = by is.entered
  where
    drew : Way (Draws lot (hauled lot)) (hauled lot (Some (haul_of is.sorted cut sealed))) []
    drew = way_draws lot (Some (haul_of is.sorted cut sealed)) (hauled lot) is.by_start

    same : length is.sorted ≡ length handed
    same = length_permutation handed is.sorted is.same

    by : AreAllEntered lot is.sorted sealed told old new → Way (Draws lot (hauled lot)) done (end_text lot (length handed) cut sealed told)
    by (inl (first, last, between, told_is, all_are, ended)) =
        let all = draws is.sorted in
        let many : length all ≡ length handed = length-map is.sorted (λ (t : Ticket). outcomes.Drawn t) ∙ same in
        let more : length all < length (all ++ last) = omega (arith, length-append all last, some_ended lot sealed last between new ended) in
        rw (told_is, all_are.told_is, ← end_is lot (length all) (length handed) cut sealed (all ++ last) all last many (sym (take-append_seam all last)) (sym (drop-append_seam all last)) more)
        (way_more drew (way_whole lot is.sorted cut sealed last old between new sound all_are.drawn ended))
    by (inr (first, r, told_is, cut_off)) =
        let drawn : told ≡ draws cut_off.first ++ outcomes.Refused r ∷ [] = rw cut_off.entered.told_is at told_is in
        let many : length told ≤ length handed =
        rw (drawn, ← same, cut_off.all)
        (omega (arith, length-append (draws cut_off.first) (outcomes.Refused r ∷ []), length-map cut_off.first (λ (t : Ticket). outcomes.Drawn t), length-append cut_off.first (cut_off.ticket ∷ cut_off.rest))) in
        rw (part_text lot (length handed) cut sealed told many, drawn)
        (way_more drew (rw cut_off.all (way_part lot cut_off.first cut_off.ticket cut_off.rest cut sealed r old cut_off.between new sound cut_off.entered.drawn cut_off.stopped)))

-- a lot is ended, which was busy, or was not
pub way_end : (lot : ℕ) (handed : List Ticket) (cut : Option Cut) (sealed : Bool) (told : List Outcome) (f : FloorState) (new : World) → IsLawfulFloor f
    → sealed ≡ (is_some cut || sealed_at f.busy lot) → FinishGives lot handed (is_some cut) told f new → Way (Draws lot (hauled lot)) done (end_text lot (length handed) cut sealed told)
way_end lot handed cut sealed told f new lawful = by (busy_at f.busy lot) refl
  where
    by : (found : Option BusyLot) → busy_at f.busy lot ≡ found → sealed ≡ (is_some cut || is_sealed found)
        → MatchOption found ((told ≡ []) × (new ≡ f.system)) (λ (b : BusyLot). IsFinished lot handed (is_some cut || b.sealed) told f.system new)
        → Way (Draws lot (hauled lot)) done (end_text lot (length handed) cut sealed told)
    by None idle is (none, same) = rw (none, part_text lot (length handed) cut sealed [] (omega arith)) (way_draws lot None (hauled lot) (f, lawful, idle))
    by (Some b) found is finished = way_finished lot handed cut sealed told f.system new (lawful.accord, lawful.headline) (rw (← is) at finished)

-- a failure is planned where the keeper of the node plans failures
pub planned_at : (name : NodeName) (stands : Bool) (r : Result (Unit {0}) NotPlanned) (f : FloorState) (new : Scene) → IsLawfulFloor f → Plans name stands r (scene_of f.system) new
    → ComesToPass (x.Planned name stands (is_ok r))
planned_at name stands (Ok _) f new lawful plans = (f, lawful, sym plans.0)
planned_at name stands (Err _) f new lawful plans = (f, lawful, sym plans.0)
