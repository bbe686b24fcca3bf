-- What entering the tickets of a busy lot leaves.
use Rattle.std.proofs.Common.{◌≡◌, ◌∙◌, ◌<◌, ◌+◌, ℕ, zero, suc, Bool, true, false, not, cond, List, [], ◌∷◌, ◌++◌, length, take, drop, get_or, Option, Some, None, Result, Ok, Err, ap, sym, subst, refl, arith, inl, inr}
use Rattle.std.specs.Prelude.{◌==◌, ◌&&◌, ◌||◌, eqb, All, IfErr, IfOk, IsErr, IsErrAnd, MatchResult, OnErr, slice_get}
use Rattle.std.proofs.lemmas.Bool.{eq-eqb, eqb-true, false_from_ne_true}
use Rattle.std.proofs.lemmas.List.Elements.{All-filter, All-weaker, filter_passes}
use Rattle.std.proofs.lemmas.List.{drop_more, map-append, take-append-drop, take_more}
use Rattle.std.proofs.lemmas.Option.{get_or_from_slice_get, same_Some, slice_get_within}
use Rattle.cns_pool.specs.declared.ticket.Ticket.{Ticket}
use Rattle.cns_allocate.proofs.TurnLemmas.{filter_whole}
use Rattle.cns_records.specs.declared.refusal.Refusal.{Refusal}
use Rattle.cns_records.specs.declared.refusal.Refusal.TheVariants as refusal
use Rattle.cns_system.specs.Accord.{IsInAccord}
use Rattle.cns_system.specs.Begin.{IsRefusal}
use Rattle.cns_system.specs.Finish.{AreAllEntered, AreCutOff, AreEntered, FinishGives, IsEnded, IsFinished, IsNotEntered, IsReleased, draws, is_sealed, reserves, sealed_at, without_busy}
use Rattle.cns_system.specs.Floor.{AreBusy, AreByNumber, BusyLot, FloorState, IsBusy, IsBusyPlace, busy_at}
use Rattle.cns_system.specs.Headline.{IsAgreed}
use Rattle.cns_system.specs.Lot.{LotState, with_ticket}
use Rattle.cns_ids.specs.Steps.{◌>>=◌}
use Rattle.cns_system.specs.Lots.{going_lot, turn_ticket, reserve_call, ticket_call, with_lot}
use Rattle.cns_system.specs.Happens.{Decision, happens, judged}
use Rattle.cns_system.specs.Scene.{decision_at, scene_of}
use Rattle.cns_system.specs.Shown.{Shown, shown_of}
use Rattle.cns_system.specs.Numbered.{NumberedNode}
use Rattle.cns_system.specs.Run.{Occurs}
use Rattle.cns_system.specs.World.{AreFrames, World}
use Rattle.cns_system.specs.declared.event.Event.TheVariants as event
use Rattle.cns_system.specs.declared.outcome.Outcome.{Outcome}
use Rattle.cns_system.specs.declared.outcome.Outcome.TheVariants as outcomes
use Rattle.cns_system.proofs.BeginLemmas.{occurs_refused}
use Rattle.cns_system.proofs.ComesLemmas.{refused}
use Rattle.cns_system.proofs.HappensLemmas.{OrRefused, happened}
use Rattle.cns_system.proofs.ToldLemmas.{Seals, seals_by}
use Rattle.cns_system.proofs.FloorLemmas.{busy_number, match_some, none_busy, none_found}
use Rattle.cns_system.proofs.RunLemmas.{Goes, goes_on, goes_run, goes_same, goes_step, one_more}

-- ---- the busy lots without one

goes : (n : ℕ) (b : BusyLot) → b.lot ≡ n → not (b.lot == n) ≡ false
goes n b is = ap not (eq-eqb b.lot n is)

remains : (n : ℕ) (b : BusyLot) → (b.lot ≡ n → ⊥) → not (b.lot == n) ≡ true
remains n b other = ap not (false_from_ne_true (b.lot == n) (λ e. other (eqb-true b.lot n e)))

pub all_remain : (n : ℕ) (busy : List BusyLot) → All (λ (b : BusyLot). b.lot ≡ n → ⊥) busy → without_busy n busy ≡ busy
all_remain n busy others =
    let stays : BusyLot → Bool = λ b. not (b.lot == n) in
    filter_whole stays busy (All-weaker (λ (b : BusyLot). b.lot ≡ n → ⊥) (λ (b : BusyLot). stays b ≡ true) (remains n) busy others)

-- the one in a place is taken out
taken_out : (n : ℕ) (busy : List BusyLot) (place : ℕ) (b : BusyLot) → AreByNumber busy → slice_get busy place ≡ Some b → b.lot ≡ n
    → take place busy ++ drop (suc place) busy ≡ without_busy n busy
taken_out n [] place b order found is = cc
taken_out n (x ∷ busy) zero b order found is =
    let here : x.lot ≡ n = ap (λ (c : BusyLot). c.lot) (same_Some x b found) ∙ is in
    let others = All-weaker (λ (c : BusyLot). x.lot < c.lot) (λ (c : BusyLot). c.lot ≡ n → ⊥) (λ c below e. absurd (omega (arith, below, e, here))) busy order.0 in
    sym (ap (λ (t : Bool). cond t (x ∷ without_busy n busy) (without_busy n busy)) (goes n x here) ∙ all_remain n busy others)
taken_out n (x ∷ busy) (suc place) b order found is =
    let at = order.0 place x (slice_get_within busy place b found) in
    let later : x.lot < n = subst (λ (m : ℕ). x.lot < m) (ap (λ (c : BusyLot). c.lot) (get_or_from_slice_get busy place b x found) ∙ is) at in
    ap (λ (ys : List BusyLot). x ∷ ys) (taken_out n busy place b order.1 found is)
    ∙ sym (ap (λ (t : Bool). cond t (x ∷ without_busy n busy) (without_busy n busy)) (remains n x (λ e. absurd (omega (arith, later, e)))))

-- what is left where the one that was found in a place is taken out
pub left_busy : (f : FloorState) (n place : ℕ) (items rest : List BusyLot) → items ≡ f.busy → IsBusyPlace (busy_at items n) items (Some place)
    → rest ≡ take place f.busy ++ drop (place + 1) f.busy → AreByNumber f.busy → rest ≡ without_busy n f.busy
left_busy f n place items rest same is out order =
    let there : slice_get f.busy place ≡ Some is.0 = ap (λ (bs : List BusyLot). slice_get bs place) (sym same) ∙ is.2 in
    let next : place + 1 ≡ suc place = omega arith in
    out ∙ ap (λ (i : ℕ). take place f.busy ++ drop i f.busy) next ∙ taken_out n f.busy place is.0 order there (busy_number items n is.0 is.1)

pub released_from : (f now : FloorState) (n place : ℕ) (items rest : List BusyLot) (x : BusyLot) (sealed : Bool) → f ≡ now → items ≡ f.busy
    → IsBusyPlace (busy_at items n) items (Some place) → rest ≡ without_busy n f.busy → x ≡ get_or f.busy place x → sealed ≡ x.sealed
    → IsReleased n (Some sealed) now (record f { busy = rest })
released_from f now n place items rest x sealed was same is left read shown =
    let there : slice_get f.busy place ≡ Some is.0 = ap (λ (bs : List BusyLot). slice_get bs place) (sym same) ∙ is.2 in
    let one : x ≡ is.0 = read ∙ get_or_from_slice_get f.busy place is.0 x there in
    subst (λ (g : FloorState). IsReleased n (Some sealed) g (record f { busy = rest })) was (
      (is.0, ap (λ (bs : List BusyLot). busy_at bs n) (sym same) ∙ is.1, shown ∙ ap (λ (b : BusyLot). b.sealed) one),
      ap (λ (bs : List BusyLot). record f { busy = bs }) left,
    )

-- whether the cell of the busy lot that was looked for is sealed
pub sealed_here : (f now : FloorState) (n place : ℕ) (items : List BusyLot) (x : BusyLot) → f ≡ now → items ≡ f.busy → IsBusyPlace (busy_at items n) items (Some place)
    → x ≡ get_or f.busy place x → x.sealed ≡ sealed_at now.busy n
sealed_here f now n place items x was same is read =
    let there : slice_get f.busy place ≡ Some is.0 = ap (λ (bs : List BusyLot). slice_get bs place) (sym same) ∙ is.2 in
    let one : x ≡ is.0 = read ∙ get_or_from_slice_get f.busy place is.0 x there in
    let here : busy_at f.busy n ≡ Some is.0 = ap (λ (bs : List BusyLot). busy_at bs n) (sym same) ∙ is.1 in
    subst (λ (g : FloorState). x.sealed ≡ sealed_at g.busy n) was (ap (λ (b : BusyLot). b.sealed) one ∙ sym (ap is_sealed here))

pub sealed_nowhere : (f now : FloorState) (n : ℕ) (items : List BusyLot) → f ≡ now → items ≡ f.busy → busy_at items n ≡ None → false ≡ sealed_at now.busy n
sealed_nowhere f now n items was same none =
    let here : busy_at f.busy n ≡ None = ap (λ (bs : List BusyLot). busy_at bs n) (sym same) ∙ none in
    subst (λ (g : FloorState). false ≡ sealed_at g.busy n) was (sym (ap is_sealed here))

order_without : (n : ℕ) (busy : List BusyLot) → AreByNumber busy → AreByNumber (without_busy n busy)
order_without n [] order = tt
order_without n (x ∷ busy) order = by (not (x.lot == n)) (order_without n busy order.1)
  where
    by : (t : Bool) → AreByNumber (without_busy n busy) → AreByNumber (cond t (x ∷ without_busy n busy) (without_busy n busy))
    by true rest = (All-filter (λ (b : BusyLot). not (b.lot == n)) (λ (c : BusyLot). x.lot < c.lot) busy order.0, rest)
    by false rest = rest

pub still_busy : (n : ℕ) (node : NumberedNode) (busy : List BusyLot) → AreBusy node busy → AreBusy node (without_busy n busy)
still_busy n node busy are = record {
  each = All-filter (λ (b : BusyLot). not (b.lot == n)) (IsBusy node) busy are.each;
  order = order_without n busy are.order;
}

is_other : (n : ℕ) (b : BusyLot) → not (b.lot == n) ≡ true → b.lot ≡ n → ⊥
is_other n b kept is = let no = sym (goes n b is) ∙ kept in cc

-- the lot is no longer busy
pub is_gone : (n : ℕ) (busy : List BusyLot) → busy_at (without_busy n busy) n ≡ None
is_gone n busy =
    none_found (without_busy n busy) n
    (All-weaker (λ (b : BusyLot). not (b.lot == n) ≡ true) (λ (b : BusyLot). b.lot ≡ n → ⊥) (is_other n) (without_busy n busy)
    (filter_passes (λ (b : BusyLot). not (b.lot == n)) busy))

pub none_gone : (n : ℕ) (busy : List BusyLot) → busy_at busy n ≡ None → without_busy n busy ≡ busy
none_gone n busy none = all_remain n busy (none_busy busy n none)

-- ---- what a reserve would draw

-- a refusal that is passed on is the same
pub passed_on : {X : Type 0} (P : Result X Refusal → Type 0) (result : Result X Refusal) (r : Refusal) → IsErr result → IsErrAnd result (λ (s : Refusal). s ≡ r) → P (Err r)
    → P result
passed_on P (Ok x) r is same holds = absurd (cc is)
passed_on P (Err s) r is same holds = subst (λ (t : Refusal). P (Err t)) (sym same) holds

-- what a reserve comes to where the next ticket of its member would be refused, or is this one
abbrev drawing : ℕ → List LotState → LotState → Result Ticket Refusal → Result (Ticket × List LotState) Refusal
drawing number lots lot next =
    let drawn : Ticket → Result (Ticket × LotState) Refusal = λ t. Ok (t, with_ticket t lot) in
    let left : Ticket × LotState → Result (Ticket × List LotState) Refusal = λ d. Ok (d.0, with_lot number d.1 lots) in
    (next >>= drawn) >>= left

reserve_as : (number member : ℕ) (lots : List LotState)
    → MatchResult (ticket_call number member lots) (λ (t : Ticket). (new : List LotState) × (reserve_call number member lots ≡ Ok (t, new))) (λ (r : Refusal). reserve_call number member lots ≡ Err r)
reserve_as number member lots = by (going_lot lots number)
  where
    of : (lot : LotState) (next : Result Ticket Refusal)
        → MatchResult next (λ (t : Ticket). (new : List LotState) × (drawing number lots lot next ≡ Ok (t, new))) (λ (r : Refusal). drawing number lots lot next ≡ Err r)
    of lot (Ok t) = (with_lot number (with_ticket t lot) lots, refl)
    of lot (Err r) = refl

    by : (g : Result LotState Refusal)
        → MatchResult (g >>= λ lot. turn_ticket lot member) (λ (t : Ticket). (new : List LotState) × ((g >>= λ lot. drawing number lots lot (turn_ticket lot member)) ≡ Ok (t, new)))
        (λ (r : Refusal). (g >>= λ lot. drawing number lots lot (turn_ticket lot member)) ≡ Err r)
    by (Ok lot) = of lot (turn_ticket lot member)
    by (Err r) = refl

-- tickets as they are compared
pub unlike : (s t : Ticket) → not (eqb s.member t.member && (eqb s.start t.start && eqb s.asked t.asked)) ≡ true → s ≡ t → ⊥
unlike s t not_so same =
    let P : Ticket → Type 0 = λ x. not (eqb x.member t.member && (eqb x.start t.start && eqb x.asked t.asked)) ≡ true in
    let there : not (eqb t.member t.member && (eqb t.start t.start && eqb t.asked t.asked)) ≡ true = subst P same not_so in
    let no : false ≡ true = rw (eq-eqb t.member t.member refl, eq-eqb t.start t.start refl, eq-eqb t.asked t.asked refl) at there in cc

pub same_as : (s t : Ticket) → not (eqb s.member t.member && (eqb s.start t.start && eqb s.asked t.asked)) ≡ false → s ≡ t
same_as s t so = by (eqb s.member t.member) (eqb s.start t.start) (eqb s.asked t.asked) refl refl refl so
  where
    by : (a b c : Bool) → eqb s.member t.member ≡ a → eqb s.start t.start ≡ b → eqb s.asked t.asked ≡ c → not (a && (b && c)) ≡ false → s ≡ t
    by true true true m f n so =
        let one : s ≡ record { member = t.member; start = s.start; asked = s.asked } = ap (λ x. record { member = x; start = s.start; asked = s.asked }) (eqb-true s.member t.member m) in
        let two : record { member = t.member; start = s.start; asked = s.asked } ≡ t =
        ap (λ x. record { member = t.member; start = x; asked = s.asked }) (eqb-true s.start t.start f)
        ∙ ap (λ x. record { member = t.member; start = t.start; asked = x }) (eqb-true s.asked t.asked n) in
        one ∙ two
    by true true false m f n so = cc
    by true false c m f n so = cc
    by false b c m f n so = cc

happens_draws : (d : Decision) (lot member : ℕ) (t : Ticket) (w : Shown) → ticket_call lot member w.lots ≡ Ok t
    → (left : Shown) × (happens d (event.Reserve lot member) w ≡ (outcomes.Drawn t, left))
unfolding happens judged
happens_draws d lot member t w would = by (rw would at (reserve_as lot member w.lots))
  where
    by : ((new : List LotState) × (reserve_call lot member w.lots ≡ Ok (t, new))) → (left : Shown) × (happens d (event.Reserve lot member) w ≡ (outcomes.Drawn t, left))
    by (new, draws) = (record w { lots = new }, rw draws refl)

pub draws_it : (lot member : ℕ) (t : Ticket) (outcome : Outcome) (old new : World) → ticket_call lot member old.clear.lots ≡ Ok t
    → Occurs (event.Reserve lot member) outcome old new → Occurs (event.Reserve lot member) (outcomes.Drawn t) old new
draws_it lot member t outcome old new would occurs =
    let h = happened (event.Reserve lot member) outcome old new occurs.comes in
    let draws = happens_draws (decision_at h.chance (event.Reserve lot member) (scene_of old)) lot member t (shown_of old) would in
    let told : outcome ≡ outcomes.Drawn t = sym (ap (λ (p : Outcome × Shown). p.0) h.is) ∙ ap (λ (p : Outcome × Shown). p.0) draws.1 in
    subst (λ (o : Outcome). Occurs (event.Reserve lot member) o old new) told occurs

-- ---- tickets that are not entered

pub stops : (lot : ℕ) (t : Ticket) (r : Refusal) (w : World) → ticket_call lot t.member w.clear.lots ≡ Err r → IsInAccord w → AreFrames w.order_packets w.reply_packets → IsAgreed w → IsNotEntered lot t r w w
unfolding judged
stops lot t r w would accord frames agreed =
    let refuses : reserve_call lot t.member w.clear.lots ≡ Err r = rw would at (reserve_as lot t.member w.clear.lots) in
    inl (occurs_refused (event.Reserve lot t.member) r w (refused (event.Reserve lot t.member) w r (rw refuses refl)) (λ a b. tt) accord frames agreed)

pub differs : (lot : ℕ) (t next : Ticket) (w : World) → ticket_call lot t.member w.clear.lots ≡ Ok next → (next ≡ t → ⊥) → IsNotEntered lot t refusal.BadTickets w w
differs lot t next w would other = inr (refl, refl, (next, other, would))

-- ---- tickets that are entered

pub one_entered : (lot : ℕ) (tickets : List Ticket) (i : ℕ) (t : Ticket) (told : List Outcome) (old between new : World) → i < length tickets → t ≡ get_or tickets i t
    → AreEntered lot (take i tickets) told old between → Occurs (event.Reserve lot t.member) (outcomes.Drawn t) between new
    → AreEntered lot (take (i + 1) tickets) (told ++ outcomes.Drawn t ∷ []) old new
one_entered lot tickets i t told old between new below is entered occurs =
    let first = take i tickets in
    let more : take (i + 1) tickets ≡ first ++ t ∷ [] = take_more tickets i t below ∙ ap (λ (x : Ticket). first ++ x ∷ []) (sym is) in
    let events : reserves lot (first ++ t ∷ []) ≡ reserves lot first ++ event.Reserve lot t.member ∷ [] = map-append (λ (x : Ticket). event.Reserve lot x.member) first (t ∷ []) in
    let outs : draws (first ++ t ∷ []) ≡ draws first ++ outcomes.Drawn t ∷ [] = map-append (λ (x : Ticket). outcomes.Drawn x) first (t ∷ []) in
    rw more
    (record {
      told_is = ap (λ (os : List Outcome). os ++ outcomes.Drawn t ∷ []) entered.told_is ∙ sym outs;
      drawn = rw (events, outs) (one_more (reserves lot first) (draws first) (event.Reserve lot t.member) (outcomes.Drawn t) old between new entered.drawn occurs);
    })

pub cut_off : (lot : ℕ) (tickets : List Ticket) (i : ℕ) (t : Ticket) (r : Refusal) (told : List Outcome) (old between new : World) → i < length tickets → t ≡ get_or tickets i t
    → AreEntered lot (take i tickets) told old between → IsNotEntered lot t r between new → AreCutOff lot tickets r told old new
cut_off lot tickets i t r told old between new below is entered stopped = record {
  first = take i tickets;
  ticket = t;
  rest = drop (i + 1) tickets;
  all = sym (take-append-drop i tickets) ∙ ap (λ (ts : List Ticket). take i tickets ++ ts) (drop_more tickets i t below ∙ ap (λ (x : Ticket). x ∷ drop (i + 1) tickets) (sym is));
  between = between;
  entered = entered;
  stopped = stopped;
}

-- ---- the end of the lot

pub seal_refused : (lot : ℕ) (outcome : Outcome) (old new : World) → Occurs (event.Seal lot) outcome old new → (outcome ≡ outcomes.Done → ⊥) → IsRefusal outcome
seal_refused lot outcome old new occurs other = by (seals_by lot outcome old new occurs.comes)
  where
    by : OrRefused (Seals lot) (shown_of old) outcome (shown_of new) → IsRefusal outcome
    by (inl refuses) = (refuses.refusal, refuses.is)
    by (inr (l, at, is)) = absurd (other is)

-- ---- what stays so over all of it

goes_stop : (lot : ℕ) (t : Ticket) (r : Refusal) (old new : World) → IsNotEntered lot t r old new → Goes old new
goes_stop lot t r old new (inl occurs) = goes_step (event.Reserve lot t.member) (outcomes.Refused r) old new occurs
goes_stop lot t r old new (inr h) = goes_same old new h.1

-- the end of the lot, be it sealed before or not
goes_end : (lot : ℕ) (sealed : Bool) (told : List Outcome) (old new : World) → IsEnded lot sealed told old new → Goes old new
goes_end lot false told old new h = goes_step (event.LotClose lot) h.0 old new h.2
goes_end lot true told old new (inl h) = goes_step (event.Seal lot) h.0 old new h.3
goes_end lot true told old new (inr h) = goes_on old h.1 new (goes_step (event.Seal lot) outcomes.Done old h.1 h.3) (goes_step (event.LotClose lot) h.4.0 h.1 new h.4.2)

pub goes_finished : (lot : ℕ) (handed : List Ticket) (sealed : Bool) (told : List Outcome) (old new : World) → IsFinished lot handed sealed told old new → Goes old new
goes_finished lot handed sealed told old new is = by is.entered
  where
    by : AreAllEntered lot is.sorted sealed told old new → Goes old new
    by (inl h) = goes_on old h.2 new (goes_run (reserves lot is.sorted) (draws is.sorted) old h.2 h.4.drawn) (goes_end lot sealed h.1 h.2 new h.5)
    by (inr h) =
        let cut = h.3 in
        goes_on old cut.between new (goes_run (reserves lot cut.first) (draws cut.first) old cut.between cut.entered.drawn) (goes_stop lot cut.ticket h.1 cut.between new cut.stopped)

-- ---- the answers

pub not_entered : (lot : ℕ) (tickets : List Ticket) (told : List Outcome) (old new : World) (result : Result (Unit {0}) Refusal) (r : Refusal) → IsErr result
    → IsErrAnd result (λ (s : Refusal). s ≡ r) → AreCutOff lot tickets r told old new → IfErr result (λ (s : Refusal). AreCutOff lot tickets s told old new)
not_entered lot tickets told old new result r is same cut =
    passed_on (λ (o : Result (Unit {0}) Refusal). IfErr o (λ (s : Refusal). AreCutOff lot tickets s told old new)) result r is same cut

-- a lot that was busy is released
pub released_gone : (lot : ℕ) (sealed : Bool) (old mid : FloorState) → IsReleased lot (Some sealed) old mid → busy_at mid.busy lot ≡ None
released_gone lot sealed old mid is = ap (λ (f : FloorState). busy_at f.busy lot) is.1 ∙ is_gone lot old.busy

pub released_rest : (lot : ℕ) (sealed : Option Bool) (old mid : FloorState) → IsReleased lot sealed old mid → mid.busy ≡ without_busy lot old.busy
released_rest lot (Some sealed) old mid is = ap (λ (f : FloorState). f.busy) is.1
released_rest lot None old mid is = ap (λ (f : FloorState). f.busy) is.1 ∙ sym (none_gone lot old.busy is.0)

pub released_system : (lot : ℕ) (sealed : Bool) (old mid : FloorState) → IsReleased lot (Some sealed) old mid → mid.system ≡ old.system
released_system lot sealed old mid is = ap (λ (f : FloorState). f.system) is.1

pub finish_gives : (lot : ℕ) (handed : List Ticket) (failed sealed either : Bool) (told : List Outcome) (old mid : FloorState) (new : World) → IsReleased lot (Some sealed) old mid
    → either ≡ (failed || sealed) → IsFinished lot handed either told mid.system new → FinishGives lot handed failed told old new
finish_gives lot handed failed sealed either told old mid new is both finished =
    let seal : either ≡ (failed || is.0.0.sealed) = both ∙ ap (λ (t : Bool). failed || t) is.0.2 in
    match_some _ _ _ is.0.0 is.0.1
    (subst (λ (w : World). IsFinished lot handed (failed || is.0.0.sealed) told w new) (released_system lot sealed old mid is)
    (subst (λ (t : Bool). IsFinished lot handed t told mid.system new) seal finished))

pub finish_told : {V E : Type 0} (items : V → List Outcome) (lot : ℕ) (handed : List Ticket) (failed sealed either : Bool) (result : Result V E) (old mid : FloorState) (new : World)
    → IsReleased lot (Some sealed) old mid → either ≡ (failed || sealed) → IfOk result (λ (v : V). IsFinished lot handed either (items v) mid.system new)
    → IfOk result (λ (v : V). FinishGives lot handed failed (items v) old new)
finish_told items lot handed failed sealed either (Ok v) old mid new is both ok = finish_gives lot handed failed sealed either (items v) old mid new is both ok
finish_told items lot handed failed sealed either (Err e) old mid new is both ok = ok

goes_by : {V E : Type 0} (items : V → List Outcome) (lot : ℕ) (handed : List Ticket) (sealed : Bool) (result : Result V E) (old new : World)
    → IfOk result (λ (v : V). IsFinished lot handed sealed (items v) old new) → OnErr result (new ≡ old) → Goes old new
goes_by items lot handed sealed (Ok v) old new ok err = goes_finished lot handed sealed (items v) old new ok
goes_by items lot handed sealed (Err e) old new ok err = goes_same old new err

pub finish_goes : {V E : Type 0} (items : V → List Outcome) (lot : ℕ) (handed : List Ticket) (sealed either : Bool) (result : Result V E) (old mid : FloorState) (new : World)
    → IsReleased lot (Some sealed) old mid → IfOk result (λ (v : V). IsFinished lot handed either (items v) mid.system new) → OnErr result (new ≡ mid.system)
    → Goes old.system new
finish_goes items lot handed sealed either result old mid new is ok err =
    subst (λ (w : World). Goes w new) (released_system lot sealed old mid is) (goes_by items lot handed either result mid.system new ok err)
