-- What the commands of a script do, by what their events came to.
use Rattle.std.proofs.Common.{◌≡◌, ◌<◌, ◌≤◌, ℕ, suc, ◌+◌, ◌-◌, get_or, List, [], ◌∷◌, length, drop, Option, Some, None, Result, Ok, Err, refl, ap, arith}
use Rattle.std.proofs.Math.Seq.{drop-nil, take-nil}
use Rattle.std.proofs.lemmas.List.{drop_all, take_all}
use Rattle.cns_allocate.specs.declared.planned.Planned.{Planned}
use Rattle.cns_pool.specs.declared.ticket.Ticket.{Ticket}
use Rattle.cns_movements.specs.declared.order.Reply.{Reply}
use Rattle.cns_records.specs.declared.refusal.Refusal.{Refusal}
use Rattle.cns_records.specs.declared.refusal.Refusal.TheVariants as refusal
use Rattle.cns_trades.specs.declared.row.Row.{Row}
use Rattle.cns_system.specs.declared.event.Event.TheVariants as event
use Rattle.cns_system.specs.declared.numbered.Opened.{Opened}
use Rattle.cns_system.specs.declared.outcome.Outcome.{Outcome}
use Rattle.cns_system.specs.declared.outcome.Outcome.TheVariants as outcomes
use Rattle.cns_shake.specs.Shake.{Lcg, event_of, pcg32}
use Rattle.cns_system.specs.Readers.{counts_of}
use Rattle.cns_system.specs.Shown.{Shown}
use Rattle.cns_batch.specs.Acts.{Act, Gives, Looks, ◌>>=◌, done, happened, single}
use Rattle.cns_batch.specs.Commands.{all_taken, drawn, link_shaken, row_taken, rows_taken, served, shaken, first_taken}
use Rattle.cns_batch.specs.Runs.{Continues, Exchange, Place, Runs, Showed, leaves}
use Rattle.cns_batch.specs.declared.supply.Supply.{Supply}
use Rattle.cns_batch.proofs.PrintLemmas.{first_left}
use Rattle.cns_batch.proofs.ActLemmas.{asks, continues_more, followed_gives, stops_followed}

-- ---- rows that are taken

abbrev pub with_rows : Supply → List Row → Supply
with_rows s rows = record s { trades = rows }

-- what is left to take begins with the first of the rows
pub taken_first : (n i : ℕ) (r : Row) (s : Supply) (new : List Row) → i < n → s.trades ≡ r ∷ new → first_taken (n - i) s ≡ row_taken r >>= λ _. first_taken (n - (i + 1)) (with_rows s new)
unfolding rows_taken
taken_first n i r s new lt is = let one : n - i ≡ suc (n - (i + 1)) = omega (arith, lt) in rw (is, one) refl

-- where no row is left, nothing is left to take
pub taken_none : (n : ℕ) (s : Supply) → s.trades ≡ [] → first_taken n s ≡ Gives s
unfolding rows_taken
taken_none n s none = rw (none, take-nil n, drop-nil n) refl

-- nor where so many were taken
pub taken_all : (n i : ℕ) (s : Supply) → n ≤ i → first_taken (n - i) s ≡ Gives s
unfolding rows_taken
taken_all n i s le = let none : n - i ≡ 0 = omega (arith, le) in ap (λ k. first_taken k s) none

-- all that are left
pub all_are : (s : Supply) → first_taken (length s.trades) s ≡ all_taken s
all_are s = let n = length s.trades in let all : n ≤ n = omega arith in rw (take_all n s.trades all, drop_all n s.trades all) refl

-- ---- draws

-- what a draw lets happen of what both nodes show, and the draws after it
abbrev pub draw_then : ℕ → ℕ → Lcg → Shown → Act Lcg
draw_then n i g w = drawn (event_of (pcg32 g).0 (counts_of w)) >>= λ _. shaken (n - (i + 1)) (pcg32 g).1

draw_first : (n i : ℕ) (g : Lcg) → i < n → shaken (n - i) g ≡ Looks (draw_then n i g)
unfolding shaken
draw_first n i g lt = let one : n - i ≡ suc (n - (i + 1)) = omega (arith, lt) in rw one refl

-- both nodes are looked at before a draw
pub draw_looks : {N : Type 0} {leads : Exchange → N → N → Type 0} {all : Act Lcg} {p q : Place N} (n i : ℕ) (g : Lcg) (w : Shown) → i < n → leads (Showed w) q.nodes q.nodes
    → Continues leads all (shaken (n - i) g) p q → Continues leads all (draw_then n i g w) p q
draw_looks n i g w lt shows so = continues_more (rw (draw_first n i g lt) at so) (asks (Showed w) (w, refl, refl) refl shows)

-- no draw is left where so many were made
pub draws_over : (n i : ℕ) (g : Lcg) → n ≤ i → shaken (n - i) g ≡ Gives g
unfolding shaken
draws_over n i g le = let none : n - i ≡ 0 = omega (arith, le) in ap (λ k. shaken k g) none

-- no run that is not shaken changes its generator
pub unshaken : (s : Supply) → s.shaker ≡ None → link_shaken s ≡ Gives s
unshaken s none = rw none refl

-- the generator goes back to where it was taken from
pub shaken_back : {E N : Type 0} (leads : Exchange → N → N → Type 0) (n : ℕ) (s : Supply) (g after : Lcg) (result : Result (Unit {0}) E) (p q : Place N)
    → Runs leads (shaken n g) (leaves result after) p q
    → Runs leads (shaken n g >>= λ after. Gives (record s { shaker = Some after })) (leaves result (record s { shaker = Some after })) p q
shaken_back leads n s g after (Ok u) p q one = followed_gives (λ after. Gives (record s { shaker = Some after })) one
shaken_back leads n s g after (Err e) p q stop = stops_followed (λ after. Gives (record s { shaker = Some after })) stop

-- ---- what follows the outcome of an event

abbrev pub after_look : ℕ → Outcome → Act (Unit {0})
after_look lot = elim [ outcomes.Refused r ↦ done | _ ↦ single (event.LookAsked lot) ]

pub looks_further : (lot : ℕ) (o : Outcome) → ((r : Refusal) → o ≡ outcomes.Refused r → ⊥) → after_look lot o ≡ single (event.LookAsked lot)
looks_further lot (outcomes.Refused r) not = absurd (not r refl)
looks_further lot _ not = refl

abbrev pub after_reply : Outcome → Act (Unit {0})
after_reply = elim [ outcomes.Executed r reply ↦ single (event.ReplyIn reply) | outcomes.ExecutedAgain r reply ↦ single (event.ReplyIn reply) | _ ↦ done ]

pub no_reply : (o : Outcome) → ((r : Reply) (packet : ℕ) → o ≡ outcomes.Executed r packet → ⊥) → ((r : Reply) (packet : ℕ) → o ≡ outcomes.ExecutedAgain r packet → ⊥) → after_reply o ≡ done
no_reply (outcomes.Executed r packet) not again = absurd (not r packet refl)
no_reply (outcomes.ExecutedAgain r packet) not again = absurd (again r packet refl)
no_reply _ not again = refl

abbrev pub after_send : (ℕ → Act (Unit {0})) → Outcome → Act (Unit {0})
after_send next = elim [ outcomes.Sent packet ↦ next packet | _ ↦ done ]

pub not_sent : (next : ℕ → Act (Unit {0})) (o : Outcome) → ((packet : ℕ) → o ≡ outcomes.Sent packet → ⊥) → after_send next o ≡ done
not_sent next (outcomes.Sent packet) not = absurd (not packet refl)
not_sent next _ not = refl

abbrev pub after_open : Outcome → Act (Option Opened)
after_open = elim [ outcomes.LotOpened lot ↦ Gives (Some lot) | _ ↦ Gives None ]

pub not_opened : (o : Outcome) → ((lot : Opened) → o ≡ outcomes.LotOpened lot → ⊥) → after_open o ≡ Gives None
not_opened (outcomes.LotOpened lot) not = absurd (not lot refl)
not_opened _ not = refl

-- ---- tickets of a lot, one after another

abbrev pub after_ticket : ℕ → List Planned → Outcome → Act (Unit {0})
after_ticket number plan = elim [ outcomes.Drawn t ↦ served number plan | outcomes.Refused refusal.Sealed ↦ single (event.LotClose number) | _ ↦ done ]

pub no_ticket : (number : ℕ) (plan : List Planned) (o : Outcome) → ((t : Ticket) → o ≡ outcomes.Drawn t → ⊥) → ((r : Refusal) → o ≡ outcomes.Refused r → ⊥) → after_ticket number plan o ≡ done
no_ticket number plan (outcomes.Drawn t) drawn refused = absurd (drawn t refl)
no_ticket number plan (outcomes.Refused r) drawn refused = absurd (refused r refl)
no_ticket number plan _ drawn refused = refl

pub not_sealed : (number : ℕ) (r : Refusal) → (r ≡ refusal.Sealed → ⊥) → after_ticket number [] (outcomes.Refused r) ≡ done
not_sealed number refusal.Sealed not = absurd (not refl)
not_sealed number _ not = refl

-- what is left to serve begins with the ticket of the next member
pub served_left : (number : ℕ) (plan : List Planned) (i : ℕ) (x : Planned) → i < length plan → x ≡ get_or plan i x
    → served number (drop i plan) ≡ happened (event.Reserve number x.member) >>= after_ticket number (drop (i + 1) plan)
unfolding served
served_left number plan i x lt is = ap (served number) (first_left plan i x lt is)

-- and is the close at the end
pub served_over : (number : ℕ) (plan : List Planned) (i : ℕ) → length plan ≤ i → served number (drop i plan) ≡ single (event.LotClose number)
unfolding served
served_over number plan i le = ap (served number) (drop_all i plan le)
