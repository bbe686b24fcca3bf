-- Acts that come to pass one after another, and what is written of their text.
use Rattle.std.proofs.Common.{◌≡◌, ◌<◌, ◌≤◌, ℕ, ◌+◌, get_or, List, [], ◌∷◌, ◌++◌, length, drop, Result, Ok, Err, refl, sym, ap, ◌∙◌, append_assoc}
use Rattle.std.proofs.lemmas.List.{append-nil, drop_all}
use Rattle.std.specs.Result.{IsErr}
use Rattle.cns_system.specs.declared.event.Event.{Event}
use Rattle.cns_system.specs.declared.outcome.Outcome.{Outcome}
use Rattle.cns_report.specs.Outcomes.{outcome_line}
use Rattle.cns_batch.specs.Acts.{Act, Draws, Gives, Lets, Looks, Plans, Tells, ◌>>=◌, ◌>>◌, done, each, happened, single, tells}
use Rattle.cns_batch.specs.Runs.{BreaksOff, Came, Continues, Exchange, ActLeaves, IsLed, IsNextExchange, Leads, Place, Prints, Runs, Stops, Told, Writes, leaves, output_at, text_in, text_said}
use Rattle.cns_batch.proofs.PrintLemmas.{breaks_after, breaks_here, first_left, prints_nothing, writes_more}

-- ---- exchanges

pub text_more : (said more : List Exchange) → text_said (said ++ more) ≡ text_said said ++ text_said more
text_more [] more = refl
text_more (x ∷ said) more = ap (λ l. text_in x ++ l) (text_more said more) ∙ sym (append_assoc (text_in x) (text_said said) (text_said more))

pub follows_more : {A : Type 0} (a b d : Act A) (said more : List Exchange) → ActLeaves a said b → ActLeaves b more d → ActLeaves a (said ++ more) d
follows_more a b d [] more one two = rw one at two
follows_more a b d (x ∷ said) more (next, is, one) two = (next, is, follows_more next b d said more one two)

pub led_more : {N : Type 0} (leads : Exchange → N → N → Type 0) (p q r : N) (said more : List Exchange) → IsLed leads said p q → IsLed leads more q r → IsLed leads (said ++ more) p r
led_more leads p q r [] more one two = rw one at two
led_more leads p q r (x ∷ said) more (between, is, one) two = (between, is, led_more leads between q r said more one two)

-- an act, and then another one
next_followed : {A B : Type 0} (x : Exchange) (a left : Act A) (next : A → Act B) → IsNextExchange x a left → IsNextExchange x (a >>= next) (left >>= next)
unfolding ◌>>=◌
next_followed x (Gives v) left next is = absurd is
next_followed x (Tells text a) left next (is, same) = (is, ap (λ l. l >>= next) same)
next_followed x (Lets e a) left next (o, is, same) = (o, is, ap (λ l. l >>= next) same)
next_followed x (Plans name stands a) left next (planned, is, same) = (planned, is, ap (λ l. l >>= next) same)
next_followed x (Looks a) left next (w, is, same) = (w, is, ap (λ l. l >>= next) same)
next_followed x (Draws lot a) left next (haul, is, same) = (haul, is, ap (λ l. l >>= next) same)

pub bind_follows : {A B : Type 0} (a left : Act A) (next : A → Act B) (said : List Exchange) → ActLeaves a said left → ActLeaves (a >>= next) said (left >>= next)
bind_follows a left next [] same = ap (λ l. l >>= next) same
bind_follows a left next (x ∷ said) (first, is, rest) = (first >>= next, next_followed x a first next is, bind_follows first left next said rest)

-- ---- acts

-- nothing is done
pub continues_here : {A N : Type 0} {leads : Exchange → N → N → Type 0} {act : Act A} {p : Place N} → Continues leads act act p p
continues_here {p = p} = record { said = []; follows = refl; led = refl; writes = prints_nothing (output_at p) }

-- an act that has come so far comes further, or stops
pub continues_more : {A N : Type 0} {leads : Exchange → N → N → Type 0} {a b d : Act A} {p q r : Place N} → Continues leads a b p q → Continues leads b d q r → Continues leads a d p r
continues_more {leads = leads} {a = a} {b = b} {d = d} {p = p} {q = q} {r = r} one two = record {
  said = one.said ++ two.said;
  follows = follows_more a b d one.said two.said one.follows two.follows;
  led = led_more leads p.nodes q.nodes r.nodes one.said two.said one.led two.led;
  writes = rw (text_more one.said two.said) (writes_more (output_at p) (output_at q) (output_at r) (text_said one.said) (text_said two.said) one.writes two.writes);
}

pub stops_after : {A N : Type 0} {leads : Exchange → N → N → Type 0} {a b : Act A} {p q r : Place N} → Continues leads a b p q → Stops leads b q r → Stops leads a p r
stops_after {leads = leads} {a = a} {b = b} {p = p} {q = q} {r = r} one stop = record {
  said = one.said ++ stop.said;
  left = stop.left;
  follows = follows_more a b stop.left one.said stop.said one.follows stop.follows;
  led = led_more leads p.nodes q.nodes r.nodes one.said stop.said one.led stop.led;
  writes = rw (text_more one.said stop.said) (breaks_after (output_at p) (output_at q) r.sent (text_said one.said) (text_said stop.said) one.writes stop.writes);
}

pub runs_after : {A E N : Type 0} {leads : Exchange → N → N → Type 0} {a b : Act A} {p q : Place N} (result : Result A E) (r : Place N) → Continues leads a b p q → Runs leads b result q r
    → Runs leads a result p r
runs_after (Ok v) r one two = continues_more one two
runs_after (Err e) r one stop = stops_after one stop

-- the first of two acts gives what the next one goes by, or stops
pub followed_gives : {A B N : Type 0} {leads : Exchange → N → N → Type 0} {a : Act A} {v : A} {p q : Place N} (next : A → Act B) → Continues leads a (Gives v) p q → Continues leads (a >>= next) (next v) p q
unfolding ◌>>=◌
followed_gives {a = a} {v = v} next one = record { said = one.said; follows = bind_follows a (Gives v) next one.said one.follows; led = one.led; writes = one.writes }

pub stops_followed : {A B N : Type 0} {leads : Exchange → N → N → Type 0} {a : Act A} {p q : Place N} (next : A → Act B) → Stops leads a p q → Stops leads (a >>= next) p q
stops_followed {a = a} next stop =
    record { said = stop.said; left = stop.left >>= next; follows = bind_follows a stop.left next stop.said stop.follows; led = stop.led; writes = stop.writes }

pub runs_followed : {A B E N : Type 0} {leads : Exchange → N → N → Type 0} {a : Act A} {v : A} {p q : Place N} (next : A → Act B) (result : Result B E) (r : Place N)
    → Continues leads a (Gives v) p q → Runs leads (next v) result q r → Runs leads (a >>= next) result p r
runs_followed next result r one two = runs_after result r (followed_gives next one) two

-- where two acts are left, the first of them gives what the next one goes by, or stops
pub step_gives : {A B N : Type 0} {leads : Exchange → N → N → Type 0} {all left : Act B} {a : Act A} {v : A} {p q r : Place N} (next : A → Act B) → left ≡ a >>= next → Continues leads all left p q
    → Continues leads a (Gives v) q r → Continues leads all (next v) p r
step_gives next is so one = continues_more (rw is at so) (followed_gives next one)

pub step_stops : {A B N : Type 0} {leads : Exchange → N → N → Type 0} {all left : Act B} {a : Act A} {p q r : Place N} (next : A → Act B) → left ≡ a >>= next → Continues leads all left p q
    → Stops leads a q r → Stops leads all p r
step_stops next is so stop = stops_after (rw is at so) (stops_followed next stop)

-- nothing was written, and nothing was asked
pub stops_here : {A N : Type 0} {leads : Exchange → N → N → Type 0} {a : Act A} {p q : Place N} → q.sent ≡ p.sent → q.nodes ≡ p.nodes → Stops leads a p q
stops_here {a = a} {p = p} same nodes = record { said = []; left = a; follows = refl; led = nodes; writes = rw same (breaks_here [] (output_at p)) }

-- a call that answers a fault stops
pub runs_fault : {A E N : Type 0} {leads : Exchange → N → N → Type 0} {act : Act A} {p q : Place N} (result : Result A E) → IsErr result → Stops leads act p q → Runs leads act result p q
runs_fault (Ok v) is stop = absurd (cc is)
runs_fault (Err e) is stop = stop

pub leaves_fault : {A E N : Type 0} {leads : Exchange → N → N → Type 0} {act : Act A} {p q : Place N} (result : Result (Unit {0}) E) (a : A) → IsErr result → Stops leads act p q
    → Runs leads act (leaves result a) p q
leaves_fault (Ok u) a is stop = absurd (cc is)
leaves_fault (Err e) a is stop = stop

-- nothing else is left behind
pub leaving_runs : {A E N : Type 0} (leads : Exchange → N → N → Type 0) (act : Act (Unit {0})) (a : A) (result : Result (Unit {0}) E) (p q : Place N) → Runs leads act result p q
    → Runs leads (act >> Gives a) (leaves result a) p q
leaving_runs leads act a (Ok u) p q one = followed_gives (λ _. Gives a) one
leaving_runs leads act a (Err e) p q stop = stops_followed (λ _. Gives a) stop

-- ---- single exchanges

-- an exchange that tells nothing comes next
pub asks : {A N : Type 0} {leads : Exchange → N → N → Type 0} {act left : Act A} {p : Place N} {new : N} (x : Exchange) → IsNextExchange x act left → text_in x ≡ [] → Leads leads x p.nodes new
    → Continues leads act left p (record p { nodes = new })
asks {left = left} {p = p} {new = new} x next none leads =
    record { said = x ∷ []; follows = (left, next, refl); led = (new, leads, refl); writes = rw none (prints_nothing (output_at p)) }

-- a text is told next, or a first part of it, and nothing else changed
tells_on : {A N : Type 0} {leads : Exchange → N → N → Type 0} {left : Act A} {p q : Place N} (text : List ℕ) → Writes text (output_at p) (output_at q) → q.nodes ≡ p.nodes
    → Continues leads (Tells text left) left p q
tells_on {left = left} {p = p} text writes same =
    record { said = Told text ∷ []; follows = (left, (refl, refl), refl); led = (p.nodes, refl, same); writes = rw (append-nil text) writes }

tells_in_part : {A N : Type 0} {leads : Exchange → N → N → Type 0} {left : Act A} {p q : Place N} (text : List ℕ) → BreaksOff text (output_at p) q.sent → q.nodes ≡ p.nodes
    → Stops leads (Tells text left) p q
tells_in_part {left = left} {p = p} text breaks same =
    record { said = Told text ∷ []; left = left; follows = (left, (refl, refl), refl); led = (p.nodes, refl, same); writes = rw (append-nil text) breaks }

pub prints_runs : {E N : Type 0} (leads : Exchange → N → N → Type 0) (text : List ℕ) (result : Result (Unit {0}) E) (p q : Place N) → Prints text result (output_at p) (output_at q)
    → q.nodes ≡ p.nodes → Runs leads (tells text) result p q
prints_runs leads text (Ok u) p q writes same = tells_on text writes same
prints_runs leads text (Err e) p q breaks same = tells_in_part text breaks same

-- an event happens before its line is told
came : {A N : Type 0} {leads : Exchange → N → N → Type 0} {p : Place N} {new : N} (e : Event) (o : Outcome) (next : Outcome → Act A) → leads (Came e o) p.nodes new
    → Continues leads (Lets e next) (next o) p (record p { nodes = new })
came e o next come = asks (Came e o) (o, refl, refl) refl come

pub told_event : {N : Type 0} {leads : Exchange → N → N → Type 0} {p q : Place N} (e : Event) (o : Outcome) → leads (Came e o) p.nodes q.nodes
    → Writes (outcome_line e o) (output_at p) (output_at q) → Continues leads (happened e) (Gives o) p q
told_event e o come writes = continues_more (came e o (λ (o : Outcome). Tells (outcome_line e o) (Gives o)) come) (tells_on (outcome_line e o) writes refl)

pub half_told_event : {N : Type 0} {leads : Exchange → N → N → Type 0} {p q : Place N} (e : Event) (o : Outcome) → leads (Came e o) p.nodes q.nodes
    → BreaksOff (outcome_line e o) (output_at p) q.sent → Stops leads (happened e) p q
half_told_event e o come breaks = stops_after (came e o (λ (o : Outcome). Tells (outcome_line e o) (Gives o)) come) (tells_in_part (outcome_line e o) breaks refl)

pub single_runs : {E N : Type 0} (leads : Exchange → N → N → Type 0) (e : Event) (o : Outcome) (result : Result (Unit {0}) E) (p q : Place N) → leads (Came e o) p.nodes q.nodes
    → Prints (outcome_line e o) result (output_at p) (output_at q) → Runs leads (single e) result p q
single_runs leads e o result p q come prints =
    runs_after result q (came e o (λ (o : Outcome). tells (outcome_line e o)) come) (prints_runs leads (outcome_line e o) result (record p { nodes = q.nodes }) q prints refl)

-- ---- acts for each of a list

-- what is left of them begins with the next one
pub each_left : {A : Type 0} (act : A → Act (Unit {0})) (xs : List A) (i : ℕ) (x : A) → i < length xs → x ≡ get_or xs i x → each act (drop i xs) ≡ act x >> each act (drop (i + 1) xs)
unfolding each
each_left act xs i x lt is = ap (each act) (first_left xs i x lt is)

-- and nothing is left of them at the end
pub each_over : {A : Type 0} (act : A → Act (Unit {0})) (xs : List A) (i : ℕ) → length xs ≤ i → each act (drop i xs) ≡ done
unfolding each
each_over act xs i le = ap (each act) (drop_all i xs le)

-- ---- what was told is written

pub flushes : {A E N : Type 0} (leads : Exchange → N → N → Type 0) (a : A) (result : Result (Unit {0}) E) (p q : Place N) → Prints [] result (output_at p) (output_at q)
    → q.nodes ≡ p.nodes → Runs leads (Gives a) (leaves result a) p q
flushes leads a (Ok u) p q writes same = record { said = []; follows = refl; led = same; writes = writes }
flushes leads a (Err e) p q breaks same = record { said = []; left = Gives a; follows = refl; led = same; writes = breaks }
