-- A script, one command after another.
use Rattle.std.proofs.Common.{◌≡◌, ◌≤◌, ◌<◌, ◌+◌, ◌-◌, ◌==◌, ℕ, false, suc, zero, List, [], ◌∷◌, length, take, drop, Option, Some, None, Result, Ok, Err, refl, sym, ap, ◌∙◌, arith}
use Rattle.std.proofs.Math.Seq.{drop-nil, take-nil}
use Rattle.std.proofs.lemmas.List.{drop-drop}
use Rattle.std.specs.Prelude.{option_map}
use Rattle.cns_batch.specs.declared.supply.Supply.{Supply}
use Rattle.cns_system.specs.declared.floor.Begun.{Begun}
use Rattle.cns_system.specs.declared.numbered.Opened.{Opened}
use Rattle.cns_input.specs.Script.{command_of}
use Rattle.cns_input.specs.Sections.{line_size, line_text, raw_lines}
use Rattle.cns_input.specs.declared.command.Command.{Command}
use Rattle.cns_input.specs.declared.command.Command.TheVariants as command
use Rattle.cns_input.proofs.SectionLemmas.{lines_step}
use Rattle.cns_batch.specs.Acts.{Act, Gives, ◌>>=◌, ◌>>◌}
use Rattle.cns_batch.specs.Commands.{command_run, opened, plain_run, served_if_open}
use Rattle.cns_batch.specs.Run.{Numbered, all_run, commands_of, first_run, numbered_command, ran_beside, run_beside, script_run}
use Rattle.cns_batch.specs.Runs.{Continues, Exchange, Place, Runs, Stops, leaves}
use Rattle.cns_batch.proofs.ActLemmas.{continues_more, followed_gives, stops_after, stops_followed}

-- ---- the commands of lines

-- those of lines that are not empty, by the first
pub line_read : (n size : ℕ) (xs line rest : List ℕ) (c : Command) → (length xs == 0) ≡ false → size ≡ line_size xs → line ≡ take size xs → rest ≡ drop size xs → c ≡ command_of (line_text line)
    → commands_of n (raw_lines xs) ≡ numbered_command n c (commands_of (n + 1) (raw_lines rest))
unfolding commands_of
line_read n size [] line rest c some is front back text = absurd (cc some)
line_read n size (x ∷ xs) line rest c some is front back text = ap (commands_of n) (lines_step x xs) ∙ rw (text, front, back, is) refl

-- a line that is not passed over is the next command
pub line_held : (n : ℕ) (c : Command) (rest : List Numbered) → (c ≡ command.Skip → ⊥) → numbered_command n c rest ≡ (n, c) ∷ rest
line_held n command.Skip rest not = absurd (not refl)
line_held n _ rest not = refl

-- no line is left
pub no_lines : (n : ℕ) (xs : List ℕ) → length xs ≡ 0 → commands_of n (raw_lines xs) ≡ []
unfolding commands_of raw_lines
no_lines n [] none = refl
no_lines n (x ∷ xs) none = absurd (omega (arith, none))

-- ---- so many of the next commands

abbrev pub ServesBy : Type 0
ServesBy = Opened → Act (Unit {0})

-- what is left to run begins with the first command
pub run_first_left : (serves : ServesBy) (busy : Option ℕ) (n i : ℕ) (c : Numbered) (old new : List Numbered) (s : Supply) → i < n → old ≡ c ∷ new
    → all_run serves busy (take (n - i) old) s ≡ command_run serves busy c.0 c.1 s >>= all_run serves busy (take (n - (i + 1)) new)
unfolding all_run
run_first_left serves busy n i c old new s lt is = let one : n - i ≡ suc (n - (i + 1)) = omega (arith, lt) in rw (is, one) refl

-- where no command is left, nothing is left to run
pub none_run : (serves : ServesBy) (busy : Option ℕ) (n : ℕ) (old : List Numbered) (s : Supply) → old ≡ [] → all_run serves busy (take n old) s ≡ Gives s
unfolding all_run
none_run serves busy n old s none = rw (none, take-nil n) refl

-- nor where so many ran
pub all_ran : (serves : ServesBy) (busy : Option ℕ) (n i : ℕ) (old : List Numbered) (s : Supply) → n ≤ i → all_run serves busy (take (n - i) old) s ≡ Gives s
unfolding all_run
all_ran serves busy n i old s le = let none : n - i ≡ 0 = omega (arith, le) in rw none refl

-- what is left of some commands
pub left_next : {A : Type 0} (i : ℕ) (c : A) (first old new : List A) → old ≡ drop i first → old ≡ c ∷ new → new ≡ drop (i + 1) first
left_next i c first old new is next = ap (drop 1) (sym next ∙ is) ∙ drop-drop 1 i first

pub left_none : {A : Type 0} (i n : ℕ) (first old new : List A) → i ≤ n → old ≡ drop i first → old ≡ [] → new ≡ [] → new ≡ drop n first
left_none i n first old new le is none new_none =
    let all : i + (n - i) ≡ n = omega (arith, le) in
    new_none ∙ sym (drop-nil (n - i)) ∙ ap (drop (n - i)) (sym none ∙ is) ∙ drop-drop (n - i) i first ∙ ap (λ k. drop k first) all

-- so many commands have run
pub left_done : {A : Type 0} (i n : ℕ) (first old : List A) → i ≤ n → n ≤ i → old ≡ drop i first → old ≡ drop n first
left_done i n first old le ge is = let same : i ≡ n = omega (arith, le, ge) in rw (← same) is

-- a command that serves no lot
pub plain_is : (serves : ServesBy) (busy : Option ℕ) (n : ℕ) (c : Command) (s : Supply) → ((issue : ℕ) → c ≡ command.Allocate issue → ⊥) → command_run serves busy n c s ≡ plain_run busy n c s
plain_is serves busy n (command.Allocate issue) s not = absurd (not issue refl)
plain_is serves busy n _ s not = refl

-- ---- a script

-- the first so many commands are passed over
pub passed_over : (serves : ServesBy) (n : ℕ) (cs : List Numbered) (s : Supply) → script_run serves n cs s ≡ script_run serves 0 (drop n cs) s
unfolding script_run
passed_over serves zero cs s = refl
passed_over serves (suc n) [] s = refl
passed_over serves (suc n) (c ∷ cs) s = passed_over serves n cs s

-- what is left of it begins with the first command
pub script_first : (serves : ServesBy) (c : Numbered) (old new : List Numbered) (s : Supply) → old ≡ c ∷ new
    → script_run serves 0 old s ≡ first_run serves c new s >>= script_run serves (ran_beside c.1) new
unfolding script_run
script_first serves c old new s is = rw is refl

-- and nothing is left where no command is
pub script_over : (serves : ServesBy) (old : List Numbered) (s : Supply) → old ≡ [] → script_run serves 0 old s ≡ Gives s
unfolding script_run
script_over serves old s none = rw none refl

-- ---- a lot beside commands

abbrev number_in : Option Opened → Option ℕ
number_in = option_map (λ (lot : Opened). lot.number)

-- the commands ran, and the lot is to be served
pub beside_ran : {N : Type 0} {leads : Exchange → N → N → Type 0} {lot : Option Opened} {left : Supply} {p q r : Place N} (serves : ServesBy) (issue : ℕ) (cs : List Numbered) (s : Supply)
    → Continues leads (opened issue) (Gives lot) p q → Continues leads (all_run serves (number_in lot) cs s) (Gives left) q r
    → Continues leads (run_beside serves issue cs s) (served_if_open serves lot >> Gives left) p r
unfolding run_beside
beside_ran serves issue cs s one two = continues_more (followed_gives _ one) (followed_gives _ two)

-- the commands end in a fault
pub beside_stops : {N : Type 0} {leads : Exchange → N → N → Type 0} {lot : Option Opened} {p q r : Place N} (serves : ServesBy) (issue : ℕ) (cs : List Numbered) (s : Supply)
    → Continues leads (opened issue) (Gives lot) p q → Stops leads (all_run serves (number_in lot) cs s) q r → Stops leads (run_beside serves issue cs s) p r
unfolding run_beside
beside_stops serves issue cs s one stop = stops_after (followed_gives _ one) (stops_followed _ stop)

-- no lot was opened
pub beside_none_runs : {E N : Type 0} (leads : Exchange → N → N → Type 0) (serves : ServesBy) (issue : ℕ) (cs : List Numbered) (s left : Supply) (result : Result (Unit {0}) E) (p q r : Place N)
    → Continues leads (opened issue) (Gives None) p q → Runs leads (all_run serves None cs s) (leaves result left) q r → Runs leads (run_beside serves issue cs s) (leaves result left) p r
unfolding ◌>>=◌
beside_none_runs leads serves issue cs s left (Ok u) p q r one two = beside_ran serves issue cs s one two
beside_none_runs leads serves issue cs s left (Err e) p q r one stop = beside_stops serves issue cs s one stop

pub not_begun : (found : Option Begun) → ((begun : Begun) → found ≡ Some begun → ⊥) → found ≡ None
not_begun None not = refl
not_begun (Some begun) not = absurd (not begun refl)
