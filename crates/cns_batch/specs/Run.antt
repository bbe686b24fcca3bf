-- What a script does, command by command.
use Rattle.std.specs.Prelude.{◌≡◌, ℕ, zero, suc, ◌+◌, List, [], ◌∷◌, Option, None, Some, option_map, take}
use Rattle.cns_batch.specs.declared.supply.Supply.{Supply}
use Rattle.cns_system.specs.declared.numbered.Opened.{Opened}
use Rattle.cns_input.specs.Script.{command_of}
use Rattle.cns_input.specs.Sections.{line_text, raw_lines}
use Rattle.cns_input.specs.declared.command.Command.{Command}
use Rattle.cns_input.specs.declared.command.Command.TheVariants as command
use Rattle.cns_batch.specs.Acts.{Act, Gives, ◌>>=◌, ◌>>◌}
use Rattle.cns_batch.specs.declared.lines.Commands.{Commands}
use Rattle.cns_batch.specs.Commands.{command_run, opened, served_if_open}

-- the number of a line, and its command
abbrev pub Numbered : Type 0
Numbered = ℕ × Command

-- the commands of lines, which are numbered from n on; a line that holds none is passed over
abbrev pub numbered_command : ℕ → Command → List Numbered → List Numbered
numbered_command n command.Skip rest = rest
numbered_command n c rest = (n, c) ∷ rest

unfoldable pub commands_of : ℕ → List (List ℕ) → List Numbered
commands_of n [] = []
commands_of n (l ∷ ls) = numbered_command n (command_of (line_text l)) (commands_of (n + 1) ls)

-- the commands of a script that are left to run
abbrev pub commands_left : Commands → List Numbered
commands_left c = commands_of c.number (raw_lines c.rest.now)

-- commands one after another beside the lot of a number, where one is served beside them
unfoldable pub all_run : (Opened → Act (Unit {0})) → Option ℕ → List Numbered → Supply → Act Supply
all_run serves busy [] s = Gives s
all_run serves busy (c ∷ cs) s = command_run serves busy c.0 c.1 s >>= all_run serves busy cs

-- BESIDE: a lot is opened, these commands run, and it is served where it was opened
unfoldable pub run_beside : (Opened → Act (Unit {0})) → ℕ → List Numbered → Supply → Act Supply
run_beside serves issue cs s = do
  lot ← opened issue
  left ← all_run serves (option_map (λ (lot : Opened). lot.number) lot) cs s
  served_if_open serves lot >> Gives left

-- a command of a script, before these others, and how many of them it runs: BESIDE runs some
abbrev pub first_run : (Opened → Act (Unit {0})) → Numbered → List Numbered → Supply → Act Supply
first_run serves c cs s = elim c.1 [ command.Beside issue count ↦ run_beside serves issue (take count cs) s | k ↦ command_run serves None c.0 k s ]

abbrev pub ran_beside : Command → ℕ
ran_beside (command.Beside issue count) = count
ran_beside _ = 0

-- the commands of a script one after another, but for the first so many, which ran beside a lot
unfoldable pub script_run : (Opened → Act (Unit {0})) → ℕ → List Numbered → Supply → Act Supply
script_run serves passed [] s = Gives s
script_run serves (suc passed) (c ∷ cs) s = script_run serves passed cs s
script_run serves zero (c ∷ cs) s = first_run serves c cs s >>= script_run serves (ran_beside c.1) cs

-- the next of some commands, where one is left, and those that are left after it
abbrev pub IsNextOf : Option Numbered → List Numbered → List Numbered → Type 0
IsNextOf None old new = (old ≡ []) × (new ≡ [])
IsNextOf (Some c) old new = old ≡ c ∷ new
