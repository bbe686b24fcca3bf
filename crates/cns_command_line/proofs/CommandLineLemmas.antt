-- The value that an argument of a subcommand was given.
use Rattle.std.proofs.Common.{rules, ◌≡◌, ◌∙◌, ◌||◌, ap, ap₂, subst, Bool, List, [], Option, Some, None, refl, option_map, unwrap_or, true, false}
use Rattle.std.proofs.lemmas.Option.{none-some}
use Rattle.clap.specs.Built.{AddsArg}
use Rattle.std.specs.declared.alloc.AllocError.{AllocError}
use Rattle.std.specs.Prelude.{IfOk, Result}
use Rattle.clap.specs.Words.{App, Row, Text, all_of, app_of, count_of, first_of, with_subcommand}
use Rattle.clap.specs.declared.builder.arg.Arg.{Arg}
use Rattle.clap.specs.declared.builder.command.Command.{Command}
use Rattle.clap.specs.declared.builder.command.Command.TheOpen.{Command-F}
use Rattle.clap.specs.declared.builder.command.Command.TheViews.{out-Command}
use Rattle.cns_command_line.specs.CommandLine.{AddsMade, all_in, has_globals, is_subcommand, times_in, value_in}

module _ {X : Type 0} (part : X → Text × List Row) (name id : Text) where
  -- where the words name the subcommand, it is among the subcommand's own matches
  pub value_of_named : (used : Option X) (rows : List Row)
      → option_map (λ x. (part x).0) used ≡ Some name → option_map (λ p. p.1) (option_map part used) ≡ Some rows
      → value_in name id (option_map part used) ≡ first_of id rows
  value_of_named None rows named e = absurd (none-some _ named)
  value_of_named (Some x) rows named e = search rules

  -- where they name another, or none, there is no value
  pub value_of_other : (used : Option X) → (option_map (λ x. (part x).0) used ≡ Some name → ⊥) → value_in name id (option_map part used) ≡ None
  value_of_other None other = refl
  value_of_other (Some x) other = search rules

  -- the same of all values, and whether the words name the subcommand
  pub all_of_named : (used : Option X) (rows : List Row)
      → option_map (λ x. (part x).0) used ≡ Some name → option_map (λ p. p.1) (option_map part used) ≡ Some rows
      → all_in name id (option_map part used) ≡ unwrap_or (all_of id rows) []
  all_of_named None rows named e = absurd (none-some _ named)
  all_of_named (Some x) rows named e = search rules

  pub all_of_other : (used : Option X) → (option_map (λ x. (part x).0) used ≡ Some name → ⊥) → all_in name id (option_map part used) ≡ []
  all_of_other None other = refl
  all_of_other (Some x) other = search rules

  pub times_of_named : (used : Option X) (rows : List Row)
      → option_map (λ x. (part x).0) used ≡ Some name → option_map (λ p. p.1) (option_map part used) ≡ Some rows
      → times_in name id (option_map part used) ≡ count_of id rows
  times_of_named None rows named e = absurd (none-some _ named)
  times_of_named (Some x) rows named e = search rules

  pub times_of_other : (used : Option X) → (option_map (λ x. (part x).0) used ≡ Some name → ⊥) → times_in name id (option_map part used) ≡ 0
  times_of_other None other = refl
  times_of_other (Some x) other = search rules

  pub asked_of_named : (used : Option X) → option_map (λ x. (part x).0) used ≡ Some name → is_subcommand name (option_map part used) ≡ true
  asked_of_named None named = absurd (none-some _ named)
  asked_of_named (Some x) named = search rules

  pub asked_of_other : (used : Option X) → (option_map (λ x. (part x).0) used ≡ Some name → ⊥) → is_subcommand name (option_map part used) ≡ false
  asked_of_other None other = refl
  asked_of_other (Some x) other = search rules

-- whether a command has a global argument
abbrev pub globals_of : Command-F Command → Bool
globals_of c = c.has_globals

-- it has none where one is added that is not
pub none_global : (old : Command) (a : Arg) (new : Command) → AddsArg old a new → (out-Command old).has_globals ≡ false → a.global ≡ false → (out-Command new).has_globals ≡ false
none_global old a new adds none own = adds.globals ∙ ap₂ (λ (x y : Bool). x || y) none own

-- what is no value is none
pub nothing_else : {A : Type 0} (o : Option A) → ((a : A) → o ≡ Some a → ⊥) → o ≡ None
nothing_else None not = refl
nothing_else (Some a) not = absurd (not a refl)

-- the app of a command that has a subcommand more
pub added : (old new : Command) (made : Result Command AllocError) (sub app : App)
    → app_of old ≡ app → IfOk made (λ s. (app_of s ≡ sub) × (has_globals s ≡ false)) → AddsMade old made new → app_of new ≡ with_subcommand app sub.top
added old new made sub app is gives (s, is_ok, adds) =
    let of_sub = subst (λ a. IfOk a (λ c. (app_of c ≡ sub) × (has_globals c ≡ false))) is_ok gives in
    adds.shape of_sub.1 ∙ ap₂ with_subcommand is (ap (λ (a : App). a.top) of_sub.0)
