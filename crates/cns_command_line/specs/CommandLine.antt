-- The command line, and what it asks for by what clap's definitions make of its words.
use Rattle.std.specs.Prelude.{◌≡◌, ◌⊎◌, ◌<◌, ◌^◌, ◌==◌, ◌&&◌, ◌||◌, ℕ, Bool, not, List, [], Option, Some, None, true, false, codes, is_some, length, map, option_map, string_bytes, unwrap_or, if◌then◌else◌, MatchBool, Result, Ok}
use Rattle.std.specs.declared.alloc.AllocError.{AllocError}
use Rattle.std.specs.Str.{bytes_eq}
use Rattle.std.specs.Str.Parse.{IsNumeral, digits_value, without_leading_plus}
use Rattle.clap.specs.Words.{AddsSubcommand, App, Row, Rule, Text, all_of, count_of, first_of, new_app, new_rule, with_rule, with_subcommand}
use Rattle.clap.specs.Lexer.{usize_max}
use Rattle.clap.specs.Simple.{on_top}
use Rattle.clap.specs.declared.builder.command.Command.{Command}
use Rattle.clap.specs.declared.builder.command.Command.TheViews.{out-Command}
use Rattle.std.specs.Option.{option_map_or}
use Rattle.clap.specs.declared.builder.action.ArgAction.TheVariants.{Append, Count, Set, SetTrue}
use Rattle.clap.specs.declared.builder.value_parser.ValueParser.TheVariants as vp
use Rattle.cns_command_line.specs.declared.request.Audit.{Audit}
use Rattle.cns_command_line.specs.declared.request.Audit.TheVariants as audit
use Rattle.cns_command_line.specs.declared.request.Folder.{Folder}
use Rattle.cns_command_line.specs.declared.request.Manner.{Manner}
use Rattle.cns_command_line.specs.declared.request.Names.{Names}
use Rattle.cns_command_line.specs.declared.request.Source.{Source}
use Rattle.cns_command_line.specs.declared.request.Source.TheVariants as source
use Rattle.cns_command_line.specs.declared.request.Request.{Request}
use Rattle.cns_command_line.specs.declared.request.Request.TheVariants as request

-- an argument that is named by its place, and a flag
abbrev pub required_rule : Text → Rule
required_rule id = record (new_rule id) { action = Some Set; value_names = 1; required = true }

abbrev pub flag_rule : Text → Rule
flag_rule id = record (new_rule id) { long = Some id; action = Some SetTrue }

-- run [--workers N] [--shake NUMBER] [--journal DIR] [--strict] [--progress].. [--intact]
abbrev pub workers_rule : Rule
workers_rule = record (new_rule (codes "workers")) { long = Some (codes "workers"); action = Some Set; value_names = 1; parser = Some (vp.Unsigned 0 64) }

abbrev pub shake_rule : Rule
shake_rule = record (new_rule (codes "shake")) { long = Some (codes "shake"); action = Some Set; value_names = 1; parser = Some (vp.Unsigned 0 18446744073709551615) }

abbrev pub journal_rule : Rule
journal_rule = record (new_rule (codes "journal")) { long = Some (codes "journal"); action = Some Set; value_names = 1 }

abbrev pub strict_rule : Rule
strict_rule = record (new_rule (codes "strict")) { long = Some (codes "strict"); action = Some SetTrue }

abbrev pub progress_rule : Rule
progress_rule = record (new_rule (codes "progress")) { long = Some (codes "progress"); action = Some Count }

-- [FILE] [--openings FILE] [--trades FILE].. [--script FILE]
abbrev pub file_rule : Rule
file_rule = record (new_rule (codes "file")) { action = Some Set; value_names = 1 }

abbrev pub openings_rule : Rule
openings_rule = record (new_rule (codes "openings")) { long = Some (codes "openings"); action = Some Set; value_names = 1 }

abbrev pub trades_rule : Rule
trades_rule = record (new_rule (codes "trades")) { long = Some (codes "trades"); action = Some Append; value_names = 1 }

abbrev pub script_rule : Rule
script_rule = record (new_rule (codes "script")) { long = Some (codes "script"); action = Some Set; value_names = 1 }

-- whether a command has a global argument
abbrev pub has_globals : Command → Bool
has_globals c = (out-Command c).has_globals

-- a command has one subcommand more, for which there was memory
abbrev pub AddsMade : Command → Result Command AllocError → Command → Type 0
AddsMade old made new = (sub : Command) × (made ≡ Ok sub) × AddsSubcommand old sub new

abbrev pub with_source : App → App
with_source app = with_rule (with_rule (with_rule (with_rule app file_rule) openings_rule) trades_rule) script_rule

abbrev pub run_app : App
run_app =
    with_source (with_rule (with_rule (with_rule (with_rule (with_rule (with_rule (new_app (codes "run")) workers_rule) shake_rule) journal_rule) strict_rule) progress_rule) (flag_rule (codes "intact")))

-- check [FILE] ..
abbrev pub check_app : App
check_app = with_source (new_app (codes "check"))

-- table [--last]
abbrev pub last_rule : Rule
last_rule = record (new_rule (codes "last")) { long = Some (codes "last"); action = Some SetTrue }

abbrev pub table_app : App
table_app = with_rule (new_app (codes "table")) last_rule

-- cusip TEXT..
abbrev pub text_rule : Rule
text_rule = record (new_rule (codes "text")) { action = Some Append; value_names = 1; required = true; range = Some (record { start_inclusive = 1; end_inclusive = usize_max }) }

abbrev pub cusip_app : App
cusip_app = with_rule (new_app (codes "cusip")) text_rule

-- journal WHAT PATH [--csv] [--verbose] [--openings FILE]
abbrev pub journal_app : App
journal_app =
    with_rule (with_rule (with_rule (with_rule (with_rule (new_app (codes "journal")) (required_rule (codes "what"))) (required_rule (codes "path"))) (flag_rule (codes "csv"))) (flag_rule (codes "verbose")))
    openings_rule

-- explain DIR MEMBER CUSIP [--openings FILE]
abbrev pub explain_app : App
explain_app =
    with_rule (with_rule (with_rule (with_rule (new_app (codes "explain")) (required_rule (codes "folder"))) (required_rule (codes "member"))) (required_rule (codes "issue"))) openings_rule

-- cnsd run, cnsd check, cnsd table, cnsd journal, cnsd explain and cnsd cusip
abbrev pub cnsd_app : App
cnsd_app =
    let top = on_top (λ s. record s { has_version = true; subcommand_required = true; arg_required_else_help = true }) (new_app (codes "cnsd")) in
    with_subcommand (with_subcommand (with_subcommand (with_subcommand (with_subcommand (with_subcommand top run_app.top) check_app.top) table_app.top) journal_app.top) explain_app.top) cusip_app.top

-- the first value of an argument of a subcommand, where the words name that one
abbrev pub value_in : Text → Text → Option (Text × List Row) → Option Text
value_in subcommand id None = None
value_in subcommand id (Some used) = if bytes_eq used.0 subcommand then first_of id used.1 else None

-- the number that a text is, and 0 where there is none or it is no number
abbrev pub IsNumber : Text → Type 0
IsNumber t = IsNumeral 10 (without_leading_plus t) × (digits_value 10 (without_leading_plus t) < 2 ^ 64)

abbrev pub IsCountIn : Option Text → ℕ → Type 0
IsCountIn None n = n ≡ 0
IsCountIn (Some t) n = (IsNumber t × (n ≡ digits_value 10 (without_leading_plus t))) ⊎ ((IsNumber t → ⊥) × (n ≡ 0))

-- the same where there is a text, and none where there is none
abbrev pub IsShakeIn : Option Text → Option ℕ → Type 0
IsShakeIn None shake = shake ≡ None
IsShakeIn (Some t) shake = (n : ℕ) × (shake ≡ Some n) × IsCountIn (Some t) n

-- all values of an argument of a subcommand, where the words name that one
abbrev pub all_in : Text → Text → Option (Text × List Row) → List Text
all_in subcommand id None = []
all_in subcommand id (Some used) = if bytes_eq used.0 subcommand then unwrap_or (all_of id used.1) [] else []

-- whether a flag of a subcommand is set, and how often one was given, where the words name that one
abbrev pub is_set : Text → Text → Option (Text × List Row) → Bool
is_set subcommand id used = option_map_or (λ t. bytes_eq t (codes "true")) (value_in subcommand id used) false

abbrev pub times_in : Text → Text → Option (Text × List Row) → ℕ
times_in subcommand id None = 0
times_in subcommand id (Some used) = if bytes_eq used.0 subcommand then count_of id used.1 else 0

-- whether the words name a subcommand
abbrev pub is_subcommand : Text → Option (Text × List Row) → Bool
is_subcommand subcommand used = option_map_or (λ (u : Text × List Row). bytes_eq u.0 subcommand) used false

-- the names of the files of which a subcommand's text is made
abbrev pub AreNamesIn : Text → Option (Text × List Row) → Names → Type 0
AreNamesIn subcommand used names = (option_map string_bytes names.openings ≡ value_in subcommand (codes "openings") used)
    × (map string_bytes names.trades.items ≡ all_in subcommand (codes "trades") used)
    × (option_map string_bytes names.script ≡ value_in subcommand (codes "script") used)

abbrev pub names_any : Names → Bool
names_any names = is_some names.openings || (not (length names.trades.items == 0) || is_some names.script)

-- where a text comes from, by the input and the files that are named: the files that make it, where there are some, and else the input, or
-- standard input where none is named; None where both are
abbrev pub IsSourceOf : Option Text → Names → Option Source → Type 0
IsSourceOf None names (Some (source.Named named)) = (named ≡ names) × (names_any names ≡ true)
IsSourceOf None names (Some source.Standard) = names_any names ≡ false
IsSourceOf (Some file) names (Some (source.File name)) = (string_bytes name ≡ file) × (names_any names ≡ false)
IsSourceOf (Some file) names None = names_any names ≡ true
IsSourceOf _ names _ = ⊥

-- where the text of a subcommand comes from
unfoldable pub IsSourceIn : Text → Option (Text × List Row) → Option Source → Type 0
IsSourceIn subcommand used source = (names : Names) × AreNamesIn subcommand used names × IsSourceOf (value_in subcommand (codes "file") used) names source

-- how a batch is run: by so many workers, shaken by a number where the words give one, over the journals in a folder where they give one,
-- strictly where they say so, with as much told of how far it is as they ask for, and over intact journals alone where they ask for that
unfoldable pub IsMannerIn : Option (Text × List Row) → Manner → Type 0
IsMannerIn used manner = (option_map string_bytes manner.journal ≡ value_in (codes "run") (codes "journal") used)
    × IsCountIn (value_in (codes "run") (codes "workers") used) manner.workers
    × IsShakeIn (value_in (codes "run") (codes "shake") used) manner.shake
    × (manner.strict ≡ is_set (codes "run") (codes "strict") used)
    × (manner.progress ≡ times_in (codes "run") (codes "progress") used)
    × (manner.intact ≡ is_set (codes "run") (codes "intact") used)

-- the folder of journals that is named, with the file of openings where one is
abbrev pub required_in : Text → Text → Option (Text × List Row) → Text
required_in subcommand id used = unwrap_or (value_in subcommand id used) []

abbrev pub IsFolderIn : Text → Text → Option (Text × List Row) → Folder → Type 0
IsFolderIn subcommand id used folder =
    (string_bytes folder.name ≡ required_in subcommand id used) × (option_map string_bytes folder.openings ≡ value_in subcommand (codes "openings") used)

-- what the words of journal ask for: a dump, without an option of a check; or a check, without that of a dump
abbrev pub asks_dump : Option (Text × List Row) → Bool
asks_dump used =
    bytes_eq (required_in (codes "journal") (codes "what") used) (codes "dump") && not (is_set (codes "journal") (codes "verbose") used)
    && not (is_some (value_in (codes "journal") (codes "openings") used))

abbrev pub asks_check : Option (Text × List Row) → Bool
asks_check used = bytes_eq (required_in (codes "journal") (codes "what") used) (codes "check") && not (is_set (codes "journal") (codes "csv") used)

unfoldable pub AsksForJournal : Option (Text × List Row) → Option Request → Type 0
AsksForJournal used (Some (request.Audit (audit.Dump file csv))) =
    (asks_dump used ≡ true) × (string_bytes file ≡ required_in (codes "journal") (codes "path") used) × (csv ≡ is_set (codes "journal") (codes "csv") used)
AsksForJournal used (Some (request.Audit (audit.Check folder verbose))) =
    (asks_dump used ≡ false) × (asks_check used ≡ true) × IsFolderIn (codes "journal") (codes "path") used folder × (verbose ≡ is_set (codes "journal") (codes "verbose") used)
AsksForJournal used None = (asks_dump used ≡ false) × (asks_check used ≡ false)
AsksForJournal used _ = ⊥

-- what the words of explain ask for
unfoldable pub AsksForExplanation : Option (Text × List Row) → Option Request → Type 0
AsksForExplanation used (Some (request.Audit (audit.Explain folder member issue))) =
    IsFolderIn (codes "explain") (codes "folder") used folder × (string_bytes member ≡ required_in (codes "explain") (codes "member") used)
    × (string_bytes issue ≡ required_in (codes "explain") (codes "issue") used)
AsksForExplanation used _ = ⊥

-- what the words of cusip ask for, and those of table
unfoldable pub AsksForTexts : Option (Text × List Row) → Option Request → Type 0
AsksForTexts used (Some (request.Cusips texts)) = map string_bytes texts.items ≡ all_in (codes "cusip") (codes "text") used
AsksForTexts used _ = ⊥

unfoldable pub AsksForTable : Option (Text × List Row) → Option Request → Type 0
AsksForTable used (Some (request.Table last)) = last ≡ is_set (codes "table") (codes "last") used
AsksForTable used _ = ⊥

-- what the words of check ask for, and those of run; None where they name an input and files that make one
unfoldable pub AsksForCheck : Option (Text × List Row) → Option Request → Type 0
AsksForCheck used (Some (request.Check source)) = IsSourceIn (codes "check") used (Some source)
AsksForCheck used None = IsSourceIn (codes "check") used None
AsksForCheck used _ = ⊥

unfoldable pub AsksForBatch : Option (Text × List Row) → Option Request → Type 0
AsksForBatch used (Some (request.Run source manner)) = IsSourceIn (codes "run") used (Some source) × IsMannerIn used manner
AsksForBatch used None = IsSourceIn (codes "run") used None
AsksForBatch used _ = ⊥

-- what is asked for: whether texts are CUSIPs, where the words give some; what is wrong with a text, where they ask for a check; the reports of
-- a run, where they ask for a table; what journals hold, where they ask for these or for an explanation; and else a batch
unfoldable pub AsksFor : Option (Text × List Row) → Option Request → Type 0
AsksFor used asked =
    MatchBool (is_some (value_in (codes "cusip") (codes "text") used)) (AsksForTexts used asked)
    (MatchBool (is_subcommand (codes "check") used) (AsksForCheck used asked)
    (MatchBool (is_subcommand (codes "table") used) (AsksForTable used asked)
    (MatchBool (is_subcommand (codes "journal") used) (AsksForJournal used asked)
    (MatchBool (is_subcommand (codes "explain") used) (AsksForExplanation used asked) (AsksForBatch used asked)))))
