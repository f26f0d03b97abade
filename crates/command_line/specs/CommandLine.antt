-- The program's command as clap's definition, and what clap's matches for the words say.
use Rattle.std.specs.Prelude.{◌≡◌, ◌≢◌, ◌==◌, ◌⊎◌, ◌<◌, ◌^◌, ◌&&◌, ◌||◌, ⊤, Bool, nat_le, count_by, unwrap_or, true, false, not, codes, ℕ, List, [], ◌∷◌, Option, Some, None, is_some, option_map, if◌then◌else◌}
use Rattle.std.specs.Str.Parse.{IsNumeral, digits_value, without_leading_plus}
use Rattle.std.specs.Borrow.{Bor}
use Rattle.std.specs.List.{fold}
use Rattle.std.specs.Option.{option_or}
use Rattle.std.specs.Str.{bytes_eq}
use Rattle.clap.specs.Words.{App, Kinds, Row, Rule, Text, all_of, app_of, rule_of, first_of, matches_of, new_app, new_rule, with_rule, with_subcommand, subcommand_of, takes, fault_of, IsAmong}
use Rattle.clap.specs.Simple.{on_top}
use Rattle.clap.specs.Walk.{texts}
use Rattle.clap.specs.declared.builder.arg.Arg.{Arg}
use Rattle.clap.specs.declared.builder.command.Command.{Command}
use Rattle.clap.specs.declared.builder.command.Command.TheViews.{out-Command}
use Rattle.clap.specs.declared.builder.action.ArgAction.TheVariants as action
use Rattle.clap.specs.declared.builder.value_parser.ValueParser.TheVariants.{Unsigned}
use Rattle.clap.specs.declared.error.kind.ErrorKind.{ErrorKind}
use Rattle.clap.specs.declared.error.kind.ErrorKind.TheVariants.{DisplayHelp, DisplayVersion, OutOfMemory}
use Rattle.command_line.specs.declared.arguments.Job.{Job}
use Rattle.command_line.specs.declared.arguments.Job.TheVariants.{Check, Trace, Threads, Migrate, Why, Audit, Ever, Never, Draft, How, Policy, Explore, Tree, New, Marks, Record, Import}
use Rattle.command_line.specs.declared.arguments.LineFault.{LineFault}
use Rattle.command_line.specs.declared.arguments.LineFault.TheVariants.{Help, Refused, Conflict, Memory}
use Rattle.command_line.specs.declared.arguments.Options.{Options}
use Rattle.command_line.specs.declared.table.CommandRow.{CommandRow}
use Rattle.command_line.specs.declared.table.OptionRow.{OptionRow}
use Rattle.command_line.specs.declared.table.Files.{Files}
use Rattle.command_line.specs.declared.table.Files.TheVariants.{AfterPolicy, AfterThreads, One, Several, Zero}
use Rattle.command_line.specs.declared.table.Takes.{Takes}
use Rattle.command_line.specs.declared.table.Takes.TheVariants.{Nothing, Number, Text as TakesText}

-- an argument that has that rule, and which subcommands do not take over
abbrev pub IsArgument : Rule → Arg → Type 0
IsArgument rule argument = (rule_of argument ≡ rule) × (argument.global ≡ false)

-- a command that has that definition, and no arguments that subcommands take over
abbrev pub IsCommand : App → Command → Type 0
IsCommand app c = (app_of c ≡ app) × ((out-Command c).has_globals ≡ false)

-- the argument FILE
abbrev pub file_rule : Rule
file_rule = new_rule (codes "FILE")

-- a command that has a version, for which clap adds `--version` and `-V`
abbrev pub with_version : App → App
with_version = on_top (λ s. record s { has_version = true })

-- the argument FILES behind FILE, of which each use takes one more
abbrev pub more_files_rule : Rule
more_files_rule = record (new_rule (codes "FILES")) { action = Some action.Append }

-- an argument that is needed, by its name
abbrev pub needed_rule : Text → Rule
needed_rule name = record (new_rule name) { required = true }

-- a command with the arguments for its files, and for what stands before them
abbrev pub with_file_rules : Files → App → App
with_file_rules Zero app = app
with_file_rules One app = with_rule app file_rule
with_file_rules Several app = with_rule (with_rule app file_rule) more_files_rule
with_file_rules AfterThreads app = with_rule (with_rule app (needed_rule (codes "FROM,TO"))) file_rule
with_file_rules AfterPolicy app = with_rule (with_rule app (needed_rule (codes "POLICY"))) file_rule

-- `sel4sim` with FILE, FILES and a version; clap adds its own subcommand `help`, which no line that is taken has
abbrev pub bare_command : App
bare_command = with_file_rules Several (with_version (new_app (codes "sel4sim")))

-- a command with one more subcommand
abbrev pub and_subcommand : App → App → App
and_subcommand made app = with_subcommand app made.top

-- an option that takes a number of 64 bits, by its long name
abbrev pub number_rule : Text → Rule
number_rule name = record (new_rule name) {
  long = Some name;
  value_names = 1;
  parser = Some (Unsigned 0 18446744073709551615);
}

-- an option that takes no value, by its long name
abbrev pub flag_rule : Text → Rule
flag_rule name = record (new_rule name) {
  long = Some name;
  action = Some action.SetTrue;
}

-- an option that takes a text, by its long name
abbrev pub text_rule : Text → Rule
text_rule name = record (new_rule name) {
  long = Some name;
  value_names = 1;
}

-- the subcommand of that name, with these files and these options
abbrev pub subcommand_with : Text → Files → List Rule → App
subcommand_with name files options = fold with_rule (with_file_rules files (new_app name)) options

-- the options that several subcommands have
abbrev pub names_rule : Rule
names_rule = flag_rule (codes "names")

abbrev pub first_rule : Rule
first_rule = number_rule (codes "first")

abbrev pub after_rule : Rule
after_rule = number_rule (codes "after")

abbrev pub states_rule : Rule
states_rule = number_rule (codes "states")

abbrev pub without_rule : Rule
without_rule = text_rule (codes "without")

abbrev pub messages_rule : Rule
messages_rule = text_rule (codes "messages")

abbrev pub by_rule : Rule
by_rule = text_rule (codes "by")

-- the subcommands, in the order of the help
abbrev pub subcommands : List App
subcommands =
    subcommand_with (codes "check") Several (flag_rule (codes "strict") ∷ flag_rule (codes "quiet") ∷ names_rule ∷ [])
    ∷ subcommand_with (codes "marks") Several (text_rule (codes "of") ∷ [])
    ∷ subcommand_with (codes "record") One []
    ∷ subcommand_with (codes "trace") One (flag_rule (codes "ways") ∷ names_rule ∷ [])
    ∷ subcommand_with (codes "migrate") One []
    ∷ subcommand_with (codes "threads") One (first_rule ∷ names_rule ∷ [])
    ∷ subcommand_with (codes "why") One (number_rule (codes "call") ∷ names_rule ∷ [])
    ∷ subcommand_with (codes "audit") One (after_rule ∷ text_rule (codes "slot") ∷ without_rule ∷ names_rule ∷ [])
    ∷ subcommand_with (codes "ever") One (after_rule ∷ without_rule ∷ messages_rule ∷ names_rule ∷ [])
    ∷ subcommand_with (codes "never") AfterThreads (after_rule ∷ without_rule ∷ messages_rule ∷ by_rule ∷ names_rule ∷ [])
    ∷ subcommand_with (codes "draft") One (after_rule ∷ without_rule ∷ messages_rule ∷ [])
    ∷ subcommand_with (codes "how") AfterThreads (after_rule ∷ without_rule ∷ by_rule ∷ flag_rule (codes "message") ∷ flag_rule (codes "hold") ∷ flag_rule (codes "loss") ∷ number_rule (codes "badge") ∷ states_rule ∷ [])
    ∷ subcommand_with (codes "policy") AfterPolicy (after_rule ∷ flag_rule (codes "listing") ∷ number_rule (codes "how") ∷ states_rule ∷ [])
    ∷ subcommand_with (codes "explore") One (first_rule ∷ states_rule ∷ text_rule (codes "witness") ∷ flag_rule (codes "ends") ∷ names_rule ∷ [])
    ∷ subcommand_with (codes "tree") One (after_rule ∷ flag_rule (codes "dot") ∷ names_rule ∷ [])
    ∷ subcommand_with (codes "new") Zero (text_rule (codes "profile") ∷ number_rule (codes "threads") ∷ number_rule (codes "endpoints") ∷ text_rule (codes "untyped") ∷ [])
    ∷ subcommand_with (codes "import") One (number_rule (codes "shrink") ∷ flag_rule (codes "listing") ∷ flag_rule (codes "cdl") ∷ flag_rule (codes "flows") ∷ flag_rule (codes "plain") ∷ text_rule (codes "rights") ∷ flag_rule (codes "strict") ∷ [])
    ∷ []

-- `sel4sim`, with all its subcommands
unfoldable pub command : App
command = fold (λ (app made : App). and_subcommand made app) bare_command subcommands

-- ---- the same of the rows of a table

-- the rule of an option of that name, by what stands behind the name
abbrev pub rule_taking : Text → Takes → Rule
rule_taking name Nothing = flag_rule name
rule_taking name Number = number_rule name
rule_taking name (TakesText value) = text_rule name

-- the rule of a row
abbrev pub option_rule : OptionRow → Rule
option_rule row = rule_taking row.0.now row.1

-- a command with the options of these rows too
abbrev pub with_option_rules : App → List OptionRow → App
with_option_rules app rows = fold (λ (wider : App) (row : OptionRow). with_rule wider (option_rule row)) app rows

-- the subcommand of a row
abbrev pub row_command : CommandRow → App
row_command row = with_option_rules (with_file_rules row.files (new_app row.name.now)) row.options.now

-- a command with the subcommands of these rows too
abbrev pub with_row_commands : App → List CommandRow → App
with_row_commands app rows = fold (λ (wider : App) (row : CommandRow). and_subcommand (row_command row) wider) app rows

-- the job of a subcommand's name
abbrev pub job_named : Text → Option Job
job_named name =
    if bytes_eq name (codes "check") then Some Check
    else if bytes_eq name (codes "trace") then Some Trace
    else if bytes_eq name (codes "threads") then Some Threads
    else if bytes_eq name (codes "migrate") then Some Migrate
    else if bytes_eq name (codes "why") then Some Why
    else if bytes_eq name (codes "audit") then Some Audit
    else if bytes_eq name (codes "ever") then Some Ever
    else if bytes_eq name (codes "never") then Some Never
    else if bytes_eq name (codes "draft") then Some Draft
    else if bytes_eq name (codes "how") then Some How
    else if bytes_eq name (codes "policy") then Some Policy
    else if bytes_eq name (codes "explore") then Some Explore
    else if bytes_eq name (codes "tree") then Some Tree
    else if bytes_eq name (codes "new") then Some New
    else if bytes_eq name (codes "marks") then Some Marks
    else if bytes_eq name (codes "record") then Some Record
    else if bytes_eq name (codes "import") then Some Import
    else None

-- the jobs that can have several files
abbrev pub takes_several : Job → Bool
takes_several Check = true
takes_several Marks = true
takes_several job = false

-- the job where a subcommand of that name with these matches is met, and where none is
abbrev pub job_of : Option (Text × List Row) → Option Job
job_of None = Some Check
job_of (Some met) = job_named met.0

-- the file of the command's own matches, or that of the subcommand's, which goes first if it has one
abbrev pub file_of : List Row → Option (Text × List Row) → Option Text
file_of above None = first_of (codes "FILE") above
file_of above (Some met) = option_or (first_of (codes "FILE") met.1) (first_of (codes "FILE") above)

-- the files behind the first, in the matches of a command; none, where it takes one file alone
abbrev pub more_files_in : List Row → List Text
more_files_in rows = unwrap_or (all_of (codes "FILES") rows) []

abbrev pub more_given : Option (List (Bor Text)) → List Text
more_given None = []
more_given (Some names) = texts names

-- the same of a subcommand of that name: `check` and `marks` take several
abbrev pub more_behind : Text → List Row → List Text
more_behind name rows = if bytes_eq name (codes "check") || bytes_eq name (codes "marks") then more_files_in rows else []

-- an option that takes no value is there: clap's text of it is then `true`
abbrev pub is_set : Option Text → Bool
is_set None = false
is_set (Some text) = bytes_eq text (codes "true")

-- a subcommand of that name with these matches lists one file as it lists several: `marks` with `--of`, and `check` with `--quiet`
abbrev pub lists_one : Text → List Row → Bool
lists_one name rows =
    (bytes_eq name (codes "marks") && is_some (first_of (codes "of") rows)) || (bytes_eq name (codes "check") && is_set (first_of (codes "quiet") rows))

-- the names of all files, where there is more than one; where one is listed too that of it, or a hyphen where none is named; else none
abbrev pub several_of : Bool → Option Text → List Text → List Text
several_of one file [] = if one then unwrap_or file (codes "-") ∷ [] else []
several_of one None (name ∷ more) = name ∷ more
several_of one (Some first) (name ∷ more) = first ∷ name ∷ more

-- the same by the command's own matches and those of the subcommand
abbrev pub files_of : List Row → Option (Text × List Row) → List Text
files_of above None = several_of false (file_of above None) (more_files_in above)
files_of above (Some met) = several_of (lists_one met.0 met.1) (file_of above (Some met)) (more_behind met.0 met.1)

-- a hyphen, which means standard input, is there at most once
abbrev pub reads_once : List Text → Bool
reads_once names = nat_le (count_by (λ name. bytes_eq name (codes "-")) names) 1

-- a text of decimal digits, which can begin with a plus, of a number of 64 bits
abbrev pub IsNumber : Text → Type 0
IsNumber text = IsNumeral 10 (without_leading_plus text) × (digits_value 10 (without_leading_plus text) < 2 ^ 64)

-- the number that an option's text says, where the option is there
abbrev pub Says : Option Text → Option ℕ → Type 0
Says None number = number ≡ None
Says (Some text) None = ¬ (IsNumber text)
Says (Some text) (Some number) = IsNumber text × (number ≡ digits_value 10 (without_leading_plus text))

-- what a subcommand's matches give to its options
pub record HasOptions (rows : List Row) (options : Options) : Type 0 where
  pub strict : options.strict ≡ is_set (first_of (codes "strict") rows)
  pub quiet : options.quiet ≡ is_set (first_of (codes "quiet") rows)
  pub call : Says (first_of (codes "call") rows) options.call
  pub after : Says (first_of (codes "after") rows) options.after
  pub slot : option_map (λ s. s.now) options.slot ≡ first_of (codes "slot") rows
  pub from_to : option_map (λ s. s.now) options.from_to ≡ first_of (codes "FROM,TO") rows
  pub breach : Says (first_of (codes "how") rows) options.breach
  pub message : options.message ≡ is_set (first_of (codes "message") rows)
  pub hold : options.hold ≡ is_set (first_of (codes "hold") rows)
  pub loss : options.loss ≡ is_set (first_of (codes "loss") rows)
  pub badge : Says (first_of (codes "badge") rows) options.badge
  pub by : option_map (λ s. s.now) options.by ≡ first_of (codes "by") rows
  pub without : option_map (λ s. s.now) options.without ≡ first_of (codes "without") rows
  pub messages : option_map (λ s. s.now) options.messages ≡ first_of (codes "messages") rows
  pub policy : option_map (λ s. s.now) options.policy ≡ first_of (codes "POLICY") rows
  pub names : options.names ≡ is_set (first_of (codes "names") rows)
  pub first : Says (first_of (codes "first") rows) options.first
  pub states : Says (first_of (codes "states") rows) options.states
  pub witness : option_map (λ s. s.now) options.witness ≡ first_of (codes "witness") rows
  pub ends : options.ends ≡ is_set (first_of (codes "ends") rows)
  pub ways : options.ways ≡ is_set (first_of (codes "ways") rows)
  pub dot : options.dot ≡ is_set (first_of (codes "dot") rows)
  pub profile : option_map (λ s. s.now) options.profile ≡ first_of (codes "profile") rows
  pub threads : Says (first_of (codes "threads") rows) options.threads
  pub endpoints : Says (first_of (codes "endpoints") rows) options.endpoints
  pub untyped : option_map (λ s. s.now) options.untyped ≡ first_of (codes "untyped") rows
  pub shrink : Says (first_of (codes "shrink") rows) options.shrink
  pub listing : options.listing ≡ is_set (first_of (codes "listing") rows)
  pub cdl : options.cdl ≡ is_set (first_of (codes "cdl") rows)
  pub of : option_map (λ s. s.now) options.of ≡ first_of (codes "of") rows
  pub flows : options.flows ≡ is_set (first_of (codes "flows") rows)
  pub plain : options.plain ≡ is_set (first_of (codes "plain") rows)
  pub rights : option_map (λ s. s.now) options.rights ≡ first_of (codes "rights") rows

-- at most one of `--message`, `--hold` and `--loss` is there, and neither `--by` nor `--badge`, which speak of messages, with one of the
-- last two
abbrev pub agrees_how : Options → Bool
agrees_how options =
    not ((options.message && (options.hold || options.loss)) || (options.hold && options.loss))
    && not ((options.hold || options.loss) && (is_some options.by || is_some options.badge))

-- an option's text is a hyphen
abbrev pub is_hyphen_given : Option Text → Bool
is_hyphen_given None = false
is_hyphen_given (Some text) = bytes_eq text (codes "-")

-- POLICY and `--of` name files: none of them is a hyphen
abbrev pub names_files : Options → Bool
names_files options = not (is_hyphen_given (option_map (λ s. s.now) options.policy) || is_hyphen_given (option_map (λ s. s.now) options.of))

-- `--rights` takes `all` or `least`
abbrev pub says_least : Option Text → Bool
says_least None = false
says_least (Some text) = bytes_eq text (codes "least")

abbrev pub is_rights : Option Text → Bool
is_rights None = true
is_rights (Some text) = bytes_eq text (codes "all") || bytes_eq text (codes "least")

-- the least rights are asked for, if a `.system` file says none
abbrev pub takes_least : Options → Bool
takes_least options = says_least (option_map (λ s. s.now) options.rights)

-- the rights that are asked for, if any are, are all or the least
abbrev pub knows_rights : Options → Bool
knows_rights options = is_rights (option_map (λ s. s.now) options.rights)

-- of a `.system` file objects that a set-up lacks count or do not; and the text that a layout becomes is neither listed nor cut
abbrev pub agrees_import : Options → Bool
agrees_import options =
    knows_rights options && (not (options.flows && options.plain) && not (options.cdl && (options.listing || is_some options.shrink)))

-- FROM,TO has one comma (44)
abbrev pub are_two_threads : Option Text → Bool
are_two_threads None = true
are_two_threads (Some text) = count_by (λ c. c == 44) text == 1

abbrev pub names_two_threads : Options → Bool
names_two_threads options = are_two_threads (option_map (λ s. s.now) options.from_to)

-- a file that a word names is no hyphen, FROM,TO are two threads, and what `import` and `how` take goes together
abbrev pub agrees_names : Options → Bool
agrees_names options = names_files options && (names_two_threads options && (agrees_import options && agrees_how options))

-- the options go together, and words name what they may: `--slot` goes not with `--without`, and `--witness` neither with `--names` nor with
-- `--ends`; and a policy is not listed if calls are asked for by which a breach of it happens
unfoldable pub agrees : Options → Bool
agrees options =
    not (is_some options.slot && is_some options.without)
    && (not (is_some options.witness && options.names)
    && (not (is_some options.witness && options.ends)
    && (not (options.listing && is_some options.breach)
    && agrees_names options)))

-- the matches of the subcommand that is met
abbrev pub own_rows : Option (Text × List Row) → List Row
own_rows None = []
own_rows (Some met) = met.1

-- the words name a subcommand
abbrev pub names_command : List Text → Bool
names_command words = is_some (subcommand_of command words)

-- the job that clap's matches for the words give, and the file
abbrev pub job_asked : List Text → Option Job
job_asked words = job_of (subcommand_of command words)

-- the file that clap's matches for the words give
abbrev pub file_asked : List Text → Option Text
file_asked words = file_of (matches_of command words) (subcommand_of command words)

-- the names of all files that are listed
abbrev pub several_asked : List Text → List Text
several_asked words = files_of (matches_of command words) (subcommand_of command words)

-- words of that fault ask for a text: the help, or the version
abbrev pub AsksForText : ErrorKind → Type 0
AsksForText kind = (kind ≡ DisplayHelp) ⊎ (kind ≡ DisplayVersion)

-- a fault that clap has for the words asks for the help or for the version
abbrev pub CallsForText : Kinds → Type 0
CallsForText kinds = (kind : ErrorKind) × IsAmong kind kinds × AsksForText kind

-- clap has another fault for the words
abbrev pub HasOtherFault : Kinds → Type 0
HasOtherFault kinds = (kind : ErrorKind) × IsAmong kind kinds × ¬ (AsksForText kind)

-- the options that matches give do not go together, or a hyphen is there twice
abbrev pub HasConflictIn : List Row → Option (Text × List Row) → Type 0
HasConflictIn above met =
    (options : Options) × HasOptions (own_rows met) options × ((agrees options && reads_once (files_of above met)) ≡ false)

-- clap takes the words, and their options do not go together, or a hyphen is there twice
abbrev pub HasConflict : List Text → Type 0
HasConflict words = (fault_of command words ≡ []) × HasConflictIn (matches_of command words) (subcommand_of command words)

-- the command doesn't take the words, and their fault by clap's definition can ask for the help or for the version, or can be
-- another; or it takes them, and the options do not go together, or a hyphen is there twice
abbrev pub Explains : List Text → LineFault → Type 0
Explains words (Help text) = (takes command words ≡ false) × CallsForText (fault_of command words)
Explains words Refused = (takes command words ≡ false) × HasOtherFault (fault_of command words)
Explains words (Conflict text) = HasConflict words
Explains words Memory = ⊤

-- a fault of matches that clap gives: their options do not go together, or a hyphen is there twice; or memory ran out
abbrev pub ExplainsMatches : List Row → Option (Text × List Row) → LineFault → Type 0
ExplainsMatches above met (Help text) = ⊥
ExplainsMatches above met Refused = ⊥
ExplainsMatches above met (Conflict text) = HasConflictIn above met
ExplainsMatches above met Memory = ⊤

-- the fault that stands for an error of clap
abbrev pub StandsFor : ErrorKind → LineFault → Type 0
StandsFor kind (Help text) = AsksForText kind
StandsFor kind Refused = ¬ (AsksForText kind) × (kind ≢ OutOfMemory)
StandsFor kind (Conflict text) = ⊥
StandsFor kind Memory = ⊤
