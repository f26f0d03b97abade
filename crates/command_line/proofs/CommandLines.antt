-- What the definition of the command says of a parse.
use Rattle.std.proofs.Common.{◌≡◌, ◌≢◌, ◌⊎◌, ◌∙◌, ◌&&◌, ◌||◌, sym, codes, map, List, [], ◌∷◌, Bool, true, false, Option, Some, None, option_map, cond, is_some, find, refl, inl, inr, subst, ap, ap₂}
use Rattle.std.specs.Borrow.{Bor}
use Rattle.std.specs.Box.{box_value}
use Rattle.std.proofs.lemmas.Slice.Eq.{bytes_eq-Decides}
use Rattle.std.specs.Prelude.{not, unwrap_or, IfErr, IfOk, OnOk, Result, Ok, Err}
use Rattle.std.specs.Str.{bytes_eq}
use Rattle.std.specs.List.{list_all}
use Rattle.clap.specs.Words.{App, HasMatchesOf, Row, Kinds, IsAmong, HasKind, Shape, Text, app_of, found_of, is_simple, is_simple_and_free, first_of, matches_of, rows_of, subcommand_name_of, subcommand_of, subcommand_rows, subcommand_rows_of, takes, fault_of}
use Rattle.clap.specs.Values.{kind_of}
use Rattle.clap.specs.Simple.{argument_words, built, entered, label_of, names_of, rows_at}
use Rattle.clap.specs.Faults.{walk_fault}
use Rattle.clap.specs.Kinds.{or_else}
use Rattle.clap.specs.Walk.{answers_to, nothing_held, stop_after, walk_from}
use Rattle.clap.specs.declared.builder.command.Command.{Command}
use Rattle.clap.specs.declared.error.Error.{Error}
use Rattle.clap.specs.declared.error.kind.ErrorKind.{ErrorKind}
use Rattle.clap.specs.declared.error.kind.ErrorKind.TheVariants.{OutOfMemory}
use Rattle.clap.specs.declared.parser.matches.ArgMatches.{ArgMatches}
use Rattle.clap.specs.declared.parser.matches.ArgMatches.TheViews.{out-ArgMatches, out-SubCommand}
use Rattle.clap.proofs.OnLiterals.{clap_on_literals}
use Rattle.clap.proofs.WalkLemmas.{both}
use Rattle.command_line.specs.CommandLine.{IsCommand, command, file_of, files_of, is_set, job_named, job_of, lists_one, more_behind, more_given, several_of, takes_several, AsksForText, Explains, ExplainsMatches, StandsFor}
use Rattle.command_line.proofs.NoHelp.{IsNoHelp, walk_stops}
use Rattle.command_line.specs.declared.arguments.Job.{Job}
use Rattle.command_line.specs.declared.arguments.Job.TheVariants.{Check, Marks}
use Rattle.command_line.specs.declared.arguments.LineFault.{LineFault}
use Rattle.command_line.specs.declared.arguments.LineFault.TheVariants.{Help, Refused, Conflict, Memory}

pub command_is_simple : is_simple command ≡ true
unfolding command clap_on_literals
command_is_simple = refl

pub command_is_free : is_simple_and_free command ≡ true
unfolding command clap_on_literals
command_is_free = refl

pub has_definition : {E : Type 0} (r : Result Command E) (app : App) → IfOk r (IsCommand app) → IfOk r (λ c. app_of c ≡ app)
has_definition (Ok c) app is = is.0
has_definition (Err e) app is = tt

-- ---- the job of what is met

-- a subcommand has a job, or is not the one of that name
abbrev fits : Text → Shape → Bool
fits name s = is_some (job_named s.name) || not (answers_to name (label_of s))

last_fits : (b : Bool) → (b ≡ true → ⊥) → (not (b || false) && true) ≡ true
last_fits true never = absurd (never refl)
last_fits false never = refl

-- clap's `help` alone has no job
subcommands_fit : (name : Text) → ¬ (name ≡ codes "help") → list_all (fits name) (built command).subs ≡ true
unfolding command clap_on_literals
subcommands_fit name other = last_fits (bytes_eq (codes "help") name) (λ is. other (sym ((bytes_eq-Decides (codes "help") name).0 is)))

job_found : (subs : List Shape) (p : Text × List Text) → list_all (fits p.0) subs ≡ true
    → is_some (job_of (option_map (λ s. rows_at s p.1) (find (λ s. answers_to p.0 (label_of s)) subs))) ≡ true
job_found [] p all = refl
job_found (s ∷ subs) p all = go (answers_to p.0 (label_of s)) (both _ _ all).0 (job_found subs p (both _ _ all).1)
  where
    left : (b : Bool) → (b || false) ≡ true → b ≡ true
    left true e = refl
    left false e = e

    go : (here : Bool) → (is_some (job_named s.name) || not here) ≡ true
        → is_some (job_of (option_map (λ t. rows_at t p.1) (find (λ t. answers_to p.0 (label_of t)) subs))) ≡ true
        → is_some (job_of (option_map (λ t. rows_at t p.1) (cond here (Some s) (find (λ t. answers_to p.0 (label_of t)) subs)))) ≡ true
    go true fit later = left _ fit
    go false fit later = later

job_entered : (stop : Option (Text × List Text)) → IsNoHelp stop → is_some (job_of (entered (built command) stop)) ≡ true
job_entered None other = refl
job_entered (Some p) other = job_found (built command).subs p (subcommands_fit p.0 other)

help_is_shown : (built command).top.disable_help_subcommand ≡ false
unfolding command clap_on_literals
help_is_shown = refl

first_empty : (a b : Kinds) → or_else a b ≡ [] → a ≡ []
first_empty [] b e = refl
first_empty (k ∷ ks) b e = e

-- what the words name as a subcommand has a job, where clap takes them
pub job_is_known : (words : List Text) → fault_of command words ≡ [] → is_some (job_of (subcommand_of command words)) ≡ true
job_is_known words taken =
    let top = (built command).top in
    let given = argument_words command words in
    job_entered (stop_after top.rules (names_of (built command)) given)
    (walk_stops top (names_of (built command)) help_is_shown given (walk_from nothing_held) tt
    (first_empty (walk_fault top (names_of (built command)) (walk_from nothing_held) given) _ taken))

-- the rows of matches that clap gives for the words, and their subcommand
pub own_rows_met : (c : Command) (words : List Text) (m : ArgMatches) → app_of c ≡ command → HasMatchesOf (app_of c) words m → rows_of (found_of m) ≡ matches_of command words
own_rows_met c words m is has = (has (ap is_simple is ∙ command_is_simple)).0 ∙ ap (λ (a : App). matches_of a words) is

pub rows_met : (c : Command) (words : List Text) (m : ArgMatches) → app_of c ≡ command → HasMatchesOf (app_of c) words m → subcommand_rows_of m ≡ subcommand_of command words
rows_met c words m is has = (has (ap is_simple is ∙ command_is_simple)).1 ∙ ap (λ (a : App). subcommand_of a words) is

name-rows : (m : ArgMatches) → subcommand_name_of m ≡ option_map (λ met. met.0) (subcommand_rows_of m)
name-rows m = elim ((out-ArgMatches m).subcommand) as (λ s. option_map (λ b. (out-SubCommand (box_value b)).name.now) s ≡ option_map (λ met. met.0) (subcommand_rows s)) [ None ↦ refl | Some b ↦ refl ]

pair_is : (o : Option (Text × List Row)) (name : Text) (rows : List Row) → Some name ≡ option_map (λ met. met.0) o → Some rows ≡ option_map (λ met. met.1) o → o ≡ Some (name, rows)
pair_is None name rows named with_rows = cc
pair_is (Some met) name rows named with_rows =
    let first : met.0 ≡ name = cc in
    let second : met.1 ≡ rows = cc in
    ap₂ (λ a b. Some (a, b)) first second

none_is : (o : Option (Text × List Row)) → None ≡ option_map (λ met. met.0) o → o ≡ None
none_is None named = refl
none_is (Some met) named = cc

-- a subcommand that is met by this name and with these rows, and none
pub subcommand_is : (m : ArgMatches) (name : Text) (rows : List Row) → Some name ≡ subcommand_name_of m → Some rows ≡ option_map (λ met. met.1) (subcommand_rows_of m) → subcommand_rows_of m ≡ Some (name, rows)
subcommand_is m name rows named with_rows = pair_is (subcommand_rows_of m) name rows (named ∙ name-rows m) with_rows

pub no_subcommand_is : (m : ArgMatches) → None ≡ subcommand_name_of m → subcommand_rows_of m ≡ None
no_subcommand_is m named = none_is (subcommand_rows_of m) (named ∙ name-rows m)

-- ---- faults

not_taken : (b : Bool) (k : ErrorKind) → (b ≡ true → k ≡ OutOfMemory) → (k ≡ OutOfMemory → ⊥) → b ≡ false
not_taken true k only other = absurd (other (only refl))
not_taken false k only other = refl

among : (kinds : Kinds) (e : Error) → HasKind kinds e → (kind_of e ≡ OutOfMemory → ⊥) → IsAmong (kind_of e) kinds
among kinds e (inl memory) other = absurd (other memory)
among kinds e (inr found) other = found

asks_no_memory : (k : ErrorKind) → AsksForText k → k ≡ OutOfMemory → ⊥
asks_no_memory k (inl help) memory = cc
asks_no_memory k (inr version) memory = cc

pub explained : (words : List Text) (e : Error) (fault : LineFault) → HasKind (fault_of command words) e → (takes command words ≡ true → kind_of e ≡ OutOfMemory) → StandsFor (kind_of e) fault → Explains words fault
explained words e (Help text) kinds passes stands =
    let other = asks_no_memory (kind_of e) stands in
    (not_taken _ _ passes other, (kind_of e, among _ e kinds other, stands))
explained words e Refused kinds passes stands =
    (not_taken _ _ passes stands.1, (kind_of e, among _ e kinds stands.1, stands.0))
explained words e (Conflict text) kinds passes stands = absurd stands
explained words e Memory kinds passes stands = tt

-- ---- several files

-- the values that clap gives, and none where it gives none
pub given_values : (given : Option (Bor (List (Bor Text)))) → more_given (option_map (λ v. v.now) given) ≡ unwrap_or (option_map (λ s. map (λ v. v.now) s.now) given) []
given_values None = refl
given_values (Some names) = refl

true_or_false : (b : Bool) → (b ≡ true) ⊎ (b ≡ false)
true_or_false true = inl refl
true_or_false false = inr refl

-- a name with several files is that of a job that takes them
named_takes : (name : Text) (job : Job) → bytes_eq name (codes "check") || bytes_eq name (codes "marks") ≡ true → job_named name ≡ Some job → takes_several job ≡ true
named_takes name job is named = go (true_or_false (bytes_eq name (codes "check")))
  where
    some_is : (one other : Job) → Some one ≡ Some other → one ≡ other
    some_is one other e = cc

    go : (bytes_eq name (codes "check") ≡ true) ⊎ (bytes_eq name (codes "check") ≡ false) → takes_several job ≡ true
    go (inl check) =
        let found : job_named name ≡ Some Check = rw check refl in
        subst (λ j. takes_several j ≡ true) (some_is Check job (sym found ∙ named)) refl
    go (inr other) =
        let marks : bytes_eq name (codes "marks") ≡ true = rw other at is in
        let same : name ≡ codes "marks" = (bytes_eq-Decides name (codes "marks")).0 marks in
        let found : job_named name ≡ Some Marks = ap job_named same in
        subst (λ j. takes_several j ≡ true) (some_is Marks job (sym found ∙ named)) refl

first : (a b : Bool) → a || b ≡ false → a ≡ false
first true b e = absurd cc
first false b e = refl

second : (a b : Bool) → a || b ≡ false → b ≡ false
second true b e = absurd cc
second false b e = e

-- where several files are named, the job takes them
pub several_are_taken : (above : List Row) (met : Option (Text × List Row)) (job : Job) → (files_of above met ≢ []) → job_of met ≡ Some job → takes_several job ≡ true
several_are_taken above None job some is =
    let same : Check ≡ job = cc in
    subst (λ j. takes_several j ≡ true) same refl
several_are_taken above (Some met) job some is = go (true_or_false (bytes_eq met.0 (codes "check") || bytes_eq met.0 (codes "marks")))
  where
    go : ((bytes_eq met.0 (codes "check") || bytes_eq met.0 (codes "marks")) ≡ true) ⊎ ((bytes_eq met.0 (codes "check") || bytes_eq met.0 (codes "marks")) ≡ false)
        → takes_several job ≡ true
    go (inl takes) = named_takes met.0 job takes is
    go (inr other) =
        let none : more_behind met.0 met.1 ≡ [] = rw other refl in
        let no_one : lists_one met.0 met.1 ≡ false =
        ap₂ (λ check marks. (marks && is_some (first_of (codes "of") met.1)) || (check && is_set (first_of (codes "quiet") met.1))) (first _ _ other) (second _ _ other) in
        absurd (some (ap₂ (λ one more. several_of one (file_of above (Some met)) more) no_one none))

pub on_ok : {V E : Type 0} (r : Result V E) (P : Type 0) → P → OnOk r P
on_ok (Ok v) P p = p
on_ok (Err e) P p = tt

-- clap takes the words, and what is wrong with them is wrong with its matches
pub explained_matches : {V : Type 0} (words : List Text) (r : Result V LineFault) → fault_of command words ≡ []
    → IfErr r (ExplainsMatches (matches_of command words) (subcommand_of command words)) → IfErr r (Explains words)
explained_matches words (Ok v) taken explains = tt
explained_matches words (Err (Help text)) taken explains = absurd explains
explained_matches words (Err Refused) taken explains = absurd explains
explained_matches words (Err (Conflict text)) taken explains = (taken, explains)
explained_matches words (Err Memory) taken explains = tt
