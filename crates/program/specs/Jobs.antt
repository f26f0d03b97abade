-- Which text and which verdict each job has, by its options, for the bytes of an input.
use Rattle.std.specs.Prelude.{◌≡◌, ℕ, Bool, not, List, [], Option, Some, None, option_map, is_some, unwrap_or, cond, MatchBool}
use Rattle.command_line.specs.declared.arguments.Job.{Job}
use Rattle.command_line.specs.declared.arguments.Job.TheVariants.{Check, Trace, Threads, Migrate, Why, Audit, Ever, Never, Draft, How, Policy, Explore, Tree, New, Marks, Record, Import}
use Rattle.command_line.specs.declared.arguments.Options.{Options}
use Rattle.command_core.specs.declared.fault.Verdict.{Verdict}
use Rattle.command_files.specs.Strict.{IsNamedCheck, checked}
use Rattle.command_check.specs.Commands.{IsAnswerTo, IsStateAnswer}
use Rattle.command_marks.specs.Migrations.{IsMigration}
use Rattle.command_audit.specs.Audits.{IsSlotAudited, IsStateAudited}
use Rattle.command_parts.specs.Told.{IsEver}
use Rattle.command_parts.specs.Threads.{Trusted}
use Rattle.command_policy.specs.Policies.{IsPolicyOf}
use Rattle.command_policy_draft.specs.Drafts.{IsDraft}
use Rattle.command_policy_how.specs.Told.{IsBreachHow}
use Rattle.command_policy_listing.specs.Listed.{IsPolicyListing}
use Rattle.command_line.specs.CommandLine.{takes_least}
use Rattle.setup_layout.specs.declared.layout.Reading.{Reading}
use Rattle.setup_system.specs.Languages.{reading_of}
use Rattle.command_import.specs.Import.{IsImported, IsLayoutText}
use Rattle.command_never.specs.Question.{Asked, IsNever}
use Rattle.command_explore.specs.Explorations.{IsExploration, IsGroupsExploration}
use Rattle.command_how_witness.specs.declared.asked.Happening.{Happening}
use Rattle.command_how_witness.specs.declared.asked.Happening.TheVariants.{Message, Hold, Loss}
use Rattle.command_how.specs.How.{Words, IsHow}
use Rattle.command_threads.specs.SharedRuns.{IsSharedProgram}
use Rattle.command_trace.specs.Traces.{IsTrace}
use Rattle.command_tree.specs.Trees.{IsTree}
use Rattle.command_why.specs.Explained.{IsWhy}
use Rattle.command_marks.specs.Text.{IsMarks}
use Rattle.command_marks.specs.Recorded.{IsRecord}
use Rattle.command_tree.specs.declared.form.Form.{Form}
use Rattle.command_tree.specs.declared.form.Form.TheVariants.{Lines, Dot}
use Rattle.program.specs.Commas.{words_in}
use Rattle.program.specs.NewWords.{IsNewOf}
use Rattle.program.specs.Texts.{before_mark, behind_mark}
use Rattle.program.specs.WitnessWords.{IsNamedWitness}

-- the words of `--without`, of `--messages`, and of `--by`
abbrev pub without_of : Options → List (List ℕ)
without_of options = words_in (option_map (λ s. s.now) options.without)

abbrev pub messages_of : Options → List (List ℕ)
messages_of options = words_in (option_map (λ s. s.now) options.messages)

-- the threads that are trusted
abbrev pub trust_of : Options → Trusted
trust_of options = record { without = without_of options; messages = messages_of options }

abbrev pub by_of : Options → List (List ℕ)
by_of options = words_in (option_map (λ s. s.now) options.by)

-- the word for two threads
abbrev pub threads_of : Options → List ℕ
threads_of options = unwrap_or (option_map (λ s. s.now) options.from_to) []

-- what `never` asks of the threads before and after the comma (44)
abbrev pub question_of : Options → Asked
question_of options = record {
  trust = trust_of options;
  from = before_mark 44 (threads_of options);
  to = behind_mark 44 (threads_of options);
  by = by_of options;
  by_name = options.names;
}

-- an audit of a state, but for the threads of `--without`, or of the slot that a word stands for
abbrev pub IsAuditAt : Options → Option (List ℕ) → List ℕ → List ℕ → Verdict → Type 0
IsAuditAt options None input text verdict =
    IsAnswerTo (IsStateAnswer (IsStateAudited (without_of options) options.names) options.after) input text verdict
IsAuditAt options (Some slot) input text verdict = IsAnswerTo (IsSlotAudited slot options.names options.after) input text verdict

abbrev pub IsAudit : Options → List ℕ → List ℕ → Verdict → Type 0
IsAudit options input text verdict = IsAuditAt options (option_map (λ s. s.now) options.slot) input text verdict

-- what is to happen: a message, if nothing else is named
abbrev pub happening_in : Options → Happening
happening_in options = cond options.hold Hold (cond options.loss Loss Message)

-- what `how` asks of the threads before and after the comma (44)
abbrev pub how_of : Options → Words
how_of options = record {
  what = happening_in options;
  from = before_mark 44 (threads_of options);
  to = behind_mark 44 (threads_of options);
  by = by_of options;
  badge = options.badge;
  without = without_of options;
  states = options.states;
}

-- what is written about the layout by a policy, or, with `--listing`, what was read of the policy
abbrev pub IsHeldOrListed : Options → List ℕ → List ℕ → List ℕ → Verdict → Type 0
IsHeldOrListed options policy input text verdict =
    MatchBool options.listing
    (IsAnswerTo (IsPolicyListing policy options.after) input text verdict)
    (IsAnswerTo (IsPolicyOf policy options.after) input text verdict)

-- or, with `--how`, how a breach of it happens
abbrev pub IsHeld : Options → List ℕ → Option ℕ → List ℕ → List ℕ → Verdict → Type 0
IsHeld options policy None input text verdict = IsHeldOrListed options policy input text verdict
IsHeld options policy (Some breach) input text verdict = IsAnswerTo (IsBreachHow breach policy options.after options.states) input text verdict

-- the calls that are made before the clients begin, and the states that are kept at the most
abbrev pub first_calls_of : Options → ℕ
first_calls_of options = unwrap_or options.first 0

abbrev pub states_of : Options → ℕ
states_of options = unwrap_or options.states 100000

-- the report on every order, or, with `--ends`, on those of each group of clients
abbrev pub IsOrdersAnswer : Bool → ℕ → ℕ → Bool → List ℕ → List ℕ → Verdict → Type 0
IsOrdersAnswer ends first states by_name input text verdict =
    MatchBool ends (IsAnswerTo (IsGroupsExploration first states by_name) input text verdict) (IsAnswerTo (IsExploration first states by_name) input text verdict)

-- or, with `--witness`, the set-up of the order that its text names
abbrev pub IsExploreAnswer : Options → Option (List ℕ) → List ℕ → List ℕ → Verdict → Type 0
IsExploreAnswer options None = IsOrdersAnswer options.ends (first_calls_of options) (states_of options) options.names
IsExploreAnswer options (Some which) = IsNamedWitness which (first_calls_of options) (states_of options)

abbrev pub IsExplorationBy : Options → List ℕ → List ℕ → Verdict → Type 0
IsExplorationBy options = IsExploreAnswer options (option_map (λ s. s.now) options.witness)

-- the report of clients that share a kernel, by the option
abbrev pub IsShared : Options → List ℕ → List ℕ → Verdict → Type 0
IsShared options = IsSharedProgram options.names (λ _ _. ⊥) (first_calls_of options)

-- the report of a set-up's run, by addresses or by names
abbrev pub IsCheck : Options → List ℕ → List ℕ → Verdict → Type 0
IsCheck options input text verdict =
    MatchBool options.names (IsAnswerTo (IsNamedCheck options.strict) input text verdict) (checked options.strict input ≡ (text, verdict))

-- the form of a derivation forest, by the option
abbrev pub form_of : Options → Form
form_of options = cond options.dot Dot Lines

-- how a layout is read, by the options
abbrev pub reading_by : Options → Reading
reading_by options = record {
  shrink = options.shrink;
  flows = options.flows;
  plain = options.plain;
  all_rights = not (takes_least options);
  are_rights_asked = is_some options.rights;
  strict = options.strict;
}

-- a set-up of a layout in the file of a path, if it has one, or, with `--listing`, what was read of it; or, with `--cdl`, the capDL text
-- that it becomes
abbrev pub IsImport : Options → Option (List ℕ) → List ℕ → List ℕ → Verdict → Type 0
IsImport options path input text verdict =
    MatchBool options.cdl (IsLayoutText input text verdict) (IsImported (reading_of (reading_by options) input) path options.listing text verdict)

-- what each command writes for an input from the file of a path, if it has one, by the policy with these bytes if its words name one: its
-- text and its verdict
abbrev pub meaning : Job → Options → List ℕ → Option (List ℕ) → List ℕ → List ℕ → Verdict → Type 0
meaning Check options policy path = IsCheck options
meaning Trace options policy path = IsAnswerTo (IsTrace options.names options.ways)
meaning Threads options policy path = IsShared options
meaning Migrate options policy path = IsMigration
meaning Why options policy path = IsAnswerTo (IsWhy options.names options.call)
meaning Audit options policy path = IsAudit options
meaning Ever options policy path = IsAnswerTo (IsStateAnswer (IsEver (trust_of options) options.names) options.after)
meaning Never options policy path = IsAnswerTo (IsStateAnswer (IsNever (question_of options)) options.after)
meaning Draft options policy path = IsAnswerTo (IsStateAnswer (IsDraft (trust_of options) options.after) options.after)
meaning How options policy path = IsAnswerTo (IsStateAnswer (IsHow (how_of options)) options.after)
meaning Policy options policy path = IsHeld options policy options.breach
meaning Explore options policy path = IsExplorationBy options
meaning Tree options policy path = IsAnswerTo (IsStateAnswer (IsTree (form_of options) options.names) options.after)
meaning New options policy path = λ input text verdict. IsNewOf options text verdict
meaning Marks options policy path = IsAnswerTo IsMarks
meaning Record options policy path = IsAnswerTo IsRecord
meaning Import options policy path = IsImport options path
