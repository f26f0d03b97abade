-- What is written of a set-up that is held to a policy, and the verdict.
use Rattle.std.specs.Prelude.{◌≡◌, ◌⊎◌, ◌++◌, ◌≤◌, codes, ℕ, true, false, List, [], map, Option, Some, None}
use Rattle.std.specs.Option.{option_or}
use Rattle.std.specs.Fmt.{decimal}
use Rattle.cap_core.specs.declared.profile.ProfileName.{ProfileName}
use Rattle.cap_core.specs.Numbers.{slot_bits}
use Rattle.kernel_abstract.specs.declared.call.Reply.{Reply}
use Rattle.kernel_abstract.specs.Shown.{Shown}
use Rattle.kernel_abstract.specs.State.{shown}
use Rattle.setup_values.specs.Names.{Names}
use Rattle.setup_format.specs.Views.{SetupView, ReadView}
use Rattle.setup_report.specs.Behind.{state_behind, replies_behind, calls_made}
use Rattle.setup_report.specs.State.{is_in, slot_rows}
use Rattle.command_core.specs.declared.fault.Verdict.{Verdict}
use Rattle.command_core.specs.declared.fault.Verdict.TheVariants.{Refused, Absent}
use Rattle.setup_policy.specs.declared.policy.PolicyVersion.{PolicyVersion}
use Rattle.setup_policy.specs.declared.policy.PolicyVersion.TheVariants.{One, Two}
use Rattle.command_parts.specs.declared.takes.PartSlot.{PartSlot}
use Rattle.command_parts.specs.Takes.{part_slot}
use Rattle.command_policy_text.specs.declared.places.Origin.{Origin}
use Rattle.command_policy_text.specs.declared.told.Held.{Held}
use Rattle.command_policy_text.specs.declared.told.Told.{Told}
use Rattle.command_policy_breaches.specs.Joins.{all_joined, blocks, homes_joined, joins, single_block}
use Rattle.command_policy_breaches.specs.Layouts.{IsLayoutOf}
use Rattle.command_policy_places.specs.Places.{filled_by, texts_by_labels, texts_told, waits_since}
use Rattle.command_policy_text.specs.Places.{place_lines}
use Rattle.command_policy_text.specs.Texts.{breach_lines as lines_of_breaches, text_and_verdict}
use Rattle.command_policy_breaches.specs.Ways.{passages}
use Rattle.command_policy.specs.declared.judging.Judged.{Judged}
use Rattle.command_policy.specs.declared.judging.Sources.{Sources}
use Rattle.setup_policy_file.specs.Files.{IsPolicyText}
use Rattle.setup_policy_file.specs.declared.file.PolicyFile.{PolicyFile}
use Rattle.setup_policy_meaning.specs.Meant.{AreLabels}
use Rattle.setup_policy_meaning.specs.Policies.{IsPolicyMeant}
use Rattle.command_policy.specs.declared.command.Judging.{Judging}
use Rattle.command_policy.specs.declared.command.Judging.TheVariants.{Done, Answered}

-- what lines are told of is the policy, its layout, the names and the groups of the joined parts
pub record IsHeldOf (j : Judged) (h : Held) : Type 0 where
  pub policy : h.policy.now ≡ j.policy
  pub layout : h.layout.now ≡ j.layout
  pub labels : h.labels.now ≡ j.labels
  pub homes : h.homes.now ≡ j.homes.items

-- the layout is that of a state, Grant joins its parts as the policy says, and what can pass is what can pass between these
pub record IsJudgedOf (p : ProfileName) (v : Shown) (replies : List Reply) (j : Judged) : Type 0 where
  pub layout : IsLayoutOf p j.policy v j.layout
  pub joins_are : j.joins.items ≡ joins j.policy j.layout
  pub homes_are : j.homes.items ≡ homes_joined j.policy j.layout (blocks j.policy j.layout)
  pub passages_are : j.passages.items ≡ passages j.policy j.layout (blocks j.policy j.layout)
  pub answered : j.replies.items ≡ replies

-- of the state behind the first calls of a set-up
abbrev pub IsJudged : ProfileName → SetupView → ℕ → Judged → Type 0
IsJudged p setup made j = IsJudgedOf p (shown (state_behind p setup made)) (replies_behind p setup made) j

-- the text, and the verdict; `places` is what stands below the line of a breach
abbrev pub told_with : (Told → List ℕ) → Judged → SetupView → List ℕ × Verdict
told_with places j setup = text_and_verdict places j.policy j.layout j.labels j.homes.items j.joins.items j.passages.items setup j.replies.items

-- the full slots by rising address behind the first calls, each with the part in which it lies
abbrev pub slots_behind : ProfileName → SetupView → ℕ → Judged → List PartSlot
slots_behind p setup made j = map (part_slot j.layout.memory.items) (slot_rows (shown (state_behind p setup made)))

-- the places of what is told, in the state behind the first calls, by what its objects are called
abbrev pub places_behind : ProfileName → SetupView → ℕ → Judged → Told → List ℕ
places_behind p setup made j =
    place_lines (texts_by_labels j.labels (slot_bits p) (slots_behind p setup made j)) (filled_by p setup made) (waits_since setup.calls j.replies.items)
    j.policy j.layout (all_joined (map single_block j.layout.parts.items) j.joins.items) (slots_behind p setup made j)

-- version 1 tells of no places
abbrev pub told_in : PolicyVersion → (Told → List ℕ) → Told → List ℕ
told_in One places told = []
told_in Two places told = places told

-- the text, and the verdict; in version 2 below the line of each breach stand its places
abbrev pub told_of : ProfileName → SetupView → ℕ → Judged → List ℕ × Verdict
told_of p setup made j = told_with (told_in j.policy.version (places_behind p setup made j)) j setup

-- where breaches come from, with the first calls of a set-up
pub record IsOriginOf (s : Sources) (setup : SetupView) (made : ℕ) (j : Judged) (o : Origin) : Type 0 where
  pub sites : o.sites.now ≡ s.sites
  pub names_are : texts_told o.names ≡ texts_by_labels j.labels s.sites.slot_bits s.sites.slots.items
  pub setup_is : o.calls.setup.now ≡ setup
  pub made_is : o.calls.made ≡ made
  pub replies_are : o.calls.replies.now ≡ j.replies.items
  pub fills : o.calls.fills.now ≡ s.fills.items

-- the lines of what breaks the policy, in their order
abbrev pub breach_lines : Judged → SetupView → List (List ℕ)
breach_lines j setup = lines_of_breaches j.policy j.layout j.labels j.homes.items j.joins.items j.passages.items setup j.replies.items

-- a policy is refused: the line has the number of the fault, and its place
abbrev pub refused_line : ℕ → List ℕ → List ℕ
refused_line code place = codes "policy refused " ++ (decimal code ++ (codes " at " ++ (place ++ codes "\n")))

-- the number is one of those of faults of policies, and the place stands in the line
pub record IsPolicyRefused (text : List ℕ) (verdict : Verdict) : Type 0 where
  pub code : ℕ
  pub is_fault : (600 ≤ code) × (code ≤ 607)
  pub place : List ℕ
  pub one_line : is_in 10 place ≡ false
  pub told : text ≡ refused_line code place
  pub refused : verdict ≡ Refused

-- the set-up has fewer calls than are asked for on the command line: nothing is written
pub record IsPast (setup : SetupView) (after : Option ℕ) (text : List ℕ) (verdict : Verdict) : Type 0 where
  pub past : calls_made setup after ≡ None
  pub nothing : text ≡ []
  pub absent : verdict ≡ Absent

-- a set-up is held to what a policy file means, and objects are called by names that mean them, in the state behind so many calls
pub record IsPolicyMeantBehind (p : ProfileName) (names : Names) (setup : SetupView) (made : ℕ) (file : PolicyFile) (j : Judged) : Type 0 where
  pub policy : IsPolicyMeant p names setup.plan (shown (state_behind p setup made)) file j.policy
  pub labels : AreLabels p names setup.plan (shown (state_behind p setup made)) j.labels

-- the text and the verdict of the policy that a text is, held to the state behind the first calls: as many as are asked for on the command line,
-- or else as the policy says, if it says how many
pub record IsHeldText (policy : List ℕ) (p : ProfileName) (read : ReadView) (after : Option ℕ) (text : List ℕ) (verdict : Verdict) : Type 0 where
  pub file : PolicyFile
  pub says : IsPolicyText policy file
  pub made : ℕ
  pub is_made : calls_made read.setup (option_or after file.after) ≡ Some made
  pub judged : Judged
  pub meant : IsPolicyMeantBehind p read.names read.setup made file judged
  pub is_judged : IsJudged p read.setup made judged
  pub told : (text, verdict) ≡ told_of p read.setup made judged

-- the same, and nothing is told yet
pub record IsJudgedFirst (policy : List ℕ) (p : ProfileName) (read : ReadView) (after : Option ℕ) (made : ℕ) (file : PolicyFile) (j : Judged) : Type 0 where
  pub says : IsPolicyText policy file
  pub is_made : calls_made read.setup (option_or after file.after) ≡ Some made
  pub meant : IsPolicyMeantBehind p read.names read.setup made file j
  pub is_judged : IsJudged p read.setup made j

-- the outcome of a policy before it is written: what is judged; or that the policy is refused, or the set-up has fewer
-- calls
abbrev pub IsJudging : List ℕ → Option ℕ → ProfileName → ReadView → Judging → Type 0
IsJudging policy after p read (Done judged file made) = IsJudgedFirst policy p read after made file judged
IsJudging policy after p read (Answered answer) = IsPolicyRefused answer.text.items answer.verdict ⊎ IsPast read.setup after answer.text.items answer.verdict

-- the policy is refused; or the set-up has fewer calls than are asked for; or it is held to the policy
abbrev pub IsPolicyOf : List ℕ → Option ℕ → ProfileName → ReadView → List ℕ → Verdict → Type 0
IsPolicyOf policy after p read text verdict =
    IsPolicyRefused text verdict ⊎ (IsPast read.setup after text verdict ⊎ IsHeldText policy p read after text verdict)
