-- The text of a layout that is held to a policy, and the verdict.
use Rattle.std.specs.Prelude.{codes, ℕ, ◌+◌, ◌==◌, cond, List, [], ◌++◌, map, length, count_by}
use Rattle.std.specs.List.{flat_map}
use Rattle.std.specs.Fmt.{decimal}
use Rattle.kernel_abstract.specs.declared.call.Reply.{Reply}
use Rattle.setup_values.specs.Told.{profile_text}
use Rattle.setup_format.specs.Views.{SetupView}
use Rattle.setup_report.specs.Report.{terminated}
use Rattle.command_core.specs.declared.fault.Verdict.{Verdict}
use Rattle.command_core.specs.declared.fault.Verdict.TheVariants.{AllMet, NotMet}
use Rattle.command_policy_breaches.specs.declared.joining.Join.{Join}
use Rattle.command_policy_breaches.specs.declared.held.Home.{Home}
use Rattle.setup_policy.specs.declared.policy.Labels.{Labels}
use Rattle.command_policy_breaches.specs.declared.held.Layout.{Layout}
use Rattle.setup_policy.specs.declared.policy.Policy.{Policy}
use Rattle.setup_policy.specs.declared.policy.PolicyVersion.{PolicyVersion}
use Rattle.setup_policy.specs.declared.policy.PolicyVersion.TheVariants.{One, Two}
use Rattle.command_policy_text.specs.declared.text.Counts.{Counts}
use Rattle.command_policy_text.specs.declared.told.Told.{Told}
use Rattle.command_policy_breaches.specs.declared.ways.Passage.{Passage}
use Rattle.command_policy_text.specs.Calls.{call_breaches}
use Rattle.command_policy_text.specs.Kinds as kind
use Rattle.command_policy_text.specs.Names.{version_text}
use Rattle.command_policy_text.specs.Order.{firsts_in_order, in_order}
use Rattle.command_policy_text.specs.Told.{line_told}
use Rattle.command_policy_breaches.specs.Ways.{is_between_parts}

-- the lines of a kind, each once, in the order of their bytes
abbrev pub lines_of_kind : Policy → Layout → Labels → List Home → List Told → List (List ℕ)
lines_of_kind c l n hs told = in_order (map (line_told c l n hs) told)

abbrev pub first_lines : Policy → Layout → Labels → List Home → List (List ℕ)
first_lines c l n hs = lines_of_kind c l n hs (kind.silent c) ++ (lines_of_kind c l n hs (kind.messages c) ++ lines_of_kind c l n hs (kind.groups c))

-- ---- breaches

abbrev pub part_breaches : Policy → Layout → Labels → List Home → List Join → List (List ℕ)
part_breaches c l n hs js =
    lines_of_kind c l n hs (kind.joined_breaches l) ++ (lines_of_kind c l n hs (kind.grants l js)
    ++ (lines_of_kind c l n hs (kind.thread_breaches c l) ++ lines_of_kind c l n hs (kind.regions c l)))

abbrev pub use_breaches : Policy → Layout → Labels → List Home → List (List ℕ)
use_breaches c l n hs = lines_of_kind c l n hs (kind.uses c l) ++ (lines_of_kind c l n hs (kind.badge_breaches c l) ++ lines_of_kind c l n hs (kind.right_breaches c l))

abbrev pub way_breaches : Policy → Layout → Labels → List Home → List Passage → List (List ℕ)
way_breaches c l n hs ws = lines_of_kind c l n hs (kind.passage_breaches c l hs ws) ++ lines_of_kind c l n hs (kind.waiting_breaches c l)

abbrev pub take_breaches : Policy → Layout → Labels → List Home → List (List ℕ)
take_breaches c l n hs = lines_of_kind c l n hs (kind.take_breaches c l)

unfoldable pub breaches : Policy → Layout → Labels → List Home → List Join → List Passage → List (List ℕ)
breaches c l n hs js ws = part_breaches c l n hs js ++ (use_breaches c l n hs ++ (way_breaches c l n hs ws ++ take_breaches c l n hs))

abbrev pub calls_breached : Policy → SetupView → List Reply → List (List ℕ)
calls_breached c setup replies = cond c.calls (call_breaches 1 setup.calls replies) []

-- all lines that tell of breaches: of calls first
abbrev pub breach_lines : Policy → Layout → Labels → List Home → List Join → List Passage → SetupView → List Reply → List (List ℕ)
breach_lines c l n hs js ws setup replies = calls_breached c setup replies ++ breaches c l n hs js ws

-- ---- breaches, each with what stands below its line

-- the line of a breach, and what stands below it
abbrev pub breach_text : (Told → List ℕ) → List ℕ × Told → List ℕ
breach_text places e = terminated e.0 ++ places e.1

-- the lines of a kind, each once, in the order of their bytes; below each stands what stands below the first that is told by it
abbrev pub lines_with_places : (Told → List ℕ) → Policy → Layout → Labels → List Home → List Told → List (List ℕ)
lines_with_places places c l n hs told = map (breach_text places) (firsts_in_order (line_told c l n hs) told)

unfoldable pub breaches_with_places : (Told → List ℕ) → Policy → Layout → Labels → List Home → List Join → List Passage → List (List ℕ)
breaches_with_places places c l n hs js ws = flat_map (lines_with_places places c l n hs) (kind.breach_kinds c l hs js ws)

-- ---- what is allowed and not there

abbrev pub unused_entries : Policy → Layout → Labels → List Home → List (List ℕ)
unused_entries c l n hs =
    lines_of_kind c l n hs (kind.idle_ways c l) ++ (lines_of_kind c l n hs (kind.idle_uses c l) ++ lines_of_kind c l n hs (kind.idle_rights c l))

abbrev pub unused_groups : Policy → Layout → Labels → List Home → List (List ℕ)
unused_groups c l n hs = lines_of_kind c l n hs (kind.idle_regions c l) ++ lines_of_kind c l n hs (kind.idle_groups c hs)

abbrev pub unused_takes : Policy → Layout → Labels → List Home → List (List ℕ)
unused_takes c l n hs = lines_of_kind c l n hs (kind.idle_takes c l)

unfoldable pub unused : Policy → Layout → Labels → List Home → List (List ℕ)
unused c l n hs = unused_entries c l n hs ++ (unused_groups c l n hs ++ unused_takes c l n hs)

-- ---- all of it

abbrev pub policy_calls_text : ℕ → ℕ → List ℕ
policy_calls_text calls made = codes " calls " ++ (decimal calls ++ (codes " after " ++ decimal made))

-- the version of the policy, the set-up, and how many of its calls are made
abbrev pub policy_head_line : PolicyVersion → SetupView → ℕ → List ℕ
policy_head_line version setup made =
    terminated (codes "policy " ++ (version_text version ++ (codes " " ++ (profile_text setup.profile ++ (codes " memory_bits "
    ++ (decimal setup.plan.memory_bits ++ policy_calls_text (length setup.calls) made))))))

abbrev pub kept_or_broken : ℕ → List ℕ
kept_or_broken breaches = cond (breaches == 0) (codes "kept") (codes "broken")

-- how many takes there are, of which version 1 says nothing
abbrev pub takes_text : PolicyVersion → ℕ → List ℕ
takes_text One takes = []
takes_text Two takes = codes " takes " ++ decimal takes

abbrev pub last_line : PolicyVersion → Counts → List ℕ
last_line version k =
    terminated (kept_or_broken k.breaches ++ (codes " groups " ++ (decimal k.groups ++ (codes " parts " ++ (decimal k.parts ++ (codes " ways " ++ (decimal k.ways
    ++ (takes_text version k.takes ++ (codes " breaches " ++ (decimal k.breaches ++ (codes " unused " ++ decimal k.unused)))))))))))

-- how many lines tell of breaches
abbrev pub breach_count : Policy → Layout → Labels → List Home → List Join → List Passage → SetupView → List Reply → ℕ
breach_count c l n hs js ws setup replies = length (calls_breached c setup replies) + length (breaches c l n hs js ws)

abbrev pub counts : Policy → Layout → Labels → List Home → List Join → List Passage → SetupView → List Reply → Counts
counts c l n hs js ws setup replies = record {
  groups = length c.groups.items;
  parts = length l.parts.items;
  ways = count_by is_between_parts ws;
  takes = length l.takes.items;
  breaches = breach_count c l n hs js ws setup replies;
  unused = length (unused c l n hs);
}

-- the policy is kept if nothing is told of a breach
abbrev pub verdict_by_count : ℕ → Verdict
verdict_by_count breaches = cond (breaches == 0) AllMet NotMet

abbrev pub all_lines_text : List (List ℕ) → List ℕ
all_lines_text lines = flat_map terminated lines

abbrev pub text_itself : List ℕ → List ℕ
text_itself text = text

-- the text; `places` is what stands below the line of what is told of a breach
unfoldable pub text : (Told → List ℕ) → Policy → Layout → Labels → List Home → List Join → List Passage → SetupView → List Reply → List ℕ
text places c l n hs js ws setup replies =
    policy_head_line c.version setup (length replies) ++ (all_lines_text (first_lines c l n hs) ++ (all_lines_text (calls_breached c setup replies)
    ++ (flat_map text_itself (breaches_with_places places c l n hs js ws) ++ (all_lines_text (unused c l n hs) ++ last_line c.version (counts c l n hs js ws setup replies)))))

-- the text of a layout that is held to a policy, and the verdict: `AllMet` exactly if no line tells of a breach
unfoldable pub text_and_verdict : (Told → List ℕ) → Policy → Layout → Labels → List Home → List Join → List Passage → SetupView → List Reply → List ℕ × Verdict
text_and_verdict places c l n hs js ws setup replies =
    (text places c l n hs js ws setup replies, verdict_by_count (breach_count c l n hs js ws setup replies))
