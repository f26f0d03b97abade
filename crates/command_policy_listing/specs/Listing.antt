-- A policy as it was read: a line for each thing that it says, in the order of the kinds, and of a kind in the order of their bytes.
use Rattle.std.specs.Prelude.{codes, ℕ, Bool, cond, List, [], ◌∷◌, ◌++◌, map, length}
use Rattle.std.specs.Fmt.{decimal}
use Rattle.setup_values.specs.Told.{profile_text}
use Rattle.setup_format.specs.Views.{SetupView}
use Rattle.setup_report.specs.Report.{terminated}
use Rattle.setup_report.specs.Text.{rights_text}
use Rattle.command_parts.specs.Text.{any_badge_text as badge_told}
use Rattle.setup_policy.specs.declared.policy.Allowance.{Allowance}
use Rattle.setup_policy.specs.declared.policy.Labels.{Labels}
use Rattle.setup_policy.specs.declared.policy.Member.{Member}
use Rattle.setup_policy.specs.declared.policy.OwnRegion.{OwnRegion}
use Rattle.setup_policy.specs.declared.policy.Policy.{Policy}
use Rattle.setup_policy.specs.declared.policy.PolicyTake.{PolicyTake}
use Rattle.setup_policy.specs.declared.policy.PolicyWay.{PolicyWay}
use Rattle.command_policy_text.specs.Names.{actor_name, labelled_text, version_text}
use Rattle.command_policy_text.specs.Order.{in_order}
use Rattle.command_policy_text.specs.Texts.{all_lines_text, policy_calls_text}
use Rattle.command_policy_text.specs.Told.{group_text, labelled_endpoint, labelled_thread, unused_entry_text}

-- ---- a line of each kind, without its end; groups and uses are told as of a layout that is held to the policy

abbrev pub silent_line : Labels → Member → List ℕ
silent_line n m = codes "silent" ++ (codes " " ++ labelled_thread n m.thread)

abbrev pub messages_line : Labels → Member → List ℕ
messages_line n m = codes "messages" ++ (codes " " ++ labelled_thread n m.thread)

abbrev pub region_line : Policy → Labels → OwnRegion → List ℕ
region_line c n r =
    codes "region " ++ (actor_name c r.group ++ (codes " " ++ (labelled_text n.regions.items r.base ++ (codes " bits " ++ decimal r.bits))))

abbrev pub way_line : Policy → Labels → PolicyWay → List ℕ
way_line c n w =
    codes "way " ++ (actor_name c w.from ++ (codes " -> " ++ (labelled_endpoint n w.endpoint ++ (codes " badge " ++ (badge_told w.badge
    ++ (codes " rights " ++ (rights_text w.rights ++ (codes " -> " ++ actor_name c w.to))))))))

abbrev pub use_line : Policy → Labels → Allowance → List ℕ
use_line c n a = unused_entry_text c n a

-- the one may empty slots of the other
abbrev pub take_line : Policy → PolicyTake → List ℕ
take_line c t = codes "take " ++ (actor_name c t.from ++ (codes " -> " ++ actor_name c t.to))

-- ---- the lines of a policy

-- who is trusted, and which groups there are
abbrev pub who_lines : Policy → Labels → List (List ℕ)
who_lines c n =
    in_order (map (silent_line n) c.silent.items) ++ (in_order (map (messages_line n) c.messages.items) ++ in_order (map (group_text c n) c.groups.items))

-- what groups may hold and send, and whose slots they may empty
abbrev pub may_lines : Policy → Labels → List (List ℕ)
may_lines c n =
    in_order (map (region_line c n) c.regions.items) ++ (in_order (map (way_line c n) c.ways.items) ++ (in_order (map (use_line c n) c.uses.items)
    ++ in_order (map (take_line c) c.takes.items)))

-- ---- all of it

abbrev pub switch_text : Bool → List ℕ
switch_text set = cond set (codes "true") (codes "false")

-- the set-up, and how many of its calls are made
abbrev pub listing_head : SetupView → ℕ → List ℕ
listing_head setup made =
    terminated (codes "listing 1 " ++ (profile_text setup.profile ++ (codes " memory_bits " ++ (decimal setup.plan.memory_bits ++ policy_calls_text (length setup.calls) made))))

-- the version of the policy, and both switches
abbrev pub switch_lines : Policy → List (List ℕ)
switch_lines c = (codes "policy " ++ version_text c.version) ∷ (codes "seL4_grant " ++ switch_text c.grant) ∷ (codes "calls_succeed " ++ switch_text c.calls) ∷ []

-- how many entries there are
abbrev pub count_line : Policy → List ℕ
count_line c =
    codes "groups " ++ (decimal (length c.groups.items) ++ (codes " threads " ++ (decimal (length c.members.items) ++ (codes " regions "
    ++ (decimal (length c.regions.items) ++ (codes " ways " ++ (decimal (length c.ways.items) ++ (codes " uses " ++ (decimal (length c.uses.items)
    ++ (codes " takes " ++ decimal (length c.takes.items)))))))))))

unfoldable pub listing_text : Policy → Labels → SetupView → ℕ → List ℕ
listing_text c n setup made =
    listing_head setup made ++ (all_lines_text (switch_lines c) ++ (all_lines_text (who_lines c n) ++ (all_lines_text (may_lines c n) ++ terminated (count_line c))))
