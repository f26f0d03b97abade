-- Where breaches come from, behind the first calls of a set-up; and what is told without it.
use Rattle.std.proofs.Common.{◌≡◌, ◌≤◌, ℕ, List, map, length, Option, Some, None, refl, sym, ap, subst, ◌∙◌}
use Rattle.cap_core.specs.declared.profile.ProfileName.{ProfileName}
use Rattle.cap_core.specs.Numbers.{slot_bits}
use Rattle.kernel_abstract.specs.declared.call.Reply.{Reply}
use Rattle.kernel_abstract.specs.Plan.{IsPlan}
use Rattle.setup_format.specs.Views.{SetupView}
use Rattle.setup_report.specs.Naming.{Texts}
use Rattle.command_core.specs.declared.fault.Verdict.{Verdict}
use Rattle.command_core.specs.declared.fault.Verdict.TheVariants.{AllMet}
use Rattle.command_parts.specs.declared.takes.PartSlot.{PartSlot}
use Rattle.setup_policy.specs.declared.policy.PolicyVersion.{PolicyVersion}
use Rattle.setup_policy.specs.declared.policy.PolicyVersion.TheVariants.{One, Two}
use Rattle.command_policy_breaches.specs.Joins.{all_joined, single_block}
use Rattle.command_policy_breaches.specs.declared.held.Block.{Block}
use Rattle.command_policy_places.specs.Places.{AreFills, AreSites, fill_of, filled_by, texts_by_labels, texts_told, waits_since}
use Rattle.command_policy_places.specs.declared.known.Sites.{Sites}
use Rattle.command_policy_text.specs.declared.places.Origin.{Origin}
use Rattle.command_policy_text.specs.declared.told.Told.{Told}
use Rattle.command_policy_text.specs.Places.{IsOrigin, place_lines, places_told}
use Rattle.command_policy_text.proofs.Whole.{placeless}
use Rattle.command_policy.specs.declared.judging.Judged.{Judged}
use Rattle.command_policy.specs.declared.judging.Sources.{Sources}
use Rattle.command_policy.specs.Policies.{IsOriginOf, places_behind, told_in, told_of, told_with}

module _ (p : ProfileName) (setup : SetupView) (made : ℕ) (s : Sources) (o : Origin) where
  -- the calls can be made again
  pub is_origin : (j : Judged) (slots : List ℕ) → IsOriginOf s setup made j o → IsPlan p setup.plan → made ≤ length setup.calls →
      s.fills.items ≡ map (fill_of p setup made) slots → IsOrigin p (Some o)
  is_origin j slots is plan within fills = (
    subst (λ (v : SetupView). IsPlan p v.plan) (sym is.setup_is) plan,
    subst (λ (v : SetupView). o.calls.made ≤ length v.calls) (sym is.setup_is) (subst (λ (m : ℕ). m ≤ length setup.calls) (sym is.made_is) within),
    subst (λ (v : SetupView). AreFills p v o.calls.made o.calls.fills.now) (sym is.setup_is)
        (subst (λ (m : ℕ). AreFills p setup m o.calls.fills.now) (sym is.made_is) (record { slots = slots; are = is.fills ∙ fills })),
  )

  -- the places are those behind the first calls
  pub origin_behind : (j : Judged) → IsOriginOf s setup made j o → AreSites p setup made j.layout j.joins.items s.sites →
      places_told p j.policy j.layout (Some o) ≡ places_behind p setup made j
  origin_behind j is are =
      ap (λ (x : Sites). place_lines (texts_told o.names) (filled_by p o.calls.setup.now o.calls.made) (waits_since o.calls.setup.now.calls o.calls.replies.now)
      j.policy j.layout x.blocks.items x.slots.items) is.sites
      ∙ ap (λ (v : SetupView). place_lines (texts_told o.names) (filled_by p v o.calls.made) (waits_since v.calls o.calls.replies.now)
      j.policy j.layout s.sites.blocks.items s.sites.slots.items) is.setup_is
      ∙ ap (λ (m : ℕ). place_lines (texts_told o.names) (filled_by p setup m) (waits_since setup.calls o.calls.replies.now)
      j.policy j.layout s.sites.blocks.items s.sites.slots.items) is.made_is
      ∙ ap (λ (rs : List Reply). place_lines (texts_told o.names) (filled_by p setup made) (waits_since setup.calls rs)
      j.policy j.layout s.sites.blocks.items s.sites.slots.items) is.replies_are
      ∙ ap (λ (t : Texts). place_lines t (filled_by p setup made) (waits_since setup.calls j.replies.items)
      j.policy j.layout s.sites.blocks.items s.sites.slots.items) is.names_are
      ∙ ap (λ (bits : ℕ). place_lines (texts_by_labels j.labels bits s.sites.slots.items) (filled_by p setup made) (waits_since setup.calls j.replies.items)
      j.policy j.layout s.sites.blocks.items s.sites.slots.items) are.slot_bits_is
      ∙ ap (λ (bs : List Block). place_lines (texts_by_labels j.labels (slot_bits p) s.sites.slots.items) (filled_by p setup made) (waits_since setup.calls j.replies.items)
      j.policy j.layout bs s.sites.slots.items) are.blocks_are
      ∙ ap (λ (ss : List PartSlot). place_lines (texts_by_labels j.labels (slot_bits p) ss) (filled_by p setup made) (waits_since setup.calls j.replies.items)
      j.policy j.layout (all_joined (map single_block j.layout.parts.items) j.joins.items) ss) are.slots_are

module _ (p : ProfileName) (setup : SetupView) (made : ℕ) (j : Judged) where
  -- where nothing is broken, there are no places to be told
  pub told_of_kept : (text : List ℕ) (verdict : Verdict) → verdict ≡ AllMet → ◌≡◌ {A = List ℕ × Verdict} (text, verdict) (told_with (places_told p j.policy j.layout None) j setup) →
      ◌≡◌ {A = List ℕ × Verdict} (text, verdict) (told_of p setup made j)
  told_of_kept text verdict met is =
      let pair = ap (λ (v : Verdict). (text, v)) met in
      pair ∙ placeless (places_told p j.policy j.layout None) (told_in j.policy.version (places_behind p setup made j)) j.policy j.layout j.labels j.homes.items j.joins.items
      j.passages.items setup j.replies.items text (sym pair ∙ is)

  -- version 1 tells of none
  pub told_of_one : j.policy.version ≡ One → told_with (places_told p j.policy j.layout None) j setup ≡ told_of p setup made j
  told_of_one one = ap (λ (v : PolicyVersion). told_with (told_in v (places_behind p setup made j)) j setup) (sym one)

  -- version 2 tells of all
  pub told_of_two : j.policy.version ≡ Two → told_with (places_behind p setup made j) j setup ≡ told_of p setup made j
  told_of_two two = ap (λ (v : PolicyVersion). told_with (told_in v (places_behind p setup made j)) j setup) (sym two)
