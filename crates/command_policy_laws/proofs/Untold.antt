-- What is so of a policy and a layout where no line tells of a breach.
use Rattle.std.proofs.Common.{◌≡◌, ◌≢◌, ◌⊎◌, inl, inr, ℕ, Bool, true, false, not, ◌&&◌, List, [], ◌∷◌, ◌++◌, map, refl, sym, ap, subst, ◌∙◌}
use Rattle.std.specs.List.{filter}
use Rattle.std.specs.declared.cmp.Ordering.{Ordering}
use Rattle.std.specs.declared.cmp.Ordering.TheVariants.{Less, Equal, Greater}
use Rattle.std.specs.Ordering.{match_ordering}
use Rattle.std.specs.BTreeSet.{insert_key}
use Rattle.kernel_delete.specs.Members.{In}
use Rattle.kernel_delete.proofs.Members.{filter_in, tells}
use Rattle.query_parts.specs.declared.listed.PartUse.{PartUse}
use Rattle.command_parts.specs.declared.takes.Take.{Take}
use Rattle.command_policy_breaches.specs.declared.joining.Join.{Join}
use Rattle.command_policy_breaches.specs.declared.held.HeldRegion.{HeldRegion}
use Rattle.command_policy_breaches.specs.declared.held.Home.{Home}
use Rattle.setup_policy.specs.declared.policy.Labels.{Labels}
use Rattle.command_policy_breaches.specs.declared.held.Layout.{Layout}
use Rattle.setup_policy.specs.declared.policy.Policy.{Policy}
use Rattle.command_policy_breaches.specs.declared.held.Waiting.{Waiting}
use Rattle.command_policy_breaches.specs.declared.ways.Passage.{Passage}
use Rattle.command_policy_breaches.specs.Breaches.{has_other_badge, has_right_too_much, is_region_amiss, is_unlisted, is_wait_amiss}
use Rattle.command_policy_breaches.specs.Joins.{have_one_group, have_two_groups}
use Rattle.command_policy_breaches.specs.Takes.{takes_amiss}
use Rattle.command_policy_breaches.specs.Ways.{is_passage_amiss}
use Rattle.command_policy_text.specs.declared.told.Told.{Told}
use Rattle.command_policy_text.specs.declared.told.Told.TheVariants.{Joined, Grant, Region, Use, Badge, Right, Way, Waits, Taken}
use Rattle.command_policy_text.specs.Kinds as kind
use Rattle.command_policy_text.specs.Order.{text_cmp, put_all, in_order}
use Rattle.command_policy_text.specs.Texts.{breaches, part_breaches, take_breaches, use_breaches, way_breaches}
use Rattle.command_policy_text.specs.Told.{line_told}

-- ---- lists

no_append : {X : Type 0} (xs ys : List X) → xs ++ ys ≡ [] → (xs ≡ []) × (ys ≡ [])
no_append [] ys h = (refl, h)
no_append (x ∷ xs) ys h = cc

no_map : {X Y : Type 0} (f : X → Y) (xs : List X) → map f xs ≡ [] → xs ≡ []
no_map f [] h = refl
no_map f (x ∷ xs) h = cc

-- a member that no filter leaves fails its test
pub fails : {X : Type 0} (t : X → Bool) (xs : List X) (x : X) → filter t xs ≡ [] → In x xs → t x ≡ false
fails t xs x none there = elim (tells (t x)) [
  | inl passes ↦ absurd (subst (In x) none (filter_in t xs x there passes))
  | inr not ↦ not
]

-- ---- texts in order

never_empty : (keys : List (List ℕ)) (k : List ℕ) → insert_key text_cmp keys k ≡ [] → ⊥
never_empty [] k h = cc
never_empty (x ∷ keys) k h =
    (elim (text_cmp k x) as (λ (o : Ordering). match_ordering o (k ∷ x ∷ keys) (x ∷ keys) (x ∷ insert_key text_cmp keys k) ≡ [] → ⊥) [
      | Less ↦ λ e. cc
      | Equal ↦ λ e. cc
      | Greater ↦ λ e. cc
    ]) h

still_some : (texts kept : List (List ℕ)) → (kept ≡ [] → ⊥) → put_all kept texts ≡ [] → ⊥
still_some [] kept some h = some h
still_some (t ∷ texts) kept some h = still_some texts (insert_key text_cmp kept t) (never_empty kept t) h

none_of : {X : Type 0} (f : X → List ℕ) (xs : List X) → in_order (map f xs) ≡ [] → xs ≡ []
none_of f [] h = refl
none_of f (x ∷ xs) h = absurd (still_some (map f xs) (insert_key text_cmp [] (f x)) (never_empty [] (f x)) h)

-- ---- no line

-- each kind of breach is there of nothing
pub record IsUnbroken (c : Policy) (l : Layout) (homes : List Home) (js : List Join) (ws : List Passage) : Type 0 where
  pub joined : filter (λ part. have_two_groups l.homes.items part part) l.parts.items ≡ []
  pub grants : filter (λ (j : Join). not (have_one_group l.homes.items j.from j.to)) js ≡ []
  pub regions : filter (is_region_amiss c l) l.regions.items ≡ []
  pub uses : filter (is_unlisted c l) l.uses.items ≡ []
  pub badges : filter (has_other_badge c l) l.uses.items ≡ []
  pub rights : filter (has_right_too_much c l) l.uses.items ≡ []
  pub ways : filter (is_passage_amiss c l homes [] []) ws ≡ []
  pub takes : takes_amiss c l ≡ []

module _ (c : Policy) (l : Layout) (n : Labels) (homes : List Home) (js : List Join) (ws : List Passage) where
  no_kind : (told : List Told) → in_order (map (line_told c l n homes) told) ≡ [] → told ≡ []
  no_kind told h = none_of (line_told c l n homes) told h

  untold_ways : filter (has_other_badge c l) l.uses.items ≡ [] → filter (has_right_too_much c l) l.uses.items ≡ [] → filter (is_wait_amiss c l) l.waits.items ≡ [] →
      filter (is_passage_amiss c l homes (kind.uses_told c l) (kind.waits_told c l)) ws ≡ [] → filter (is_passage_amiss c l homes [] []) ws ≡ []
  untold_ways badges rights waits h =
      let both : kind.uses_told c l ≡ [] = ap (λ (us : List PartUse). us ++ filter (has_right_too_much c l) l.uses.items) badges ∙ rights in
      ap (λ (us : List PartUse). filter (is_passage_amiss c l homes us []) ws) (sym both)
      ∙ ap (λ (waiting : List Waiting). filter (is_passage_amiss c l homes (kind.uses_told c l) waiting) ws) (sym waits)
      ∙ h

  of_four : part_breaches c l n homes js ≡ [] → use_breaches c l n homes ≡ [] → way_breaches c l n homes ws ≡ [] → take_breaches c l n homes ≡ [] →
      IsUnbroken c l homes js ws
  of_four parts uses ways takes =
      let joined = no_append _ _ parts in
      let grants = no_append _ _ joined.1 in
      let regions = (no_append _ _ grants.1).1 in
      let listed = no_append _ _ uses in
      let badge = no_append _ _ listed.1 in
      let way = no_append _ _ ways in
      let badges = no_map (λ (u : PartUse). Badge u) _ (no_kind (kind.badge_breaches c l) badge.0) in
      let rights = no_map (λ (u : PartUse). Right u) _ (no_kind (kind.right_breaches c l) badge.1) in
      record {
        joined = no_map (λ (i : ℕ). Joined i) _ (no_kind (kind.joined_breaches l) joined.0);
        grants = no_map (λ (j : Join). Grant j) _ (no_kind (kind.grants l js) grants.0);
        regions = no_map (λ (r : HeldRegion). Region r) _ (no_kind (kind.regions c l) regions);
        uses = no_map (λ (u : PartUse). Use u) _ (no_kind (kind.uses c l) listed.0);
        badges = badges;
        rights = rights;
        ways = untold_ways badges rights (no_map (λ (w : Waiting). Waits w) _ (no_kind (kind.waiting_breaches c l) way.1))
            (no_map (λ (w : Passage). Way w) _ (no_kind (kind.passage_breaches c l homes ws) way.0));
        takes = no_map (λ (t : Take). Taken t) _ (no_kind (kind.take_breaches c l) takes);
      }

  pub unbroken : breaches c l n homes js ws ≡ [] → IsUnbroken c l homes js ws
  unfolding breaches
  unbroken h =
      let first = no_append (part_breaches c l n homes js) (use_breaches c l n homes ++ (way_breaches c l n homes ws ++ take_breaches c l n homes)) h in
      let second = no_append (use_breaches c l n homes) (way_breaches c l n homes ws ++ take_breaches c l n homes) first.1 in
      let third = no_append (way_breaches c l n homes ws) (take_breaches c l n homes) second.1 in
      of_four first.0 second.0 third.0 third.1
