-- What is told of the least parts is broken by all parts that are closed around the same threads.
use Rattle.std.proofs.Common.{◌≡◌, ◌≢◌, ◌⊎◌, inl, inr, ℕ, Bool, true, false, not, ◌==◌, ◌&&◌, ◌||◌, List, [], map, Option, Some, refl, sym, ap, subst, ◌∙◌, eq-eqb}
use Rattle.std.specs.List.{filter, filter_map, flat_map, list_any, Contains}
use Rattle.std.proofs.lemmas.Bool.{eqb-true}
use Rattle.cap_core.specs.declared.profile.ProfileName.{ProfileName}
use Rattle.cap_core.specs.declared.capability.Cap.TheVariants.{Endpoint}
use Rattle.cap_core.specs.Rights.{write_bit, read_bit, grant_bit, grant_reply_bit}
use Rattle.kernel_forest.specs.Forest.{descendants, Forest}
use Rattle.kernel_forest.specs.Entries.{Entry, is_at}
use Rattle.kernel_delete.specs.Members.{In}
use Rattle.kernel_delete.proofs.Clearable.{contains_in, in_contains}
use Rattle.kernel_delete.proofs.Members.{both_true, either_true, any_in, any_of, filter_in, in_filter, eqb_self}
use Rattle.kernel_abstract.specs.Decode.{has_right}
use Rattle.kernel_abstract.specs.State.{State, shown}
use Rattle.kernel_abstract.specs.Reached.{IsReached}
use Rattle.kernel_abstract.proofs.Reached.Simulation.{reached_is}
use Rattle.query_parts.specs.declared.listed.PartUse.{PartUse}
use Rattle.query_parts.specs.Least.{AreClosedAround}
use Rattle.query_parts.specs.Parts.{IsWithin, Parts}
use Rattle.query_parts.specs.Listed.{part_at, parts_listed, use_of}
use Rattle.query_parts.proofs.Closed.{shown_derivations}
use Rattle.query_parts.proofs.Lists.{in_mapped, from_mapped}
use Rattle.setup_report.specs.State.{is_in, rising}
use Rattle.command_parts.specs.declared.takes.Take.{Take}
use Rattle.command_parts.specs.Takes.{part_slots, taken_by, taking}
use Rattle.command_parts.specs.Threads.{callers}
use Rattle.setup_policy.specs.declared.policy.Allowance.{Allowance}
use Rattle.setup_policy.specs.declared.policy.Member.{Member}
use Rattle.setup_policy.specs.declared.policy.Policy.{Policy}
use Rattle.setup_policy.specs.declared.policy.PolicyTake.{PolicyTake}
use Rattle.setup_policy.specs.declared.policy.PolicyWay.{PolicyWay}
use Rattle.command_policy_breaches.specs.declared.held.Home.{Home}
use Rattle.command_policy_breaches.specs.declared.held.Layout.{Layout}
use Rattle.command_policy_breaches.specs.declared.held.Waiting.{Waiting}
use Rattle.command_policy_breaches.specs.declared.ways.Passage.{Passage}
use Rattle.command_policy_breaches.specs.Breaches.{exceeds, has_entry, has_no_right, has_other_badge, has_region, has_right_too_much, is_entry, is_listed, is_own_endpoint, is_stray_right, is_unlisted, lets_badge, lets_ever, lets_with, meets, needs_entry, range_lies_within, strays_somehow}
use Rattle.command_policy_breaches.specs.Joins.{block_of_part, blocks, has_another, have_two_groups, homes_joined, homes_joined_of, is_in_either, number_at}
use Rattle.command_policy_breaches.specs.Layouts.{IsLayoutOf, home, homes_of, part_of_member, trusted_threads}
use Rattle.command_policy_breaches.specs.Sides.{is_at_home, is_found_home}
use Rattle.command_policy_breaches.specs.Takes.{have_group_in_common, is_home_in_both, is_take_amiss, is_take_let, is_take_of}
use Rattle.command_policy_breaches.specs.Ways.{have_one_in_common, is_home_of_both, is_let, is_passage_amiss, is_way_between}
use Rattle.command_policy_laws.specs.Broken.{IsOfGroup, IsPassageOf, IsTakeOf, IsUseOf, NamesGroups, NoPartsStand, is_use_told, passage_by, WhatIsToldIsBroken}
use Rattle.command_policy_laws.specs.Keeps.{KeepPolicy}
use Rattle.command_policy_laws.specs.Unbroken.{allows_right, any_endpoint, entries_allow, has_entry_with, is_entry_of, is_in_region, is_in_their_region, is_their_own, is_way_of, may_group_pass, may_hold, may_take}
use Rattle.command_policy_laws.proofs.Groups.{from_flat, from_found, from_rising, home_at, in_flat, in_found, in_rising}
use Rattle.command_policy_laws.proofs.Keeps.{least_keep_most}
use Rattle.command_policy_laws.proofs.Standing.{StandsBelow, taken_stands}

clash : (b : Bool) → b ≡ true → not b ≡ true → ⊥
clash true h k = cc
clash false h k = cc

both_are : (b c : Bool) → b ≡ true → c ≡ true → b && c ≡ true
both_are b c h k = rw (h, k) refl

module _ (p : ProfileName) (c : Policy) (l : Layout) (A : State) (reached : IsReached p A) (is : IsLayoutOf p c (shown A) l) where
  -- a thread of a group in a part is a home of the group there
  home_in : (m : Member) (part : ℕ) → IsOfGroup c m → part_at l.memory.items m.thread ≡ Some part → In (home m.actor part) l.homes.items
  home_in m part of lies =
      let in_members = filter_in (λ (x : Member). x.actor == m.actor) c.members.items m (contains_in c.members.items m of.member) (eqb_self m.actor) in
      subst (In (home m.actor part)) (sym is.homes_are)
      (in_flat (homes_of l.memory.items c.members.items) c.groups.items m.actor (home m.actor part) (contains_in c.groups.items m.actor of.group)
      (in_mapped (home m.actor) part (rising (filter_map (part_of_member l.memory.items) (filter (λ (x : Member). x.actor == m.actor) c.members.items)))
      (in_rising part _ (in_found (part_of_member l.memory.items) (filter (λ (x : Member). x.actor == m.actor) c.members.items) m part in_members lies))))

  at : (m : Member) (part : ℕ) → IsOfGroup c m → part_at l.memory.items m.thread ≡ Some part → is_at_home l.homes.items part m.actor ≡ true
  at m part of lies = home_at l.homes.items part m.actor (home m.actor part, (home_in m part of lies, (refl, refl)))

  -- so it is of the joined parts
  joined_in : (m : Member) (part : ℕ) → IsOfGroup c m → part_at l.memory.items m.thread ≡ Some part →
      In (home m.actor (block_of_part (blocks c l) part)) (homes_joined c l (blocks c l))
  joined_in m part of lies =
      let bs = blocks c l in
      let own = filter_in (λ (h : Home). h.group == m.actor) l.homes.items (home m.actor part) (home_in m part of lies) (eqb_self m.actor) in
      in_flat (homes_joined_of l.homes.items bs) c.groups.items m.actor (home m.actor (block_of_part bs part)) (contains_in c.groups.items m.actor of.group)
      (in_mapped (home m.actor) (block_of_part bs part) (rising (map (number_at bs) (filter (λ (h : Home). h.group == m.actor) l.homes.items)))
      (in_rising (block_of_part bs part) (map (number_at bs) (filter (λ (h : Home). h.group == m.actor) l.homes.items))
      (in_mapped (number_at bs) (home m.actor part) (filter (λ (h : Home). h.group == m.actor) l.homes.items) own)))

  at_joined : (m : Member) (part : ℕ) → IsOfGroup c m → part_at l.memory.items m.thread ≡ Some part →
      is_at_home (homes_joined c l (blocks c l)) (block_of_part (blocks c l) part) m.actor ≡ true
  at_joined m part of lies =
      home_at (homes_joined c l (blocks c l)) (block_of_part (blocks c l) part) m.actor (home m.actor (block_of_part (blocks c l) part), (joined_in m part of lies, (refl, refl)))

  -- a use may stand in its part
  use_within : (u : PartUse) → Contains l.uses.items u → IsWithin p (parts_listed l.memory.items l.uses.items) u.part (Endpoint u.endpoint u.badge u.rights)
  use_within u used =
      inr (
        use_of u,
        (
          in_contains (map use_of (filter (λ (x : PartUse). x.part == u.part) l.uses.items)) (use_of u)
              (in_mapped use_of u (filter (λ (x : PartUse). x.part == u.part) l.uses.items)
              (filter_in (λ (x : PartUse). x.part == u.part) l.uses.items u (contains_in l.uses.items u used) (eqb_self u.part))),
          record { endpoint_is = refl; badge_fits = inl refl; rights_fit = λ right has. has },
        ),
      )

  -- and each home is that of such a thread
  record IsHomeOf (h : Home) (m : Member) : Type 0 where
    of : IsOfGroup c m
    lies : part_at l.memory.items m.thread ≡ Some h.part
    actor : m.actor ≡ h.group

  lived_in : (h : Home) → In h l.homes.items → (m : Member) × IsHomeOf h m
  lived_in h there =
      let g = from_flat (homes_of l.memory.items c.members.items) c.groups.items h (subst (In h) is.homes_are there) in
      let i = from_mapped (home g.0) (rising (filter_map (part_of_member l.memory.items) (filter (λ (m : Member). m.actor == g.0) c.members.items))) h g.1.1 in
      let m = from_found (part_of_member l.memory.items) (filter (λ (m : Member). m.actor == g.0) c.members.items) i.0 (from_rising i.0 _ i.1.0) in
      let own = in_filter (λ (x : Member). x.actor == g.0) c.members.items m.0 m.1.0 in
      let same : m.0.actor ≡ g.0 = eqb-true m.0.actor g.0 own.1 in
      let part : h.part ≡ i.0 = ap (λ (x : Home). x.part) i.1.1 in
      let group : h.group ≡ g.0 = ap (λ (x : Home). x.group) i.1.1 in (
        m.0,
        record {
          of = record { member = in_contains c.members.items m.0 own.0; group = subst (Contains c.groups.items) (sym same) (in_contains c.groups.items g.0 g.1.0) };
          lies = m.1.1 ∙ ap (λ n. Some n) (sym part);
          actor = same ∙ sym group;
        },
      )

  module _ (group_of : ℕ → Option ℕ) (names : NamesGroups c group_of) (others : Parts) (closed : AreClosedAround p (callers p (shown A) (trusted_threads c)) A others)
      (keep : KeepPolicy p group_of any_endpoint (may_hold c l) (may_group_pass c) (shown A) others) where
    kept : KeepPolicy p group_of any_endpoint (may_hold c l) (may_group_pass c) (shown A) (parts_listed l.memory.items l.uses.items)
    kept =
        (least_keep_most p (callers p (shown A) (trusted_threads c)) l.memory.items l.uses.items (shown A) group_of any_endpoint (may_hold c l) (may_group_pass c)
        (may_take c) is.right.least A reached refl others closed).0 keep

    -- ---- threads of two groups in one part

    in_it : (part n : ℕ) → (n == part || n == part) ≡ true → n ≡ part
    in_it part n h = elim (either_true (n == part) (n == part) h) [ inl same ↦ eqb-true n part same | inr same ↦ eqb-true n part same ]

    joined : (part : ℕ) → have_two_groups l.homes.items part part ≡ true → ⊥
    joined part two =
        let homes = l.homes.items in
        let m = any_of (λ (h : Home). is_in_either part part h && has_another homes part part h.group) homes two in
        let one = both_true (is_in_either part part m.0) (has_another homes part part m.0.group) m.1.1 in
        let n = any_of (λ (h : Home). is_in_either part part h && not (h.group == m.0.group)) homes one.1 in
        let other = both_true (is_in_either part part n.0) (not (n.0.group == m.0.group)) n.1.1 in
        let a = lived_in m.0 m.1.0 in
        let b = lived_in n.0 n.1.0 in
        let first : part_at l.memory.items a.0.thread ≡ Some part = a.1.lies ∙ ap (λ k. Some k) (in_it part m.0.part one.0) in
        let second : part_at l.memory.items b.0.thread ≡ Some part = b.1.lies ∙ ap (λ k. Some k) (in_it part n.0.part other.0) in
        let same : b.0.actor ≡ a.0.actor = kept.apart b.0.thread a.0.thread part b.0.actor a.0.actor second first (names b.0 b.1.of) (names a.0 a.1.of) in
        clash (n.0.group == m.0.group) (eq-eqb n.0.group m.0.group (sym b.1.actor ∙ (same ∙ a.1.actor))) other.1

    -- ---- a use

    module _ (u : PartUse) (m : Member) (of : IsUseOf c l u m) where
      abbrev g : ℕ
      g = m.actor

      abbrev e : ℕ
      e = u.endpoint

      here : is_at_home l.homes.items u.part g ≡ true
      here = at m u.part of.named of.there

      may : may_hold c l g e u.badge u.rights ≡ true
      may = kept.holds m.thread u.part g e u.badge u.rights of.there (names m of.named) refl (use_within u of.used)

      own_there : is_in_their_region c l.endpoint_bits g e ≡ true → is_own_endpoint c l u.part e ≡ true
      own_there theirs =
          let r = any_of (is_in_region l.endpoint_bits g e) c.regions.items theirs in
          let both = both_true (r.0.group == g) (range_lies_within e l.endpoint_bits r.0.base r.0.bits) r.1.1 in
          any_in (has_region l u.part e l.endpoint_bits) c.regions.items r.0 r.1.0
          (both_are (range_lies_within e l.endpoint_bits r.0.base r.0.bits) (is_at_home l.homes.items u.part r.0.group) both.1
          (subst (λ k. is_at_home l.homes.items u.part k ≡ true) (sym (eqb-true r.0.group g both.0)) here))

      -- the endpoint is none of the group's own, so entries allow the use
      allowed : needs_entry c l u ≡ true → entries_allow c g e u.badge.0 u.rights ≡ true
      allowed needs = elim (either_true (is_their_own c l g e) (entries_allow c g e u.badge.0 u.rights) may) [
        | inr entries ↦ entries
        | inl own ↦ elim (either_true (is_in_their_region c l.endpoint_bits g e) (is_found_home l.homes.items g (part_at l.memory.items e)) own) [
          | inl theirs ↦ absurd (clash (is_own_endpoint c l u.part e) (own_there theirs) needs)
          | inr found ↦ let wrong : false ≡ true = sym of.elsewhere ∙ found in cc
        ]
      ]

      -- an entry of the group is one of the part
      its : (badge : ℕ) (a : Allowance) → is_entry_of g e badge a ≡ true → (is_entry l u.part e a ≡ true) × (meets a.badge badge ≡ true)
      its badge a entry =
          let one = both_true (a.actor == g) (a.endpoint == e && meets a.badge badge) entry in
          let two = both_true (a.endpoint == e) (meets a.badge badge) one.1 in
          (both_are (a.endpoint == e) (is_at_home l.homes.items u.part a.actor) two.0 (subst (λ k. is_at_home l.homes.items u.part k ≡ true) (sym (eqb-true a.actor g one.0)) here), two.1)

      module _ (allow : entries_allow c g e u.badge.0 u.rights ≡ true) where
        some : list_any (is_entry_of g e u.badge.0) c.allowances.items ≡ true
        some = (both_true (list_any (is_entry_of g e u.badge.0) c.allowances.items) _ allow).0

        listed : has_entry c l u.part e ≡ true
        listed = let a = any_of (is_entry_of g e u.badge.0) c.allowances.items some in any_in (is_entry l u.part e) c.allowances.items a.0 a.1.0 (its u.badge.0 a.0 a.1.1).0

        badge_let : lets_badge c l u.part e u.badge.0 ≡ true
        badge_let =
            let a = any_of (is_entry_of g e u.badge.0) c.allowances.items some in
            let i = its u.badge.0 a.0 a.1.1 in
            any_in (λ (a : Allowance). is_entry l u.part e a && meets a.badge u.badge.0) c.allowances.items a.0 a.1.0 (both_are (is_entry l u.part e a.0) (meets a.0.badge u.badge.0) i.0 i.1)

        -- a right that the use has, entries let
        module _ (right : ℕ) (allows : allows_right c g e u.badge.0 u.rights right ≡ true) where
          with_entry : has_right right u.rights ≡ true → has_entry_with c g e u.badge.0 right ≡ true
          with_entry has = elim (either_true (not (has_right right u.rights)) (has_entry_with c g e u.badge.0 right) allows) [
            | inl none ↦ absurd (clash (has_right right u.rights) has none)
            | inr entry ↦ entry
          ]

          lets_it : has_right right u.rights ≡ true → lets_with c l u.part e u.badge.0 right ≡ true
          lets_it has =
              let a = any_of (λ (a : Allowance). is_entry_of g e u.badge.0 a && has_right right a.rights) c.allowances.items (with_entry has) in
              let both = both_true (is_entry_of g e u.badge.0 a.0) (has_right right a.0.rights) a.1.1 in
              let i = its u.badge.0 a.0 both.0 in
              any_in (λ (a : Allowance). is_entry l u.part e a && (has_right right a.rights && meets a.badge u.badge.0)) c.allowances.items a.0 a.1.0
              (both_are (is_entry l u.part e a.0) (has_right right a.0.rights && meets a.0.badge u.badge.0) i.0 (both_are (has_right right a.0.rights) (meets a.0.badge u.badge.0) both.1 i.1))

          lets_it_ever : has_right right u.rights ≡ true → lets_ever c l u.part e right ≡ true
          lets_it_ever has =
              let a = any_of (λ (a : Allowance). is_entry_of g e u.badge.0 a && has_right right a.rights) c.allowances.items (with_entry has) in
              let both = both_true (is_entry_of g e u.badge.0 a.0) (has_right right a.0.rights) a.1.1 in
              any_in (λ (a : Allowance). is_entry l u.part e a && has_right right a.rights) c.allowances.items a.0 a.1.0
              (both_are (is_entry l u.part e a.0) (has_right right a.0.rights) (its u.badge.0 a.0 both.0).0 both.1)

          no_excess : exceeds c l u right ≡ true → ⊥
          no_excess h =
              let both = both_true (has_right right u.rights) (not (lets_ever c l u.part e right)) h in
              clash (lets_ever c l u.part e right) (lets_it_ever both.0) both.1

          no_stray : is_stray_right c l u right ≡ true → ⊥
          no_stray h =
              let one = both_true (has_right right u.rights) (lets_ever c l u.part e right && not (lets_with c l u.part e u.badge.0 right)) h in
              let two = both_true (lets_ever c l u.part e right) (not (lets_with c l u.part e u.badge.0 right)) one.1 in
              clash (lets_with c l u.part e u.badge.0 right) (lets_it one.0) two.1

        abbrev Allows : ℕ → Type 0
        Allows right = allows_right c g e u.badge.0 u.rights right ≡ true

        all_rights : Allows write_bit × (Allows read_bit × (Allows grant_bit × Allows grant_reply_bit))
        all_rights =
            let one = both_true (list_any (is_entry_of g e u.badge.0) c.allowances.items) _ allow in
            let two = both_true (allows_right c g e u.badge.0 u.rights write_bit) _ one.1 in
            let three = both_true (allows_right c g e u.badge.0 u.rights read_bit) _ two.1 in
            let four = both_true (allows_right c g e u.badge.0 u.rights grant_bit) (allows_right c g e u.badge.0 u.rights grant_reply_bit) three.1 in
            (two.0, (three.0, (four.0, four.1)))

        none_exceeds : (exceeds c l u write_bit || (exceeds c l u read_bit || (exceeds c l u grant_bit || exceeds c l u grant_reply_bit))) ≡ true → ⊥
        none_exceeds h = elim (either_true (exceeds c l u write_bit) _ h) [
          | inl w ↦ no_excess write_bit all_rights.0 w
          | inr h ↦ elim (either_true (exceeds c l u read_bit) _ h) [
            | inl r ↦ no_excess read_bit all_rights.1.0 r
            | inr h ↦ elim (either_true (exceeds c l u grant_bit) (exceeds c l u grant_reply_bit) h) [
              | inl k ↦ no_excess grant_bit all_rights.1.1.0 k
              | inr k ↦ no_excess grant_reply_bit all_rights.1.1.1 k
            ]
          ]
        ]

        none_strays : strays_somehow c l u ≡ true → ⊥
        none_strays h = elim (either_true (is_stray_right c l u write_bit) _ h) [
          | inl w ↦ no_stray write_bit all_rights.0 w
          | inr h ↦ elim (either_true (is_stray_right c l u read_bit) _ h) [
            | inl r ↦ no_stray read_bit all_rights.1.0 r
            | inr h ↦ elim (either_true (is_stray_right c l u grant_bit) _ h) [
              | inl k ↦ no_stray grant_bit all_rights.1.1.0 k
              | inr h ↦ elim (either_true (is_stray_right c l u grant_reply_bit) _ h) [
                | inl k ↦ no_stray grant_reply_bit all_rights.1.1.1 k
                | inr h ↦ clash (lets_badge c l u.part e u.badge.0) badge_let (both_true (has_no_right u) (not (lets_badge c l u.part e u.badge.0)) h).1
              ]
            ]
          ]
        ]

      untold : is_use_told c l u ≡ true → ⊥
      untold h = elim (either_true (is_unlisted c l u) (has_other_badge c l u || has_right_too_much c l u) h) [
        | inl none ↦ let both = both_true (needs_entry c l u) (not (has_entry c l u.part e)) none in clash (has_entry c l u.part e) (listed (allowed both.0)) both.1
        | inr h ↦ elim (either_true (has_other_badge c l u) (has_right_too_much c l u) h) [
          | inl badge ↦ let both = both_true (is_listed c l u) (strays_somehow c l u) badge in none_strays (allowed (both_true (needs_entry c l u) (has_entry c l u.part e) both.0).0) both.1
          | inr right ↦ let both = both_true (is_listed c l u) _ right in none_exceeds (allowed (both_true (needs_entry c l u) (has_entry c l u.part e) both.0).0) both.1
        ]
      ]

    -- ---- a passage by a use to send and a use to receive

    module _ (u r : PartUse) (m n : Member) (of : IsPassageOf c l u r m n) where
      abbrev hs : List Home
      hs = homes_joined c l (blocks c l)

      abbrev i : ℕ
      i = block_of_part (blocks c l) u.part

      abbrev j : ℕ
      j = block_of_part (blocks c l) r.part

      abbrev w : Passage
      w = passage_by c l u r

      both_there : m.actor ≡ n.actor → have_one_in_common hs w ≡ true
      both_there same =
          any_in (is_home_of_both hs w) hs (home m.actor i) (joined_in m u.part of.from of.here)
          (both_are (i == i) (is_at_home hs j m.actor) (eqb_self i) (subst (λ k. is_at_home hs j k ≡ true) (sym same) (at_joined n r.part of.to of.there)))

      passes : m.actor ≢ n.actor → may_group_pass c m.actor u.endpoint u.badge n.actor ≡ true
      passes differ =
          kept.passes m.thread n.thread m.actor n.actor u.endpoint u.badge (record { label = 0; words = []; count = 0 }) (names m of.from) (names n of.to) differ
          (inr (u.part, (of.here, (u.rights, (use_within u of.sender, of.sends)))))
          (inr (r.part, (of.there, (r.badge, (r.rights, (subst (λ e. IsWithin p (parts_listed l.memory.items l.uses.items) r.part (Endpoint e r.badge r.rights)) of.same (use_within r of.receiver), of.hears))))))

      let_so : may_group_pass c m.actor u.endpoint u.badge n.actor ≡ true → is_let c hs w ≡ true
      let_so may =
          let way = any_of (is_way_of m.actor u.endpoint u.badge.0 n.actor) c.ways.items may in
          let one = both_true (way.0.from == m.actor) _ way.1.1 in
          let two = both_true (way.0.endpoint == u.endpoint) _ one.1 in
          let three = both_true (way.0.to == n.actor) (meets way.0.badge u.badge.0) two.1 in
          let from : is_at_home hs i way.0.from ≡ true = subst (λ k. is_at_home hs i k ≡ true) (sym (eqb-true way.0.from m.actor one.0)) (at_joined m u.part of.from of.here) in
          let to : is_at_home hs j way.0.to ≡ true = subst (λ k. is_at_home hs j k ≡ true) (sym (eqb-true way.0.to n.actor three.0)) (at_joined n r.part of.to of.there) in
          any_in (λ (x : PolicyWay). is_way_between hs w x && meets x.badge w.badge) c.ways.items way.0 way.1.0
          (both_are (is_way_between hs w way.0) (meets way.0.badge u.badge.0)
          (both_are (way.0.endpoint == u.endpoint && is_at_home hs i way.0.from) (is_at_home hs j way.0.to) (both_are (way.0.endpoint == u.endpoint) (is_at_home hs i way.0.from) two.0 from) to)
          three.1)

      passed : (us : List PartUse) (ws : List Waiting) → is_passage_amiss c l hs us ws w ≡ true → ⊥
      passed us ws amiss =
          let one = both_true (not (have_one_in_common hs w)) _ amiss in
          let two = both_true (not (is_let c hs w)) _ one.1 in
          clash (is_let c hs w) (let_so (passes (λ same. clash (have_one_in_common hs w) (both_there same) one.0))) two.0

  -- ---- a take

  module _ (t : Take) (m n : Member) (of : IsTakeOf c l t m n) (amiss : is_take_amiss c l t ≡ true) where
    unlet : (not (have_group_in_common l t) ≡ true) × (not (is_take_let c l t) ≡ true)
    unlet = both_true (not (have_group_in_common l t)) (not (is_take_let c l t)) amiss

    at_one : is_at_home l.homes.items t.by m.actor ≡ true
    at_one = at m t.by of.from of.here

    at_other : is_at_home l.homes.items t.of n.actor ≡ true
    at_other = at n t.of of.to of.there

    listed_take : (f : Forest Entry) → l.takes.items ≡ flat_map (λ i. map (taking i) (taken_by (part_slots l.memory.items f) i)) l.parts.items →
        is_in t.of (taken_by (part_slots l.memory.items f) t.by) ≡ true
    listed_take f takes_are =
        let slots = part_slots l.memory.items f in
        let i = from_flat (λ k. map (taking k) (taken_by slots k)) l.parts.items t (subst (In t) takes_are (contains_in l.takes.items t of.taken)) in
        let j = from_mapped (taking i.0) (taken_by slots i.0) t i.1.1 in
        subst (λ k. is_in t.of (taken_by slots k) ≡ true) (sym (ap (λ (x : Take). x.by) j.1.1))
        (subst (λ k. is_in k (taken_by slots i.0) ≡ true) (sym (ap (λ (x : Take). x.of) j.1.1))
        (any_in (λ a. j.0 == a) (taken_by slots i.0) j.0 j.1.0 (eqb_self j.0)))

    -- a slot of the one part stands below one of the other
    stands : StandsBelow l.memory.items t.by t.of A.derivations
    stands =
        taken_stands l.memory.items t.by t.of A.derivations (reached_is p A reached).store.slots_distinct
        (subst (λ f. is_in t.of (taken_by (part_slots l.memory.items f) t.by) ≡ true) (shown_derivations A) (listed_take (shown A).derivations is.takes_are))

    two_groups : m.actor ≢ n.actor
    two_groups same =
        clash (have_group_in_common l t)
        (any_in (is_home_in_both l t) l.homes.items (home m.actor t.by) (home_in m t.by of.from of.here)
        (both_are (t.by == t.by) (is_at_home l.homes.items t.of m.actor) (eqb_self t.by) (subst (λ k. is_at_home l.homes.items t.of k ≡ true) (sym same) at_other)))
        unlet.0

    not_let : may_take c m.actor n.actor ≡ true → ⊥
    not_let lets =
        let w = any_of (λ (x : PolicyTake). x.from == m.actor && x.to == n.actor) c.takes.items lets in
        let both = both_true (w.0.from == m.actor) (w.0.to == n.actor) w.1.1 in
        clash (is_take_let c l t)
        (any_in (is_take_of l t) c.takes.items w.0 w.1.0
        (both_are (is_at_home l.homes.items t.by w.0.from) (is_at_home l.homes.items t.of w.0.to)
        (subst (λ k. is_at_home l.homes.items t.by k ≡ true) (sym (eqb-true w.0.from m.actor both.0)) at_one)
        (subst (λ k. is_at_home l.homes.items t.of k ≡ true) (sym (eqb-true w.0.to n.actor both.1)) at_other)))
        unlet.1

    none_stand : NoPartsStand p c l A
    none_stand group_of names others closed keep =
        let below = (least_keep_most p (callers p (shown A) (trusted_threads c)) l.memory.items l.uses.items (shown A) group_of any_endpoint (may_hold c l) (may_group_pass c)
        (may_take c) is.right.least A reached refl others closed).1 keep in
        not_let (below m.thread n.thread t.by t.of m.actor n.actor stands.slot stands.under of.here of.there (names m of.from) (names n of.to) two_groups stands.mine
        (in_contains (descendants (is_at stands.slot) A.derivations) stands.under stands.below) stands.theirs)

pub told_is_broken : (p : ProfileName) (c : Policy) (l : Layout) (A : State) → WhatIsToldIsBroken p c l A
told_is_broken p c l A reached is = (
  λ u m of told group_of names others closed keep. untold p c l A reached is group_of names others closed keep u m of told,
  λ part two group_of names others closed keep. joined p c l A reached is group_of names others closed keep part two,
  λ u r m n us ws of told group_of names others closed keep. passed p c l A reached is group_of names others closed keep u r m n of us ws told,
  λ t m n of amiss. none_stand p c l A reached is t m n of amiss,
)
