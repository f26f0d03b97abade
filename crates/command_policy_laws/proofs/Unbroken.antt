-- Where no line tells of a breach, the parts keep the policy.
use Rattle.std.proofs.Common.{◌≡◌, ◌≢◌, ◌⊎◌, inl, inr, ℕ, ◌+◌, ◌^◌, ◌<◌, ◌≤◌, Bool, true, false, not, cond, ◌==◌, ◌&&◌, ◌||◌, List, [], ◌∷◌, ◌++◌, map, Option, Some, None, refl, sym, ap, subst, ◌∙◌, arith, eq-eqb, bit_and}
use Rattle.std.specs.Prelude.{find, option_map}
use Rattle.std.specs.List.{filter, filter_map, flat_map, cons_option, list_any, Contains, AllByRecursion as Each}
use Rattle.std.specs.Int.{bit_at}
use Rattle.std.specs.Option.{option_or}
use Rattle.std.proofs.lemmas.Bool.{false≢true, eqb-true}
use Rattle.std.proofs.lemmas.Nat.{pow_pos}
use Rattle.std.proofs.lemmas.Nat.Bits.{and_pow}
use Rattle.cap_core.specs.declared.profile.ProfileName.{ProfileName}
use Rattle.cap_core.specs.declared.capability.Badge.{Badge}
use Rattle.cap_core.specs.declared.capability.Cap.TheVariants.{Endpoint}
use Rattle.cap_core.specs.declared.message.Message.{Message}
use Rattle.cap_core.specs.declared.rights.Rights.{Rights}
use Rattle.cap_core.specs.Distinct.{IsApart, Lacks}
use Rattle.cap_core.specs.Numbers.{endpoint_bits}
use Rattle.cap_core.specs.Rights.{write_bit, read_bit, grant_bit, grant_reply_bit}
use Rattle.ipc_core.specs.declared.waiter.Offer.{Offer}
use Rattle.ipc_core.specs.declared.waiter.Waiter.{Waiter}
use Rattle.ipc_core.specs.declared.waiter.Waiter.TheVariants.{Sender, Receiver}
use Rattle.ipc_core.specs.Offers.{offer_by, offer_in}
use Rattle.ipc_core.specs.Waits.{thread_of}
use Rattle.kernel_delete.specs.Members.{In}
use Rattle.kernel_delete.proofs.Clearable.{contains_in}
use Rattle.kernel_delete.proofs.Members.{both_true, either_true, true_left, true_right, any_in, any_of, each_in, in_left, in_right, in_filter, filter_in, tells, eqb_self}
use Rattle.kernel_abstract.specs.declared.call.ThreadState.{ThreadState}
use Rattle.kernel_abstract.specs.declared.call.ThreadState.TheVariants.{Sending, Receiving}
use Rattle.kernel_abstract.specs.Decode.{has_right}
use Rattle.kernel_abstract.specs.Shown.{Shown, ThreadView, state_at, threads_of, waiting_at}
use Rattle.kernel_abstract.specs.State.{State, shown, thread_view}
use Rattle.kernel_abstract.specs.Waiting.{AreStatesAndLists, offer_at, offer_where}
use Rattle.query_parts.specs.declared.listed.PartUse.{PartUse}
use Rattle.query_parts.specs.Parts.{Use, AreAmong, Covers, IsCovered, IsWithin}
use Rattle.query_parts.specs.Laws.{MayUse}
use Rattle.query_parts.specs.Listed.{part_at, parts_listed, use_of}
use Rattle.query_parts.proofs.Lists.{in_mapped, from_mapped}
use Rattle.setup_report.specs.State.{rising, threads}
use Rattle.command_parts.specs.Text.{is_part}
use Rattle.command_policy_breaches.specs.declared.joining.Join.{Join}
use Rattle.setup_policy.specs.declared.policy.Allowance.{Allowance}
use Rattle.command_policy_breaches.specs.declared.held.Block.{Block}
use Rattle.command_policy_breaches.specs.declared.held.Home.{Home}
use Rattle.setup_policy.specs.declared.policy.Labels.{Labels}
use Rattle.command_policy_breaches.specs.declared.held.Layout.{Layout}
use Rattle.setup_policy.specs.declared.policy.OwnRegion.{OwnRegion}
use Rattle.setup_policy.specs.declared.policy.Policy.{Policy}
use Rattle.setup_policy.specs.declared.policy.PolicyWay.{PolicyWay}
use Rattle.command_policy_breaches.specs.declared.held.Waiting.{Waiting}
use Rattle.command_policy_breaches.specs.declared.ways.End.{End}
use Rattle.command_policy_breaches.specs.declared.ways.Passage.{Passage}
use Rattle.command_policy_breaches.specs.declared.ways.Sending.{Sending as Sends}
use Rattle.command_policy_breaches.specs.Breaches.{exceeds, has_entry, has_no_right, has_other_badge, has_region, has_right_too_much, is_entry, is_listed, is_own, is_own_endpoint, is_unlisted, lets_badge, lets_ever, lets_with, range_lies_within, meets, is_stray_right, strays_somehow}
use Rattle.command_policy_breaches.specs.Joins.{block_of_part, blocks, homes_joined, joins}
use Rattle.command_policy_breaches.specs.Layouts.{IsLayoutOf, offered_badge, waiting_in, waiting_of}
use Rattle.command_policy_breaches.specs.Sides.{sent_badges, hears, is_at_home, is_found_home, is_use_on, may_hear, sends_any, owns_in_layout, sends, some_badges, waits_to_hear, waits_to_send}
use Rattle.command_policy_breaches.specs.Ways.{have_one_in_common, hearers_on, hears_on, is_apart, is_end_at, is_home_of_both, is_let, is_passage_amiss, is_way_between, part_end, part_sendings, passage, passages, passages_by, passages_of, sending, sendings_to, thread_sendings}
use Rattle.command_policy_text.specs.Texts.{breaches}
use Rattle.command_policy_laws.specs.Keeps.{KeepPolicy, WaitsOrPartHears, WaitsOrPartSends}
use Rattle.command_policy_laws.specs.Unbroken.{allows_right, any_endpoint, entries_allow, group_in, group_of, has_entry_with, is_entry_of, is_in_region, is_in_their_region, is_way_of, may_hold, may_group_pass, WhatIsNotToldIsKept}
use Rattle.command_policy_laws.proofs.Groups.{IsAt, are_named, at_home, has_group, home_at, in_flat, in_rising, of_joined, of_number, of_one, part_of_address}
use Rattle.command_policy_laws.proofs.Rights.{grant_kept, grant_reply_kept, read_kept, write_kept}
use Rattle.command_policy_laws.proofs.Untold.{IsUnbroken, fails, unbroken}
use Rattle.command_policy_laws.proofs.Waiting.{receiver_listed, sender_listed}

-- ---- tests

both_are : (b c : Bool) → b ≡ true → c ≡ true → b && c ≡ true
both_are b c h k = rw (h, k) refl

neither : (b c : Bool) → b || c ≡ false → (b ≡ false) × (c ≡ false)
neither true c h = cc
neither false c h = (refl, h)

of_four : (a b c d : Bool) → (a || (b || (c || d))) ≡ false → (a ≡ false) × ((b ≡ false) × ((c ≡ false) × (d ≡ false)))
of_four a b c d h =
    let one = neither a (b || (c || d)) h in
    let two = neither b (c || d) one.1 in
    (one.0, (two.0, neither c d two.1))

of_five : (a b c d e : Bool) → (a || (b || (c || (d || e)))) ≡ false → (a ≡ false) × ((b ≡ false) × ((c ≡ false) × ((d ≡ false) × (e ≡ false))))
of_five a b c d e h =
    let one = neither a (b || (c || (d || e))) h in
    (one.0, of_four b c d e one.1)

unless : (b c : Bool) → b ≡ true → (b && c) ≡ false → c ≡ false
unless true c is h = h
unless false c is h = cc

set : (b : Bool) → not b ≡ false → b ≡ true
set true h = refl
set false h = cc

-- ---- what a use of a part is

-- a use that covers a capability
record IsCoveredBy (l : Layout) (i endpoint : ℕ) (badge : Badge) (rights : Rights) (x : PartUse) : Type 0 where
  there : In x l.uses.items
  part : x.part ≡ i
  endpoint_is : x.endpoint ≡ endpoint
  badge_fits : (x.badge.0 ≡ badge.0) ⊎ (x.badge.0 ≡ 0)
  among : AreAmong rights x.rights

module _ (l : Layout) (i endpoint : ℕ) (badge : Badge) (rights : Rights) where
  covered_by : IsCovered (parts_listed l.memory.items l.uses.items) i endpoint badge rights → (x : PartUse) × IsCoveredBy l i endpoint badge rights x
  covered_by (u, (there, covers)) =
      let m = from_mapped use_of (filter (λ (x : PartUse). x.part == i) l.uses.items) u (contains_in (map use_of (filter (λ (x : PartUse). x.part == i) l.uses.items)) u there) in
      let own = in_filter (λ (x : PartUse). x.part == i) l.uses.items m.0 m.1.0 in
      let is : Covers (use_of m.0) endpoint badge rights = subst (λ (w : Use). Covers w endpoint badge rights) m.1.1 covers in
      (m.0, record { there = own.0; part = eqb-true m.0.part i own.1; endpoint_is = is.endpoint_is; badge_fits = is.badge_fits; among = is.rights_fit })

  -- the badge of an entry meets that of the capability, where it meets the use's
  still_meets : (x : PartUse) → IsCoveredBy l i endpoint badge rights x → (allowed : ℕ) → meets allowed x.badge.0 ≡ true → meets allowed badge.0 ≡ true
  still_meets x by allowed h = either by.badge_fits
    where
      any : (b : Bool) → (b || b) ≡ true → b ≡ true
      any true is = refl
      any false is = is

      either : (x.badge.0 ≡ badge.0) ⊎ (x.badge.0 ≡ 0) → meets allowed badge.0 ≡ true
      either (inl same) = subst (λ n. meets allowed n ≡ true) same h
      either (inr none) = true_left (allowed == 0) (allowed == badge.0) (any (allowed == 0) (subst (λ n. meets allowed n ≡ true) none h))

-- ---- the law

module _ (p : ProfileName) (c : Policy) (l : Layout) (A : State) (is : IsLayoutOf p c (shown A) l)
    (kept : IsUnbroken c l (homes_joined c l (blocks c l)) (joins c l) (passages c l (blocks c l))) where
  abbrev v : Shown
  v = shown A

  abbrev bs : List Block
  bs = blocks c l

  abbrev hs : List Home
  hs = homes_joined c l bs

  abbrev one_group : (part : ℕ) → In part l.parts.items → (g k : ℕ) → IsAt l.homes.items part g → IsAt l.homes.items part k → g ≡ k
  one_group = of_one p c v l is kept.joined kept.grants

  pub listed : (a i : ℕ) → part_at l.memory.items a ≡ Some i → In i l.parts.items
  listed = part_of_address p c v l is kept.joined kept.grants

  same_part : (a i j : ℕ) → part_at l.memory.items a ≡ Some i → part_at l.memory.items a ≡ Some j → i ≡ j
  same_part a i j first second = let e : Some i ≡ Some j = sym first ∙ second in cc

  first_byte : (i e : ℕ) (badge : Badge) (rights : Rights) → ((address : ℕ) → e ≤ address → address < e + 2 ^ endpoint_bits p → part_at l.memory.items address ≡ Some i) → part_at l.memory.items e ≡ Some i
  first_byte i e badge rights owned = owned e (omega arith) (omega (arith, pow_pos (endpoint_bits p)))

  -- ---- what a group may hold

  module _ (i g e : ℕ) (there : In i l.parts.items) (at : IsAt l.homes.items i g) where
    its_group : (k : ℕ) → is_at_home l.homes.items i k ≡ true → k ≡ g
    its_group k has = one_group i there k g (at_home l.homes.items i k has) at

    pub own_region : (bits : ℕ) → is_own c l i e bits ≡ true → is_in_their_region c bits g e ≡ true
    own_region bits own =
        let m = any_of (has_region l i e bits) c.regions.items own in
        let both = both_true (range_lies_within e bits m.0.base m.0.bits) (is_at_home l.homes.items i m.0.group) m.1.1 in
        any_in (is_in_region bits g e) c.regions.items m.0 m.1.0 (rw (eq-eqb m.0.group g (its_group m.0.group both.1), both.0) refl)

    -- an entry of the part is the group's
    its_entry : (badge right : ℕ) → lets_with c l i e badge right ≡ true → list_any (λ (a : Allowance). is_entry_of g e badge a && has_right right a.rights) c.allowances.items ≡ true
    its_entry badge right lets =
        let m = any_of (λ (a : Allowance). is_entry l i e a && (has_right right a.rights && meets a.badge badge)) c.allowances.items lets in
        let one = both_true (is_entry l i e m.0) (has_right right m.0.rights && meets m.0.badge badge) m.1.1 in
        let two = both_true (m.0.endpoint == e) (is_at_home l.homes.items i m.0.actor) one.0 in
        let three = both_true (has_right right m.0.rights) (meets m.0.badge badge) one.1 in
        any_in (λ (a : Allowance). is_entry_of g e badge a && has_right right a.rights) c.allowances.items m.0 m.1.0
        (both_are (is_entry_of g e badge m.0) (has_right right m.0.rights)
        (both_are (m.0.actor == g) (m.0.endpoint == e && meets m.0.badge badge) (eq-eqb m.0.actor g (its_group m.0.actor two.1)) (both_are (m.0.endpoint == e) (meets m.0.badge badge) two.0 three.1))
        three.0)

    its_badge : (badge : ℕ) → lets_badge c l i e badge ≡ true → list_any (is_entry_of g e badge) c.allowances.items ≡ true
    its_badge badge lets =
        let m = any_of (λ (a : Allowance). is_entry l i e a && meets a.badge badge) c.allowances.items lets in
        let one = both_true (is_entry l i e m.0) (meets m.0.badge badge) m.1.1 in
        let two = both_true (m.0.endpoint == e) (is_at_home l.homes.items i m.0.actor) one.0 in
        any_in (is_entry_of g e badge) c.allowances.items m.0 m.1.0
        (both_are (m.0.actor == g) (m.0.endpoint == e && meets m.0.badge badge) (eq-eqb m.0.actor g (its_group m.0.actor two.1)) (both_are (m.0.endpoint == e) (meets m.0.badge badge) two.0 one.1))

    some_entry : (badge right : ℕ) → lets_with c l i e badge right ≡ true → list_any (is_entry_of g e badge) c.allowances.items ≡ true
    some_entry badge right lets =
        let m = any_of (λ (a : Allowance). is_entry_of g e badge a && has_right right a.rights) c.allowances.items (its_entry badge right lets) in
        any_in (is_entry_of g e badge) c.allowances.items m.0 m.1.0 (both_true (is_entry_of g e badge m.0) (has_right right m.0.rights) m.1.1).0

  -- a use of an endpoint that is none of the part's own: its rights and its badge are those of entries
  module _ (i e : ℕ) (x : PartUse) (there : In x l.uses.items) (part : x.part ≡ i) (at : x.endpoint ≡ e) (foreign : is_own_endpoint c l i e ≡ false) where
    foreign_use : is_own_endpoint c l x.part x.endpoint ≡ false
    foreign_use = subst (λ n. is_own_endpoint c l n x.endpoint ≡ false) (sym part) (subst (λ n. is_own_endpoint c l i n ≡ false) (sym at) foreign)

    is_listed_use : is_listed c l x ≡ true
    is_listed_use =
        let has = set (has_entry c l x.part x.endpoint) (unless (not (is_own_endpoint c l x.part x.endpoint)) (not (has_entry c l x.part x.endpoint)) (rw foreign_use refl) (fails (is_unlisted c l) l.uses.items x kept.uses there)) in
        both_are (not (is_own_endpoint c l x.part x.endpoint)) (has_entry c l x.part x.endpoint) (rw foreign_use refl) has

    none_exceeds : (exceeds c l x write_bit || (exceeds c l x read_bit || (exceeds c l x grant_bit || exceeds c l x grant_reply_bit))) ≡ false
    none_exceeds = unless (is_listed c l x) _ is_listed_use (fails (has_right_too_much c l) l.uses.items x kept.rights there)

    none_strays : strays_somehow c l x ≡ false
    none_strays = unless (is_listed c l x) (strays_somehow c l x) is_listed_use (fails (has_other_badge c l) l.uses.items x kept.badges there)

    lets : (has ever with : Bool) → (has && not ever) ≡ false → (has && (ever && not with)) ≡ false → has ≡ true → with ≡ true
    lets true true true a b h = refl
    lets true true false a b h = sym b
    lets true false with a b h = cc
    lets false ever with a b h = cc

    abbrev Lets : ℕ → Type 0
    Lets right = has_right right x.rights ≡ true → lets_with c l i e x.badge.0 right ≡ true

    lets_right : (right : ℕ) → exceeds c l x right ≡ false → is_stray_right c l x right ≡ false → Lets right
    lets_right right a b has =
        subst (λ n. lets_with c l n e x.badge.0 right ≡ true) part (subst (λ n. lets_with c l x.part n x.badge.0 right ≡ true) at
        (lets (has_right right x.rights) (lets_ever c l x.part x.endpoint right) (lets_with c l x.part x.endpoint x.badge.0 right) a b has))

    no_excess : (exceeds c l x write_bit ≡ false) × ((exceeds c l x read_bit ≡ false) × ((exceeds c l x grant_bit ≡ false) × (exceeds c l x grant_reply_bit ≡ false)))
    no_excess = of_four (exceeds c l x write_bit) (exceeds c l x read_bit) (exceeds c l x grant_bit) (exceeds c l x grant_reply_bit) none_exceeds

    no_stray : (is_stray_right c l x write_bit ≡ false) × ((is_stray_right c l x read_bit ≡ false) × ((is_stray_right c l x grant_bit ≡ false) × ((is_stray_right c l x grant_reply_bit ≡ false)
        × ((has_no_right x && not (lets_badge c l x.part x.endpoint x.badge.0)) ≡ false))))
    no_stray = of_five (is_stray_right c l x write_bit) (is_stray_right c l x read_bit) (is_stray_right c l x grant_bit) (is_stray_right c l x grant_reply_bit)
        (has_no_right x && not (lets_badge c l x.part x.endpoint x.badge.0)) none_strays

    lets_write : Lets write_bit
    lets_write = lets_right write_bit no_excess.0 no_stray.0

    lets_read : Lets read_bit
    lets_read = lets_right read_bit no_excess.1.0 no_stray.1.0

    lets_grant : Lets grant_bit
    lets_grant = lets_right grant_bit no_excess.1.1.0 no_stray.1.1.0

    lets_grant_reply : Lets grant_reply_bit
    lets_grant_reply = lets_right grant_reply_bit no_excess.1.1.1 no_stray.1.1.1.0

    some_right : (w r g k : Bool) → (not w && (not r && (not g && not k))) ≡ false → (w ≡ true) ⊎ ((r ≡ true) ⊎ ((g ≡ true) ⊎ (k ≡ true)))
    some_right true r g k h = inl refl
    some_right false true g k h = inr (inl refl)
    some_right false false true k h = inr (inr (inl refl))
    some_right false false false true h = inr (inr (inr refl))
    some_right false false false false h = cc

    has_its_badge : (g : ℕ) → In i l.parts.items → IsAt l.homes.items i g → list_any (is_entry_of g e x.badge.0) c.allowances.items ≡ true
    has_its_badge g own home = elim (tells (has_no_right x)) [
      | inl none ↦ its_badge i g e own home x.badge.0
          (subst (λ n. lets_badge c l n e x.badge.0 ≡ true) part (subst (λ n. lets_badge c l x.part n x.badge.0 ≡ true) at
          (set (lets_badge c l x.part x.endpoint x.badge.0) (unless (has_no_right x) (not (lets_badge c l x.part x.endpoint x.badge.0)) none
          no_stray.1.1.1.1))))
      | inr some ↦ elim (some_right (has_right write_bit x.rights) (has_right read_bit x.rights) (has_right grant_bit x.rights) (has_right grant_reply_bit x.rights) some) [
        | inl w ↦ some_entry i g e own home x.badge.0 write_bit (lets_write w)
        | inr (inl r) ↦ some_entry i g e own home x.badge.0 read_bit (lets_read r)
        | inr (inr (inl q)) ↦ some_entry i g e own home x.badge.0 grant_bit (lets_grant q)
        | inr (inr (inr k)) ↦ some_entry i g e own home x.badge.0 grant_reply_bit (lets_grant_reply k)
      ]
    ]

  module _ (i g e : ℕ) (badge : Badge) (rights : Rights) (own : In i l.parts.items) (home : IsAt l.homes.items i g) (x : PartUse) (by : IsCoveredBy l i e badge rights x)
      (foreign : is_own_endpoint c l i e ≡ false) where
    abbrev Fits : ℕ → Type 0
    Fits right = has_right right x.rights ≡ true → lets_with c l i e x.badge.0 right ≡ true

    -- an entry that meets the badge of the use meets that of the capability
    as_held : (a : Allowance) → is_entry_of g e x.badge.0 a ≡ true → is_entry_of g e badge.0 a ≡ true
    as_held a has =
        let one = both_true (a.actor == g) (a.endpoint == e && meets a.badge x.badge.0) has in
        let two = both_true (a.endpoint == e) (meets a.badge x.badge.0) one.1 in
        both_are (a.actor == g) (a.endpoint == e && meets a.badge badge.0) one.0 (both_are (a.endpoint == e) (meets a.badge badge.0) two.0 (still_meets l i e badge rights x by a.badge two.1))

    right_allowed : (right : ℕ) → Fits right → (has_right right rights ≡ true → has_right right x.rights ≡ true) → allows_right c g e badge.0 rights right ≡ true
    right_allowed right fits more = elim (tells (has_right right rights)) [
      | inr none ↦ true_left (not (has_right right rights)) (has_entry_with c g e badge.0 right) (rw none refl)
      | inl has ↦
          let m = any_of (λ (a : Allowance). is_entry_of g e x.badge.0 a && has_right right a.rights) c.allowances.items (its_entry i g e own home x.badge.0 right (fits (more has))) in
          let both = both_true (is_entry_of g e x.badge.0 m.0) (has_right right m.0.rights) m.1.1 in
          true_right (not (has_right right rights)) (has_entry_with c g e badge.0 right)
          (any_in (λ (a : Allowance). is_entry_of g e badge.0 a && has_right right a.rights) c.allowances.items m.0 m.1.0
          (both_are (is_entry_of g e badge.0 m.0) (has_right right m.0.rights) (as_held m.0 both.0) both.1))
    ]

    all_allowed : entries_allow c g e badge.0 rights ≡ true
    all_allowed =
        let m = any_of (is_entry_of g e x.badge.0) c.allowances.items (has_its_badge i e x by.there by.part by.endpoint_is foreign g own home) in
        both_are (list_any (is_entry_of g e badge.0) c.allowances.items) _
        (any_in (is_entry_of g e badge.0) c.allowances.items m.0 m.1.0 (as_held m.0 m.1.1))
        (both_are _ _ (right_allowed write_bit (lets_write i e x by.there by.part by.endpoint_is foreign) (write_kept rights x.rights by.among))
        (both_are _ _ (right_allowed read_bit (lets_read i e x by.there by.part by.endpoint_is foreign) (read_kept rights x.rights by.among))
        (both_are _ _ (right_allowed grant_bit (lets_grant i e x by.there by.part by.endpoint_is foreign) (grant_kept rights x.rights by.among))
        (right_allowed grant_reply_bit (lets_grant_reply i e x by.there by.part by.endpoint_is foreign) (grant_reply_kept rights x.rights by.among)))))

  found_home : (i g e : ℕ) → part_at l.memory.items e ≡ Some i → IsAt l.homes.items i g → is_found_home l.homes.items g (part_at l.memory.items e) ≡ true
  found_home i g e at home = rw at (home_at l.homes.items i g home)

  holds : (i g e : ℕ) (badge : Badge) (rights : Rights) → In i l.parts.items → IsAt l.homes.items i g →
      IsWithin p (parts_listed l.memory.items l.uses.items) i (Endpoint e badge rights) → may_hold c l g e badge rights ≡ true
  holds i g e badge rights own home (inl owned) =
      true_left _ (entries_allow c g e badge.0 rights)
      (true_right (list_any (is_in_region l.endpoint_bits g e) c.regions.items) _ (found_home i g e (first_byte i e badge rights owned) home))
  holds i g e badge rights own home (inr covered) =
      let x = covered_by l i e badge rights covered in
      elim (tells (is_own_endpoint c l i e)) [
        | inl its ↦ true_left _ (entries_allow c g e badge.0 rights) (true_left _ (is_found_home l.homes.items g (part_at l.memory.items e)) (own_region i g e own home l.endpoint_bits its))
        | inr foreign ↦ true_right _ (entries_allow c g e badge.0 rights) (all_allowed i g e badge rights own home x.0 x.1 foreign)
      ]

  -- ---- what may pass

  -- the endpoint lies in the part, or is one that is met
  abbrev Place : ℕ → ℕ → Type 0
  Place i e = (part_at l.memory.items e ≡ Some i) ⊎ In e l.endpoints.items

  met_used : (x : PartUse) (e : ℕ) → In x l.uses.items → x.endpoint ≡ e → In e l.endpoints.items
  met_used x e there at = subst (In e) (sym is.met) (in_rising e _ (in_left e (map (λ (u : PartUse). u.endpoint) l.uses.items) _
      (subst (λ n. In n (map (λ (u : PartUse). u.endpoint) l.uses.items)) at (in_mapped (λ (u : PartUse). u.endpoint) x l.uses.items there))))

  met_waited : (w : Waiting) → In w l.waits.items → In w.endpoint l.endpoints.items
  met_waited w there = subst (In w.endpoint) (sym is.met) (in_rising w.endpoint _ (in_right w.endpoint (map (λ (u : PartUse). u.endpoint) l.uses.items) _
      (in_mapped (λ (x : Waiting). x.endpoint) w l.waits.items there)))

  part_is : (o : Option ℕ) (i : ℕ) → o ≡ Some i → is_part i o ≡ true
  part_is o i at = rw at (eqb_self i)

  -- the part may send there with a badge of which a way may speak
  record MaySend (i e : ℕ) (badge : Badge) : Type 0 where
    told : ℕ
    there : In told (sent_badges l i e)
    meets_too : (allowed : ℕ) → meets allowed told ≡ true → meets allowed badge.0 ≡ true
    place : Place i e

  any_meets : (allowed badge : ℕ) → meets allowed 0 ≡ true → meets allowed badge ≡ true
  any_meets allowed badge h = true_left (allowed == 0) (allowed == badge) (twice (allowed == 0) h)
    where
      twice : (b : Bool) → (b || b) ≡ true → b ≡ true
      twice true is = refl
      twice false is = is

  by_any : (i e : ℕ) (badge : Badge) → sends_any l i e ≡ true → Place i e → MaySend i e badge
  by_any i e badge any place = record { told = 0; there = rw any (inl refl); meets_too = λ allowed. any_meets allowed badge.0; place = place }

  -- a badge that is among some: itself, or any
  by_badge : (i e told : ℕ) (badge : Badge) → In told (some_badges l i e) → ((allowed : ℕ) → meets allowed told ≡ true → meets allowed badge.0 ≡ true) → Place i e → MaySend i e badge
  by_badge i e told badge there too place = elim (tells (sends_any l i e)) [
    | inl any ↦ by_any i e badge any place
    | inr not ↦ record { told = told; there = rw not there; meets_too = too; place = place }
  ]

  owner : (i e : ℕ) → part_at l.memory.items e ≡ Some i → owns_in_layout l i e ≡ true
  owner i e at = part_is (part_at l.memory.items e) i at

  may_send : (i e : ℕ) (badge : Badge) → MayUse p (parts_listed l.memory.items l.uses.items) write_bit i e badge → MaySend i e badge
  may_send i e badge (rights, (inl owned, has)) =
      let at = first_byte i e badge rights owned in
      by_any i e badge (true_left (owns_in_layout l i e) _ (owner i e at)) (inl at)
  may_send i e badge (rights, (inr covered, has)) =
      let x = covered_by l i e badge rights covered in
      let sends_so : sends i e x.0 ≡ true = both_are (is_use_on i e x.0) (has_right write_bit x.0.rights)
      (both_are (x.0.part == i) (x.0.endpoint == e) (eq-eqb x.0.part i x.1.part) (eq-eqb x.0.endpoint e x.1.endpoint_is)) (write_kept rights x.0.rights x.1.among has) in
      by_badge i e x.0.badge.0 badge
      (in_rising x.0.badge.0 _ (in_left x.0.badge.0 (map (λ (u : PartUse). u.badge.0) (filter (sends i e) l.uses.items)) _
      (in_mapped (λ (u : PartUse). u.badge.0) x.0 (filter (sends i e) l.uses.items) (filter_in (sends i e) l.uses.items x.0 x.1.there sends_so))))
      (still_meets l i e badge rights x.0 x.1) (inr (met_used x.0 e x.1.there x.1.endpoint_is))

  waits_so : (w : Waiting) → In w (filter_map (waiting_of v) (threads p v)) → In w l.waits.items
  waits_so w there = subst (In w) (sym is.waits_are) there

  sender : (t i e : ℕ) (badge : Badge) (message : Message) → part_at l.memory.items t ≡ Some i →
      WaitsOrPartSends p (parts_listed l.memory.items l.uses.items) v e t badge message → MaySend i e badge
  sender t i e badge message at (inl waits) =
      let w : Waiting = record { thread = t; endpoint = e; badge = badge.0; sends = true } in
      let there = waits_so w (sender_listed p A is.agree t e badge message waits) in
      let sends_so : waits_to_send l i e w ≡ true = both_are (e == e) (is_part i (part_at l.memory.items t)) (eqb_self e) (part_is (part_at l.memory.items t) i at) in
      by_badge i e badge.0 badge
      (in_rising badge.0 _ (in_right badge.0 (map (λ (u : PartUse). u.badge.0) (filter (sends i e) l.uses.items)) _
      (in_mapped (λ (x : Waiting). x.badge) w (filter (waits_to_send l i e) l.waits.items) (filter_in (waits_to_send l i e) l.waits.items w there sends_so))))
      (λ allowed h. h) (inr (met_waited w there))
  sender t i e badge message at (inr (k, (lies, may))) =
      may_send i e badge (subst (λ n. MayUse p (parts_listed l.memory.items l.uses.items) write_bit n e badge) (same_part t k i lies at) may)

  record MayHear (j e : ℕ) : Type 0 where
    may : may_hear l j e ≡ true
    place : Place j e

  hears_by : (j e : ℕ) (badge : Badge) → MayUse p (parts_listed l.memory.items l.uses.items) read_bit j e badge → MayHear j e
  hears_by j e badge (rights, (inl owned, has)) =
      let at = first_byte j e badge rights owned in
      record { may = true_left (owns_in_layout l j e) _ (owner j e at); place = inl at }
  hears_by j e badge (rights, (inr covered, has)) =
      let x = covered_by l j e badge rights covered in
      let hears_so : hears j e x.0 ≡ true = both_are (is_use_on j e x.0) (has_right read_bit x.0.rights)
      (both_are (x.0.part == j) (x.0.endpoint == e) (eq-eqb x.0.part j x.1.part) (eq-eqb x.0.endpoint e x.1.endpoint_is)) (read_kept rights x.0.rights x.1.among has) in
      record {
        may = true_right (owns_in_layout l j e) _ (true_left _ (list_any (waits_to_hear l j e) l.waits.items) (any_in (hears j e) l.uses.items x.0 x.1.there hears_so));
        place = inr (met_used x.0 e x.1.there x.1.endpoint_is);
      }

  hearer : (u j e : ℕ) → part_at l.memory.items u ≡ Some j → WaitsOrPartHears p (parts_listed l.memory.items l.uses.items) v e u → MayHear j e
  hearer u j e at (inl waits) =
      let w : Waiting = record { thread = u; endpoint = e; badge = 0; sends = false } in
      let there = waits_so w (receiver_listed p A is.agree u e waits) in
      let hears_so : waits_to_hear l j e w ≡ true = both_are (e == e) (is_part j (part_at l.memory.items u)) (eqb_self e) (part_is (part_at l.memory.items u) j at) in
      record {
        may = true_right (owns_in_layout l j e) _ (true_right (list_any (hears j e) l.uses.items) _ (any_in (waits_to_hear l j e) l.waits.items w there hears_so));
        place = inr (met_waited w there);
      }
  hearer u j e at (inr (k, (lies, (badge, may)))) =
      hears_by j e badge (subst (λ n. MayUse p (parts_listed l.memory.items l.uses.items) read_bit n e badge) (same_part u k j lies at) may)

  -- ---- a passage between parts of two numbers

  module _ (i j g h e : ℕ) (badge : Badge) (own : In i l.parts.items) (other : In j l.parts.items) (home : IsAt l.homes.items i g) (away : IsAt l.homes.items j h)
      (differ : g ≢ h) (s : MaySend i e badge) (r : MayHear j e) where
    apart : i ≢ j
    apart same = differ (one_group j other g h (subst (λ n. IsAt l.homes.items n g) same home) away)

    two_numbers : block_of_part bs i == block_of_part bs j ≡ false
    two_numbers = elim (tells (block_of_part bs i == block_of_part bs j)) [
      | inr not ↦ not
      | inl same ↦ absurd (differ (of_number p c v l is kept.joined kept.grants i j g h own other (eqb-true (block_of_part bs i) (block_of_part bs j) same) home away))
    ]

    is_met : In e l.endpoints.items
    is_met = both s.place r.place
      where
        both : Place i e → Place j e → In e l.endpoints.items
        both (inr there) at = there
        both (inl here) (inr there) = there
        both (inl here) (inl there) = absurd (apart (same_part e i j here there))

    abbrev sent : Sends
    sent = sending (part_end (block_of_part bs i)) i s.told

    abbrev to : End
    to = part_end (block_of_part bs j)

    abbrev passed : Passage
    passed = passage sent e to

    is_sent : In sent (sendings_to c l bs e)
    is_sent = in_left sent (flat_map (part_sendings l bs e) l.parts.items) (flat_map (thread_sendings l e) c.silent.items)
        (in_flat (part_sendings l bs e) l.parts.items i sent own (in_mapped (sending (part_end (block_of_part bs i)) i) s.told (sent_badges l i e) s.there))

    is_heard : In to (hearers_on c l bs e)
    is_heard = in_left to (map part_end (rising (map (block_of_part bs) (filter (hears_on l e) l.parts.items)))) _
        (in_mapped part_end (block_of_part bs j) (rising (map (block_of_part bs) (filter (hears_on l e) l.parts.items)))
        (in_rising (block_of_part bs j) (map (block_of_part bs) (filter (hears_on l e) l.parts.items)) (in_mapped (block_of_part bs) j (filter (hears_on l e) l.parts.items) (filter_in (hears_on l e) l.parts.items j other r.may))))

    is_passage : In passed (passages c l bs)
    is_passage = in_flat (passages_by c l bs) l.endpoints.items e passed is_met
        (in_flat (passages_of (hearers_on c l bs e) e) (sendings_to c l bs e) sent passed is_sent
        (in_mapped (passage sent e) to (filter (is_apart sent.end) (hearers_on c l bs e)) (filter_in (is_apart sent.end) (hearers_on c l bs e) to is_heard (rw two_numbers refl))))

    group_here : (k : ℕ) → is_at_home hs (block_of_part bs i) k ≡ true → g ≡ k
    group_here k has = of_joined p c v l is kept.joined kept.grants i (block_of_part bs i) g k own refl home (at_home hs (block_of_part bs i) k has)

    group_there : (k : ℕ) → is_at_home hs (block_of_part bs j) k ≡ true → h ≡ k
    group_there k has = of_joined p c v l is kept.joined kept.grants j (block_of_part bs j) h k other refl away (at_home hs (block_of_part bs j) k has)

    not_common : have_one_in_common hs passed ≡ false
    not_common = elim (tells (have_one_in_common hs passed)) [
      | inr not ↦ not
      | inl common ↦ absurd (by (any_of (is_home_of_both hs passed) hs common))
    ]
      where
        by : ((k : Home) × (In k hs × (is_home_of_both hs passed k ≡ true))) → ⊥
        by (k, (there, has)) =
            let both = both_true (k.part == block_of_part bs i) (is_at_home hs (block_of_part bs j) k.group) has in
            differ (of_joined p c v l is kept.joined kept.grants i (block_of_part bs i) g k.group own refl home (k, (there, (eqb-true k.part (block_of_part bs i) both.0, refl))) ∙ sym (group_there k.group both.1))

    is_let_pass : is_let c hs passed ≡ true
    is_let_pass = by (have_one_in_common hs passed) (is_let c hs passed) not_common (fails (is_passage_amiss c l hs [] []) (passages c l bs) passed kept.ways is_passage)
      where
        by : (common let_ : Bool) → common ≡ false → (not common && (not let_ && true)) ≡ false → let_ ≡ true
        by false true none h = refl
        by false false none h = cc
        by true let_ none h = cc

    passes : may_group_pass c g e badge h ≡ true
    passes =
        let m = any_of (λ (way : PolicyWay). is_way_between hs passed way && meets way.badge s.told) c.ways.items is_let_pass in
        let one = both_true (is_way_between hs passed m.0) (meets m.0.badge s.told) m.1.1 in
        let two = both_true (m.0.endpoint == e && is_at_home hs (block_of_part bs i) m.0.from) (is_at_home hs (block_of_part bs j) m.0.to) one.0 in
        let three = both_true (m.0.endpoint == e) (is_at_home hs (block_of_part bs i) m.0.from) two.0 in
        any_in (is_way_of g e badge.0 h) c.ways.items m.0 m.1.0
        (both_are (m.0.from == g) _ (eq-eqb m.0.from g (sym (group_here m.0.from three.1)))
        (both_are (m.0.endpoint == e) _ three.0
        (both_are (m.0.to == h) _ (eq-eqb m.0.to h (sym (group_there m.0.to two.1))) (s.meets_too m.0.badge one.1))))

  -- ---- all of it

  pub keep_policy : KeepPolicy p (group_of l) any_endpoint (may_hold c l) (may_group_pass c) v (parts_listed l.memory.items l.uses.items)
  keep_policy = record {
    apart = λ t u i g h at to own other. let e : Some g ≡ Some h = sym own ∙ ap (group_in l.homes.items) (at ∙ sym to) ∙ other in cc;
    holds = λ t i g e badge rights at own live within.
        let home = has_group l t g own in
        holds i g e badge rights (listed t i at) (subst (λ n. IsAt l.homes.items n g) (same_part t home.part i home.lies at) home.at) within;
    passes = λ t u g h e badge message own other differ sends hears.
        let home = has_group l t g own in
        let away = has_group l u h other in
        passes home.part away.part g h e badge (listed t home.part home.lies) (listed u away.part away.lies) home.at away.at differ
        (sender t home.part e badge message home.lies sends) (hearer u away.part e away.lies hears);
  }

pub kept_where_untold : (p : ProfileName) (c : Policy) (l : Layout) (n : Labels) (A : State) → WhatIsNotToldIsKept p c l n A
kept_where_untold p c l n A is none =
    let kept = unbroken c l n (homes_joined c l (blocks c l)) (joins c l) (passages c l (blocks c l)) none in
    (are_named p c (shown A) l is kept.joined kept.grants, keep_policy p c l A is kept)
