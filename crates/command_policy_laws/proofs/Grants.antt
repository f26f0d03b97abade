-- Where parts have other numbers, no slot of the one ever holds a capability by which it could hand something to the other.
use Rattle.std.proofs.Common.{◌≡◌, ◌≢◌, ◌⊎◌, ℕ, inl, inr, Bool, true, false, not, ◌==◌, ◌&&◌, ◌||◌, List, [], ◌++◌, map, Some, None, refl, sym, ap, subst, ◌∙◌, arith, eq-eqb}
use Rattle.std.specs.List.{AllByRecursion as Each, Contains, filter, list_any}
use Rattle.std.proofs.lemmas.Bool.{eqb-true}
use Rattle.std.proofs.lemmas.Nat.{pow_pos}
use Rattle.cap_core.specs.declared.profile.ProfileName.{ProfileName}
use Rattle.cap_core.specs.declared.capability.Badge.{Badge}
use Rattle.cap_core.specs.declared.capability.Cap.{Cap}
use Rattle.cap_core.specs.declared.capability.Cap.TheVariants.{Null, Untyped, Endpoint, CNode, Tcb}
use Rattle.cap_core.specs.declared.rights.Rights.{Rights}
use Rattle.cap_core.specs.Numbers.{endpoint_bits}
use Rattle.cap_core.specs.Rights.{write_bit, read_bit, grant_bit, grant_reply_bit}
use Rattle.kernel_delete.specs.Members.{In}
use Rattle.kernel_delete.proofs.Clearable.{contains_in, in_contains}
use Rattle.kernel_delete.proofs.Members.{both_true, either_true, true_left, true_right, any_in, any_of, in_filter, in_left, in_right, tells}
use Rattle.kernel_forest.specs.Entries.{cap_at}
use Rattle.kernel_abstract.specs.Decode.{has_right}
use Rattle.kernel_abstract.specs.declared.call.Call.{Call as TheCall}
use Rattle.kernel_abstract.specs.Reached.{IsReached}
use Rattle.kernel_abstract.specs.Shown.{Shown}
use Rattle.kernel_abstract.specs.State.{State, shown}
use Rattle.kernel_abstract.specs.Step.{state_after}
use Rattle.query_parts.specs.declared.listed.PartUse.{PartUse}
use Rattle.query_parts.specs.Laws.{IsAllowed}
use Rattle.query_parts.specs.Parts.{AreAmong, IsCovered, IsWithin, Use}
use Rattle.query_parts.specs.Listed.{part_at, parts_listed, use_of}
use Rattle.query_parts.proofs.Lists.{and_true, from_mapped, in_mapped}
use Rattle.command_parts.specs.Text.{is_part}
use Rattle.setup_policy.specs.declared.policy.Policy.{Policy}
use Rattle.command_policy_breaches.specs.declared.held.Layout.{Layout}
use Rattle.command_policy_breaches.specs.declared.held.Waiting.{Waiting}
use Rattle.command_policy_breaches.specs.declared.sides.Right.TheVariants.{Give, Call, Answer, Receive}
use Rattle.command_policy_breaches.specs.declared.joining.Join.{Join}
use Rattle.command_policy_breaches.specs.Joins.{hands_by, have_one_group, have_two_groups, joins}
use Rattle.command_policy_breaches.specs.Layouts.{IsLayoutOf}
use Rattle.command_policy_breaches.specs.Sides.{answers, calls, hears, is_use_on, may, owns_in_layout, sends, sends_with_grant, waits_to_hear}
use Rattle.command_policy_laws.specs.Grants.{HandNothingEver, HandsNothing, WhatIsJoinedIsClosed, number_of}
use Rattle.command_policy_laws.specs.Unbroken.{HandNothingOut}
use Rattle.command_policy_laws.proofs.Groups.{IsAt, has_group, in_rising, of_number, part_of_address}
use Rattle.command_policy_laws.proofs.Joined.{handed, joins_closed}
use Rattle.command_policy_laws.proofs.Rights.{grant_kept, read_kept, write_kept}

module _ (p : ProfileName) (c : Policy) (v : Shown) (l : Layout) (is : IsLayoutOf p c v l) (grant : c.grant ≡ true) where
  -- the endpoint is memory of the part, or one of those that are looked at
  abbrev IsMet : ℕ → ℕ → Type 0
  IsMet i e = (part_at l.memory.items e ≡ Some i) ⊎ In e l.endpoints.items

  owned : (i e : ℕ) → owns_in_layout l i e ≡ true → part_at l.memory.items e ≡ Some i
  owned i e owns = elim (part_at l.memory.items e) as (λ o. is_part i o ≡ true → o ≡ Some i) [
    | None ↦ λ h. cc
    | Some k ↦ λ h. ap (λ n. Some n) (eqb-true k i h)
  ] owns

  owns : (i e : ℕ) → part_at l.memory.items e ≡ Some i → owns_in_layout l i e ≡ true
  owns i e at = ap (is_part i) at ∙ eq-eqb i i refl

  used_there : (e : ℕ) (u : PartUse) → In u l.uses.items → u.endpoint ≡ e → In e l.endpoints.items
  used_there e u there same =
      subst (In e) (sym is.met)
      (in_rising e (map (λ (x : PartUse). x.endpoint) l.uses.items ++ map (λ (w : Waiting). w.endpoint) l.waits.items)
      (in_left e (map (λ (x : PartUse). x.endpoint) l.uses.items) (map (λ (w : Waiting). w.endpoint) l.waits.items)
      (subst (λ n. In n (map (λ (x : PartUse). x.endpoint) l.uses.items)) same (in_mapped (λ (x : PartUse). x.endpoint) u l.uses.items there))))

  waited_there : (e : ℕ) (w : Waiting) → In w l.waits.items → w.endpoint ≡ e → In e l.endpoints.items
  waited_there e w there same =
      subst (In e) (sym is.met)
      (in_rising e (map (λ (x : PartUse). x.endpoint) l.uses.items ++ map (λ (x : Waiting). x.endpoint) l.waits.items)
      (in_right e (map (λ (x : PartUse). x.endpoint) l.uses.items) (map (λ (x : Waiting). x.endpoint) l.waits.items)
      (subst (λ n. In n (map (λ (x : Waiting). x.endpoint) l.waits.items)) same (in_mapped (λ (x : Waiting). x.endpoint) w l.waits.items there))))

  -- ---- who takes what is handed

  receives_met : (j e : ℕ) → may Receive l j e ≡ true → IsMet j e
  receives_met j e h = elim (either_true (owns_in_layout l j e) (list_any (hears j e) l.uses.items || list_any (waits_to_hear l j e) l.waits.items) h) [
    | inl own ↦ inl (owned j e own)
    | inr h ↦ elim (either_true (list_any (hears j e) l.uses.items) (list_any (waits_to_hear l j e) l.waits.items) h) [
      | inl by_use ↦ let u = any_of (hears j e) l.uses.items by_use in
          let on = both_true (is_use_on j e u.0) (has_right read_bit u.0.rights) u.1.1 in
          inr (used_there e u.0 u.1.0 (eqb-true u.0.endpoint e (both_true (u.0.part == j) (u.0.endpoint == e) on.0).1))
      | inr by_wait ↦ let w = any_of (waits_to_hear l j e) l.waits.items by_wait in
          let here = both_true (not w.0.sends) (w.0.endpoint == e && is_part j (part_at l.memory.items w.0.thread)) w.1.1 in
          inr (waited_there e w.0 w.1.0 (eqb-true w.0.endpoint e (both_true (w.0.endpoint == e) (is_part j (part_at l.memory.items w.0.thread)) here.1).0))
    ]
  ]

  calls_met : (j e : ℕ) → may Call l j e ≡ true → IsMet j e
  calls_met j e h = elim (either_true (owns_in_layout l j e) (list_any (calls j e) l.uses.items) h) [
    | inl own ↦ inl (owned j e own)
    | inr by_use ↦ let u = any_of (calls j e) l.uses.items by_use in
        let sending = both_true (sends j e u.0) (has_right grant_bit u.0.rights || has_right grant_reply_bit u.0.rights) u.1.1 in
        let on = both_true (is_use_on j e u.0) (has_right write_bit u.0.rights) sending.0 in
        inr (used_there e u.0 u.1.0 (eqb-true u.0.endpoint e (both_true (u.0.part == j) (u.0.endpoint == e) on.0).1))
  ]

  -- ---- who hands it over

  -- the use of a part that covers a capability
  record CoversFor (i e : ℕ) (rights : Rights) (u : PartUse) : Type 0 where
    there : In u l.uses.items
    part : u.part == i ≡ true
    endpoint : u.endpoint == e ≡ true
    rights_fit : AreAmong rights u.rights

  cover : (i e : ℕ) (badge : Badge) (rights : Rights) → IsCovered (parts_listed l.memory.items l.uses.items) i e badge rights → (u : PartUse) × CoversFor i e rights u
  cover i e badge rights covered =
      let own = filter (λ (x : PartUse). x.part == i) l.uses.items in
      let u = from_mapped use_of own covered.0 (contains_in (map use_of own) covered.0 covered.1.0) in
      let here = in_filter (λ (x : PartUse). x.part == i) l.uses.items u.0 u.1.0 in (
        u.0,
        record {
          there = here.0;
          part = here.1;
          endpoint = eq-eqb u.0.endpoint e (sym (ap (λ (x : Use). x.endpoint) u.1.1) ∙ covered.1.1.endpoint_is);
          rights_fit = subst (λ (x : Use). AreAmong rights x.rights) u.1.1 covered.1.1.rights_fit;
        },
      )

  module _ (i j : ℕ) (own : In i l.parts.items) (other : In j l.parts.items) (differ : number_of c l i ≢ number_of c l j) where
    -- nothing that both have hands something over
    apart : (e : ℕ) → IsMet i e → IsMet j e → hands_by l i j e ≡ true → ⊥
    apart e (inl here) (inl there) hands = let same : i ≡ j = cc in differ (ap (number_of c l) same)
    apart e (inl here) (inr met) hands = differ (handed c l grant i j e own other met hands)
    apart e (inr met) other_met hands = differ (handed c l grant i j e own other met hands)

    none_sent : (e : ℕ) → IsMet i e → may Give l i e ≡ true → may Receive l j e ≡ false
    none_sent e met gives = elim (tells (may Receive l j e)) [
      | inl takes ↦ absurd (apart e met (receives_met j e takes) (true_left (may Give l i e && may Receive l j e) _ (and_true (may Give l i e) (may Receive l j e) gives takes)))
      | inr not ↦ not
    ]

    none_answered : (e : ℕ) → IsMet i e → may Answer l i e ≡ true → may Call l j e ≡ false
    none_answered e met gives = elim (tells (may Call l j e)) [
      | inl takes ↦ absurd (apart e met (calls_met j e takes) (true_right (may Give l i e && may Receive l j e) _ (and_true (may Answer l i e) (may Call l j e) gives takes)))
      | inr not ↦ not
    ]

    hands_nothing : (cap : Cap) → IsWithin p (parts_listed l.memory.items l.uses.items) i cap → HandsNothing l j cap
    hands_nothing Null within = tt
    hands_nothing (Untyped base bits free) within = tt
    hands_nothing (Endpoint base badge rights) (inl within) =
        let here : part_at l.memory.items base ≡ Some i = within base (omega arith) (omega (arith, pow_pos (endpoint_bits p))) in
        let mine = owns i base here in (
          (λ writes grants. none_sent base (inl here) (true_left (owns_in_layout l i base) _ mine)),
          (λ reads grants. none_answered base (inl here) (true_left (owns_in_layout l i base) _ mine)),
        )
    hands_nothing (Endpoint base badge rights) (inr covered) =
        let u = cover i base badge rights covered in
        let on = and_true (u.0.part == i) (u.0.endpoint == base) u.1.part u.1.endpoint in
        let met = used_there base u.0 u.1.there (eqb-true u.0.endpoint base u.1.endpoint) in (
          (λ writes grants. none_sent base (inr met)
              (true_right (owns_in_layout l i base) _
              (any_in (sends_with_grant i base) l.uses.items u.0 u.1.there
              (and_true (sends i base u.0) (has_right grant_bit u.0.rights)
              (and_true (is_use_on i base u.0) (has_right write_bit u.0.rights) on (write_kept rights u.0.rights u.1.rights_fit writes))
              (grant_kept rights u.0.rights u.1.rights_fit grants))))),
          (λ reads grants. none_answered base (inr met)
              (true_right (owns_in_layout l i base) _
              (any_in (answers i base) l.uses.items u.0 u.1.there
              (and_true (hears i base u.0) (has_right grant_bit u.0.rights)
              (and_true (is_use_on i base u.0) (has_right read_bit u.0.rights) on (read_kept rights u.0.rights u.1.rights_fit reads))
              (grant_kept rights u.0.rights u.1.rights_fit grants))))),
        )
    hands_nothing (CNode base radix guard) within = tt
    hands_nothing (Tcb base) within = tt

    hand_nothing_ever : HandNothingEver p l v i j
    hand_nothing_ever A reached shows calls of slot here =
        hands_nothing (cap_at (state_after p A calls).derivations slot) ((is.right.ever A reached shows calls of).closed i slot here)

pub joined_closed : (p : ProfileName) (c : Policy) (l : Layout) (v : Shown) → WhatIsJoinedIsClosed p c l v
joined_closed p c l v is grant = (
  joins_closed c l grant,
  (λ i j own other differ. hand_nothing_ever p c v l is grant i j (contains_in l.parts.items i own) (contains_in l.parts.items j other) differ),
)

-- where no line tells of a breach, groups whose parts are joined are one, so that nothing is handed to another group
pub handed_out : (p : ProfileName) (c : Policy) (l : Layout) (A : State) → IsReached p A → (is : IsLayoutOf p c (shown A) l) →
    filter (λ part. have_two_groups l.homes.items part part) l.parts.items ≡ [] →
    filter (λ (j : Join). not (have_one_group l.homes.items j.from j.to)) (joins c l) ≡ [] →
    (calls : List TheCall) → Each (IsAllowed (parts_listed l.memory.items l.uses.items)) calls → HandNothingOut c l (state_after p A calls).derivations
handed_out p c l A reached is joined grants calls of grant slot thread j g h own other lies differ =
    let here = has_group l slot g own in
    let there = has_group l thread h other in
    let same : there.part ≡ j = let e : Some there.part ≡ Some j = sym there.lies ∙ lies in cc in
    let first = part_of_address p c (shown A) l is joined grants slot here.part here.lies in
    let second = part_of_address p c (shown A) l is joined grants thread j lies in
    let apart : number_of c l here.part ≢ number_of c l j =
    λ equal. differ (of_number p c (shown A) l is joined grants here.part j g h first second equal here.at (subst (λ k. IsAt l.homes.items k h) same there.at)) in
    (joined_closed p c l (shown A) is grant).1 here.part j (in_contains l.parts.items here.part first) (in_contains l.parts.items j second) apart
    A reached refl calls of slot here.lies
