-- No call of a thread of a group takes from another group, where no line tells of it.
use Rattle.std.proofs.Common.{◌≡◌, ◌≢◌, inl, inr, ℕ, Bool, true, false, not, cond, ◌==◌, ◌&&◌, List, [], map, refl, sym, ap, subst, ◌∙◌, eq-eqb}
use Rattle.std.specs.List.{filter, AllByRecursion as Each}
use Rattle.std.proofs.lemmas.Bool.{false≢true, eqb-true}
use Rattle.cap_core.specs.declared.profile.ProfileName.{ProfileName}
use Rattle.kernel_abstract.specs.declared.call.Call.{Call}
use Rattle.kernel_abstract.specs.Reached.{IsReached}
use Rattle.kernel_abstract.specs.State.{State, shown}
use Rattle.kernel_abstract.specs.Step.{state_after}
use Rattle.kernel_abstract.proofs.Reached.Runs.{reached_after}
use Rattle.kernel_delete.specs.Members.{In}
use Rattle.kernel_delete.proofs.Members.{any_in, any_of, both_true, tells}
use Rattle.query_parts.specs.Below.{StandsNoneBelow}
use Rattle.query_parts.specs.Laws.{IsAllowed}
use Rattle.query_parts.specs.Listed.{parts_listed}
use Rattle.query_parts.proofs.Closed.{shown_derivations}
use Rattle.query_parts.proofs.Lists.{and_true, in_mapped}
use Rattle.query_parts.proofs.Taking.{stay_none, takes_nothing}
use Rattle.setup_report.specs.State.{is_in}
use Rattle.command_parts.specs.declared.takes.PartSlot.{PartSlot}
use Rattle.command_parts.specs.Takes.{part_slots, taken_by, taking}
use Rattle.command_parts.proofs.Beneath.{takes_none}
use Rattle.command_never.proofs.Kept.{now_closed}
use Rattle.setup_policy.specs.declared.policy.Policy.{Policy}
use Rattle.setup_policy.specs.declared.policy.PolicyTake.{PolicyTake}
use Rattle.setup_policy.specs.declared.policy.PolicyVersion.{PolicyVersion}
use Rattle.setup_policy.specs.declared.policy.PolicyVersion.TheVariants.{Two}
use Rattle.command_policy_breaches.specs.declared.joining.Join.{Join}
use Rattle.command_policy_breaches.specs.declared.held.Layout.{Layout}
use Rattle.command_policy_breaches.specs.Joins.{have_one_group, have_two_groups, joins}
use Rattle.command_policy_breaches.specs.Layouts.{IsLayoutOf}
use Rattle.command_policy_breaches.specs.Sides.{is_at_home}
use Rattle.command_policy_breaches.specs.Takes.{have_group_in_common, is_home_in_both, is_take_amiss, is_take_let, is_take_of, says_takes, takes_amiss}
use Rattle.command_policy_laws.specs.Unbroken.{AreTakesHeld, may_take}
use Rattle.command_policy_laws.proofs.Groups.{IsAt, at_home, has_group, in_flat, of_one, part_of_address}
use Rattle.command_policy_laws.proofs.Untold.{fails}

in_list : (n : ℕ) (xs : List ℕ) → is_in n xs ≡ true → In n xs
in_list n xs h = let m = any_of (λ a. n == a) xs h in subst (λ z. In z xs) (sym (eqb-true n m.0 m.1.1)) m.1.0

-- neither of two is so, and so it is amiss
neither_fails : (a b : Bool) → (a ≡ true → ⊥) → (b ≡ true → ⊥) → (not a && not b) ≡ false → ⊥
neither_fails true b f g h = f refl
neither_fails false true f g h = g refl
neither_fails false false f g h = cc

module _ (p : ProfileName) (c : Policy) (l : Layout) (A : State) (reached : IsReached p A) (is : IsLayoutOf p c (shown A) l)
    (joined_none : filter (λ part. have_two_groups l.homes.items part part) l.parts.items ≡ [])
    (grants_none : filter (λ (j : Join). not (have_one_group l.homes.items j.from j.to)) (joins c l) ≡ [])
    (two : c.version ≡ Two) (takes_none_told : takes_amiss c l ≡ []) where
  abbrev slots : List PartSlot
  slots = part_slots l.memory.items (shown A).derivations

  -- in version 2 no take is amiss
  none_amiss : filter (is_take_amiss c l) l.takes.items ≡ []
  none_amiss = ap (λ (v : PolicyVersion). cond (says_takes v) (filter (is_take_amiss c l) l.takes.items) []) (sym two) ∙ takes_none_told

  -- what a part takes from another is one of the takes
  listed_take : (i j : ℕ) → In i l.parts.items → is_in j (taken_by slots i) ≡ true → In (taking i j) l.takes.items
  listed_take i j own taken =
      subst (In (taking i j)) (sym is.takes_are)
      (in_flat (λ part. map (taking part) (taken_by slots part)) l.parts.items i (taking i j) own (in_mapped (taking i) j (taken_by slots i) (in_list j (taken_by slots i) taken)))

  module _ (i j g h : ℕ) (own : In i l.parts.items) (other : In j l.parts.items) (mine : IsAt l.homes.items i g) (theirs : IsAt l.homes.items j h) (differ : g ≢ h)
      (none : may_take c g h ≡ false) where
    alone : (part : ℕ) → In part l.parts.items → (k n : ℕ) → IsAt l.homes.items part k → IsAt l.homes.items part n → k ≡ n
    alone = of_one p c (shown A) l is joined_none grants_none

    apart : i ≡ j → ⊥
    apart same = differ (alone i own g h mine (subst (λ n. IsAt l.homes.items n h) (sym same) theirs))

    not_common : have_group_in_common l (taking i j) ≡ true → ⊥
    not_common has =
        let m = any_of (is_home_in_both l (taking i j)) l.homes.items has in
        let both = both_true (m.0.part == i) (is_at_home l.homes.items j m.0.group) m.1.1 in
        let here : IsAt l.homes.items i m.0.group = (m.0, (m.1.0, (eqb-true m.0.part i both.0, refl))) in
        differ (alone i own g m.0.group mine here ∙ alone j other m.0.group h (at_home l.homes.items j m.0.group both.1) theirs)

    not_let : is_take_let c l (taking i j) ≡ true → ⊥
    not_let has =
        let m = any_of (is_take_of l (taking i j)) c.takes.items has in
        let both = both_true (is_at_home l.homes.items i m.0.from) (is_at_home l.homes.items j m.0.to) m.1.1 in
        let from = alone i own m.0.from g (at_home l.homes.items i m.0.from both.0) mine in
        let to = alone j other m.0.to h (at_home l.homes.items j m.0.to both.1) theirs in
        false≢true (sym none ∙ any_in (λ (w : PolicyTake). w.from == g && w.to == h) c.takes.items m.0 m.1.0
        (and_true (m.0.from == g) (m.0.to == h) (eq-eqb m.0.from g from) (eq-eqb m.0.to h to)))

    untaken : is_in j (taken_by slots i) ≡ false
    untaken = elim (tells (is_in j (taken_by slots i))) [
      | inl taken ↦ absurd (neither_fails (have_group_in_common l (taking i j)) (is_take_let c l (taking i j)) not_common not_let
          (fails (is_take_amiss c l) l.takes.items (taking i j) none_amiss (listed_take i j own taken)))
      | inr not ↦ not
    ]

    stands_none : StandsNoneBelow (parts_listed l.memory.items l.uses.items) i j A.derivations
    stands_none =
        subst (StandsNoneBelow (parts_listed l.memory.items l.uses.items) i j) (shown_derivations A)
        (takes_none l.memory.items l.uses.items (shown A).derivations i j apart untaken)

  pub takes_held : (calls : List Call) → Each (IsAllowed (parts_listed l.memory.items l.uses.items)) calls → AreTakesHeld p c l (state_after p A calls)
  takes_held calls of call i j g h slot at to own other differ none =
      let parts = parts_listed l.memory.items l.uses.items in
      let mine = has_group l call.thread g own in
      let theirs = has_group l slot h other in
      let in_own = part_of_address p c (shown A) l is joined_none grants_none call.thread mine.part mine.lies in
      let in_other = part_of_address p c (shown A) l is joined_none grants_none slot theirs.part theirs.lies in
      let separate = apart mine.part theirs.part g h in_own in_other mine.at theirs.at differ none in
      let below = stands_none mine.part theirs.part g h in_own in_other mine.at theirs.at differ none in
      takes_nothing p parts mine.part theirs.part (state_after p A calls) call (reached_after p A calls reached)
      ((is.right.ever A reached refl calls of).closed mine.part) mine.lies separate
      (stay_none p parts mine.part theirs.part A calls reached (now_closed p l.memory.items l.uses.items [] 0 0 (shown A) is.right.ever A reached refl) of separate below)
      slot theirs.lies
