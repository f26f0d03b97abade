-- What stands below the slots of a part stays such: a new capability stands below its source, or below what its source stands below.
use Rattle.std.proofs.Common.{◌≡◌, ℕ, ◌^◌, inl, inr, Bool, true, false, cond, ◌==◌, eqb, List, [], ◌∷◌, Some, Result, Ok, Err, refl, sym, ap, subst, ◌∙◌, arith}
use Rattle.std.specs.List.{AllByRecursion as Each, Contains, IsDistinct}
use Rattle.std.proofs.lemmas.Bool.{false≢true, eqb-true}
use Rattle.std.proofs.lemmas.Bool.Decides.{nat_tests}
use Rattle.cap_core.specs.declared.profile.ProfileName.{ProfileName}
use Rattle.cap_core.specs.declared.capability.Cap.{Cap}
use Rattle.cap_core.specs.declared.refusal.Refusal.{Refusal}
use Rattle.cap_core.specs.Objects.{is_untyped, bits_of}
use Rattle.cap_core.specs.Kinds.{new_cap}
use Rattle.mem_core.specs.Plans.{object_at}
use Rattle.cspace_core.specs.Resolution.{slot_of}
use Rattle.kernel_forest.specs.Forest.{Forest, preorder, below_those, descendants, below, after, renamed}
use Rattle.kernel_forest.specs.Entries.{Entry, entry, is_at, is_full, is_original, slots}
use Rattle.kernel_forest.specs.Derivation.{derived, derived_entry, retyped, moved, freed}
use Rattle.kernel_forest.proofs.Trees.Forests.{each-contained, each-from_contained, each-weaker}
use Rattle.kernel_forest.proofs.Trees.Built.{Absent, below_those_none, renamed-below_those}
use Rattle.kernel_forest.proofs.Trees.Renamed.{each-renamed, below_those-agree}
use Rattle.kernel_forest.proofs.Slots.Edits.{entry_at}
use Rattle.kernel_forest.proofs.Slots.Freed.{freed_entry, slot-freed_entry}
use Rattle.kernel_forest.proofs.Slots.Moved.{moved_entry}
use Rattle.kernel_forest.proofs.Slots.Holding.{none_stands}
use Rattle.kernel_delete.specs.Least.{cleared}
use Rattle.kernel_delete.specs.Clear.{clear}
use Rattle.kernel_delete.specs.Revoke.{revoke}
use Rattle.kernel_delete.proofs.Members.{tells, eqb_self}
use Rattle.kernel_delete.proofs.Kept.{below-without, distinct-without, kept-revoke}
use Rattle.kernel_abstract.specs.declared.call.Call.{Call}
use Rattle.kernel_abstract.specs.declared.call.Reply.{Reply}
use Rattle.kernel_abstract.specs.declared.invocation.Invocation.{Invocation}
use Rattle.kernel_abstract.specs.declared.invocation.Invocation.TheVariants.{Send, Receive, Retype, Derive, Move, Delete, Revoke, CancelBadged, SetSpace, Suspend, Resume}
use Rattle.kernel_abstract.specs.declared.invocation.NewObjects.{NewObjects}
use Rattle.kernel_abstract.specs.declared.invocation.NewSpace.{NewSpace}
use Rattle.kernel_abstract.specs.declared.invocation.CapPlacement.{CapPlacement}
use Rattle.kernel_abstract.specs.Retyping.{new_caps, with_new, with_objects}
use Rattle.kernel_abstract.specs.CNodes.{with_derived}
use Rattle.kernel_abstract.specs.Threads.{with_space}
use Rattle.kernel_abstract.specs.Decode.{decoded_call}
use Rattle.kernel_abstract.specs.State.{State, shown, endpoint_at}
use Rattle.kernel_abstract.specs.Step.{Outcome, outcome, performed, where_awaited, is_send_awaited, is_receive_awaited, send_accepted, receive_accepted, step, state_after}
use Rattle.kernel_abstract.specs.Private.Invocations.{IsRetype, IsDerivation, IsSpace}
use Rattle.kernel_abstract.specs.Private.Stores.{IsKernelStore}
use Rattle.kernel_abstract.specs.Reached.{IsReached}
use Rattle.kernel_abstract.proofs.Capabilities.Descendants.{each-descendants_below, each-descendants_after, bare-below, bare-after}
use Rattle.kernel_abstract.proofs.Capabilities.SpacesSet.{space_kept}
use Rattle.kernel_abstract.proofs.Checks.PassedInvocations.{IsEdit, call_passed}
use Rattle.kernel_abstract.proofs.Reached.Stores.{checked_edit}
use Rattle.kernel_abstract.proofs.Reached.Simulation.{reached_is}
use Rattle.kernel_abstract.proofs.Reached.Runs.{reached_after}
use Rattle.kernel_abstract.proofs.Retype.PutInOrder.{CanMake, other_new}
use Rattle.kernel_abstract.proofs.Retype.RetypedForest.{each-range, can_make}
use Rattle.query_parts.specs.Parts.{Parts, IsClosed}
use Rattle.query_parts.specs.Laws.{AreClosed, IsAllowed}
use Rattle.query_parts.proofs.Passed.{IsPlacedIn, IsMadeIn, IsSpaceIn, StaysIn, op_stays}
use Rattle.query_parts.proofs.Messages.{IsMessage, MayBeMessage, call_passes}
use Rattle.query_parts.proofs.Runs.{some_is, step_allowed}

-- what stands below a slot stands below an entry there
pub above : (s : ℕ) (f : Forest Entry) (d : Entry) → Contains (descendants (is_at s) f) d → (a : Entry) × Contains (preorder f) a × (a.slot ≡ s)
above s f d m = elim (tells (is_full s f)) [
  | inl full ↦ let a : (a : Entry) × Contains (preorder f) a × (a.slot ≡ s) × (a.cap ≡ _) = entry_at s f full in (a.0, a.1, a.2)
  | inr empty ↦
      let nothing : Each (λ (e : Entry). ⊥) (descendants (is_at s) f) =
      subst (λ (g : Forest Entry). Each (λ (e : Entry). ⊥) (preorder g)) (sym (below_those_none (is_at s) f (none_stands s (preorder f) empty))) tt in
      absurd (each-contained (λ (e : Entry). ⊥) (descendants (is_at s) f) d nothing m)
]

-- slots that may stand below those of part i: with one slot of a part each of that part, and each of part i
module _ (p : ProfileName) (parts : Parts) (i : ℕ) (P : ℕ → Type 0)
    (own : (s : ℕ) → parts.part_of s ≡ Some i → P s)
    (beside : (k s t : ℕ) → parts.part_of s ≡ Some k → parts.part_of t ≡ Some k → P t → P s) where
  abbrev Fits : Entry → Type 0
  Fits e = P e.slot

  abbrev pub FitBelow : Forest Entry → Type 0
  FitBelow f = (s : ℕ) → parts.part_of s ≡ Some i → Each Fits (descendants (is_at s) f)

  -- a further capability, in an empty slot of the part in which its source lies
  module _ (k source : ℕ) (x : Entry) (f : Forest Entry) (from : parts.part_of source ≡ Some k) (to : parts.part_of x.slot ≡ Some k)
      (empty : is_full x.slot f ≡ false) (fits : FitBelow f) where
    absent : Absent (is_at x.slot) (preorder f)
    absent = none_stands x.slot (preorder f) empty

    -- where the source may stand below, the new one may
    through : (s : ℕ) → parts.part_of s ≡ Some i → Each (λ (e : Entry). is_at source e ≡ true → Fits x) (descendants (is_at s) f)
    through s mine =
        each-weaker Fits (λ (e : Entry). is_at source e ≡ true → Fits x)
        (λ e w t. beside k x.slot source to from (subst P (eqb-true e.slot source t) w)) (descendants (is_at s) f) (fits s mine)

    pub fits-below : FitBelow (below (is_at source) x f)
    fits-below s mine =
        (elim (x.slot == s) as (λ b. (x.slot == s) ≡ b → Each Fits (descendants (is_at s) (below (is_at source) x f))) [
          | true ↦ λ at.
              subst (λ n. Each Fits (descendants (is_at n) (below (is_at source) x f))) (eqb-true x.slot s at)
              (subst (λ (g : Forest Entry). Each Fits (preorder g)) (sym (bare-below (is_at source) (is_at x.slot) x f (eqb_self x.slot) absent)) tt)
          | false ↦ λ other.
              each-descendants_below Fits (is_at source) (is_at s) x f other
              (each-from_contained (λ (e : Entry). is_at source e ≡ true → is_at s e ≡ true → Fits x) (preorder f)
              (λ e m t u. beside k x.slot source to from
              (subst P (sym (eqb-true e.slot s u) ∙ eqb-true e.slot source t) (own s mine))))
              (fits s mine) (through s mine)
        ]) refl

    pub fits-after : FitBelow (after (is_at source) x f)
    fits-after s mine =
        (elim (x.slot == s) as (λ b. (x.slot == s) ≡ b → Each Fits (descendants (is_at s) (after (is_at source) x f))) [
          | true ↦ λ at.
              subst (λ n. Each Fits (descendants (is_at n) (after (is_at source) x f))) (eqb-true x.slot s at)
              (subst (λ (g : Forest Entry). Each Fits (preorder g)) (sym (bare-after (is_at source) (is_at x.slot) x f (eqb_self x.slot) absent)) tt)
          | false ↦ λ other. each-descendants_after Fits (is_at source) (is_at s) x f other (fits s mine) (through s mine)
        ]) refl

  fits-derived : (k source slot : ℕ) (cap : Cap) (f : Forest Entry) → parts.part_of source ≡ Some k → parts.part_of slot ≡ Some k →
      is_full slot f ≡ false → FitBelow f → FitBelow (derived source slot cap f)
  fits-derived k source slot cap f from to empty fits =
      elim (is_original source f) as
      (λ c. FitBelow (cond c (below (is_at source) (derived_entry source slot cap f) f) (after (is_at source) (derived_entry source slot cap f) f))) [
        | true ↦ fits-below k source (derived_entry source slot cap f) f from to empty fits
        | false ↦ fits-after k source (derived_entry source slot cap f) f from to empty fits
      ]

  -- what is used of a region
  fits-freed : (slot free : ℕ) (f : Forest Entry) → FitBelow f → FitBelow (freed slot free f)
  fits-freed slot free f fits s mine =
      subst (λ (g : Forest Entry). Each Fits (preorder g)) (sym below_is)
      (each-renamed Fits (freed_entry slot free) (below_those (is_at s) f)
      (each-weaker Fits (λ (e : Entry). Fits (freed_entry slot free e)) (λ e w. subst P (sym (slot-freed_entry slot free e)) w)
      (descendants (is_at s) f) (fits s mine)))
    where
      below_is : below_those (is_at s) (freed slot free f) ≡ renamed (freed_entry slot free) (below_those (is_at s) f)
      below_is =
          renamed-below_those (freed_entry slot free) (is_at s) f
          ∙ ap (renamed (freed_entry slot free)) (below_those-agree (is_at s) (λ (e : Entry). is_at s (freed_entry slot free e)) f
          (each-from_contained (λ (e : Entry). is_at s (freed_entry slot free e) ≡ is_at s e) (preorder f)
          (λ e m. ap (λ n. n == s) (slot-freed_entry slot free e))))

  fits-with_derived : (k : ℕ) (placement : CapPlacement) (f : Forest Entry) → IsDerivation p f placement → IsPlacedIn p parts k placement →
      FitBelow f → FitBelow (with_derived p placement f)
  fits-with_derived k placement f edit is fits =
      let put = fits-derived k placement.source placement.slot placement.cap f is.source is.slot edit.ends.empty fits in
      elim (is_untyped placement.cap) as
      (λ b. FitBelow (cond b (freed placement.source (2 ^ bits_of p placement.cap) (derived placement.source placement.slot placement.cap f))
      (derived placement.source placement.slot placement.cap f))) [
        | true ↦ fits-freed placement.source (2 ^ bits_of p placement.cap) (derived placement.source placement.slot placement.cap f) put
        | false ↦ put
      ]

  -- new objects, below their region
  fits-with_new : (k memory untyped : ℕ) (puts : List (ℕ × Cap)) (f : Forest Entry) → CanMake p memory untyped puts f →
      parts.part_of untyped ≡ Some k → Each (λ (put : ℕ × Cap). parts.part_of put.0 ≡ Some k) puts → FitBelow f → FitBelow (with_new untyped puts f)
  fits-with_new k memory untyped [] f can from to fits = fits
  fits-with_new k memory untyped (put ∷ puts) f can from to fits =
      fits-with_new k memory untyped puts (retyped untyped put.0 put.1 f) (other_new p memory untyped put puts f can) from to.1
      (fits-below k untyped (entry put.0 put.1 true) f from to.0 can.new.0.empty fits)

  fits-with_objects : (k memory : ℕ) (new : NewObjects) (f : Forest Entry) → IsKernelStore p memory f → IsRetype p f new → IsMadeIn p parts k new →
      FitBelow f → FitBelow (with_objects p new f)
  fits-with_objects k memory new f store edit is fits =
      fits-with_new k memory new.untyped (new_caps p new) (freed new.untyped new.placed.free f)
      (can_make p f new edit memory store.regions store.disjoint store.slots_distinct store.lawful) is.untyped
      (each-range (λ (put : ℕ × Cap). parts.part_of put.0 ≡ Some k)
      (λ n. (slot_of p new.first_slot n, new_cap new.shape.kind (object_at new.placed n) new.shape.size_bits)) 0 new.count
      (λ n low high. is.slots n (omega (arith, high))))
      (fits-freed new.untyped new.placed.free f fits)

  -- a move takes what stands below a slot along
  module _ (k source slot : ℕ) (cap : Cap) (f : Forest Entry) (from : parts.part_of source ≡ Some k) (to : parts.part_of slot ≡ Some k)
      (empty : is_full slot f ≡ false) (fits : FitBelow f) where
    abbrev Moves : Entry → Entry
    Moves = moved_entry source slot cap

    moves : (e : Entry) → Fits e → Fits (Moves e)
    moves e w =
        (elim (e.slot == source) as (λ b. (e.slot == source) ≡ b → P (cond b (entry slot cap e.original) e).slot) [
          | true ↦ λ at. beside k slot source to from (subst P (eqb-true e.slot source at) w)
          | false ↦ λ other. w
        ]) refl

    -- where it is looked for what stands below, by the slots before the move
    looked_for : (s t : ℕ) (e : Entry) → (e.slot == slot) ≡ false → (t == slot) ≡ false → cond (t == source) slot t ≡ s → is_at s (Moves e) ≡ is_at t e
    looked_for s t e a b is =
        (elim (e.slot == source) as (λ c. (e.slot == source) ≡ c → ((cond c (entry slot cap e.original) e).slot == s) ≡ (e.slot == t)) [
          | true ↦ λ at. (elim (t == source) as (λ c. (t == source) ≡ c → cond c slot t ≡ s → (slot == s) ≡ (e.slot == t)) [
            | true ↦ λ here is. both at here is
            | false ↦ λ there is. first at there is b
          ]) refl is
          | false ↦ λ other. (elim (t == source) as (λ c. (t == source) ≡ c → cond c slot t ≡ s → (e.slot == s) ≡ (e.slot == t)) [
            | true ↦ λ here is. second other here is a
            | false ↦ λ there is. ap (λ n. e.slot == n) (sym is)
          ]) refl is
        ]) refl
      where
        both : (e.slot == source) ≡ true → (t == source) ≡ true → slot ≡ s → (slot == s) ≡ (e.slot == t)
        both u v w = grind (arith, nat_tests)

        first : (e.slot == source) ≡ true → (t == source) ≡ false → t ≡ s → (t == slot) ≡ false → (slot == s) ≡ (e.slot == t)
        first u v w z = grind (arith, nat_tests)

        second : (e.slot == source) ≡ false → (t == source) ≡ true → slot ≡ s → (e.slot == slot) ≡ false → (e.slot == s) ≡ (e.slot == t)
        second u v w z = grind (arith, nat_tests)

    by_former : (s t : ℕ) → parts.part_of t ≡ Some i → (t == slot) ≡ false → cond (t == source) slot t ≡ s → Each Fits (descendants (is_at s) (moved source slot cap f))
    by_former s t mine other is =
        subst (λ (g : Forest Entry). Each Fits (preorder g)) (sym below_is)
        (each-renamed Fits Moves (below_those (is_at t) f) (each-weaker Fits (λ (e : Entry). Fits (Moves e)) moves (descendants (is_at t) f) (fits t mine)))
      where
        below_is : below_those (is_at s) (moved source slot cap f) ≡ renamed Moves (below_those (is_at t) f)
        below_is =
            renamed-below_those Moves (is_at s) f
            ∙ ap (renamed Moves) (below_those-agree (is_at t) (λ (e : Entry). is_at s (Moves e)) f
            (each-weaker (λ (e : Entry). (e.slot == slot) ≡ false) (λ (e : Entry). is_at s (Moves e) ≡ is_at t e)
            (λ e a. looked_for s t e a other is) (preorder f) (none_stands slot (preorder f) empty)))

    -- nothing stands below the slot that is left
    left_bare : (s : ℕ) → (source == s) ≡ true → (slot == s) ≡ false → Each Fits (descendants (is_at s) (moved source slot cap f))
    left_bare s at other =
        subst (λ (g : Forest Entry). Each Fits (preorder g))
        (sym (below_those_none (is_at s) (moved source slot cap f)
        (each-renamed (λ (e : Entry). is_at s e ≡ false) Moves f
        (each-from_contained (λ (e : Entry). is_at s (Moves e) ≡ false) (preorder f) (λ e m. gone e))))) tt
      where
        gone : (e : Entry) → is_at s (Moves e) ≡ false
        gone e =
            (elim (e.slot == source) as (λ c. (e.slot == source) ≡ c → ((cond c (entry slot cap e.original) e).slot == s) ≡ false) [
              | true ↦ λ here. other
              | false ↦ λ there. subst (λ n. (e.slot == n) ≡ false) (eqb-true source s at) there
            ]) refl

    pub fits-moved : is_full source f ≡ true → FitBelow (moved source slot cap f)
    fits-moved full s mine =
        (elim (slot == s) as (λ b. (slot == s) ≡ b → Each Fits (descendants (is_at s) (moved source slot cap f))) [
          | true ↦ λ at.
              by_former s source (from ∙ ap Some (some_is k i (sym to ∙ ap parts.part_of (eqb-true slot s at) ∙ mine))) apart
              (ap (λ b. cond b slot source) (eqb_self source) ∙ eqb-true slot s at)
          | false ↦ λ other. (elim (source == s) as (λ b. (source == s) ≡ b → Each Fits (descendants (is_at s) (moved source slot cap f))) [
            | true ↦ λ left. left_bare s left other
            | false ↦ λ stays. by_former s s mine (turned slot s other) (ap (λ b. cond b slot s) (turned source s stays))
          ]) refl
        ]) refl
      where
        turned : (m n : ℕ) → (m == n) ≡ false → (n == m) ≡ false
        turned m n h = grind (arith, nat_tests)

        differs : (b : Bool) → (source == slot) ≡ b → b ≡ false
        differs true at = absurd (false≢true (sym empty ∙ ap (λ n. is_full n f) (sym (eqb-true source slot at)) ∙ full))
        differs false at = refl

        apart : (source == slot) ≡ false
        apart = differs (source == slot) refl

  -- what leaves only shortens what stands below another
  pub fits-clear : (c : ℕ) (f : Forest Entry) → IsDistinct eqb (slots f) → FitBelow f → FitBelow (clear p c f)
  fits-clear c f distinct fits s mine =
      each-from_contained Fits (descendants (is_at s) (clear p c f))
      (λ d m.
      let a = above s (clear p c f) d m in
      below-without (cleared p (preorder f) c) f distinct (λ (a d : Entry). a.slot ≡ s → Fits d)
      (λ a d here under at. each-contained Fits (descendants (is_at s) f) d (fits s mine) (subst (λ n. Contains (descendants (is_at n) f) d) at under))
      a.0 d a.1 (subst (λ n. Contains (descendants (is_at n) (clear p c f)) d) (sym a.2) m) a.2)

  fits-revoke : (s : ℕ) (f : Forest Entry) → IsDistinct eqb (slots f) → FitBelow f → FitBelow (revoke p s f)
  fits-revoke s f distinct fits =
      (kept-revoke p (λ (g : Forest Entry). IsDistinct eqb (slots g) × FitBelow g)
      (λ c g h. (distinct-without (λ (e : Entry). cleared p (preorder g) c e.slot) g h.0, fits-clear c g h.0 h.1)) s f (distinct, fits)).1

  fits-space : (k : ℕ) (new : NewSpace) (f : Forest Entry) → IsDistinct eqb (slots f) → IsSpace p f new → IsSpaceIn p parts k new →
      FitBelow f → FitBelow (with_space p new f)
  fits-space k new f distinct edit is fits =
      let left = fits-clear new.tcb f distinct fits in
      space_kept p f distinct new edit FitBelow left
      (λ d. fits-derived k new.source new.tcb new.cap (clear p new.tcb f) is.source is.tcb d.ends.empty left)

  -- a call of a thread of a part
  fits_where : (A : State) (awaited : Bool) (accepted : Outcome) (reply : Reply) → FitBelow accepted.state.derivations → FitBelow A.derivations →
      FitBelow (where_awaited A awaited accepted reply).state.derivations
  fits_where A true accepted reply done rest = done
  fits_where A false accepted reply done rest = rest

  performed_fits : (memory k : ℕ) (A : State) → IsKernelStore p memory A.derivations → (thread : ℕ) (done : Invocation) → IsEdit p A.derivations done →
      StaysIn p parts k done → FitBelow A.derivations → FitBelow (performed p A thread done).state.derivations
  performed_fits memory k A store thread (Send service message true) edit is fits = fits
  performed_fits memory k A store thread (Send service message false) edit is fits =
      fits_where A (is_send_awaited A (endpoint_at A service.endpoint)) (send_accepted A thread service message) _ fits fits
  performed_fits memory k A store thread (Receive service true) edit is fits = fits
  performed_fits memory k A store thread (Receive service false) edit is fits =
      fits_where A (is_receive_awaited A (endpoint_at A service.endpoint)) (receive_accepted A thread service) _ fits fits
  performed_fits memory k A store thread (Retype new) edit is fits = fits-with_objects k memory new A.derivations store edit is fits
  performed_fits memory k A store thread (Derive placement) edit is fits = fits-with_derived k placement A.derivations edit is fits
  performed_fits memory k A store thread (Move placement) edit is fits =
      fits-moved k placement.source placement.slot placement.cap A.derivations is.source is.slot edit.ends.empty fits edit.ends.full
  performed_fits memory k A store thread (Delete slot) edit is fits = fits-clear slot A.derivations store.slots_distinct fits
  performed_fits memory k A store thread (Revoke slot) edit is fits = fits-revoke slot A.derivations store.slots_distinct fits
  performed_fits memory k A store thread (CancelBadged service) edit is fits = fits
  performed_fits memory k A store thread (SetSpace new) edit is fits = fits-space k new A.derivations store.slots_distinct edit is fits
  performed_fits memory k A store thread (Suspend tcb) edit is fits = fits
  performed_fits memory k A store thread (Resume tcb) edit is fits = fits

  outcome_fits : (memory k : ℕ) (A : State) (call : Call) (r : Result Invocation Refusal) → IsKernelStore p memory A.derivations →
      IsClosed p parts k A.derivations → parts.part_of call.thread ≡ Some k → decoded_call p (shown A) call ≡ r → FitBelow A.derivations →
      FitBelow (outcome p A call.thread r).state.derivations
  unfolding shown
  outcome_fits memory k A call (Err refusal) store closed mine h fits = fits
  outcome_fits memory k A call (Ok done) store closed mine h fits =
      performed_fits memory k A store call.thread done (checked_edit p memory A call done store h)
      (op_stays p parts k A.derivations closed call.thread mine call.op done
      (call_passed p (shown A) call done h)) fits

  -- a message changes no slot
  performed_passes : (A : State) (thread : ℕ) (done : Invocation) → IsMessage done → FitBelow A.derivations →
      FitBelow (performed p A thread done).state.derivations
  performed_passes A thread (Send service message true) is fits = fits
  performed_passes A thread (Send service message false) is fits =
      fits_where A (is_send_awaited A (endpoint_at A service.endpoint)) (send_accepted A thread service message) _ fits fits
  performed_passes A thread (Receive service true) is fits = fits
  performed_passes A thread (Receive service false) is fits =
      fits_where A (is_receive_awaited A (endpoint_at A service.endpoint)) (receive_accepted A thread service) _ fits fits
  performed_passes A thread (Retype new) is fits = absurd is
  performed_passes A thread (Derive placement) is fits = absurd is
  performed_passes A thread (Move placement) is fits = absurd is
  performed_passes A thread (Delete slot) is fits = absurd is
  performed_passes A thread (Revoke slot) is fits = absurd is
  performed_passes A thread (CancelBadged service) is fits = absurd is
  performed_passes A thread (SetSpace new) is fits = absurd is
  performed_passes A thread (Suspend tcb) is fits = absurd is
  performed_passes A thread (Resume tcb) is fits = absurd is

  outcome_passes : (A : State) (thread : ℕ) (r : Result Invocation Refusal) → MayBeMessage r → FitBelow A.derivations →
      FitBelow (outcome p A thread r).state.derivations
  outcome_passes A thread (Err refusal) is fits = fits
  outcome_passes A thread (Ok done) is fits = performed_passes A thread done is fits

  step_fits : (A : State) (call : Call) → IsReached p A → AreClosed p parts A → IsAllowed parts call → FitBelow A.derivations →
      FitBelow (step p A call).state.derivations
  unfolding step shown
  step_fits A call reached closed (inl (k, mine)) fits =
      outcome_fits reached.plan.memory_bits k A call (decoded_call p (shown A) call) (reached_is p A reached).store (closed k) mine refl fits
  step_fits A call reached closed (inr (outside, passes)) fits =
      outcome_passes A call.thread (decoded_call p (shown A) call) (call_passes p (shown A) call passes) fits

  pub run_fits : (A : State) (calls : List Call) → IsReached p A → AreClosed p parts A → Each (IsAllowed parts) calls → FitBelow A.derivations →
      FitBelow (state_after p A calls).derivations
  unfolding state_after
  run_fits A [] reached closed of fits = fits
  run_fits A (call ∷ calls) reached closed of fits =
      run_fits (step p A call).state calls (reached_after p A (call ∷ []) reached) (step_allowed p parts A call reached closed of.0) of.1
      (step_fits A call reached closed of.0 fits)
