-- Of states that runs reach, the words tell what is shown.
use Rattle.std.proofs.Common.{◌≡◌, ℕ, Bool, true, false, cond, ◌==◌, ◌||◌, List, [], ◌∷◌, ◌++◌, map, Option, Some, None, option_map, option_and_then, unwrap_or, refl, ap, sym, subst, ◌∙◌, arith, inl, inr}
use Rattle.std.proofs.lemmas.List.{map-append}
use Rattle.std.proofs.lemmas.Bool.{false≢true}
use Rattle.std.proofs.lemmas.Bool.Decides.{nat_tests, eqb_tells}
use Rattle.std.proofs.lemmas.Map.Keys.{IsDistinct-head, IsDistinct-tail}
use Rattle.std.specs.List.{list_any, filter_map, IsDistinct, AllByRecursion as Each}
use Rattle.std.specs.FinMap.{get}
use Rattle.cap_core.specs.declared.profile.ProfileName.{ProfileName}
use Rattle.cap_core.specs.declared.capability.Cap.{Cap}
use Rattle.cap_core.specs.declared.capability.Cap.TheVariants.{Null, Untyped, Endpoint, CNode, Tcb}
use Rattle.kernel_forest.specs.Forest.{Forest, none, tree, preorder, parented}
use Rattle.kernel_forest.specs.Entries.{Entry, slots, caps, slot_of, derivations_of}
use Rattle.ipc_core.specs.declared.waiter.Waiter.{Waiter}
use Rattle.kernel_abstract.specs.declared.call.ThreadState.{ThreadState}
use Rattle.kernel_abstract.specs.declared.call.ThreadState.TheVariants.{Ready}
use Rattle.kernel_abstract.specs.Shown.{Shown, ThreadView, table, tcb_base, endpoint_base, threads_of, endpoints_of, state_at, inbox_at, waiting_at}
use Rattle.kernel_abstract.specs.State.{State, shown, thread_view, waiters, endpoint_at}
use Rattle.kernel_abstract.proofs.Lists.Tables.{get_table, same_nat_map}
use Rattle.kernel_abstract.proofs.Reached.Equations.{shown-derivations, shown-threads, shown-endpoints}
use Rattle.kernel_abstract.proofs.Reached.Simulation.{reached_is}
use Rattle.query_orders.specs.Private.Waiting.{AreWaitingApart}
use Rattle.query_orders.proofs.KernelWords.Forests.{derivations_tell}
use Rattle.query_orders.specs.Words.{slot_words, shown_words}
use Rattle.query_orders.specs.SameWords.{TellsWhatIsShown}
use Rattle.query_orders.proofs.KernelWords.Codes.{Alike, listed_tells, slot_tells}

each_parts : {X : Type 0} (P : X → Type 0) (us vs : List X) → Each P (us ++ vs) → Each P us × Each P vs
each_parts P [] vs h = (tt, h)
each_parts P (u ∷ us) vs h = let r = each_parts P us vs h.1 in ((h.0, r.0), r.1)

each_append : {X : Type 0} (P : X → Type 0) (us vs : List X) → Each P us → Each P vs → Each P (us ++ vs)
each_append P [] vs h k = k
each_append P (u ∷ us) vs h k = (h.0, each_append P us vs h.1 k)

-- slots that are distinct are apart
turned : (n : ℕ) (ns : List ℕ) → Each (λ m. (n == m) ≡ false) ns → Each (λ m. (m == n) ≡ false) ns
turned n [] h = tt
turned n (m ∷ ms) h = (let k : (n == m) ≡ false = h.0 in grind (arith, nat_tests, k), turned n ms h.1)

pub apart : (ns : List ℕ) → IsDistinct (λ (a b : ℕ). a == b) ns → AreWaitingApart ns
apart [] h = tt
apart (n ∷ ns) h = (turned n ns (IsDistinct-head (λ (a b : ℕ). a == b) n ns h), apart ns (IsDistinct-tail (λ (a b : ℕ). a == b) n ns h))

abbrev by_slot : Entry × Option Entry → Entry × Option ℕ
by_slot e = (e.0, option_map slot_of e.1)

module _ (v w : Shown) where
  abbrev SlotAlike : Entry × Option ℕ → Type 0
  SlotAlike e = Alike v w e.0.cap

  each_caps : (above : Option Entry) (f : Forest Entry) → Each SlotAlike (map by_slot (parented above f)) → Each (Alike v w) (caps f)
  each_caps above none h = tt
  each_caps above (tree a u o) h =
      let r = each_parts SlotAlike (map by_slot (parented (Some a) u)) (map by_slot (parented above o)) (subst (Each SlotAlike) (map-append by_slot (parented (Some a) u) (parented above o)) h.1) in
      (h.0, subst (Each (Alike v w)) (sym (map-append (λ (e : Entry). e.cap) (preorder u) (preorder o))) (each_append (Alike v w) (caps u) (caps o) (each_caps (Some a) u r.0) (each_caps above o r.1)))

  thread_alike : (cs : List Cap) → Each (Alike v w) cs → (q : ℕ) → list_any (λ k. q == k) (filter_map tcb_base cs) ≡ true → (state_at v q ≡ state_at w q) × (inbox_at v q ≡ inbox_at w q)
  thread_alike [] h q live = absurd (false≢true live)
  thread_alike (Null ∷ cs) h q live = thread_alike cs h.1 q live
  thread_alike (Untyped base bits free ∷ cs) h q live = thread_alike cs h.1 q live
  thread_alike (Endpoint base badge rights ∷ cs) h q live = thread_alike cs h.1 q live
  thread_alike (CNode base radix guard ∷ cs) h q live = thread_alike cs h.1 q live
  thread_alike (Tcb base ∷ cs) h q live = elim (eqb_tells q base) [
    | inl x ↦ subst (λ n. (state_at v n ≡ state_at w n) × (inbox_at v n ≡ inbox_at w n)) (sym x.1) h.0
    | inr x ↦ thread_alike cs h.1 q (sym (ap (λ (b : Bool). b || list_any (λ k. q == k) (filter_map tcb_base cs)) x.0) ∙ live)
  ]

  endpoint_alike : (cs : List Cap) → Each (Alike v w) cs → (q : ℕ) → list_any (λ k. q == k) (filter_map endpoint_base cs) ≡ true → waiting_at v q ≡ waiting_at w q
  endpoint_alike [] h q live = absurd (false≢true live)
  endpoint_alike (Null ∷ cs) h q live = endpoint_alike cs h.1 q live
  endpoint_alike (Untyped base bits free ∷ cs) h q live = endpoint_alike cs h.1 q live
  endpoint_alike (Tcb base ∷ cs) h q live = endpoint_alike cs h.1 q live
  endpoint_alike (CNode base radix guard ∷ cs) h q live = endpoint_alike cs h.1 q live
  endpoint_alike (Endpoint base badge rights ∷ cs) h q live = elim (eqb_tells q base) [
    | inl x ↦ subst (λ n. waiting_at v n ≡ waiting_at w n) (sym x.1) h.0
    | inr x ↦ endpoint_alike cs h.1 q (sym (ap (λ (b : Bool). b || list_any (λ k. q == k) (filter_map endpoint_base cs)) x.0) ∙ live)
  ]

  view_is : (a b : ThreadView) → a.state ≡ b.state → a.inbox ≡ b.inbox → a ≡ b
  view_is a b p q =
      ap (λ x. let m : ThreadView = record { state = x; inbox = a.inbox } in m) p
      ∙ ap (λ x. let m : ThreadView = record { state = b.state; inbox = x } in m) q

  threads_same : (ks : List ℕ) (f g : ℕ → ThreadView) → v.threads ≡ table ks f → w.threads ≡ table ks g →
      ((q : ℕ) → list_any (λ k. q == k) ks ≡ true → (state_at v q ≡ state_at w q) × (inbox_at v q ≡ inbox_at w q)) → v.threads ≡ w.threads
  threads_same ks f g vs ws alike = vs ∙ same_nat_map _ _ (λ q. get_table ks f q ∙ by q (list_any (λ k. q == k) ks) refl ∙ sym (get_table ks g q)) ∙ sym ws
    where
      by : (q : ℕ) (b : Bool) → list_any (λ k. q == k) ks ≡ b → cond b (Some (f q)) None ≡ cond b (Some (g q)) None
      by q false is = refl
      by q true is =
          let old : get v.threads q ≡ Some (f q) = ap (λ m. get m q) vs ∙ get_table ks f q ∙ ap (λ (b : Bool). cond b (Some (f q)) None) is in
          let new : get w.threads q ≡ Some (g q) = ap (λ m. get m q) ws ∙ get_table ks g q ∙ ap (λ (b : Bool). cond b (Some (g q)) None) is in
          let state : Option ThreadView → ThreadState = λ o. unwrap_or (option_map (λ (t : ThreadView). t.state) o) Ready in
          ap (λ (t : ThreadView). Some t) (view_is (f q) (g q)
          (sym (ap state old) ∙ ap (λ (o : Option ThreadState). unwrap_or o Ready) (alike q is).0 ∙ ap state new)
          (sym (ap (λ o. option_and_then (λ (t : ThreadView). t.inbox) o) old) ∙ (alike q is).1 ∙ ap (λ o. option_and_then (λ (t : ThreadView). t.inbox) o) new))

  endpoints_same : (ks : List ℕ) (f g : ℕ → List Waiter) → v.endpoints ≡ table ks f → w.endpoints ≡ table ks g →
      ((q : ℕ) → list_any (λ k. q == k) ks ≡ true → waiting_at v q ≡ waiting_at w q) → v.endpoints ≡ w.endpoints
  endpoints_same ks f g vs ws alike = vs ∙ same_nat_map _ _ (λ q. get_table ks f q ∙ by q (list_any (λ k. q == k) ks) refl ∙ sym (get_table ks g q)) ∙ sym ws
    where
      by : (q : ℕ) (b : Bool) → list_any (λ k. q == k) ks ≡ b → cond b (Some (f q)) None ≡ cond b (Some (g q)) None
      by q false is = refl
      by q true is =
          let old : get v.endpoints q ≡ Some (f q) = ap (λ m. get m q) vs ∙ get_table ks f q ∙ ap (λ (b : Bool). cond b (Some (f q)) None) is in
          let new : get w.endpoints q ≡ Some (g q) = ap (λ m. get m q) ws ∙ get_table ks g q ∙ ap (λ (b : Bool). cond b (Some (g q)) None) is in
          ap (λ (l : List Waiter). Some l) (sym (ap (λ o. unwrap_or o []) old) ∙ alike q is ∙ ap (λ o. unwrap_or o []) new)

  shown_is : v.derivations ≡ w.derivations → v.threads ≡ w.threads → v.endpoints ≡ w.endpoints → v ≡ w
  shown_is p q r =
      ap (λ x. let m : Shown = record { derivations = x; threads = v.threads; endpoints = v.endpoints } in m) p
      ∙ ap (λ x. let m : Shown = record { derivations = w.derivations; threads = x; endpoints = v.endpoints } in m) q
      ∙ ap (λ x. let m : Shown = record { derivations = w.derivations; threads = w.threads; endpoints = x } in m) r

  same_shown : (f g : Forest Entry) (tf tg : ℕ → ThreadView) (ef eg : ℕ → List Waiter) → v.derivations ≡ f → w.derivations ≡ g → AreWaitingApart (slots f) → AreWaitingApart (slots g) →
      v.threads ≡ table (threads_of f) tf → w.threads ≡ table (threads_of g) tg → v.endpoints ≡ table (endpoints_of f) ef → w.endpoints ≡ table (endpoints_of g) eg →
      shown_words v ≡ shown_words w → v ≡ w
  same_shown f g tf tg ef eg vf wg af ag vt wt ve we h =
      let r = listed_tells (slot_words v) (slot_words w) SlotAlike (slot_tells v w) (derivations_of v.derivations) (derivations_of w.derivations) [] [] (ap (λ l. l ++ []) h) in
      let same : f ≡ g = derivations_tell f g af ag (sym (ap derivations_of vf) ∙ r.0 ∙ ap derivations_of wg) in
      let alike : Each (Alike v w) (caps f) = each_caps None f (subst (λ x. Each SlotAlike (derivations_of x)) vf r.1.1) in
      shown_is (vf ∙ same ∙ sym wg)
      (threads_same (threads_of f) tf tg vt (wt ∙ ap (λ x. table (threads_of x) tg) (sym same)) (thread_alike (caps f) alike))
      (endpoints_same (endpoints_of f) ef eg ve (we ∙ ap (λ x. table (endpoints_of x) eg) (sym same)) (endpoint_alike (caps f) alike))

pub tells : (p : ProfileName) (A B : State) → TellsWhatIsShown p A B
tells p A B ra rb h =
    same_shown (shown A) (shown B) A.derivations B.derivations (thread_view A) (thread_view B) (λ base. waiters A (endpoint_at A base)) (λ base. waiters B (endpoint_at B base))
    (shown-derivations A) (shown-derivations B)
    (apart (slots A.derivations) (reached_is p A ra).store.slots_distinct) (apart (slots B.derivations) (reached_is p B rb).store.slots_distinct)
    (shown-threads A) (shown-threads B) (shown-endpoints A) (shown-endpoints B) h
