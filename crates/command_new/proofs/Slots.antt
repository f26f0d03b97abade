-- Which slot of the root CNode holds which capability at boot.
use Rattle.std.proofs.Common.{◌≡◌, ℕ, ◌+◌, ◌<◌, List, [], ◌∷◌, ◌++◌, length, get_or, Some, option_map, refl, sym, ◌∙◌, ap, subst, arith, length-append}
use Rattle.std.specs.List.{slice_get}
use Rattle.std.proofs.lemmas.List.{get_or_append_left, get_or-append-add, length-map}
use Rattle.std.proofs.lemmas.List.FromFn.{get_or-map-range_with_len, length-range_with_len}
use Rattle.std.proofs.lemmas.Option.{slice_get_read, slice_get-map, slice_get_within, get_or_from_slice_get}
use Rattle.cap_core.specs.declared.profile.ProfileName.{ProfileName}
use Rattle.cap_core.specs.declared.capability.Cap.{Cap}
use Rattle.cap_core.specs.declared.capability.Cap.TheVariants.{Null, Tcb, Untyped}
use Rattle.kernel_abstract.specs.Plan.{Plan, tcb_place, endpoint_place}
use Rattle.kernel_abstract.specs.Boot.{root_cap, tcb_caps, endpoint_caps, untyped_caps, whole_endpoint}
use Rattle.command_new.specs.Slots.{root_slots}

module _ {X : Type 0} (a b : X) (ts es us : List X) where
  in_first : (i : ℕ) (x : X) → i < length ts → get_or ts i x ≡ x → slice_get (a ∷ (((b ∷ ts) ++ es) ++ us)) (2 + i) ≡ Some x
  in_first i x within is =
      let e : get_or (a ∷ b ∷ ts) (2 + i) x ≡ x = get_or-append-add (a ∷ b ∷ []) ts i x ∙ is in
      let n : 2 + i < length (a ∷ b ∷ ts) = omega arith in
      let f : get_or ((a ∷ b ∷ ts) ++ es) (2 + i) x ≡ x = get_or_append_left (a ∷ b ∷ ts) es x (2 + i) n ∙ e in
      let m : 2 + i < length ((a ∷ b ∷ ts) ++ es) = omega (arith, length-append (a ∷ b ∷ ts) es) in
      let g : get_or (((a ∷ b ∷ ts) ++ es) ++ us) (2 + i) x ≡ x = get_or_append_left ((a ∷ b ∷ ts) ++ es) us x (2 + i) m ∙ f in
      slice_get_read (((a ∷ b ∷ ts) ++ es) ++ us) _ (2 + i) x refl (omega (arith, length-append ((a ∷ b ∷ ts) ++ es) us)) (sym g)

  in_second : (j : ℕ) (x : X) → j < length es → get_or es j x ≡ x → slice_get (a ∷ (((b ∷ ts) ++ es) ++ us)) (2 + length ts + j) ≡ Some x
  in_second j x within is =
      let at : length (a ∷ b ∷ ts) + j ≡ 2 + length ts + j = omega arith in
      let f : get_or ((a ∷ b ∷ ts) ++ es) (2 + length ts + j) x ≡ x =
      subst (λ n. get_or ((a ∷ b ∷ ts) ++ es) n x ≡ x) at (get_or-append-add (a ∷ b ∷ ts) es j x ∙ is) in
      let m : 2 + length ts + j < length ((a ∷ b ∷ ts) ++ es) = omega (arith, length-append (a ∷ b ∷ ts) es) in
      let g : get_or (((a ∷ b ∷ ts) ++ es) ++ us) (2 + length ts + j) x ≡ x = get_or_append_left ((a ∷ b ∷ ts) ++ es) us x _ m ∙ f in
      slice_get_read (((a ∷ b ∷ ts) ++ es) ++ us) _ _ x refl (omega (arith, length-append ((a ∷ b ∷ ts) ++ es) us)) (sym g)

  in_third : (k : ℕ) (x : X) → k < length us → get_or us k x ≡ x → slice_get (a ∷ (((b ∷ ts) ++ es) ++ us)) (2 + length ts + length es + k) ≡ Some x
  in_third k x within is =
      let at : length ((a ∷ b ∷ ts) ++ es) + k ≡ 2 + length ts + length es + k = omega (arith, length-append (a ∷ b ∷ ts) es) in
      let g : get_or (((a ∷ b ∷ ts) ++ es) ++ us) (2 + length ts + length es + k) x ≡ x =
      subst (λ n. get_or (((a ∷ b ∷ ts) ++ es) ++ us) n x ≡ x) at (get_or-append-add ((a ∷ b ∷ ts) ++ es) us k x ∙ is) in
      slice_get_read (((a ∷ b ∷ ts) ++ es) ++ us) _ _ x refl (omega (arith, length-append ((a ∷ b ∷ ts) ++ es) us, length-append (a ∷ b ∷ ts) es)) (sym g)

module _ (p : ProfileName) (plan : Plan) where
  as_many_tcbs : length (tcb_caps p plan) ≡ plan.threads
  as_many_tcbs = simp (length-map, length-range_with_len)

  as_many_endpoints : length (endpoint_caps p plan) ≡ plan.endpoints
  as_many_endpoints = simp (length-map, length-range_with_len)

  -- the slot of each thread's capability, of each endpoint's and of each untyped region's
  pub tcb_in_slot : (i : ℕ) → i < plan.threads → slice_get (root_slots p plan) (2 + i) ≡ Some (Tcb (tcb_place p plan i))
  tcb_in_slot i within =
      in_first Null (root_cap p plan) (tcb_caps p plan) (endpoint_caps p plan) (untyped_caps plan) i (Tcb (tcb_place p plan i))
      (omega (arith, as_many_tcbs))
      (get_or-map-range_with_len (λ i. Tcb (tcb_place p plan i)) 0 plan.threads i i (Tcb (tcb_place p plan i)) within (omega arith))

  pub endpoint_in_slot : (j : ℕ) → j < plan.endpoints →
      slice_get (root_slots p plan) (2 + plan.threads + j) ≡ Some (whole_endpoint (endpoint_place p plan j))
  endpoint_in_slot j within =
      let x : Cap = whole_endpoint (endpoint_place p plan j) in
      subst (λ n. slice_get (root_slots p plan) (2 + n + j) ≡ Some x) as_many_tcbs
      (in_second Null (root_cap p plan) (tcb_caps p plan) (endpoint_caps p plan) (untyped_caps plan) j x
      (omega (arith, as_many_endpoints))
      (get_or-map-range_with_len (λ j. whole_endpoint (endpoint_place p plan j)) 0 plan.endpoints j j x within (omega arith)))

  pub untyped_in_slot : (k : ℕ) (region : ℕ × ℕ) → slice_get plan.untypeds k ≡ Some region →
      slice_get (root_slots p plan) (2 + plan.threads + plan.endpoints + k) ≡ Some (Untyped region.0 region.1 0)
  untyped_in_slot k region is =
      let x : Cap = Untyped region.0 region.1 0 in
      let here : slice_get (untyped_caps plan) k ≡ Some x =
      slice_get-map (λ (u : ℕ × ℕ). Untyped u.0 u.1 0) plan.untypeds k ∙ ap (option_map (λ (u : ℕ × ℕ). Untyped u.0 u.1 0)) is in
      subst (λ n. slice_get (root_slots p plan) (2 + n + plan.endpoints + k) ≡ Some x) as_many_tcbs
      (subst (λ n. slice_get (root_slots p plan) (2 + length (tcb_caps p plan) + n + k) ≡ Some x) as_many_endpoints
      (in_third Null (root_cap p plan) (tcb_caps p plan) (endpoint_caps p plan) (untyped_caps plan) k x
      (slice_get_within (untyped_caps plan) k x here) (get_or_from_slice_get (untyped_caps plan) k x x here)))
