-- What a plan without defect says of its parts.
use Rattle.std.proofs.Common.{◌≡◌, ℕ, zero, suc, ◌+◌, ◌%◌, ◌^◌, ◌<◌, ◌≤◌, Bool, true, false, not, ◌||◌, ◌==◌, nat_lt, List, [], ◌∷◌, length, take, get_or, Option, Some, None, refl, sym, ◌∙◌, ap, subst, arith}
use Rattle.std.specs.Option.{option_or}
use Rattle.std.specs.List.{list_any, range_with_len}
use Rattle.std.proofs.lemmas.Bool.Decides.{nat_tests}
use Rattle.std.proofs.lemmas.List.{get_or-take, length-take-le}
use Rattle.std.proofs.lemmas.List.FromFn.{length-range_with_len, get_or-range_with_len}
use Rattle.cap_core.specs.declared.profile.ProfileName.{ProfileName}
use Rattle.kernel_abstract.specs.declared.plan.PlanDefect.{PlanDefect}
use Rattle.kernel_abstract.specs.declared.plan.PlanDefect.TheVariants.{Unaligned, UntypedOutside, Overlap}
use Rattle.kernel_abstract.specs.declared.plan.Extent.{Extent}
use Rattle.kernel_abstract.specs.Plan.{Plan, IsPlan, overlap, node_extent, tcb_extent, endpoint_extent, untyped_extent, overlaps_boot_object, overlaps_tcb, overlaps_endpoint, overlaps_earlier, defect_if, untyped_defect, untypeds_defect, boot_end, slots_taken}

-- no defect of two is that neither is one
no_first : {X : Type 0} (a b : Option X) → option_or a b ≡ None → a ≡ None
no_first None b h = refl
no_first (Some x) b h = h

no_second : {X : Type 0} (a b : Option X) → option_or a b ≡ None → b ≡ None
no_second None b h = h
no_second (Some x) b h = absurd (let e : Some x ≡ None = h in cc)

no_test : (t : Bool) (d : PlanDefect) → defect_if t d ≡ None → t ≡ false
no_test false d h = refl
no_test true d h = absurd (let e : Some d ≡ None = h in cc)

or_first : (a b : Bool) → (a || b) ≡ false → a ≡ false
or_first false b h = refl
or_first true b h = h

or_second : (a b : Bool) → (a || b) ≡ false → b ≡ false
or_second false b h = h
or_second true b h = absurd (let e : true ≡ false = h in cc)

-- a test that nothing of a list passes
none_at : {X : Type 0} (p : X → Bool) (xs : List X) (k : ℕ) (d : X) → list_any p xs ≡ false → k < length xs → p (get_or xs k d) ≡ false
none_at p [] k d h b = absurd (omega arith)
none_at p (x ∷ xs) zero d h b = or_first (p x) (list_any p xs) h
none_at p (x ∷ xs) (suc k) d h b = none_at p xs k d (or_second (p x) (list_any p xs) h) (omega arith)

none_in_range : (p : ℕ → Bool) (n k : ℕ) → list_any p (range_with_len 0 n) ≡ false → k < n → p k ≡ false
none_in_range p n k h b =
    ap p (let e : k ≡ 0 + k = omega arith in e) ∙ ap p (sym (get_or-range_with_len 0 n k 0 b))
    ∙ none_at p (range_with_len 0 n) k 0 h (let e = length-range_with_len 0 n in omega arith)

-- what holds of an untyped region of a plan without defect
pub record IsClear (p : ProfileName) (plan : Plan) (k : ℕ) (untyped : ℕ × ℕ) : Type 0 where
  pub aligned : untyped.0 % 2 ^ untyped.1 ≡ 0
  pub within : untyped.0 + 2 ^ untyped.1 ≤ 2 ^ plan.memory_bits
  pub node : overlap (untyped_extent untyped) (node_extent p plan) ≡ false
  pub tcb : (i : ℕ) → i < plan.threads → overlap (untyped_extent untyped) (tcb_extent p plan i) ≡ false
  pub endpoint : (j : ℕ) → j < plan.endpoints → overlap (untyped_extent untyped) (endpoint_extent p plan j) ≡ false
  pub earlier : (i : ℕ) (d : ℕ × ℕ) → i < k → k ≤ length plan.untypeds → overlap (untyped_extent untyped) (untyped_extent (get_or plan.untypeds i d)) ≡ false

is_aligned : (n : ℕ) → not (n == 0) ≡ false → n ≡ 0
is_aligned n h = grind (arith, nat_tests)

is_within : (m n : ℕ) → nat_lt m n ≡ false → n ≤ m
is_within m n h = grind (arith, nat_tests)

-- none of three tests is met
no_test_of : (a b c : Bool) (d e f : PlanDefect) → option_or (defect_if a d) (option_or (defect_if b e) (defect_if c f)) ≡ None → (a ≡ false) × (b ≡ false) × (c ≡ false)
no_test_of false false false d e f h = (refl, refl, refl)
no_test_of false false true d e f h = absurd (let n : Some f ≡ None = h in cc)
no_test_of false true c d e f h = absurd (let n : Some e ≡ None = h in cc)
no_test_of true b c d e f h = absurd (let n : Some d ≡ None = h in cc)

clear_of : (p : ProfileName) (plan : Plan) (k : ℕ) (untyped : ℕ × ℕ)
    → (not (untyped.0 % 2 ^ untyped.1 == 0) ≡ false) × (nat_lt (2 ^ plan.memory_bits) (untyped_extent untyped).end ≡ false)
    × ((overlaps_boot_object p plan (untyped_extent untyped) || overlaps_earlier plan k (untyped_extent untyped)) ≡ false)
    → IsClear p plan k untyped
clear_of p plan k untyped h =
    record {
      aligned = is_aligned (untyped.0 % 2 ^ untyped.1) h.0;
      within = is_within (2 ^ plan.memory_bits) (untyped.0 + 2 ^ untyped.1) h.1;
      node = or_first (overlap region (node_extent p plan)) (overlaps_tcb p plan region || overlaps_endpoint p plan region) objects;
      tcb = λ i b. none_in_range (λ i. overlap region (tcb_extent p plan i)) plan.threads i (or_first (overlaps_tcb p plan region) (overlaps_endpoint p plan region) rest) b;
      endpoint = λ j b. none_in_range (λ j. overlap region (endpoint_extent p plan j)) plan.endpoints j (or_second (overlaps_tcb p plan region) (overlaps_endpoint p plan region) rest) b;
      earlier = λ i d b within.
          ap (λ (u : ℕ × ℕ). overlap region (untyped_extent u)) (sym (get_or-take k plan.untypeds i d b))
          ∙ none_at (λ (u : ℕ × ℕ). overlap region (untyped_extent u)) (take k plan.untypeds) i d (or_second (overlaps_boot_object p plan region) (overlaps_earlier plan k region) h.2) (let e = length-take-le k plan.untypeds within in omega arith);
    }
  where
    region : Extent
    region = untyped_extent untyped

    objects : overlaps_boot_object p plan region ≡ false
    objects = or_first (overlaps_boot_object p plan region) (overlaps_earlier plan k region) h.2

    rest : (overlaps_tcb p plan region || overlaps_endpoint p plan region) ≡ false
    rest = or_second (overlap region (node_extent p plan)) (overlaps_tcb p plan region || overlaps_endpoint p plan region) objects

no_untyped_defect : (p : ProfileName) (plan : Plan) (k : ℕ) (untyped : ℕ × ℕ) → untyped_defect p plan k untyped ≡ None → IsClear p plan k untyped
no_untyped_defect p plan k untyped h =
    clear_of p plan k untyped
    (no_test_of (not (untyped.0 % 2 ^ untyped.1 == 0)) (nat_lt (2 ^ plan.memory_bits) (untyped_extent untyped).end)
    (overlaps_boot_object p plan (untyped_extent untyped) || overlaps_earlier plan k (untyped_extent untyped)) (Unaligned k) (UntypedOutside k) (Overlap k) h)

clear_from : (p : ProfileName) (plan : Plan) (i : ℕ) (untypeds : List (ℕ × ℕ)) → untypeds_defect p plan i untypeds ≡ None
    → (k : ℕ) (d : ℕ × ℕ) → k < length untypeds → IsClear p plan (i + k) (get_or untypeds k d)
clear_from p plan i [] h k d b = absurd (omega arith)
clear_from p plan i (u ∷ us) h zero d b =
    let Q : ℕ → Type 0 = λ n. IsClear p plan n u in let e : i ≡ i + 0 = omega arith in
    subst Q e (no_untyped_defect p plan i u (no_first (untyped_defect p plan i u) (untypeds_defect p plan (i + 1) us) h))
clear_from p plan i (u ∷ us) h (suc k) d b =
    let Q : ℕ → Type 0 = λ n. IsClear p plan n (get_or us k d) in let e : i + 1 + k ≡ i + suc k = omega arith in
    subst Q e (clear_from p plan (i + 1) us (no_second (untyped_defect p plan i u) (untypeds_defect p plan (i + 1) us) h) k d (omega arith))

pub clear : (p : ProfileName) (plan : Plan) → IsPlan p plan → (k : ℕ) (d : ℕ × ℕ) → k < length plan.untypeds → IsClear p plan k (get_or plan.untypeds k d)
clear p plan h k d b =
    let Q : ℕ → Type 0 = λ n. IsClear p plan n (get_or plan.untypeds k d) in let e : 0 + k ≡ k = omega arith in
    subst Q e (clear_from p plan 0 plan.untypeds (no_first _ _ (no_second _ _ h.sound)) k d b)

pub objects_within : (p : ProfileName) (plan : Plan) → IsPlan p plan → boot_end p plan ≤ 2 ^ plan.memory_bits
objects_within p plan h = is_within (2 ^ plan.memory_bits) (boot_end p plan) (no_test _ _ (no_first _ _ h.sound))

pub slots_within : (p : ProfileName) (plan : Plan) → IsPlan p plan → slots_taken plan ≤ 2 ^ plan.root_radix
slots_within p plan h = is_within (2 ^ plan.root_radix) (slots_taken plan) (no_test _ _ (no_second _ _ (no_second _ _ h.sound)))
