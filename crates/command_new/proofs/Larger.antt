-- A plan in some memory is one in each larger memory too.
use Rattle.std.proofs.Common.{◌≡◌, ℕ, ◌+◌, ◌≤◌, ◌^◌, List, [], ◌∷◌, Option, Some, None, refl, arith, lit<, lit≤}
use Rattle.std.specs.Prelude.{nat_lt}
use Rattle.std.specs.Option.{option_or}
use Rattle.std.proofs.lemmas.Bool.Decides.{nat_tests}
use Rattle.std.proofs.Math.Nat.{pow-le-pow_right}
use Rattle.cap_core.specs.declared.profile.ProfileName.{ProfileName}
use Rattle.cap_core.specs.Limits.{max_memory_bits}
use Rattle.kernel_abstract.specs.declared.plan.PlanDefect.{PlanDefect}
use Rattle.kernel_abstract.specs.declared.plan.PlanDefect.TheVariants.{Outside, UntypedOutside}
use Rattle.kernel_abstract.specs.Plan.{Plan, planned, first_defect, IsPlan, untyped_defect, untypeds_defect, defect_if, boot_end, untyped_extent}
use Rattle.command_new.specs.declared.asked.NewSetup.{NewSetup}
use Rattle.command_new.specs.Private.{NoneOfRadix, plan_in}

-- what is none of two answers is none of each
no_first : {A : Type 0} (a b : Option A) → option_or a b ≡ None → a ≡ None
no_first None b h = refl
no_first (Some x) b h = cc

no_second : {A : Type 0} (a b : Option A) → option_or a b ≡ None → b ≡ None
no_second None b h = h
no_second (Some x) b h = cc

none_of_two : {A : Type 0} (a b : Option A) → a ≡ None → b ≡ None → option_or a b ≡ None
none_of_two None b e h = h
none_of_two (Some x) b e h = cc

-- an end that is not past a memory is not past a larger one
not_past : (low high end : ℕ) (defect : PlanDefect) → low ≤ high → defect_if (nat_lt low end) defect ≡ None → defect_if (nat_lt high end) defect ≡ None
not_past low high end defect larger h = grind (arith, nat_tests)

module _ (p : ProfileName) (low high radix threads endpoints : ℕ) (regions : List (ℕ × ℕ)) (larger : 2 ^ low ≤ 2 ^ high) where
  abbrev small : Plan
  small = planned low radix threads endpoints regions

  abbrev large : Plan
  large = planned high radix threads endpoints regions

  untyped_sound : (i : ℕ) (untyped : ℕ × ℕ) → untyped_defect p small i untyped ≡ None → untyped_defect p large i untyped ≡ None
  untyped_sound i untyped h =
      let rest = no_second _ _ h in
      none_of_two _ _ (no_first _ _ h)
      (none_of_two _ _ (not_past (2 ^ low) (2 ^ high) (untyped_extent untyped).end (UntypedOutside i) larger (no_first _ _ rest)) (no_second _ _ rest))

  untypeds_sound : (i : ℕ) (untypeds : List (ℕ × ℕ)) → untypeds_defect p small i untypeds ≡ None → untypeds_defect p large i untypeds ≡ None
  untypeds_sound i [] h = refl
  untypeds_sound i (untyped ∷ untypeds) h =
      none_of_two _ _ (untyped_sound i untyped (no_first _ _ h)) (untypeds_sound (i + 1) untypeds (no_second _ _ h))

  sound : first_defect p small ≡ None → first_defect p large ≡ None
  sound h =
      let rest = no_second _ _ h in
      none_of_two _ _ (not_past (2 ^ low) (2 ^ high) (boot_end p small) Outside larger (no_first _ _ h))
      (none_of_two _ _ (untypeds_sound 0 regions (no_first _ _ rest)) (no_second _ _ rest))

-- what is no plan in the largest memory is none in any
pub none_of_radix : (p : ProfileName) (asked : NewSetup) (radix : ℕ) → ¬ IsPlan p (plan_in asked max_memory_bits radix) → NoneOfRadix p asked radix
none_of_radix p asked radix none bits is =
    let sizes = is.limits.sizes in
    none (record {
      limits = record {
        sizes = record {
          memory_least = lit≤ tt;
          memory_most = lit≤ tt;
          radix_least = sizes.radix_least;
          radix_most = sizes.radix_most;
          threads_least = sizes.threads_least;
          threads_most = sizes.threads_most;
          endpoints_most = sizes.endpoints_most;
        };
        untypeds_most = is.limits.untypeds_most;
        untypeds_sized = is.limits.untypeds_sized;
      };
      sound = sound p bits max_memory_bits radix asked.threads asked.endpoints asked.untypeds.items (pow-le-pow_right {n = 2} (lit< tt) sizes.memory_most) is.sound;
    })
