-- A plan that fits is one of what is asked for in some sizes, so where none of these is one no plan fits.
use Rattle.std.proofs.Common.{◌≡◌, ℕ, ◌≤◌, subst}
use Rattle.cap_core.specs.declared.profile.ProfileName.{ProfileName}
use Rattle.cap_core.specs.Limits.{min_root_radix, max_root_radix}
use Rattle.kernel_abstract.specs.Plan.{Plan, IsPlan}
use Rattle.command_new.specs.declared.asked.NewSetup.{NewSetup}
use Rattle.command_new.specs.New.{Fits}
use Rattle.command_new.specs.Private.{IsAskedWithin, NoneOfRadix, plan_in}

module _ (p : ProfileName) (asked : NewSetup) where
  in_its_sizes : (plan : Plan) → Fits p asked plan → IsPlan p (plan_in asked plan.memory_bits plan.root_radix)
  in_its_sizes plan fits =
      let has = fits.objects in
      let same : plan ≡ plan_in asked plan.memory_bits plan.root_radix =
      λ i. record {
        memory_bits = plan.memory_bits;
        root_radix = plan.root_radix;
        threads = has.threads i;
        endpoints = has.endpoints i;
        untypeds = has.untypeds i;
      } in
      subst (IsPlan p) same fits.sound

  pub fits_within : (plan : Plan) → Fits p asked plan → IsAskedWithin p asked
  fits_within plan fits =
      let limits = (in_its_sizes plan fits).limits in
      record {
        threads_least = limits.sizes.threads_least;
        threads_most = limits.sizes.threads_most;
        endpoints_most = limits.sizes.endpoints_most;
        untypeds_most = limits.untypeds_most;
        untypeds_sized = limits.untypeds_sized;
      }

  pub none_fits : ((radix : ℕ) → min_root_radix ≤ radix → radix ≤ max_root_radix → NoneOfRadix p asked radix) → (plan : Plan) → ¬ Fits p asked plan
  none_fits none plan fits =
      none plan.root_radix fits.sound.limits.sizes.radix_least fits.sound.limits.sizes.radix_most plan.memory_bits (in_its_sizes plan fits)
