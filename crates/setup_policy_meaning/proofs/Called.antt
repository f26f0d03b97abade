-- What a name with a stroke means, and one without.
use Rattle.std.proofs.Common.{◌≡◌, ◌++◌, ℕ, List, Some, true, false, codes, refl, ◌∙◌}
use Rattle.cap_core.specs.declared.profile.ProfileName.{ProfileName}
use Rattle.kernel_abstract.specs.Plan.{Plan}
use Rattle.kernel_abstract.specs.Shown.{Shown}
use Rattle.setup_values.specs.Names.{Names}
use Rattle.setup_policy_meaning.specs.Regions.{before_stroke, behind_stroke, has_stroke, part_region, region_called, whole_region}

pub by_part : (p : ProfileName) (names : Names) (plan : Plan) (v : Shown) (name first bits : List ℕ) (r : ℕ × ℕ) → has_stroke name ≡ true → first ≡ before_stroke name
    → bits ≡ behind_stroke name → part_region p names plan v first bits ≡ Some r → region_called p names plan v name ≡ Some r
by_part p names plan v name first bits r has before behind is = rw (has, ← before, ← behind) is

pub by_whole : (p : ProfileName) (names : Names) (plan : Plan) (v : Shown) (name : List ℕ) (r : ℕ × ℕ) → has_stroke name ≡ false
    → whole_region p names plan v (codes "@" ++ name) ≡ Some r → region_called p names plan v name ≡ Some r
by_whole p names plan v name r has is = rw has is
