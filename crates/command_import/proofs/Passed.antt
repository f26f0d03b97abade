-- A state that passes each test is laid out as the layout.
use Rattle.std.proofs.Common.{◌≡◌, ℕ, Bool, true, false, ◌&&◌, List, refl, subst}
use Rattle.cap_core.specs.declared.profile.ProfileName.{ProfileName}
use Rattle.kernel_forest.specs.Entries.{derivations_of}
use Rattle.kernel_abstract.specs.Plan.{Plan}
use Rattle.kernel_abstract.specs.Shown.{Shown}
use Rattle.setup_layout.specs.declared.layout.Layout.{Layout}
use Rattle.setup_layout.specs.declared.layout.Object.{Object}
use Rattle.setup_layout.specs.declared.layout.Slot.{Slot}
use Rattle.command_import.specs.Laid.{IsLaidOut, Rows}
use Rattle.command_import.specs.Private.{passes}

-- of two tests that both pass, each does
both : (a b : Bool) → (a && b) ≡ true → (a ≡ true) × (b ≡ true)
both true b h = (refl, h)
both false b h = cc

all_passed : (p : ProfileName) (plan : Plan) (layout : Layout) (v : Shown)
    → passes p plan layout.objects.items layout.slots.items layout.derived.items v (derivations_of v.derivations) ≡ true → IsLaidOut p plan layout v
all_passed p plan layout v h =
    let one = both _ _ h in
    let two = both _ _ one.1 in
    let three = both _ _ two.1 in
    let four = both _ _ three.1 in
    let five = both _ _ four.1 in
    record { apart = one.0; live = two.0; states = three.0; slots = four.0; no_others = five.0; derived = five.1 }

pub passed : (p : ProfileName) (plan : Plan) (layout : Layout) (v : Shown) (objects : List Object) (slots : List Slot) (derived : List (ℕ × ℕ)) (rows : Rows)
    → objects ≡ layout.objects.items → slots ≡ layout.slots.items → derived ≡ layout.derived.items → rows ≡ derivations_of v.derivations
    → passes p plan objects slots derived v rows ≡ true → IsLaidOut p plan layout v
passed p plan layout v objects slots derived rows os ss ds rs h =
    let a = subst (λ (x : List Object). passes p plan x slots derived v rows ≡ true) os h in
    let b = subst (λ (x : List Slot). passes p plan layout.objects.items x derived v rows ≡ true) ss a in
    let c = subst (λ (x : List (ℕ × ℕ)). passes p plan layout.objects.items layout.slots.items x v rows ≡ true) ds b in
    all_passed p plan layout v (subst (λ (x : Rows). passes p plan layout.objects.items layout.slots.items layout.derived.items v x ≡ true) rs c)
