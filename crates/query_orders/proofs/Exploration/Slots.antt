-- The words of a state, by the full slots that all states have.
use Rattle.std.proofs.Common.{◌≡◌, ℕ, List, Option, None, Some, refl, ap, sym, ◌∙◌}
use Rattle.std.specs.Global.{Vec}
use Rattle.cap_core.specs.declared.profile.ProfileName.{ProfileName}
use Rattle.slot_core.specs.declared.derivations.Derivation.{Derivation}
use Rattle.kernel_forest.specs.Entries.{derivations_of}
use Rattle.kernel_abstract.specs.declared.call.Call.{Call}
use Rattle.kernel_abstract.specs.Shown.{Shown}
use Rattle.kernel_abstract.specs.State.{shown}
use Rattle.kernel_abstract.specs.Reached.{IsReached}
use Rattle.query_orders.specs.Words.{listed, slot_words, shown_words}
use Rattle.query_orders.specs.World.{World, world_after}
use Rattle.query_orders.specs.Private.Shared.{AreShared, slots_told}
use Rattle.query_orders.proofs.Apart.Derivations.{orders_stay}

pub told_is : (p : ProfileName) (own : List (List Call)) (w : World) (shared : Option (Vec Derivation)) (order : List ℕ) (v : Shown) → IsReached p w.kernel → AreShared p own w shared →
    v ≡ shown (world_after p own w order).kernel → slots_told p shared v ≡ shown_words v
told_is p own w None order v r are at = refl
told_is p own w (Some slots) order v r are at =
    ap (listed (slot_words v)) (are.1 ∙ ap derivations_of (sym (orders_stay p own are.0 w order r)) ∙ ap (λ (x : Shown). derivations_of x.derivations) (sym at))
