-- A call that derives the capability of a thread or of an endpoint, and what it adds to a trace.
use Rattle.std.specs.Prelude.{◌≡◌, ℕ, ◌==◌, Bool, true, false, List, [], ◌++◌, map, Option, None, Some}
use Rattle.std.specs.List.{IsDistinct}
use Rattle.cap_core.specs.declared.profile.ProfileName.{ProfileName}
use Rattle.kernel_forest.specs.Forest.{Forest}
use Rattle.kernel_forest.specs.Entries.{Entry, entry, is_full, cap_at, slots, first_child, derivations_of}
use Rattle.kernel_forest.specs.Derivation.{names_same, is_new_original, derived}
use Rattle.slot_core.specs.declared.derivations.Derivation.{Derivation}
use Rattle.slot_core.specs.Calls.{derivation_view}
use Rattle.kernel_abstract.specs.declared.invocation.CapPlacement.{CapPlacement}
use Rattle.kernel_abstract.specs.Shown.{Shown}
use Rattle.setup_report.specs.Naming.{Texts}
use Rattle.command_trace.specs.Lines.{traced_slot_text}
use Rattle.command_trace.specs.Siblings.{sibling_text}
use Rattle.command_trace.specs.Changes.{added}
use Rattle.command_trace.specs.Foreseen.{names_live}
use Rattle.command_trace.specs.declared.lines.foreseen.DerivedCap.{DerivedCap}

-- the same but for the forest of derivations
abbrev pub with_forest : Shown → Forest Entry → Shown
with_forest v g = record v { derivations = g }

-- a capability of a thread or of an endpoint is derived from the one in a full slot, to an empty one
pub record IsPutLive (v : Shown) (placement : CapPlacement) : Type 0 where
  pub full : is_full placement.source v.derivations ≡ true
  pub empty : is_full placement.slot v.derivations ≡ false
  pub apart : IsDistinct (λ (a b : ℕ). a == b) (slots v.derivations)
  pub same : names_same (cap_at v.derivations placement.source) placement.cap ≡ true
  pub live : names_live placement.cap ≡ true

-- and that is all that changes
pub record IsDerivedStep (p : ProfileName) (v w : Shown) (new : DerivedCap) : Type 0 where
  pub put : IsPutLive v new.placement
  pub original : new.original ≡ is_new_original (cap_at v.derivations new.placement.source) new.placement.cap
  pub next : new.next ≡ first_child new.placement.source v.derivations
  pub after : w ≡ with_forest v (derived new.placement.source new.placement.slot new.placement.cap v.derivations)

-- the full slots of a forest, in its order
pub record AreRowsOf (p : ProfileName) (f : Forest Entry) (rows : List Derivation) : Type 0 where
  pub list : map (derivation_view p) rows ≡ derivations_of f
  pub apart : IsDistinct (λ (a b : ℕ). a == b) (slots f)

-- what is told of the next sibling, where there is one
abbrev pub next_text : Texts → ℕ → Option ℕ → List ℕ
next_text texts slot None = []
next_text texts slot (Some next) = added (Some (sibling_text texts next slot))

-- what is told of a new first child
abbrev pub child_text : Texts → CapPlacement → Bool → Option ℕ → List ℕ
child_text texts placement original next =
    added (Some (traced_slot_text texts (entry placement.slot placement.cap original, Some placement.source))) ++ next_text texts placement.slot next
