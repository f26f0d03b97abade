-- What is read of the rows of the full slots is read of the full slots.
use Rattle.std.proofs.Common.{◌≡◌, List, [], ◌∷◌, map, Option, Bool, refl, ap, ◌∙◌, sym}
use Rattle.std.specs.Prelude.{◌&&◌}
use Rattle.std.specs.List.{cons_option, filter_map, list_all}
use Rattle.cap_core.specs.declared.profile.ProfileName.{ProfileName}
use Rattle.cap_core.specs.declared.capability.Cap.{Cap}
use Rattle.slot_core.specs.Calls.{derivation_view}
use Rattle.slot_core.specs.declared.derivations.Derivation.{Derivation}
use Rattle.setup_report.specs.State.{Derived}

pub filter_map_rows : {B : Type 0} (p : ProfileName) (read : Cap → Option B) (rows : List Derivation)
    → filter_map (λ (d : Derivation). read d.cap) rows ≡ filter_map (λ (d : Derived). read d.0.cap) (map (derivation_view p) rows)
filter_map_rows p read [] = refl
filter_map_rows p read (d ∷ rows) = ap (cons_option (read d.cap)) (filter_map_rows p read rows)

pub all_rows : (p : ProfileName) (test : Cap → Bool) (rows : List Derivation)
    → list_all (λ (d : Derivation). test d.cap) rows ≡ list_all (λ (d : Derived). test d.0.cap) (map (derivation_view p) rows)
all_rows p test [] = refl
all_rows p test (d ∷ rows) = ap (λ (rest : Bool). test d.cap && rest) (all_rows p test rows)
