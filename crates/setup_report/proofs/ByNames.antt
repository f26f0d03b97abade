-- What the code knows of names gives the texts of a state by names.
use Rattle.std.proofs.Common.{◌≡◌, ℕ, ◌/◌, ◌^◌, List, [], ◌∷◌, map, find, Option, Some, None, option_and_then, option_map, refl, ap, sym, ◌∙◌, true}
use Rattle.std.proofs.lemmas.Nat.{shl-shr}
use Rattle.std.specs.Option.{option_or}
use Rattle.std.specs.List.{cons_option, filter_map}
use Rattle.cap_core.specs.declared.profile.ProfileName.{ProfileName}
use Rattle.cap_core.specs.declared.capability.Cap.{Cap}
use Rattle.cap_core.specs.Numbers.{slot_bits, slot_size}
use Rattle.kernel_forest.specs.Entries.{derivations_of}
use Rattle.slot_core.specs.declared.derivations.Derivation.{Derivation}
use Rattle.slot_core.specs.Calls.{derivation_view}
use Rattle.kernel_abstract.specs.Boot.{boot}
use Rattle.kernel_abstract.specs.Plan.{Plan}
use Rattle.kernel_abstract.specs.Shown.{Shown}
use Rattle.kernel_abstract.specs.State.{shown}
use Rattle.setup_values.specs.Names.{Names, names_view}
use Rattle.setup_values.specs.Told.{name_of}
use Rattle.setup_values.proofs.LookUp.{find_map}
use Rattle.setup_report.specs.State.{Derived, slot_of}
use Rattle.setup_report.specs.declared.objects.Object.{Object}
use Rattle.setup_report.specs.declared.known.ObjectNames.{ObjectNames}
use Rattle.setup_report.specs.Naming.{address_name, boot_name, by_object_names, live_nodes, name_by, names_object, node_of, object_base, row_name, slots_at_boot, texts_of}

boot_view : List Derivation → List (ℕ × Cap)
boot_view rows = map (λ (d : Derivation). (d.slot.place, d.cap)) rows

boot_seen : (p : ProfileName) (rows : List Derivation) →
    boot_view rows ≡ map (λ (d : Derived). (slot_of d / slot_size p, d.0.cap)) (map (derivation_view p) rows)
unfolding boot_view
boot_seen p [] = refl
boot_seen p (d ∷ rows) = λ i. (sym (shl-shr d.slot.place (slot_bits p)) i, d.cap) ∷ boot_seen p rows i

at_place : (names : Names) (o : Option Derivation) →
    option_and_then (λ (s : ℕ × Cap). name_of names s.0) (option_map (λ (d : Derivation). (d.slot.place, d.cap)) o) ≡ option_and_then (λ (d : Derivation). name_of names d.slot.place) o
at_place names None = refl
at_place names (Some d) = refl

row_seen : (names : Names) (rows : List Derivation) (object : Object) → row_name names rows object ≡ boot_name names (boot_view rows) object
unfolding boot_view
row_seen names rows object =
    sym (
    ap (option_and_then (λ (s : ℕ × Cap). name_of names s.0)) (find_map (λ (d : Derivation). (d.slot.place, d.cap)) (λ (s : ℕ × Cap). names_object object s.1) rows)
    ∙ at_place names (find (λ (d : Derivation). names_object object d.cap) rows))

nodes_seen : (p : ProfileName) (rows : List Derivation) → filter_map (λ (d : Derivation). node_of d.cap) rows ≡ live_nodes (map (derivation_view p) rows)
nodes_seen p [] = refl
nodes_seen p (d ∷ rows) = ap (cons_option (node_of d.cap)) (nodes_seen p rows)

pub known_texts : (p : ProfileName) (plan : Plan) (v : Shown) (known : ObjectNames) (boots rows : List Derivation) →
    known.slots ≡ 2 ^ plan.root_radix → known.slot_bits ≡ slot_bits p → known.boot.items ≡ boots → map (derivation_view p) boots ≡ derivations_of (shown (boot p plan)).derivations →
    known.nodes.items ≡ filter_map (λ (d : Derivation). node_of d.cap) rows → map (derivation_view p) rows ≡ derivations_of v.derivations →
    by_object_names (name_by known) known.slot_bits known.nodes.items ≡ texts_of true p (names_view known.names.now) plan v
known_texts p plan v known boots rows slots bits is_boot at_boot is_nodes at_rows =
    let names : Names = names_view known.names.now in
    let boot_is : boot_view known.boot.items ≡ slots_at_boot p plan =
    ap boot_view is_boot ∙ (boot_seen p boots ∙ ap (map (λ (d : Derived). (slot_of d / slot_size p, d.0.cap))) at_boot) in
    let rows_are : (object : Object) → row_name names known.boot.items object ≡ boot_name names (slots_at_boot p plan) object =
    λ object. row_seen names known.boot.items object ∙ ap (λ (l : List (ℕ × Cap)). boot_name names l object) boot_is in
    let nodes_are : known.nodes.items ≡ live_nodes (derivations_of v.derivations) = is_nodes ∙ (nodes_seen p rows ∙ ap live_nodes at_rows) in
    λ i. by_object_names (λ (object : Object). option_or (address_name names (slots i) (object_base object)) (rows_are object i)) (bits i) (nodes_are i)
