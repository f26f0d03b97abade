-- Objects and slots are told without a line feed, where no name of the set-up has one.
use Rattle.std.proofs.Common.{ℕ, ◌-◌, ◌/◌, ◌^◌, ◌==◌, nat_lt, Bool, true, false, cond, List, [], ◌∷◌, ◌++◌, find, Option, None, Some, option_map, refl}
use Rattle.std.specs.Prelude.{codes, count_by, option_and_then}
use Rattle.std.specs.Option.{option_or}
use Rattle.std.specs.Fmt.{decimal}
use Rattle.std.specs.List.{AllByRecursion as Each}
use Rattle.std.proofs.lemmas.List.Elements.{recursion_from_All}
use Rattle.cap_core.specs.declared.profile.ProfileName.{ProfileName}
use Rattle.cap_core.specs.declared.capability.Cap.{Cap}
use Rattle.cap_core.specs.Numbers.{slot_bits}
use Rattle.kernel_forest.specs.Entries.{derivations_of}
use Rattle.kernel_abstract.specs.Plan.{Plan}
use Rattle.kernel_abstract.specs.Shown.{Shown}
use Rattle.setup_values.specs.Names.{Names}
use Rattle.setup_values.specs.Told.{name_of, has_value}
use Rattle.setup_report.specs.declared.objects.Node.{Node}
use Rattle.setup_report.specs.declared.objects.Object.{Object}
use Rattle.setup_report.specs.Naming.{names_object, slots_at_boot, boot_name, address_name, object_name, object_base, name_or_number, index_or_number, space_or_number, slot_told, lies_in_node, live_nodes, report_texts}
use Rattle.setup_report_laws.specs.Laws.{IsOneLine}
use Rattle.setup_report_laws.proofs.OneLine.{both_lines, number_line, number_and}
use Rattle.command_why.specs.Laws.{AreNamesOfOneLine, AreOneLineTexts}

-- a name, where there is one, has no line feed
abbrev IsNamed : Option (List ℕ) → Type 0
IsNamed None = Unit {0}
IsNamed (Some name) = IsOneLine name

abbrev AreLines : Names → Type 0
AreLines names = Each (λ (name : List ℕ × ℕ). IsOneLine name.0) names

found_line : (test : List ℕ × ℕ → Bool) (names : Names) → AreLines names → IsNamed (option_map (λ (n : List ℕ × ℕ). n.0) (find test names))
found_line test [] h = tt
found_line test (name ∷ names) h =
    elim (test name) as (λ b. IsNamed (option_map (λ (n : List ℕ × ℕ). n.0) (cond b (Some name) (find test names)))) [
      | true ↦ h.0
      | false ↦ found_line test names h.1
    ]

value_line : (names : Names) (value : ℕ) → AreLines names → IsNamed (name_of names value)
value_line names value h =
    elim (count_by (has_value value) names == 1) as (λ b. IsNamed (cond b (option_map (λ (n : List ℕ × ℕ). n.0) (find (has_value value) names)) None)) [
      | true ↦ found_line (has_value value) names h
      | false ↦ tt
    ]

-- ---- the name of an object

address_line : (names : Names) (count base : ℕ) → AreLines names → IsNamed (address_name names count base)
address_line names count base h =
    elim (nat_lt base count) as (λ b. IsNamed (cond b None (name_of names base))) [
      | true ↦ tt
      | false ↦ value_line names base h
    ]

boot_line : (names : Names) (slots : List (ℕ × Cap)) (object : Object) → AreLines names → IsNamed (boot_name names slots object)
boot_line names slots object h = by (find (λ (s : ℕ × Cap). names_object object s.1) slots)
  where
    by : (o : Option (ℕ × Cap)) → IsNamed (option_and_then (λ (s : ℕ × Cap). name_of names s.0) o)
    by None = tt
    by (Some s) = value_line names s.0 h

either_line : (first other : Option (List ℕ)) → IsNamed first → IsNamed other → IsNamed (option_or first other)
either_line None other h k = k
either_line (Some name) other h k = h

object_line : (names : Names) (count : ℕ) (slots : List (ℕ × Cap)) (object : Object) → AreLines names → IsNamed (object_name names count slots object)
object_line names count slots object h =
    either_line (address_name names count (object_base object)) (boot_name names slots object) (address_line names count (object_base object) h) (boot_line names slots object h)

-- ---- how an object and a slot are told

told_line : (number : ℕ) (name : Option (List ℕ)) → IsNamed name → IsOneLine (name_or_number number name)
told_line number None h = number_line number
told_line number (Some name) h = h

space_line : (slot : ℕ) (name : Option (List ℕ)) → IsNamed name → IsOneLine (space_or_number slot name)
space_line slot None h = number_line slot
space_line slot (Some name) h = both_lines name (codes ".cspace") h refl

index_line : (bits slot : ℕ) (node : Node) (name : Option (List ℕ)) → IsNamed name → IsOneLine (index_or_number bits slot node name)
index_line bits slot node None h = number_line slot
index_line bits slot node (Some name) h =
    let index = (slot - node.base) / 2 ^ bits in
    both_lines name (codes "[" ++ (decimal index ++ codes "]")) h (number_and index (codes "]") refl)

slot_line : (name : Object → Option (List ℕ)) (bits slot : ℕ) (node : Option Node) → ((object : Object) → IsNamed (name object)) → IsOneLine (slot_told name bits slot node)
slot_line name bits slot None h = space_line slot (name (Object.Thread slot)) (h (Object.Thread slot))
slot_line name bits slot (Some node) h = index_line bits slot node (name (Object.CNode node.base)) (h (Object.CNode node.base))

pub report_told_in_one_line : (by_name : Bool) (p : ProfileName) (names : Names) (plan : Plan) (v : Shown) → AreNamesOfOneLine names → AreOneLineTexts (report_texts by_name p names plan v)
report_told_in_one_line false p names plan v h = (λ object. number_line (object_base object), λ slot. number_line slot)
report_told_in_one_line true p names plan v h =
    let name : Object → Option (List ℕ) = object_name names (2 ^ plan.root_radix) (slots_at_boot p plan) in
    let lines = recursion_from_All (λ (name : List ℕ × ℕ). IsOneLine name.0) names h in
    let named : (object : Object) → IsNamed (name object) = λ object. object_line names (2 ^ plan.root_radix) (slots_at_boot p plan) object lines in (
      λ object. told_line (object_base object) (name object) (named object),
      λ slot. slot_line name (slot_bits p) slot (find (lies_in_node (slot_bits p) slot) (live_nodes (derivations_of v.derivations))) named,
    )
