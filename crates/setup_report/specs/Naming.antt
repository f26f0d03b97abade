-- How texts name objects, slots and threads: by addresses, or by names.
use Rattle.std.specs.Prelude.{codes, ℕ, ◌-◌, ◌/◌, ◌^◌, ◌==◌, ◌&&◌, nat_le, nat_lt, Bool, true, false, cond, List, [], ◌++◌, map, find, Option, Some, None, option_and_then, option_copied}
use Rattle.std.specs.Option.{option_or}
use Rattle.std.specs.List.{filter_map}
use Rattle.std.specs.Fmt.{decimal}
use Rattle.cap_core.specs.declared.profile.ProfileName.{ProfileName}
use Rattle.cap_core.specs.declared.capability.Cap.{Cap}
use Rattle.cap_core.specs.declared.capability.Cap.TheVariants.{Untyped, Endpoint, CNode, Tcb}
use Rattle.cap_core.specs.Numbers.{slot_bits, slot_size}
use Rattle.kernel_forest.specs.Entries.{derivations_of}
use Rattle.slot_core.specs.declared.derivations.Derivation.{Derivation}
use Rattle.kernel_abstract.specs.Boot.{boot}
use Rattle.kernel_abstract.specs.Plan.{Plan}
use Rattle.kernel_abstract.specs.Shown.{Shown}
use Rattle.kernel_abstract.specs.State.{shown}
use Rattle.setup_values.specs.Names.{Names, names_view}
use Rattle.setup_values.specs.Told.{name_of, thread_name, named_text}
use Rattle.setup_report.specs.State.{Derived, slot_of}
use Rattle.setup_report.specs.declared.objects.Node.{Node}
use Rattle.setup_report.specs.declared.objects.Object.{Object}
use Rattle.setup_report.specs.declared.known.ObjectNames.{ObjectNames}
use Rattle.setup_report.specs.declared.naming.Naming.{Naming}
use Rattle.setup_report.specs.declared.naming.Naming.TheVariants.{Addresses, Named}
use Rattle.setup_report.specs.declared.naming.Told.{Told}
use Rattle.setup_report.specs.declared.naming.Told.TheVariants.{Number, Thread, Name, Space, Index}

-- the text of a thread that a line is about, of another object, and of a slot; and whether names stand in place of addresses
pub record Texts : Type 0 where
  pub about : ℕ → List ℕ
  pub object : Object → List ℕ
  pub slot : ℕ → List ℕ
  pub by_name : Bool

-- ---- objects

-- the address at which an object begins
abbrev pub object_base : Object → ℕ
object_base (Object.Thread base) = base
object_base (Object.Endpoint base) = base
object_base (Object.CNode base) = base
object_base (Object.Region base bits) = base

-- a capability names the object
abbrev pub names_object : Object → Cap → Bool
names_object (Object.Thread base) (Tcb other) = other == base
names_object (Object.Endpoint base) (Endpoint other badge rights) = other == base
names_object (Object.CNode base) (CNode other radix guard) = other == base
names_object (Object.Region base bits) (Untyped other size free) = other == base && size == bits
names_object object cap = false

-- ---- addresses

-- all are numbers, and the thread that a line is about has its name after it
abbrev pub by_addresses : Names → Texts
by_addresses names = record {
  about = thread_name names;
  object = λ object. decimal (object_base object);
  slot = decimal;
  by_name = false;
}

-- only addresses
abbrev pub plain : Texts
plain = by_addresses []

-- ---- the name of an object

-- the full slots of boot, by their places in the root CNode, each with what it holds
abbrev pub slots_at_boot : ProfileName → Plan → List (ℕ × Cap)
slots_at_boot p plan =
    map (λ (d : Derived). (slot_of d / slot_size p, d.0.cap)) (derivations_of (shown (boot p plan)).derivations)

-- the one name of the slot that boot put the object's capability into
abbrev pub boot_name : Names → List (ℕ × Cap) → Object → Option (List ℕ)
boot_name names slots object =
    option_and_then (λ (s : ℕ × Cap). name_of names s.0) (find (λ (s : ℕ × Cap). names_object object s.1) slots)

-- the one name of an address; a name of a number below the count of the root CNode's slots is one of a slot
abbrev pub address_name : Names → ℕ → ℕ → Option (List ℕ)
address_name names count base = cond (nat_lt base count) None (name_of names base)

-- the one name of the set-up with the object's address, or else the one name of the slot of boot that gave it
abbrev pub object_name : Names → ℕ → List (ℕ × Cap) → Object → Option (List ℕ)
object_name names count slots object = option_or (address_name names count (object_base object)) (boot_name names slots object)

-- ---- names: what has one is written by it in place of its address

abbrev pub name_or_number : ℕ → Option (List ℕ) → List ℕ
name_or_number number None = decimal number
name_or_number number (Some name) = codes "@" ++ name

abbrev pub object_told : (Object → Option (List ℕ)) → Object → List ℕ
object_told name object = name_or_number (object_base object) (name object)

-- a slot lies in a CNode
abbrev pub lies_in_node : ℕ → ℕ → Node → Bool
lies_in_node bits slot node = nat_le node.base slot && nat_lt ((slot - node.base) / 2 ^ bits) (2 ^ node.radix)

abbrev pub index_or_number : ℕ → ℕ → Node → Option (List ℕ) → List ℕ
index_or_number bits slot node None = decimal slot
index_or_number bits slot node (Some name) =
    codes "@" ++ (name ++ (codes "[" ++ (decimal ((slot - node.base) / 2 ^ bits) ++ codes "]")))

abbrev pub space_or_number : ℕ → Option (List ℕ) → List ℕ
space_or_number slot None = decimal slot
space_or_number slot (Some name) = codes "@" ++ (name ++ codes ".cspace")

-- a slot of a CNode that has a name, by its index; the slot of the CSpace of a thread that has one; or the address
abbrev pub slot_told : (Object → Option (List ℕ)) → ℕ → ℕ → Option Node → List ℕ
slot_told name bits slot None = space_or_number slot (name (Object.Thread slot))
slot_told name bits slot (Some node) = index_or_number bits slot node (name (Object.CNode node.base))

abbrev pub by_object_names : (Object → Option (List ℕ)) → ℕ → List Node → Texts
by_object_names name bits nodes = record {
  about = λ address. object_told name (Object.Thread address);
  object = object_told name;
  slot = λ slot. slot_told name bits slot (find (lies_in_node bits slot) nodes);
  by_name = true;
}

-- the CNodes that full slots name
abbrev pub node_of : Cap → Option Node
node_of (CNode base radix guard) = Some (record { base = base; radix = radix })
node_of cap = None

abbrev pub live_nodes : List Derived → List Node
live_nodes list = filter_map (λ (d : Derived). node_of d.0.cap) list

-- the texts of a state, by addresses or by names
abbrev pub texts_of : Bool → ProfileName → Names → Plan → Shown → Texts
texts_of false p names plan v = by_addresses names
texts_of true p names plan v =
    by_object_names (object_name names (2 ^ plan.root_radix) (slots_at_boot p plan)) (slot_bits p) (live_nodes (derivations_of v.derivations))

-- the texts of a report: only addresses, or names
abbrev pub report_texts : Bool → ProfileName → Names → Plan → Shown → Texts
report_texts false p names plan v = plain
report_texts true p names plan v = texts_of true p names plan v

-- ---- what the code has of them

abbrev pub row_name : Names → List Derivation → Object → Option (List ℕ)
row_name names rows object =
    option_and_then (λ (d : Derivation). name_of names d.slot.place) (find (λ (d : Derivation). names_object object d.cap) rows)

abbrev pub name_by : ObjectNames → Object → Option (List ℕ)
name_by known object =
    option_or (address_name (names_view known.names.now) known.slots (object_base object))
    (row_name (names_view known.names.now) known.boot.items object)

-- the texts by which the code writes: addresses with the names of threads next to them, or names in place of addresses
abbrev pub naming_view : Naming → Texts
naming_view (Addresses names) = by_addresses (names_view names.now)
naming_view (Named known) = by_object_names (name_by known) known.slot_bits known.nodes.items

-- one address as it is written
abbrev pub told_as : Told → List ℕ
told_as (Number number) = decimal number
told_as (Thread thread) = named_text thread.address (option_copied thread.name)
told_as (Name text) = codes "@" ++ text.now
told_as (Space text) = codes "@" ++ (text.now ++ codes ".cspace")
told_as (Index text index) = codes "@" ++ (text.now ++ (codes "[" ++ (decimal index ++ codes "]")))
