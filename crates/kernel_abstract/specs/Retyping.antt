-- What a retype checks, and the capabilities that it puts (seL4 Reference Manual, on `seL4_Untyped_Retype`).
use Rattle.std.specs.Prelude.{ℕ, ◌+◌, ◌-◌, ◌^◌, Bool, not, cond, ◌==◌, ◌&&◌, nat_le, nat_lt, List, [], ◌∷◌, map, Option, Some, None, Result, Ok, Err}
use Rattle.std.specs.List.{find, range_with_len, filter_map}
use Rattle.cap_core.specs.Limits.{max_retype_count}
use Rattle.cap_core.specs.declared.profile.ProfileName.{ProfileName}
use Rattle.cap_core.specs.declared.capability.Cap.{Cap}
use Rattle.cap_core.specs.declared.capability.Cap.TheVariants.{Untyped, CNode}
use Rattle.cap_core.specs.declared.capability.Kind.{Kind}
use Rattle.cap_core.specs.declared.capability.Kind.TheVariants as kind
use Rattle.cap_core.specs.Numbers.{word_bits, min_untyped_bits, max_object_bits}
use Rattle.cap_core.specs.Objects.{is_null}
use Rattle.cap_core.specs.Kinds.{kind_numbered, size_of, new_cap}
use Rattle.cap_core.specs.Checks.{◌>>=◌}
use Rattle.mem_core.specs.declared.objects.Shape.{Shape}
use Rattle.mem_core.specs.Shapes.{shape_of}
use Rattle.mem_core.specs.Plans.{start_of, room_of, placed_in, object_at}
use Rattle.kernel_forest.specs.Forest.{Forest}
use Rattle.kernel_forest.specs.Entries.{Entry, cap_at}
use Rattle.kernel_forest.specs.Derivation.{retyped, freed}
use Rattle.cspace_core.specs.Resolution.{slot_of}
use Rattle.kernel_abstract.specs.declared.invocation.NewObjects.{NewObjects}
use Rattle.kernel_abstract.specs.declared.invocation.RetypeArguments.{RetypeArguments}
use Rattle.kernel_abstract.specs.declared.reason.Held.{Held}
use Rattle.kernel_abstract.specs.declared.reason.Word.{Word}
use Rattle.kernel_abstract.specs.declared.reason.Word.TheVariants.{Root, Index}
use Rattle.kernel_abstract.specs.declared.reason.Reason.{Reason}
use Rattle.kernel_abstract.specs.declared.reason.Reason.TheVariants.{NoKind, NoSize, TooLarge, TooSmall, NoNode, NoOffset, NoCount, FewSlots, SomeFull, NoRoom}
use Rattle.kernel_abstract.specs.Reasons.{because, held_at}
use Rattle.kernel_abstract.specs.Lookups.{slot_by_word, slot_by_index, of_kind}
use Rattle.kernel_abstract.specs.Shown.{has_child}

-- the least size of a kind that may be asked for
abbrev pub least_of : ProfileName → Kind → ℕ
least_of p kind.Untyped = min_untyped_bits p
least_of p kind.Tcb = 0
least_of p kind.Endpoint = 0
least_of p kind.CNode = 1

-- why objects of a kind have no shape: the size is no size of a word, the object is too large, or it is too small
abbrev pub no_size : ProfileName → Kind → ℕ → Reason
no_size p k size_bits =
    cond (nat_lt size_bits (word_bits p))
    (cond (nat_le (size_of p k size_bits) (max_object_bits p)) (TooSmall k (least_of p k))
    (TooLarge k (size_of p k size_bits) (max_object_bits p)))
    (NoSize (word_bits p))

abbrev pub no_shape : ProfileName → ℕ → Option Kind → Reason
no_shape p size_bits None = NoKind
no_shape p size_bits (Some k) = no_size p k size_bits

abbrev pub checked_shape : ProfileName → ℕ → ℕ → Result Shape Reason
checked_shape p number size_bits = because (no_shape p size_bits (kind_numbered number)) (shape_of p number size_bits)

-- the slot of the CNode that is filled, and the word that names it: the root's at depth 0, else the one that is named
abbrev pub node_slot : ProfileName → Forest Entry → ℕ → ℕ → ℕ → Result ℕ Reason
node_slot p f root index depth = cond (depth == 0) (Ok root) (slot_by_index p (cap_at f) Index root index depth)

abbrev pub node_word : ℕ → Word
node_word depth = cond (depth == 0) Root Index

-- the CNode has the slots, and one retype may fill so many
abbrev pub within_node : Word → Held → ℕ → ℕ → ℕ → ℕ → Result ℕ Reason
within_node word node radix offset count first =
    cond (nat_lt offset (2 ^ radix))
    (cond (nat_le 1 count && nat_le count max_retype_count)
    (cond (nat_le count (2 ^ radix - offset)) (Ok first) (Err (FewSlots word node)))
    (Err (NoCount max_retype_count)))
    (Err (NoOffset word node))

-- the first full slot among those from one on, by its place among them
abbrev pub first_full : ProfileName → Forest Entry → ℕ → ℕ → Option ℕ
first_full p f first count = find (λ i. not (is_null (cap_at f (slot_of p first i)))) (range_with_len 0 count)

abbrev pub ensure_none_full : ProfileName → Forest Entry → Word → Held → ℕ → ℕ → Option ℕ → Result ℕ Reason
ensure_none_full p f word node offset first None = Ok first
ensure_none_full p f word node offset first (Some i) =
    Err (SomeFull word node (offset + i) (held_at (cap_at f) (slot_of p first i)))

abbrev pub first_slot : ProfileName → Forest Entry → Word → ℕ → ℕ → ℕ → Cap → Result ℕ Reason
first_slot p f word offset count slot (CNode base radix guard) =
    within_node word (record { slot = slot; cap = CNode base radix guard }) radix offset count (slot_of p base offset) >>= λ first.
    ensure_none_full p f word (record { slot = slot; cap = CNode base radix guard }) offset first (first_full p f first count)
first_slot p f word offset count slot cap = Err (NoNode word (record { slot = slot; cap = cap }))

-- why an untyped region has no room for objects of 2^b bytes: what counts as used, and how many of them fit
abbrev pub no_room : ℕ → Bool → ℕ → Cap → Reason
no_room slot has_children b (Untyped base bits free) =
    NoRoom (record { slot = slot; cap = Untyped base bits free }) has_children (start_of has_children free) b
    (room_of bits (start_of has_children free) b)
no_room slot has_children b cap = NoRoom (record { slot = slot; cap = cap }) has_children 0 b 0

abbrev pub checked_objects : ProfileName → Forest Entry → ℕ → Cap → ℕ → Shape → RetypeArguments → Result NewObjects Reason
checked_objects p f at untyped root shape asked =
    node_slot p f root asked.index asked.depth >>= λ node.
    first_slot p f (node_word asked.depth) asked.offset asked.count node (cap_at f node) >>= λ first.
    because (no_room at (has_child at f) shape.bits untyped) (placed_in (has_child at f) shape.bits asked.count untyped) >>= λ placed.
    Ok (record { untyped = at; shape = shape; placed = placed; first_slot = first; count = asked.count })

-- the checks in their order, of a retype by the untyped capability in a slot
abbrev pub checked_retype : ProfileName → Forest Entry → ℕ → ℕ → RetypeArguments → Result NewObjects Reason
checked_retype p f thread at asked =
    of_kind kind.Untyped (held_at (cap_at f) at) >>= λ untyped.
    slot_by_word p f Root thread asked.root >>= λ root.
    checked_shape p asked.kind asked.size_bits >>= λ shape.
    checked_objects p f at untyped root shape asked

-- the capabilities of the new objects, each with the slot that it goes into
abbrev pub new_caps : ProfileName → NewObjects → List (ℕ × Cap)
new_caps p new =
    map (λ i. (slot_of p new.first_slot i, new_cap new.shape.kind (object_at new.placed i) new.shape.size_bits))
    (range_with_len 0 new.count)

-- capabilities put one after another, each the first child of their untyped
abbrev pub with_new : ℕ → List (ℕ × Cap) → Forest Entry → Forest Entry
with_new untyped [] f = f
with_new untyped (put ∷ puts) f = with_new untyped puts (retyped untyped put.0 put.1 f)

-- the untyped is used up to the end of the last object, and the capabilities stand below it
abbrev pub with_objects : ProfileName → NewObjects → Forest Entry → Forest Entry
with_objects p new f = with_new new.untyped (new_caps p new) (freed new.untyped new.placed.free f)

-- the addresses of the new objects of one kind, by the base that their capabilities name
abbrev pub new_bases : (Cap → Option ℕ) → ProfileName → NewObjects → List ℕ
new_bases base_of p new = filter_map base_of (map (λ (put : ℕ × Cap). put.1) (new_caps p new))
