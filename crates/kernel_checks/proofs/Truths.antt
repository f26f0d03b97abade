-- What each reason tells is so.
use Rattle.std.proofs.Common.{◌≡◌, ℕ, zero, suc, refl, Bool, true, false, cond, not, nat_lt, nat_le, ◌-◌, ◌^◌, ◌==◌, ◌&&◌, List, length, Option, Some, None, Result, Ok, Err}
use Rattle.cap_core.specs.Limits.{max_retype_count}
use Rattle.cap_core.specs.declared.profile.ProfileName.{ProfileName}
use Rattle.cap_core.specs.declared.capability.Guard.{Guard}
use Rattle.cap_core.specs.declared.capability.Kind.{Kind}
use Rattle.cap_core.specs.declared.capability.Kind.TheVariants as kind
use Rattle.cap_core.specs.declared.capability.Cap.{Cap}
use Rattle.cap_core.specs.declared.capability.Cap.TheVariants.{Null, Untyped, Endpoint, CNode, Tcb}
use Rattle.cap_core.specs.declared.refusal.Refusal.{Refusal}
use Rattle.cap_core.specs.Numbers.{word_bits, max_object_bits}
use Rattle.cap_core.specs.Objects.{is_null, is_untyped}
use Rattle.cap_core.specs.Minting.{masked, with_data}
use Rattle.cap_core.specs.Rights.{all_rights}
use Rattle.cap_core.specs.Kinds.{kind_numbered, size_of}
use Rattle.cap_core.specs.Checks.{◌>>=◌}
use Rattle.mem_core.specs.declared.objects.Shape.{Shape}
use Rattle.mem_core.specs.Shapes.{shape_of}
use Rattle.mem_core.specs.Plans.{placed_in}
use Rattle.kernel_forest.specs.Forest.{Forest}
use Rattle.kernel_forest.specs.Entries.{Entry, cap_at, first_child}
use Rattle.cspace_core.specs.Bits.{low_bits, after_front}
use Rattle.cspace_core.specs.Resolution.{Choice, Found, is_cnode, guard_bits, slot_of}
use Rattle.kernel_abstract.specs.declared.call.Op.{Op}
use Rattle.kernel_abstract.specs.declared.call.Op.TheVariants as op
use Rattle.kernel_abstract.specs.declared.invocation.Change.{Change}
use Rattle.kernel_abstract.specs.declared.invocation.Change.TheVariants.{Copy, Mint, Move, Mutate}
use Rattle.kernel_abstract.specs.declared.invocation.SlotArguments.{SlotArguments}
use Rattle.kernel_abstract.specs.declared.invocation.RetypeArguments.{RetypeArguments}
use Rattle.kernel_abstract.specs.declared.invocation.Invocation.{Invocation}
use Rattle.kernel_abstract.specs.declared.invocation.Invocation.TheVariants as invocation
use Rattle.kernel_abstract.specs.Lookups.{is_of_kind}
use Rattle.kernel_abstract.specs.Shown.{has_child}
use Rattle.kernel_abstract.specs.Decode.{has_right, service_word, objects_asked}
use Rattle.kernel_abstract.specs.declared.reason.Word.{Word}
use Rattle.kernel_abstract.specs.declared.reason.Word.TheVariants.{Invoked, Root, SourceRoot, Index, SourceIndex}
use Rattle.kernel_abstract.specs.declared.reason.Right.{Right}
use Rattle.kernel_abstract.specs.declared.reason.Held.{Held}
use Rattle.kernel_abstract.specs.declared.reason.Miss.{Miss}
use Rattle.kernel_abstract.specs.declared.reason.Reason.{Reason}
use Rattle.kernel_abstract.specs.declared.reason.Reason.TheVariants.{NoCapability, IsEmpty, OtherKind, NoRight, NoSize, TooLarge, TooSmall}
use Rattle.kernel_abstract.specs.Reasons.{because, held_at}
use Rattle.kernel_checks.specs.Facts.{told_by, IsThere, AreThere, TellsTruly, MissesTruly}
use Rattle.kernel_abstract.specs.Lookups.{chosen_after_guard, chosen, walked_on, walked_within, walked, reached, slot_by_word, reached_whole, slot_by_index, ensure_empty, ensure_full}
use Rattle.kernel_abstract.specs.Decode.{right_bit, service_in}
use Rattle.kernel_abstract.specs.CNodes.{no_data, ensure_set, ensure_childless, ensure_derivable, changed_cap, checked_placement}
use Rattle.kernel_abstract.specs.Deletion.{checked_slot, ensure_all_rights, checked_badge}
use Rattle.kernel_abstract.specs.Threads.{checked_tcb, space_cap, checked_space}
use Rattle.kernel_abstract.specs.Retyping.{least_of, no_shape, checked_shape, node_slot, node_word, within_node, first_full, ensure_none_full, first_slot, no_room, checked_objects, checked_retype}
use Rattle.kernel_abstract.specs.Decode.{invoking, checked_invocation, checked_op}

tells_then : {X Y : Type 0} (f : Forest Entry) (m : Result X Reason) (k : X → Result Y Reason) →
    TellsTruly f m → ((x : X) → TellsTruly f (k x)) → TellsTruly f (m >>= k)
tells_then f (Ok x) k h then_so = then_so x
tells_then f (Err reason) k h then_so = h

tells_cond : {X : Type 0} (f : Forest Entry) (t : Bool) (a b : Result X Reason) → TellsTruly f a → TellsTruly f b → TellsTruly f (cond t a b)
tells_cond f true a b h h' = h
tells_cond f false a b h h' = h'

misses_cond : {X : Type 0} (f : Forest Entry) (t : Bool) (a b : Result X Miss) → MissesTruly f a → MissesTruly f b → MissesTruly f (cond t a b)
misses_cond f true a b h h' = h
misses_cond f false a b h h' = h'

after_guard_truly : (p : ProfileName) (f : Forest Entry) (node : Held) (base radix : ℕ) (guard : Guard) (bits : List ℕ) (rest : Option (List ℕ)) →
    IsThere f node → MissesTruly f (chosen_after_guard p node base radix guard bits rest)
after_guard_truly p f node base radix guard bits None h = (h, tt)
after_guard_truly p f node base radix guard bits (Some rest) h = misses_cond f (nat_lt (length rest) radix) _ _ (h, tt) tt

chosen_truly : (p : ProfileName) (f : Forest Entry) (slot : ℕ) (cap : Cap) (bits : List ℕ) → cap ≡ cap_at f slot → MissesTruly f (chosen p slot cap bits)
chosen_truly p f slot Null bits h = tt
chosen_truly p f slot (Untyped base b free) bits h = tt
chosen_truly p f slot (Endpoint base badge rights) bits h = tt
chosen_truly p f slot (CNode base radix guard) bits h =
    after_guard_truly p f (record { slot = slot; cap = CNode base radix guard }) base radix guard bits (after_front (guard_bits guard) bits) h
chosen_truly p f slot (Tcb base) bits h = tt

goes_on_truly : (p : ProfileName) (f : Forest Entry) (most : ℕ) →
    ((slot : ℕ) (bits : List ℕ) → MissesTruly f (walked_within p (cap_at f) most slot bits)) →
    (m : Result Choice Miss) → MissesTruly f m → MissesTruly f (walked_on (cap_at f) (walked_within p (cap_at f) most) m)
goes_on_truly p f most h (Err miss) so = so
goes_on_truly p f most h (Ok c) so =
    misses_cond f (is_cnode (cap_at f c.slot) && not (length c.left == 0)) _ _ (h c.slot c.left) tt

within_truly : (p : ProfileName) (f : Forest Entry) (most slot : ℕ) (bits : List ℕ) → MissesTruly f (walked_within p (cap_at f) most slot bits)
unfolding walked_within
within_truly p f zero slot bits = (refl, tt)
within_truly p f (suc most) slot bits =
    goes_on_truly p f most (within_truly p f most) (chosen p slot (cap_at f slot) bits) (chosen_truly p f slot (cap_at f slot) bits refl)

walked_truly : (p : ProfileName) (f : Forest Entry) (slot : ℕ) (bits : List ℕ) → MissesTruly f (walked p (cap_at f) slot bits)
unfolding walked
walked_truly p f slot bits = within_truly p f (suc (length bits)) slot bits

reached_truly : (f : Forest Entry) (word : Word) (slot : ℕ) (m : Result Found Miss) → MissesTruly f m → TellsTruly f (reached word (held_at (cap_at f) slot) m)
reached_truly f word slot (Ok found) so = tt
reached_truly f word slot (Err miss) so = (refl, so)

slot_by_word_truly : (p : ProfileName) (f : Forest Entry) (word : Word) (thread n : ℕ) → TellsTruly f (slot_by_word p f word thread n)
slot_by_word_truly p f word thread n =
    reached_truly f word thread (walked p (cap_at f) thread (low_bits (word_bits p) n)) (walked_truly p f thread (low_bits (word_bits p) n))

whole_truly : (f : Forest Entry) (word : Word) (slot : ℕ) (m : Result Found Miss) → MissesTruly f m → TellsTruly f (reached_whole (cap_at f) word (held_at (cap_at f) slot) m)
whole_truly f word slot (Ok found) so = tells_cond f (found.left == 0) _ _ tt (refl, (refl, tt))
whole_truly f word slot (Err miss) so = (refl, so)

slot_by_index_truly : (p : ProfileName) (f : Forest Entry) (word : Word) (root index depth : ℕ) → TellsTruly f (slot_by_index p (cap_at f) word root index depth)
slot_by_index_truly p f word root index depth =
    tells_cond f (is_cnode (cap_at f root)) _ _
    (tells_cond f (nat_le 1 depth && nat_le depth (word_bits p)) _ _
    (whole_truly f word root (walked p (cap_at f) root (low_bits depth index)) (walked_truly p f root (low_bits depth index))) (refl, tt))
    (refl, tt)

empty_truly : (f : Forest Entry) (m : Result ℕ Reason) → TellsTruly f m → TellsTruly f (ensure_empty f m)
empty_truly f (Ok slot) so = tells_cond f (is_null (cap_at f slot)) _ _ tt (refl, tt)
empty_truly f (Err reason) so = so

null_is : (cap : Cap) → is_null cap ≡ true → Null ≡ cap
null_is Null h = refl
null_is (Untyped base bits free) h = absurd cc
null_is (Endpoint base badge rights) h = absurd cc
null_is (CNode base radix guard) h = absurd cc
null_is (Tcb base) h = absurd cc

full_cases : (f : Forest Entry) (slot : ℕ) (t : Bool) → is_null (cap_at f slot) ≡ t → TellsTruly f (cond t (Err (IsEmpty slot)) (Ok slot))
full_cases f slot true h = (null_is (cap_at f slot) h, tt)
full_cases f slot false h = tt

full_truly : (f : Forest Entry) (m : Result ℕ Reason) → TellsTruly f m → TellsTruly f (ensure_full f m)
full_truly f (Ok slot) so = full_cases f slot (is_null (cap_at f slot)) refl
full_truly f (Err reason) so = so

kind_truly : {Y : Type 0} (f : Forest Entry) (t u : Bool) (k : Kind) (slot : ℕ) (next : Cap → Result Y Reason) → is_null (cap_at f slot) ≡ t → TellsTruly f (next (cap_at f slot)) →
    TellsTruly f (cond t (Err (NoCapability slot k)) (cond u (Ok (cap_at f slot)) (Err (OtherKind (held_at (cap_at f) slot) k))) >>= next)
kind_truly f true u k slot next h so = (null_is (cap_at f slot) h, tt)
kind_truly f false true k slot next h so = so
kind_truly f false false k slot next h so = (refl, tt)

service_truly : (f : Forest Entry) (needed : Right) (slot : ℕ) (cap : Cap) → cap ≡ cap_at f slot → TellsTruly f (service_in needed slot cap)
service_truly f needed slot Null h = (h, tt)
service_truly f needed slot (Untyped base bits free) h = (h, tt)
service_truly f needed slot (Endpoint base badge rights) h =
    tells_cond f (has_right (right_bit needed) rights) (Ok (record { endpoint = base; badge = badge }))
    (Err (NoRight (record { slot = slot; cap = Endpoint base badge rights }) needed)) tt (h, tt)
service_truly f needed slot (CNode base radix guard) h = (h, tt)
service_truly f needed slot (Tcb base) h = (h, tt)

no_data_truly : (p : ProfileName) (f : Forest Entry) (of : Word) (word slot : ℕ) (cap : Cap) → cap ≡ cap_at f slot → AreThere f (told_by (no_data p of word slot cap))
no_data_truly p f of word slot Null h = (h, tt)
no_data_truly p f of word slot (Untyped base bits free) h = (h, tt)
no_data_truly p f of word slot (Endpoint base badge rights) h = (h, tt)
no_data_truly p f of word slot (CNode base radix guard) h = (h, tt)
no_data_truly p f of word slot (Tcb base) h = (h, tt)

set_truly : (f : Forest Entry) (reason : Reason) (o : Option Cap) → AreThere f (told_by reason) → TellsTruly f (ensure_set reason o)
set_truly f reason None so = so
set_truly f reason (Some cap) so = tt

childless_truly : (f : Forest Entry) (source : ℕ) (cap : Cap) (o : Option ℕ) → TellsTruly f (ensure_childless (held_at (cap_at f) source) cap o)
childless_truly f source cap None = tt
childless_truly f source cap (Some child) = (refl, tt)

derivable_truly : (f : Forest Entry) (source : ℕ) (cap : Cap) → TellsTruly f (ensure_derivable f source cap)
derivable_truly f source cap = tells_cond f (is_untyped cap) _ _ (childless_truly f source cap (first_child source f)) tt

changed_truly : (p : ProfileName) (f : Forest Entry) (source : ℕ) (change : Change) (cap : Cap) → cap ≡ cap_at f source → TellsTruly f (changed_cap p f source change cap)
changed_truly p f source (Copy rights) cap h = derivable_truly f source (masked rights cap)
changed_truly p f source (Mint rights word) cap h =
    tells_then f (ensure_set (no_data p SourceIndex word source cap) (with_data p false word (masked rights cap))) (ensure_derivable f source)
    (set_truly f (no_data p SourceIndex word source cap) (with_data p false word (masked rights cap)) (no_data_truly p f SourceIndex word source cap h)) (derivable_truly f source)
changed_truly p f source Move cap h = tt
changed_truly p f source (Mutate word) cap h = set_truly f (no_data p SourceIndex word source cap) (with_data p true word cap) (no_data_truly p f SourceIndex word source cap h)

placement_truly : (p : ProfileName) (f : Forest Entry) (thread at : ℕ) (asked : SlotArguments) (change : Change) → TellsTruly f (checked_placement p f thread at asked change)
placement_truly p f thread at asked change =
    kind_truly f (is_null (cap_at f at)) (is_of_kind kind.CNode (cap_at f at)) kind.CNode at _ refl
    (tells_then f (slot_by_word p f SourceRoot thread asked.src_root) _ (slot_by_word_truly p f SourceRoot thread asked.src_root) (λ root.
    tells_then f (ensure_empty f (slot_by_index p (cap_at f) Index at asked.index asked.depth)) _
    (empty_truly f (slot_by_index p (cap_at f) Index at asked.index asked.depth) (slot_by_index_truly p f Index at asked.index asked.depth)) (λ slot.
    tells_then f (ensure_full f (slot_by_index p (cap_at f) SourceIndex root asked.src_index asked.src_depth)) _
    (full_truly f (slot_by_index p (cap_at f) SourceIndex root asked.src_index asked.src_depth) (slot_by_index_truly p f SourceIndex root asked.src_index asked.src_depth)) (λ source.
    tells_then f (changed_cap p f source change (cap_at f source)) _ (changed_truly p f source change (cap_at f source) refl) (λ cap. tt)))))

slot_truly : (p : ProfileName) (f : Forest Entry) (at index depth : ℕ) → TellsTruly f (checked_slot p f at index depth)
slot_truly p f at index depth =
    kind_truly f (is_null (cap_at f at)) (is_of_kind kind.CNode (cap_at f at)) kind.CNode at _ refl (slot_by_index_truly p f Index at index depth)

rights_truly : (f : Forest Entry) (slot : ℕ) (cap : Cap) → cap ≡ cap_at f slot → TellsTruly f (ensure_all_rights slot cap)
rights_truly f slot Null h = (h, tt)
rights_truly f slot (Untyped base bits free) h = (h, tt)
rights_truly f slot (Endpoint base badge rights) h = tells_cond f (rights.0 == all_rights.0) _ _ tt (h, tt)
rights_truly f slot (CNode base radix guard) h = (h, tt)
rights_truly f slot (Tcb base) h = (h, tt)

badge_truly : (p : ProfileName) (f : Forest Entry) (at index depth : ℕ) → TellsTruly f (checked_badge p f at index depth)
badge_truly p f at index depth =
    tells_then f (checked_slot p f at index depth) _ (slot_truly p f at index depth) (λ slot. rights_truly f slot (cap_at f slot) refl)

tcb_truly : (f : Forest Entry) (slot : ℕ) (cap : Cap) → cap ≡ cap_at f slot → TellsTruly f (checked_tcb slot cap)
tcb_truly f slot Null h = (h, tt)
tcb_truly f slot (Untyped base bits free) h = (h, tt)
tcb_truly f slot (Endpoint base badge rights) h = (h, tt)
tcb_truly f slot (CNode base radix guard) h = (h, tt)
tcb_truly f slot (Tcb base) h = tt

space_truly : (p : ProfileName) (f : Forest Entry) (thread slot root word : ℕ) → TellsTruly f (checked_space p f thread slot root word)
space_truly p f thread slot root word =
    tells_then f (checked_tcb slot (cap_at f slot)) _ (tcb_truly f slot (cap_at f slot) refl) (λ tcb.
    tells_then f (slot_by_word p f Root thread root) _ (slot_by_word_truly p f Root thread root) (λ source.
    tells_then f (space_cap p word source (cap_at f source)) _
    (tells_cond f (is_cnode (cap_at f source)) _ _
    (tells_cond f (word == 0) _ _ tt (set_truly f (no_data p Root word source (cap_at f source)) (with_data p false word (cap_at f source)) (no_data_truly p f Root word source (cap_at f source) refl)))
    (refl, tt)) (λ cap. tt)))

shape_truly : (p : ProfileName) (f : Forest Entry) (size_bits : ℕ) (o : Option Kind) → AreThere f (told_by (no_shape p size_bits o))
shape_truly p f size_bits None = tt
shape_truly p f size_bits (Some k) =
    sizes (nat_lt size_bits (word_bits p)) (nat_le (size_of p k size_bits) (max_object_bits p))
  where
    sizes : (word most : Bool) → AreThere f (told_by (cond word (cond most (TooSmall k (least_of p k)) (TooLarge k (size_of p k size_bits) (max_object_bits p))) (NoSize (word_bits p))))
    sizes true true = tt
    sizes true false = tt
    sizes false most = tt

because_truly : {X : Type 0} (f : Forest Entry) (reason : Reason) (m : Result X Refusal) → AreThere f (told_by reason) → TellsTruly f (because reason m)
because_truly f reason (Ok x) h = tt
because_truly f reason (Err r) h = h

none_full_truly : (p : ProfileName) (f : Forest Entry) (word : Word) (node : Held) (offset first : ℕ) (o : Option ℕ) → IsThere f node →
    TellsTruly f (ensure_none_full p f word node offset first o)
none_full_truly p f word node offset first None h = tt
none_full_truly p f word node offset first (Some i) h = (h, (refl, tt))

first_truly : (p : ProfileName) (f : Forest Entry) (word : Word) (offset count slot : ℕ) (cap : Cap) → cap ≡ cap_at f slot → TellsTruly f (first_slot p f word offset count slot cap)
first_truly p f word offset count slot Null h = (h, tt)
first_truly p f word offset count slot (Untyped base bits free) h = (h, tt)
first_truly p f word offset count slot (Endpoint base badge rights) h = (h, tt)
first_truly p f word offset count slot (CNode base radix guard) h =
    tells_then f (within_node word (record { slot = slot; cap = CNode base radix guard }) radix offset count (slot_of p base offset))
    (λ first. ensure_none_full p f word (record { slot = slot; cap = CNode base radix guard }) offset first (first_full p f first count))
    (tells_cond f (nat_lt offset (2 ^ radix)) _ _
    (tells_cond f (nat_le 1 count && nat_le count max_retype_count) _ _ (tells_cond f (nat_le count (2 ^ radix - offset)) _ _ tt (h, tt)) tt) (h, tt))
    (λ first. none_full_truly p f word (record { slot = slot; cap = CNode base radix guard }) offset first (first_full p f first count) h)
first_truly p f word offset count slot (Tcb base) h = (h, tt)

room_truly : (f : Forest Entry) (slot : ℕ) (t : Bool) (b : ℕ) (cap : Cap) → cap ≡ cap_at f slot → AreThere f (told_by (no_room slot t b cap))
room_truly f slot t b Null h = (h, tt)
room_truly f slot t b (Untyped base bits free) h = (h, tt)
room_truly f slot t b (Endpoint base badge rights) h = (h, tt)
room_truly f slot t b (CNode base radix guard) h = (h, tt)
room_truly f slot t b (Tcb base) h = (h, tt)

objects_truly : (p : ProfileName) (f : Forest Entry) (at root : ℕ) (shape : Shape) (asked : RetypeArguments) → TellsTruly f (checked_objects p f at (cap_at f at) root shape asked)
objects_truly p f at root shape asked =
    tells_then f (node_slot p f root asked.index asked.depth) _
    (tells_cond f (asked.depth == 0) _ _ tt (slot_by_index_truly p f Index root asked.index asked.depth)) (λ node.
    tells_then f (first_slot p f (node_word asked.depth) asked.offset asked.count node (cap_at f node)) _ (first_truly p f (node_word asked.depth) asked.offset asked.count node (cap_at f node) refl) (λ first.
    tells_then f (because (no_room at (has_child at f) shape.bits (cap_at f at)) (placed_in (has_child at f) shape.bits asked.count (cap_at f at))) _
    (because_truly f (no_room at (has_child at f) shape.bits (cap_at f at)) (placed_in (has_child at f) shape.bits asked.count (cap_at f at))
    (room_truly f at (has_child at f) shape.bits (cap_at f at) refl)) (λ placed. tt)))

retype_truly : (p : ProfileName) (f : Forest Entry) (thread at : ℕ) (asked : RetypeArguments) → TellsTruly f (checked_retype p f thread at asked)
retype_truly p f thread at asked =
    kind_truly f (is_null (cap_at f at)) (is_of_kind kind.Untyped (cap_at f at)) kind.Untyped at _ refl
    (tells_then f (slot_by_word p f Root thread asked.root) _ (slot_by_word_truly p f Root thread asked.root) (λ root.
    tells_then f (checked_shape p asked.kind asked.size_bits) _
    (because_truly f (no_shape p asked.size_bits (kind_numbered asked.kind)) (shape_of p asked.kind asked.size_bits) (shape_truly p f asked.size_bits (kind_numbered asked.kind))) (λ shape.
    objects_truly p f at root shape asked)))

invoking_truly : {X : Type 0} (f : Forest Entry) (k : X → Invocation) (m : Result X Reason) → TellsTruly f m → TellsTruly f (invoking k m)
invoking_truly f k m so = tells_then f m (λ x. Ok (k x)) so (λ x. tt)

invocation_truly : (p : ProfileName) (f : Forest Entry) (thread : ℕ) (o : Op) (slot : ℕ) → TellsTruly f (checked_invocation p f thread o slot)
invocation_truly p f thread (op.Retype cap k size_bits root index depth offset count) slot =
    invoking_truly f invocation.Retype (checked_retype p f thread slot (objects_asked k size_bits root index depth offset count)) (retype_truly p f thread slot (objects_asked k size_bits root index depth offset count))
invocation_truly p f thread o slot = search (invoking_truly, tells_then, placement_truly, slot_truly, badge_truly, service_truly, space_truly, tcb_truly)

-- each slot that a reason names holds what it tells
pub op_truly : (p : ProfileName) (f : Forest Entry) (thread : ℕ) (o : Op) → TellsTruly f (checked_op p f thread o)
op_truly p f thread o =
    tells_then f (slot_by_word p f Invoked thread (service_word o)) (checked_invocation p f thread o) (slot_by_word_truly p f Invoked thread (service_word o)) (invocation_truly p f thread o)
