-- Parts whose threads can only pass messages, told anew: each CNode with the threads that have it as their space is a part.
use Rattle.std.proofs.Common.{◌≡◌, ◌≢◌, ◌⊎◌, inl, inr, ℕ, zero, suc, ◌+◌, ◌*◌, ◌/◌, ◌%◌, ◌^◌, ◌<◌, ◌≤◌, refl, sym, ap, subst, ◌∙◌, arith, eqb, Bool, true, false, cond, not, ◌==◌, ◌&&◌, ◌||◌, nat_le, nat_lt, List, [], ◌∷◌, map, filter, Option, Some, None, eq-eqb}
use Rattle.std.specs.Prelude.{find, option_map}
use Rattle.std.specs.List.{Contains, IsDistinct, list_any}
use Rattle.std.proofs.Math.Nat.{suc-mul}
use Rattle.std.proofs.lemmas.Bool.{false≢true, eqb-true}
use Rattle.std.proofs.lemmas.Bool.Decides.{nat_tests}
use Rattle.std.proofs.lemmas.Nat.{pow_pos}
use Rattle.cap_core.specs.declared.profile.ProfileName.{ProfileName}
use Rattle.cap_core.specs.declared.capability.Badge.{Badge}
use Rattle.cap_core.specs.declared.capability.Cap.{Cap}
use Rattle.cap_core.specs.declared.capability.Cap.TheVariants.{Null, Untyped, Endpoint, CNode, Tcb}
use Rattle.cap_core.specs.declared.capability.Guard.{Guard}
use Rattle.cap_core.specs.declared.rights.Rights.{Rights}
use Rattle.cap_core.specs.Numbers.{slot_bits, slot_size, tcb_bits, endpoint_bits}
use Rattle.cap_core.specs.Objects.{is_null, is_untyped, same_object, are_apart, contains, base_of, end_of}
use Rattle.cap_core.specs.Ranges.{IsAddressOf}
use Rattle.kernel_forest.specs.Forest.{Forest, preorder}
use Rattle.kernel_forest.specs.Entries.{Entry, cap_at, slots}
use Rattle.kernel_forest.specs.Disjoint.{IsDisjoint, are_disjoint}
use Rattle.kernel_forest.specs.Slots.{addresses, slots_of}
use Rattle.kernel_forest.proofs.Slots.Edits.{entry_at}
use Rattle.kernel_forest.proofs.Slots.Holding.{cap-entry}
use Rattle.kernel_delete.specs.Housed.{is_housed, IsHoused}
use Rattle.kernel_delete.specs.Members.{In}
use Rattle.kernel_delete.proofs.Members.{both_true, either_true, true_left, true_right, any_in, any_of, each_in, in_filter, filter_in}
use Rattle.kernel_delete.proofs.Clearable.{in_contains, contains_in}
use Rattle.kernel_delete.proofs.Ranges.{slot_in_range}
use Rattle.cspace_core.specs.Inside.{IsSlotOf}
use Rattle.kernel_abstract.specs.Shown.{endpoint_base}
use Rattle.kernel_abstract.proofs.Checks.FoundSlots.{full_at}
use Rattle.query_parts.specs.Parts.{Use, Parts, IsOwned, AreAmong, IsCovered, IsWithin, IsClosed}
use Rattle.query_parts.specs.Passing.{IsForMessages}
use Rattle.query_parts.specs.Least.{LiesIn}
use Rattle.query_parts.proofs.Lists.{in_mapped, from_mapped, and_true}

-- ---- lists

pub found : {X : Type 0} (q : X → Bool) (l : List X) (a : X) → find q l ≡ Some a → In a l × (q a ≡ true)
found q [] a h = cc
found q (x ∷ l) a h = found_at q x l a (found q l a) (q x) refl h
  where
    found_at : {X : Type 0} (q : X → Bool) (x : X) (l : List X) (a : X) → (find q l ≡ Some a → In a l × (q a ≡ true)) → (b : Bool) → q x ≡ b →
        cond b (Some x) (find q l) ≡ Some a → In a (x ∷ l) × (q a ≡ true)
    found_at q x l a on true is e = (let same : x ≡ a = cc in (inl (sym same), ap q (sym same) ∙ is))
    found_at q x l a on false is e = (inr (on e).0, (on e).1)

finds : {X : Type 0} (q : X → Bool) (l : List X) (a : X) → In a l → q a ≡ true → (b : X) × (find q l ≡ Some b)
finds q [] a i h = absurd i
finds q (x ∷ l) a i h = finds_at q x l a i h (λ j. finds q l a j h) (q x) refl
  where
    rest : {X : Type 0} (q : X → Bool) (x : X) (l : List X) (a : X) → In a (x ∷ l) → q a ≡ true → q x ≡ false → In a l
    rest q x l a (inl same) h none = absurd (false≢true (sym none ∙ (ap q (sym same) ∙ h)))
    rest q x l a (inr more) h none = more

    finds_at : {X : Type 0} (q : X → Bool) (x : X) (l : List X) (a : X) → In a (x ∷ l) → q a ≡ true → (In a l → (y : X) × (find q l ≡ Some y)) →
        (b : Bool) → q x ≡ b → (y : X) × (cond b (Some x) (find q l) ≡ Some y)
    finds_at q x l a i h on true is = (x, refl)
    finds_at q x l a i h on false is = on (rest q x l a i h is)

in_numbered : (size first count n : ℕ) → In n (addresses size first count) → (i : ℕ) × ((i < count) × (n ≡ first + i * size))
in_numbered size first zero n i = absurd i
in_numbered size first (suc count) n (inl here) = (0, (omega arith, omega (arith, here)))
in_numbered size first (suc count) n (inr more) =
    let k = in_numbered size (first + size) count n more in
    let e : suc k.0 * size ≡ k.0 * size + size = suc-mul k.0 size in
    (suc k.0, (omega (arith, k.1.0), omega (arith, k.1.1, e)))

-- a slot of a CNode, as a number of its
slot_of_node : (p : ProfileName) (base radix : ℕ) (guard : Guard) (n : ℕ) → In n (slots_of p (CNode base radix guard)) → IsSlotOf p (CNode base radix guard) n
unfolding slots_of
slot_of_node p base radix guard n i = in_numbered (slot_size p) base (2 ^ radix) n i

-- ---- objects that have an address in common are one

-- a full slot holds a capability
abbrev pub Held : Forest Entry → Cap → Type 0
Held f cap = (e : Entry) × (Contains (preorder f) e × (e.cap ≡ cap))

pub held_at : (f : Forest Entry) (slot : ℕ) → is_null (cap_at f slot) ≡ false → Held f (cap_at f slot)
held_at f slot full =
    let e : (e : Entry) × Contains (preorder f) e × (e.slot ≡ slot) × (e.cap ≡ cap_at f slot) = entry_at slot f (full_at f slot full) in
    (e.0, (e.1, e.3))

one_of : (x s u v c d : Bool) → x || (s || ((u && c) || (v && d))) ≡ true → u ≡ false → v ≡ false → x ≡ false → s ≡ true
one_of x s u v c d h e f g = grind arith

module _ (p : ProfileName) (f : Forest Entry) (disjoint : IsDisjoint p f) where
  meet : (a b : Cap) → Held f a → Held f b → is_untyped a ≡ false → is_untyped b ≡ false → (x : ℕ) → IsAddressOf p a x → IsAddressOf p b x → same_object a b ≡ true
  meet a b ha hb ua ub x xa xb =
      let d : are_disjoint p ha.0.cap hb.0.cap ≡ true = disjoint.objects ha.0 hb.0 ha.1.0 hb.1.0 in
      let d' : are_disjoint p a b ≡ true = subst (λ (c : Cap). are_disjoint p c b ≡ true) ha.1.1 (subst (λ (c : Cap). are_disjoint p ha.0.cap c ≡ true) hb.1.1 d) in
      let low = xa.0 in let high = xa.1 in let low' = xb.0 in let high' = xb.1 in
      let first : nat_le (end_of p a) (base_of b) ≡ false = grind (arith, nat_tests, high, low') in
      let second : nat_le (end_of p b) (base_of a) ≡ false = grind (arith, nat_tests, high', low) in
      let none : are_apart p a b ≡ false = rw (first, second) refl in
      one_of (are_apart p a b) (same_object a b) (is_untyped a) (is_untyped b) (contains p a b) (contains p b a) d' ua ub none

  tcb_once : (t u : ℕ) → Held f (Tcb t) → Held f (Tcb u) → (x : ℕ) → IsAddressOf p (Tcb t) x → IsAddressOf p (Tcb u) x → t ≡ u
  tcb_once t u ht hu x xt xu = eqb-true t u (meet (Tcb t) (Tcb u) ht hu refl refl x xt xu)

  no_node : (t base radix : ℕ) (guard : Guard) → Held f (Tcb t) → Held f (CNode base radix guard) → (x : ℕ) → IsAddressOf p (Tcb t) x → IsAddressOf p (CNode base radix guard) x → ⊥
  no_node t base radix guard ht hn x xt xn = false≢true (meet (Tcb t) (CNode base radix guard) ht hn refl refl x xt xn)

  node_once : (base radix : ℕ) (guard : Guard) (base' radix' : ℕ) (guard' : Guard) → Held f (CNode base radix guard) → Held f (CNode base' radix' guard') → (x : ℕ) →
      IsAddressOf p (CNode base radix guard) x → IsAddressOf p (CNode base' radix' guard') x → (base ≡ base') × (radix ≡ radix')
  node_once base radix guard base' radix' guard' h h' x at at' =
      let both = both_true (base == base') (radix == radix') (meet (CNode base radix guard) (CNode base' radix' guard') h h' refl refl x at at') in
      (eqb-true base base' both.0, eqb-true radix radix' both.1)

  -- a full slot within a control block is the root slot, and one within a CNode is one of its slots
  housed_slot : IsHoused p f → (slot : ℕ) → is_null (cap_at f slot) ≡ false → (c : Cap) × (Held f c × In slot (slots_of p c))
  housed_slot housed slot full =
      let e : (e : Entry) × Contains (preorder f) e × (e.slot ≡ slot) × (e.cap ≡ cap_at f slot) = entry_at slot f (full_at f slot full) in
      let is : is_housed p f slot ≡ true = subst (λ n. is_housed p f n ≡ true) e.2 (each_in (λ (a : Entry). is_housed p f a.slot ≡ true) (preorder f) e.0 housed (contains_in (preorder f) e.0 e.1)) in
      let a = any_of (λ (a : Entry). list_any (λ m. m == slot) (slots_of p a.cap)) (preorder f) is in
      let m = any_of (λ m. m == slot) (slots_of p a.0.cap) a.1.1 in
      (a.0.cap, ((a.0, (in_contains (preorder f) a.0 a.1.0, refl)), subst (λ n. In n (slots_of p a.0.cap)) (eqb-true m.0 slot m.1.1) m.1.0))

  root_alone : (c : Cap) (t slot : ℕ) → Held f c → In slot (slots_of p c) → Held f (Tcb t) → IsAddressOf p (Tcb t) slot → slot ≡ t
  unfolding slots_of
  root_alone Null t slot h i ht at = absurd i
  root_alone (Untyped base bits free) t slot h i ht at = absurd i
  root_alone (Endpoint base badge rights) t slot h i ht at = absurd i
  root_alone (CNode base radix guard) t slot h i ht at = absurd (no_node t base radix guard ht h slot at (slot_in_range p (CNode base radix guard) slot i))
  root_alone (Tcb u) t slot h (inl is) ht at = is ∙ tcb_once u t h ht slot (slot_in_range p (Tcb u) slot (inl is)) at
  root_alone (Tcb u) t slot h (inr more) ht at = absurd more

  node_alone : (c : Cap) (base radix : ℕ) (guard : Guard) (slot : ℕ) → Held f c → In slot (slots_of p c) → Held f (CNode base radix guard) → IsAddressOf p (CNode base radix guard) slot →
      IsSlotOf p (CNode base radix guard) slot
  unfolding slots_of
  node_alone Null base radix guard slot h i hn at = absurd i
  node_alone (Untyped b bits free) base radix guard slot h i hn at = absurd i
  node_alone (Endpoint b badge rights) base radix guard slot h i hn at = absurd i
  node_alone (CNode b r g) base radix guard slot h i hn at =
      let same = node_once b r g base radix guard h hn slot (slot_in_range p (CNode b r g) slot i) at in
      let own : IsSlotOf p (CNode b r g) slot = slot_of_node p b r g slot i in
      subst (λ k. IsSlotOf p (CNode base k guard) slot) same.1 (subst (λ k. IsSlotOf p (CNode k r guard) slot) same.0 own)
  node_alone (Tcb u) base radix guard slot h i hn at = absurd (no_node u base radix guard h hn slot (slot_in_range p (Tcb u) slot i) at)

-- ---- the parts anew

lies : ProfileName → Cap → ℕ → Bool
lies p cap x = nat_le (base_of cap) x && nat_lt x (end_of p cap)

lies_at : (p : ProfileName) (cap : Cap) (x : ℕ) → lies p cap x ≡ true → IsAddressOf p cap x
unfolding lies
lies_at p cap x h =
    let both = both_true (nat_le (base_of cap) x) (nat_lt x (end_of p cap)) h in
    let low = both.0 in let high = both.1 in
    (grind (arith, nat_tests, low), grind (arith, nat_tests, high))

at_lies : (p : ProfileName) (cap : Cap) (x : ℕ) → IsAddressOf p cap x → lies p cap x ≡ true
unfolding lies
at_lies p cap x at =
    let low = at.0 in let high = at.1 in
    let first : nat_le (base_of cap) x ≡ true = grind (arith, nat_tests, low) in
    let second : nat_lt x (end_of p cap) ≡ true = grind (arith, nat_tests, high) in
    and_true _ _ first second

-- a live thread of a still part
pub record IsMember (p : ProfileName) (f : Forest Entry) (parts : Parts) (still : ℕ → Bool) (thread : ℕ) : Type 0 where
  pub part : ℕ
  pub own : parts.part_of thread ≡ Some part
  pub is_still : still part ≡ true
  pub block : IsOwned p parts part (Tcb thread)
  pub held : Held f (Tcb thread)
  pub base : ℕ
  pub radix : ℕ
  pub guard : Guard
  pub root : cap_at f thread ≡ CNode base radix guard
  pub passes : (slot : ℕ) → IsSlotOf p (CNode base radix guard) slot → IsForMessages (cap_at f slot)

use_by : Cap → Use
use_by (Endpoint base badge rights) = record { endpoint = base; badge = badge; rights = rights }
use_by cap = record { endpoint = 0; badge = record { 0 = 0 }; rights = record { 0 = 0 } }

is_endpoint : Cap → Bool
is_endpoint (Endpoint base badge rights) = true
is_endpoint cap = false

pub is_number : ℕ → Option ℕ → Bool
is_number n None = false
is_number n (Some m) = m == n

pub number_is : (n : ℕ) (o : Option ℕ) → is_number n o ≡ true → o ≡ Some n
unfolding is_number
number_is n None h = absurd (false≢true h)
number_is n (Some m) h = ap (λ k. Some k) (eqb-true m n h)

pub is_number_of : (n : ℕ) (o : Option ℕ) → o ≡ Some n → is_number n o ≡ true
unfolding is_number
is_number_of n o h = ap (is_number n) h ∙ eq-eqb n n refl

-- an endpoint is named by the capability in some slot
names : ℕ → Entry → Bool
names e x = is_number e (endpoint_base x.cap)

pub endpoint_named : (cap : Cap) (e : ℕ) → endpoint_base cap ≡ Some e → (badge : Badge) × ((rights : Rights) × (cap ≡ Endpoint e badge rights))
endpoint_named Null e h = cc
endpoint_named (Untyped base bits free) e h = cc
endpoint_named (Endpoint base badge rights) e h = (let same : base ≡ e = cc in (badge, (rights, ap (λ k. Endpoint k badge rights) same)))
endpoint_named (CNode base radix guard) e h = cc
endpoint_named (Tcb base) e h = cc

pub is_live : Forest Entry → ℕ → Bool
is_live f e = list_any (names e) (preorder f)

pub live_held : (f : Forest Entry) (e : ℕ) → is_live f e ≡ true → (badge : Badge) × ((rights : Rights) × Held f (Endpoint e badge rights))
unfolding is_live names
live_held f e h =
    let x = any_of (names e) (preorder f) h in
    let c = endpoint_named x.0.cap e (number_is e (endpoint_base x.0.cap) x.1.1) in
    (c.0, (c.1.0, (x.0, (in_contains (preorder f) x.0 x.1.0, c.1.1))))

pub held_live : (f : Forest Entry) (e : ℕ) (badge : Badge) (rights : Rights) → Held f (Endpoint e badge rights) → is_live f e ≡ true
unfolding is_live names
held_live f e badge rights h =
    any_in (names e) (preorder f) h.0 (contains_in (preorder f) h.0 h.1.0) (is_number_of e (endpoint_base h.0.cap) (ap endpoint_base h.1.1))

no_endpoint : (base radix : ℕ) (guard : Guard) (e : ℕ) (badge : Badge) (rights : Rights) → CNode base radix guard ≡ Endpoint e badge rights → ⊥
no_endpoint base radix guard e badge rights h = cc

-- closed parts of a store, and live threads of still ones among them
pub record Standing (p : ProfileName) (f : Forest Entry) (parts : Parts) : Type 0 where
  pub distinct : IsDistinct eqb (slots f)
  pub disjoint : IsDisjoint p f
  pub housed : IsHoused p f
  pub closed : (k : ℕ) → IsClosed p parts k f
  pub still : ℕ → Bool
  pub threads : List ℕ
  pub member : (t : ℕ) → In t threads → IsMember p f parts still t

module _ (p : ProfileName) (f : Forest Entry) (parts : Parts) (s : Standing p f parts) where
  abbrev distinct : IsDistinct eqb (slots f)
  distinct = s.distinct

  abbrev disjoint : IsDisjoint p f
  disjoint = s.disjoint

  abbrev housed : IsHoused p f
  housed = s.housed

  abbrev closed : (k : ℕ) → IsClosed p parts k f
  closed = s.closed

  abbrev still : ℕ → Bool
  still = s.still

  abbrev threads : List ℕ
  threads = s.threads

  abbrev member : (t : ℕ) → In t threads → IsMember p f parts still t
  member = s.member

  -- an address lies in the control block of a thread, or in its CNode
  has : ℕ → ℕ → Bool
  has x t = lies p (Tcb t) x || lies p (cap_at f t) x

  node_of : (t : ℕ) → ℕ
  node_of t = base_of (cap_at f t)

  group : ℕ → Option ℕ
  group x = option_map node_of (find (has x) threads)

  numbered : Option ℕ → Option ℕ → Option ℕ
  numbered None g = None
  numbered (Some k) g = cond (still k) (option_map (λ b. 2 * b) g) (Some (2 * k + 1))

  pub split_of : ℕ → Option ℕ
  split_of x = numbered (parts.part_of x) (group x)

  held : ℕ → List Use
  held n = map (λ (x : Entry). use_by x.cap) (filter (λ (x : Entry). is_number n (split_of x.slot) && is_endpoint x.cap) (preorder f))

  is_use_live : Use → Bool
  is_use_live u = is_live f u.endpoint

  pub split : Parts
  split = record { part_of = split_of; uses = λ n. cond (n % 2 == 0) (held n) (filter is_use_live (parts.uses (n / 2))) }

  -- ---- which number an address has

  node_held : (t : ℕ) (m : IsMember p f parts still t) → Held f (CNode m.base m.radix m.guard)
  node_held t m = subst (Held f) m.root (held_at f t (ap is_null m.root))

  node_is : (t : ℕ) (m : IsMember p f parts still t) → node_of t ≡ m.base
  unfolding node_of
  node_is t m = ap base_of m.root

  -- what a thread has
  HasIt : (t : ℕ) → IsMember p f parts still t → ℕ → Type 0
  HasIt t m x = IsAddressOf p (Tcb t) x ⊎ IsAddressOf p (CNode m.base m.radix m.guard) x

  has_it : (t x : ℕ) (m : IsMember p f parts still t) → has x t ≡ true → HasIt t m x
  unfolding has HasIt
  has_it t x m h = elim (either_true (lies p (Tcb t) x) (lies p (cap_at f t) x) h) [
    | inl block ↦ inl (lies_at p (Tcb t) x block)
    | inr node ↦ inr (lies_at p (CNode m.base m.radix m.guard) x (sym (ap (λ (c : Cap). lies p c x) m.root) ∙ node))
  ]

  it_has : (t x : ℕ) (m : IsMember p f parts still t) → HasIt t m x → has x t ≡ true
  unfolding has HasIt
  it_has t x m (inl block) = true_left _ _ (at_lies p (Tcb t) x block)
  it_has t x m (inr node) = true_right _ _ (ap (λ (c : Cap). lies p c x) m.root ∙ at_lies p (CNode m.base m.radix m.guard) x node)

  same_node : (t u x : ℕ) (m : IsMember p f parts still t) (k : IsMember p f parts still u) → HasIt t m x → HasIt u k x → m.base ≡ k.base
  unfolding HasIt
  same_node t u x m k (inl a) (inl b) =
      let same : t ≡ u = tcb_once p f disjoint t u m.held k.held x a b in
      let both : CNode m.base m.radix m.guard ≡ CNode k.base k.radix k.guard = sym m.root ∙ (ap (cap_at f) same ∙ k.root) in
      ap base_of both
  same_node t u x m k (inl a) (inr b) = absurd (no_node p f disjoint t k.base k.radix k.guard m.held (node_held u k) x a b)
  same_node t u x m k (inr a) (inl b) = absurd (no_node p f disjoint u m.base m.radix m.guard k.held (node_held t m) x b a)
  same_node t u x m k (inr a) (inr b) = (node_once p f disjoint m.base m.radix m.guard k.base k.radix k.guard (node_held t m) (node_held u k) x a b).0

  group_is : (t x : ℕ) (i : In t threads) → HasIt t (member t i) x → group x ≡ Some ((member t i).base)
  unfolding group
  group_is t x i h =
      let u = finds (has x) threads t i (it_has t x (member t i) h) in
      let v = found (has x) threads u.0 u.1 in
      let same = same_node u.0 t x (member u.0 v.0) (member t i) (has_it u.0 x (member u.0 v.0) v.1) h in
      ap (option_map node_of) u.1 ∙ ap (λ k. Some k) (node_is u.0 (member u.0 v.0) ∙ same)

  -- a thread of a group has the address
  record IsGrouped (x b : ℕ) : Type 0 where
    thread : ℕ
    listed : In thread threads
    has_address : HasIt thread (member thread listed) x
    base : (member thread listed).base ≡ b

  grouped : (x b : ℕ) → group x ≡ Some b → IsGrouped x b
  unfolding group
  grouped x b h = at (find (has x) threads) refl h
    where
      at : (o : Option ℕ) → find (has x) threads ≡ o → option_map node_of o ≡ Some b → IsGrouped x b
      at None is e = cc
      at (Some t) is e =
          let v = found (has x) threads t is in
          let same : node_of t ≡ b = cc in
          record { thread = t; listed = v.0; has_address = has_it t x (member t v.0) v.1; base = sym (node_is t (member t v.0)) ∙ same }

  -- a number of a group is even, and one of another part odd
  even_grouped : (x b : ℕ) → split_of x ≡ Some (2 * b) → IsGrouped x b
  unfolding split_of numbered
  even_grouped x b h = at (parts.part_of x) h
    where
      halved : (g : Option ℕ) → option_map (λ k. 2 * k) g ≡ Some (2 * b) → g ≡ Some b
      halved None e = cc
      halved (Some k) e = (let twice : 2 * k ≡ 2 * b = cc in ap (λ n. Some n) (omega (arith, twice)))

      by : (s : Bool) (k : ℕ) → cond s (option_map (λ n. 2 * n) (group x)) (Some (2 * k + 1)) ≡ Some (2 * b) → IsGrouped x b
      by true k e = grouped x b (halved (group x) e)
      by false k e = (let odd : 2 * k + 1 ≡ 2 * b = cc in absurd (omega (arith, odd)))

      at : (o : Option ℕ) → numbered o (group x) ≡ Some (2 * b) → IsGrouped x b
      at None e = cc
      at (Some k) e = by (still k) k e

  group_number : (k x b : ℕ) → parts.part_of x ≡ Some k → still k ≡ true → group x ≡ Some b → split_of x ≡ Some (2 * b)
  unfolding split_of numbered
  group_number k x b own is g = ap (λ o. numbered o (group x)) own ∙ (ap (λ s. cond s (option_map (λ n. 2 * n) (group x)) (Some (2 * k + 1))) is ∙ ap (option_map (λ n. 2 * n)) g)

  part_number : (k x : ℕ) → parts.part_of x ≡ Some k → still k ≡ false → split_of x ≡ Some (2 * k + 1)
  unfolding split_of numbered
  part_number k x own other = ap (λ o. numbered o (group x)) own ∙ ap (λ s. cond s (option_map (λ n. 2 * n) (group x)) (Some (2 * k + 1))) other

  -- the control block and the CNode of a thread lie in its group
  node_owned : (t : ℕ) (i : In t threads) → IsOwned p parts (member t i).part (CNode (member t i).base (member t i).radix (member t i).guard)
  node_owned t i = (let m = member t i in subst (IsWithin p parts m.part) m.root (closed m.part t m.own))

  pub block_split : (t : ℕ) (i : In t threads) → IsOwned p split (2 * (member t i).base) (Tcb t)
  unfolding split HasIt
  block_split t i x low high =
      let m = member t i in
      group_number m.part x m.base (m.block x low high) m.is_still (group_is t x i (inl (low, high)))

  node_split : (t : ℕ) (i : In t threads) → IsOwned p split (2 * (member t i).base) (CNode (member t i).base (member t i).radix (member t i).guard)
  unfolding split HasIt
  node_split t i x low high =
      let m = member t i in
      group_number m.part x m.base (node_owned t i x low high) m.is_still (group_is t x i (inr (low, high)))

  -- ---- each of these parts is closed

  even : (b : ℕ) → ((2 * b) % 2 == 0) ≡ true
  even b = eq-eqb ((2 * b) % 2) 0 (omega arith)

  odd : (k : ℕ) → ((2 * k + 1) % 2 == 0) ≡ false
  odd k = (let one : (2 * k + 1) % 2 ≡ 1 = omega arith in ap (λ n. n == 0) one)

  uses_even : (b : ℕ) → split.uses (2 * b) ≡ held (2 * b)
  unfolding split
  uses_even b = ap (λ s. cond s (held (2 * b)) (filter is_use_live (parts.uses ((2 * b) / 2)))) (even b)

  uses_odd : (k : ℕ) → split.uses (2 * k + 1) ≡ filter is_use_live (parts.uses k)
  unfolding split
  uses_odd k =
      let half : (2 * k + 1) / 2 ≡ k = omega arith in
      ap (λ s. cond s (held (2 * k + 1)) (filter is_use_live (parts.uses ((2 * k + 1) / 2)))) (odd k) ∙ ap (λ n. filter is_use_live (parts.uses n)) half

  among_itself : (rights : Rights) → AreAmong rights rights
  among_itself rights right h = h

  -- what a slot of a group holds is among the uses of the group
  held_covered : (slot b base : ℕ) (badge : Badge) (rights : Rights) → split_of slot ≡ Some (2 * b) → cap_at f slot ≡ Endpoint base badge rights →
      IsCovered split (2 * b) base badge rights
  unfolding held is_endpoint use_by
  held_covered slot b base badge rights own is =
      let e : (e : Entry) × Contains (preorder f) e × (e.slot ≡ slot) × (e.cap ≡ cap_at f slot) = entry_at slot f (full_at f slot (ap is_null is)) in
      let cap : e.0.cap ≡ Endpoint base badge rights = e.3 ∙ is in
      let here = is_number_of (2 * b) (split_of e.0.slot) (ap split_of e.2 ∙ own) in
      let passes = and_true (is_number (2 * b) (split_of e.0.slot)) (is_endpoint e.0.cap) here (ap is_endpoint cap) in
      let there = filter_in (λ (x : Entry). is_number (2 * b) (split_of x.slot) && is_endpoint x.cap) (preorder f) e.0 (contains_in (preorder f) e.0 e.1) passes in
      let listed = in_mapped (λ (x : Entry). use_by x.cap) e.0 (filter (λ (x : Entry). is_number (2 * b) (split_of x.slot) && is_endpoint x.cap) (preorder f)) there in
      let u : Use = record { endpoint = base; badge = badge; rights = rights } in
      let same : use_by e.0.cap ≡ u = ap use_by cap in
      let found = subst (λ (w : Use). In w (held (2 * b))) same listed in
      (u, (in_contains (split.uses (2 * b)) u (subst (In u) (sym (uses_even b)) found), record { endpoint_is = refl; badge_fits = inl refl; rights_fit = among_itself rights }))

  -- a full slot of a group is the root slot of a thread of it, or a slot of its CNode
  pub data IsPlaced (slot b : ℕ) : Type 0 where
    root : (t : ℕ) (i : In t threads) → (member t i).base ≡ b → slot ≡ t → IsPlaced slot b
    node : (t : ℕ) (i : In t threads) → (member t i).base ≡ b → IsSlotOf p (CNode (member t i).base (member t i).radix (member t i).guard) slot → IsPlaced slot b

  placed : (slot b : ℕ) → split_of slot ≡ Some (2 * b) → is_null (cap_at f slot) ≡ false → IsPlaced slot b
  unfolding HasIt
  placed slot b own full =
      let g = even_grouped slot b own in
      let m = member g.thread g.listed in
      let c = housed_slot p f disjoint housed slot full in
      elim (g.has_address) [
        | inl block ↦ root g.thread g.listed g.base (root_alone p f disjoint c.0 g.thread slot c.1.0 c.1.1 m.held block)
        | inr at ↦ node g.thread g.listed g.base (node_alone p f disjoint c.0 m.base m.radix m.guard slot c.1.0 c.1.1 (node_held g.thread m) at)
      ]

  even_message : (slot b : ℕ) (cap : Cap) → split_of slot ≡ Some (2 * b) → cap_at f slot ≡ cap → IsForMessages cap → IsWithin p split (2 * b) cap
  even_message slot b Null own is h = tt
  even_message slot b (Endpoint base badge rights) own is h = inr (held_covered slot b base badge rights own is)
  even_message slot b (Untyped base bits free) own is h = absurd h
  even_message slot b (CNode base radix guard) own is h = absurd h
  even_message slot b (Tcb base) own is h = absurd h

  even_within : (slot b : ℕ) → split_of slot ≡ Some (2 * b) → IsPlaced slot b → IsWithin p split (2 * b) (cap_at f slot)
  even_within slot b own (root t i base at) =
      let m = member t i in
      subst (λ n. IsWithin p split (2 * b) (cap_at f n)) (sym at)
      (subst (IsWithin p split (2 * b)) (sym m.root) (subst (λ n. IsOwned p split (2 * n) (CNode m.base m.radix m.guard)) base (node_split t i)))
  even_within slot b own (node t i base at) = even_message slot b (cap_at f slot) own refl ((member t i).passes slot at)

  no_more : (cap : Cap) → is_null cap ≡ true → cap ≡ Null
  no_more Null h = refl
  no_more (Untyped base bits free) h = cc
  no_more (Endpoint base badge rights) h = cc
  no_more (CNode base radix guard) h = cc
  no_more (Tcb base) h = cc

  even_closed : (slot b : ℕ) → split_of slot ≡ Some (2 * b) → IsWithin p split (2 * b) (cap_at f slot)
  even_closed slot b own = at (is_null (cap_at f slot)) refl
    where
      at : (e : Bool) → is_null (cap_at f slot) ≡ e → IsWithin p split (2 * b) (cap_at f slot)
      at true is = subst (IsWithin p split (2 * b)) (sym (no_more (cap_at f slot) is)) tt
      at false is = even_within slot b own (placed slot b own is)

  odd_within : (k slot : ℕ) (cap : Cap) → still k ≡ false → cap_at f slot ≡ cap → IsWithin p parts k cap → IsWithin p split (2 * k + 1) cap
  unfolding is_use_live split
  odd_within k slot Null other is w = tt
  odd_within k slot (Untyped base bits free) other is w = λ x low high. part_number k x (w x low high) other
  odd_within k slot (CNode base radix guard) other is w = λ x low high. part_number k x (w x low high) other
  odd_within k slot (Tcb base) other is w = λ x low high. part_number k x (w x low high) other
  odd_within k slot (Endpoint base badge rights) other is (inl owned) = inl (λ x low high. part_number k x (owned x low high) other)
  odd_within k slot (Endpoint base badge rights) other is (inr c) =
      let live : is_live f base ≡ true = held_live f base badge rights (subst (Held f) is (held_at f slot (ap is_null is))) in
      let u : Use = c.0 in
      let kept = filter_in is_use_live (parts.uses k) u (contains_in (parts.uses k) u c.1.0) (use_live u live c.1.1.endpoint_is) in
      inr (u, (in_contains (split.uses (2 * k + 1)) u (subst (In u) (sym (uses_odd k)) kept), c.1.1))
    where
      use_live : (u : Use) → is_live f base ≡ true → u.endpoint ≡ base → is_use_live u ≡ true
      use_live u live at = ap (is_live f) at ∙ live

  pub split_closed : (n : ℕ) → IsClosed p split n f
  unfolding split_of numbered split
  split_closed n slot own = at (parts.part_of slot) refl own
    where
      doubled : (g : Option ℕ) → option_map (λ k. 2 * k) g ≡ Some n → (b : ℕ) × (n ≡ 2 * b)
      doubled None e = cc
      doubled (Some b) e = (let twice : 2 * b ≡ n = cc in (b, sym twice))

      by : (k : ℕ) (s : Bool) → parts.part_of slot ≡ Some k → still k ≡ s → cond s (option_map (λ m. 2 * m) (group slot)) (Some (2 * k + 1)) ≡ Some n → IsWithin p split n (cap_at f slot)
      by k true here is e =
          let b = doubled (group slot) e in
          subst (λ m. IsWithin p split m (cap_at f slot)) (sym b.1) (even_closed slot b.0 (own ∙ ap (λ m. Some m) b.1))
      by k false here is e =
          let number : 2 * k + 1 ≡ n = cc in
          subst (λ m. IsWithin p split m (cap_at f slot)) number (odd_within k slot (cap_at f slot) is refl (closed k slot here))

      at : (o : Option ℕ) → parts.part_of slot ≡ o → numbered o (group slot) ≡ Some n → IsWithin p split n (cap_at f slot)
      at None here e = cc
      at (Some k) here e = by k (still k) here refl e

  -- a control block that lies in a part lies in one of these
  pub split_around : (t k : ℕ) → IsOwned p parts k (Tcb t) → (still k ≡ true → In t threads) → (n : ℕ) × IsOwned p split n (Tcb t)
  unfolding split
  split_around t k owned listed = at (still k) refl
    where
      at : (s : Bool) → still k ≡ s → (n : ℕ) × IsOwned p split n (Tcb t)
      at true is = (2 * (member t (listed is)).base, block_split t (listed is))
      at false other = (2 * k + 1, λ x low high. part_number k x (owned x low high) other)

  -- ---- what lies in the group of a thread

  -- the number of the thread itself
  pub thread_split : (t : ℕ) (i : In t threads) → split_of t ≡ Some (2 * (member t i).base)
  unfolding split
  thread_split t i = block_split t i t (omega arith) (omega (arith, pow_pos (tcb_bits p)))

  -- an endpoint to which a slot holds a capability has no address there
  pub no_live : (e : ℕ) (badge : Badge) (rights : Rights) → Held f (Endpoint e badge rights) → (x b : ℕ) → IsAddressOf p (Endpoint e badge rights) x → split_of x ≡ Some (2 * b) → ⊥
  unfolding HasIt
  no_live e badge rights h x b at own =
      let g = even_grouped x b own in
      let m = member g.thread g.listed in
      elim (g.has_address) [
        | inl block ↦ false≢true (meet p f disjoint (Endpoint e badge rights) (Tcb g.thread) h m.held refl refl x at block)
        | inr there ↦ false≢true (meet p f disjoint (Endpoint e badge rights) (CNode m.base m.radix m.guard) h (node_held g.thread m) refl refl x at there)
      ]

  -- a use of a group is held in a slot of the CNode, with the same endpoint and with its rights
  pub record IsHeldBy (t : ℕ) (i : In t threads) (e : ℕ) (rights : Rights) : Type 0 where
    pub slot : ℕ
    pub badge : Badge
    pub more : Rights
    pub inside : IsSlotOf p (cap_at f t) slot
    pub cap : cap_at f slot ≡ Endpoint e badge more
    pub among : AreAmong rights more

  in_node : (t : ℕ) (i : In t threads) (slot : ℕ) (e : ℕ) (badge : Badge) (rights : Rights) → cap_at f slot ≡ Endpoint e badge rights → IsPlaced slot (member t i).base → IsSlotOf p (cap_at f t) slot
  in_node t i slot e badge rights is (root u j base at) =
      let other : CNode (member u j).base (member u j).radix (member u j).guard ≡ Endpoint e badge rights = sym (member u j).root ∙ (ap (cap_at f) (sym at) ∙ is) in
      absurd (no_endpoint (member u j).base (member u j).radix (member u j).guard e badge rights other)
  in_node t i slot e badge rights is (node u j base at) =
      let m = member t i in
      let k = member u j in
      let first : IsAddressOf p (CNode k.base k.radix k.guard) k.base = (omega arith, omega (arith, pow_pos (slot_bits p + k.radix))) in
      let other : IsAddressOf p (CNode m.base m.radix m.guard) k.base = (omega (arith, base), omega (arith, base, pow_pos (slot_bits p + m.radix))) in
      let same = node_once p f disjoint k.base k.radix k.guard m.base m.radix m.guard (node_held u k) (node_held t m) k.base first other in
      subst (λ (c : Cap). IsSlotOf p c slot) (sym m.root)
      (subst (λ n. IsSlotOf p (CNode m.base n m.guard) slot) same.1 (subst (λ n. IsSlotOf p (CNode n k.radix k.guard) slot) same.0 at))

  pub held_by : (t : ℕ) (i : In t threads) (e : ℕ) (badge : Badge) (rights : Rights) → IsCovered split (2 * (member t i).base) e badge rights → IsHeldBy t i e rights
  unfolding held is_endpoint use_by
  held_by t i e badge rights c =
      let b : ℕ = (member t i).base in
      let listed : In c.0 (held (2 * b)) = subst (In c.0) (uses_even b) (contains_in (split.uses (2 * b)) c.0 c.1.0) in
      let x = from_mapped (λ (y : Entry). use_by y.cap) (filter (λ (y : Entry). is_number (2 * b) (split_of y.slot) && is_endpoint y.cap) (preorder f)) c.0 listed in
      let y = in_filter (λ (z : Entry). is_number (2 * b) (split_of z.slot) && is_endpoint z.cap) (preorder f) x.0 x.1.0 in
      let both = both_true (is_number (2 * b) (split_of x.0.slot)) (is_endpoint x.0.cap) y.1 in
      let own : split_of x.0.slot ≡ Some (2 * b) = number_is (2 * b) (split_of x.0.slot) both.0 in
      let cap : cap_at f x.0.slot ≡ x.0.cap = cap-entry f x.0 distinct (in_contains (preorder f) x.0 y.0) in
      by x.0.slot x.0.cap own cap both.1 x.1.1
    where
      by : (slot : ℕ) (cap : Cap) → split_of slot ≡ Some (2 * (member t i).base) → cap_at f slot ≡ cap → is_endpoint cap ≡ true → c.0 ≡ use_by cap → IsHeldBy t i e rights
      by slot Null own is h same = absurd (false≢true h)
      by slot (Untyped base bits free) own is h same = absurd (false≢true h)
      by slot (CNode base radix guard) own is h same = absurd (false≢true h)
      by slot (Tcb base) own is h same = absurd (false≢true h)
      by slot (Endpoint base badge' more) own is h same =
          let at : base ≡ e = sym (ap (λ (u : Use). u.endpoint) same) ∙ c.1.1.endpoint_is in
          let full : is_null (cap_at f slot) ≡ false = ap is_null is in
          record {
            slot = slot;
            badge = badge';
            more = more;
            inside = in_node t i slot base badge' more is (placed slot (member t i).base own full);
            cap = is ∙ ap (λ n. Endpoint n badge' more) at;
            among = subst (AreAmong rights) (ap (λ (u : Use). u.rights) same) c.1.1.rights_fit;
          }

  -- each use is of a live endpoint
  covered_live : (n e : ℕ) (badge : Badge) (rights : Rights) → IsCovered split n e badge rights → is_live f e ≡ true
  unfolding split held is_use_live is_endpoint use_by
  covered_live n e badge rights c = sym (ap (is_live f) c.1.1.endpoint_is) ∙ by (n % 2 == 0) (contains_in (split.uses n) c.0 c.1.0)
    where
      named : (u : Use) (cap : Cap) → Held f cap → is_endpoint cap ≡ true → u ≡ use_by cap → is_live f u.endpoint ≡ true
      named u Null h is same = absurd (false≢true is)
      named u (Untyped base bits free) h is same = absurd (false≢true is)
      named u (CNode base radix guard) h is same = absurd (false≢true is)
      named u (Tcb base) h is same = absurd (false≢true is)
      named u (Endpoint base b r) h is same = ap (λ (w : Use). is_live f w.endpoint) same ∙ held_live f base b r h

      by : (t : Bool) → In c.0 (cond t (held n) (filter is_use_live (parts.uses (n / 2)))) → is_live f c.0.endpoint ≡ true
      by true listed =
          let x = from_mapped (λ (y : Entry). use_by y.cap) (filter (λ (y : Entry). is_number n (split_of y.slot) && is_endpoint y.cap) (preorder f)) c.0 listed in
          let y = in_filter (λ (z : Entry). is_number n (split_of z.slot) && is_endpoint z.cap) (preorder f) x.0 x.1.0 in
          named c.0 x.0.cap (x.0, (in_contains (preorder f) x.0 y.0, refl)) (both_true (is_number n (split_of x.0.slot)) (is_endpoint x.0.cap) y.1).1 x.1.1
      by false listed = (in_filter is_use_live (parts.uses (n / 2)) c.0 listed).1

  -- two threads of two parts are of two groups
  pub two_groups : (t u : ℕ) (i : In t threads) (j : In u threads) → ((member t i).part ≡ (member u j).part → ⊥) → (member t i).base ≡ (member u j).base → ⊥
  two_groups t u i j two same =
      let m = member t i in
      let k = member u j in
      let first : parts.part_of m.base ≡ Some m.part = node_owned t i m.base (omega arith) (omega (arith, pow_pos (slot_bits p + m.radix))) in
      let second : parts.part_of k.base ≡ Some k.part = node_owned u j k.base (omega arith) (omega (arith, pow_pos (slot_bits p + k.radix))) in
      two (some_same m.part k.part (sym first ∙ (ap parts.part_of same ∙ second)))
    where
      some_same : (a b : ℕ) → Some a ≡ Some b → a ≡ b
      some_same a b h = cc

  -- ---- what parts have that lie in these

  -- an address of the endpoint lies in the group of a thread
  abbrev pub IsInGroup : (t : ℕ) → In t threads → ℕ → Type 0
  IsInGroup t i e = (x : ℕ) × ((e ≤ x) × ((x < e + 2 ^ endpoint_bits p) × (split_of x ≡ Some (2 * (member t i).base))))

  -- the endpoint is live, or all its addresses lie in one part
  abbrev pub IsMet : ℕ → Type 0
  IsMet e = (is_live f e ≡ true) ⊎ ((n : ℕ) × ((x : ℕ) → e ≤ x → x < e + 2 ^ endpoint_bits p → split_of x ≡ Some n))

  some_number : (a b : ℕ) → Some a ≡ Some b → a ≡ b
  some_number a b h = cc

  pub not_live : (t : ℕ) (i : In t threads) (e : ℕ) → is_live f e ≡ true → IsInGroup t i e → ⊥
  not_live t i e live g =
      let h = live_held f e live in
      no_live e h.0 h.1.0 h.1.1 g.0 (member t i).base (g.1.0, g.1.1.0) g.1.1.1

  -- not both of two threads of two parts have addresses of it, and none of it is live where one has
  pub one_alone : (t u : ℕ) (i : In t threads) (j : In u threads) → ((member t i).part ≡ (member u j).part → ⊥) → (e : ℕ) → IsMet e →
      (is_live f e ≡ true) ⊎ IsInGroup t i e → IsInGroup u j e → ⊥
  one_alone t u i j two e met (inl live) g = not_live u j e live g
  one_alone t u i j two e (inl live) (inr h) g = not_live u j e live g
  one_alone t u i j two e (inr all) (inr h) g =
      let first : all.0 ≡ 2 * (member t i).base = some_number all.0 (2 * (member t i).base) (sym (all.1 h.0 h.1.0 h.1.1.0) ∙ h.1.1.1) in
      let second : all.0 ≡ 2 * (member u j).base = some_number all.0 (2 * (member u j).base) (sym (all.1 g.0 g.1.0 g.1.1.0) ∙ g.1.1.1) in
      two_groups t u i j two (omega (arith, first, second))

  module _ (lie : (k : ℕ) → (n : ℕ) × LiesIn p parts k split n) where
    lies_as : (t : ℕ) (i : In t threads) → (lie (member t i).part).0 ≡ 2 * (member t i).base
    unfolding split
    lies_as t i =
        let m = member t i in
        some_number (lie m.part).0 (2 * m.base) (sym ((lie m.part).1.memory t m.own) ∙ thread_split t i)

    -- an address of the part of a thread lies in its group
    pub part_in_group : (t x : ℕ) (i : In t threads) → parts.part_of x ≡ Some ((member t i).part) → split_of x ≡ Some (2 * (member t i).base)
    unfolding split
    part_in_group t x i own = (lie (member t i).part).1.memory x own ∙ ap (λ n. Some n) (lies_as t i)

    -- a slot of the part of a thread that holds an endpoint's capability is one of the thread's CNode
    pub slot_in : (t : ℕ) (i : In t threads) (slot e : ℕ) (badge : Badge) (rights : Rights) → parts.part_of slot ≡ Some ((member t i).part) →
        cap_at f slot ≡ Endpoint e badge rights → IsSlotOf p (cap_at f t) slot
    slot_in t i slot e badge rights own is = in_node t i slot e badge rights is (placed slot (member t i).base (part_in_group t slot i own) (ap is_null is))

    -- a use of the part of a thread is held by it, or the endpoint lies in its group
    pub use_had : (t : ℕ) (i : In t threads) (u : Use) → Contains (parts.uses (member t i).part) u → IsHeldBy t i u.endpoint u.rights ⊎ IsInGroup t i u.endpoint
    unfolding split
    use_had t i u there =
        let m = member t i in
        by (subst (λ n. IsWithin p split n (Endpoint u.endpoint u.badge u.rights)) (lies_as t i) ((lie m.part).1.uses u there))
      where
        by : IsWithin p split (2 * (member t i).base) (Endpoint u.endpoint u.badge u.rights) → IsHeldBy t i u.endpoint u.rights ⊎ IsInGroup t i u.endpoint
        by (inl owned) = (let at = pow_pos (endpoint_bits p) in inr (u.endpoint, (omega arith, (omega (arith, at), owned u.endpoint (omega arith) (omega (arith, at))))))
        by (inr covered) = inl (held_by t i u.endpoint u.badge u.rights covered)

    -- what is used is met
    pub use_met : (k : ℕ) (u : Use) → Contains (parts.uses k) u → IsMet u.endpoint
    unfolding split
    use_met k u there = by ((lie k).1.uses u there)
      where
        by : IsWithin p split (lie k).0 (Endpoint u.endpoint u.badge u.rights) → IsMet u.endpoint
        by (inl owned) = inr ((lie k).0, λ x low high. owned x low high)
        by (inr covered) = inl (covered_live (lie k).0 u.endpoint u.badge u.rights covered)

  -- what a thread holds is live
  pub held_is_live : (t : ℕ) (i : In t threads) (e : ℕ) (rights : Rights) → IsHeldBy t i e rights → is_live f e ≡ true
  held_is_live t i e rights h = held_live f e h.badge h.more (subst (Held f) h.cap (held_at f h.slot (ap is_null h.cap)))
