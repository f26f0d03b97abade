-- The capabilities of a boot can be put one after another, and the root CNode's derived into each thread's root slot.
use Rattle.std.proofs.Common.{◌≡◌, ℕ, zero, suc, ◌+◌, ◌-◌, ◌*◌, ◌%◌, ◌^◌, ◌<◌, ◌≤◌, true, false, ◌&&◌, ◌||◌, ◌==◌, nat_lt, nat_le, List, [], ◌∷◌, ◌++◌, map, length, get_or, refl, ◌∙◌, arith}
use Rattle.std.specs.List.{AllByRecursion as Each, range_with_len}
use Rattle.std.proofs.Math.Nat.{one-le-pow, mul-le-mul_right, pow-le-pow_right}
use Rattle.std.proofs.lemmas.Nat.{pow-add}
use Rattle.std.proofs.lemmas.List.{length-append, length-map}
use Rattle.std.proofs.lemmas.List.FromFn.{length-map-range_with_len}
use Rattle.std.proofs.lemmas.Bool.Decides.{nat_tests}
use Rattle.cap_core.specs.declared.profile.ProfileName.{ProfileName}
use Rattle.cap_core.specs.declared.profile.ProfileName.TheVariants.{Wide, Narrow}
use Rattle.cap_core.specs.declared.capability.Cap.{Cap}
use Rattle.cap_core.specs.declared.capability.Cap.TheVariants.{Untyped, Tcb}
use Rattle.cap_core.specs.declared.limits.TheConstants.{MAX_MEMORY_BITS}
use Rattle.cap_core.specs.Numbers.{word_bits, slot_bits, slot_size, tcb_bits, tcb_size, endpoint_bits, endpoint_size}
use Rattle.cap_core.specs.Objects.{IsLawful, IsPlaced, base_of, bits_of, end_of, are_apart, is_untyped, contains}
use Rattle.kernel_forest.proofs.Trees.Forests.{each-append, each-weaker}
use Rattle.mem_core.specs.Plans.{least_multiple}
use Rattle.kernel_abstract.specs.Plan.{Plan, IsPlan, overlap, extent, untyped_extent, first_tcb, tcb_place, endpoint_place, boot_end, slots_taken}
use Rattle.kernel_abstract.specs.Boot.{root_cap, tcb_caps, endpoint_caps, untyped_caps, boot_caps, whole_endpoint, boot_tcbs, with_roots}
use Rattle.kernel_forest.specs.Forest.{Forest, none}
use Rattle.kernel_forest.specs.Entries.{Entry, cap_at}
use Rattle.kernel_forest.specs.Derivation.{rooted}
use Rattle.kernel_forest.proofs.Disjoint.Disjointness.{disjoint-none, apart_contains, are_apart-swap}
use Rattle.kernel_abstract.proofs.Boot.Puts.{AreApart, CanPut, each-with_roots, full-with_roots, cap-with_roots, disjoint-with_roots}
use Rattle.kernel_abstract.proofs.Boot.Spaces.{AreDifferent, CanDerive}
use Rattle.kernel_abstract.proofs.Boot.SoundPlans.{clear, objects_within, slots_within}

-- lists

pub each-range : {X : Type 0} (P : X → Type 0) (f : ℕ → X) (a n : ℕ) → ((i : ℕ) → a ≤ i → i < a + n → P (f i)) → Each P (map f (range_with_len a n))
each-range P f a zero h = tt
each-range P f a (suc n) h = (h a (omega arith) (omega arith), each-range P f (a + 1) n (λ i low high. h i (omega arith) (omega arith)))

pub each-map_at : {X Y : Type 0} (P : Y → Type 0) (f : X → Y) (xs : List X) → ((i : ℕ) (d : X) → i < length xs → P (f (get_or xs i d))) → Each P (map f xs)
each-map_at P f [] h = tt
each-map_at P f (x ∷ xs) h = (h 0 x (omega arith), each-map_at P f xs (λ i d b. h (suc i) d (omega arith)))

pub apart-range : (p : ProfileName) (f : ℕ → Cap) (a n : ℕ) → ((i j : ℕ) → i < j → are_apart p (f i) (f j) ≡ true) → AreApart p (map f (range_with_len a n))
apart-range p f a zero h = tt
apart-range p f a (suc n) h =
    (each-range (λ (c : Cap). are_apart p (f a) c ≡ true) f (a + 1) n (λ j low high. h a j (omega arith)), apart-range p f (a + 1) n h)

apart-map_at : {X : Type 0} (p : ProfileName) (f : X → Cap) (xs : List X) → ((i j : ℕ) (d e : X) → i < j → j < length xs → are_apart p (f (get_or xs i d)) (f (get_or xs j e)) ≡ true) → AreApart p (map f xs)
apart-map_at p f [] h = tt
apart-map_at p f (x ∷ xs) h = (
  each-map_at (λ (c : Cap). are_apart p (f x) c ≡ true) f xs (λ j e b. h 0 (suc j) x e (omega arith) (omega arith)),
  apart-map_at p f xs (λ i j d e b c. h (suc i) (suc j) d e (omega arith) (omega arith)),
)

apart-append : (p : ProfileName) (xs ys : List Cap) → AreApart p xs → AreApart p ys → Each (λ (x : Cap). Each (λ (y : Cap). are_apart p x y ≡ true) ys) xs → AreApart p (xs ++ ys)
apart-append p [] ys h k b = k
apart-append p (x ∷ xs) ys h k b = (each-append (λ (c : Cap). are_apart p x c ≡ true) xs ys h.0 b.0, apart-append p xs ys h.1 k b.1)

-- objects

before : (p : ProfileName) (a b : Cap) → end_of p a ≤ base_of b → are_apart p a b ≡ true
before p a b h = step (end_of p a) (base_of b) (end_of p b) (base_of a) h
  where
    step : (i j m n : ℕ) → i ≤ j → (nat_le i j || nat_le m n) ≡ true
    step i j m n h = grind (arith, nat_tests)

-- regions with no address in common
pub clear_apart : (i j m n : ℕ) → (nat_lt i (j + n) && nat_lt j (i + m)) ≡ false → (nat_le (j + n) i || nat_le (i + m) j) ≡ true
clear_apart i j m n h = grind (arith, nat_tests)

-- the first thread control block is past the root CNode, at a multiple of its size

first_multiple : (p : ProfileName) (n : ℕ) → n ≤ least_multiple (tcb_size p) n
first_multiple Wide n = omega arith
first_multiple Narrow n = omega arith

first_aligned : (p : ProfileName) (n : ℕ) → least_multiple (tcb_size p) n % tcb_size p ≡ 0
first_aligned Wide n = omega arith
first_aligned Narrow n = omega arith

tcb_aligned : (p : ProfileName) (n i : ℕ) → (least_multiple (tcb_size p) n + tcb_size p * i) % 2 ^ tcb_bits p ≡ 0
tcb_aligned Wide n i = omega arith
tcb_aligned Narrow n i = omega arith

endpoint_aligned : (p : ProfileName) (n i j : ℕ) → (least_multiple (tcb_size p) n + tcb_size p * i + endpoint_size p * j) % 2 ^ endpoint_bits p ≡ 0
endpoint_aligned Wide n i j = omega arith
endpoint_aligned Narrow n i j = omega arith

tcb_before : (p : ProfileName) (n i j : ℕ) → i < j → n + tcb_size p * i + 2 ^ tcb_bits p ≤ n + tcb_size p * j
tcb_before Wide n i j h = omega arith
tcb_before Narrow n i j h = omega arith

endpoint_before : (p : ProfileName) (n i j : ℕ) → i < j → n + endpoint_size p * i + 2 ^ endpoint_bits p ≤ n + endpoint_size p * j
endpoint_before Wide n i j h = omega arith
endpoint_before Narrow n i j h = omega arith

-- what a plan says of the places

pub node_fits : (p : ProfileName) (plan : Plan) → 2 ^ (slot_bits p + plan.root_radix) ≤ first_tcb p plan
node_fits p plan = first_multiple p (2 ^ (slot_bits p + plan.root_radix))

pub tcb_fits : (p : ProfileName) (plan : Plan) (i : ℕ) → i < plan.threads → tcb_place p plan i + 2 ^ tcb_bits p ≤ tcb_place p plan plan.threads
tcb_fits p plan i h = tcb_before p (first_tcb p plan) i plan.threads h

endpoint_fits : (p : ProfileName) (plan : Plan) (j : ℕ) → j < plan.endpoints → endpoint_place p plan j + 2 ^ endpoint_bits p ≤ boot_end p plan
endpoint_fits p plan j h = endpoint_before p (tcb_place p plan plan.threads) j plan.endpoints h

-- each capability is lawful

-- the memory's addresses are words
in_words : (p : ProfileName) (plan : Plan) (end : ℕ) → IsPlan p plan → end ≤ 2 ^ plan.memory_bits → end ≤ 2 ^ word_bits p
in_words p plan end h within =
    let grows : 2 ^ plan.memory_bits ≤ 2 ^ word_bits p = pow-le-pow_right {n = 2} (omega arith) {i = plan.memory_bits} {j = word_bits p} (least p h.limits.sizes.memory_most) in
    omega arith
  where
    least : (q : ProfileName) → plan.memory_bits ≤ MAX_MEMORY_BITS → plan.memory_bits ≤ word_bits q
    least Wide h = omega arith
    least Narrow h = omega arith

-- an object at a multiple of its size, within the memory
placed : (p : ProfileName) (plan : Plan) (cap : Cap) → IsPlan p plan → base_of cap % 2 ^ bits_of p cap ≡ 0 → end_of p cap ≤ 2 ^ plan.memory_bits → IsPlaced p plan.memory_bits cap
placed p plan cap h aligned within = record { aligned = aligned; within = within; addressed = in_words p plan (end_of p cap) h within }

zero-mod : (n : ℕ) → 0 < n → 0 % n ≡ 0
zero-mod n h = omega arith

lawful_root : (p : ProfileName) (plan : Plan) → IsPlan p plan → IsLawful p plan.memory_bits (root_cap p plan)
lawful_root p plan h =
    record {
      full = refl;
      placed = placed p plan (root_cap p plan) h
          (zero-mod (2 ^ (slot_bits p + plan.root_radix)) (one-le-pow (slot_bits p + plan.root_radix) 2 (omega arith)))
          (let a = node_fits p plan in let b = objects_within p plan h in omega arith);
      holds = record {
        some = h.limits.sizes.radix_least;
        both = both p h.limits.sizes.radix_most;
        cut = one-le-pow (word_bits p - plan.root_radix) 2 (omega arith);
      };
    }
  where
    both : (q : ProfileName) → plan.root_radix ≤ 12 → word_bits q - plan.root_radix + plan.root_radix ≤ word_bits q
    both Wide h = omega arith
    both Narrow h = omega arith

lawful_tcbs : (p : ProfileName) (plan : Plan) → IsPlan p plan → Each (IsLawful p plan.memory_bits) (tcb_caps p plan)
lawful_tcbs p plan h =
    each-range (IsLawful p plan.memory_bits) (λ i. Tcb (tcb_place p plan i)) 0 plan.threads
    (λ i low high.
    record {
      full = refl;
      placed = placed p plan (Tcb (tcb_place p plan i)) h (tcb_aligned p (2 ^ (slot_bits p + plan.root_radix)) i)
          (let a = tcb_fits p plan i (omega arith) in let b = objects_within p plan h in omega arith);
      holds = tt;
    })

lawful_endpoints : (p : ProfileName) (plan : Plan) → IsPlan p plan → Each (IsLawful p plan.memory_bits) (endpoint_caps p plan)
lawful_endpoints p plan h =
    each-range (IsLawful p plan.memory_bits) (λ j. whole_endpoint (endpoint_place p plan j)) 0 plan.endpoints
    (λ j low high.
    record {
      full = refl;
      placed = placed p plan (whole_endpoint (endpoint_place p plan j)) h (endpoint_aligned p (2 ^ (slot_bits p + plan.root_radix)) plan.threads j)
          (let a = endpoint_fits p plan j (omega arith) in let b = objects_within p plan h in omega arith);
      holds = tt;
    })

lawful_untypeds : (p : ProfileName) (plan : Plan) → IsPlan p plan → Each (IsLawful p plan.memory_bits) (untyped_caps plan)
lawful_untypeds p plan h =
    each-map_at (IsLawful p plan.memory_bits) (λ (u : ℕ × ℕ). Untyped u.0 u.1 0) plan.untypeds
    (λ k d b.
    let c = clear p plan h k d b in
    let s = h.limits.untypeds_sized k d b in
    record {
      full = refl;
      placed = placed p plan (Untyped (get_or plan.untypeds k d).0 (get_or plan.untypeds k d).1 0) h c.aligned c.within;
      holds = record { least = s.least; most = s.most; free_within = omega arith };
    })

pub lawful_caps : (p : ProfileName) (plan : Plan) → IsPlan p plan → Each (IsLawful p plan.memory_bits) (boot_caps p plan)
lawful_caps p plan h =
    let L : Cap → Type 0 = IsLawful p plan.memory_bits in
    each-append L (root_cap p plan ∷ tcb_caps p plan ++ endpoint_caps p plan) (untyped_caps plan)
    (each-append L (root_cap p plan ∷ tcb_caps p plan) (endpoint_caps p plan) (lawful_root p plan h, lawful_tcbs p plan h) (lawful_endpoints p plan h))
    (lawful_untypeds p plan h)

-- the objects are apart

untyped_after : (p : ProfileName) (plan : Plan) → IsPlan p plan → (base : ℕ) (bits : ℕ) (cap : Cap) → base_of cap ≡ base → bits_of p cap ≡ bits
    → ((k : ℕ) (d : ℕ × ℕ) → k < length plan.untypeds → overlap (untyped_extent (get_or plan.untypeds k d)) (extent base bits) ≡ false)
    → Each (λ (c : Cap). are_apart p cap c ≡ true) (untyped_caps plan)
untyped_after p plan h base bits cap e f o =
    each-map_at (λ (c : Cap). are_apart p cap c ≡ true) (λ (u : ℕ × ℕ). Untyped u.0 u.1 0) plan.untypeds
    (λ k d b. let u = get_or plan.untypeds k d in
    rw (e, f) (clear_apart u.0 base (2 ^ u.1) (2 ^ bits) (o k d b)))

apart_objects : (p : ProfileName) (plan : Plan) → AreApart p (root_cap p plan ∷ tcb_caps p plan ++ endpoint_caps p plan)
apart_objects p plan =
    apart-append p (root_cap p plan ∷ tcb_caps p plan) (endpoint_caps p plan)
    (root_tcbs, apart-range p tcb 0 plan.threads (λ i j b. before p (tcb i) (tcb j) (tcb_before p (first_tcb p plan) i j b)))
    (apart-range p whole 0 plan.endpoints (λ i j b. before p (whole i) (whole j) (endpoint_before p (tcb_place p plan plan.threads) i j b)))
    (root_endpoints, tcbs_endpoints)
  where
    tcb : ℕ → Cap
    tcb i = Tcb (tcb_place p plan i)

    whole : ℕ → Cap
    whole j = whole_endpoint (endpoint_place p plan j)

    root_tcbs : Each (λ (c : Cap). are_apart p (root_cap p plan) c ≡ true) (tcb_caps p plan)
    root_tcbs = each-range (λ (c : Cap). are_apart p (root_cap p plan) c ≡ true) tcb 0 plan.threads
        (λ i low high. before p (root_cap p plan) (tcb i) (let a = node_fits p plan in omega arith))

    root_endpoints : Each (λ (c : Cap). are_apart p (root_cap p plan) c ≡ true) (endpoint_caps p plan)
    root_endpoints = each-range (λ (c : Cap). are_apart p (root_cap p plan) c ≡ true) whole 0 plan.endpoints
        (λ j low high. before p (root_cap p plan) (whole j) (let a = node_fits p plan in omega arith))

    tcbs_endpoints : Each (λ (x : Cap). Each (λ (y : Cap). are_apart p x y ≡ true) (endpoint_caps p plan)) (tcb_caps p plan)
    tcbs_endpoints = each-range (λ (x : Cap). Each (λ (y : Cap). are_apart p x y ≡ true) (endpoint_caps p plan)) tcb 0 plan.threads
        (λ i low high. each-range (λ (y : Cap). are_apart p (tcb i) y ≡ true) whole 0 plan.endpoints
        (λ j low' high'. before p (tcb i) (whole j) (let a = tcb_fits p plan i (omega arith) in omega arith)))

pub apart_caps : (p : ProfileName) (plan : Plan) → IsPlan p plan → AreApart p (boot_caps p plan)
apart_caps p plan h =
    apart-append p (root_cap p plan ∷ tcb_caps p plan ++ endpoint_caps p plan) (untyped_caps plan) (apart_objects p plan)
    (apart-map_at p (λ (u : ℕ × ℕ). Untyped u.0 u.1 0) plan.untypeds
    (λ i j d e b c. let u = get_or plan.untypeds i d in let v = get_or plan.untypeds j e in
    clear_apart v.0 u.0 (2 ^ v.1) (2 ^ u.1) ((clear p plan h j e c).earlier i d b (omega arith))))
    (each-append (λ (x : Cap). Each (λ (y : Cap). are_apart p x y ≡ true) (untyped_caps plan)) (root_cap p plan ∷ tcb_caps p plan) (endpoint_caps p plan) (
      untyped_after p plan h 0 (slot_bits p + plan.root_radix) (root_cap p plan) refl refl (λ k d b. (clear p plan h k d b).node),
      each-range (λ (x : Cap). Each (λ (y : Cap). are_apart p x y ≡ true) (untyped_caps plan)) (λ i. Tcb (tcb_place p plan i)) 0 plan.threads
          (λ i low high. untyped_after p plan h (tcb_place p plan i) (tcb_bits p) (Tcb (tcb_place p plan i)) refl refl (λ k d b. (clear p plan h k d b).tcb i (omega arith))),
    )
    (each-range (λ (x : Cap). Each (λ (y : Cap). are_apart p x y ≡ true) (untyped_caps plan)) (λ j. whole_endpoint (endpoint_place p plan j)) 0 plan.endpoints
    (λ j low high. untyped_after p plan h (endpoint_place p plan j) (endpoint_bits p) (whole_endpoint (endpoint_place p plan j)) refl refl (λ k d b. (clear p plan h k d b).endpoint j (omega arith)))))

-- the root CNode has a slot for each

length_caps : (p : ProfileName) (plan : Plan) → length (boot_caps p plan) + 1 ≡ slots_taken plan
length_caps p plan =
    let a = length-append (root_cap p plan ∷ tcb_caps p plan ++ endpoint_caps p plan) (untyped_caps plan) in
    let b = length-append (root_cap p plan ∷ tcb_caps p plan) (endpoint_caps p plan) in
    let c = length-map-range_with_len (λ i. Tcb (tcb_place p plan i)) 0 plan.threads in
    let d = length-map-range_with_len (λ j. whole_endpoint (endpoint_place p plan j)) 0 plan.endpoints in
    let e = length-map plan.untypeds (λ (u : ℕ × ℕ). Untyped u.0 u.1 0) in
    omega arith

pub caps_fit : (p : ProfileName) (plan : Plan) → IsPlan p plan → 1 + length (boot_caps p plan) ≤ 2 ^ plan.root_radix
caps_fit p plan h =
    let l = length_caps p plan in
    let w = slots_within p plan h in
    omega arith

pub slots_fit : (p : ProfileName) (plan : Plan) → IsPlan p plan →
    (1 + length (boot_caps p plan)) * slot_size p ≤ 2 ^ (slot_bits p + plan.root_radix)
slots_fit p plan h =
    let m = mul-le-mul_right (slot_size p) (caps_fit p plan h) in
    let e = pow-add 2 (slot_bits p) plan.root_radix in
    omega arith

pub can_put : (p : ProfileName) (plan : Plan) → IsPlan p plan → CanPut p plan.memory_bits 1 (boot_caps p plan) none
can_put p plan h =
    record {
      apart = apart_caps p plan h;
      old = tt;
      lawful = lawful_caps p plan h;
      below = tt;
      room = let n = node_fits p plan in let w = objects_within p plan h in let r = slots_fit p plan h in omega arith;
      disjoint = disjoint-none p;
    }

-- the capability of the root CNode can then be derived into each thread's root slot

apart-tcbs : (p : ProfileName) (n a k : ℕ) → AreDifferent (map (λ i. n + tcb_size p * i) (range_with_len a k))
apart-tcbs p n a zero = tt
apart-tcbs p n a (suc k) = (
  each-range (λ (other : ℕ). ((n + tcb_size p * a) == other) ≡ false) (λ i. n + tcb_size p * i) (a + 1) k
      (λ i low high. let b = tcb_before p n a i (omega arith) in let q = one-le-pow (tcb_bits p) 2 (omega arith) in differ (n + tcb_size p * a) (n + tcb_size p * i) (omega arith)),
  apart-tcbs p n (a + 1) k,
)
  where
    differ : (i j : ℕ) → i < j → (i == j) ≡ false
    differ i j h = grind (arith, nat_tests)

pub each-always : {X : Type 0} (P : X → Type 0) (xs : List X) → ((x : X) → P x) → Each P xs
each-always P [] h = tt
each-always P (x ∷ xs) h = (h x, each-always P xs h)

one_slot : (n : ℕ) → ((1 * n) == n) ≡ true
one_slot n = grind (arith, nat_tests)

pub can_derive : (p : ProfileName) (plan : Plan) → IsPlan p plan
    → CanDerive p plan.memory_bits (slot_size p) 0 plan.root_radix (record { value = 0; size = word_bits p - plan.root_radix }) (boot_tcbs p plan) (with_roots p 1 (boot_caps p plan) none)
can_derive p plan h =
    record {
      full = full-with_roots p (slot_size p) 2 others first (rw (one_slot (slot_size p)) refl);
      holds = cap-with_roots p (slot_size p) 2 others first (let q = one-le-pow (slot_bits p) 2 (omega arith) in omega arith) ∙ held;
      lawful = lawful_root p plan h;
      outside = each-with_roots (λ (e : Entry). is_untyped e.cap ≡ true → contains p e.cap (root_cap p plan) ≡ false) p 1 (boot_caps p plan) none tt (
        λ k low high t. absurd (let n : false ≡ true = t in cc),
        each-weaker (λ (c : Cap). are_apart p (root_cap p plan) c ≡ true) (λ (c : Cap). (k : ℕ) → 1 ≤ k → k < 1 + length (boot_caps p plan) → is_untyped c ≡ true → contains p c (root_cap p plan) ≡ false)
            (λ c a k low high t. apart_contains p c (root_cap p plan) (are_apart-swap p c (root_cap p plan) ∙ a)) others (apart_caps p plan h).0,
      );
      empty = each-with_roots (λ (e : Entry). Each (λ (slot : ℕ). (e.slot == slot) ≡ false) (boot_tcbs p plan)) p 1 (boot_caps p plan) none tt
          (each-always (λ (c : Cap). (k : ℕ) → 1 ≤ k → k < 1 + length (boot_caps p plan) → Each (λ (slot : ℕ). ((k * slot_size p) == slot) ≡ false) (boot_tcbs p plan)) (boot_caps p plan)
          (λ c k low high. each-range (λ (slot : ℕ). ((k * slot_size p) == slot) ≡ false) (tcb_place p plan) 0 plan.threads
          (λ i low' high'. differ (k * slot_size p) (tcb_place p plan i) (slot_before k i high))));
      different = apart-tcbs p (first_tcb p plan) 0 plan.threads;
      within = each-range (λ (slot : ℕ). slot < 2 ^ plan.memory_bits) (tcb_place p plan) 0 plan.threads
          (λ i low high. let a = tcb_fits p plan i (omega arith) in let b = objects_within p plan h in let q = one-le-pow (tcb_bits p) 2 (omega arith) in omega arith);
      disjoint = disjoint-with_roots p plan.memory_bits 1 (boot_caps p plan) none (can_put p plan h);
    }
  where
    others : List Cap
    others = tcb_caps p plan ++ endpoint_caps p plan ++ untyped_caps plan

    first : Forest Entry
    first = rooted (1 * slot_size p) (root_cap p plan) none

    held : cap_at first (slot_size p) ≡ root_cap p plan
    held = rw (one_slot (slot_size p)) refl

    differ : (i j : ℕ) → i < j → (i == j) ≡ false
    differ i j h = grind (arith, nat_tests)

    slot_before : (k i : ℕ) → k < 1 + length (boot_caps p plan) → k * slot_size p < tcb_place p plan i
    slot_before k i b =
        let f = slots_fit p plan h in
        let n = node_fits p plan in
        let m = mul-le-mul_right (slot_size p) (let l : k + 1 ≤ 1 + length (boot_caps p plan) = omega arith in l) in
        let q = one-le-pow (slot_bits p) 2 (omega arith) in
        omega arith
