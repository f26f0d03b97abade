-- The threads of the forest at boot.
use Rattle.std.proofs.Common.{◌≡◌, ℕ, zero, suc, ◌+◌, ◌-◌, ◌*◌, true, ◌==◌, List, [], ◌∷◌, ◌++◌, map, append_assoc, refl, sym, ◌∙◌, ap, arith}
use Rattle.std.specs.List.{filter_map, range_with_len}
use Rattle.std.proofs.lemmas.Bool.Decides.{nat_tests}
use Rattle.std.proofs.lemmas.List.Elements.{filter_map-append}
use Rattle.std.proofs.lemmas.List.{append-nil, map-append}
use Rattle.cap_core.specs.declared.profile.ProfileName.{ProfileName}
use Rattle.cap_core.specs.declared.capability.Cap.{Cap}
use Rattle.cap_core.specs.declared.capability.Cap.TheVariants.{Untyped, CNode, Tcb}
use Rattle.cap_core.specs.declared.capability.Guard.{Guard}
use Rattle.cap_core.specs.Numbers.{word_bits, slot_size}
use Rattle.kernel_forest.specs.Forest.{Forest, none, tree, preorder}
use Rattle.kernel_forest.specs.Entries.{Entry, entry, caps}
use Rattle.kernel_forest.specs.Derivation.{rooted, derived, derived_entry}
use Rattle.kernel_forest.proofs.Trees.Forests.{preorder-root}
use Rattle.kernel_abstract.specs.Plan.{Plan, tcb_place, endpoint_place}
use Rattle.kernel_abstract.specs.Shown.{tcb_base, threads_of}
use Rattle.kernel_abstract.specs.Boot.{root_cap, tcb_caps, endpoint_caps, untyped_caps, boot_caps, boot_tcbs, boot_forest, with_roots, with_spaces, whole_endpoint}

-- the forest: the root CNode's slot in front, with no other tree before it

pub tree-with_roots : (p : ProfileName) (i : ℕ) (l : List Cap) (e : Entry) (kids others : Forest Entry) → with_roots p i l (tree e kids others) ≡ tree e kids (with_roots p i l others)
tree-with_roots p i [] e kids others = refl
tree-with_roots p i (cap ∷ l) e kids others = tree-with_roots p (i + 1) l e kids (rooted (i * slot_size p) cap others)

at_itself : (i j : ℕ) → i ≡ j → (i == j) ≡ true
at_itself i j h = grind (arith, nat_tests)

-- what is derived from the first original slot becomes its first child
pub derived-top : (source slot : ℕ) (cap : Cap) (e : Entry) (kids others : Forest Entry) → e.slot ≡ source → e.original ≡ true
    → derived source slot cap (tree e kids others) ≡ tree e (tree (derived_entry source slot cap (tree e kids others)) none kids) others
derived-top source slot cap e kids others s o =
    let h = at_itself e.slot source s in
    rw (h, o) refl

-- the live threads

threads-rooted : (slot : ℕ) (cap : Cap) (f : Forest Entry) → threads_of (rooted slot cap f) ≡ threads_of f ++ filter_map tcb_base (cap ∷ [])
threads-rooted slot cap f =
    ap (λ (l : List Entry). filter_map tcb_base (map (λ (e : Entry). e.cap) l)) (preorder-root (entry slot cap true) f)
    ∙ ap (filter_map tcb_base) (map-append (λ (e : Entry). e.cap) (preorder f) (entry slot cap true ∷ []))
    ∙ filter_map-append tcb_base (caps f) (cap ∷ [])

threads-with_roots : (p : ProfileName) (i : ℕ) (l : List Cap) (f : Forest Entry) → threads_of (with_roots p i l f) ≡ threads_of f ++ filter_map tcb_base l
threads-with_roots p i [] f = sym (append-nil (threads_of f))
threads-with_roots p i (cap ∷ l) f =
    threads-with_roots p (i + 1) l (rooted (i * slot_size p) cap f)
    ∙ ap (λ (t : List ℕ). t ++ filter_map tcb_base l) (threads-rooted (i * slot_size p) cap f)
    ∙ append_assoc (threads_of f) (filter_map tcb_base (cap ∷ [])) (filter_map tcb_base l)
    ∙ ap (λ (t : List ℕ). threads_of f ++ t) (sym (filter_map-append tcb_base (cap ∷ []) l))

threads-with_spaces : (p : ProfileName) (base radix : ℕ) (guard : Guard) (tcbs : List ℕ) (e : Entry) (kids others : Forest Entry) → e.slot ≡ slot_size p → e.original ≡ true
    → threads_of (with_spaces p (CNode base radix guard) tcbs (tree e kids others)) ≡ threads_of (tree e kids others)
threads-with_spaces p base radix guard [] e kids others s o = refl
threads-with_spaces p base radix guard (t ∷ ts) e kids others s o =
    let cap = CNode base radix guard in
    ap (λ (f : Forest Entry). threads_of (with_spaces p cap ts f)) (derived-top (slot_size p) t cap e kids others s o)
    ∙ threads-with_spaces p base radix guard ts e (tree (derived_entry (slot_size p) t cap (tree e kids others)) none kids) others s o

tcbs_of : (f : ℕ → ℕ) (a n : ℕ) → filter_map tcb_base (map (λ i. Tcb (f i)) (range_with_len a n)) ≡ map f (range_with_len a n)
tcbs_of f a zero = refl
tcbs_of f a (suc n) = ap (λ l. f a ∷ l) (tcbs_of f (a + 1) n)

no_tcbs : (f : ℕ → ℕ) (a n : ℕ) → filter_map tcb_base (map (λ j. whole_endpoint (f j)) (range_with_len a n)) ≡ []
no_tcbs f a zero = refl
no_tcbs f a (suc n) = no_tcbs f (a + 1) n

no_tcbs_in : (l : List (ℕ × ℕ)) → filter_map tcb_base (map (λ (u : ℕ × ℕ). Untyped u.0 u.1 0) l) ≡ []
no_tcbs_in [] = refl
no_tcbs_in (u ∷ l) = no_tcbs_in l

boot_threads_in : (p : ProfileName) (plan : Plan) → filter_map tcb_base (boot_caps p plan) ≡ boot_tcbs p plan
boot_threads_in p plan =
    filter_map-append tcb_base (root_cap p plan ∷ tcb_caps p plan ++ endpoint_caps p plan) (untyped_caps plan)
    ∙ ap (λ l. filter_map tcb_base (root_cap p plan ∷ tcb_caps p plan ++ endpoint_caps p plan) ++ l) (no_tcbs_in plan.untypeds)
    ∙ append-nil (filter_map tcb_base (root_cap p plan ∷ tcb_caps p plan ++ endpoint_caps p plan))
    ∙ filter_map-append tcb_base (root_cap p plan ∷ tcb_caps p plan) (endpoint_caps p plan)
    ∙ ap (λ l. filter_map tcb_base (root_cap p plan ∷ tcb_caps p plan) ++ l) (no_tcbs (endpoint_place p plan) 0 plan.endpoints)
    ∙ append-nil (filter_map tcb_base (root_cap p plan ∷ tcb_caps p plan))
    ∙ tcbs_of (tcb_place p plan) 0 plan.threads

pub threads_at_boot : (p : ProfileName) (plan : Plan) → threads_of (boot_forest p plan) ≡ boot_tcbs p plan
threads_at_boot p plan =
    ap (λ (f : Forest Entry). threads_of (with_spaces p (root_cap p plan) (boot_tcbs p plan) f)) (tree-with_roots p 2 others first none none)
    ∙ threads-with_spaces p 0 plan.root_radix (record { value = 0; size = word_bits p - plan.root_radix }) (boot_tcbs p plan) first none (with_roots p 2 others none) (one_slot (slot_size p)) refl
    ∙ ap threads_of (sym (tree-with_roots p 2 others first none none))
    ∙ threads-with_roots p 1 (boot_caps p plan) none
    ∙ boot_threads_in p plan
  where
    others : List Cap
    others = tcb_caps p plan ++ endpoint_caps p plan ++ untyped_caps plan

    first : Entry
    first = entry (1 * slot_size p) (root_cap p plan) true

    one_slot : (n : ℕ) → 1 * n ≡ n
    one_slot n = omega arith
