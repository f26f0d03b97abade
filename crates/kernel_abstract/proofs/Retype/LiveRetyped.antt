-- Which objects are live after a retype: those that were, and the new ones.
use Rattle.std.proofs.Common.{◌≡◌, ℕ, Bool, true, false, ◌||◌, ◌==◌, List, [], ◌∷◌, map, Option, None, Some, refl, sym, ◌∙◌, ap}
use Rattle.std.specs.List.{list_any, filter_map, cons_option}
use Rattle.cap_core.specs.declared.profile.ProfileName.{ProfileName}
use Rattle.cap_core.specs.declared.capability.Cap.{Cap}
use Rattle.cap_core.specs.declared.capability.Cap.TheVariants.{Null, Untyped, Endpoint, CNode, Tcb}
use Rattle.cap_core.specs.Objects.{is_untyped}
use Rattle.kernel_forest.specs.Forest.{Forest, preorder}
use Rattle.kernel_forest.specs.Entries.{Entry, entry, caps, cap_at, is_full}
use Rattle.kernel_forest.specs.Derivation.{retyped, freed, with_free}
use Rattle.kernel_forest.proofs.Slots.Retyped.{any-retyped, full-retyped}
use Rattle.kernel_forest.proofs.Slots.Freed.{any-freed, full-freed}
use Rattle.kernel_forest.proofs.Slots.Holding.{cap-empty}
use Rattle.kernel_abstract.specs.declared.invocation.NewObjects.{NewObjects}
use Rattle.kernel_abstract.specs.Retyping.{new_caps, with_new, with_objects, new_bases}
use Rattle.kernel_abstract.specs.Shown.{tcb_base, endpoint_base}

-- an object that may be there is the one at an address
abbrev pub names_base : ℕ → Option ℕ → Bool
names_base e None = false
names_base e (Some k) = e == k

or_swap : (a b : Bool) → (a || b) ≡ (b || a)
or_swap true true = refl
or_swap true false = refl
or_swap false true = refl
or_swap false false = refl

any_bases : (base_of : Cap → Option ℕ) (e : ℕ) (l : List Cap) → list_any (λ k. e == k) (filter_map base_of l) ≡ list_any (λ c. names_base e (base_of c)) l
any_bases base_of e [] = refl
any_bases base_of e (c ∷ l) = one (base_of c) (any_bases base_of e l)
  where
    one : (o : Option ℕ) → list_any (λ k. e == k) (filter_map base_of l) ≡ list_any (λ c. names_base e (base_of c)) l
        → list_any (λ k. e == k) (cons_option o (filter_map base_of l)) ≡ (names_base e o || list_any (λ c. names_base e (base_of c)) l)
    one None h = h
    one (Some k) h = ap (λ b. (e == k) || b) h

any_map : {X Y : Type 0} (q : Y → Bool) (f : X → Y) (l : List X) → list_any q (map f l) ≡ list_any (λ x. q (f x)) l
any_map q f [] = refl
any_map q f (x ∷ l) = ap (λ b. q (f x) || b) (any_map q f l)

-- a test that some entry passes after capabilities were put below an untyped
pub any-with_new : (q : Entry → Bool) (untyped : ℕ) (puts : List (ℕ × Cap)) (f : Forest Entry) → is_full untyped f ≡ true
    → list_any q (preorder (with_new untyped puts f)) ≡ (list_any (λ (put : ℕ × Cap). q (entry put.0 put.1 true)) puts || list_any q (preorder f))
any-with_new q untyped [] f h = refl
any-with_new q untyped (put ∷ puts) f h =
    any-with_new q untyped puts (retyped untyped put.0 put.1 f) (full-retyped untyped untyped put.0 put.1 f h ∙ ap (λ b. b || (put.0 == untyped)) h)
    ∙ ap (λ b. list_any (λ (put : ℕ × Cap). q (entry put.0 put.1 true)) puts || b) (any-retyped q untyped put.0 put.1 f h)
    ∙ rotate (list_any (λ (put : ℕ × Cap). q (entry put.0 put.1 true)) puts) (list_any q (preorder f)) (q (entry put.0 put.1 true))
  where
    rotate : (a b c : Bool) → (a || (b || c)) ≡ ((c || a) || b)
    rotate true b true = refl
    rotate true b false = refl
    rotate false true true = refl
    rotate false true false = refl
    rotate false false true = refl
    rotate false false false = refl

-- a slot that holds an untyped capability is full
pub untyped_full : (slot : ℕ) (f : Forest Entry) → is_untyped (cap_at f slot) ≡ true → is_full slot f ≡ true
untyped_full slot f h =
    (elim (is_full slot f) as (λ b. is_full slot f ≡ b → b ≡ true) [
      | true ↦ λ e. refl
      | false ↦ λ e. let n : is_untyped (cap_at f slot) ≡ false = ap is_untyped (cap-empty slot f e) in cc
    ]) refl

pub tcb_base-freed : (free : ℕ) (cap : Cap) → tcb_base (with_free free cap) ≡ tcb_base cap
tcb_base-freed free Null = refl
tcb_base-freed free (Untyped base bits former) = refl
tcb_base-freed free (Endpoint base badge rights) = refl
tcb_base-freed free (CNode base radix guard) = refl
tcb_base-freed free (Tcb base) = refl

pub endpoint_base-freed : (free : ℕ) (cap : Cap) → endpoint_base (with_free free cap) ≡ endpoint_base cap
endpoint_base-freed free Null = refl
endpoint_base-freed free (Untyped base bits former) = refl
endpoint_base-freed free (Endpoint base badge rights) = refl
endpoint_base-freed free (CNode base radix guard) = refl
endpoint_base-freed free (Tcb base) = refl

-- the live objects of a kind whose bases a free index does not change
pub live-objects : (base_of : Cap → Option ℕ) → ((free : ℕ) (cap : Cap) → base_of (with_free free cap) ≡ base_of cap) → (p : ProfileName) (new : NewObjects) (f : Forest Entry) → is_full new.untyped f ≡ true → (e : ℕ)
    → list_any (λ k. e == k) (filter_map base_of (caps (with_objects p new f))) ≡ (list_any (λ k. e == k) (new_bases base_of p new) || list_any (λ k. e == k) (filter_map base_of (caps f)))
live-objects base_of same p new f h e =
    any_bases base_of e (caps (with_objects p new f))
    ∙ any_map test (λ (x : Entry). x.cap) (preorder (with_objects p new f))
    ∙ any-with_new (λ (x : Entry). test x.cap) new.untyped (new_caps p new) (freed new.untyped new.placed.free f) (full-freed new.untyped new.untyped new.placed.free f ∙ h)
    ∙ ap (λ b. list_any (λ (put : ℕ × Cap). test put.1) (new_caps p new) || b)
    (any-freed (λ (x : Entry). test x.cap) new.untyped new.placed.free f (λ x. ap (names_base e) (same new.placed.free x.cap)) ∙ sym (any_map test (λ (x : Entry). x.cap) (preorder f)) ∙ sym (any_bases base_of e (caps f)))
    ∙ ap (λ b. b || list_any (λ k. e == k) (filter_map base_of (caps f)))
    (sym (any_map test (λ (put : ℕ × Cap). put.1) (new_caps p new)) ∙ sym (any_bases base_of e (map (λ (put : ℕ × Cap). put.1) (new_caps p new))))
  where
    test : Cap → Bool
    test c = names_base e (base_of c)
