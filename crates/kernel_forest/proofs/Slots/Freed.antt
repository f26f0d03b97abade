-- What another free index changes: the one capability, and no slot.
use Rattle.std.proofs.Common.{◌≡◌, ◌≢◌, ℕ, Bool, true, false, cond, ◌||◌, ◌==◌, eqb, List, [], ◌∷◌, map, filter, refl, sym, ◌∙◌, ap, subst, arith}
use Rattle.std.specs.List.{AllByRecursion as Each, Contains, list_any, IsDistinct}
use Rattle.std.proofs.lemmas.Bool.Decides.{nat_tests}
use Rattle.cap_core.specs.declared.capability.Cap.{Cap}
use Rattle.cap_core.specs.declared.capability.Cap.TheVariants.{Null, Untyped, Endpoint, CNode, Tcb}
use Rattle.cap_core.specs.Objects.{same_object}
use Rattle.kernel_forest.specs.Forest.{Forest, preorder}
use Rattle.kernel_forest.specs.Entries.{Entry, entry, is_at, is_full, cap_at, cap_in, slots}
use Rattle.kernel_forest.specs.Derivation.{freed, with_free, is_named}
use Rattle.kernel_forest.proofs.Trees.Forests.{each-contains}
use Rattle.kernel_forest.proofs.Trees.Built.{preorder-renamed}
use Rattle.kernel_forest.proofs.Slots.Holding.{cap_in-same_entries}
use Rattle.kernel_forest.proofs.Trees.Renamed.{each-renamed}

-- the entry with its new free index
abbrev pub freed_entry : ℕ → ℕ → Entry → Entry
freed_entry slot free e = cond (is_at slot e) (entry e.slot (with_free free e.cap) e.original) e

pub preorder-freed : (slot free : ℕ) (f : Forest Entry) → preorder (freed slot free f) ≡ map (freed_entry slot free) (preorder f)
preorder-freed slot free f = preorder-renamed (freed_entry slot free) f

pub slot-freed_entry : (slot free : ℕ) (e : Entry) → (freed_entry slot free e).slot ≡ e.slot
slot-freed_entry slot free e = elim (e.slot == slot) as (λ c. (cond c (entry e.slot (with_free free e.cap) e.original) e).slot ≡ e.slot) [ true ↦ refl | false ↦ refl ]

-- which entries there are, and what holds of each

pub each-freed : (P : Entry → Type 0) (slot free : ℕ) (f : Forest Entry) → Each P (preorder f)
    → ((e : Entry) → Contains (preorder f) e → e.slot ≡ slot → P (entry slot (with_free free e.cap) e.original)) → Each P (preorder (freed slot free f))
each-freed P slot free f h k = each-renamed P (freed_entry slot free) f (go (preorder f) h (each-contains (preorder f)))
  where
    same : (i : ℕ) → (i == slot) ≡ true → i ≡ slot
    same i t = grind (arith, nat_tests)

    one : (e : Entry) → P e → Contains (preorder f) e → P (freed_entry slot free e)
    one e g m =
        (elim (e.slot == slot) as (λ c. (e.slot == slot) ≡ c → P (cond c (entry e.slot (with_free free e.cap) e.original) e)) [
          | true ↦ λ t. let Q : ℕ → Type 0 = λ i. P (entry i (with_free free e.cap) e.original) in subst Q (sym (same e.slot t)) (k e m (same e.slot t))
          | false ↦ λ t. g
        ]) refl

    go : (l : List Entry) → Each P l → Each (Contains (preorder f)) l → Each (λ (e : Entry). P (freed_entry slot free e)) l
    go [] g m = tt
    go (e ∷ l) g m = (one e g.0 m.0, go l g.1 m.1)

-- the slots are the same, and so are the full ones and the objects named

pub slots-freed : (slot free : ℕ) (f : Forest Entry) → slots (freed slot free f) ≡ slots f
slots-freed slot free f = ap (map (λ (e : Entry). e.slot)) (preorder-freed slot free f) ∙ go (preorder f)
  where
    go : (l : List Entry) → map (λ (e : Entry). e.slot) (map (freed_entry slot free) l) ≡ map (λ (e : Entry). e.slot) l
    go [] = refl
    go (e ∷ l) = ap (λ i. i ∷ map (λ (e : Entry). e.slot) (map (freed_entry slot free) l)) (slot-freed_entry slot free e) ∙ ap (λ m. e.slot ∷ m) (go l)

pub distinct-freed : (slot free : ℕ) (f : Forest Entry) → IsDistinct eqb (slots f) → IsDistinct eqb (slots (freed slot free f))
distinct-freed slot free f d = let P : List ℕ → Type 0 = IsDistinct eqb in subst P (sym (slots-freed slot free f)) d

-- a test that does not look at the free index
pub any-freed : (q : Entry → Bool) (slot free : ℕ) (f : Forest Entry) → ((e : Entry) → q (entry e.slot (with_free free e.cap) e.original) ≡ q e)
    → list_any q (preorder (freed slot free f)) ≡ list_any q (preorder f)
any-freed q slot free f h = ap (list_any q) (preorder-freed slot free f) ∙ go (preorder f)
  where
    one : (e : Entry) → q (freed_entry slot free e) ≡ q e
    one e = elim (e.slot == slot) as (λ c. q (cond c (entry e.slot (with_free free e.cap) e.original) e) ≡ q e) [ true ↦ h e | false ↦ refl ]

    go : (l : List Entry) → list_any q (map (freed_entry slot free) l) ≡ list_any q l
    go [] = refl
    go (e ∷ l) = ap (λ b. b || list_any q (map (freed_entry slot free) l)) (one e) ∙ ap (λ b. q e || b) (go l)

pub full-freed : (a slot free : ℕ) (f : Forest Entry) → is_full a (freed slot free f) ≡ is_full a f
full-freed a slot free f = any-freed (is_at a) slot free f (λ e. refl)

pub same_object-freed : (free : ℕ) (cap object : Cap) → same_object (with_free free cap) object ≡ same_object cap object
same_object-freed free Null object = refl
same_object-freed free (Untyped base bits former) object = refl
same_object-freed free (Endpoint base badge rights) object = refl
same_object-freed free (CNode base radix guard) object = refl
same_object-freed free (Tcb base) object = refl

pub named-freed : (object : Cap) (slot free : ℕ) (f : Forest Entry) → is_named object (freed slot free f) ≡ is_named object f
named-freed object slot free f = any-freed (λ (e : Entry). same_object e.cap object) slot free f (λ e. same_object-freed free e.cap object)

-- what the slots hold

pub cap-freed_here : (slot free : ℕ) (f : Forest Entry) → cap_at (freed slot free f) slot ≡ with_free free (cap_at f slot)
cap-freed_here slot free f = ap (cap_in slot) (preorder-freed slot free f) ∙ go (preorder f)
  where
    go : (l : List Entry) → cap_in slot (map (freed_entry slot free) l) ≡ with_free free (cap_in slot l)
    go [] = refl
    go (e ∷ l) =
        (elim (e.slot == slot) as (λ c. (e.slot == slot) ≡ c → cap_in slot (cond c (entry e.slot (with_free free e.cap) e.original) e ∷ map (freed_entry slot free) l) ≡ with_free free (cond c e.cap (cap_in slot l))) [
          | true ↦ λ t. rw t refl
          | false ↦ λ t. rw t (go l)
        ]) refl

pub cap-freed_other : (a slot free : ℕ) (f : Forest Entry) → a ≢ slot → cap_at (freed slot free f) a ≡ cap_at f a
cap-freed_other a slot free f h =
    cap_in-same_entries a (preorder (freed slot free f)) (preorder f) (ap (filter (is_at a)) (preorder-freed slot free f) ∙ go (preorder f))
  where
    here : (i : ℕ) → (i == slot) ≡ true → (i == a) ≡ false
    here i t = grind (arith, nat_tests)

    go : (l : List Entry) → filter (is_at a) (map (freed_entry slot free) l) ≡ filter (is_at a) l
    go [] = refl
    go (e ∷ l) =
        (elim (e.slot == slot) as (λ c. (e.slot == slot) ≡ c → filter (is_at a) (cond c (entry e.slot (with_free free e.cap) e.original) e ∷ map (freed_entry slot free) l) ≡ filter (is_at a) (e ∷ l)) [
          | true ↦ λ t. rw (here e.slot t) (go l)
          | false ↦ λ t. ap (λ m. cond (e.slot == a) (e ∷ m) m) (go l)
        ]) refl

-- and the children are the same
