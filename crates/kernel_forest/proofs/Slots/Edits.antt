-- What a capability that is put into the forest changes: which slots are full, and of what.
use Rattle.std.proofs.Common.{◌≡◌, ◌≢◌, ℕ, Bool, true, false, cond, ◌&&◌, ◌||◌, ◌==◌, List, [], ◌∷◌, ◌++◌, filter, ◌⊎◌, refl, sym, ◌∙◌, ap, arith}
use Rattle.std.specs.List.{AllByRecursion as Each, Contains, list_any}
use Rattle.std.proofs.lemmas.Bool.Decides.{nat_tests}
use Rattle.std.proofs.lemmas.List.Elements.{filter-append, Contains-append_right}
use Rattle.std.proofs.lemmas.List.{append-nil}
use Rattle.cap_core.specs.declared.capability.Cap.{Cap}
use Rattle.kernel_forest.specs.Forest.{Forest, preorder, below, after}
use Rattle.kernel_forest.specs.Entries.{Entry, entry, is_at, is_full, cap_at, cap_in, is_original, original_in}
use Rattle.kernel_forest.specs.Derivation.{derived, derived_entry, rooted}
use Rattle.kernel_forest.proofs.Trees.Forests.{each-root, each-below, each-after, contains-root, contains-below, contains-after, preorder-root, any-root, any-below, any-after, filter-below, filter-after}

-- what holds of each entry

pub each-rooted : (P : Entry → Type 0) (slot : ℕ) (cap : Cap) (f : Forest Entry) → Each P (preorder f) → P (entry slot cap true) → Each P (preorder (rooted slot cap f))
each-rooted P slot cap f h e = each-root P (entry slot cap true) f h e

pub each-derived : (P : Entry → Type 0) (source slot : ℕ) (cap : Cap) (f : Forest Entry) → Each P (preorder f) → P (derived_entry source slot cap f)
    → Each P (preorder (derived source slot cap f))
each-derived P source slot cap f h e =
    elim (is_original source f) as (λ c. Each P (preorder (cond c (below (is_at source) (derived_entry source slot cap f) f) (after (is_at source) (derived_entry source slot cap f) f)))) [
      | true ↦ each-below P (is_at source) (derived_entry source slot cap f) f h e
      | false ↦ each-after P (is_at source) (derived_entry source slot cap f) f h e
    ]

-- which entries there are

pub contains-rooted : (slot : ℕ) (cap : Cap) (f : Forest Entry) (e : Entry) → Contains (preorder (rooted slot cap f)) e → Contains (preorder f) e ⊎ (entry slot cap true ≡ e)
contains-rooted slot cap f e h = contains-root (entry slot cap true) f e h

pub contains-derived : (source slot : ℕ) (cap : Cap) (f : Forest Entry) (e : Entry) → Contains (preorder (derived source slot cap f)) e
    → Contains (preorder f) e ⊎ (derived_entry source slot cap f ≡ e)
contains-derived source slot cap f e h =
    (elim (is_original source f) as (λ c. Contains (preorder (cond c (below (is_at source) (derived_entry source slot cap f) f) (after (is_at source) (derived_entry source slot cap f) f))) e → Contains (preorder f) e ⊎ (derived_entry source slot cap f ≡ e)) [
      | true ↦ contains-below (is_at source) (derived_entry source slot cap f) f e
      | false ↦ contains-after (is_at source) (derived_entry source slot cap f) f e
    ]) h

-- whether an entry passes a test

pub any-rooted : (q : Entry → Bool) (slot : ℕ) (cap : Cap) (f : Forest Entry) → list_any q (preorder (rooted slot cap f)) ≡ (list_any q (preorder f) || q (entry slot cap true))
any-rooted q slot cap f = any-root q (entry slot cap true) f

pub any-derived : (q : Entry → Bool) (source slot : ℕ) (cap : Cap) (f : Forest Entry) → is_full source f ≡ true
    → list_any q (preorder (derived source slot cap f)) ≡ (list_any q (preorder f) || q (derived_entry source slot cap f))
any-derived q source slot cap f h =
    elim (is_original source f) as (λ c. list_any q (preorder (cond c (below (is_at source) (derived_entry source slot cap f) f) (after (is_at source) (derived_entry source slot cap f) f))) ≡ (list_any q (preorder f) || q (derived_entry source slot cap f))) [
      | true ↦ any-below (is_at source) q (derived_entry source slot cap f) f ∙ ap (λ b. list_any q (preorder f) || (b && q (derived_entry source slot cap f))) h
      | false ↦ any-after (is_at source) q (derived_entry source slot cap f) f ∙ ap (λ b. list_any q (preorder f) || (b && q (derived_entry source slot cap f))) h
    ]

-- which slots are full

pub full-rooted : (a slot : ℕ) (cap : Cap) (f : Forest Entry) → is_full a (rooted slot cap f) ≡ (is_full a f || (slot == a))
full-rooted a slot cap f = any-rooted (is_at a) slot cap f

pub full-derived : (a source slot : ℕ) (cap : Cap) (f : Forest Entry) → is_full source f ≡ true → is_full a (derived source slot cap f) ≡ (is_full a f || (slot == a))
full-derived a source slot cap f h = any-derived (is_at a) source slot cap f h

-- whether an object is named

-- what a slot holds is what the entries at it say

cap_in-filter : (a : ℕ) (l : List Entry) → cap_in a (filter (is_at a) l) ≡ cap_in a l
cap_in-filter a [] = refl
cap_in-filter a (e ∷ l) =
    (elim (e.slot == a) as (λ c. (e.slot == a) ≡ c → cap_in a (cond c (e ∷ filter (is_at a) l) (filter (is_at a) l)) ≡ cond c e.cap (cap_in a l)) [
      | true ↦ λ t. rw t
      | false ↦ λ t. cap_in-filter a l
    ]) refl

original_in-filter : (a : ℕ) (l : List Entry) → original_in a (filter (is_at a) l) ≡ original_in a l
original_in-filter a [] = refl
original_in-filter a (e ∷ l) =
    (elim (e.slot == a) as (λ c. (e.slot == a) ≡ c → original_in a (cond c (e ∷ filter (is_at a) l) (filter (is_at a) l)) ≡ cond c e.original (original_in a l)) [
      | true ↦ λ t. rw t
      | false ↦ λ t. original_in-filter a l
    ]) refl

cap_in-same : (a : ℕ) (l m : List Entry) → filter (is_at a) l ≡ filter (is_at a) m → cap_in a l ≡ cap_in a m
cap_in-same a l m h = sym (cap_in-filter a l) ∙ ap (cap_in a) h ∙ cap_in-filter a m

pub other_at : (a slot : ℕ) → a ≢ slot → (slot == a) ≡ false
other_at a slot h = grind (arith, nat_tests)

entries-rooted : (a slot : ℕ) (cap : Cap) (f : Forest Entry) → a ≢ slot → filter (is_at a) (preorder (rooted slot cap f)) ≡ filter (is_at a) (preorder f)
entries-rooted a slot cap f h =
    ap (filter (is_at a)) (preorder-root (entry slot cap true) f) ∙ filter-append (is_at a) (preorder f) (entry slot cap true ∷ [])
    ∙ ap (λ b. filter (is_at a) (preorder f) ++ cond b (entry slot cap true ∷ []) []) (other_at a slot h) ∙ append-nil (filter (is_at a) (preorder f))

entries-derived : (a source slot : ℕ) (cap : Cap) (f : Forest Entry) → a ≢ slot → filter (is_at a) (preorder (derived source slot cap f)) ≡ filter (is_at a) (preorder f)
entries-derived a source slot cap f h =
    elim (is_original source f) as (λ c. filter (is_at a) (preorder (cond c (below (is_at source) (derived_entry source slot cap f) f) (after (is_at source) (derived_entry source slot cap f) f))) ≡ filter (is_at a) (preorder f)) [
      | true ↦ filter-below (is_at source) (is_at a) (derived_entry source slot cap f) f (other_at a slot h)
      | false ↦ filter-after (is_at source) (is_at a) (derived_entry source slot cap f) f (other_at a slot h)
    ]

-- other slots hold what they held

pub cap-rooted_other : (a slot : ℕ) (cap : Cap) (f : Forest Entry) → a ≢ slot → cap_at (rooted slot cap f) a ≡ cap_at f a
cap-rooted_other a slot cap f h = cap_in-same a (preorder (rooted slot cap f)) (preorder f) (entries-rooted a slot cap f h)

pub cap-derived_other : (a source slot : ℕ) (cap : Cap) (f : Forest Entry) → a ≢ slot → cap_at (derived source slot cap f) a ≡ cap_at f a
cap-derived_other a source slot cap f h = cap_in-same a (preorder (derived source slot cap f)) (preorder f) (entries-derived a source slot cap f h)

-- the slot holds what was put

-- the first entry at a slot, where each entry at it has one capability
cap_in-all : (a : ℕ) (cap : Cap) (l : List Entry) → list_any (is_at a) l ≡ true → Each (λ (e : Entry). (e.slot == a) ≡ true → e.cap ≡ cap) l → cap_in a l ≡ cap
cap_in-all a cap [] h k = cc
cap_in-all a cap (e ∷ l) h k =
    (elim (e.slot == a) as (λ c. (e.slot == a) ≡ c → (c || list_any (is_at a) l) ≡ true → cond c e.cap (cap_in a l) ≡ cap) [
      | true ↦ λ t g. k.0 t
      | false ↦ λ t g. cap_in-all a cap l g k.1
    ]) refl h

original_in-all : (a : ℕ) (original : Bool) (l : List Entry) → list_any (is_at a) l ≡ true → Each (λ (e : Entry). (e.slot == a) ≡ true → e.original ≡ original) l
    → original_in a l ≡ original
original_in-all a original [] h k = cc
original_in-all a original (e ∷ l) h k =
    (elim (e.slot == a) as (λ c. (e.slot == a) ≡ c → (c || list_any (is_at a) l) ≡ true → cond c e.original (original_in a l) ≡ original) [
      | true ↦ λ t g. k.0 t
      | false ↦ λ t g. original_in-all a original l g k.1
    ]) refl h

none_at : (P : Entry → Type 0) (a : ℕ) (l : List Entry) → list_any (is_at a) l ≡ false → Each (λ (e : Entry). (e.slot == a) ≡ true → P e) l
none_at P a [] h = tt
none_at P a (e ∷ l) h =
    ((λ t. absurd (let n : (e.slot == a) ≡ false = front (e.slot == a) (list_any (is_at a) l) h in cc)), none_at P a l (rest (e.slot == a) (list_any (is_at a) l) h))
  where
    front : (b c : Bool) → (b || c) ≡ false → b ≡ false
    front true c h = h
    front false c h = refl

    rest : (b c : Bool) → (b || c) ≡ false → c ≡ false
    rest true c h = cc
    rest false c h = h

-- a tree of its own is no child

-- a full slot has an entry, with its capability

pub entry_at : (a : ℕ) (f : Forest Entry) → is_full a f ≡ true → (e : Entry) × Contains (preorder f) e × (e.slot ≡ a) × (e.cap ≡ cap_at f a)
entry_at a f h = go (preorder f) h
  where
    same : (i : ℕ) → (i == a) ≡ true → i ≡ a
    same i t = grind (arith, nat_tests)

    go : (l : List Entry) → list_any (is_at a) l ≡ true → (e : Entry) × Contains l e × (e.slot ≡ a) × (e.cap ≡ cap_in a l)
    go [] h = cc
    go (e ∷ l) h =
        (elim (e.slot == a) as (λ c. (e.slot == a) ≡ c → (c || list_any (is_at a) l) ≡ true → (d : Entry) × Contains (e ∷ l) d × (d.slot ≡ a) × (d.cap ≡ cond c e.cap (cap_in a l))) [
          | true ↦ λ t g. (e, (0, omega arith, refl), same e.slot t, refl)
          | false ↦ λ t g. let r : (d : Entry) × Contains l d × (d.slot ≡ a) × (d.cap ≡ cap_in a l) = go l g in (r.0, Contains-append_right (e ∷ []) l r.0 r.1, r.2, r.3)
        ]) refl h
