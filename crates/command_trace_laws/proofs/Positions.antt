-- A forest is told by what stands in it, each with the slot that it stands right below and the one right in front of it.
use Rattle.std.proofs.Common.{◌≡◌, ℕ, Option, None, Some, ◌⊎◌, inl, inr, refl, sym, subst}
use Rattle.kernel_forest.specs.Forest.{Forest, none, tree}

-- something in the forest is at a slot
abbrev pub Has : {X : Type 0} → (X → ℕ) → ℕ → Forest X → Type 0
Has at slot none = ⊥
Has at slot (tree x under others) = (slot ≡ at x) ⊎ (Has at slot under ⊎ Has at slot others)

-- no two things in the forest are at one slot
abbrev pub Apart : {X : Type 0} → (X → ℕ) → Forest X → Type 0
Apart at none = Unit {0}
Apart at (tree x under others) =
    (Has at (at x) under → ⊥) × (Has at (at x) others → ⊥) × ((slot : ℕ) → Has at slot under → Has at slot others → ⊥) × Apart at under × Apart at others

-- in a forest below `above` and behind `before`, x stands right below a and right behind b
abbrev pub Stands : {X : Type 0} → (X → ℕ) → Option ℕ → Option ℕ → Forest X → X → Option ℕ → Option ℕ → Type 0
Stands at above before none x a b = ⊥
Stands at above before (tree y under others) x a b =
    ((x ≡ y) × (a ≡ above) × (b ≡ before)) ⊎ (Stands at (Some (at y)) None under x a b ⊎ Stands at above (Some (at y)) others x a b)

-- one of the forest's slots
abbrev IsOf : {X : Type 0} → (X → ℕ) → Option ℕ → Forest X → Type 0
IsOf at slot f = (s : ℕ) × (slot ≡ Some s) × Has at s f

abbrev IsOff : {X : Type 0} → (X → ℕ) → Option ℕ → Forest X → Type 0
IsOff at slot f = IsOf at slot f → ⊥

-- ---- what something stands below and behind

below_it : {X : Type 0} (at : X → ℕ) (above before : Option ℕ) (f : Forest X) (x : X) (a b : Option ℕ) → Stands at above before f x a b →
    ((a ≡ above) × ((b ≡ before) ⊎ IsOf at b f)) ⊎ IsOf at a f
below_it at above before none x a b h = absurd h
below_it at above before (tree y under others) x a b (inl same) = inl (same.1, inl same.2)
below_it at above before (tree y under others) x a b (inr (inl h)) =
    elim (below_it at (Some (at y)) None under x a b h) [
      | inl top ↦ inr (at y, top.0, inl refl)
      | inr deep ↦ inr (deep.0, deep.1, inr (inl deep.2))
    ]
below_it at above before (tree y under others) x a b (inr (inr h)) =
    elim (below_it at above (Some (at y)) others x a b h) [
      | inl top ↦ inl (
        top.0,
        elim top.1 as (λ _. (b ≡ before) ⊎ IsOf at b (tree y under others)) [
          | inl first ↦ inr (at y, first, inl refl)
          | inr later ↦ inr (later.0, later.1, inr (inr later.2))
        ],
      )
      | inr deep ↦ inr (deep.0, deep.1, inr (inr deep.2))
    ]

behind_it : {X : Type 0} (at : X → ℕ) (above before : Option ℕ) (f : Forest X) (x : X) (a b : Option ℕ) → Stands at above before f x a b →
    (b ≡ before) ⊎ ((b ≡ None) ⊎ IsOf at b f)
behind_it at above before none x a b h = absurd h
behind_it at above before (tree y under others) x a b (inl same) = inl same.2
behind_it at above before (tree y under others) x a b (inr (inl h)) =
    elim (behind_it at (Some (at y)) None under x a b h) [
      | inl first ↦ inr (inl first)
      | inr k ↦ elim k [
        | inl first ↦ inr (inl first)
        | inr later ↦ inr (inr (later.0, later.1, inr (inl later.2)))
      ]
    ]
behind_it at above before (tree y under others) x a b (inr (inr h)) =
    elim (behind_it at above (Some (at y)) others x a b h) [
      | inl first ↦ inr (inr (at y, first, inl refl))
      | inr k ↦ elim k [
        | inl first ↦ inr (inl first)
        | inr later ↦ inr (inr (later.0, later.1, inr (inr later.2)))
      ]
    ]

-- ---- slots of different parts

same_slot : (s t : ℕ) (a : Option ℕ) → a ≡ Some s → a ≡ Some t → s ≡ t
same_slot s t a e f = cc

module _ {X : Type 0} (at : X → ℕ) (y : X) (under others : Forest X) (apart : Apart at (tree y under others)) where
  root_under : (a : Option ℕ) → a ≡ Some (at y) → IsOff at a under
  root_under a e h = apart.0 (subst (λ s. Has at s under) (same_slot h.0 (at y) a h.1 e) h.2)

  root_others : (a : Option ℕ) → a ≡ Some (at y) → IsOff at a others
  root_others a e h = apart.1 (subst (λ s. Has at s others) (same_slot h.0 (at y) a h.1 e) h.2)

  not_both : (a : Option ℕ) → IsOf at a under → IsOff at a others
  not_both a h k = apart.2 h.0 h.2 (subst (λ s. Has at s others) (same_slot k.0 h.0 a k.1 h.1) k.2)

none_off : {X : Type 0} (at : X → ℕ) (f : Forest X) → IsOff at None f
none_off at f h = absurd (let w : None ≡ Some h.0 = h.1 in cc)

-- ---- a forest that is read off

-- what stands right below a and right behind b, as some things are told to stand
abbrev Reads : {X : Type 0} → (X → ℕ) → (X → Option ℕ → Option ℕ → Type 0) → Option ℕ → Option ℕ → Forest X → Type 0
Reads {X} at T above before none = (x : X) → T x above before → ⊥
Reads {X} at T above before (tree y under others) =
    T y above before × ((x : X) → T x above before → x ≡ y) × Reads at T (Some (at y)) None under × Reads at T above (Some (at y)) others

same_read : {X : Type 0} (at : X → ℕ) (T : X → Option ℕ → Option ℕ → Type 0) (above before : Option ℕ) (f g : Forest X) → Reads at T above before f → Reads at T above before g → f ≡ g
same_read at T above before none none h k = refl
same_read at T above before none (tree y under others) h k = absurd (h y k.0)
same_read at T above before (tree x below beside) none h k = absurd (k x h.0)
same_read at T above before (tree x below beside) (tree y under others) h k =
    let first : x ≡ y = k.1 x h.0 in
    let down = same_read at T (Some (at x)) None below under h.2 (subst (λ z. Reads at T (Some (at z)) None under) (sym first) k.2) in
    let on = same_read at T above (Some (at x)) beside others h.3 (subst (λ z. Reads at T above (Some (at z)) others) (sym first) k.3) in
    λ i. tree (first i) (down i) (on i)

-- what is told to stand is what stands in the forest, so far as it stands there or is told to stand at its slots
record IsTold {X : Type 0} (at : X → ℕ) (T : X → Option ℕ → Option ℕ → Type 0) (above before : Option ℕ) (f : Forest X) : Type 0 where
  apart : Apart at f
  off_above : IsOff at above f
  off_before : IsOff at before f
  all : (x : X) (a b : Option ℕ) → Stands at above before f x a b → T x a b
  mine : (x : X) → T x above before → Stands at above before f x above before
  into : (x : X) (a b : Option ℕ) → T x a b → IsOf at a f ⊎ IsOf at b f → Stands at above before f x a b

module _ {X : Type 0} (at : X → ℕ) (T : X → Option ℕ → Option ℕ → Type 0) (above before : Option ℕ) (y : X) (under others : Forest X) (told : IsTold at T above before (tree y under others)) where
  -- above and before are off both parts and the root
  above_root : above ≡ Some (at y) → ⊥
  above_root e = told.off_above (at y, e, inl refl)

  above_under : IsOff at above under
  above_under h = told.off_above (h.0, h.1, inr (inl h.2))

  above_others : IsOff at above others
  above_others h = told.off_above (h.0, h.1, inr (inr h.2))

  before_root : before ≡ Some (at y) → ⊥
  before_root e = told.off_before (at y, e, inl refl)

  before_under : IsOff at before under
  before_under h = told.off_before (h.0, h.1, inr (inl h.2))

  before_others : IsOff at before others
  before_others h = told.off_before (h.0, h.1, inr (inr h.2))

  only : (x : X) → T x above before → x ≡ y
  only x t =
      elim (told.mine x t) [
        | inl same ↦ same.0
        | inr h ↦ elim h [
          | inl down ↦ elim (below_it at (Some (at y)) None under x above before down) [
            | inl top ↦ absurd (above_root top.0)
            | inr deep ↦ absurd (above_under deep)
          ]
          | inr on ↦ elim (below_it at above (Some (at y)) others x above before on) [
            | inl top ↦ elim top.1 as (λ _. x ≡ y) [
              | inl first ↦ absurd (before_root first)
              | inr later ↦ absurd (before_others later)
            ]
            | inr deep ↦ absurd (above_others deep)
          ]
        ]
      ]

  mine_under : (x : X) → T x (Some (at y)) None → Stands at (Some (at y)) None under x (Some (at y)) None
  mine_under x t =
      elim (told.into x (Some (at y)) None t (inl (at y, refl, inl refl))) [
        | inl same ↦ absurd (above_root (sym same.1))
        | inr h ↦ elim h [
          | inl down ↦ down
          | inr on ↦ elim (below_it at above (Some (at y)) others x (Some (at y)) None on) [
            | inl top ↦ absurd (above_root (sym top.0))
            | inr deep ↦ absurd (root_others at y under others told.apart (Some (at y)) refl deep)
          ]
        ]
      ]

  mine_others : (x : X) → T x above (Some (at y)) → Stands at above (Some (at y)) others x above (Some (at y))
  mine_others x t =
      elim (told.into x above (Some (at y)) t (inr (at y, refl, inl refl))) [
        | inl same ↦ absurd (before_root (sym same.2))
        | inr h ↦ elim h [
          | inl down ↦ elim (below_it at (Some (at y)) None under x above (Some (at y)) down) [
            | inl top ↦ absurd (above_root top.0)
            | inr deep ↦ absurd (above_under deep)
          ]
          | inr on ↦ on
        ]
      ]

  -- what stands below or behind a slot of the one part does not stand in the other
  not_others : (x : X) (a b : Option ℕ) → IsOf at a under ⊎ IsOf at b under → Stands at above (Some (at y)) others x a b → ⊥
  not_others x a b (inl h) on =
      elim (below_it at above (Some (at y)) others x a b on) [
        | inl top ↦ above_under (subst (λ s. IsOf at s under) top.0 h)
        | inr deep ↦ not_both at y under others told.apart a h deep
      ]
  not_others x a b (inr h) on =
      elim (behind_it at above (Some (at y)) others x a b on) [
        | inl first ↦ root_under at y under others told.apart b first h
        | inr k ↦ elim k [
          | inl first ↦ none_off at under (subst (λ s. IsOf at s under) first h)
          | inr later ↦ not_both at y under others told.apart b h later
        ]
      ]

  not_under : (x : X) (a b : Option ℕ) → IsOf at a others ⊎ IsOf at b others → Stands at (Some (at y)) None under x a b → ⊥
  not_under x a b (inl h) down =
      elim (below_it at (Some (at y)) None under x a b down) [
        | inl top ↦ root_others at y under others told.apart a top.0 h
        | inr deep ↦ not_both at y under others told.apart a deep h
      ]
  not_under x a b (inr h) down =
      elim (behind_it at (Some (at y)) None under x a b down) [
        | inl first ↦ none_off at others (subst (λ s. IsOf at s others) first h)
        | inr k ↦ elim k [
          | inl alone ↦ none_off at others (subst (λ s. IsOf at s others) alone h)
          | inr later ↦ not_both at y under others told.apart b later h
        ]
      ]

  -- nor at the root
  not_root : (part : Forest X) → IsOff at above part → IsOff at before part → (a b : Option ℕ) → IsOf at a part ⊎ IsOf at b part → a ≡ above → b ≡ before → ⊥
  not_root part u v a b (inl h) e f = u (subst (λ s. IsOf at s part) e h)
  not_root part u v a b (inr h) e f = v (subst (λ s. IsOf at s part) f h)

  of_tree : (a : Option ℕ) → IsOf at a under ⊎ IsOf at a others → IsOf at a (tree y under others)
  of_tree a (inl h) = (h.0, h.1, inr (inl h.2))
  of_tree a (inr h) = (h.0, h.1, inr (inr h.2))

  into_under : (x : X) (a b : Option ℕ) → T x a b → IsOf at a under ⊎ IsOf at b under → Stands at (Some (at y)) None under x a b
  into_under x a b t h =
      elim (told.into x a b t (elim h as (λ _. IsOf at a (tree y under others) ⊎ IsOf at b (tree y under others)) [ inl u ↦ inl (of_tree a (inl u)) | inr u ↦ inr (of_tree b (inl u)) ])) [
        | inl same ↦ absurd (not_root under above_under before_under a b h same.1 same.2)
        | inr k ↦ elim k [ inl down ↦ down | inr on ↦ absurd (not_others x a b h on) ]
      ]

  into_others : (x : X) (a b : Option ℕ) → T x a b → IsOf at a others ⊎ IsOf at b others → Stands at above (Some (at y)) others x a b
  into_others x a b t h =
      elim (told.into x a b t (elim h as (λ _. IsOf at a (tree y under others) ⊎ IsOf at b (tree y under others)) [ inl u ↦ inl (of_tree a (inr u)) | inr u ↦ inr (of_tree b (inr u)) ])) [
        | inl same ↦ absurd (not_root others above_others before_others a b h same.1 same.2)
        | inr k ↦ elim k [ inl down ↦ absurd (not_under x a b h down) | inr on ↦ on ]
      ]

  told_under : IsTold at T (Some (at y)) None under
  told_under =
      record {
        apart = told.apart.3;
        off_above = root_under at y under others told.apart (Some (at y)) refl;
        off_before = none_off at under;
        all = λ x a b h. told.all x a b (inr (inl h));
        mine = mine_under;
        into = into_under;
      }

  told_others : IsTold at T above (Some (at y)) others
  told_others =
      record {
        apart = told.apart.4;
        off_above = above_others;
        off_before = root_others at y under others told.apart (Some (at y)) refl;
        all = λ x a b h. told.all x a b (inr (inr h));
        mine = mine_others;
        into = into_others;
      }

reads : {X : Type 0} (at : X → ℕ) (T : X → Option ℕ → Option ℕ → Type 0) (above before : Option ℕ) (f : Forest X) → IsTold at T above before f → Reads at T above before f
reads at T above before none told = told.mine
reads at T above before (tree y under others) told = (
  told.all y above before (inl (refl, refl, refl)),
  only at T above before y under others told,
  reads at T (Some (at y)) None under (told_under at T above before y under others told),
  reads at T above (Some (at y)) others (told_others at T above before y under others told),
)

-- two forests in which the same stands, each below and behind the same, are the same
pub same_forest : {X : Type 0} (at : X → ℕ) (f g : Forest X) → Apart at f → Apart at g →
    ((x : X) (a b : Option ℕ) → Stands at None None f x a b → Stands at None None g x a b) →
    ((x : X) (a b : Option ℕ) → Stands at None None g x a b → Stands at None None f x a b) → f ≡ g
same_forest {X} at f g apart others on back =
    let T : X → Option ℕ → Option ℕ → Type 0 = Stands at None None f in
    same_read at T None None f g
    (reads at T None None f (record { apart = apart; off_above = none_off at f; off_before = none_off at f; all = λ x a b h. h; mine = λ x t. t; into = λ x a b t h. t }))
    (reads at T None None g (record { apart = others; off_above = none_off at g; off_before = none_off at g; all = back; mine = λ x t. on x None None t; into = λ x a b t h. on x a b t }))
