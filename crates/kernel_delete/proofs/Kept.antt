-- What is kept where some slots are emptied at once: all that every kernel keeps of its full slots.
use Rattle.std.proofs.Common.{◌≡◌, inl, inr, ℕ, zero, suc, Bool, true, false, not, cond, ◌==◌, ◌||◌, ◌&&◌, eqb, List, [], ◌∷◌, map, filter, All, length, refl, sym, ◌∙◌, ap, subst, arith, IsTrue}
use Rattle.std.specs.List.{AllByRecursion as Each, Contains, IsDistinct, list_any}
use Rattle.std.proofs.lemmas.Bool.{eqb-true}
use Rattle.std.proofs.lemmas.List.Elements.{recursion_from_All, All-from_recursion}
use Rattle.cap_core.specs.declared.profile.ProfileName.{ProfileName}
use Rattle.cap_core.specs.Objects.{same_object, is_untyped, contains}
use Rattle.kernel_forest.specs.Forest.{Forest, preorder, below_those, descendants, ancestors}
use Rattle.kernel_forest.specs.Entries.{Entry, is_at, slots, first_child}
use Rattle.kernel_forest.specs.Disjoint.{IsDisjoint, AreInLine, are_disjoint}
use Rattle.kernel_forest.specs.Slots.{slots_of}
use Rattle.kernel_delete.specs.Members.{In}
use Rattle.kernel_delete.specs.Least.{full, has_all, cleared}
use Rattle.kernel_forest.specs.Without.{without}
use Rattle.kernel_delete.specs.Clear.{clear}
use Rattle.kernel_delete.specs.Revoke.{revoked, revoke}
use Rattle.kernel_delete.specs.Housed.{is_housed, IsHoused}
use Rattle.kernel_delete.proofs.Members.{each_in, each_of, any_in, any_of, in_filter, filter_in, tells, eqb_self}
use Rattle.kernel_delete.proofs.Objects.{same_slots}
use Rattle.kernel_delete.proofs.Without.{preorder-without}
use Rattle.kernel_delete.proofs.Orders.{apart_of}
use Rattle.kernel_delete.proofs.Below.{below_those-without, ancestors-without}
use Rattle.kernel_delete.proofs.Rounds.{cleared_least}
use Rattle.kernel_delete.proofs.Revoking.{child_or_none, revoked_none, revoked_some}
use Rattle.kernel_delete.proofs.Clearable.{in_contains, contains_in}

-- which entries stay

pub in_without : {A : Type 0} (t : A → Bool) (f : Forest A) (a : A) → In a (preorder (without t f)) → (In a (preorder f)) × (t a ≡ false)
in_without {A} t f a i =
    let P : List A → Type 0 = In a in
    let x = in_filter (λ b. not (t b)) (preorder f) a (subst P (preorder-without t f) i) in
    (x.0, no (t a) x.1)
  where
    no : (b : Bool) → not b ≡ true → b ≡ false
    no true h = cc
    no false h = refl

pub without_in : {A : Type 0} (t : A → Bool) (f : Forest A) (a : A) → In a (preorder f) → t a ≡ false → In a (preorder (without t f))
without_in {A} t f a i e =
    let P : List A → Type 0 = In a in
    subst P (sym (preorder-without t f)) (filter_in (λ b. not (t b)) (preorder f) a i (ap not e))

pub contains-without : {A : Type 0} (t : A → Bool) (f : Forest A) (a : A) → Contains (preorder (without t f)) a → Contains (preorder f) a
contains-without t f a m = in_contains (preorder f) a (in_without t f a (contains_in (preorder (without t f)) a m)).0

-- what holds of each of them

each-filter : {A : Type 0} (P : A → Type 0) (q : A → Bool) (l : List A) → Each P l → Each P (filter q l)
each-filter P q [] h = tt
each-filter {A} P q (a ∷ l) h = elim (q a) as (λ b. Each P (cond b (a ∷ filter q l) (filter q l))) [ true ↦ (h.0, each-filter P q l h.1) | false ↦ each-filter P q l h.1 ]

pub each-without : {A : Type 0} (P : A → Type 0) (t : A → Bool) (f : Forest A) → Each P (preorder f) → Each P (preorder (without t f))
each-without {A} P t f h = let Q : List A → Type 0 = Each P in subst Q (sym (preorder-without t f)) (each-filter P (λ a. not (t a)) (preorder f) h)

each_of_mapped : {A B : Type 0} (P : B → Type 0) (w : A → B) (l : List A) → Each P (map w l) → Each (λ a. P (w a)) l
each_of_mapped P w [] h = tt
each_of_mapped P w (a ∷ l) h = (h.0, each_of_mapped P w l h.1)

mapped_of_each : {A B : Type 0} (P : B → Type 0) (w : A → B) (l : List A) → Each (λ a. P (w a)) l → Each P (map w l)
mapped_of_each P w [] h = tt
mapped_of_each P w (a ∷ l) h = (h.0, mapped_of_each P w l h.1)

-- as of the slots, or of the capabilities
pub all-without : {A B : Type 0} (P : B → Type 0) (w : A → B) (t : A → Bool) (f : Forest A) → All P (map w (preorder f)) → All P (map w (preorder (without t f)))
all-without P w t f h =
    All-from_recursion P (map w (preorder (without t f)))
    (mapped_of_each P w (preorder (without t f)) (each-without (λ a. P (w a)) t f (each_of_mapped P w (preorder f) (recursion_from_All P (map w (preorder f)) h))))

-- slots stay distinct

distinct-filter : (q : Entry → Bool) (l : List Entry) → IsDistinct eqb (map (λ (e : Entry). e.slot) l) → IsDistinct eqb (map (λ (e : Entry). e.slot) (filter q l))
unfolding IsDistinct
distinct-filter q [] d = tt
distinct-filter q (a ∷ l) d =
    elim (q a) as (λ b. IsDistinct eqb (map (λ (e : Entry). e.slot) (cond b (a ∷ filter q l) (filter q l)))) [
      | true ↦ (
        mapped_of_each (λ n. eqb a.slot n ≡ false) (λ (e : Entry). e.slot) (filter q l)
            (each-filter (λ (e : Entry). eqb a.slot e.slot ≡ false) q l (each_of_mapped (λ n. eqb a.slot n ≡ false) (λ (e : Entry). e.slot) l d.0)),
        distinct-filter q l d.1,
      )
      | false ↦ distinct-filter q l d.1
    ]

pub distinct-without : (t : Entry → Bool) (f : Forest Entry) → IsDistinct eqb (slots f) → IsDistinct eqb (slots (without t f))
distinct-without t f d =
    let P : List Entry → Type 0 = λ l. IsDistinct eqb (map (λ (e : Entry). e.slot) l) in
    subst P (sym (preorder-without t f)) (distinct-filter (λ a. not (t a)) (preorder f) d)

-- what stands below and above a slot that stays, where slots of a set leave

module _ (X : ℕ → Bool) (f : Forest Entry) (distinct : IsDistinct eqb (slots f)) where
  stays : (u b : Entry) → X u.slot ≡ false → is_at u.slot b ≡ true → X b.slot ≡ false
  stays u b h e = ap X (eqb-true b.slot u.slot e) ∙ h

  descendants_left : (u d : Entry) → X u.slot ≡ false → Contains (descendants (is_at u.slot) (without (λ e. X e.slot) f)) d → (Contains (descendants (is_at u.slot) f) d) × (X d.slot ≡ false)
  descendants_left u d h m =
      let P : Forest Entry → Type 0 = λ g. In d (preorder g) in
      let e = below_those-without (is_at u.slot) (λ (e : Entry). X e.slot) (λ b. stays u b h) f (apart_of (preorder f) distinct u.slot) in
      let x = in_without (λ (e : Entry). X e.slot) (below_those (is_at u.slot) f) d (subst P e (contains_in (descendants (is_at u.slot) (without (λ e. X e.slot) f)) d m)) in
      (in_contains (descendants (is_at u.slot) f) d x.0, x.1)

  in_line : (u c : Entry) → X u.slot ≡ false → X c.slot ≡ false → AreInLine f u c → AreInLine (without (λ e. X e.slot) f) u c
  in_line u c h g (inl e) = inl e
  in_line u c h g (inr (inl m)) =
      let P : Forest Entry → Type 0 = λ k. In c (preorder k) in
      let e = below_those-without (is_at u.slot) (λ (e : Entry). X e.slot) (λ b. stays u b h) f (apart_of (preorder f) distinct u.slot) in
      inr (inl (in_contains (descendants (is_at u.slot) (without (λ e. X e.slot) f)) c
      (subst P (sym e) (without_in (λ (e : Entry). X e.slot) (below_those (is_at u.slot) f) c (contains_in (descendants (is_at u.slot) f) c m) g))))
  in_line u c h g (inr (inr m)) =
      let P : List Entry → Type 0 = In c in
      let e = ancestors-without (is_at u.slot) (λ (e : Entry). X e.slot) (λ b. stays u b h) f (apart_of (preorder f) distinct u.slot) in
      inr (inr (in_contains (ancestors (is_at u.slot) (without (λ e. X e.slot) f)) c
      (subst P (sym e) (filter_in (λ (e : Entry). not (X e.slot)) (ancestors (is_at u.slot) f) c (contains_in (ancestors (is_at u.slot) f) c m) (ap not g)))))

  pub disjoint-without : (p : ProfileName) → IsDisjoint p f → IsDisjoint p (without (λ (e : Entry). X e.slot) f)
  disjoint-without p d = record { objects = objects; lines = lines }
    where
      old : (e : Entry) → Contains (preorder (without (λ e. X e.slot) f)) e → (In e (preorder f)) × (X e.slot ≡ false)
      old e m = in_without (λ (e : Entry). X e.slot) f e (contains_in (preorder (without (λ e. X e.slot) f)) e m)

      objects : (a b : Entry) → Contains (preorder (without (λ e. X e.slot) f)) a → Contains (preorder (without (λ e. X e.slot) f)) b → IsTrue (are_disjoint p a.cap b.cap)
      objects a b m n = d.objects a b (in_contains (preorder f) a (old a m).0) (in_contains (preorder f) b (old b n).0)

      lines : (u c : Entry) → Contains (preorder (without (λ e. X e.slot) f)) u → Contains (preorder (without (λ e. X e.slot) f)) c → IsTrue (is_untyped u.cap) → IsTrue (contains p u.cap c.cap)
          → AreInLine (without (λ e. X e.slot) f) u c
      lines u c m n t v = in_line u c (old u m).1 (old c n).1 (d.lines u c (in_contains (preorder f) u (old u m).0) (in_contains (preorder f) c (old c n).0) t v)

  -- what holds between each and all that stands below it, as that this lies in its region
  pub below-without : (R : Entry → Entry → Type 0) → ((a d : Entry) → Contains (preorder f) a → Contains (descendants (is_at a.slot) f) d → R a d)
      → (a d : Entry) → Contains (preorder (without (λ (e : Entry). X e.slot) f)) a → Contains (descendants (is_at a.slot) (without (λ (e : Entry). X e.slot) f)) d → R a d
  below-without R h a d m n =
      let x = in_without (λ (e : Entry). X e.slot) f a (contains_in (preorder (without (λ e. X e.slot) f)) a m) in
      h a d (in_contains (preorder f) a x.0) (descendants_left a d x.1 n).0

-- full slots still lie in live objects where a closed set leaves

housed_step : (b c : Bool) → (b ≡ true → c ≡ true) → c ≡ false → b ≡ false
housed_step true c h e = let z : true ≡ false = sym (h refl) ∙ e in cc
housed_step false c h e = refl

-- where the set has not all capabilities of an object, another of them stays
left_over : (l : List Entry) (X : ℕ → Bool) (a : Entry) → has_all l X a ≡ false → (b : Entry) × (In b l × (same_object a.cap b.cap ≡ true) × (X b.slot ≡ false))
left_over [] X a h = cc
left_over (c ∷ l) X a h =
    (elim (tells (same_object a.cap c.cap)) [
      | inl s ↦ elim (tells (X c.slot)) [
        | inl x ↦ let w = left_over l X a (rest _ _ _ h s x) in (w.0, (inr w.1.0, w.1.1, w.1.2))
        | inr x ↦ (c, (inl refl, s, x))
      ]
      | inr s ↦ let w = left_over l X a (rest' _ _ _ h s) in (w.0, (inr w.1.0, w.1.1, w.1.2))
    ])
  where
    rest : (s x r : Bool) → (not s || x) && r ≡ false → s ≡ true → x ≡ true → r ≡ false
    rest s x r h e f = grind arith

    rest' : (s x r : Bool) → (not s || x) && r ≡ false → s ≡ false → r ≡ false
    rest' s x r h e = grind arith

pub housed-clear : (p : ProfileName) (s : ℕ) (f : Forest Entry) → IsHoused p f → IsHoused p (clear p s f)
housed-clear p s f h =
    each_of (λ (e : Entry). is_housed p (clear p s f) e.slot ≡ true) (preorder (clear p s f)) stays
  where
    X : ℕ → Bool
    X = cleared p (preorder f) s

    lies : (n : ℕ) (a : Entry) → In a (preorder (clear p s f)) → list_any (λ m. m == n) (slots_of p a.cap) ≡ true → is_housed p (clear p s f) n ≡ true
    lies n a i e = any_in (λ (a : Entry). list_any (λ m. m == n) (slots_of p a.cap)) (preorder (clear p s f)) a i e

    takes : (a : Entry) (n : ℕ) → In a (preorder f) → has_all (preorder f) X a ≡ true → In n (slots_of p a.cap) → full (preorder f) n ≡ true → X n ≡ true
    takes a n i g j e =
        each_in (λ m. full (preorder f) m ≡ true → X m ≡ true) (slots_of p a.cap) n
        (each_in (λ (b : Entry). has_all (preorder f) X b ≡ true → Each (λ m. full (preorder f) m ≡ true → X m ≡ true) (slots_of p b.cap)) (preorder f) a (cleared_least p (preorder f) s).closed i g) j e

    stays : (e : Entry) → In e (preorder (clear p s f)) → is_housed p (clear p s f) e.slot ≡ true
    stays e i =
        let x = in_without (λ (e : Entry). cleared p (preorder f) s e.slot) f e i in
        let full_here : full (preorder f) e.slot ≡ true = any_in (is_at e.slot) (preorder f) e x.0 (eqb_self e.slot) in
        let w = any_of (λ (a : Entry). list_any (λ m. m == e.slot) (slots_of p a.cap)) (preorder f) (each_in (λ (e : Entry). is_housed p f e.slot ≡ true) (preorder f) e h x.0) in
        let v = any_of (λ m. m == e.slot) (slots_of p w.0.cap) w.1.1 in
        let P : ℕ → Type 0 = λ m. In m (slots_of p w.0.cap) in
        let j : In e.slot (slots_of p w.0.cap) = subst P (eqb-true v.0 e.slot v.1.1) v.1.0 in
        let o = left_over (preorder f) X w.0 (housed_step (has_all (preorder f) X w.0) (X e.slot) (λ g. takes w.0 e.slot w.1.0 g j full_here) x.1) in
        let Q : List ℕ → Type 0 = λ l. list_any (λ m. m == e.slot) l ≡ true in
        lies e.slot o.0 (without_in (λ (e : Entry). cleared p (preorder f) s e.slot) f o.0 o.1.0 o.1.2) (subst Q (same_slots p w.0.cap o.0.cap o.1.1) w.1.1)

-- what each clear keeps, a revocation keeps

pub kept-revoke : (p : ProfileName) (P : Forest Entry → Type 0) → ((c : ℕ) (g : Forest Entry) → P g → P (clear p c g)) → (s : ℕ) (f : Forest Entry) → P f → P (revoke p s f)
unfolding revoke
kept-revoke p P keeps s f h = go (length (preorder f)) f h
  where
    go : (k : ℕ) (g : Forest Entry) → P g → P (revoked p k s g)
    go zero g h = h
    go (suc k) g h = elim (child_or_none (first_child s g)) [
      | inl e ↦ subst P (sym (revoked_none p (suc k) s g e)) h
      | inr w ↦ subst P (sym (revoked_some p k s w.0 g w.1)) (go k (clear p w.0 g) (keeps w.0 g h))
    ]

pub housed-revoke : (p : ProfileName) (s : ℕ) (f : Forest Entry) → IsHoused p f → IsHoused p (revoke p s f)
housed-revoke p s f h = kept-revoke p (IsHoused p) (housed-clear p) s f h
