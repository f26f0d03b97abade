-- A revoke with which no object ends that has slots: what was derived goes, and nothing else.
use Rattle.std.proofs.Common.{◌≡◌, ◌⊎◌, inl, inr, ℕ, zero, suc, Bool, true, false, not, ◌==◌, ◌||◌, List, [], length, Some, None, refl, sym, ◌∙◌, ap, subst}
use Rattle.std.specs.List.{AllByRecursion as Each}
use Rattle.std.proofs.lemmas.Bool.{eqb-true}
use Rattle.cap_core.specs.declared.profile.ProfileName.{ProfileName}
use Rattle.cap_core.specs.Objects.{same_object}
use Rattle.kernel_forest.specs.Forest.{Forest, none, tree, preorder, tops, below_those, descendants}
use Rattle.kernel_forest.specs.Entries.{Entry, is_at, first_slot, first_child}
use Rattle.kernel_forest.specs.Slots.{slots_of}
use Rattle.kernel_forest.specs.Without.{without}
use Rattle.query_revoke.specs.Below.{is_below}
use Rattle.kernel_delete.specs.Clear.{clear}
use Rattle.kernel_delete.specs.Least.{full, has_all, cleared, IsClosed}
use Rattle.kernel_delete.specs.Members.{In, AreApart}
use Rattle.kernel_delete.specs.Revoke.{revoked, revoke}
use Rattle.kernel_delete.proofs.Below.{below_those-without}
use Rattle.kernel_delete.proofs.Kept.{in_without, without_in}
use Rattle.kernel_delete.proofs.Members.{true_right, any_in, any_of, all_in, all_of, each_in, each_of, tells, same_truth, eqb_self}
use Rattle.kernel_delete.proofs.Objects.{has_self}
use Rattle.kernel_delete.proofs.Revoking.{child_or_none, revoked_none, revoked_some, revoke_ends}
use Rattle.kernel_delete.proofs.Rounds.{cleared_least}
use Rattle.kernel_delete.proofs.Without.{without-without}

-- some have left a forest, all of them of a set
record Shrunk (D : ℕ → Bool) (f g : Forest Entry) : Type 0 where
  gone : ℕ → Bool
  is : g ≡ without (λ (e : Entry). gone e.slot) f
  within : (n : ℕ) → gone n ≡ true → D n ≡ true

nothing_left : (f : Forest Entry) → f ≡ without (λ (e : Entry). false) f
nothing_left none = refl
nothing_left (tree a k r) = λ i. tree a (nothing_left k i) (nothing_left r i)

in_shrunk : (D : ℕ → Bool) (f g : Forest Entry) (s : Shrunk D f g) (a : Entry) → In a (preorder g) → In a (preorder f)
in_shrunk D f g s a i =
    let P : Forest Entry → Type 0 = λ h. In a (preorder h) in
    (in_without (λ (e : Entry). s.gone e.slot) f a (subst P s.is i)).0

-- the set stays closed
has_all_before : (D : ℕ → Bool) (f g : Forest Entry) (s : Shrunk D f g) (a : Entry) → has_all (preorder g) D a ≡ true → has_all (preorder f) D a ≡ true
has_all_before D f g s a h = all_of (λ (b : Entry). not (same_object a.cap b.cap) || D b.slot) (preorder f) (λ b i.
    elim (tells (s.gone b.slot)) [
      | inl left ↦ true_right (not (same_object a.cap b.cap)) (D b.slot) (s.within b.slot left)
      | inr stays ↦ (
          let P : Forest Entry → Type 0 = λ k. In b (preorder k) in
          let there : In b (preorder g) = subst P (sym s.is) (without_in (λ (e : Entry). s.gone e.slot) f b i stays) in
          all_in (λ (b : Entry). not (same_object a.cap b.cap) || D b.slot) (preorder g) b h there)
    ])

full_before : (D : ℕ → Bool) (f g : Forest Entry) (s : Shrunk D f g) (n : ℕ) → full (preorder g) n ≡ true → full (preorder f) n ≡ true
full_before D f g s n h =
    let w = any_of (is_at n) (preorder g) h in
    any_in (is_at n) (preorder f) w.0 (in_shrunk D f g s w.0 w.1.0) w.1.1

closed_left : (p : ProfileName) (D : ℕ → Bool) (f g : Forest Entry) → Shrunk D f g → IsClosed p (preorder f) D → IsClosed p (preorder g) D
closed_left p D f g s closed = each_of (λ (a : Entry). has_all (preorder g) D a ≡ true → Each (λ n. full (preorder g) n ≡ true → D n ≡ true) (slots_of p a.cap)) (preorder g)
    (λ a i h.
    let was = each_in (λ (a : Entry). has_all (preorder f) D a ≡ true → Each (λ n. full (preorder f) n ≡ true → D n ≡ true) (slots_of p a.cap)) (preorder f) a closed (in_shrunk D f g s a i)
    (has_all_before D f g s a h) in
    each_of (λ n. full (preorder g) n ≡ true → D n ≡ true) (slots_of p a.cap)
    (λ n j e. each_in (λ n. full (preorder f) n ≡ true → D n ≡ true) (slots_of p a.cap) n was j (full_before D f g s n e)))

-- one of the set is cleared: then what leaves is of the set
clear_shrunk : (p : ProfileName) (D : ℕ → Bool) (f g : Forest Entry) (c : ℕ) → Shrunk D f g → IsClosed p (preorder f) D → D c ≡ true → Shrunk D f (clear p c g)
clear_shrunk p D f g c s closed of = record {
  gone = λ n. s.gone n || cleared p (preorder g) c n;
  is = ap (without (λ (e : Entry). cleared p (preorder g) c e.slot)) s.is ∙ without-without (λ (e : Entry). cleared p (preorder g) c e.slot) (λ (e : Entry). s.gone e.slot) f;
  within = λ n. either (s.gone n) (cleared p (preorder g) c n) (D n) (s.within n) ((cleared_least p (preorder g) c).least D (λ h. of) (closed_left p D f g s closed) n);
}
  where
    either : (x y z : Bool) → (x ≡ true → z ≡ true) → (y ≡ true → z ≡ true) → (x || y) ≡ true → z ≡ true
    either true y z h k e = h refl
    either false y z h k e = k e

-- the first child of a slot stands below it
first_top : (h : Forest Entry) (c : ℕ) → first_slot (tops h) ≡ Some c → (a : Entry) × (In a (preorder h) × (a.slot ≡ c))
first_top none c e = cc
first_top (tree a k r) c e = (a, (inl refl, cc))

no_top : (h : Forest Entry) → first_slot (tops h) ≡ None → h ≡ none
no_top none e = refl
no_top (tree a k r) e = cc

not_gone : (g d : Bool) → (g ≡ true → d ≡ true) → d ≡ false → g ≡ false
not_gone true d h e = let z : true ≡ false = sym (h refl) ∙ e in cc
not_gone false d h e = refl

below_shrunk : (D : ℕ → Bool) (f g : Forest Entry) (s : ℕ) (h : Shrunk D f g) → AreApart (preorder f) → D s ≡ false →
    below_those (is_at s) g ≡ without (λ (e : Entry). h.gone e.slot) (below_those (is_at s) f)
below_shrunk D f g s h apart out =
    ap (below_those (is_at s)) h.is ∙ below_those-without (is_at s) (λ (e : Entry). h.gone e.slot) stays f (apart s)
  where
    stays : (a : Entry) → is_at s a ≡ true → h.gone a.slot ≡ false
    stays a e = ap h.gone (eqb-true a.slot s e) ∙ not_gone (h.gone s) (D s) (h.within s) out

child_below : (f g : Forest Entry) (s c : ℕ) → Shrunk (is_below s f) f g → AreApart (preorder f) → is_below s f s ≡ false → first_child s g ≡ Some c → is_below s f c ≡ true
child_below f g s c h apart out e =
    let w = first_top (below_those (is_at s) g) c e in
    let P : Forest Entry → Type 0 = λ k. In w.0 (preorder k) in
    let there = (in_without (λ (e : Entry). h.gone e.slot) (below_those (is_at s) f) w.0 (subst P (below_shrunk (is_below s f) f g s h apart out) w.1.0)).0 in
    any_in (is_at c) (descendants (is_at s) f) w.0 there (ap (λ n. n == c) w.1.1 ∙ eqb_self c)

shrinks : (p : ProfileName) (f : Forest Entry) (s k : ℕ) (g : Forest Entry) → AreApart (preorder f) → is_below s f s ≡ false → IsClosed p (preorder f) (is_below s f) →
    Shrunk (is_below s f) f g → Shrunk (is_below s f) f (revoked p k s g)
shrinks p f s zero g apart out closed h = h
shrinks p f s (suc k) g apart out closed h = elim (child_or_none (first_child s g)) [
  | inl e ↦ subst (Shrunk (is_below s f) f) (sym (revoked_none p (suc k) s g e)) h
  | inr w ↦ subst (Shrunk (is_below s f) f) (sym (revoked_some p k s w.0 g w.1))
      (shrinks p f s k (clear p w.0 g) apart out closed (clear_shrunk p (is_below s f) f g w.0 h closed (child_below f g s w.0 h apart out w.1)))
]

all_gone : (f g : Forest Entry) (s : ℕ) (h : Shrunk (is_below s f) f g) → AreApart (preorder f) → is_below s f s ≡ false → first_child s g ≡ None →
    (n : ℕ) → is_below s f n ≡ true → h.gone n ≡ true
all_gone f g s h apart out e n b =
    let w = any_of (is_at n) (descendants (is_at s) f) b in
    let empty : without (λ (e : Entry). h.gone e.slot) (below_those (is_at s) f) ≡ none = sym (below_shrunk (is_below s f) f g s h apart out) ∙ no_top (below_those (is_at s) g) e in
    elim (tells (h.gone w.0.slot)) [
      | inl left ↦ sym (ap h.gone (eqb-true w.0.slot n w.1.1)) ∙ left
      | inr stays ↦ absurd (
          let P : Forest Entry → Type 0 = λ k. In w.0 (preorder k) in
          let there : In w.0 (preorder none) = subst P empty (without_in (λ (e : Entry). h.gone e.slot) (below_those (is_at s) f) w.0 w.1.0 stays) in
          there)
    ]

-- so what stands below the slot leaves, and nothing else
pub revoke_below : (p : ProfileName) (f : Forest Entry) (s : ℕ) → AreApart (preorder f) → is_below s f s ≡ false → IsClosed p (preorder f) (is_below s f) →
    revoke p s f ≡ without (λ (e : Entry). is_below s f e.slot) f
unfolding revoke
revoke_below p f s apart out closed =
    let h = shrinks p f s (length (preorder f)) f apart out closed (record { gone = λ n. false; is = nothing_left f; within = λ n e. cc }) in
    h.is ∙ ap (λ (t : ℕ → Bool). without (λ (e : Entry). t e.slot) f) (λ i n. same_truth (h.gone n) (is_below s f n) (h.within n) (all_gone f (revoke p s f) s h apart out (revoke_ends p s f) n) i)

-- where each object with slots that something below names is named by something that is not below, the set is closed
pub closed_below : (p : ProfileName) (f : Forest Entry) (D : ℕ → Bool) → AreApart (preorder f) →
    ((a : Entry) → In a (preorder f) → D a.slot ≡ true → (slots_of p a.cap ≡ []) ⊎ ((b : Entry) × (In b (preorder f) × ((same_object a.cap b.cap ≡ true) × (D b.slot ≡ false))))) →
    IsClosed p (preorder f) D
closed_below p f D apart named = each_of (λ (a : Entry). has_all (preorder f) D a ≡ true → Each (λ n. full (preorder f) n ≡ true → D n ≡ true) (slots_of p a.cap)) (preorder f)
    (λ a i h. each_of (λ n. full (preorder f) n ≡ true → D n ≡ true) (slots_of p a.cap) (λ n j e. absurd (none a i h n j)))
  where
    or_second : (x y : Bool) → (not x || y) ≡ true → x ≡ true → y ≡ true
    or_second true y h e = h
    or_second false y h e = cc

    none : (a : Entry) → In a (preorder f) → has_all (preorder f) D a ≡ true → (n : ℕ) → In n (slots_of p a.cap) → ⊥
    none a i h n j =
        let own : D a.slot ≡ true = or_second (same_object a.cap a.cap) (D a.slot) (all_in (λ (b : Entry). not (same_object a.cap b.cap) || D b.slot) (preorder f) a h i) (has_self p a.cap n j) in
        elim (named a i own) [
          | inl no_slots ↦ (let P : List ℕ → Type 0 = λ l. In n l in subst P no_slots j)
          | inr w ↦ (
              let in_set : D w.0.slot ≡ true = or_second (same_object a.cap w.0.cap) (D w.0.slot) (all_in (λ (b : Entry). not (same_object a.cap b.cap) || D b.slot) (preorder f) w.0 h w.1.0) w.1.1.0 in
              let z : true ≡ false = sym in_set ∙ w.1.1.1 in
              cc)
        ]
