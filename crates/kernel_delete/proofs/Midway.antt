-- How far the clearing of a slot has come.
use Rattle.std.proofs.Common.{◌≡◌, inl, inr, ℕ, suc, ◌+◌, ◌<◌, Bool, true, false, not, cond, ◌||◌, ◌&&◌, ◌==◌, List, [], ◌∷◌, ◌++◌, length, refl, sym, ◌∙◌, ap, subst, arith, length-append}
use Rattle.std.specs.List.{list_any, filter}
use Rattle.std.proofs.lemmas.Bool.{eqb-true}
use Rattle.cap_core.specs.declared.profile.ProfileName.{ProfileName}
use Rattle.kernel_forest.specs.Entries.{Entry, is_at}
use Rattle.cap_core.specs.Objects.{same_object}
use Rattle.kernel_forest.specs.Slots.{slots_of}
use Rattle.kernel_forest.specs.Forest.{Forest, none, tree, preorder, out}
use Rattle.kernel_forest.specs.Without.{without}
use Rattle.kernel_delete.specs.Clear.{clear}
use Rattle.kernel_delete.specs.Least.{full, has_all}
use Rattle.kernel_delete.specs.Members.{In, OneAtMost, AreApart, AreDistinct, AreBelow}
use Rattle.kernel_delete.specs.Work.{held, last_at, named, ended_in, ends, list_after, IsClearable}
use Rattle.cap_core.specs.declared.capability.Cap.{Cap}
use Rattle.cap_core.specs.declared.capability.Cap.TheVariants.{Null}
use Rattle.kernel_delete.proofs.Members.{both_true, any_in, any_of, all_in, tells, in_append, in_filter, filter_in, eqb_self}
use Rattle.kernel_delete.proofs.Without.{preorder-without, out_one}
use Rattle.kernel_delete.proofs.Sets.{Clearing, clearing-begin, clearing-end, clearing-skip, clearing-take, more}
use Rattle.kernel_delete.proofs.Rounds.{least_cleared}
use Rattle.kernel_delete.proofs.Orders.{one_only, apart-without, out_next}
use Rattle.kernel_delete.proofs.Lookups.{out_absent, cap_at_only, remaining, last_all, other_not_all, ended-last, ended-other}

abbrev pub rest : List ℕ → List ℕ
rest [] = []
rest (n ∷ l) = l

-- clearing s in f has come to g, and W is still to be looked at
pub record Midway (p : ProfileName) (f g : Forest Entry) (s size : ℕ) (W : List ℕ) : Type 0 where
  pub gone : ℕ → Bool
  pub left : g ≡ without (λ e. gone e.slot) f
  pub clearing : Clearing p (preorder f) s gone W
  pub distinct : AreDistinct W
  pub below : AreBelow size W
  pub apart : (n : ℕ) → In n (rest W) → (a : Entry) → In a (preorder f) → gone a.slot ≡ false → In n (slots_of p a.cap) → ⊥

pub without_nothing : {A : Type 0} (f : Forest A) → f ≡ without (λ a. false) f
without_nothing none = refl
without_nothing (tree a k r) = λ i. tree a (without_nothing k i) (without_nothing r i)

pub midway-begin : (p : ProfileName) (f : Forest Entry) (s size : ℕ) → s < size → Midway p f f s size (s ∷ [])
midway-begin p f s size h = record {
  gone = λ n. false;
  left = without_nothing f;
  clearing = clearing-begin p (preorder f) s;
  distinct = (λ i. i, tt);
  below = (h, tt);
  apart = λ n i. absurd i;
}

-- at the end the least set has left
pub midway-end : (p : ProfileName) (f g : Forest Entry) (s size : ℕ) → Midway p f g s size [] → g ≡ clear p s f
midway-end p f g s size m = m.left ∙ ap (λ (X : ℕ → Bool). without (λ e. X e.slot) f) (least_cleared p (preorder f) s m.gone (clearing-end p (preorder f) s m.gone m.clearing))

distinct_join : (k l : List ℕ) → AreDistinct k → AreDistinct l → ((n : ℕ) → In n k → In n l → ⊥) → AreDistinct (k ++ l)
distinct_join [] l h g d = g
distinct_join (n ∷ k) l h g d = (λ i. elim (in_append n k l i) [ inl j ↦ h.0 j | inr j ↦ d n (inl refl) j ], distinct_join k l h.1 g (λ m i. d m (inr i)))

below_join : (size : ℕ) (k l : List ℕ) → AreBelow size k → AreBelow size l → AreBelow size (k ++ l)
below_join size [] l h g = g
below_join size (n ∷ k) l h g = (h.0, below_join size k l h.1 g)

rest_in : (n : ℕ) (l : List ℕ) → In n (rest l) → In n l
rest_in n [] i = i
rest_in n (m ∷ l) i = inr i

-- what stands at a full slot of what is left
pub record Stands (f g : Forest Entry) (n : ℕ) (gone : ℕ → Bool) : Type 0 where
  pub a : Entry
  pub at : a.slot ≡ n
  pub here : In a (preorder f)
  pub left : In a (preorder g)
  pub not_gone : gone a.slot ≡ false
  pub only : (b : Entry) → In b (preorder f) → b.slot == a.slot ≡ true → b ≡ a
  pub cap : held (preorder g) a.slot ≡ a.cap

not_of : (b : Bool) → not b ≡ true → b ≡ false
not_of true h = cc
not_of false h = refl

pub stands : (f g : Forest Entry) (n : ℕ) (gone : ℕ → Bool) → AreApart (preorder f) → g ≡ without (λ e. gone e.slot) f → full (preorder g) n ≡ true → Stands f g n gone
stands f g n gone apart left h =
    let w = any_of (is_at n) (preorder g) h in
    let e : w.0.slot ≡ n = eqb-true w.0.slot n w.1.1 in
    let kept : preorder g ≡ remaining gone (preorder f) = ap preorder left ∙ preorder-without (λ e. gone e.slot) f in
    let i = in_filter (λ e. not (gone e.slot)) (preorder f) w.0 (let P : List Entry → Type 0 = λ q. In w.0 q in subst P kept w.1.0) in
    let only : (b : Entry) → In b (preorder f) → b.slot == w.0.slot ≡ true → b ≡ w.0 = λ b j t. one_only (is_at w.0.slot) (preorder f) (apart w.0.slot) w.0 b i.0 j (eqb_self w.0.slot) t in
    record {
      a = w.0;
      at = e;
      here = i.0;
      left = w.1.0;
      not_gone = not_of (gone w.0.slot) i.1;
      only = only;
      cap = cap_at_only (preorder g) w.0.slot w.0 w.1.0 (eqb_self w.0.slot) (λ b j t. only b (in_filter (λ e. not (gone e.slot)) (preorder f) b (let P : List Entry → Type 0 = λ q. In b q in subst P kept j)).0 t);
    }

either_false : (b c : Bool) → b || c ≡ false → b ≡ false
either_false true c h = cc
either_false false c h = refl

remains : (f g : Forest Entry) (gone : ℕ → Bool) → g ≡ without (λ e. gone e.slot) f → preorder g ≡ remaining gone (preorder f)
remains f g gone left = ap preorder left ∙ preorder-without (λ e. gone e.slot) f

-- a full slot is emptied, and was the last of its object
full_last : (p : ProfileName) (f g : Forest Entry) (s size : ℕ) (W : List ℕ) (a : Entry) → IsClearable p size (preorder f) → (m : Midway p f g s size (a.slot ∷ W)) → In a (preorder f) → m.gone a.slot ≡ false →
    ((b : Entry) → In b (preorder f) → b.slot == a.slot ≡ true → b ≡ a) → held (preorder g) a.slot ≡ a.cap → last_at (preorder g) a.slot ≡ true → Midway p f (out (is_at a.slot) g) s size (slots_of p a.cap ++ W)
full_last p f g s size W a law m here not_gone only cap last =
    let kept : preorder g ≡ remaining m.gone (preorder f) = remains f g m.gone m.left in
    let all : has_all (preorder f) (more m.gone a.slot) a ≡ true = last_all (preorder f) m.gone a (let P : List Entry → Type 0 = λ q. held q a.slot ≡ a.cap in subst P kept cap) (let P : List Entry → Type 0 = λ q. last_at q a.slot ≡ true in subst P kept last) in
    record {
      gone = more m.gone a.slot;
      left = ap (out (is_at a.slot)) m.left ∙ out_next a.slot m.gone f law.apart;
      clearing = clearing-take p (preorder f) s a m.gone W (slots_of p a.cap ++ W) here only (λ e. refl) (λ e. let z : true ≡ false = sym all ∙ e in cc) m.clearing;
      distinct = distinct_join (slots_of p a.cap) W (law.distinct a here) m.distinct.1 (λ n u v. m.apart n v a here not_gone u);
      below = below_join size (slots_of p a.cap) W (law.within a here) m.below.1;
      apart = λ n i b j e k. elim (in_append n (slots_of p a.cap) W (rest_in n (slots_of p a.cap ++ W) i)) [
        | inl u ↦ elim (tells (same_object a.cap b.cap)) [
          | inl t ↦ still (same_object a.cap b.cap) (more m.gone a.slot b.slot) (all_in (λ c. not (same_object a.cap c.cap) || more m.gone a.slot c.slot) (preorder f) b all j) t e
          | inr t ↦ law.objects a b here j t n u k
        ]
        | inr v ↦ m.apart n v b j (either_false (m.gone b.slot) (b.slot == a.slot) e) k
      ];
    }
  where
    still : (x y : Bool) → not x || y ≡ true → x ≡ true → y ≡ false → ⊥
    still x y h g e = grind arith

-- a full slot is emptied, and another slot still names the object
full_other : (p : ProfileName) (f g : Forest Entry) (s size : ℕ) (W : List ℕ) (a : Entry) → IsClearable p size (preorder f) → (m : Midway p f g s size (a.slot ∷ W)) → In a (preorder f) → m.gone a.slot ≡ false →
    ((b : Entry) → In b (preorder f) → b.slot == a.slot ≡ true → b ≡ a) → held (preorder g) a.slot ≡ a.cap → last_at (preorder g) a.slot ≡ false → Midway p f (out (is_at a.slot) g) s size W
full_other p f g s size W a law m here not_gone only cap last =
    let kept : preorder g ≡ remaining m.gone (preorder f) = remains f g m.gone m.left in
    let not_all : has_all (preorder f) (more m.gone a.slot) a ≡ false = other_not_all (preorder f) m.gone a (let P : List Entry → Type 0 = λ q. held q a.slot ≡ a.cap in subst P kept cap) (let P : List Entry → Type 0 = λ q. last_at q a.slot ≡ false in subst P kept last) in
    record {
      gone = more m.gone a.slot;
      left = ap (out (is_at a.slot)) m.left ∙ out_next a.slot m.gone f law.apart;
      clearing = clearing-take p (preorder f) s a m.gone W W here only (λ e. let z : true ≡ false = sym e ∙ not_all in cc) (λ e. refl) m.clearing;
      distinct = m.distinct.1;
      below = m.below.1;
      apart = λ n i b j e k. m.apart n (rest_in n W i) b j (either_false (m.gone b.slot) (b.slot == a.slot) e) k;
    }

empty_step : (p : ProfileName) (f g : Forest Entry) (s size n : ℕ) (W : List ℕ) → full (preorder g) n ≡ false → Midway p f g s size (n ∷ W) → Midway p f (out (is_at n) g) s size W
empty_step p f g s size n W h m = record {
  gone = m.gone;
  left = out_absent (is_at n) g h ∙ m.left;
  clearing = clearing-skip p (preorder f) s n m.gone W (λ e.
      let w = any_of (is_at n) (preorder f) e in
      elim (tells (m.gone w.0.slot)) [
        | inl t ↦ let P : ℕ → Type 0 = λ k. m.gone k ≡ true in subst P (eqb-true w.0.slot n w.1.1) t
        | inr t ↦
            let i : In w.0 (preorder g) = let P : List Entry → Type 0 = λ q. In w.0 q in subst P (sym (remains f g m.gone m.left)) (filter_in (λ e. not (m.gone e.slot)) (preorder f) w.0 w.1.0 (ap not t)) in
            let z : true ≡ false = sym (any_in (is_at n) (preorder g) w.0 i w.1.1) ∙ h in cc
      ]) m.clearing;
  distinct = m.distinct.1;
  below = m.below.1;
  apart = λ k i b j e u. m.apart k (rest_in k W i) b j e u;
}

-- one slot is looked at
pub midway-step : (p : ProfileName) (f g : Forest Entry) (s size n : ℕ) (W : List ℕ) → IsClearable p size (preorder f) → Midway p f g s size (n ∷ W) → Midway p f (out (is_at n) g) s size (list_after p (preorder g) n W)
midway-step p f g s size n W law m = elim (tells (full (preorder g) n)) [
  | inl h ↦
      let st = stands f g n m.gone law.apart m.left h in
      let P : ℕ → Type 0 = λ k. full (preorder g) k ≡ true → (q : Midway p f g s size (k ∷ W)) → q.gone st.a.slot ≡ false → Midway p f (out (is_at k) g) s size (list_after p (preorder g) k W) in
      subst P st.at (λ e q ng. elim (tells (last_at (preorder g) st.a.slot)) [
        | inl t ↦ rw (e, t, st.cap) (full_last p f g s size W st.a law q st.here ng st.only st.cap t)
        | inr t ↦ rw (e, t) (full_other p f g s size W st.a law q st.here ng st.only st.cap t)
      ]) h m st.not_gone
  | inr h ↦ rw h (empty_step p f g s size n W h m)
]

apart_left : (f g : Forest Entry) (gone : ℕ → Bool) → AreApart (preorder f) → g ≡ without (λ e. gone e.slot) f → AreApart (preorder g)
apart_left f g gone h e = let P : Forest Entry → Type 0 = λ q. AreApart (preorder q) in subst P (sym e) (apart-without (λ e. gone e.slot) f h)

out_filter : (g : Forest Entry) (n : ℕ) → AreApart (preorder g) → preorder (out (is_at n) g) ≡ filter (λ e. not (e.slot == n)) (preorder g)
out_filter g n h = ap preorder (out_one (is_at n) g (h n)) ∙ preorder-without (is_at n) g

-- which objects have ended_in by now: one more where the slot ends one
pub ended-more : (p : ProfileName) (f g : Forest Entry) (s size n : ℕ) (W : List ℕ) → IsClearable p size (preorder f) → Midway p f g s size (n ∷ W) → ends (preorder g) n ≡ true →
    (λ (c : Cap). ended_in (preorder f) (preorder g) c || same_object (held (preorder g) n) c) ≡ ended_in (preorder f) (preorder (out (is_at n) g))
ended-more p f g s size n W law m h =
    let b = both_true (full (preorder g) n) (last_at (preorder g) n) h in
    let st = stands f g n m.gone law.apart m.left b.0 in
    let P : ℕ → Type 0 = λ k. last_at (preorder g) k ≡ true → (λ (c : Cap). ended_in (preorder f) (preorder g) c || same_object (held (preorder g) k) c) ≡ ended_in (preorder f) (preorder (out (is_at k) g)) in
    let sub : (b : Entry) → In b (preorder g) → In b (preorder f) = λ b i. (in_filter (λ e. not (m.gone e.slot)) (preorder f) b (let Q : List Entry → Type 0 = λ q. In b q in subst Q (remains f g m.gone m.left) i)).0 in
    subst P st.at (λ t.
    rw (st.cap, out_filter g st.a.slot (apart_left f g m.gone law.apart m.left))
    (sym (λ i c. ended-last (preorder f) (preorder g) st.a sub st.left (λ b j e. st.only b (sub b j) e) st.cap t c i))) b.1

-- and none more where it doesn't
pub ended-same : (p : ProfileName) (f g : Forest Entry) (s size n : ℕ) (W : List ℕ) → IsClearable p size (preorder f) → Midway p f g s size (n ∷ W) → ends (preorder g) n ≡ false →
    ended_in (preorder f) (preorder g) ≡ ended_in (preorder f) (preorder (out (is_at n) g))
ended-same p f g s size n W law m h = elim (tells (full (preorder g) n)) [
  | inl e ↦
      let st = stands f g n m.gone law.apart m.left e in
      let sub : (b : Entry) → In b (preorder g) → In b (preorder f) = λ b i. (in_filter (λ e. not (m.gone e.slot)) (preorder f) b (let Q : List Entry → Type 0 = λ q. In b q in subst Q (remains f g m.gone m.left) i)).0 in
      let P : ℕ → Type 0 = λ k. full (preorder g) k && last_at (preorder g) k ≡ false → full (preorder g) k ≡ true → ended_in (preorder f) (preorder g) ≡ ended_in (preorder f) (preorder (out (is_at k) g)) in
      subst P st.at (λ t u.
      rw (out_filter g st.a.slot (apart_left f g m.gone law.apart m.left))
      (sym (λ i c. ended-other (preorder f) (preorder g) st.a (λ b j e. st.only b (sub b j) e) st.cap (and_false _ _ u t) c i))) h e
  | inr e ↦ ap (λ (q : Forest Entry). ended_in (preorder f) (preorder q)) (sym (out_absent (is_at n) g e))
]
  where
    and_false : (x y : Bool) → x ≡ true → x && y ≡ false → y ≡ false
    and_false x y h g = grind arith

-- at the start none has ended_in
pub ended-none : (l : List Entry) → (λ (c : Cap). false) ≡ ended_in l l
ended-none l = λ i c. sym (never (named l c)) i
  where
    never : (b : Bool) → b && not b ≡ false
    never true = refl
    never false = refl

-- the work that is left: each full slot, and the slots of its object
pub weight : (p : ProfileName) → List Entry → ℕ
weight p [] = 0
weight p (e ∷ l) = suc (length (slots_of p e.cap)) + weight p l

weight_none : (l : List Entry) (n : ℕ) → list_any (is_at n) l ≡ false → filter (λ e. not (e.slot == n)) l ≡ l
weight_none [] n h = refl
weight_none (x ∷ l) n h = weight_none_step x l n (weight_none l n) h
  where
    weight_none_step : (x : Entry) (l : List Entry) (n : ℕ) → (list_any (is_at n) l ≡ false → filter (λ e. not (e.slot == n)) l ≡ l) → list_any (is_at n) (x ∷ l) ≡ false → filter (λ e. not (e.slot == n)) (x ∷ l) ≡ x ∷ l
    weight_none_step x l n g h = grind arith

pub weight_less : (p : ProfileName) (l : List Entry) (n : ℕ) → OneAtMost (is_at n) l → full l n ≡ true → weight p (filter (λ e. not (e.slot == n)) l) + (1 + length (slots_of p (held l n))) ≡ weight p l
unfolding weight
weight_less p [] n h e = cc
weight_less p (x ∷ l) n h e =
    elim (x.slot == n) as (λ t. x.slot == n ≡ t → t || full l n ≡ true → weight p (cond (not t) (x ∷ filter (λ e. not (e.slot == n)) l) (filter (λ e. not (e.slot == n)) l)) + (1 + length (slots_of p (cond t x.cap (held l n)))) ≡ suc (length (slots_of p x.cap)) + weight p l) [
      | true ↦ λ t u. rw (weight_none l n (h.0 t)) (omega arith)
      | false ↦ λ t u. let ih : weight p (filter (λ e. not (e.slot == n)) l) + (1 + length (slots_of p (held l n))) ≡ weight p l = weight_less p l n h.1 u in omega arith
    ] refl e

-- each slot that is looked at leaves less to do
pub midway-smaller : (p : ProfileName) (f g : Forest Entry) (s size n : ℕ) (W : List ℕ) → IsClearable p size (preorder f) → Midway p f g s size (n ∷ W) →
    weight p (preorder (out (is_at n) g)) + length (list_after p (preorder g) n W) < weight p (preorder g) + length (n ∷ W)
midway-smaller p f g s size n W law m = elim (tells (full (preorder g) n)) [
  | inl e ↦
      let w : weight p (preorder (out (is_at n) g)) + (1 + length (slots_of p (held (preorder g) n))) ≡ weight p (preorder g) =
      ap (λ q. weight p q + (1 + length (slots_of p (held (preorder g) n)))) (out_filter g n (apart_left f g m.gone law.apart m.left)) ∙ weight_less p (preorder g) n (apart_left f g m.gone law.apart m.left n) e in
      rw e (elim (last_at (preorder g) n) as (λ t. weight p (preorder (out (is_at n) g)) + length (cond t (slots_of p (held (preorder g) n) ++ W) W) < weight p (preorder g) + suc (length W)) [
        | true ↦ omega (arith, length-append (slots_of p (held (preorder g) n)) W)
        | false ↦ omega arith
      ])
  | inr e ↦ rw (e, out_absent (is_at n) g e) (omega arith)
]

pub midway-no_null : (p : ProfileName) (f g : Forest Entry) (s size n : ℕ) (W : List ℕ) → IsClearable p size (preorder f) → Midway p f g s size W → full (preorder g) n ≡ true → held (preorder g) n ≡ Null → ⊥
midway-no_null p f g s size n W law m h e =
    let st = stands f g n m.gone law.apart m.left h in
    law.no_null st.a st.here (sym st.cap ∙ ap (held (preorder g)) st.at ∙ e)

pub midway-list : (p : ProfileName) (f g : Forest Entry) (s size : ℕ) (V W : List ℕ) → V ≡ W → Midway p f g s size V → Midway p f g s size W
midway-list p f g s size V W e m = let P : List ℕ → Type 0 = λ q. Midway p f g s size q in subst P e m

pub midway-forest : (p : ProfileName) (f g h : Forest Entry) (s size : ℕ) (W : List ℕ) → h ≡ g → Midway p f g s size W → Midway p f h s size W
midway-forest p f g h s size W e m = let P : Forest Entry → Type 0 = λ q. Midway p f q s size W in subst P (sym e) m
