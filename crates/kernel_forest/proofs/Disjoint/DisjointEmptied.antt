-- A slot that is emptied keeps live objects disjoint: each that stays keeps what stands above and below it, but for the slot.
use Rattle.std.proofs.Common.{◌≡◌, ℕ, Bool, true, false, cond, ◌||◌, ◌==◌, List, [], ◌∷◌, ◌++◌, inl, inr, refl, sym, ◌∙◌, ap, subst, append_assoc, IsTrue}
use Rattle.std.specs.List.{AllByRecursion as Each, Contains}
use Rattle.std.proofs.lemmas.Bool.{eqb-true}
use Rattle.cap_core.specs.declared.profile.ProfileName.{ProfileName}
use Rattle.cap_core.specs.Objects.{is_untyped, contains}
use Rattle.kernel_forest.specs.Forest.{Forest, none, tree, preorder, join, below_those, has, ancestors, out}
use Rattle.kernel_forest.specs.Entries.{Entry, is_at}
use Rattle.kernel_forest.specs.Derivation.{emptied}
use Rattle.kernel_forest.specs.Disjoint.{are_disjoint, AreInLine, IsDisjoint}
use Rattle.kernel_forest.proofs.Trees.Forests.{each-left_part, each-right_part, each-weaker, each-contained, each-contains, each-join, each-join_parts}
use Rattle.kernel_forest.proofs.Trees.Built.{Absent, Once, once-right_part, join-assoc, join-nothing, below_those_none}
use Rattle.kernel_forest.proofs.Trees.Above.{no_has, no_ancestors}
use Rattle.kernel_forest.proofs.Trees.Lines.{once-left_part}
use Rattle.kernel_forest.proofs.Slots.Emptied.{each-out_old, absent-out, contains-out}

below_those-join : {A : Type 0} (q : A → Bool) (f g : Forest A) → Once q (preorder f ++ preorder g) → below_those q (join f g) ≡ join (below_those q f) (below_those q g)
below_those-join q none g o = refl
below_those-join {A} q (tree a k r) g o =
    let o' : Once q (preorder r ++ preorder g) = once-right_part q (preorder k) (preorder r ++ preorder g) (let P : List A → Type 0 = Once q in subst P (append_assoc (preorder k) (preorder r) (preorder g)) o.1) in
    let ih : below_those q (join r g) ≡ join (below_those q r) (below_those q g) = below_those-join q r g o' in
    (elim (q a) as (λ c. q a ≡ c → cond c k (join (below_those q k) (below_those q (join r g))) ≡ join (cond c k (join (below_those q k) (below_those q r))) (below_those q g)) [
      | true ↦ λ e.
          let n : below_those q g ≡ none = below_those_none q g (each-right_part (λ b. q b ≡ false) (preorder k ++ preorder r) (preorder g) (o.0 e)) in
          sym (ap (join k) n ∙ join-nothing k)
      | false ↦ λ e. ap (join (below_those q k)) ih ∙ sym (join-assoc (below_those q k) (below_those q r) (below_those q g))
    ]) refl

each-below_out : {A : Type 0} (P : A → Type 0) (is q : A → Bool) (f : Forest A) → Once q (preorder f) → Each (λ a. q a ≡ true → is a ≡ false) (preorder f)
    → Each P (preorder (below_those q (out is f))) → Each (λ c. is c ≡ false → P c) (preorder (below_those q f))
each-below_out P is q none o d h = tt
each-below_out {A} P is q (tree a k r) o d h =
    let ok : Once q (preorder k) = once-left_part q (preorder k) (preorder r) o.1 in
    let or : Once q (preorder r) = once-right_part q (preorder k) (preorder r) o.1 in
    let dk : Each (λ b. q b ≡ true → is b ≡ false) (preorder k) = each-left_part (λ b. q b ≡ true → is b ≡ false) (preorder k) (preorder r) d.1 in
    let dr : Each (λ b. q b ≡ true → is b ≡ false) (preorder r) = each-right_part (λ b. q b ≡ true → is b ≡ false) (preorder k) (preorder r) d.1 in
    let K : A → Type 0 = λ c. is c ≡ false → P c in
    (elim (q a) as (λ c. q a ≡ c → Each K (preorder (cond c k (join (below_those q k) (below_those q r))))) [
      | true ↦ λ t.
          let z : is a ≡ false = d.0 t in
          let e : below_those q (out is (tree a k r)) ≡ out is k = rw (z, t) in
          let Q : Forest A → Type 0 = λ g. Each P (preorder g) in
          each-out_old P is k (subst Q e h)
      | false ↦ λ t.
          (elim (is a) as (λ c. is a ≡ c → Each K (preorder (join (below_those q k) (below_those q r)))) [
            | true ↦ λ z.
                let e : below_those q (out is (tree a k r)) ≡ join (below_those q k) (below_those q r) = rw z (below_those-join q k r o.1) in
                let Q : Forest A → Type 0 = λ g. Each P (preorder g) in
                each-weaker P K (λ x y n. y) (preorder (join (below_those q k) (below_those q r))) (subst Q e h)
            | false ↦ λ z.
                let e : below_those q (out is (tree a k r)) ≡ join (below_those q (out is k)) (below_those q (out is r)) = rw (z, t) in
                let Q : Forest A → Type 0 = λ g. Each P (preorder g) in
                let b : Each P (preorder (below_those q (out is k))) × Each P (preorder (below_those q (out is r))) = each-join_parts P (below_those q (out is k)) (below_those q (out is r)) (subst Q e h) in
                each-join K (below_those q k) (below_those q r) (each-below_out P is q k ok dk b.0) (each-below_out P is q r or dr b.1)
          ]) refl
    ]) refl

has-join : {A : Type 0} (q : A → Bool) (f g : Forest A) → has q (join f g) ≡ (has q f || has q g)
has-join q none g = refl
has-join q (tree a k r) g = rw (has-join q r g) (rotate (q a) (has q k) (has q r) (has q g))
  where
    rotate : (a k r g : Bool) → (a || (k || (r || g))) ≡ ((a || (k || r)) || g)
    rotate true k r g = refl
    rotate false true r g = refl
    rotate false false r g = refl

has-out : {A : Type 0} (is q : A → Bool) (f : Forest A) → Each (λ a. q a ≡ true → is a ≡ false) (preorder f) → has q (out is f) ≡ has q f
has-out is q none d = refl
has-out {A} is q (tree a k r) d =
    (elim (is a) as (λ c. is a ≡ c → has q (cond c (join k r) (tree a (out is k) (out is r))) ≡ (q a || (has q k || has q r))) [
      | true ↦ λ z. rw (not_q z) (has-join q k r)
      | false ↦ λ z. rw (has-out is q k (each-left_part (λ b. q b ≡ true → is b ≡ false) (preorder k) (preorder r) d.1), has-out is q r (each-right_part (λ b. q b ≡ true → is b ≡ false) (preorder k) (preorder r) d.1))
    ]) refl
  where
    not_q : is a ≡ true → q a ≡ false
    not_q z = (elim (q a) as (λ c. q a ≡ c → c ≡ false) [ true ↦ λ t. absurd (let n : is a ≡ false = d.0 t in let no' : true ≡ false = sym z ∙ n in cc) | false ↦ λ t. refl ]) refl

ancestors-join : {A : Type 0} (q : A → Bool) (f g : Forest A) → Once q (preorder f ++ preorder g) → ancestors q (join f g) ≡ cond (has q f) (ancestors q f) (ancestors q g)
ancestors-join q none g o = refl
ancestors-join {A} q (tree a k r) g o =
    let o' : Once q (preorder k ++ (preorder r ++ preorder g)) = let P : List A → Type 0 = Once q in subst P (append_assoc (preorder k) (preorder r) (preorder g)) o.1 in
    let ih : ancestors q (join r g) ≡ cond (has q r) (ancestors q r) (ancestors q g) = ancestors-join q r g (once-right_part q (preorder k) (preorder r ++ preorder g) o') in
    (elim (has q k) as (λ c. cond c (a ∷ ancestors q k) (ancestors q (join r g)) ≡ cond (q a || (c || has q r)) (cond c (a ∷ ancestors q k) (ancestors q r)) (ancestors q g)) [
      | true ↦ (elim (q a) as (λ c. a ∷ ancestors q k ≡ cond (c || true) (a ∷ ancestors q k) (ancestors q g)) [ true ↦ refl | false ↦ refl ])
      | false ↦ (elim (q a) as (λ c. q a ≡ c → ancestors q (join r g) ≡ cond (c || has q r) (ancestors q r) (ancestors q g)) [
        | true ↦ λ e.
            let rest : Absent q (preorder r ++ preorder g) = each-right_part (λ b. q b ≡ false) (preorder k) (preorder r ++ preorder g) (let P : List A → Type 0 = Absent q in subst P (append_assoc (preorder k) (preorder r) (preorder g)) (o.0 e)) in
            let nr : Absent q (preorder r) = each-left_part (λ b. q b ≡ false) (preorder r) (preorder g) rest in
            let ng : Absent q (preorder g) = each-right_part (λ b. q b ≡ false) (preorder r) (preorder g) rest in
            ih ∙ rw (no_has q r nr, no_ancestors q g ng) (sym (no_ancestors q r nr))
        | false ↦ λ e. ih
      ]) refl
    ])

each-above_out : {A : Type 0} (P : A → Type 0) (is q : A → Bool) (f : Forest A) → Once q (preorder f) → Each (λ a. q a ≡ true → is a ≡ false) (preorder f)
    → Each P (ancestors q (out is f)) → Each (λ c. is c ≡ false → P c) (ancestors q f)
each-above_out P is q none o d h = tt
each-above_out {A} P is q (tree a k r) o d h =
    let ok : Once q (preorder k) = once-left_part q (preorder k) (preorder r) o.1 in
    let or : Once q (preorder r) = once-right_part q (preorder k) (preorder r) o.1 in
    let dk : Each (λ b. q b ≡ true → is b ≡ false) (preorder k) = each-left_part (λ b. q b ≡ true → is b ≡ false) (preorder k) (preorder r) d.1 in
    let dr : Each (λ b. q b ≡ true → is b ≡ false) (preorder r) = each-right_part (λ b. q b ≡ true → is b ≡ false) (preorder k) (preorder r) d.1 in
    let K : A → Type 0 = λ c. is c ≡ false → P c in
    let weak : (l : List A) → Each P l → Each K l = λ l. each-weaker P K (λ x y n. y) l in
    let E : List A → Type 0 = Each P in
    (elim (is a) as (λ c. is a ≡ c → Each K (cond (has q k) (a ∷ ancestors q k) (ancestors q r))) [
      | true ↦ λ z.
          let e : ancestors q (out is (tree a k r)) ≡ cond (has q k) (ancestors q k) (ancestors q r) = rw z (ancestors-join q k r o.1) in
          (elim (has q k) as (λ c. Each P (cond c (ancestors q k) (ancestors q r)) → Each K (cond c (a ∷ ancestors q k) (ancestors q r))) [
            | true ↦ λ g. ((λ n. absurd (let no' : true ≡ false = sym z ∙ n in cc)), weak (ancestors q k) g)
            | false ↦ λ g. weak (ancestors q r) g
          ]) (subst E e h)
      | false ↦ λ z.
          let e : ancestors q (out is (tree a k r)) ≡ cond (has q k) (a ∷ ancestors q (out is k)) (ancestors q (out is r)) = rw (z, has-out is q k dk) in
          (elim (has q k) as (λ c. Each P (cond c (a ∷ ancestors q (out is k)) (ancestors q (out is r))) → Each K (cond c (a ∷ ancestors q k) (ancestors q r))) [
            | true ↦ λ g. ((λ n. g.0), each-above_out P is q k ok dk g.1)
            | false ↦ λ g. each-above_out P is q r or dr g
          ]) (subst E e h)
    ]) refl

pub disjoint-emptied : (p : ProfileName) (slot : ℕ) (f : Forest Entry) → ((n : ℕ) → Once (is_at n) (preorder f)) → IsDisjoint p f → IsDisjoint p (emptied slot f)
disjoint-emptied p slot f o d = record { objects = objects; lines = lines }
  where
    is : Entry → Bool
    is = is_at slot

    old : (e : Entry) → Contains (preorder (out is f)) e → Contains (preorder f) e
    old e h = contains-out is f e h

    stays : (e : Entry) → Contains (preorder (out is f)) e → is e ≡ false
    stays e h = each-contained (λ (x : Entry). is x ≡ false) (preorder (out is f)) e (absent-out is f (o slot)) h

    objects : (a b : Entry) → Contains (preorder (out is f)) a → Contains (preorder (out is f)) b → IsTrue (are_disjoint p a.cap b.cap)
    objects a b h k = d.objects a b (old a h) (old b k)

    other : (u : Entry) → is u ≡ false → Each (λ (e : Entry). is_at u.slot e ≡ true → is e ≡ false) (preorder f)
    other u n = go (preorder f)
      where
        go : (l : List Entry) → Each (λ (e : Entry). is_at u.slot e ≡ true → is e ≡ false) l
        go [] = tt
        go (e ∷ l) = ((λ t. ap (λ i. i == slot) (eqb-true e.slot u.slot t) ∙ n), go l)

    in_line : (u c : Entry) → is u ≡ false → is c ≡ false → AreInLine f u c → AreInLine (out is f) u c
    in_line u c n m (inl e) = inl e
    in_line u c n m (inr (inl i)) =
        let q : Entry → Bool = is_at u.slot in
        let P : Entry → Type 0 = Contains (preorder (below_those q (out is f))) in
        inr (inl (each-contained (λ (e : Entry). is e ≡ false → P e) (preorder (below_those q f)) c (each-below_out P is q f (o u.slot) (other u n) (each-contains (preorder (below_those q (out is f))))) i m))
    in_line u c n m (inr (inr i)) =
        let q : Entry → Bool = is_at u.slot in
        let P : Entry → Type 0 = Contains (ancestors q (out is f)) in
        inr (inr (each-contained (λ (e : Entry). is e ≡ false → P e) (ancestors q f) c (each-above_out P is q f (o u.slot) (other u n) (each-contains (ancestors q (out is f)))) i m))

    lines : (u c : Entry) → Contains (preorder (out is f)) u → Contains (preorder (out is f)) c → IsTrue (is_untyped u.cap) → IsTrue (contains p u.cap c.cap) → AreInLine (out is f) u c
    lines u c h k t v = in_line u c (stays u h) (stays c k) (d.lines u c (old u h) (old c k) t v)
