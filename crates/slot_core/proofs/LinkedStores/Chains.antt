-- A doubly linked list: what its links say of it, and what a change of a few links is to it.
use Rattle.std.proofs.Common.{◌≡◌, ◌≢◌, ℕ, zero, suc, ◌<◌, ◌≤◌, Bool, true, false, ◌||◌, eqb, List, [], ◌∷◌, ◌++◌, length, Option, Some, None, refl, sym, ◌∙◌, ap, arith}
use Rattle.std.specs.List.{AllByRecursion as Each, IsDistinct, list_any}
use Rattle.std.proofs.lemmas.Bool.Decides.{nat_tests}
use Rattle.std.proofs.lemmas.Map.Steps.{length-le_from_distinct_below}
use Rattle.slot_core.specs.Links.{head_or, last_or, AreLinked, Lacks, IsApart, walk}
use Rattle.kernel_forest.proofs.Trees.Forests.{each-left_part, each-right_part}

-- of each, from two facts of each
pub each-both : (P Q R : ℕ → Type 0) → ((i : ℕ) → P i → Q i → R i) → (l : List ℕ) → Each P l → Each Q l → Each R l
each-both P Q R f [] h k = tt
each-both P Q R f (i ∷ l) h k = (f i h.0 k.0, each-both P Q R f l h.1 k.1)

pub each-one : (P R : ℕ → Type 0) → ((i : ℕ) → P i → R i) → (l : List ℕ) → Each P l → Each R l
each-one P R f [] h = tt
each-one P R f (i ∷ l) h = (f i h.0, each-one P R f l h.1)

pub head-append : (xs ys : List ℕ) (behind : Option ℕ) → head_or (xs ++ ys) behind ≡ head_or xs (head_or ys behind)
head-append [] ys behind = refl
head-append (i ∷ xs) ys behind = refl

pub last-append : (before : Option ℕ) (xs ys : List ℕ) → last_or before (xs ++ ys) ≡ last_or (last_or before xs) ys
last-append before [] ys = refl
last-append before (i ∷ xs) ys = last-append (Some i) xs ys

-- where the neighbours of a part lie, and the other way round
pub linked-front_part : (f g : ℕ → Option ℕ) (before : Option ℕ) (xs ys : List ℕ) (behind : Option ℕ) → AreLinked f g before (xs ++ ys) behind
    → AreLinked f g before xs (head_or ys behind)
linked-front_part f g before [] ys behind h = tt
linked-front_part f g before (i ∷ xs) ys behind h = (h.0, (h.1.0 ∙ head-append xs ys behind, linked-front_part f g (Some i) xs ys behind h.1.1))

pub linked-back_part : (f g : ℕ → Option ℕ) (before : Option ℕ) (xs ys : List ℕ) (behind : Option ℕ) → AreLinked f g before (xs ++ ys) behind
    → AreLinked f g (last_or before xs) ys behind
linked-back_part f g before [] ys behind h = h
linked-back_part f g before (i ∷ xs) ys behind h = linked-back_part f g (Some i) xs ys behind h.1.1

pub linked-append : (f g : ℕ → Option ℕ) (before : Option ℕ) (xs ys : List ℕ) (behind : Option ℕ) → AreLinked f g before xs (head_or ys behind)
    → AreLinked f g (last_or before xs) ys behind → AreLinked f g before (xs ++ ys) behind
linked-append f g before [] ys behind h k = k
linked-append f g before (i ∷ xs) ys behind h k = (h.0, (h.1.0 ∙ sym (head-append xs ys behind), linked-append f g (Some i) xs ys behind h.1.1 k))

-- what a list lacks is neither its first nor its last
pub not_head : (p : ℕ) (l : List ℕ) → Lacks p l → head_or l None ≡ Some p → ⊥
not_head p [] h e = cc
not_head p (i ∷ l) h e = h.0 (let d : i ≡ p = cc in d)

pub not_last_of : (p q : ℕ) (l : List ℕ) → q ≢ p → Lacks p l → last_or (Some q) l ≡ Some p → ⊥
not_last_of p q [] n h e = n (let d : q ≡ p = cc in d)
not_last_of p q (i ∷ l) n h e = not_last_of p i l h.0 h.1 e

pub not_last : (p : ℕ) (l : List ℕ) → Lacks p l → last_or None l ≡ Some p → ⊥
not_last p [] h e = cc
not_last p (i ∷ l) h e = not_last_of p i l h.0 h.1 e

-- the same links
pub linked-same : (f g f' g' : ℕ → Option ℕ) (before : Option ℕ) (l : List ℕ) (behind : Option ℕ) → AreLinked f g before l behind
    → Each (λ i. f' i ≡ f i) l → Each (λ i. g' i ≡ g i) l → AreLinked f' g' before l behind
linked-same f g f' g' before [] behind h n q = tt
linked-same f g f' g' before (i ∷ l) behind h n q = (q.0 ∙ h.0, (n.0 ∙ h.1.0, linked-same f g f' g' (Some i) l behind h.1.1 n.1 q.1))

-- something else behind the last
pub linked-front : (f g f' g' : ℕ → Option ℕ) (before : Option ℕ) (l : List ℕ) (behind behind' : Option ℕ) → AreLinked f g before l behind → IsApart l
    → Each (λ i. (last_or None l ≡ Some i → ⊥) → f' i ≡ f i) l → ((i : ℕ) → last_or None l ≡ Some i → f' i ≡ behind') → Each (λ i. g' i ≡ g i) l
    → AreLinked f' g' before l behind'
linked-front f g f' g' before [] behind behind' h a n e q = tt
linked-front f g f' g' before (i ∷ []) behind behind' h a n e q = (q.0 ∙ h.0, (e i refl, tt))
linked-front f g f' g' before (i ∷ (j ∷ l)) behind behind' h a n e q =
    (q.0 ∙ h.0, (n.0 (λ d. not_last_of i j l a.0.0 a.0.1 d) ∙ h.1.0, linked-front f g f' g' (Some i) (j ∷ l) behind behind' h.1.1 a.1 n.1 e q.1))

-- something else in front of the first
pub linked-back : (f g f' g' : ℕ → Option ℕ) (before before' : Option ℕ) (l : List ℕ) (behind : Option ℕ) → AreLinked f g before l behind → IsApart l
    → Each (λ i. f' i ≡ f i) l → Each (λ i. (head_or l None ≡ Some i → ⊥) → g' i ≡ g i) l → ((i : ℕ) → head_or l None ≡ Some i → g' i ≡ before')
    → AreLinked f' g' before' l behind
linked-back f g f' g' before before' [] behind h a n q e = tt
linked-back f g f' g' before before' (i ∷ l) behind h a n q e =
    (e i refl, (n.0 ∙ h.1.0, linked-same f g f' g' (Some i) l behind h.1.1 n.1 (each-both (λ j. j ≢ i) (λ j. (Some i ≡ Some j → ⊥) → g' j ≡ g j) (λ j. g' j ≡ g j) (λ j d k. k (λ c. d (let s : i ≡ j = cc in sym s))) l a.0 q.1)))

-- what is walked, where there are steps enough
pub walk_is : (f g : ℕ → Option ℕ) (before here : Option ℕ) (l : List ℕ) (n : ℕ) → AreLinked f g before l None → here ≡ head_or l None → length l ≤ n → walk f n here ≡ l
walk_is f g before here [] zero h e k = refl
walk_is f g before here [] (suc n) h e k = rw e
walk_is f g before here (i ∷ l) zero h e k = absurd (omega arith)
walk_is f g before here (i ∷ l) (suc n) h e k = rw e (ap (λ m. i ∷ m) (walk_is f g (Some i) (f i) l n h.1.1 h.1.0 (omega arith)))

-- no more of them than there are rows

eqb_no : (i j : ℕ) → j ≢ i → eqb i j ≡ false
eqb_no i j h = grind (arith, nat_tests)

any_within : (n : ℕ) (l : List ℕ) → Each (λ i. i < n) l → (q : ℕ) → list_any (eqb q) l ≡ true → q < n
any_within n [] w q h = cc
any_within n (i ∷ l) w q h = step n i q (list_any (eqb q) l) w.0 (any_within n l w.1 q) h
  where
    step : (n i q : ℕ) (b : Bool) → i < n → (b ≡ true → q < n) → (eqb q i || b) ≡ true → q < n
    step n i q b w ih h = grind (arith, nat_tests)

distinct : (l : List ℕ) → IsApart l → IsDistinct eqb l
unfolding IsDistinct
distinct [] h = tt
distinct (i ∷ l) h = (differ l h.0, distinct l h.1)
  where
    differ : (m : List ℕ) → Lacks i m → Each (λ j. eqb i j ≡ false) m
    differ [] n = tt
    differ (j ∷ m) n = (eqb_no i j n.0, differ m n.1)

pub few : (n : ℕ) (l : List ℕ) → IsApart l → Each (λ i. i < n) l → length l ≤ n
few n l a w = length-le_from_distinct_below l n (distinct l a) (any_within n l w)

-- edits of a list whose elements are apart

pub apart-front_part : (xs ys : List ℕ) → IsApart (xs ++ ys) → IsApart xs
apart-front_part [] ys h = tt
apart-front_part (x ∷ xs) ys h = (each-left_part (λ j. j ≢ x) xs ys h.0, apart-front_part xs ys h.1)

pub apart-back_part : (xs ys : List ℕ) → IsApart (xs ++ ys) → IsApart ys
apart-back_part [] ys h = h
apart-back_part (x ∷ xs) ys h = apart-back_part xs ys h.1

-- no element of the front is one of the back
pub apart-lacks : (xs : List ℕ) (s : ℕ) (ys : List ℕ) → IsApart (xs ++ s ∷ ys) → Each (λ i. Lacks i (s ∷ ys)) xs
apart-lacks [] s ys h = tt
apart-lacks (x ∷ xs) s ys h = (each-right_part (λ j. j ≢ x) xs (s ∷ ys) h.0, apart-lacks xs s ys h.1)

pub lacks-front : (xs : List ℕ) (s : ℕ) (ys : List ℕ) → IsApart (xs ++ s ∷ ys) → Lacks s xs
lacks-front [] s ys h = tt
lacks-front (x ∷ xs) s ys h = ((λ e. (each-right_part (λ j. j ≢ x) xs (s ∷ ys) h.0).0 (sym e)), lacks-front xs s ys h.1)

pub each-insert : (P : ℕ → Type 0) (pre : List ℕ) (x : ℕ) (post : List ℕ) → Each P (pre ++ post) → P x → Each P (pre ++ x ∷ post)
each-insert P [] x post h k = (k, h)
each-insert P (p ∷ pre) x post h k = (h.0, each-insert P pre x post h.1 k)

pub apart-insert : (pre : List ℕ) (x : ℕ) (post : List ℕ) → IsApart (pre ++ post) → Lacks x (pre ++ post) → IsApart (pre ++ x ∷ post)
apart-insert [] x post h k = (k, h)
apart-insert (p ∷ pre) x post h k = (each-insert (λ j. j ≢ p) pre x post h.0 (λ e. k.0 (sym e)), apart-insert pre x post h.1 k.1)

pub each-without : (P : ℕ → Type 0) (pre : List ℕ) (s : ℕ) (post : List ℕ) → Each P (pre ++ s ∷ post) → Each P (pre ++ post)
each-without P [] s post h = h.1
each-without P (p ∷ pre) s post h = (h.0, each-without P pre s post h.1)

pub each-at : (P : ℕ → Type 0) (pre : List ℕ) (s : ℕ) (post : List ℕ) → Each P (pre ++ s ∷ post) → P s
each-at P [] s post h = h.0
each-at P (p ∷ pre) s post h = each-at P pre s post h.1

pub apart-without : (pre : List ℕ) (s : ℕ) (post : List ℕ) → IsApart (pre ++ s ∷ post) → IsApart (pre ++ post)
apart-without [] s post h = h.1
apart-without (p ∷ pre) s post h = (each-without (λ j. j ≢ p) pre s post h.0, apart-without pre s post h.1)

-- what a list without s lacks, and is not s, the list lacks
pub lacks-with : (i : ℕ) (pre : List ℕ) (s : ℕ) (post : List ℕ) → Lacks i (pre ++ post) → s ≢ i → Lacks i (pre ++ s ∷ post)
lacks-with i [] s post h k = (k, h)
lacks-with i (p ∷ pre) s post h k = (h.0, lacks-with i pre s post h.1 k)

-- no element of the back is one of the front
pub apart-before : (xs ys : List ℕ) → IsApart (xs ++ ys) → Each (λ j. Lacks j xs) ys
apart-before [] ys h = nothing ys
  where
    nothing : (l : List ℕ) → Each (λ j. Lacks j []) l
    nothing [] = tt
    nothing (j ∷ l) = (tt, nothing l)
apart-before (x ∷ xs) ys h =
    each-both (λ j. j ≢ x) (λ j. Lacks j xs) (λ j. Lacks j (x ∷ xs)) (λ j d k. ((λ e. d (sym e)), k)) ys (each-right_part (λ j. j ≢ x) xs ys h.0) (apart-before xs ys h.1)
