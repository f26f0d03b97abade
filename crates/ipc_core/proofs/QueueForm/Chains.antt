-- Chains of links: what stands before and behind, another rest, one taken out, one put last.
use Rattle.std.proofs.Common.{◌≡◌, ◌≢◌, ℕ, ◌≤◌, zero, suc, List, [], ◌∷◌, ◌++◌, length, Option, Some, None, refl, sym, ◌∙◌, ap, subst, arith}
use Rattle.std.specs.List.{AllByRecursion as Each}
use Rattle.ipc_core.specs.Representation.Chains.{IsChain, Lacks, IsApart, walk}

-- the first of a list
abbrev pub head_of : List ℕ → Option ℕ
head_of [] = None
head_of (i ∷ l) = Some i

-- the new links lead as the old ones do
abbrev pub Same : (f g f' g' : ℕ → Option ℕ) → ℕ → Type 0
Same f g f' g' i = (f' i ≡ f i) × (g' i ≡ g i)

pub each-left_part : (P : ℕ → Type 0) (xs ys : List ℕ) → Each P (xs ++ ys) → Each P xs
each-left_part P [] ys h = tt
each-left_part P (x ∷ xs) ys h = (h.0, each-left_part P xs ys h.1)

pub each-right_part : (P : ℕ → Type 0) (xs ys : List ℕ) → Each P (xs ++ ys) → Each P ys
each-right_part P [] ys h = h
each-right_part P (x ∷ xs) ys h = each-right_part P xs ys h.1

-- where the links of all on the list are the same, the chain is
pub chain-same : (f g f' g' : ℕ → Option ℕ) (before here : Option ℕ) (l : List ℕ) (last : Option ℕ)
    → Each (Same f g f' g') l → IsChain f g before here l last → IsChain f' g' before here l last
chain-same f g f' g' before here [] last h c = c
chain-same f g f' g' before here (i ∷ l) last h c =
    (c.0, h.0.1 ∙ c.1, (let P : Option ℕ → Type 0 = λ o. IsChain f' g' (Some i) o l last in subst P (sym h.0.0) (chain-same f g f' g' (Some i) (f i) l last h.1 c.2)))

-- what comes behind s, in the chain
pub chain-rest : (f g : ℕ → Option ℕ) (before here : Option ℕ) (pre : List ℕ) (s : ℕ) (post : List ℕ) (last : Option ℕ)
    → IsChain f g before here (pre ++ s ∷ post) last → IsChain f g (Some s) (f s) post last
chain-rest f g before here [] s post last c = c.2
chain-rest f g before here (p ∷ pre) s post last c = chain-rest f g (Some p) (f p) pre s post last c.2

pub chain-head : (f g : ℕ → Option ℕ) (before here : Option ℕ) (l : List ℕ) (last : Option ℕ) → IsChain f g before here l last → here ≡ head_of l
chain-head f g before here [] last c = c.0
chain-head f g before here (i ∷ l) last c = c.0

-- the same rest behind another
pub chain-behind : (f g f' g' : ℕ → Option ℕ) (before before' here : Option ℕ) (post : List ℕ) (last last' : Option ℕ)
    → IsChain f g before here post last → IsApart post
    → ((n : ℕ) → here ≡ Some n → (g' n ≡ before') × (f' n ≡ f n) × (last' ≡ last)) → (here ≡ None → last' ≡ before')
    → Each (λ m. (here ≡ Some m → ⊥) → Same f g f' g' m) post
    → IsChain f' g' before' here post last'
chain-behind f g f' g' before before' here [] last last' c a some none' h = (c.0, none' c.0)
chain-behind f g f' g' before before' here (n ∷ post) last last' c a some none' h =
    let e : here ≡ Some n = c.0 in
    let same : Each (Same f g f' g') post = others post a.0 h.1 in (
      e,
      (some n e).0,
      (let P : Option ℕ → Type 0 = λ o. IsChain f' g' (Some n) o post last' in subst P (sym (some n e).1)
          (let Q : Option ℕ → Type 0 = λ o. IsChain f' g' (Some n) (f n) post o in subst Q (sym (some n e).2) (chain-same f g f' g' (Some n) (f n) post last same c.2))),
    )
  where
    others : (l : List ℕ) → Lacks n l → Each (λ m. (here ≡ Some m → ⊥) → Same f g f' g' m) l → Each (Same f g f' g') l
    others [] k r = tt
    others (m ∷ l) k r = (r.0 (λ d. k.0 (let e : here ≡ Some n = c.0 in cc)), others l k.1 r.1)

pub not_head : (p : ℕ) (l : List ℕ) → Lacks p l → head_of l ≡ Some p → ⊥
not_head p [] h e = cc
not_head p (i ∷ l) h e = h.0 (let d : i ≡ p = cc in d)

pub apart-right_part : (xs ys : List ℕ) → IsApart (xs ++ ys) → IsApart ys
apart-right_part [] ys h = h
apart-right_part (x ∷ xs) ys h = apart-right_part xs ys h.1

-- where next leads from the last of a list, behind `before`
abbrev pub last_or : Option ℕ → List ℕ → Option ℕ
last_or before [] = before
last_or before (p ∷ l) = last_or (Some p) l

pub chain-previous : (f g : ℕ → Option ℕ) (before here : Option ℕ) (pre : List ℕ) (s : ℕ) (post : List ℕ) (last : Option ℕ)
    → IsChain f g before here (pre ++ s ∷ post) last → g s ≡ last_or before pre
chain-previous f g before here [] s post last c = c.1
chain-previous f g before here (p ∷ pre) s post last c = chain-previous f g (Some p) (f p) pre s post last c.2

pub not_last : (p q : ℕ) (l : List ℕ) → q ≢ p → Lacks p l → last_or (Some q) l ≡ Some p → ⊥
not_last p q [] n h e = n (let d : q ≡ p = cc in d)
not_last p q (i ∷ l) n h e = not_last p i l h.0 h.1 e

-- what the removal of s does to the links
pub record TakesOut (f g f' g' : ℕ → Option ℕ) (first first' last last' : Option ℕ) (s : ℕ) : Type 0 where
  pub next : (i : ℕ) → i ≢ s → (g s ≡ Some i → ⊥) → f' i ≡ f i
  pub next_p : (p : ℕ) → g s ≡ Some p → p ≢ s → f' p ≡ f s
  pub first_none : g s ≡ None → first' ≡ f s
  pub first_some : (p : ℕ) → g s ≡ Some p → first' ≡ first
  pub previous : (i : ℕ) → i ≢ s → (f s ≡ Some i → ⊥) → g' i ≡ g i
  pub previous_n : (n : ℕ) → f s ≡ Some n → n ≢ s → g' n ≡ g s
  pub last_none : f s ≡ None → last' ≡ g s
  pub last_some : (n : ℕ) → f s ≡ Some n → last' ≡ last

-- where a chain starts, once s is out of it
abbrev pub start : List ℕ → Option ℕ → Option ℕ → Option ℕ
start [] here next = next
start (p ∷ l) here next = here

pub at_head : (before : Option ℕ) (l : List ℕ) (n : ℕ) → Each (λ m. before ≡ Some m → ⊥) l → head_of l ≡ Some n → before ≡ Some n → ⊥
at_head before [] n h e d = cc
at_head before (i ∷ l) n h e d = h.0 (let k : i ≡ n = cc in d ∙ ap Some (sym k))

pub remove_chain_from : (f g f' g' : ℕ → Option ℕ) (first first' last last' : Option ℕ) (s : ℕ) → TakesOut f g f' g' first first' last last' s
    → (before here : Option ℕ) (pre post : List ℕ) → IsChain f g before here (pre ++ s ∷ post) last → IsApart (pre ++ s ∷ post) → Each (λ m. before ≡ Some m → ⊥) post
    → IsChain f' g' before (start pre here (f s)) (pre ++ post) last'
remove_chain_from f g f' g' first first' last last' s w before here [] post c a b =
    let head : f s ≡ head_of post = chain-head f g (Some s) (f s) post last c.2 in
    let ns : f s ≡ Some s → ⊥ = λ e. not_head s post a.0 (sym head ∙ e) in
    chain-behind f g f' g' (Some s) before (f s) post last last' c.2 a.1
    (λ n e. (w.previous_n n e (λ d. ns (rw d at e)) ∙ c.1, w.next n (λ d. ns (rw d at e)) (λ d. at_head before post n b (sym head ∙ e) (sym c.1 ∙ d)), w.last_some n e))
    (λ e. w.last_none e ∙ c.1) (backs post a.0 b)
  where
    backs : (l : List ℕ) → Lacks s l → Each (λ m. before ≡ Some m → ⊥) l → Each (λ m. (f s ≡ Some m → ⊥) → Same f g f' g' m) l
    backs [] n d = tt
    backs (m ∷ l) n d = ((λ e. (w.next m n.0 (λ i. d.0 (sym c.1 ∙ i)), w.previous m n.0 e)), backs l n.1 d.1)
remove_chain_from f g f' g' first first' last last' s w before here (p ∷ pre) post c a b =
    let away : Lacks p (s ∷ post) = each-right_part (λ j. j ≢ p) pre (s ∷ post) a.0 in
    let np : p ≢ s = λ d. away.0 (sym d) in
    let rest : IsChain f g (Some s) (f s) post last = chain-rest f g before here (p ∷ pre) s post last c in
    let head : f s ≡ head_of post = chain-head f g (Some s) (f s) post last rest in
    let back : g s ≡ last_or (Some p) pre = chain-previous f g before here (p ∷ pre) s post last c in (
      c.0,
      w.previous p np (λ d. not_head p post away.1 (sym head ∙ d)) ∙ c.1,
      (let P : Option ℕ → Type 0 = λ o. IsChain f' g' (Some p) o (pre ++ post) last' in subst P (sym (leads pre a.0 back))
          (remove_chain_from f g f' g' first first' last last' s w (Some p) (f p) pre post c.2 a.1 (others post away.1))),
    )
  where
    leads : (l : List ℕ) → Lacks p (l ++ s ∷ post) → g s ≡ last_or (Some p) l → f' p ≡ start l (f p) (f s)
    leads [] n e = w.next_p p e (λ d. n.0 (sym d))
    leads (q ∷ l) n e = w.next p (λ d. (each-right_part (λ j. j ≢ p) (q ∷ l) (s ∷ post) n).0 (sym d)) (λ d. not_last p q l n.0 (each-left_part (λ j. j ≢ p) l (s ∷ post) n.1) (sym e ∙ d))

    others : (l : List ℕ) → Lacks p l → Each (λ m. Some p ≡ Some m → ⊥) l
    others [] n = tt
    others (m ∷ l) n = ((λ e. n.0 (let d : m ≡ p = cc in d)), others l n.1)

pub remove_chain : (f g f' g' : ℕ → Option ℕ) (first first' last last' : Option ℕ) (s : ℕ) → TakesOut f g f' g' first first' last last' s
    → (pre post : List ℕ) → IsChain f g None first (pre ++ s ∷ post) last → IsApart (pre ++ s ∷ post)
    → IsChain f' g' None first' (pre ++ post) last'
remove_chain f g f' g' first first' last last' s w pre post c a =
    let e : first' ≡ start pre first (f s) = starts pre (chain-previous f g None first pre s post last c) in
    (let P : Option ℕ → Type 0 = λ o. IsChain f' g' None o (pre ++ post) last' in subst P (sym e)
    (remove_chain_from f g f' g' first first' last last' s w None first pre post c a (nones post)))
  where
    nones : (l : List ℕ) → Each (λ m. None ≡ Some m → ⊥) l
    nones [] = tt
    nones (m ∷ l) = ((λ e. cc), nones l)

    last_is : (q : ℕ) (l : List ℕ) → (r : ℕ) × (last_or (Some q) l ≡ Some r)
    last_is q [] = (q, refl)
    last_is q (i ∷ l) = last_is i l

    starts : (l : List ℕ) → g s ≡ last_or None l → first' ≡ start l first (f s)
    starts [] e = w.first_none e
    starts (q ∷ l) e = w.first_some (last_is q l).0 (e ∙ (last_is q l).1)

-- a chain is what is walked, where there are steps enough
pub walk_is : (f g : ℕ → Option ℕ) (before here : Option ℕ) (l : List ℕ) (last : Option ℕ) (n : ℕ) → IsChain f g before here l last → length l ≤ n → walk f n here ≡ l
walk_is f g before here [] last zero c h = refl
walk_is f g before here [] last (suc n) c h = rw c.0
walk_is f g before here (i ∷ l) last zero c h = absurd (omega arith)
walk_is f g before here (i ∷ l) last (suc n) c h = rw c.0 (ap (λ m. i ∷ m) (walk_is f g (Some i) (f i) l last n c.2 (omega arith)))

pub each_without : (P : ℕ → Type 0) (pre : List ℕ) (s : ℕ) (post : List ℕ) → Each P (pre ++ s ∷ post) → Each P (pre ++ post)
each_without P [] s post h = h.1
each_without P (p ∷ pre) s post h = (h.0, each_without P pre s post h.1)

pub apart_without : (pre : List ℕ) (s : ℕ) (post : List ℕ) → IsApart (pre ++ s ∷ post) → IsApart (pre ++ post)
apart_without [] s post h = h.1
apart_without (p ∷ pre) s post h = (each_without (λ j. j ≢ p) pre s post h.0, apart_without pre s post h.1)

pub lacks_front : (pre : List ℕ) (s : ℕ) (post : List ℕ) → IsApart (pre ++ s ∷ post) → Lacks s pre
lacks_front [] s post h = tt
lacks_front (p ∷ pre) s post h = ((λ e. (each-right_part (λ j. j ≢ p) pre (s ∷ post) h.0).0 (sym e)), lacks_front pre s post h.1)

-- what the last of a chain is
pub chain-last : (f g : ℕ → Option ℕ) (before here : Option ℕ) (l : List ℕ) (last : Option ℕ) → IsChain f g before here l last → last ≡ last_or before l
chain-last f g before here [] last c = c.1
chain-last f g before here (i ∷ l) last c = chain-last f g (Some i) (f i) l last c.2

-- what putting t last does to the links
pub record PutsLast (f g f' g' : ℕ → Option ℕ) (first first' last : Option ℕ) (t : ℕ) : Type 0 where
  pub next : (i : ℕ) → i ≢ t → (last ≡ Some i → ⊥) → f' i ≡ f i
  pub next_last : (p : ℕ) → p ≢ t → last ≡ Some p → f' p ≡ Some t
  pub next_t : f' t ≡ None
  pub previous : (i : ℕ) → i ≢ t → g' i ≡ g i
  pub previous_t : g' t ≡ last
  pub first_none : last ≡ None → first' ≡ Some t
  pub first_some : (p : ℕ) → last ≡ Some p → first' ≡ first

append_rest : (f g f' g' : ℕ → Option ℕ) (first first' last : Option ℕ) (t : ℕ) → PutsLast f g f' g' first first' last t
    → (before here : Option ℕ) (i : ℕ) (l : List ℕ) → IsChain f g before here (i ∷ l) last → IsApart (i ∷ l) → Lacks t (i ∷ l)
    → IsChain f' g' before here (i ∷ l ++ t ∷ []) (Some t)
append_rest f g f' g' first first' last t w before here i [] c a k =
    let P : Option ℕ → Type 0 = λ o. IsChain f' g' (Some i) o (t ∷ []) (Some t) in
    (c.0, w.previous i k.0 ∙ c.1, subst P (sym (w.next_last i k.0 c.2.1)) (refl, w.previous_t ∙ c.2.1, (w.next_t, refl)))
append_rest f g f' g' first first' last t w before here i (j ∷ l) c a k =
    let P : Option ℕ → Type 0 = λ o. IsChain f' g' (Some i) o (j ∷ l ++ t ∷ []) (Some t) in
    let still : f' i ≡ f i = w.next i k.0 (λ e. not_last i j l a.0.0 a.0.1 (sym (chain-last f g (Some j) (f j) l last c.2.2) ∙ e)) in
    (c.0, w.previous i k.0 ∙ c.1, subst P (sym still) (append_rest f g f' g' first first' last t w (Some i) (f i) j l c.2 a.1 k.1))

pub append_chain : (f g f' g' : ℕ → Option ℕ) (first first' last : Option ℕ) (t : ℕ) → PutsLast f g f' g' first first' last t
    → (l : List ℕ) → IsChain f g None first l last → IsApart l → Lacks t l → IsChain f' g' None first' (l ++ t ∷ []) (Some t)
append_chain f g f' g' first first' last t w [] c a k = (w.first_none c.1, w.previous_t ∙ c.1, (w.next_t, refl))
append_chain f g f' g' first first' last t w (i ∷ l) c a k =
    let P : Option ℕ → Type 0 = λ o. IsChain f' g' None o (i ∷ l ++ t ∷ []) (Some t) in
    let some : (p : ℕ) × (last_or (Some i) l ≡ Some p) = last_is i l in
    subst P (sym (w.first_some some.0 (chain-last f g (Some i) (f i) l last c.2 ∙ some.1))) (append_rest f g f' g' first first' last t w None first i l c a k)
  where
    last_is : (q : ℕ) (m : List ℕ) → (p : ℕ) × (last_or (Some q) m ≡ Some p)
    last_is q [] = (q, refl)
    last_is q (j ∷ m) = last_is j m

-- what holds of all holds of the first and of the last
pub of_head : (P : ℕ → Type 0) (l : List ℕ) (n : ℕ) → Each P l → head_of l ≡ Some n → P n
of_head P [] n h e = cc
of_head P (i ∷ l) n h e = let d : i ≡ n = cc in subst P d h.0

pub of_last : (P : ℕ → Type 0) (before : Option ℕ) (l : List ℕ) (n : ℕ) → ((m : ℕ) → before ≡ Some m → P m) → Each P l → last_or before l ≡ Some n → P n
of_last P before [] n b h e = b n e
of_last P before (i ∷ l) n b h e = of_last P (Some i) l n (λ m d. let same : i ≡ m = cc in subst P same h.0) h.1 e

pub head_some : (pre : List ℕ) (t : ℕ) (post : List ℕ) → (i : ℕ) × (head_of (pre ++ t ∷ post) ≡ Some i)
head_some [] t post = (t, refl)
head_some (i ∷ pre) t post = (i, refl)
