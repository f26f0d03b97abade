-- Words by rising endpoint: those of one endpoint, and the first of each thread.
use Rattle.std.proofs.Common.{◌≡◌, ◌≢◌, ℕ, zero, suc, ◌+◌, ◌<◌, ◌≤◌, refl, sym, ap, ◌∙◌, arith, Bool, true, false, cond, not, ◌==◌, ◌&&◌, List, [], ◌∷◌, ◌++◌, length, take, drop, get_or, filter, nat_lt, nat_le}
use Rattle.std.specs.List.{All, AllByRecursion, dedup, dedup_from, list_any}
use Rattle.std.specs.List.Sorted.{IsPartitionPoint, IsStableByKey}
use Rattle.std.specs.Cmp.{nat_cmp_is}
use Rattle.std.specs.Ordering.{nat_cmp, is_lt}
use Rattle.std.specs.declared.cmp.Ordering.TheVariants.{Less, Equal, Greater}
use Rattle.std.proofs.lemmas.Bool.{eqb-true, eq-eqb, ne_eqb, ltb-true, ltb-false, leb-true, leb-false}
use Rattle.std.proofs.lemmas.List.{append-nil, take-append-drop, length-take, length-drop, get_or-take, get_or-drop}
use Rattle.std.proofs.lemmas.List.Elements.{filter-append, filter_passes}
use Rattle.std.proofs.lemmas.List.Filters.{All-dedup}
use Rattle.std.proofs.lemmas.Map.Views.{any-filter_same}
use Rattle.query_reach.specs.declared.endpoints.EndpointWord.{EndpointWord}
use Rattle.query_reach.specs.Channels.{is_receiver, sends_by_word, receivers, receivers_without_sender, is_sender_to, is_between_two}
use Rattle.query_reach.specs.ByEndpoint.{AreByEndpoint, leads_to, may_receive, same_receiver}

-- ---- a test that all elements pass, or none

pub filter_all : {X : Type 0} (p : X → Bool) (xs : List X) → All (λ (x : X). p x ≡ true) xs → filter p xs ≡ xs
filter_all p [] h = refl
filter_all p (x ∷ xs) h =
    ap (λ (b : Bool). cond b (x ∷ filter p xs) (filter p xs)) (h 0 x (omega arith))
    ∙ ap (λ (l : List _). x ∷ l) (filter_all p xs (λ k d lt. h (suc k) d (omega arith)))

pub filter_none : {X : Type 0} (p : X → Bool) (xs : List X) → All (λ (x : X). p x ≡ false) xs → filter p xs ≡ []
filter_none p [] h = refl
filter_none p (x ∷ xs) h =
    ap (λ (b : Bool). cond b (x ∷ filter p xs) (filter p xs)) (h 0 x (omega arith))
    ∙ filter_none p xs (λ k d lt. h (suc k) d (omega arith))

-- ---- a filter of a filter

split : {X : Type 0} (p : X → Bool) (b : Bool) (x : X) (l : List X) →
    filter p (cond b (x ∷ l) l) ≡ cond b (cond (p x) (x ∷ filter p l) (filter p l)) (filter p l)
split p true x l = refl
split p false x l = refl

joined : {X : Type 0} (a b : Bool) (x : X) (l : List X) → cond b (cond a (x ∷ l) l) l ≡ cond (a && b) (x ∷ l) l
joined true true x l = refl
joined true false x l = refl
joined false true x l = refl
joined false false x l = refl

pub filter_both : {X : Type 0} (p q : X → Bool) (xs : List X) → filter p (filter q xs) ≡ filter (λ (x : X). p x && q x) xs
filter_both p q [] = refl
filter_both p q (x ∷ xs) =
    split p (q x) x (filter q xs)
    ∙ joined (p x) (q x) x (filter p (filter q xs))
    ∙ ap (λ (l : List _). cond (p x && q x) (x ∷ l) l) (filter_both p q xs)

-- ---- the order, by recursion

abbrev Rises : List EndpointWord → Type 0
Rises [] = Unit {0}
Rises (x ∷ xs) = AllByRecursion (λ (y : EndpointWord). x.endpoint ≤ y.endpoint) xs × Rises xs

at_each : (P : EndpointWord → Type 0) (xs : List EndpointWord) → All P xs → AllByRecursion P xs
at_each P [] h = tt
at_each P (x ∷ xs) h = (h 0 x (omega arith), at_each P xs (λ k d lt. h (suc k) d (omega arith)))

at_one : (P : EndpointWord → Type 0) (xs : List EndpointWord) → AllByRecursion P xs → All P xs
at_one P [] h k d lt = absurd (omega arith)
at_one P (x ∷ xs) h zero d lt = h.0
at_one P (x ∷ xs) h (suc k) d lt = at_one P xs h.1 k d (omega arith)

pub rises : (xs : List EndpointWord) → AreByEndpoint xs → Rises xs
rises [] h = tt
rises (x ∷ xs) h = (
  at_each (λ (y : EndpointWord). x.endpoint ≤ y.endpoint) xs (λ k d lt. h 0 (suc k) d (omega arith) (omega arith)),
  rises xs (λ i j d le lt. h (suc i) (suc j) d (omega arith) (omega arith)),
)

pub risen : (xs : List EndpointWord) → Rises xs → AreByEndpoint xs
risen [] h i j d le lt = absurd (omega arith)
risen (x ∷ xs) h zero zero d le lt = omega arith
risen (x ∷ xs) h zero (suc j) d le lt = at_one (λ (y : EndpointWord). x.endpoint ≤ y.endpoint) xs h.0 j d (omega arith)
risen (x ∷ xs) h (suc i) zero d le lt = absurd (omega arith)
risen (x ∷ xs) h (suc i) (suc j) d le lt = risen xs h.1 i j d (omega arith) (omega arith)

-- ---- the first of each thread

in_each : (P : List EndpointWord → Type 0) (b : Bool) (l r : List EndpointWord) → P l → P r → P (cond b l r)
in_each P true l r h k = h
in_each P false l r h k = k

kept : (P : EndpointWord → Type 0) (k : EndpointWord) (xs : List EndpointWord) → P k → AllByRecursion P xs →
    AllByRecursion P (dedup_from same_receiver k xs)
kept P k [] p h = (p, tt)
kept P k (x ∷ xs) p h =
    in_each (AllByRecursion P) (same_receiver x k) _ _ (kept P k xs p h.1) (p, kept P x xs h.0 h.1)

still_rises : (k : EndpointWord) (xs : List EndpointWord) → Rises (k ∷ xs) → Rises (dedup_from same_receiver k xs)
still_rises k [] h = (tt, tt)
still_rises k (x ∷ xs) h =
    in_each Rises (same_receiver x k) _ _ (still_rises k xs (h.0.1, h.1.1))
    (kept (λ (y : EndpointWord). k.endpoint ≤ y.endpoint) x xs h.0.0 h.0.1, still_rises x xs h.1)

pub first_by_endpoint : (xs : List EndpointWord) → AreByEndpoint xs → AreByEndpoint (dedup same_receiver xs)
first_by_endpoint [] h = h
first_by_endpoint (x ∷ xs) h = risen (dedup_from same_receiver x xs) (still_rises x xs (rises (x ∷ xs) h))

-- ---- those of one endpoint

abbrev same_thread : EndpointWord → EndpointWord → Bool
same_thread v w = v.thread == w.thread

-- by whether the one kept last, k, leads to e, and the next, x, too; s says whether both lead to one endpoint
placed : (b c s t : Bool) (k x : EndpointWord) (l : List EndpointWord) → (x.thread == k.thread) ≡ t →
    (b ≡ true → c ≡ true → s ≡ true) → (s ≡ true → b ≡ c) → (b ≡ true → c ≡ false → l ≡ []) →
    cond (s && t) (dedup same_thread (cond b (k ∷ l) l)) (cond b (k ∷ dedup same_thread (cond c (x ∷ l) l)) (dedup same_thread (cond c (x ∷ l) l)))
    ≡ dedup same_thread (cond b (k ∷ cond c (x ∷ l) l) (cond c (x ∷ l) l))
placed true true true t k x l e both one none = ap (λ (b : Bool). cond b (dedup_from same_thread k l) (k ∷ dedup_from same_thread x l)) (sym e)
placed true true false t k x l e both one none = cc (both refl refl)
placed true false true t k x l e both one none = cc (one refl)
placed true false false t k x l e both one none =
    ap (λ (m : List EndpointWord). k ∷ dedup same_thread m) (none refl refl) ∙ sym (ap (dedup_from same_thread k) (none refl refl))
placed false true true t k x l e both one none = cc (one refl)
placed false true false t k x l e both one none = refl
placed false false true true k x l e both one none = refl
placed false false true false k x l e both one none = refl
placed false false false t k x l e both one none = refl

greater : (e m : ℕ) (xs : List EndpointWord) → e < m → AllByRecursion (λ (y : EndpointWord). m ≤ y.endpoint) xs → filter (leads_to e) xs ≡ []
greater e m [] h all = refl
greater e m (x ∷ xs) h all =
    ap (λ (b : Bool). cond b (x ∷ filter (leads_to e) xs) (filter (leads_to e) xs)) (ne_eqb x.endpoint e (λ eq. let le = all.0 in omega arith))
    ∙ greater e m xs h all.1

unequal : (a b : ℕ) → (a == b) ≡ false → a ≢ b
unequal a b h e = cc (eq-eqb a b e)

-- what is kept of the words from k on
each_at : (e : ℕ) (m : Bool) (k : EndpointWord) (xs ys : List EndpointWord) →
    filter (leads_to e) (cond m xs (k ∷ ys))
    ≡ cond m (filter (leads_to e) xs) (cond (k.endpoint == e) (k ∷ filter (leads_to e) ys) (filter (leads_to e) ys))
each_at e true k xs ys = refl
each_at e false k xs ys = refl

alone : (b : Bool) (k : EndpointWord) → cond b (k ∷ []) [] ≡ dedup same_thread (cond b (k ∷ []) [])
alone true k = refl
alone false k = refl

first_from : (e : ℕ) (k : EndpointWord) (xs : List EndpointWord) → Rises (k ∷ xs) →
    filter (leads_to e) (dedup_from same_receiver k xs) ≡ dedup same_thread (filter (leads_to e) (k ∷ xs))
first_from e k [] h = alone (k.endpoint == e) k
first_from e k (x ∷ xs) h =
    each_at e (same_receiver x k) k (dedup_from same_receiver k xs) (dedup_from same_receiver x xs)
    ∙ ((λ i. cond (same_receiver x k) ((first_from e k xs (h.0.1, h.1.1)) i) (cond (k.endpoint == e) (k ∷ (first_from e x xs h.1) i) ((first_from e x xs h.1) i)))
    ∙ placed (k.endpoint == e) (x.endpoint == e) (x.endpoint == k.endpoint) (x.thread == k.thread) k x (filter (leads_to e) xs) refl
    (λ p q. eq-eqb x.endpoint k.endpoint (eqb-true x.endpoint e q ∙ sym (eqb-true k.endpoint e p)))
    (λ p. ap (λ (n : ℕ). n == e) (sym (eqb-true x.endpoint k.endpoint p)))
    (λ p q. greater e x.endpoint xs (between p q) h.1.0))
  where
    between : (k.endpoint == e) ≡ true → (x.endpoint == e) ≡ false → e < x.endpoint
    between p q = let is = eqb-true k.endpoint e p in let not_is = unequal x.endpoint e q in let le = h.0.0 in omega arith

first_of : (e : ℕ) (xs : List EndpointWord) → AreByEndpoint xs →
    filter (leads_to e) (dedup same_receiver xs) ≡ dedup same_thread (filter (leads_to e) xs)
first_of e [] h = refl
first_of e (x ∷ xs) h = first_from e x xs (rises (x ∷ xs) h)

pub receivers_at : (e : ℕ) (words reading sorted : List EndpointWord) → AreByEndpoint sorted →
    filter (leads_to e) sorted ≡ filter (leads_to e) reading → reading ≡ filter may_receive words →
    filter (leads_to e) (dedup same_receiver sorted) ≡ receivers words e
receivers_at e words reading sorted up same is =
    first_of e sorted up
    ∙ ap (dedup same_thread) (same ∙ (ap (filter (leads_to e)) is ∙ filter_both (leads_to e) may_receive words))

-- ---- a stable sort

tie_less : (a b : ℕ) → a < b → (not (is_lt (nat_cmp a b)) && not (is_lt (nat_cmp b a))) ≡ (b == a)
tie_less a b h =
    (λ i. not (is_lt ((sym (nat_cmp_is a b Less h)) i)) && not (is_lt (nat_cmp b a))) ∙ sym (ne_eqb b a (λ e. omega arith))

tie_same : (a b : ℕ) → a ≡ b → (not (is_lt (nat_cmp a b)) && not (is_lt (nat_cmp b a))) ≡ (b == a)
tie_same a b h =
    (λ i. not (is_lt ((sym (nat_cmp_is a b Equal h)) i)) && not (is_lt ((sym (nat_cmp_is b a Equal (sym h))) i))) ∙ sym (eq-eqb b a (sym h))

tie_more : (a b : ℕ) → b < a → (not (is_lt (nat_cmp a b)) && not (is_lt (nat_cmp b a))) ≡ (b == a)
tie_more a b h =
    (λ i. not (is_lt ((sym (nat_cmp_is a b Greater h)) i)) && not (is_lt ((sym (nat_cmp_is b a Less h)) i))) ∙ sym (ne_eqb b a (λ e. omega arith))

tie : (a b : ℕ) → (not (is_lt (nat_cmp a b)) && not (is_lt (nat_cmp b a))) ≡ (b == a)
tie a b = elim (nat_lt a b) as (λ c. nat_lt a b ≡ c → (not (is_lt (nat_cmp a b)) && not (is_lt (nat_cmp b a))) ≡ (b == a)) [
  | true ↦ λ e. tie_less a b (ltb-true a b e)
  | false ↦ λ e. elim (nat_lt b a) as (λ c. nat_lt b a ≡ c → (not (is_lt (nat_cmp a b)) && not (is_lt (nat_cmp b a))) ≡ (b == a)) [
    | true ↦ λ f. tie_more a b (ltb-true b a f)
    | false ↦ λ f. tie_same a b (let le = ltb-false a b e in let ge = ltb-false b a f in omega arith)
  ] refl
] refl

abbrev word_of : ℕ → EndpointWord
word_of e = record { thread = 0; shared = false; word = 0; endpoint = e; badge = record { 0 = 0 }; rights = record { 0 = 0 } }

pub same_at : (e : ℕ) (xs ys : List EndpointWord) → IsStableByKey (λ (v : EndpointWord). v.endpoint) nat_cmp xs ys →
    filter (leads_to e) ys ≡ filter (leads_to e) xs
same_at e xs ys stable =
    (λ i. filter (λ (y : EndpointWord). (sym (tie e y.endpoint)) i) ys)
    ∙ (stable (word_of e) ∙ (λ i. filter (λ (y : EndpointWord). (tie e y.endpoint) i) xs))

-- ---- by halving

less_at : (e n : ℕ) → nat_lt n e ≡ true → (n == e) ≡ false
less_at e n h = ne_eqb n e (λ eq. let l = ltb-true n e h in omega arith)

more_at : (e n : ℕ) → nat_le n e ≡ false → (n == e) ≡ false
more_at e n h = ne_eqb n e (λ eq. let l = leb-false n e h in omega arith)

exact_at : (e n : ℕ) → nat_lt n e ≡ false → nat_le n e ≡ true → (n == e) ≡ true
exact_at e n h k = eq-eqb n e (let l = ltb-false n e h in let m = leb-true n e k in omega arith)

pub between : (e : ℕ) (xs : List EndpointWord) (i j : ℕ) → i ≤ length xs →
    IsPartitionPoint (λ (y : EndpointWord). nat_lt y.endpoint e ≡ true) (λ (y : EndpointWord). nat_lt y.endpoint e ≡ false) xs i →
    IsPartitionPoint (λ (y : EndpointWord). nat_le y.endpoint e ≡ true) (λ (y : EndpointWord). nat_le y.endpoint e ≡ false) (drop i xs) j →
    take j (drop i xs) ≡ filter (leads_to e) xs
between e xs i j in' low high =
    sym (ap (filter (leads_to e)) (sym (take-append-drop i xs))
    ∙ (filter-append (leads_to e) (take i xs) rest
    ∙ (ap (λ (l : List EndpointWord). l ++ filter (leads_to e) rest) (filter_none (leads_to e) (take i xs) front)
    ∙ (ap (filter (leads_to e)) (sym (take-append-drop j rest))
    ∙ (filter-append (leads_to e) (take j rest) (drop j rest)
    ∙ ((λ k. (filter_all (leads_to e) (take j rest) middle) k ++ (filter_none (leads_to e) (drop j rest) back) k)
    ∙ append-nil (take j rest)))))))
  where
    rest : List EndpointWord
    rest = drop i xs

    front : All (λ (y : EndpointWord). leads_to e y ≡ false) (take i xs)
    front k d lt =
        let short = length-take i xs in
        ap (leads_to e) (get_or-take i xs k d (omega arith)) ∙ less_at e (get_or xs k d).endpoint (low.0 k d (omega arith) (omega arith))

    middle : All (λ (y : EndpointWord). leads_to e y ≡ true) (take j rest)
    middle k d lt =
        let short = length-take j rest in
        let long = length-drop i xs in
        let at = ap (λ (y : EndpointWord). nat_le y.endpoint e) (get_or-drop i xs k d) in
        ap (leads_to e) (get_or-take j rest k d (omega arith) ∙ get_or-drop i xs k d)
        ∙ exact_at e (get_or xs (i + k) d).endpoint (low.1 (i + k) d (omega arith) (omega arith)) (sym at ∙ high.0 k d (omega arith) (omega arith))

    back : All (λ (y : EndpointWord). leads_to e y ≡ false) (drop j rest)
    back k d lt =
        let long = length-drop j rest in
        ap (leads_to e) (get_or-drop j rest k d) ∙ more_at e (get_or rest (j + k) d).endpoint (high.1 (j + k) d (omega arith) (omega arith))

-- ---- the receivers without a sender, by the words of their endpoint

again : (a r : Bool) → ((a && r) && a) ≡ (a && r)
again true true = refl
again true false = refl
again false true = refl
again false false = refl

receivers_of : (e : ℕ) (words : List EndpointWord) → receivers (filter (leads_to e) words) e ≡ receivers words e
receivers_of e words =
    ap (dedup (λ (v w : EndpointWord). v.thread == w.thread))
    (filter_both (is_receiver e) (leads_to e) words
    ∙ (λ i. filter (λ (v : EndpointWord). (again (v.endpoint == e) (may_receive v)) i) words))

second_true : (a b : Bool) → (a && b) ≡ true → b ≡ true
second_true true b h = h
second_true false b h = cc h

first_true : (a b : Bool) → (a && b) ≡ true → a ≡ true
first_true true b h = refl
first_true false b h = h

-- who may send to a receiver sends to its endpoint
sender_leads : (e : ℕ) (v u : EndpointWord) → v.endpoint ≡ e → is_sender_to v u ≡ true → leads_to e u ≡ true
sender_leads e v u at h =
    eq-eqb u.endpoint e
    (eqb-true u.endpoint v.endpoint (first_true (u.endpoint == v.endpoint) (is_between_two u v) (second_true (sends_by_word u) _ h)) ∙ at)

filter_like : {X : Type 0} (p q : X → Bool) (xs : List X) → All (λ (x : X). p x ≡ q x) xs → filter p xs ≡ filter q xs
filter_like p q [] h = refl
filter_like p q (x ∷ xs) h =
    (λ i. cond ((h 0 x (omega arith)) i) (x ∷ filter p xs) (filter p xs))
    ∙ ap (λ (l : List _). cond (q x) (x ∷ l) l) (filter_like p q xs (λ k d lt. h (suc k) d (omega arith)))

at_endpoint : (e : ℕ) (words : List EndpointWord) → All (λ (v : EndpointWord). v.endpoint ≡ e) (receivers words e)
at_endpoint e words =
    All-dedup (λ (v w : EndpointWord). v.thread == w.thread) (λ (v : EndpointWord). v.endpoint ≡ e) (filter (is_receiver e) words)
    (λ k d lt. let v = get_or (filter (is_receiver e) words) k d in
    eqb-true v.endpoint e (first_true (v.endpoint == e) (may_receive v) (filter_passes (is_receiver e) words k d lt)))

pub unserved_of : (e : ℕ) (words : List EndpointWord) → receivers_without_sender (filter (leads_to e) words) e ≡ receivers_without_sender words e
unserved_of e words =
    ap (filter (λ (v : EndpointWord). not (list_any (is_sender_to v) (filter (leads_to e) words)))) (receivers_of e words)
    ∙ filter_like (λ (v : EndpointWord). not (list_any (is_sender_to v) (filter (leads_to e) words))) (λ (v : EndpointWord). not (list_any (is_sender_to v) words)) (receivers words e)
    (λ k d lt. let v = get_or (receivers words e) k d in
    ap not (any-filter_same (is_sender_to v) (leads_to e) true (λ u h. sender_leads e v u (at_endpoint e words k d lt) h) words))
