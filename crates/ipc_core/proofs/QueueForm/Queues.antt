-- Queues that the links lead along: what is walked is the queue, and which lists have what.
use Rattle.std.proofs.Common.{◌≡◌, ◌≢◌, ℕ, ◌<◌, ◌≤◌, ◌/◌, ◌%◌, ◌==◌, Bool, true, false, cond, not, ◌||◌, List, [], ◌∷◌, ◌++◌, map, length, Option, Some, None, option_map, inl, inr, refl, sym, ap, subst, ◌∙◌, arith, eq-eqb, append_assoc}
use Rattle.std.specs.List.{AllByRecursion as Each}
use Rattle.std.proofs.lemmas.Bool.{ne_eqb}
use Rattle.std.proofs.lemmas.Bool.Decides.{eqb_tells}
use Rattle.std.proofs.lemmas.List.{length-map}
use Rattle.std.proofs.lemmas.List.Elements.{filter-append}
use Rattle.cap_core.specs.declared.profile.ProfileName.{ProfileName}
use Rattle.cap_core.specs.Numbers.{tcb_size}
use Rattle.ipc_core.specs.declared.tables.Tables.{Tables}
use Rattle.ipc_core.specs.Waits.{endpoint_of}
use Rattle.ipc_core.specs.Representation.Chains.{Lacks, IsApart, has, removed}
use Rattle.ipc_core.specs.Representation.Linked.{Links, links_of, order_of, orders_in, waits_by, waits_in, AreLinked, IsLinked}
pub use Rattle.ipc_core.specs.Evidence.TablesAgree.{thread_of_waiter}
use Rattle.cap_core.proofs.Distinct.{few}
use Rattle.ipc_core.proofs.QueueForm.Chains.{walk_is}
use Rattle.ipc_core.proofs.RowForm.Room.{quotient_of}

-- a list has what stands somewhere in it
abbrev pub IsIn : ℕ → List ℕ → Type 0
IsIn i l = (pre : List ℕ) × (post : List ℕ) × (l ≡ pre ++ i ∷ post)

pub is_in : (i : ℕ) (l : List ℕ) → has i l ≡ true → IsIn i l
is_in i [] h = cc
is_in i (j ∷ l) h = elim (eqb_tells j i) [
  | inl w ↦ ([], l, ap (λ k. k ∷ l) w.1)
  | inr w ↦ let rest : IsIn i l = is_in i l (sym (ap (λ b. b || has i l) w.0) ∙ h) in (j ∷ rest.0, rest.1, ap (λ m. j ∷ m) rest.2)
]

pub has_in : (i : ℕ) (l : List ℕ) → IsIn i l → has i l ≡ true
has_in i l at = ap (has i) at.2 ∙ front at.0
  where
    front : (pre : List ℕ) → has i (pre ++ i ∷ at.1) ≡ true
    front [] = ap (λ b. b || has i at.1) (eq-eqb i i refl)
    front (j ∷ pre) = either (j == i) (front pre)
      where
        either : (b : Bool) → has i (pre ++ i ∷ at.1) ≡ true → (b || has i (pre ++ i ∷ at.1)) ≡ true
        either true h = refl
        either false h = h

-- a thread of a queue waits there
pub some_of : {X Y : Type 0} (f : X → Y) (o : Option X) (y : Y) → option_map f o ≡ Some y → (x : X) × (o ≡ Some x) × (f x ≡ y)
some_of f None y e = cc
some_of f (Some x) y e = (x, refl, (let d : f x ≡ y = cc in d))

pub each_is : (P Q : ℕ → Type 0) → ((i : ℕ) → P i → Q i) → (l : List ℕ) → Each P l → Each Q l
each_is P Q h [] a = tt
each_is P Q h (i ∷ l) a = (h i a.0, each_is P Q h l a.1)

-- threads of one queue are apart by their rows too
lacks_place : (size t : ℕ) (l : List ℕ) → t % size ≡ 0 → Each (λ j. j % size ≡ 0) l → Lacks t l → Lacks (t / size) (map (λ j. j / size) l)
lacks_place size t [] aligned all lacks = tt
lacks_place size t (j ∷ l) aligned all lacks = ((λ same. lacks.0 (quotient_of j t size all.0 aligned same)), lacks_place size t l aligned all.1 lacks.1)

apart_places : (size : ℕ) (l : List ℕ) → Each (λ j. j % size ≡ 0) l → IsApart l → IsApart (map (λ j. j / size) l)
apart_places size [] all apart = tt
apart_places size (j ∷ l) all apart = (lacks_place size j l all.0 all.1 apart.0, apart_places size l all.1 apart.1)

below_places : (size n : ℕ) (l : List ℕ) → Each (λ j. j / size < n) l → Each (λ i. i < n) (map (λ j. j / size) l)
below_places size n [] all = tt
below_places size n (j ∷ l) all = (all.0, below_places size n l all.1)

module _ (size n : ℕ) (l : Links) (orders : ℕ → List ℕ) (linked : AreLinked size n l orders) where
  placed_in : (e : ℕ) → Each (λ t. (t % size ≡ 0) × (t / size < n)) (orders e)
  placed_in e =
      each_is (λ t. option_map endpoint_of (l.thread t).role ≡ Some e) (λ t. (t % size ≡ 0) × (t / size < n))
      (λ t in_e. let r = some_of endpoint_of (l.thread t).role e in_e in linked.placed t r.0 r.1)
      (orders e) (linked.members e)

  pub queue_short : (e : ℕ) → length (orders e) ≤ n
  queue_short e =
      let places : List ℕ = map (λ j. j / size) (orders e) in
      let aligned = each_is _ (λ j. j % size ≡ 0) (λ t both. both.0) (orders e) (placed_in e) in
      let within = each_is _ (λ j. j / size < n) (λ t both. both.1) (orders e) (placed_in e) in
      let short : length places ≤ n = few n places (apart_places size (orders e) aligned (linked.apart e)) (below_places size n (orders e) within) in
      let long : length places ≡ length (orders e) = length-map (orders e) (λ j. j / size) in
      omega arith

  pub walked : (e : ℕ) → order_of n l e ≡ orders e
  walked e =
      walk_is (λ t. (l.thread t).next) (λ t. (l.thread t).previous) None (l.endpoint e).first (orders e) (l.endpoint e).last n (linked.chain e) (queue_short e)

-- tables whose links are known
pub stands : (p : ProfileName) (tables : Tables) (n : ℕ) (l : Links) (orders : ℕ → List ℕ) →
    links_of p tables ≡ l → length tables.threads.items ≡ n → AreLinked (tcb_size p) n l orders →
    (waits_in p tables ≡ waits_by l orders) × (orders_in p tables ≡ orders) × IsLinked p tables
stands p tables n l orders links size linked =
    let same_orders : orders_in p tables ≡ orders = ap (λ k. order_of k (links_of p tables)) size ∙ ap (order_of n) links ∙ (λ i e. walked (tcb_size p) n l orders linked e i) in
    let with_links : AreLinked (tcb_size p) n (links_of p tables) orders = (let P : Links → Type 0 = λ k. AreLinked (tcb_size p) n k orders in subst P (sym links) linked) in
    let with_size : AreLinked (tcb_size p) (length tables.threads.items) (links_of p tables) orders = (let P : ℕ → Type 0 = λ k. AreLinked (tcb_size p) k (links_of p tables) orders in subst P (sym size) with_links) in (
      ap (waits_by (links_of p tables)) same_orders ∙ ap (λ k. waits_by k orders) links,
      same_orders,
      (let P : (ℕ → List ℕ) → Type 0 = λ o. AreLinked (tcb_size p) (length tables.threads.items) (links_of p tables) o in subst P (sym same_orders) with_size),
    )

-- a list without one of its members
pub removed_absent : (s : ℕ) (l : List ℕ) → Lacks s l → removed s l ≡ l
removed_absent s [] lacks = refl
removed_absent s (j ∷ l) lacks =
    ap (λ b. cond (not b) (j ∷ removed s l) (removed s l)) (ne_eqb j s lacks.0) ∙ ap (λ rest. j ∷ rest) (removed_absent s l lacks.1)

pub removed_is : (pre : List ℕ) (s : ℕ) (post : List ℕ) → Lacks s pre → Lacks s post → removed s (pre ++ s ∷ post) ≡ pre ++ post
removed_is pre s post before behind =
    filter-append (λ j. not (j == s)) pre (s ∷ post)
    ∙ ap (λ front. front ++ removed s (s ∷ post)) (removed_absent s pre before)
    ∙ ap (λ back. pre ++ back) (ap (λ b. cond (not b) (s ∷ removed s post) (removed s post)) (eq-eqb s s refl) ∙ removed_absent s post behind)

-- what holds of all but s holds of each that is left
pub each_removed : (P Q : ℕ → Type 0) (s : ℕ) → ((i : ℕ) → i ≢ s → P i → Q i) → (l : List ℕ) → Each P l → Each Q (removed s l)
each_removed P Q s h [] a = tt
each_removed P Q s h (j ∷ l) a = elim (eqb_tells j s) [
  | inl w ↦ subst (Each Q) (sym (ap (λ b. cond (not b) (j ∷ removed s l) (removed s l)) w.0)) (each_removed P Q s h l a.1)
  | inr w ↦ subst (Each Q) (sym (ap (λ b. cond (not b) (j ∷ removed s l) (removed s l)) w.0)) (h j w.1 a.0, each_removed P Q s h l a.1)
]

pub apart_removed : (s : ℕ) (l : List ℕ) → IsApart l → IsApart (removed s l)
apart_removed s [] a = tt
apart_removed s (j ∷ l) a = elim (eqb_tells j s) [
  | inl w ↦ subst IsApart (sym (ap (λ b. cond (not b) (j ∷ removed s l) (removed s l)) w.0)) (apart_removed s l a.1)
  | inr w ↦ subst IsApart (sym (ap (λ b. cond (not b) (j ∷ removed s l) (removed s l)) w.0)) (each_removed (λ i. i ≢ j) (λ i. i ≢ j) s (λ i ne h. h) l a.0, apart_removed s l a.1)
]

pub in_removed : (t s : ℕ) (l : List ℕ) → t ≢ s → IsIn t l → IsIn t (removed s l)
in_removed t s l ne at = (
  removed s at.0,
  removed s at.1,
  ap (removed s) at.2 ∙ filter-append (λ j. not (j == s)) at.0 (t ∷ at.1)
      ∙ ap (λ b. removed s at.0 ++ cond (not b) (t ∷ removed s at.1) (removed s at.1)) (ne_eqb t s ne),
)

pub in_front : (t : ℕ) (l m : List ℕ) → IsIn t l → IsIn t (l ++ m)
in_front t l m at = (at.0, at.1 ++ m, ap (λ k. k ++ m) at.2 ∙ append_assoc at.0 (t ∷ at.1) m)

pub maps_removed : {X : Type 0} (f g : ℕ → X) (s : ℕ) → ((i : ℕ) → i ≢ s → f i ≡ g i) → (l : List ℕ) → map f (removed s l) ≡ map g (removed s l)
maps_removed f g s h [] = refl
maps_removed f g s h (j ∷ l) = elim (eqb_tells j s) [
  | inl w ↦ ap (λ b. map f (cond (not b) (j ∷ removed s l) (removed s l))) w.0 ∙ maps_removed f g s h l ∙ sym (ap (λ b. map g (cond (not b) (j ∷ removed s l) (removed s l))) w.0)
  | inr w ↦
      ap (λ b. map f (cond (not b) (j ∷ removed s l) (removed s l))) w.0
      ∙ ap (λ x. x ∷ map f (removed s l)) (h j w.1) ∙ ap (λ rest. g j ∷ rest) (maps_removed f g s h l)
      ∙ sym (ap (λ b. map g (cond (not b) (j ∷ removed s l) (removed s l))) w.0)
]

pub maps_same : {X : Type 0} (f g : ℕ → X) (l : List ℕ) → Each (λ i. f i ≡ g i) l → map f l ≡ map g l
maps_same f g [] h = refl
maps_same f g (j ∷ l) h = ap (λ x. x ∷ map f l) h.0 ∙ ap (λ rest. g j ∷ rest) (maps_same f g l h.1)

-- a thread that waits nowhere, or elsewhere, is in no queue, or not in this one
pub lacks_from : (l : Links) (t e : ℕ) (list : List ℕ) → (option_map endpoint_of (l.thread t).role ≡ Some e → ⊥) → Each (λ i. option_map endpoint_of (l.thread i).role ≡ Some e) list → Lacks t list
lacks_from l t e list away members =
    each_is (λ i. option_map endpoint_of (l.thread i).role ≡ Some e) (λ i. i ≢ t) (λ i at same. away (ap (λ k. option_map endpoint_of (l.thread k).role) (sym same) ∙ at)) list members

-- what waits on an endpoint is in the queue of no other
pub lacks_elsewhere : (size n : ℕ) (l : Links) (orders : ℕ → List ℕ) (linked : AreLinked size n l orders) (e q t : ℕ) (rest : List ℕ) → q ≢ e → orders e ≡ t ∷ rest → Lacks t (orders q)
lacks_elsewhere size n l orders linked e q t rest ne first =
    let at_e : option_map endpoint_of (l.thread t).role ≡ Some e = (subst (Each (λ i. option_map endpoint_of (l.thread i).role ≡ Some e)) first (linked.members e)).0 in
    lacks_from l t q (orders q) (λ at_q. ne (let same : Some q ≡ Some e = sym at_q ∙ at_e in let d : q ≡ e = cc in d)) (linked.members q)
