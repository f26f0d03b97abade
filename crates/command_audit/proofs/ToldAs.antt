-- Who is told as whom: threads that can name just the same.
use Rattle.std.proofs.Common.{◌≡◌, ℕ, zero, suc, ◌<◌, Bool, true, false, cond, not, ◌==◌, ◌&&◌, List, [], ◌∷◌, length, get_or, Option, Some, None, unwrap_or, refl, sym, ap, ◌∙◌, arith}
use Rattle.std.specs.List.{find, Contains}
use Rattle.std.specs.Cmp.Lexicographic.{pointwise}
use Rattle.std.proofs.lemmas.Bool.{and_from, and_parts, eqb-true, eq-eqb}
use Rattle.query_reach.specs.declared.held.Held.{Held}
use Rattle.query_reach.specs.declared.reached.Reached.{Reached}
use Rattle.command_audit.specs.declared.threads.ThreadSlots.{ThreadSlots}
use Rattle.command_audit.specs.Spaces.{same_reached, same_held, name_alike, other_than, NameTheSame, IsToldRight, IsToldOnce}

-- ---- lists that are equal row by row

pointwise_is : {X : Type 0} (E : X → X → Bool) → ((x y : X) → E x y ≡ true → x ≡ y) → (xs ys : List X) → pointwise E xs ys ≡ true → xs ≡ ys
pointwise_is E is [] [] h = refl
pointwise_is E is [] (y ∷ ys) h = cc h
pointwise_is E is (x ∷ xs) [] h = cc h
pointwise_is E is (x ∷ xs) (y ∷ ys) h =
    let both = and_parts (E x y) (pointwise E xs ys) h in
    λ i. (is x y both.0) i ∷ (pointwise_is E is xs ys both.1) i

pointwise_self : {X : Type 0} (E : X → X → Bool) → ((x : X) → E x x ≡ true) → (xs : List X) → pointwise E xs xs ≡ true
pointwise_self E is [] = refl
pointwise_self E is (x ∷ xs) = and_from (E x x) (pointwise E xs xs) (is x) (pointwise_self E is xs)

reached_is : (r s : Reached) → same_reached r s ≡ true → r ≡ s
reached_is r s h =
    let both = and_parts (r.word == s.word) (r.slot == s.slot) h in
    λ i. record { word = (eqb-true r.word s.word both.0) i; slot = (eqb-true r.slot s.slot both.1) i }

reached_self : (r : Reached) → same_reached r r ≡ true
reached_self r = and_from (r.word == r.word) (r.slot == r.slot) (eq-eqb r.word r.word refl) (eq-eqb r.slot r.slot refl)

held_is : (h k : Held) → same_held h k ≡ true → h ≡ k
held_is h k e =
    let first = and_parts (h.word == k.word) ((h.depth == k.depth) && ((h.index == k.index) && (h.slot == k.slot))) e in
    let second = and_parts (h.depth == k.depth) ((h.index == k.index) && (h.slot == k.slot)) first.1 in
    let third = and_parts (h.index == k.index) (h.slot == k.slot) second.1 in
    λ i. record {
      word = (eqb-true h.word k.word first.0) i;
      depth = (eqb-true h.depth k.depth second.0) i;
      index = (eqb-true h.index k.index third.0) i;
      slot = (eqb-true h.slot k.slot third.1) i;
    }

held_self : (h : Held) → same_held h h ≡ true
held_self h =
    and_from (h.word == h.word) ((h.depth == h.depth) && ((h.index == h.index) && (h.slot == h.slot))) (eq-eqb h.word h.word refl)
    (and_from (h.depth == h.depth) ((h.index == h.index) && (h.slot == h.slot)) (eq-eqb h.depth h.depth refl)
    (and_from (h.index == h.index) (h.slot == h.slot) (eq-eqb h.index h.index refl) (eq-eqb h.slot h.slot refl)))

-- ---- two threads

same_names : (t u : ThreadSlots) → name_alike t u ≡ true → NameTheSame t u
same_names t u h =
    let some = and_parts (not (length t.reached.items == 0)) (pointwise same_reached t.reached.items u.reached.items && pointwise same_held t.held.items u.held.items) h in
    let both = and_parts (pointwise same_reached t.reached.items u.reached.items) (pointwise same_held t.held.items u.held.items) some.1 in
    record {
      reached = pointwise_is same_reached reached_is t.reached.items u.reached.items both.0;
      held = pointwise_is same_held held_is t.held.items u.held.items both.1;
    }

like_itself : (t : ThreadSlots) → (length t.reached.items == 0) ≡ false → name_alike t t ≡ true
like_itself t some =
    and_from (not (length t.reached.items == 0)) (pointwise same_reached t.reached.items t.reached.items && pointwise same_held t.held.items t.held.items)
    (ap not some)
    (and_from (pointwise same_reached t.reached.items t.reached.items) (pointwise same_held t.held.items t.held.items)
    (pointwise_self same_reached reached_self t.reached.items) (pointwise_self same_held held_self t.held.items))

-- ---- what is found

found : {X : Type 0} (p : X → Bool) (xs : List X) (u : X) → find p xs ≡ Some u → Contains xs u × (p u ≡ true)
found p [] u h = cc h
found p (x ∷ xs) u h =
    elim (p x) as (λ b. p x ≡ b → cond b (Some x) (find p xs) ≡ Some u → Contains (x ∷ xs) u × (p u ≡ true)) [
      | true ↦ λ is e. let here : x ≡ u = ap (λ o. unwrap_or o x) e in ((0, omega arith, here), sym (ap p here) ∙ is)
      | false ↦ λ is e. let rest = found p xs u e in ((suc rest.0.0, (let within = rest.0.1 in omega arith), rest.0.2), rest.1)
    ] refl h

some_found : {X : Type 0} (p : X → Bool) (xs : List X) (x : X) (k : ℕ) → k < length xs → get_or xs k x ≡ x → p x ≡ true → find p xs ≡ None → ⊥
some_found p [] x k within is passes h = omega arith
some_found p (y ∷ xs) x zero within is passes h =
    let here : p y ≡ true = ap p is ∙ passes in
    let e : Some y ≡ None = sym (ap (λ b. cond b (Some y) (find p xs)) here) ∙ h in
    cc e
some_found p (y ∷ xs) x (suc k) within is passes h =
    elim (p y) as (λ b. cond b (Some y) (find p xs) ≡ None → ⊥) [
      | true ↦ λ e. cc e
      | false ↦ λ e. some_found p xs x k (omega arith) is passes e
    ] h

-- ---- the laws

other_is : (b : Bool) (n first : ℕ) → cond b None (Some n) ≡ Some first → n ≡ first
other_is true n first h = cc h
other_is false n first h = ap (λ o. unwrap_or o n) h

pub told_right : (list : List ThreadSlots) (t : ThreadSlots) (first : ℕ) → IsToldRight list t first
told_right list t first h =
    elim (find (name_alike t) list) as (λ o. find (name_alike t) list ≡ o → other_than t.thread o ≡ Some first →
    (u : ThreadSlots) × (Contains list u × ((u.thread ≡ first) × NameTheSame t u))) [
      | None ↦ λ is e. absurd (cc e)
      | Some u ↦ λ is e. let at = found (name_alike t) list u is in
          (u, (at.0, (other_is (u.thread == t.thread) u.thread first e, same_names t u at.1)))
    ] refl h

none_is : (b : Bool) (n : ℕ) → cond b None (Some n) ≡ None → b ≡ true
none_is true n h = refl
none_is false n h = cc h

first_of : (t : ThreadSlots) (o : Option ThreadSlots) → (o ≡ None → ⊥) → other_than t.thread o ≡ None → (u : ThreadSlots) × ((o ≡ Some u) × (u.thread ≡ t.thread))
first_of t None some h = absurd (some refl)
first_of t (Some u) some h = (u, (refl, eqb-true u.thread t.thread (none_is (u.thread == t.thread) u.thread h)))

pub told_once : (list : List ThreadSlots) (t u : ThreadSlots) → IsToldOnce list t u
told_once list t u in_list t_first u_first same some =
    let finds : find (name_alike t) list ≡ find (name_alike u) list =
    λ i. find (λ (v : ThreadSlots). not (length (same.reached i) == 0) && (pointwise same_reached (same.reached i) v.reached.items && pointwise same_held (same.held i) v.held.items)) list in
    let is_some : find (name_alike t) list ≡ None → ⊥ = some_found (name_alike t) list t in_list.0 in_list.1 in_list.2 (like_itself t some) in
    let one = first_of t (find (name_alike t) list) is_some t_first in
    let other = first_of u (find (name_alike u) list) (λ e. is_some (finds ∙ e)) u_first in
    let both : Some one.0 ≡ Some other.0 = sym one.1.0 ∙ (finds ∙ other.1.0) in
    sym one.1.1 ∙ (ap (λ (o : Option ThreadSlots). (unwrap_or o one.0).thread) both ∙ other.1.1)
