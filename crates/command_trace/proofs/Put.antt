-- A forest with one entry more, below another one or after it: its rows, and the order of siblings.
use Rattle.std.proofs.Common.{◌≡◌, ℕ, Bool, true, false, cond, ◌==◌, ◌||◌, List, [], ◌∷◌, ◌++◌, map, Option, None, Some, option_map, refl, sym, ap, subst, ◌∙◌, append_assoc, arith}
use Rattle.std.specs.List.{list_any}
use Rattle.std.proofs.lemmas.Bool.Decides.{nat_tests}
use Rattle.std.proofs.lemmas.List.{map-append}
use Rattle.std.proofs.lemmas.List.Folds.{list_any-append}
use Rattle.kernel_forest.specs.Forest.{Forest, none, tree, preorder, parented, below, after, below_those, join, tops}
use Rattle.kernel_forest.specs.Entries.{Entry, is_at, slot_of as entry_slot, first_slot, first_child, derivations_of}
use Rattle.kernel_forest.proofs.Trees.Built.{Absent, Once, once-right_part, fixed-below, fixed-after, below_those_none}
use Rattle.kernel_forest.proofs.Trees.Lines.{any_none, once-left_part, one_of}
use Rattle.kernel_forest.proofs.Slots.Distinct.{IsInserted}
use Rattle.setup_report.specs.State.{Derived}
use Rattle.command_trace.specs.Siblings.{Sibling, siblings}

-- ---- where an entry stands once, it stands on one side

none_later : {A : Type 0} (is : A → Bool) (xs ys : List A) → Once is (xs ++ ys) → list_any is xs ≡ true → Absent is ys
none_later is [] ys o h = cc
none_later {A} is (x ∷ xs) ys o h =
    (elim (is x) as (λ c. is x ≡ c → (c || list_any is xs) ≡ true → Absent is ys) [
      | true ↦ λ e g. right xs (o.0 e)
      | false ↦ λ e g. none_later is xs ys o.1 g
    ]) refl h
  where
    right : (zs : List A) → Absent is (zs ++ ys) → Absent is ys
    right [] k = k
    right (z ∷ zs) k = right zs k.1

other_side : {A : Type 0} (is : A → Bool) (xs ys : List A) → list_any is (xs ++ ys) ≡ true → list_any is xs ≡ false → list_any is ys ≡ true
other_side is xs ys g e = one_of (list_any is xs) (list_any is ys) (sym (list_any-append is xs ys) ∙ g) e

-- ---- one row more

inserted_under : {X : Type 0} (x a : X) (k r m : List X) → IsInserted x k m → IsInserted x (a ∷ (k ++ r)) (a ∷ (m ++ r))
inserted_under x a k r m i = record {
  front = a ∷ i.front;
  rest = i.rest ++ r;
  old = ap (λ l. a ∷ l) (ap (λ l. l ++ r) i.old ∙ append_assoc i.front i.rest r);
  new = ap (λ l. a ∷ l) (ap (λ l. l ++ r) i.new ∙ append_assoc i.front (x ∷ i.rest) r);
}

inserted_beside : {X : Type 0} (x a : X) (k r m : List X) → IsInserted x r m → IsInserted x (a ∷ (k ++ r)) (a ∷ (k ++ m))
inserted_beside x a k r m i = record {
  front = a ∷ (k ++ i.front);
  rest = i.rest;
  old = ap (λ l. a ∷ l) (ap (λ l. k ++ l) i.old ∙ sym (append_assoc k i.front i.rest));
  new = ap (λ l. a ∷ l) (ap (λ l. k ++ l) i.new ∙ sym (append_assoc k i.front (x ∷ i.rest)));
}

-- a list of entries with what they stand right below has x at one more place, right below something of which `P` holds
record IsPut {A : Type 0} (P : Option A → Type 0) (x : A) (l m : List (A × Option A)) : Type 0 where
  above : Option A
  holds : P above
  inserted : IsInserted (x, above) l m

put_under : {A : Type 0} (P : Option A → Type 0) (x : A) (a : A × Option A) (k r m : List (A × Option A)) → IsPut P x k m → IsPut P x (a ∷ (k ++ r)) (a ∷ (m ++ r))
put_under P x a k r m i = record { above = i.above; holds = i.holds; inserted = inserted_under (x, i.above) a k r m i.inserted }

put_beside : {A : Type 0} (P : Option A → Type 0) (x : A) (a : A × Option A) (k r m : List (A × Option A)) → IsPut P x r m → IsPut P x (a ∷ (k ++ r)) (a ∷ (k ++ m))
put_beside P x a k r m i = record { above = i.above; holds = i.holds; inserted = inserted_beside (x, i.above) a k r m i.inserted }

-- below the one that passes
abbrev IsOf : {A : Type 0} → (A → Bool) → Option A → Type 0
IsOf {A} is above = (a : A) × (is a ≡ true) × (above ≡ Some a)

put_below : {A : Type 0} (is : A → Bool) (x : A) (above : Option A) (f : Forest A) → Once is (preorder f) → list_any is (preorder f) ≡ true → IsPut (IsOf is) x (parented above f) (parented above (below is x f))
put_below is x above none o h = absurd (let n : false ≡ true = h in cc)
put_below {A} is x above (tree a k r) o h =
    (elim (is a) as (λ c. is a ≡ c → (c || list_any is (preorder k ++ preorder r)) ≡ true → IsPut (IsOf is) x ((a, above) ∷ (parented (Some a) k ++ parented above r)) (parented above (cond c (tree a (tree x none k) r) (tree a (below is x k) (below is x r))))) [
      | true ↦ λ t g. record { above = Some a; holds = (a, t, refl); inserted = record { front = (a, above) ∷ []; rest = parented (Some a) k ++ parented above r; old = refl; new = refl } }
      | false ↦ λ t g. (elim (list_any is (preorder k)) as (λ d. list_any is (preorder k) ≡ d → IsPut (IsOf is) x ((a, above) ∷ (parented (Some a) k ++ parented above r)) ((a, above) ∷ (parented (Some a) (below is x k) ++ parented above (below is x r)))) [
        | true ↦ λ e. rw (fixed-below is x r (none_later is (preorder k) (preorder r) o.1 e))
            (put_under (IsOf is) x (a, above) (parented (Some a) k) (parented above r) (parented (Some a) (below is x k)) (put_below is x (Some a) k (once-left_part is (preorder k) (preorder r) o.1) e))
        | false ↦ λ e. rw (fixed-below is x k (any_none is (preorder k) e))
            (put_beside (IsOf is) x (a, above) (parented (Some a) k) (parented above r) (parented above (below is x r)) (put_below is x above r (once-right_part is (preorder k) (preorder r) o.1) (other_side is (preorder k) (preorder r) g e)))
      ]) refl
    ]) refl h

-- below the one that the one that passes is right below
put_after : {A : Type 0} (is : A → Bool) (x : A) (above : Option A) (f : Forest A) → Once is (preorder f) → list_any is (preorder f) ≡ true → IsPut (λ o. Unit {0}) x (parented above f) (parented above (after is x f))
put_after is x above none o h = absurd (let n : false ≡ true = h in cc)
put_after {A} is x above (tree a k r) o h =
    (elim (is a) as (λ c. (c || list_any is (preorder k ++ preorder r)) ≡ true → IsPut (λ o. Unit {0}) x ((a, above) ∷ (parented (Some a) k ++ parented above r)) (parented above (cond c (tree a k (tree x none r)) (tree a (after is x k) (after is x r))))) [
      | true ↦ λ g. record { above = above; holds = tt; inserted = record { front = (a, above) ∷ parented (Some a) k; rest = parented above r; old = refl; new = refl } }
      | false ↦ λ g. (elim (list_any is (preorder k)) as (λ d. list_any is (preorder k) ≡ d → IsPut (λ o. Unit {0}) x ((a, above) ∷ (parented (Some a) k ++ parented above r)) ((a, above) ∷ (parented (Some a) (after is x k) ++ parented above (after is x r)))) [
        | true ↦ λ e. rw (fixed-after is x r (none_later is (preorder k) (preorder r) o.1 e))
            (put_under (λ o. Unit {0}) x (a, above) (parented (Some a) k) (parented above r) (parented (Some a) (after is x k)) (put_after is x (Some a) k (once-left_part is (preorder k) (preorder r) o.1) e))
        | false ↦ λ e. rw (fixed-after is x k (any_none is (preorder k) e))
            (put_beside (λ o. Unit {0}) x (a, above) (parented (Some a) k) (parented above r) (parented above (after is x r)) (put_after is x above r (once-right_part is (preorder k) (preorder r) o.1) (other_side is (preorder k) (preorder r) g e)))
      ]) refl
    ]) h

abbrev viewed : Entry × Option Entry → Derived
viewed x = (x.0, option_map entry_slot x.1)

mapped : {X Y : Type 0} (f : X → Y) (x : X) (l m : List X) → IsInserted x l m → IsInserted (f x) (map f l) (map f m)
mapped f x l m i = record {
  front = map f i.front;
  rest = map f i.rest;
  old = ap (map f) i.old ∙ map-append f i.front i.rest;
  new = ap (map f) i.new ∙ map-append f i.front (x ∷ i.rest);
}

at_slot : (a b : ℕ) → (a == b) ≡ true → a ≡ b
at_slot a b h = grind (arith, nat_tests)

-- the rows of a forest have one more, right below the slot
pub rows_below : (slot : ℕ) (x : Entry) (f : Forest Entry) → Once (is_at slot) (preorder f) → list_any (is_at slot) (preorder f) ≡ true →
    IsInserted (x, Some slot) (derivations_of f) (derivations_of (below (is_at slot) x f))
rows_below slot x f o h =
    let i = put_below (is_at slot) x None f o h in
    let there : option_map entry_slot i.above ≡ Some slot = ap (option_map entry_slot) i.holds.2 ∙ ap Some (at_slot i.holds.0.slot slot i.holds.1) in
    subst (λ above. IsInserted (x, above) (derivations_of f) (derivations_of (below (is_at slot) x f))) there
    (mapped viewed (x, i.above) (parented None f) (parented None (below (is_at slot) x f)) i.inserted)

-- or right below what the slot itself is right below
pub rows_after : (slot : ℕ) (x : Entry) (f : Forest Entry) → Once (is_at slot) (preorder f) → list_any (is_at slot) (preorder f) ≡ true →
    (above : Option ℕ) × IsInserted (x, above) (derivations_of f) (derivations_of (after (is_at slot) x f))
rows_after slot x f o h =
    let i = put_after (is_at slot) x None f o h in
    (option_map entry_slot i.above, mapped viewed (x, i.above) (parented None f) (parented None (after (is_at slot) x f)) i.inserted)

-- ---- the first child gets a sibling in front of it

-- a first sibling, and the same behind another one
abbrev pub alone : Option ℕ → List Sibling
alone None = []
alone (Some next) = (next, None) ∷ []

abbrev pub behind : ℕ → Option ℕ → List Sibling
behind slot None = []
behind slot (Some next) = (next, Some slot) ∷ []

pub record IsBorn (slot : ℕ) (next : Option ℕ) (l m : List Sibling) : Type 0 where
  pub front : List Sibling
  pub rest : List Sibling
  pub old : l ≡ front ++ (alone next ++ rest)
  pub new : m ≡ front ++ ((slot, None) ∷ (behind slot next ++ rest))

born_under : (slot : ℕ) (next : Option ℕ) (a : Sibling) (k r m : List Sibling) → IsBorn slot next k m → IsBorn slot next (a ∷ (k ++ r)) (a ∷ (m ++ r))
born_under slot next a k r m i = record {
  front = a ∷ i.front;
  rest = i.rest ++ r;
  old = ap (λ l. a ∷ l) (ap (λ l. l ++ r) i.old ∙ append_assoc i.front (alone next ++ i.rest) r ∙ ap (λ l. i.front ++ l) (append_assoc (alone next) i.rest r));
  new = ap (λ l. a ∷ l) (ap (λ l. l ++ r) i.new ∙ append_assoc i.front ((slot, None) ∷ (behind slot next ++ i.rest)) r
      ∙ ap (λ l. i.front ++ ((slot, None) ∷ l)) (append_assoc (behind slot next) i.rest r));
}

born_beside : (slot : ℕ) (next : Option ℕ) (a : Sibling) (k r m : List Sibling) → IsBorn slot next r m → IsBorn slot next (a ∷ (k ++ r)) (a ∷ (k ++ m))
born_beside slot next a k r m i = record {
  front = a ∷ (k ++ i.front);
  rest = i.rest;
  old = ap (λ l. a ∷ l) (ap (λ l. k ++ l) i.old ∙ sym (append_assoc k i.front (alone next ++ i.rest)));
  new = ap (λ l. a ∷ l) (ap (λ l. k ++ l) i.new ∙ sym (append_assoc k i.front ((slot, None) ∷ (behind slot next ++ i.rest))));
}

join_none : {A : Type 0} (f : Forest A) → join f none ≡ f
join_none none = refl
join_none (tree a k r) = ap (tree a k) (join_none r)

abbrev first_of : (Entry → Bool) → Forest Entry → Option ℕ
first_of is f = first_slot (tops (below_those is f))

born_first : (x a : Entry) (before : Option ℕ) (k r : Forest Entry) → IsBorn x.slot (first_slot (tops k)) (siblings before (tree a k r)) (siblings before (tree a (tree x none k) r))
born_first x a before none r = record { front = (a.slot, before) ∷ []; rest = siblings (Some a.slot) r; old = refl; new = refl }
born_first x a before (tree c k m) r =
    record { front = (a.slot, before) ∷ []; rest = (siblings None k ++ siblings (Some c.slot) m) ++ siblings (Some a.slot) r; old = refl; new = refl }

born : (is : Entry → Bool) (x : Entry) (before : Option ℕ) (f : Forest Entry) → Once is (preorder f) → list_any is (preorder f) ≡ true →
    IsBorn x.slot (first_of is f) (siblings before f) (siblings before (below is x f))
born is x before none o h = absurd (let n : false ≡ true = h in cc)
born is x before (tree a k r) o h =
    (elim (is a) as (λ c. (c || list_any is (preorder k ++ preorder r)) ≡ true →
    IsBorn x.slot (first_slot (tops (cond c k (join (below_those is k) (below_those is r))))) (siblings before (tree a k r)) (siblings before (cond c (tree a (tree x none k) r) (tree a (below is x k) (below is x r))))) [
      | true ↦ λ g. born_first x a before k r
      | false ↦ λ g. (elim (list_any is (preorder k)) as (λ d. list_any is (preorder k) ≡ d →
          IsBorn x.slot (first_slot (tops (join (below_those is k) (below_those is r)))) (siblings before (tree a k r)) (siblings before (tree a (below is x k) (below is x r)))) [
            | true ↦ λ e.
                let absent = none_later is (preorder k) (preorder r) o.1 e in
                let first : first_slot (tops (join (below_those is k) (below_those is r))) ≡ first_of is k =
                ap (λ g. first_slot (tops (join (below_those is k) g))) (below_those_none is r absent) ∙ ap (λ g. first_slot (tops g)) (join_none (below_those is k)) in
                rw first (rw (fixed-below is x r absent)
                (born_under x.slot (first_of is k) (a.slot, before) (siblings None k) (siblings (Some a.slot) r) (siblings None (below is x k)) (born is x None k (once-left_part is (preorder k) (preorder r) o.1) e)))
            | false ↦ λ e.
                let absent = any_none is (preorder k) e in
                rw (below_those_none is k absent) (rw (fixed-below is x k absent)
                (born_beside x.slot (first_of is r) (a.slot, before) (siblings None k) (siblings (Some a.slot) r) (siblings (Some a.slot) (below is x r))
                (born is x (Some a.slot) r (once-right_part is (preorder k) (preorder r) o.1) (other_side is (preorder k) (preorder r) g e))))
          ]) refl
    ]) h

pub born_below : (slot : ℕ) (x : Entry) (f : Forest Entry) → Once (is_at slot) (preorder f) → list_any (is_at slot) (preorder f) ≡ true →
    IsBorn x.slot (first_child slot f) (siblings None f) (siblings None (below (is_at slot) x f))
born_below slot x f o h = born (is_at slot) x None f o h
