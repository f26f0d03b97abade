-- The orders that begin in one way.
use Rattle.std.proofs.Common.{◌≡◌, ℕ, zero, suc, List, [], ◌∷◌, ◌++◌, map, filter, refl, ap, sym, subst, ◌∙◌, append_assoc, inl, inr}
use Rattle.std.specs.List.{Contains, flat_map}
use Rattle.std.proofs.lemmas.List.{append-nil, map-append}
use Rattle.std.proofs.lemmas.List.Concat.{flat_map-cons}
use Rattle.cap_core.specs.declared.profile.ProfileName.{ProfileName}
use Rattle.kernel_abstract.specs.declared.call.Call.{Call}
use Rattle.query_orders.specs.World.{World, may_call, after_call, world_after}
use Rattle.query_orders.specs.Orders.{clients, longer, orders}
use Rattle.query_orders.specs.Laws.{IsBehind}
use Rattle.query_orders.proofs.Possible.{orders_are_possible}
use Rattle.query_orders.proofs.Contained.{contains-cases, contains-map, contains-nil, contains-head, contains-tail}

pub contains-mapped : {X Y : Type 0} (f : X → Y) (xs : List X) (y : Y) → Contains (map f xs) y → (x : X) × Contains xs x × (f x ≡ y)
contains-mapped f [] y h = absurd (contains-nil y h)
contains-mapped {X} {Y} f (x ∷ xs) y h = elim (contains-cases (f x) (map f xs) y h) as (λ _. (z : X) × Contains (x ∷ xs) z × (f z ≡ y)) [
  | inl e ↦ (x, contains-head x xs x refl, e)
  | inr more ↦ (let r = contains-mapped f xs y more in (r.0, contains-tail x xs r.0 r.1, r.2))
]

module _ (p : ProfileName) (own : List (List Call)) (w : World) (first : List ℕ) where
  behind-append : (w : World) (order more : List ℕ) → world_after p own w (order ++ more) ≡ world_after p own (world_after p own w order) more
  behind-append w [] more = refl
  behind-append w (client ∷ order) more = behind-append (after_call p own w client) order more

  abbrev put : List ℕ → List ℕ
  put rest = first ++ rest

  put-each : (ns : List ℕ) (rest : List ℕ) → map (λ client. (first ++ rest) ++ client ∷ []) ns ≡ map put (map (λ client. rest ++ client ∷ []) ns)
  put-each [] rest = refl
  put-each (n ∷ ns) rest = ap (λ (l : List ℕ). l ∷ map (λ client. (first ++ rest) ++ client ∷ []) ns) (append_assoc first rest (n ∷ [])) ∙ ap (λ (l : List (List ℕ)). (first ++ (rest ++ n ∷ [])) ∷ l) (put-each ns rest)

  put-longer : (rest : List ℕ) → longer p own w (first ++ rest) ≡ map put (longer p own (world_after p own w first) rest)
  put-longer rest =
      ap (λ (v : World). map (λ client. (first ++ rest) ++ client ∷ []) (filter (may_call own v) (clients own))) (behind-append w first rest)
      ∙ put-each (filter (may_call own (world_after p own (world_after p own w first) rest)) (clients own)) rest

  put-all : (l : List (List ℕ)) → flat_map (longer p own w) (map put l) ≡ map put (flat_map (longer p own (world_after p own w first)) l)
  put-all [] = refl
  put-all (rest ∷ l) =
      let v = world_after p own w first in
      flat_map-cons (longer p own w) (put rest) (map put l)
      ∙ ap (λ (x : List (List ℕ)). x ++ flat_map (longer p own w) (map put l)) (put-longer rest)
      ∙ ap (λ (x : List (List ℕ)). map put (longer p own v rest) ++ x) (put-all l)
      ∙ sym (map-append put (longer p own v rest) (flat_map (longer p own v) l))
      ∙ ap (map put) (sym (flat_map-cons (longer p own v) rest l))

  pub orders_behind : (n : ℕ) → orders p own w first n ≡ map put (orders p own (world_after p own w first) [] n)
  orders_behind zero = ap (λ (l : List ℕ). l ∷ []) (sym (append-nil first))
  orders_behind (suc n) = ap (flat_map (longer p own w)) (orders_behind n) ∙ put-all (orders p own (world_after p own w first) [] n)

pub orders_go_on : (p : ProfileName) (own : List (List Call)) (w : World) (first : List ℕ) (count : ℕ) (order : List ℕ) →
    (Contains (orders p own w first count) order → IsBehind p own w first count order) × (IsBehind p own w first count order → Contains (orders p own w first count) order)
orders_go_on p own w first count order = (to, from)
  where
    to : Contains (orders p own w first count) order → IsBehind p own w first count order
    to h =
        let r = contains-mapped (put p own w first) (orders p own (world_after p own w first) [] count) order (subst (λ (l : List (List ℕ)). Contains l order) (orders_behind p own w first count) h) in
        let s = (orders_are_possible p own (world_after p own w first) count r.0).0 r.1 in
        (r.0, sym r.2, s.0, s.1)

    from : IsBehind p own w first count order → Contains (orders p own w first count) order
    from h =
        let m = (orders_are_possible p own (world_after p own w first) count h.0).1 (h.2, h.3) in
        subst (λ (l : List (List ℕ)). Contains l order) (sym (orders_behind p own w first count))
        (subst (λ (o : List ℕ). Contains (map (put p own w first) (orders p own (world_after p own w first) [] count)) o) (sym h.1)
        (contains-map (put p own w first) (orders p own (world_after p own w first) [] count) h.0 m))
