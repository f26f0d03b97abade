-- Of each order the part that the clients of one side make can be made by these clients alone, and leads to a world that agrees.
use Rattle.std.proofs.Common.{◌≡◌, ℕ, Bool, true, false, List, [], ◌∷◌, ◌++◌, filter, Option, None, Some, option_and_then, refl, ap, sym, subst, ◌∙◌}
use Rattle.std.specs.List.{AllByRecursion as Each}
use Rattle.cap_core.specs.declared.profile.ProfileName.{ProfileName}
use Rattle.kernel_forest.specs.Forest.{Forest}
use Rattle.kernel_forest.specs.Entries.{Entry}
use Rattle.kernel_abstract.specs.declared.call.Call.{Call}
use Rattle.kernel_abstract.specs.Reached.{IsReached}
use Rattle.query_orders.specs.World.{World, call_of_client_at, next_client_call, can_be_made, may_call, after_call, world_after}
use Rattle.query_orders.specs.Laws.{EachCanBeMade}
use Rattle.query_orders.proofs.Exploration.Steps.{world_reached}
use Rattle.query_orders.proofs.Apart.Lists.{taken, skipped}
use Rattle.query_orders.proofs.Apart.Views.{View, view, view_with, view_after, views_after, view_may, view_answers, after_seen}
use Rattle.query_orders.proofs.Apart.Agreement.{AreOnSides, Holds, Agree, next_on_side, holds_with, agree_both}
use Rattle.query_orders.proofs.Apart.Unseen.{agree_apart, told_same, ready_same}

-- ---- orders whose calls can be made, by recursion

abbrev pub CanBeMade : ProfileName → List (List Call) → View → List ℕ → Type 0
CanBeMade p own v [] = Unit {0}
CanBeMade p own v (client ∷ order) = (view_may own v client ≡ true) × CanBeMade p own (view_after p own v client) order

module _ (p : ProfileName) (own : List (List Call)) where
  pub made_from : (w : World) (order : List ℕ) → IsReached p w.kernel → EachCanBeMade p own w order → CanBeMade p own (view w) order
  made_from w [] r h = tt
  made_from w (client ∷ order) r h = (
    h [] client order refl,
    subst (λ (v : View). CanBeMade p own v order) (after_seen p own w client r)
        (made_from (after_call p own w client) order (world_reached p own w (client ∷ []) r) (λ front c rest is. h (client ∷ front) c rest (ap (λ (l : List ℕ). client ∷ l) is))),
  )

  front_made : (front : List ℕ) (client : ℕ) (rest : List ℕ) (w : World) → IsReached p w.kernel → CanBeMade p own (view w) (front ++ client ∷ rest) → may_call own (world_after p own w front) client ≡ true
  front_made [] client rest w r h = h.0
  front_made (c ∷ front) client rest w r h =
      front_made front client rest (after_call p own w c) (world_reached p own w (c ∷ []) r) (subst (λ (v : View). CanBeMade p own v (front ++ client ∷ rest)) (sym (after_seen p own w c r)) h.1)

  pub made_to : (w : World) (order : List ℕ) → IsReached p w.kernel → CanBeMade p own (view w) order → EachCanBeMade p own w order
  made_to w order r h front client rest is = front_made front client rest w r (subst (CanBeMade p own (view w)) is h)

  pub made_append : (v : View) (order more : List ℕ) → CanBeMade p own v order → CanBeMade p own (views_after p own v order) more → CanBeMade p own v (order ++ more)
  made_append v [] more h k = k
  made_append v (client ∷ order) more h k = (h.0, made_append (view_after p own v client) order more h.1 k)

-- ---- through an order

module _ (p : ProfileName) (own : List (List Call)) (f : Forest Entry) (before : List ℕ) (has on_thread on_endpoint : ℕ → Bool) (sides : AreOnSides p own f before has on_thread on_endpoint) where
  abbrev pub Hold : View → Type 0
  Hold v = Holds p own f before has on_thread on_endpoint v

  abbrev pub Agrees : View → View → Type 0
  Agrees v u = Agree p own f before has on_thread on_endpoint v u

  pub hold_after : (v : View) (client : ℕ) → Hold v → Hold (view_after p own v client)
  hold_after v client h = holds_with p own f before has on_thread on_endpoint sides v h client (next_client_call own v.made client) refl

  pub holds_through : (v : View) (order : List ℕ) → Hold v → Hold (views_after p own v order)
  holds_through v [] h = h
  holds_through v (client ∷ order) h = holds_through (view_after p own v client) order (hold_after v client h)

  pub next_agrees : (v u : View) → Agrees v u → (client : ℕ) → has client ≡ true → next_client_call own v.made client ≡ next_client_call own u.made client
  next_agrees v u a client is = ap (λ (o : Option ℕ). option_and_then (call_of_client_at own client) o) (a.made client is)

  module _ (v u : View) (hv : Hold v) (hu : Hold u) (a : Agrees v u) (client : ℕ) where
    both_with : has client ≡ true → (c : Option Call) → next_client_call own v.made client ≡ c → Agrees (view_with p v client c) (view_with p u client c)
    both_with is None e = a
    both_with is (Some call) e =
        agree_both p own f before has on_thread on_endpoint v u hv hu a client is call (next_on_side p own f before has on_thread on_endpoint sides v hv client call e)

    pub both_after : has client ≡ true → Agrees (view_after p own v client) (view_after p own u client)
    both_after is = subst (λ (c : Option Call). Agrees (view_after p own v client) (view_with p u client c)) (next_agrees v u a client is) (both_with is (next_client_call own v.made client) refl)

    apart_with : has client ≡ false → (c : Option Call) → next_client_call own v.made client ≡ c → Agrees (view_with p v client c) u
    apart_with is None e = a
    apart_with is (Some call) e =
        agree_apart p own f before has on_thread on_endpoint v hv client call (next_on_side p own f before has on_thread on_endpoint sides v hv client call e) is u a

    pub apart_after : has client ≡ false → Agrees (view_after p own v client) u
    apart_after is = apart_with is (next_client_call own v.made client) refl

    may_with : has client ≡ true → (c : Option Call) → next_client_call own v.made client ≡ c → can_be_made v.shows c ≡ can_be_made u.shows c
    may_with is None e = refl
    may_with is (Some call) e =
        ready_same p own f before has on_thread on_endpoint v u hv hu a client is call (next_on_side p own f before has on_thread on_endpoint sides v hv client call e)

    -- a client of the side can go on alike, and is told the same
    pub may_same : has client ≡ true → view_may own v client ≡ view_may own u client
    may_same is = may_with is (next_client_call own v.made client) refl ∙ ap (can_be_made u.shows) (next_agrees v u a client is)

    told_with : has client ≡ true → (order : List ℕ) (c : Option Call) → next_client_call own v.made client ≡ c → view_answers p v order client c ≡ view_answers p u order client c
    told_with is order None e = refl
    told_with is order (Some call) e =
        told_same p own f before has on_thread on_endpoint v u hv hu a client is call (next_on_side p own f before has on_thread on_endpoint sides v hv client call e) order

    pub answers_same : has client ≡ true → (order : List ℕ) → view_answers p v order client (next_client_call own v.made client) ≡ view_answers p u order client (next_client_call own u.made client)
    answers_same is order = told_with is order (next_client_call own v.made client) refl ∙ ap (view_answers p u order client) (next_agrees v u a client is)

  -- the part of an order that the side's clients make
  abbrev pub HasPartOf : View → View → List ℕ → List ℕ → Type 0
  HasPartOf v u order part = CanBeMade p own u part × Agrees (views_after p own v order) (views_after p own u part)

  pub part_of : (order : List ℕ) (v u : View) → Hold v → Hold u → Agrees v u → CanBeMade p own v order → HasPartOf v u order (filter has order)
  part_of [] v u hv hu a made = (tt, a)
  part_of (client ∷ order) v u hv hu a made =
      by (has client) refl (part_of order (view_after p own v client))
    where
      by : (b : Bool) → has client ≡ b →
          ((u : View) → Hold (view_after p own v client) → Hold u → Agrees (view_after p own v client) u → CanBeMade p own (view_after p own v client) order → HasPartOf (view_after p own v client) u order (filter has order)) →
          HasPartOf v u (client ∷ order) (filter has (client ∷ order))
      by true is rest =
          let later = rest (view_after p own u client) (hold_after v client hv) (hold_after u client hu) (both_after v u hv hu a client is) made.1 in
          subst (HasPartOf v u (client ∷ order)) (sym (taken has client order is)) ((sym (may_same v u hv hu a client is) ∙ made.0, later.0), later.1)
      by false is rest =
          subst (HasPartOf v u (client ∷ order)) (sym (skipped has client order is)) (rest u (hold_after v client hv) hu (apart_after v u hv hu a client is) made.1)

  -- and what the side's clients can make alone, they can make among the others
  pub goes_on : (more : List ℕ) (v u : View) → Hold v → Hold u → Agrees v u → Each (λ client. has client ≡ true) more → CanBeMade p own u more → CanBeMade p own v more
  goes_on [] v u hv hu a ours made = tt
  goes_on (client ∷ more) v u hv hu a ours made = (
    may_same v u hv hu a client ours.0 ∙ made.0,
    goes_on more (view_after p own v client) (view_after p own u client) (hold_after v client hv) (hold_after u client hu) (both_after v u hv hu a client ours.0) ours.1 made.1,
  )
