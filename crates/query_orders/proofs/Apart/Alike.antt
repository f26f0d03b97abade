-- Worlds that agree on a group's clients are seen alike by them, with the others' calls and without.
use Rattle.std.proofs.Common.{◌≡◌, ◌-◌, ℕ, Bool, true, false, List, [], ◌∷◌, ◌++◌, map, filter, length, Option, None, Some, option_and_then, slice_get, unwrap_or, refl, ap, sym, subst, ◌∙◌}
use Rattle.std.specs.List.{flat_map, AllByRecursion as Each}
use Rattle.std.proofs.lemmas.List.Concat.{flat_map-cons}
use Rattle.std.proofs.lemmas.List.Elements.{filter-append}
use Rattle.cap_core.specs.declared.profile.ProfileName.{ProfileName}
use Rattle.kernel_forest.specs.Forest.{Forest}
use Rattle.kernel_forest.specs.Entries.{Entry}
use Rattle.kernel_abstract.specs.declared.call.Call.{Call}
use Rattle.kernel_abstract.specs.declared.call.ThreadState.{ThreadState}
use Rattle.kernel_abstract.specs.Shown.{Shown, state_at}
use Rattle.kernel_abstract.specs.Reached.{IsReached}
use Rattle.query_orders.specs.declared.answer.Answer.TheVariants.{Waits, NotMade}
use Rattle.query_orders.specs.declared.answer.WaitingCall.{WaitingCall}
use Rattle.query_orders.specs.declared.left.LeftCall.{LeftCall}
use Rattle.query_orders.specs.World.{World, call_of_client_at, next_client_call, next_place, can_be_made}
use Rattle.query_orders.specs.Orders.{clients, numbers_below}
use Rattle.query_orders.specs.Answers.{Answered, answered, numbers_from, places_left}
use Rattle.query_orders.specs.Ends.{left_call, left_calls}
use Rattle.query_orders.specs.Groups.{alone}
use Rattle.query_orders.specs.Apart.{IsSeenAlike}
use Rattle.query_orders.proofs.Apart.Lists.{filter_nothing, filter_of_map, each_of}
use Rattle.query_orders.proofs.Apart.Alone.{lone_long, calls_same, list_same}
use Rattle.query_orders.proofs.Apart.Sides.{same_state}
use Rattle.query_orders.proofs.Apart.Views.{View, view, view_with, view_after, views_after, view_may, view_answers, answers_seen}
use Rattle.query_orders.proofs.Apart.Agreement.{AreOnSides, next_on_side}
use Rattle.query_orders.proofs.Apart.Parts.{CanBeMade, Hold, Agrees, next_agrees, may_same, answers_same}

-- ---- a test of what a list gives in turn

filter-flat_map : {X Y : Type 0} (t : Y → Bool) (g : X → List Y) (xs : List X) → filter t (flat_map g xs) ≡ flat_map (λ x. filter t (g x)) xs
filter-flat_map t g [] = refl
filter-flat_map {X} {Y} t g (x ∷ xs) =
    ap (filter t) (flat_map-cons g x xs) ∙ filter-append t (g x) (flat_map g xs) ∙ ap (λ (l : List Y). filter t (g x) ++ l) (filter-flat_map t g xs)
    ∙ sym (flat_map-cons (λ x. filter t (g x)) x xs)

flat_map-same : {X Y : Type 0} (g h : X → List Y) → ((x : X) → g x ≡ h x) → (xs : List X) → flat_map g xs ≡ flat_map h xs
flat_map-same g h same [] = refl
flat_map-same {X} {Y} g h same (x ∷ xs) =
    flat_map-cons g x xs ∙ ap (λ (l : List Y). l ++ flat_map g xs) (same x) ∙ ap (λ (l : List Y). h x ++ l) (flat_map-same g h same xs) ∙ sym (flat_map-cons h x xs)

-- ---- what is told at an end, by a view

abbrev waits_at : List ℕ → WaitingCall → Answered
waits_at order call = answered order call.client call.place Waits

abbrev not_made : List ℕ → List (List Call) → List ℕ → ℕ → List Answered
not_made order own made client = map (λ place. answered order client place NotMade) (places_left own made client)

abbrev view_ends : List (List Call) → View → List ℕ → List Answered
view_ends own v order = map (waits_at order) v.waits ++ flat_map (not_made order own v.made) (clients own)

abbrev pub view_left : List (List Call) → View → List LeftCall
view_left own v = left_calls own v.made v.shows

pub record AreViewsAlike (p : ProfileName) (own lone : List (List Call)) (has : ℕ → Bool) (v u : View) : Type 0 where
  pub may : (client : ℕ) → has client ≡ true → view_may own v client ≡ view_may lone u client
  pub told : (order : List ℕ) (client : ℕ) → has client ≡ true → view_answers p v order client (next_client_call own v.made client) ≡ view_answers p u order client (next_client_call lone u.made client)
  pub ends : (order : List ℕ) → filter (λ (a : Answered). has a.client) (view_ends own v order) ≡ filter (λ (a : Answered). has a.client) (view_ends lone u order)
  pub left : filter (λ (c : LeftCall). has c.client) (view_left own v) ≡ filter (λ (c : LeftCall). has c.client) (view_left lone u)

-- worlds are seen alike where their views are
pub seen_alike : (p : ProfileName) (own lone : List (List Call)) (has : ℕ → Bool) (v u : World) → IsReached p v.kernel → IsReached p u.kernel → AreViewsAlike p own lone has (view v) (view u) → IsSeenAlike p own lone has v u
seen_alike p own lone has v u r s h = record {
  may = h.may;
  told = λ order client is.
      answers_seen p v order client (next_client_call own v.made client) r ∙ h.told order client is ∙ sym (answers_seen p u order client (next_client_call lone u.made client) s);
  ends = h.ends;
  left = h.left;
}

module _ (p : ProfileName) (own : List (List Call)) (f : Forest Entry) (before : List ℕ) (has on_thread on_endpoint : ℕ → Bool) (sides : AreOnSides p own f before has on_thread on_endpoint) where
  abbrev lone : List (List Call)
  lone = alone own before has

  pub next_alone : (made : List ℕ) (client : ℕ) → has client ≡ true → next_client_call lone made client ≡ next_client_call own made client
  next_alone made client is = by (slice_get made client)
    where
      by : (o : Option ℕ) → option_and_then (call_of_client_at lone client) o ≡ option_and_then (call_of_client_at own client) o
      by None = refl
      by (Some n) = calls_same own before has client n is

  clients_same : clients lone ≡ clients own
  clients_same = ap numbers_below (lone_long own before has)

  module _ (v u : View) (hv : Hold p own f before has on_thread on_endpoint sides v) (hu : Hold p own f before has on_thread on_endpoint sides u) (a : Agrees p own f before has on_thread on_endpoint sides v u) where
    places_same : (client : ℕ) → has client ≡ true → places_left own v.made client ≡ places_left lone u.made client
    places_same client is =
        ap (λ (o : Option ℕ). numbers_from (unwrap_or o 0) (length (unwrap_or (slice_get own client) []) - unwrap_or o 0)) (a.made client is)
        ∙ ap (λ (l : List Call). numbers_from (next_place u.made client) (length l - next_place u.made client)) (sym (list_same own before has client is))

    not_made_same : (order : List ℕ) (client : ℕ) → filter (λ (a : Answered). has a.client) (not_made order own v.made client) ≡ filter (λ (a : Answered). has a.client) (not_made order lone u.made client)
    not_made_same order client = by (has client) refl
      where
        none : has client ≡ false → (l : List ℕ) → filter (λ (a : Answered). has a.client) (map (λ place. answered order client place NotMade) l) ≡ []
        none is l =
            filter_of_map (λ place. answered order client place NotMade) (λ (a : Answered). has a.client) l
            ∙ ap (map (λ place. answered order client place NotMade)) (filter_nothing (λ place. has client) l (each_of (λ place. has client ≡ false) (λ place. is) l))

        by : (b : Bool) → has client ≡ b → filter (λ (a : Answered). has a.client) (not_made order own v.made client) ≡ filter (λ (a : Answered). has a.client) (not_made order lone u.made client)
        by true is = ap (λ (l : List ℕ). filter (λ (a : Answered). has a.client) (map (λ place. answered order client place NotMade) l)) (places_same client is)
        by false is = none is (places_left own v.made client) ∙ sym (none is (places_left lone u.made client))

    left_with : (client : ℕ) → has client ≡ true → (c : Option Call) → next_client_call own v.made client ≡ c → left_call v.shows v.made client c ≡ left_call u.shows u.made client c
    left_with client is None e = refl
    left_with client is (Some call) e =
        let on = next_on_side p own f before has on_thread on_endpoint sides v hv client call e in
        let at = λ (n : ℕ) (s : Option ThreadState). (let m : LeftCall = record { client = client; place = n; thread = call.thread; state = s } in m ∷ []) in
        ap (λ (o : Option ℕ). at (unwrap_or o 0) (state_at v.shows call.thread)) (a.made client is)
        ∙ ap (at (next_place u.made client)) (same_state on_thread on_endpoint true v.shows u.shows a.shows call.thread (on.thread ∙ is))

    left_same : (client : ℕ) → filter (λ (c : LeftCall). has c.client) (left_call v.shows v.made client (next_client_call own v.made client))
        ≡ filter (λ (c : LeftCall). has c.client) (left_call u.shows u.made client (next_client_call lone u.made client))
    left_same client = by (has client) refl
      where
        none : has client ≡ false → (x : Shown) (made : List ℕ) (c : Option Call) → filter (λ (c : LeftCall). has c.client) (left_call x made client c) ≡ []
        none is x made None = refl
        none is x made (Some call) = filter_nothing (λ (c : LeftCall). has c.client) (left_call x made client (Some call)) (is, tt)

        by : (b : Bool) → has client ≡ b → filter (λ (c : LeftCall). has c.client) (left_call v.shows v.made client (next_client_call own v.made client))
            ≡ filter (λ (c : LeftCall). has c.client) (left_call u.shows u.made client (next_client_call lone u.made client))
        by true is =
            ap (filter (λ (c : LeftCall). has c.client))
            (left_with client is (next_client_call own v.made client) refl
            ∙ ap (left_call u.shows u.made client) (next_agrees p own f before has on_thread on_endpoint sides v u a client is ∙ sym (next_alone u.made client is)))
        by false is = none is v.shows v.made (next_client_call own v.made client) ∙ sym (none is u.shows u.made (next_client_call lone u.made client))

    ends_same : (order : List ℕ) → filter (λ (a : Answered). has a.client) (view_ends own v order) ≡ filter (λ (a : Answered). has a.client) (view_ends lone u order)
    ends_same order =
        let ours = λ (a : Answered). has a.client in
        let part = λ (ws : List WaitingCall) (ns : List Answered). map (waits_at order) ws ++ ns in
        let split = λ (l : List (List Call)) (x : View). (
        filter-append ours (map (waits_at order) x.waits) (flat_map (not_made order l x.made) (clients l))
        ∙ ap (λ (ws : List Answered). ws ++ filter ours (flat_map (not_made order l x.made) (clients l))) (filter_of_map (waits_at order) ours x.waits)
        ∙ ap (part (filter (λ (call : WaitingCall). has call.client) x.waits)) (filter-flat_map ours (not_made order l x.made) (clients l))) in
        split own v
        ∙ ap (λ (ws : List WaitingCall). part ws (flat_map (λ client. filter ours (not_made order own v.made client)) (clients own))) a.waits
        ∙ ap (part (filter (λ (call : WaitingCall). has call.client) u.waits))
        (flat_map-same (λ client. filter ours (not_made order own v.made client)) (λ client. filter ours (not_made order lone u.made client)) (not_made_same order) (clients own)
        ∙ ap (flat_map (λ client. filter ours (not_made order lone u.made client))) (sym clients_same))
        ∙ sym (split lone u)

    lefts_same : filter (λ (c : LeftCall). has c.client) (view_left own v) ≡ filter (λ (c : LeftCall). has c.client) (view_left lone u)
    lefts_same =
        let ours = λ (c : LeftCall). has c.client in
        let of_v = λ (client : ℕ). left_call v.shows v.made client (next_client_call own v.made client) in
        let of_u = λ (client : ℕ). left_call u.shows u.made client (next_client_call lone u.made client) in
        filter-flat_map ours of_v (clients own)
        ∙ flat_map-same (λ client. filter ours (of_v client)) (λ client. filter ours (of_u client)) left_same (clients own)
        ∙ ap (flat_map (λ client. filter ours (of_u client))) (sym clients_same)
        ∙ sym (filter-flat_map ours of_u (clients lone))

    -- the worlds are seen alike
    pub views_alike : AreViewsAlike p own lone has v u
    views_alike = record {
      may = λ client is. may_same p own f before has on_thread on_endpoint sides v u hv hu a client is ∙ ap (can_be_made u.shows) (sym (next_alone u.made client is));
      told = λ order client is. answers_same p own f before has on_thread on_endpoint sides v u hv hu a client is order ∙ ap (view_answers p u order client) (sym (next_alone u.made client is));
      ends = ends_same;
      left = lefts_same;
    }

  -- ---- an order of the group's clients comes to the same among all calls and among theirs

  pub part_alone : (u : View) (part : List ℕ) → Each (λ client. has client ≡ true) part → views_after p lone u part ≡ views_after p own u part
  part_alone u [] ours = refl
  part_alone u (client ∷ part) ours =
      ap (λ (c : Option Call). views_after p lone (view_with p u client c) part) (next_alone u.made client ours.0) ∙ part_alone (view_after p own u client) part ours.1

  pub made_alone : (u : View) (part : List ℕ) → Each (λ client. has client ≡ true) part → (CanBeMade p own u part → CanBeMade p lone u part) × (CanBeMade p lone u part → CanBeMade p own u part)
  made_alone u [] ours = (λ h. h, λ h. h)
  made_alone u (client ∷ part) ours =
      let same = next_alone u.made client ours.0 in
      let may = ap (can_be_made u.shows) same in
      let step = ap (view_with p u client) same in
      let rest = made_alone (view_after p own u client) part ours.1 in (
        λ h. (may ∙ h.0, subst (λ (x : View). CanBeMade p lone x part) (sym step) (rest.0 h.1)),
        λ h. (sym may ∙ h.0, rest.1 (subst (λ (x : View). CanBeMade p lone x part) step h.1)),
      )
