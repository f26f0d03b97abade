-- What the clients of a group touch, no other client touches: it is the group's side.
use Rattle.std.proofs.Common.{◌≡◌, ◌==◌, ◌&&◌, ℕ, ◌<◌, Bool, true, false, not, List, [], ◌∷◌, ◌++◌, map, filter, length, drop, Option, None, Some, option_and_then, slice_get, unwrap_or, refl, ap, sym, subst, ◌∙◌, arith, eq-eqb}
use Rattle.std.specs.List.{Contains, flat_map, list_any, AllByRecursion as Each}
use Rattle.std.proofs.lemmas.Bool.{false≢true}
use Rattle.std.proofs.lemmas.Bool.Decides.{nat_tests}
use Rattle.std.proofs.lemmas.List.Elements.{Contains-append_left, Contains-append_right}
use Rattle.std.proofs.lemmas.Option.{slice_get_within}
use Rattle.cap_core.specs.declared.profile.ProfileName.{ProfileName}
use Rattle.ipc_core.specs.declared.waiter.Waiter.{Waiter}
use Rattle.ipc_core.specs.declared.waiter.Waiter.TheVariants.{Sender, Receiver}
use Rattle.ipc_core.specs.Waits.{thread_of}
use Rattle.kernel_abstract.specs.declared.call.Call.{Call}
use Rattle.kernel_abstract.specs.declared.call.ThreadState.{ThreadState}
use Rattle.kernel_abstract.specs.Shown.{state_at, waiting_at}
use Rattle.kernel_abstract.specs.State.{shown}
use Rattle.kernel_abstract.specs.Waiting.{state_in}
use Rattle.kernel_abstract.specs.Reached.{IsReached}
use Rattle.query_orders.specs.declared.answer.WaitingCall.{WaitingCall}
use Rattle.query_orders.specs.declared.groups.objects.CallObject.{CallObject}
use Rattle.query_orders.specs.declared.groups.objects.CallObject.TheVariants.{Thread, Endpoint}
use Rattle.query_orders.specs.World.{World, next_place}
use Rattle.query_orders.specs.Orders.{clients}
use Rattle.query_orders.specs.Groups.{keeps_capabilities, endpoint_invoked, endpoint_cancelled, thread_invoked, object_in, object_of, as_endpoint, as_thread, objects_of_call, calls_left, objects_of_client, is_same_object, share, capabilities_may_change, is_together, AreGroups, is_client_in}
use Rattle.query_orders.proofs.Contained.{contains-below, contains-map, contains-filter, contains-flat_map, contains-head, contains-tail}
use Rattle.query_orders.proofs.Apart.Lists.{each_weaker}
use Rattle.query_orders.proofs.Apart.Contents.{both_true, true_parts, or_right, any_of, some_of, none_of, each_contained, contains_dropped, below_contained}
use Rattle.query_orders.proofs.Apart.Sides.{Stands, StandsAt}
use Rattle.query_orders.proofs.Apart.Agreement.{IsOnSide, AreOnSides}
use Rattle.query_orders.proofs.Apart.Shown.{shown_to_wait}

number_is : (a b : ℕ) → (a == b) ≡ true → a ≡ b
number_is a b h = grind (arith, nat_tests)

object_is : (x y : CallObject) → is_same_object x y ≡ true → x ≡ y
object_is (Thread a) (Thread b) h = ap (λ n. Thread n) (number_is a b h)
object_is (Endpoint a) (Endpoint b) h = ap (λ n. Endpoint n) (number_is a b h)
object_is (Thread a) (Endpoint b) h = absurd (false≢true h)
object_is (Endpoint a) (Thread b) h = absurd (false≢true h)

object_itself : (x : CallObject) → is_same_object x x ≡ true
object_itself (Thread a) = eq-eqb a a refl
object_itself (Endpoint a) = eq-eqb a a refl

endpoint_in : (e : ℕ) (o : Option ℕ) → o ≡ Some e → Contains (as_endpoint o) (Endpoint e)
endpoint_in e o is = subst (λ (o : Option ℕ). Contains (as_endpoint o) (Endpoint e)) (sym is) (contains-head (Endpoint e) [] (Endpoint e) refl)

module _ (p : ProfileName) (own : List (List Call)) (w : World) (groups : List ℕ) (group : ℕ) (are : AreGroups p own w groups) where
  abbrev has : ℕ → Bool
  has = is_client_in groups group

  -- clients that are together are in the group both, or neither
  pub has_same : (a b : ℕ) → a < length own → b < length own → is_together p own w a b ≡ true → has a ≡ has b
  has_same a b la lb h = ap (λ n. n == group) (are.together a b la lb h)

  -- a client touches an object
  abbrev touches : ℕ → CallObject → Bool
  touches client x = list_any (is_same_object x) (objects_of_client p own w client)

  -- a client of the group does
  abbrev pub is_ours : CallObject → Bool
  is_ours x = list_any (λ client. has client && touches client x) (clients own)

  pub touched : (client : ℕ) (x : CallObject) → client < length own → Contains (objects_of_client p own w client) x → is_ours x ≡ has client
  touched client x lt contains = by (has client) refl
    where
      there : touches client x ≡ true
      there = any_of (is_same_object x) (objects_of_client p own w client) x contains (object_itself x)

      -- another client that touches it is in the same group
      shared : (other : ℕ) → other < length own → touches other x ≡ true → has other ≡ has client
      shared other below touching =
          let at = some_of (is_same_object x) (objects_of_client p own w other) touching in
          let contains_there = subst (Contains (objects_of_client p own w other)) (sym (object_is x at.0 at.2)) at.1 in
          let sharing : share (objects_of_client p own w other) (objects_of_client p own w client) ≡ true =
          any_of (λ y. list_any (is_same_object y) (objects_of_client p own w client)) (objects_of_client p own w other) x contains_there there in
          has_same other client below lt (or_right (capabilities_may_change own w.made) (share (objects_of_client p own w other) (objects_of_client p own w client)) sharing)

      none : has client ≡ false → (b : Bool) → is_ours x ≡ b → b ≡ false
      none is false e = refl
      none is true e =
          let other = some_of (λ c. has c && touches c x) (clients own) e in
          let parts = true_parts (has other.0) (touches other.0 x) other.2 in
          sym parts.0 ∙ shared other.0 (below_contained (length own) other.0 other.1) parts.1 ∙ is

      by : (b : Bool) → has client ≡ b → is_ours x ≡ b
      by true is = any_of (λ c. has c && touches c x) (clients own) client (contains-below (length own) client lt) (both_true (has client) (touches client x) is there)
      by false is = none is (is_ours x) refl

  abbrev pub on_thread : ℕ → Bool
  on_thread t = is_ours (object_of (shown w.kernel) t)

  abbrev pub on_endpoint : ℕ → Bool
  on_endpoint e = is_ours (Endpoint e)

  -- ---- the calls that are left

  module _ (keep : capabilities_may_change own w.made ≡ false) where
    keeps_so : (client : ℕ) (call : Call) → client < length own → Contains (calls_left own w.made client) call → keeps_capabilities call.op ≡ true
    keeps_so client call lt contains =
        let of_client = none_of (λ client. list_any (λ (call : Call). not (keeps_capabilities call.op)) (calls_left own w.made client)) (clients own) client keep (contains-below (length own) client lt) in
        not_false (keeps_capabilities call.op) (none_of (λ (call : Call). not (keeps_capabilities call.op)) (calls_left own w.made client) call of_client contains)
      where
        not_false : (b : Bool) → not b ≡ false → b ≡ true
        not_false true h = refl
        not_false false h = absurd (false≢true (sym h))

    call_touched : (client : ℕ) (call : Call) (x : CallObject) → client < length own → Contains (calls_left own w.made client) call → Contains (objects_of_call p (shown w.kernel) call) x → is_ours x ≡ has client
    call_touched client call x lt left at =
        touched client x lt
        (Contains-append_left (flat_map (objects_of_call p (shown w.kernel)) (calls_left own w.made client))
        (map (λ (call : WaitingCall). object_of (shown w.kernel) call.thread) (filter (λ (call : WaitingCall). call.client == client) w.waits)) x
        (contains-flat_map (objects_of_call p (shown w.kernel)) (calls_left own w.made client) call x left at))

    left_on_side : (client : ℕ) (call : Call) → client < length own → Contains (calls_left own w.made client) call → IsOnSide p own (shown w.kernel).derivations w.made has on_thread on_endpoint client call
    left_on_side client call lt left =
        let v = shown w.kernel in
        let own_thread = object_of v call.thread in
        let invoked = as_endpoint (endpoint_invoked p v.derivations call) in
        let cancelled = as_endpoint (endpoint_cancelled p v.derivations call.thread call.op) in
        let threads = as_thread v (thread_invoked p v.derivations call) in
        let rest = invoked ++ (cancelled ++ threads) in
        record {
          keeps = keeps_so client call lt left;
          thread = call_touched client call own_thread lt left (contains-head own_thread rest own_thread refl);
          endpoint = λ e is.
              (call_touched client call (Endpoint e) lt left
              (contains-tail own_thread rest (Endpoint e) (Contains-append_left invoked (cancelled ++ threads) (Endpoint e) (endpoint_in e (endpoint_invoked p v.derivations call) is))));
          cancelled = λ e is.
              (call_touched client call (Endpoint e) lt left
              (contains-tail own_thread rest (Endpoint e)
              (Contains-append_right invoked (cancelled ++ threads) (Endpoint e)
              (Contains-append_left cancelled threads (Endpoint e) (endpoint_in e (endpoint_cancelled p v.derivations call.thread call.op) is)))));
          invoked = λ t is.
              (call_touched client call (object_of v t) lt left
              (contains-tail own_thread rest (object_of v t)
              (Contains-append_right invoked (cancelled ++ threads) (object_of v t)
              (Contains-append_right cancelled threads (object_of v t)
              (subst (λ (o : Option ℕ). Contains (as_thread v o) (object_of v t)) (sym is) (contains-head (object_of v t) [] (object_of v t) refl))))));
        }

    pub all_on_sides : AreOnSides p own (shown w.kernel).derivations w.made has on_thread on_endpoint
    all_on_sides client place call le at = by (slice_get own client) refl at
      where
        by : (o : Option (List Call)) → slice_get own client ≡ o → option_and_then (λ (calls : List Call). slice_get calls place) o ≡ Some call → IsOnSide p own (shown w.kernel).derivations w.made has on_thread on_endpoint client call
        by None e is = absurd (let no : ◌≡◌ {A = Option Call} None (Some call) = is in cc)
        by (Some calls) e is =
            left_on_side client call (slice_get_within own client calls e)
            (subst (λ (o : Option (List Call)). Contains (drop (next_place w.made client) (unwrap_or o [])) call) (sym e) (contains_dropped (next_place w.made client) calls place call le is))

  -- ---- the calls that wait

  pub waits_on_sides : Each (λ (call : WaitingCall). call.client < length own) w.waits → Each (λ (call : WaitingCall). on_thread call.thread ≡ has call.client) w.waits
  waits_on_sides below = on_sides w.waits (each_contained (λ (call : WaitingCall). Contains w.waits call) w.waits (λ call c. c)) below
    where
      on_side : (call : WaitingCall) → Contains w.waits call → call.client < length own → on_thread call.thread ≡ has call.client
      on_side call waits lt =
          let objects = λ (call : WaitingCall). object_of (shown w.kernel) call.thread in
          let ours = filter (λ (c : WaitingCall). c.client == call.client) w.waits in
          touched call.client (objects call) lt
          (Contains-append_right (flat_map (objects_of_call p (shown w.kernel)) (calls_left own w.made call.client)) (map objects ours) (objects call)
          (contains-map objects ours call (contains-filter (λ (c : WaitingCall). c.client == call.client) w.waits call waits (eq-eqb call.client call.client refl))))

      on_sides : (l : List WaitingCall) → Each (λ (call : WaitingCall). Contains w.waits call) l → Each (λ (call : WaitingCall). call.client < length own) l → Each (λ (call : WaitingCall). on_thread call.thread ≡ has call.client) l
      on_sides [] h k = tt
      on_sides (call ∷ l) h k = (on_side call h.0 k.0, on_sides l h.1 k.1)

  -- ---- who waits on an endpoint

  pub waiters_stand : IsReached p w.kernel → Stands on_thread on_endpoint (shown w.kernel)
  waiters_stand r e =
      each_weaker (λ (x : Waiter). state_at (shown w.kernel) (thread_of x) ≡ Some (state_in e x)) (StandsAt on_thread on_endpoint (on_endpoint e)) stands (waiting_at (shown w.kernel) e) (shown_to_wait p w.kernel r e)
    where
      stands : (x : Waiter) → state_at (shown w.kernel) (thread_of x) ≡ Some (state_in e x) → on_thread (thread_of x) ≡ on_endpoint e
      stands (Sender thread badge message) is = ap (λ (s : Option ThreadState). is_ours (object_in s thread)) is
      stands (Receiver thread) is = ap (λ (s : Option ThreadState). is_ours (object_in s thread)) is
