-- Two worlds that agree on the clients of one side still do after a call of one of these clients in both, and after a call of
-- another client in one.
use Rattle.std.proofs.Common.{◌≡◌, ◌≢◌, ℕ, ◌+◌, ◌≤◌, Bool, true, false, cond, List, filter, Option, None, Some, option_and_then, slice_get, slice_set, unwrap_or, refl, ap, sym, subst, ◌∙◌, inl, inr, arith}
use Rattle.std.proofs.lemmas.Bool.Decides.{eqb_tells}
use Rattle.std.specs.List.{AllByRecursion as Each}
use Rattle.std.specs.FinMap.{get}
use Rattle.cap_core.specs.declared.profile.ProfileName.{ProfileName}
use Rattle.kernel_forest.specs.Forest.{Forest}
use Rattle.kernel_forest.specs.Entries.{Entry}
use Rattle.kernel_abstract.specs.declared.call.Call.{Call}
use Rattle.kernel_abstract.specs.declared.call.Reply.{Reply}
use Rattle.kernel_abstract.specs.Reasons.{with_refusal}
use Rattle.kernel_abstract.specs.Decode.{checked_op, decoded_call, ensure_live}
use Rattle.kernel_abstract.specs.Shown.{Shown, ThreadView}
use Rattle.kernel_abstract.specs.Private.Effects.{Effect, effect_of, decoded_effect}
use Rattle.query_orders.specs.declared.answer.WaitingCall.{WaitingCall}
use Rattle.query_orders.specs.World.{call_of_client_at, next_client_call, one_more, next_place, is_wait, is_waiting, still_waits, waiting_call, waits_with, waits_after}
use Rattle.query_orders.specs.Groups.{keeps_capabilities, endpoint_invoked, endpoint_cancelled, thread_invoked}
use Rattle.query_orders.proofs.NoLonger.{get-set_same, get-set_apart}
use Rattle.query_orders.proofs.Apart.Lists.{filters_swap, filter_alike, each_both, each_weaker, each_filter, each_passes}
use Rattle.query_orders.proofs.Apart.Waits.{put, waits_with_is, AreOrdered, ordered_filter, put_among, put_unseen}
use Rattle.query_orders.proofs.Apart.Live.{IsOfReached, reached_with, tidy}
use Rattle.query_orders.proofs.Apart.Fitting.{Fits, decoded_fits}
use Rattle.query_orders.proofs.Apart.Sides.{SameOn, Stands, same_state}
use Rattle.query_orders.proofs.Apart.Effects.{AlikeEffects, effects_alike, effects_kept}
use Rattle.query_orders.proofs.Apart.Views.{View, view_with}
use Rattle.query_orders.proofs.Apart.Held.{WaitsHold, each_after, with_waits}

-- ---- how many calls are made

more_same : (made made' : List ℕ) (client c : ℕ) (o : Option ℕ) → slice_get made client ≡ o → slice_get made' client ≡ o → slice_get made c ≡ slice_get made' c →
    slice_get (one_more client o made) c ≡ slice_get (one_more client o made') c
more_same made made' client c None h k same = same
more_same made made' client c (Some n) h k same = elim (eqb_tells c client) as (λ _. slice_get (slice_set made client (n + 1)) c ≡ slice_get (slice_set made' client (n + 1)) c) [
  | inl is ↦ (
      ap (slice_get (slice_set made client (n + 1))) is.1 ∙ get-set_same made client (n + 1) n h
      ∙ sym (ap (slice_get (slice_set made' client (n + 1))) is.1 ∙ get-set_same made' client (n + 1) n k))
  | inr other ↦ get-set_apart made client c (n + 1) other.1 ∙ same ∙ sym (get-set_apart made' client c (n + 1) other.1)
]

pub more_apart : (made : List ℕ) (client c : ℕ) (o : Option ℕ) → c ≢ client → slice_get (one_more client o made) c ≡ slice_get made c
more_apart made client c None other = refl
more_apart made client c (Some n) other = get-set_apart made client c (n + 1) other

more_grown : (before : ℕ → ℕ) (made : List ℕ) (client : ℕ) (o : Option ℕ) → slice_get made client ≡ o → ((c n : ℕ) → slice_get made c ≡ Some n → before c ≤ n) →
    (c n : ℕ) → slice_get (one_more client o made) c ≡ Some n → before c ≤ n
more_grown before made client None e h c n is = h c n is
more_grown before made client (Some m) e h c n is = elim (eqb_tells c client) as (λ _. before c ≤ n) [
  | inl same ↦ (
      let at : Some (m + 1) ≡ Some n = sym (get-set_same made client (m + 1) m e) ∙ ap (slice_get (slice_set made client (m + 1))) (sym same.1) ∙ is in
      let more : m + 1 ≡ n = ap (λ (o : Option ℕ). unwrap_or o 0) at in
      let le = h c m (ap (slice_get made) same.1 ∙ e) in
      omega (arith, more, le))
  | inr other ↦ h c n (sym (get-set_apart made client c (m + 1) other.1) ∙ is)
]

module _ (p : ProfileName) (own : List (List Call)) (f : Forest Entry) (before : List ℕ) (has on_thread on_endpoint : ℕ → Bool) where
  -- a call of a client changes no capability, and what it touches stands on the client's side
  pub record IsOnSide (client : ℕ) (call : Call) : Type 0 where
    pub keeps : keeps_capabilities call.op ≡ true
    pub thread : on_thread call.thread ≡ has client
    pub endpoint : (e : ℕ) → endpoint_invoked p f call ≡ Some e → on_endpoint e ≡ has client
    pub invoked : (t : ℕ) → thread_invoked p f call ≡ Some t → on_thread t ≡ has client
    pub cancelled : (e : ℕ) → endpoint_cancelled p f call.thread call.op ≡ Some e → on_endpoint e ≡ has client

  -- so do all calls that are left
  abbrev pub AreOnSides : Type 0
  AreOnSides = (client place : ℕ) (call : Call) → next_place before client ≤ place → call_of_client_at own client place ≡ Some call → IsOnSide client call

  -- what holds of each world on the way
  pub record Holds (v : View) : Type 0 where
    pub forest : v.shows.derivations ≡ f
    pub reached : IsOfReached p v.shows
    pub grown : (c n : ℕ) → slice_get v.made c ≡ Some n → next_place before c ≤ n
    pub stands : Stands on_thread on_endpoint v.shows
    pub sides : Each (λ (call : WaitingCall). on_thread call.thread ≡ has call.client) v.waits
    pub waits : WaitsHold v.shows v.waits

  abbrev pub mine : WaitingCall → Bool
  mine call = has call.client

  -- worlds that agree on the clients of the side
  pub record Agree (v u : View) : Type 0 where
    pub made : (c : ℕ) → has c ≡ true → slice_get v.made c ≡ slice_get u.made c
    pub waits : filter mine v.waits ≡ filter mine u.waits
    pub shows : SameOn on_thread on_endpoint true v.shows u.shows

  pub next_on_side : AreOnSides → (v : View) → Holds v → (client : ℕ) (call : Call) → next_client_call own v.made client ≡ Some call → IsOnSide client call
  next_on_side on v h client call is = by (slice_get v.made client) refl is
    where
      by : (o : Option ℕ) → slice_get v.made client ≡ o → option_and_then (call_of_client_at own client) o ≡ Some call → IsOnSide client call
      by None e is = absurd (let no : ◌≡◌ {A = Option Call} None (Some call) = is in cc)
      by (Some n) e is = on client n call (h.grown client n e) is

  pub fits : (x : Shown) → x.derivations ≡ f → (client : ℕ) (call : Call) → IsOnSide client call → Fits on_thread on_endpoint (has client) (decoded_call p x call)
  fits x forest client call on =
      decoded_fits on_thread on_endpoint (has client) p x call on.keeps (λ e is. on.endpoint e (ap (λ (g : Forest Entry). endpoint_invoked p g call) (sym forest) ∙ is))
      (λ t is. on.invoked t (ap (λ (g : Forest Entry). thread_invoked p g call) (sym forest) ∙ is))
      (λ e is. on.cancelled e (ap (λ (g : Forest Entry). endpoint_cancelled p g call.thread call.op) (sym forest) ∙ is))

  pub holds_with : AreOnSides → (v : View) → Holds v → (client : ℕ) (c : Option Call) → next_client_call own v.made client ≡ c → Holds (view_with p v client c)
  holds_with on v h client None is = h
  holds_with on v h client (Some call) is =
      let s = next_on_side on v h client call is in
      let e = effect_of p v.shows call in
      let new = waiting_call call.thread client (next_place v.made client) in
      let kept = effects_kept on_thread on_endpoint (has client) call.thread s.thread v.shows h.stands p (decoded_call p v.shows call) (fits v.shows h.forest client call s) (tidy p v.shows h.reached) in
      record {
        forest = kept.0 ∙ h.forest;
        reached = reached_with p v.shows h.reached call;
        grown = more_grown (next_place before) v.made client (slice_get v.made client) refl h.grown;
        stands = kept.1;
        sides = each_after e.after v.waits new (λ (call : WaitingCall). on_thread call.thread ≡ has call.client) e.reply (λ _. s.thread)
            (each_filter (λ (call : WaitingCall). on_thread call.thread ≡ has call.client) (still_waits e.after) v.waits h.sides);
        waits = with_waits p v client (Some call) h.waits;
      }

  -- ---- the calls that wait

  pub mine_there : (v : View) → Holds v → Each (λ (call : WaitingCall). on_thread call.thread ≡ true) (filter mine v.waits)
  mine_there v h =
      each_weaker (λ (call : WaitingCall). (on_thread call.thread ≡ has call.client) × (mine call ≡ true)) (λ (call : WaitingCall). on_thread call.thread ≡ true) (λ call w. w.0 ∙ w.1) (filter mine v.waits)
      (each_both (λ (call : WaitingCall). on_thread call.thread ≡ has call.client) (λ (call : WaitingCall). mine call ≡ true) (filter mine v.waits)
      (each_filter (λ (call : WaitingCall). on_thread call.thread ≡ has call.client) mine v.waits h.sides) (each_passes mine v.waits))

  -- those on one side of a state that shows the same of it
  pub still_same : (side : Bool) (x y : Shown) → SameOn on_thread on_endpoint side x y → (call : WaitingCall) → on_thread call.thread ≡ side → still_waits x call ≡ still_waits y call
  still_same side x y same call on = ap is_waiting (same_state on_thread on_endpoint side x y same call.thread on)

  among_after : (after : Shown) (waits : List WaitingCall) (new : WaitingCall) (reply : Reply) → mine new ≡ true → AreOrdered waits →
      filter mine (waits_after after waits new reply) ≡ waits_after after (filter mine waits) new reply
  among_after after waits new reply is ordered =
      elim (is_wait reply) as (λ b. filter mine (cond b (waits_with (filter (still_waits after) waits) new) (filter (still_waits after) waits))
      ≡ cond b (waits_with (filter (still_waits after) (filter mine waits)) new) (filter (still_waits after) (filter mine waits))) [
        | true ↦ (
            ap (filter mine) (waits_with_is new (filter (still_waits after) waits))
            ∙ put_among new mine (filter (still_waits after) waits) is (ordered_filter (still_waits after) waits ordered)
            ∙ ap (λ (l : List WaitingCall). put l new) (filters_swap mine (still_waits after) waits)
            ∙ sym (waits_with_is new (filter (still_waits after) (filter mine waits))))
        | false ↦ filters_swap mine (still_waits after) waits
      ]

  pub unseen_after : (after : Shown) (waits : List WaitingCall) (new : WaitingCall) (reply : Reply) → mine new ≡ false → filter mine (waits_after after waits new reply) ≡ filter mine (filter (still_waits after) waits)
  unseen_after after waits new reply is =
      elim (is_wait reply) as (λ b. filter mine (cond b (waits_with (filter (still_waits after) waits) new) (filter (still_waits after) waits)) ≡ filter mine (filter (still_waits after) waits)) [
        | true ↦ ap (filter mine) (waits_with_is new (filter (still_waits after) waits)) ∙ put_unseen new mine (filter (still_waits after) waits) is
        | false ↦ refl
      ]

  -- ---- a call of the side, in both

  decoded_same : (x y : Shown) (call : Call) → x.derivations ≡ y.derivations → get x.threads call.thread ≡ get y.threads call.thread → decoded_call p x call ≡ decoded_call p y call
  decoded_same x y call forests threads =
      ap (λ (o : Option ThreadView). with_refusal (ensure_live o (checked_op p x.derivations call.thread call.op))) threads
      ∙ ap (λ (g : Forest Entry). with_refusal (ensure_live (get y.threads call.thread) (checked_op p g call.thread call.op))) forests

  module _ (v u : View) (hv : Holds v) (hu : Holds u) (a : Agree v u) (client : ℕ) (is : has client ≡ true) (call : Call) (on : IsOnSide client call) where
    abbrev e : Effect
    e = effect_of p v.shows call

    abbrev d : Effect
    d = effect_of p u.shows call

    pub both : (e.reply ≡ d.reply) × SameOn on_thread on_endpoint true e.after d.after
    both =
        let r = decoded_call p v.shows call in
        let same = subst (λ b. SameOn on_thread on_endpoint b v.shows u.shows) (sym is) a.shows in
        let alike = effects_alike on_thread on_endpoint (has client) call.thread on.thread v.shows u.shows same p r (fits v.shows hv.forest client call on) hv.stands (tidy p v.shows hv.reached) (tidy p u.shows hu.reached) in
        let there = subst (λ q. AlikeEffects on_thread on_endpoint (has client) call.thread on.thread e (decoded_effect p u.shows call.thread q))
        (decoded_same v.shows u.shows call (hv.forest ∙ sym hu.forest) (a.shows.threads call.thread (on.thread ∙ is))) alike in
        (there.0, subst (λ b. SameOn on_thread on_endpoint b e.after d.after) is there.1)

    pub place_is : next_place v.made client ≡ next_place u.made client
    place_is = ap (λ (o : Option ℕ). unwrap_or o 0) (a.made client is)

    still_both : filter (still_waits e.after) (filter mine v.waits) ≡ filter (still_waits d.after) (filter mine u.waits)
    still_both =
        filter_alike (λ (c : WaitingCall). on_thread c.thread ≡ true) (still_waits e.after) (still_waits d.after) (λ c at. still_same true e.after d.after both.1 c at) (filter mine v.waits) (mine_there v hv)
        ∙ ap (filter (still_waits d.after)) a.waits

    pub agree_both : Agree (view_with p v client (Some call)) (view_with p u client (Some call))
    agree_both =
        let new = waiting_call call.thread client (next_place v.made client) in
        let new' = waiting_call call.thread client (next_place u.made client) in
        record {
          made = λ c at.
              (let same = a.made client is in
              more_same v.made u.made client c (slice_get v.made client) refl (sym same) (a.made c at) ∙ ap (λ (o : Option ℕ). slice_get (one_more client o u.made) c) same);
          waits =
              among_after e.after v.waits new e.reply is hv.waits.ordered
              ∙ ap (λ (l : List WaitingCall). cond (is_wait e.reply) (waits_with l new) l) still_both
              ∙ ap (λ n. waits_after d.after (filter mine u.waits) (waiting_call call.thread client n) e.reply) place_is
              ∙ ap (waits_after d.after (filter mine u.waits) new') both.0
              ∙ sym (among_after d.after u.waits new' d.reply is hu.waits.ordered);
          shows = both.1;
        }
