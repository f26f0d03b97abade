-- What one side does is not seen by the other, and of what it is told nothing is the other's.
use Rattle.std.proofs.Common.{◌≡◌, ◌≢◌, ℕ, Bool, true, false, not, List, [], ◌∷◌, ◌++◌, map, filter, Option, Some, slice_get, ap, sym, ◌∙◌}
use Rattle.std.proofs.lemmas.Bool.{false≢true}
use Rattle.std.specs.List.{AllByRecursion as Each}
use Rattle.cap_core.specs.declared.profile.ProfileName.{ProfileName}
use Rattle.kernel_forest.specs.Forest.{Forest}
use Rattle.kernel_forest.specs.Entries.{Entry}
use Rattle.kernel_abstract.specs.declared.call.Call.{Call}
use Rattle.kernel_abstract.specs.declared.call.Reply.{Reply}
use Rattle.kernel_abstract.specs.declared.call.ThreadState.{ThreadState}
use Rattle.kernel_abstract.specs.Decode.{decoded_call}
use Rattle.kernel_abstract.specs.Shown.{Shown, state_at}
use Rattle.kernel_abstract.specs.Private.Effects.{Effect, effect_of}
use Rattle.query_orders.specs.declared.answer.WaitingCall.{WaitingCall}
use Rattle.query_orders.specs.World.{next_place, is_ready, still_waits, waiting_call}
use Rattle.query_orders.specs.Answers.{answered, replied, wait_ended}
use Rattle.query_orders.proofs.Apart.Lists.{filters_swap, filter_alike, filter_whole, filter_only, each_both, each_weaker, each_filter}
use Rattle.query_orders.proofs.Apart.Live.{tidy}
use Rattle.query_orders.proofs.Apart.Sides.{SameOn, same_itself, same_state}
use Rattle.query_orders.proofs.Apart.Effects.{effects_apart}
use Rattle.query_orders.proofs.Apart.Views.{View, view_with, view_answers}
use Rattle.query_orders.proofs.Apart.Agreement.{IsOnSide, Holds, Agree, fits, mine, mine_there, still_same, unseen_after, more_apart, both, place_is}

apart : (b : Bool) (c : Bool) → b ≡ c → b ≢ not c
apart b true is e = false≢true (sym e ∙ is)
apart b false is e = false≢true (sym is ∙ e)

module _ (p : ProfileName) (own : List (List Call)) (f : Forest Entry) (before : List ℕ) (has on_thread on_endpoint : ℕ → Bool) where
  module _ (v : View) (h : Holds p own f before has on_thread on_endpoint v) (client : ℕ) (call : Call) (on : IsOnSide p own f before has on_thread on_endpoint client call) where
    abbrev e : Effect
    e = effect_of p v.shows call

    -- a call leaves the other side of its client's as it is
    pub leaves : (side : Bool) → has client ≢ side → (u : Shown) → SameOn on_thread on_endpoint side v.shows u → SameOn on_thread on_endpoint side e.after u
    leaves side two u same =
        effects_apart on_thread on_endpoint (has client) call.thread on.thread side two v.shows u same p (decoded_call p v.shows call) (fits p own f before has on_thread on_endpoint v.shows h.forest client call on) h.stands (tidy p v.shows h.reached)

    -- the calls of the other side still wait
    still_there : (side : Bool) → has client ≢ side → (c : WaitingCall) → on_thread c.thread ≡ side → still_waits v.shows c ≡ true → still_waits e.after c ≡ true
    still_there side two c at waits =
        still_same p own f before has on_thread on_endpoint side e.after v.shows (leaves side two v.shows (same_itself on_thread on_endpoint side v.shows)) c at ∙ waits

    pub agree_apart : has client ≡ false → (u : View) → Agree p own f before has on_thread on_endpoint v u → Agree p own f before has on_thread on_endpoint (view_with p v client (Some call)) u
    agree_apart is u a =
        let two : has client ≢ true = (λ yet. false≢true (sym is ∙ yet)) in
        let ours = filter (mine p own f before has on_thread on_endpoint) v.waits in
        let new = waiting_call call.thread client (next_place v.made client) in
        let stay : Each (λ (c : WaitingCall). still_waits e.after c ≡ true) ours =
        each_weaker (λ (c : WaitingCall). (on_thread c.thread ≡ true) × (still_waits v.shows c ≡ true)) (λ (c : WaitingCall). still_waits e.after c ≡ true) (λ c w. still_there true two c w.0 w.1) ours
        (each_both (λ (c : WaitingCall). on_thread c.thread ≡ true) (λ (c : WaitingCall). still_waits v.shows c ≡ true) ours (mine_there p own f before has on_thread on_endpoint v h)
        (each_filter (λ (c : WaitingCall). still_waits v.shows c ≡ true) (mine p own f before has on_thread on_endpoint) v.waits h.waits.still)) in
        record {
          made = λ c at. more_apart v.made client c (slice_get v.made client) (λ same. two (sym (ap has same) ∙ at)) ∙ a.made c at;
          waits =
              unseen_after p own f before has on_thread on_endpoint e.after v.waits new e.reply is
              ∙ filters_swap (mine p own f before has on_thread on_endpoint) (still_waits e.after) v.waits
              ∙ filter_whole (still_waits e.after) ours stay
              ∙ a.waits;
          shows = leaves true two u.shows a.shows;
        }

    -- the waits that a call of the side ends are the side's
    pub ended_ours : has client ≡ true → filter (λ c. not (still_waits e.after c)) v.waits ≡ filter (λ c. not (still_waits e.after c)) (filter (mine p own f before has on_thread on_endpoint) v.waits)
    ended_ours is =
        let two : has client ≢ false = (λ yet. false≢true (sym yet ∙ is)) in
        sym (filter_only (λ c. not (still_waits e.after c)) (mine p own f before has on_thread on_endpoint) v.waits
        (each_weaker (λ (c : WaitingCall). (on_thread c.thread ≡ has c.client) × (still_waits v.shows c ≡ true)) (λ (c : WaitingCall). has c.client ≡ false → not (still_waits e.after c) ≡ false)
        (λ c w other. ap not (still_there false two c (w.0 ∙ other) w.1)) v.waits
        (each_both (λ (c : WaitingCall). on_thread c.thread ≡ has c.client) (λ (c : WaitingCall). still_waits v.shows c ≡ true) v.waits h.sides h.waits.still)))

  module _ (v u : View) (hv : Holds p own f before has on_thread on_endpoint v) (hu : Holds p own f before has on_thread on_endpoint u) (a : Agree p own f before has on_thread on_endpoint v u)
      (client : ℕ) (is : has client ≡ true) (call : Call) (on : IsOnSide p own f before has on_thread on_endpoint client call) where
    -- a client of the side is told the same in both
    pub told_same : (order : List ℕ) → view_answers p v order client (Some call) ≡ view_answers p u order client (Some call)
    told_same order =
        let e = effect_of p v.shows call in
        let d = effect_of p u.shows call in
        let longer = order ++ client ∷ [] in
        let same = both p own f before has on_thread on_endpoint v u hv hu a client is call on in
        let ours = mine p own f before has on_thread on_endpoint in
        let ended : filter (λ c. not (still_waits e.after c)) v.waits ≡ filter (λ c. not (still_waits d.after c)) u.waits =
        ended_ours v hv client call on is
        ∙ filter_alike (λ (c : WaitingCall). on_thread c.thread ≡ true) (λ c. not (still_waits e.after c)) (λ c. not (still_waits d.after c))
        (λ c at. ap not (still_same p own f before has on_thread on_endpoint true e.after d.after same.1 c at)) (filter ours v.waits) (mine_there p own f before has on_thread on_endpoint v hv)
        ∙ ap (filter (λ c. not (still_waits d.after c))) a.waits
        ∙ sym (ended_ours u hu client call on is) in
        let whole = λ (n : ℕ) (reply : Reply) (l : List WaitingCall). replied longer client n reply ++ map (λ (c : WaitingCall). answered longer c.client c.place (wait_ended reply c.thread)) l in
        ap (λ n. whole n e.reply (filter (λ c. not (still_waits e.after c)) v.waits)) (place_is p own f before has on_thread on_endpoint v u hv hu a client is call on)
        ∙ ap (λ (reply : Reply). whole (next_place u.made client) reply (filter (λ c. not (still_waits e.after c)) v.waits)) same.0
        ∙ ap (whole (next_place u.made client) d.reply) ended

    -- and can make its call in both
    pub ready_same : is_ready (state_at v.shows call.thread) ≡ is_ready (state_at u.shows call.thread)
    ready_same = ap (λ (o : Option ThreadState). is_ready o) (same_state on_thread on_endpoint true v.shows u.shows a.shows call.thread (on.thread ∙ is))
