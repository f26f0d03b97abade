-- What a call does to what is shown that changes no capability: it changes its own side alone, by what is shown of that side.
use Rattle.std.proofs.Common.{◌≡◌, ◌≢◌, ◌==◌, ◌||◌, ℕ, Bool, true, false, not, cond, List, [], ◌∷◌, ◌++◌, drop, Option, None, Some, option_map, unwrap_or, Result, Ok, Err, refl, ap, sym, subst, ◌∙◌}
use Rattle.std.specs.List.{list_any, AllByRecursion as Each}
use Rattle.std.specs.FinMap.{get}
use Rattle.std.proofs.lemmas.Bool.{ne_eqb}
use Rattle.cap_core.specs.declared.profile.ProfileName.{ProfileName}
use Rattle.cap_core.specs.declared.message.Message.{Message}
use Rattle.cap_core.specs.declared.capability.Badge.{Badge}
use Rattle.cap_core.specs.declared.refusal.Refusal.{Refusal}
use Rattle.ipc_core.specs.declared.waiter.Waiter.{Waiter}
use Rattle.ipc_core.specs.declared.waiter.Waiter.TheVariants.{Sender, Receiver}
use Rattle.ipc_core.specs.declared.waiter.Offer.{Offer}
use Rattle.ipc_core.specs.Waits.{thread_of, first_receiver, first_sender}
use Rattle.ipc_core.specs.Cancelled.{is_thread, is_sender_with, those, others}
use Rattle.kernel_abstract.specs.declared.call.Inbox.{Inbox}
use Rattle.kernel_abstract.specs.declared.call.ThreadState.{ThreadState}
use Rattle.kernel_abstract.specs.declared.call.ThreadState.TheVariants.{Ready, Inactive, Sending, Receiving}
use Rattle.kernel_abstract.specs.declared.invocation.Service.{Service}
use Rattle.kernel_abstract.specs.declared.invocation.Invocation.{Invocation}
use Rattle.kernel_abstract.specs.declared.invocation.Invocation.TheVariants as invocation
use Rattle.kernel_abstract.specs.Shown.{Shown, ThreadView, waiting_at, inbox_at}
use Rattle.kernel_abstract.specs.Private.Effects.{Effect, with_message, send_to_first, receive_from_first, send_effect, receive_effect, done, decoded_effect}
use Rattle.kernel_abstract.specs.Private.Endings.{after_stop, after_release, after_cancel_badge}
use Rattle.query_orders.proofs.Contained.{each_append}
use Rattle.query_orders.proofs.Apart.Lists.{each_rest, each_weaker, each_filter, filter_whole}
use Rattle.query_orders.proofs.Apart.Live.{OnlyLiveWait, LiveAreShown, IsTidy, stopped_list, readied_row, released_row}
use Rattle.query_orders.proofs.Apart.Fitting.{Fits}
use Rattle.query_orders.proofs.Apart.Sides.{with_row, with_list, list_after, SameOn, same_inbox, rows_set, lists_set, row_apart, list_apart, StandsAt, Stands, stands_set}

abbrev waits_to : ThreadState → Option Inbox → ThreadView
waits_to state inbox = record { state = state; inbox = inbox }

module _ (on_thread on_endpoint : ℕ → Bool) (side : Bool) where
  abbrev Same : Bool → Shown → Shown → Type 0
  Same other x y = SameOn on_thread on_endpoint other x y

  -- ---- who is served first stands on the endpoint's side

  abbrev IsToSide : Option ℕ → Type 0
  IsToSide o = (to : ℕ) → o ≡ Some to → on_thread to ≡ side

  abbrev IsOfSide : Option Offer → Type 0
  IsOfSide o = (offer : Offer) → o ≡ Some offer → on_thread offer.thread ≡ side

  first_to : (list : List Waiter) → Each (StandsAt on_thread on_endpoint side) list → IsToSide (first_receiver list)
  first_to [] h to is = cc
  first_to (Sender thread badge message ∷ list) h to is = cc
  first_to (Receiver thread ∷ list) h to is = let same : thread ≡ to = ap (λ (o : Option ℕ). unwrap_or o 0) is in sym (ap on_thread same) ∙ h.0

  first_of : (list : List Waiter) → Each (StandsAt on_thread on_endpoint side) list → IsOfSide (first_sender list)
  first_of [] h offer is = cc
  first_of (Receiver thread ∷ list) h offer is = cc
  first_of (Sender thread badge message ∷ list) h offer is =
      let same : thread ≡ offer.thread = ap (λ (o : Option Offer). unwrap_or (option_map (λ (f : Offer). f.thread) o) 0) is in sym (ap on_thread same) ∙ h.0

  at_side : (x : Shown) (service : Service) → Stands on_thread on_endpoint x → on_endpoint service.endpoint ≡ side → Each (StandsAt on_thread on_endpoint side) (waiting_at x service.endpoint)
  at_side x service stands fits = subst (λ b. Each (StandsAt on_thread on_endpoint b) (waiting_at x service.endpoint)) fits (stands service.endpoint)

  module _ (t : ℕ) (on : on_thread t ≡ side) where
    -- ---- two states that show the same of the side

    abbrev pub AlikeEffects : Effect → Effect → Type 0
    AlikeEffects d e = (d.reply ≡ e.reply) × Same side d.after e.after

    module _ (x y : Shown) (same : Same side x y) where
      waits_set : (state : ThreadState) (e : ℕ) (list : List Waiter) → Same side (with_list (with_row x t (waits_to state (inbox_at x t))) e list) (with_list (with_row y t (waits_to state (inbox_at y t))) e list)
      waits_set state e list =
          let rx = waits_to state (inbox_at x t) in
          let ry = waits_to state (inbox_at y t) in
          lists_set on_thread on_endpoint side (with_row x t rx) (with_row y t ry)
          (rows_set on_thread on_endpoint side x y same t rx ry (ap (waits_to state) (same_inbox on_thread on_endpoint side x y same t on))) e list

      send_alike : (service : Service) (message : Message) (list : List Waiter) (block : Bool) (o : Option ℕ) → AlikeEffects (send_to_first x t service message list block o) (send_to_first y t service message list block o)
      send_alike service message list true None = (refl, waits_set (Sending service.endpoint) service.endpoint (list ++ Sender t service.badge message ∷ []))
      send_alike service message list false None = (refl, same)
      send_alike service message list block (Some to) =
          let row = with_message service.badge message in (
            refl,
            lists_set on_thread on_endpoint side (with_row x to row) (with_row y to row) (rows_set on_thread on_endpoint side x y same to row row refl) service.endpoint (drop 1 list),
          )

      receive_alike : (service : Service) (list : List Waiter) (block : Bool) (o : Option Offer) → IsOfSide o → AlikeEffects (receive_from_first x t service list block o) (receive_from_first y t service list block o)
      receive_alike service list true None of = (refl, waits_set (Receiving service.endpoint) service.endpoint (list ++ Receiver t ∷ []))
      receive_alike service list false None of = (refl, same)
      receive_alike service list block (Some offer) of =
          let rx = waits_to Ready (inbox_at x offer.thread) in
          let ry = waits_to Ready (inbox_at y offer.thread) in
          let row = with_message offer.badge offer.message in
          let first = rows_set on_thread on_endpoint side x y same offer.thread rx ry (ap (waits_to Ready) (same_inbox on_thread on_endpoint side x y same offer.thread (of offer refl))) in
          let both = rows_set on_thread on_endpoint side (with_row x offer.thread rx) (with_row y offer.thread ry) first t row row refl in (
            refl,
            lists_set on_thread on_endpoint side (with_row (with_row x offer.thread rx) t row) (with_row (with_row y offer.thread ry) t row) both service.endpoint (drop 1 list),
          )

      stop_alike : (q : ℕ) → on_thread q ≡ side → (state : ThreadState) → OnlyLiveWait x → OnlyLiveWait y → Same side (after_stop x q state) (after_stop y q state)
      stop_alike q on_q state live_x live_y =
          let rx = waits_to state (inbox_at x q) in
          let ry = waits_to state (inbox_at y q) in
          let rows = rows_set on_thread on_endpoint side x y same q rx ry (ap (waits_to state) (same_inbox on_thread on_endpoint side x y same q on_q)) in
          record {
            threads = rows.threads;
            lists = λ e at. stopped_list x live_x q state e ∙ ap (others (is_thread q)) (same.lists e at) ∙ sym (stopped_list y live_y q state e);
          }

      release_alike : (e : ℕ) → on_endpoint e ≡ side → (names : Waiter → Bool) → LiveAreShown x → LiveAreShown y → Same side (after_release x e names) (after_release y e names)
      release_alike e on_e names rows_x rows_y = record {
        threads = λ q at.
            released_row x rows_x e names q
            ∙ ap (λ (l : List Waiter). option_map (readied_row (list_any (is_thread q) (those names l))) (get x.threads q)) (same.lists e on_e)
            ∙ ap (λ (o : Option ThreadView). option_map (readied_row (list_any (is_thread q) (those names (waiting_at y e)))) o) (same.threads q at)
            ∙ sym (released_row y rows_y e names q);
        lists = λ q at.
            list_after x e (others names (waiting_at x e)) q
            ∙ ap (λ (l : List Waiter). cond (q == e) (others names l) (waiting_at x q)) (same.lists e on_e)
            ∙ ap (λ (l : List Waiter). cond (q == e) (others names (waiting_at y e)) l) (same.lists q at)
            ∙ sym (list_after y e (others names (waiting_at y e)) q);
      }

      cancel_alike : (e : ℕ) → on_endpoint e ≡ side → (badge : Badge) → LiveAreShown x → LiveAreShown y → Same side (after_cancel_badge x e badge) (after_cancel_badge y e badge)
      cancel_alike e on_e badge rows_x rows_y =
          elim (badge.0 == 0) as (λ b. Same side (cond b x (after_release x e (is_sender_with badge))) (cond b y (after_release y e (is_sender_with badge)))) [
            | true ↦ same
            | false ↦ release_alike e on_e (is_sender_with badge) rows_x rows_y
          ]

      -- a call of the side does the same in both
      pub effects_alike : (p : ProfileName) (r : Result Invocation Refusal) → Fits on_thread on_endpoint side r → Stands on_thread on_endpoint x → IsTidy x → IsTidy y → AlikeEffects (decoded_effect p x t r) (decoded_effect p y t r)
      effects_alike p (Err refusal) fits stands tidy_x tidy_y = (refl, same)
      effects_alike p (Ok (invocation.Send service message block)) fits stands tidy_x tidy_y =
          subst (λ (list : List Waiter). AlikeEffects (send_effect x t service message block (waiting_at x service.endpoint)) (send_effect y t service message block list)) (same.lists service.endpoint fits)
          (send_alike service message (waiting_at x service.endpoint) block (first_receiver (waiting_at x service.endpoint)))
      effects_alike p (Ok (invocation.Receive service block)) fits stands tidy_x tidy_y =
          subst (λ (list : List Waiter). AlikeEffects (receive_effect x t service block (waiting_at x service.endpoint)) (receive_effect y t service block list)) (same.lists service.endpoint fits)
          (receive_alike service (waiting_at x service.endpoint) block (first_sender (waiting_at x service.endpoint)) (first_of (waiting_at x service.endpoint) (at_side x service stands fits)))
      effects_alike p (Ok (invocation.Retype new)) fits stands tidy_x tidy_y = absurd fits
      effects_alike p (Ok (invocation.Derive placement)) fits stands tidy_x tidy_y = absurd fits
      effects_alike p (Ok (invocation.Move placement)) fits stands tidy_x tidy_y = absurd fits
      effects_alike p (Ok (invocation.Delete slot)) fits stands tidy_x tidy_y = absurd fits
      effects_alike p (Ok (invocation.Revoke slot)) fits stands tidy_x tidy_y = absurd fits
      effects_alike p (Ok (invocation.CancelBadged service)) fits stands tidy_x tidy_y = (refl, cancel_alike service.endpoint fits service.badge tidy_x.rows tidy_y.rows)
      effects_alike p (Ok (invocation.SetSpace new)) fits stands tidy_x tidy_y = absurd fits
      effects_alike p (Ok (invocation.Suspend tcb)) fits stands tidy_x tidy_y = (refl, stop_alike tcb fits Inactive tidy_x.waits tidy_y.waits)
      effects_alike p (Ok (invocation.Resume tcb)) fits stands tidy_x tidy_y = (refl, stop_alike tcb fits Ready tidy_x.waits tidy_y.waits)

    -- ---- the other side sees nothing of it

    module _ (other : Bool) (two : side ≢ other) (x y : Shown) (same : Same other x y) where
      not_other : (b : Bool) → b ≡ side → b ≢ other
      not_other b is e = two (sym is ∙ e)

      change_apart : (q : ℕ) (row : ThreadView) (e : ℕ) (list : List Waiter) → on_thread q ≡ side → on_endpoint e ≡ side → Same other (with_list (with_row x q row) e list) y
      change_apart q row e list on_q on_e =
          list_apart on_thread on_endpoint other (with_row x q row) y (row_apart on_thread on_endpoint other x y same q row (not_other (on_thread q) on_q)) e list (not_other (on_endpoint e) on_e)

      send_apart : (service : Service) (message : Message) (list : List Waiter) (block : Bool) (o : Option ℕ) → on_endpoint service.endpoint ≡ side → IsToSide o → Same other (send_to_first x t service message list block o).after y
      send_apart service message list true None fits to = change_apart t (waits_to (Sending service.endpoint) (inbox_at x t)) service.endpoint (list ++ Sender t service.badge message ∷ []) on fits
      send_apart service message list false None fits to = same
      send_apart service message list block (Some q) fits to = change_apart q (with_message service.badge message) service.endpoint (drop 1 list) (to q refl) fits

      receive_apart : (service : Service) (list : List Waiter) (block : Bool) (o : Option Offer) → on_endpoint service.endpoint ≡ side → IsOfSide o → Same other (receive_from_first x t service list block o).after y
      receive_apart service list true None fits of = change_apart t (waits_to (Receiving service.endpoint) (inbox_at x t)) service.endpoint (list ++ Receiver t ∷ []) on fits
      receive_apart service list false None fits of = same
      receive_apart service list block (Some offer) fits of =
          let rx = waits_to Ready (inbox_at x offer.thread) in
          let row = with_message offer.badge offer.message in
          let first = row_apart on_thread on_endpoint other x y same offer.thread rx (not_other (on_thread offer.thread) (of offer refl)) in
          list_apart on_thread on_endpoint other (with_row (with_row x offer.thread rx) t row) y
          (row_apart on_thread on_endpoint other (with_row x offer.thread rx) y first t row (not_other (on_thread t) on)) service.endpoint (drop 1 list) (not_other (on_endpoint service.endpoint) fits)

      stop_apart : (q : ℕ) → on_thread q ≡ side → (state : ThreadState) → Stands on_thread on_endpoint x → OnlyLiveWait x → Same other (after_stop x q state) y
      stop_apart q on_q state stands live =
          let rows = row_apart on_thread on_endpoint other x y same q (waits_to state (inbox_at x q)) (not_other (on_thread q) on_q) in
          record {
            threads = rows.threads;
            lists = λ e at.
                stopped_list x live q state e
                ∙ filter_whole (λ (w : Waiter). not (is_thread q w)) (waiting_at x e)
                (each_weaker (StandsAt on_thread on_endpoint (on_endpoint e)) (λ (w : Waiter). not (is_thread q w) ≡ true)
                (λ w there. ap not (ne_eqb (thread_of w) q (λ is. not_other (on_thread (thread_of w)) (ap on_thread is ∙ on_q) (there ∙ at)))) (waiting_at x e) (stands e))
                ∙ same.lists e at;
          }

      -- none of those that wait on an endpoint of the side is a thread of the other
      none_named : (q : ℕ) → on_thread q ≡ other → (l : List Waiter) → Each (StandsAt on_thread on_endpoint side) l → list_any (is_thread q) l ≡ false
      none_named q at [] h = refl
      none_named q at (w ∷ l) h =
          ap (λ b. b || list_any (is_thread q) l) (ne_eqb (thread_of w) q (λ is. not_other (on_thread (thread_of w)) h.0 (ap on_thread is ∙ at))) ∙ none_named q at l h.1

      as_before : (o : Option ThreadView) → option_map (readied_row false) o ≡ o
      as_before None = refl
      as_before (Some row) = refl

      release_apart : (e : ℕ) → on_endpoint e ≡ side → (names : Waiter → Bool) → Stands on_thread on_endpoint x → LiveAreShown x → Same other (after_release x e names) y
      release_apart e on_e names stands rows =
          let waiting = subst (λ b. Each (StandsAt on_thread on_endpoint b) (waiting_at x e)) on_e (stands e) in
          let named = each_filter (StandsAt on_thread on_endpoint side) names (waiting_at x e) waiting in
          let lists = list_apart on_thread on_endpoint other x y same e (others names (waiting_at x e)) (not_other (on_endpoint e) on_e) in
          record {
            threads = λ q at.
                released_row x rows e names q
                ∙ ap (λ b. option_map (readied_row b) (get x.threads q)) (none_named q at (those names (waiting_at x e)) named)
                ∙ as_before (get x.threads q)
                ∙ same.threads q at;
            lists = lists.lists;
          }

      cancel_apart : (e : ℕ) → on_endpoint e ≡ side → (badge : Badge) → Stands on_thread on_endpoint x → LiveAreShown x → Same other (after_cancel_badge x e badge) y
      cancel_apart e on_e badge stands rows =
          elim (badge.0 == 0) as (λ b. Same other (cond b x (after_release x e (is_sender_with badge))) y) [
            | true ↦ same
            | false ↦ release_apart e on_e (is_sender_with badge) stands rows
          ]

      pub effects_apart : (p : ProfileName) (r : Result Invocation Refusal) → Fits on_thread on_endpoint side r → Stands on_thread on_endpoint x → IsTidy x → Same other (decoded_effect p x t r).after y
      effects_apart p (Err refusal) fits stands tidy = same
      effects_apart p (Ok (invocation.Send service message block)) fits stands tidy =
          send_apart service message (waiting_at x service.endpoint) block (first_receiver (waiting_at x service.endpoint)) fits (first_to (waiting_at x service.endpoint) (at_side x service stands fits))
      effects_apart p (Ok (invocation.Receive service block)) fits stands tidy =
          receive_apart service (waiting_at x service.endpoint) block (first_sender (waiting_at x service.endpoint)) fits (first_of (waiting_at x service.endpoint) (at_side x service stands fits))
      effects_apart p (Ok (invocation.Retype new)) fits stands tidy = absurd fits
      effects_apart p (Ok (invocation.Derive placement)) fits stands tidy = absurd fits
      effects_apart p (Ok (invocation.Move placement)) fits stands tidy = absurd fits
      effects_apart p (Ok (invocation.Delete slot)) fits stands tidy = absurd fits
      effects_apart p (Ok (invocation.Revoke slot)) fits stands tidy = absurd fits
      effects_apart p (Ok (invocation.CancelBadged service)) fits stands tidy = cancel_apart service.endpoint fits service.badge stands tidy.rows
      effects_apart p (Ok (invocation.SetSpace new)) fits stands tidy = absurd fits
      effects_apart p (Ok (invocation.Suspend tcb)) fits stands tidy = stop_apart tcb fits Inactive stands tidy.waits
      effects_apart p (Ok (invocation.Resume tcb)) fits stands tidy = stop_apart tcb fits Ready stands tidy.waits

    -- ---- and all waiters stand on their sides, with the same capabilities

    module _ (x : Shown) (stands : Stands on_thread on_endpoint x) where
      abbrev pub Kept : Effect → Type 0
      Kept d = (d.after.derivations ≡ x.derivations) × Stands on_thread on_endpoint d.after

      stands_with : (q : ℕ) (row : ThreadView) (service : Service) (list : List Waiter) → on_endpoint service.endpoint ≡ side → Each (StandsAt on_thread on_endpoint side) list →
          Stands on_thread on_endpoint (with_list (with_row x q row) service.endpoint list)
      stands_with q row service list fits each =
          stands_set on_thread on_endpoint (with_row x q row) stands service.endpoint list (subst (λ b. Each (StandsAt on_thread on_endpoint b) list) (sym fits) each)

      send_kept : (service : Service) (message : Message) (list : List Waiter) (block : Bool) (o : Option ℕ) → on_endpoint service.endpoint ≡ side → Each (StandsAt on_thread on_endpoint side) list →
          Kept (send_to_first x t service message list block o)
      send_kept service message list true None fits each =
          (refl, stands_with t (waits_to (Sending service.endpoint) (inbox_at x t)) service (list ++ Sender t service.badge message ∷ []) fits (each_append (StandsAt on_thread on_endpoint side) list (Sender t service.badge message ∷ []) each (on, tt)))
      send_kept service message list false None fits each = (refl, stands)
      send_kept service message list block (Some q) fits each =
          (refl, stands_with q (with_message service.badge message) service (drop 1 list) fits (each_rest (StandsAt on_thread on_endpoint side) list each))

      receive_kept : (service : Service) (list : List Waiter) (block : Bool) (o : Option Offer) → on_endpoint service.endpoint ≡ side → Each (StandsAt on_thread on_endpoint side) list →
          Kept (receive_from_first x t service list block o)
      receive_kept service list true None fits each =
          (refl, stands_with t (waits_to (Receiving service.endpoint) (inbox_at x t)) service (list ++ Receiver t ∷ []) fits (each_append (StandsAt on_thread on_endpoint side) list (Receiver t ∷ []) each (on, tt)))
      receive_kept service list false None fits each = (refl, stands)
      receive_kept service list block (Some offer) fits each =
          let rx = waits_to Ready (inbox_at x offer.thread) in
          let row = with_message offer.badge offer.message in (
            refl,
            stands_set on_thread on_endpoint (with_row (with_row x offer.thread rx) t row) stands service.endpoint (drop 1 list)
                (subst (λ b. Each (StandsAt on_thread on_endpoint b) (drop 1 list)) (sym fits) (each_rest (StandsAt on_thread on_endpoint side) list each)),
          )

      stop_kept : (q : ℕ) (state : ThreadState) → OnlyLiveWait x → Stands on_thread on_endpoint (after_stop x q state)
      stop_kept q state live e =
          subst (Each (StandsAt on_thread on_endpoint (on_endpoint e))) (sym (stopped_list x live q state e))
          (each_filter (StandsAt on_thread on_endpoint (on_endpoint e)) (λ (w : Waiter). not (is_thread q w)) (waiting_at x e) (stands e))

      cancel_kept : (e : ℕ) (badge : Badge) → Kept (done (after_cancel_badge x e badge))
      cancel_kept e badge =
          let names = is_sender_with badge in
          elim (badge.0 == 0) as (λ b. Kept (done (cond b x (after_release x e names)))) [
            | true ↦ (refl, stands)
            | false ↦ (refl, stands_set on_thread on_endpoint x stands e (others names (waiting_at x e)) (each_filter (StandsAt on_thread on_endpoint (on_endpoint e)) (λ (w : Waiter). not (names w)) (waiting_at x e) (stands e)))
          ]

      pub effects_kept : (p : ProfileName) (r : Result Invocation Refusal) → Fits on_thread on_endpoint side r → IsTidy x → Kept (decoded_effect p x t r)
      effects_kept p (Err refusal) fits tidy = (refl, stands)
      effects_kept p (Ok (invocation.Send service message block)) fits tidy =
          send_kept service message (waiting_at x service.endpoint) block (first_receiver (waiting_at x service.endpoint)) fits (at_side x service stands fits)
      effects_kept p (Ok (invocation.Receive service block)) fits tidy =
          receive_kept service (waiting_at x service.endpoint) block (first_sender (waiting_at x service.endpoint)) fits (at_side x service stands fits)
      effects_kept p (Ok (invocation.Retype new)) fits tidy = absurd fits
      effects_kept p (Ok (invocation.Derive placement)) fits tidy = absurd fits
      effects_kept p (Ok (invocation.Move placement)) fits tidy = absurd fits
      effects_kept p (Ok (invocation.Delete slot)) fits tidy = absurd fits
      effects_kept p (Ok (invocation.Revoke slot)) fits tidy = absurd fits
      effects_kept p (Ok (invocation.CancelBadged service)) fits tidy = cancel_kept service.endpoint service.badge
      effects_kept p (Ok (invocation.SetSpace new)) fits tidy = absurd fits
      effects_kept p (Ok (invocation.Suspend tcb)) fits tidy = (refl, stop_kept tcb Inactive tidy.waits)
      effects_kept p (Ok (invocation.Resume tcb)) fits tidy = (refl, stop_kept tcb Ready tidy.waits)
