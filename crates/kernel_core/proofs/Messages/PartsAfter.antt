-- A kernel's parts after what its waiting threads answer to a send and to a receive.
use Rattle.std.proofs.Common.{◌≡◌, ◌==◌, ℕ, Bool, true, false, List, length, Option, None, Some, IsSome, IsSomeAnd, refl, sym, ap, subst, ◌∙◌}
use Rattle.std.specs.List.{list_any}
use Rattle.std.specs.FinMap.{get, insert}
use Rattle.cap_core.specs.declared.profile.ProfileName.{ProfileName}
use Rattle.cap_core.specs.declared.capability.Badge.{Badge}
use Rattle.cap_core.specs.declared.message.Message.{Message}
use Rattle.cap_core.specs.Numbers.{tcb_size}
use Rattle.kernel_forest.specs.Forest.{Forest}
use Rattle.kernel_forest.specs.Entries.{Entry, caps}
use Rattle.ipc_core.specs.declared.waiter.Waiter.TheVariants.{Sender, Receiver}
use Rattle.ipc_core.specs.declared.waiter.Role.TheVariants as R
use Rattle.ipc_core.specs.declared.waiter.Sent.TheVariants as S
use Rattle.ipc_core.specs.declared.waiter.Received.TheVariants as D
use Rattle.ipc_core.specs.declared.waiter.Offer.{Offer}
use Rattle.ipc_core.specs.Waits.{Waits, IsEndpointAddress, IsThreadAddress, first_receiver, first_sender, sent, after_send, waits_sent_to, received, after_receive, waits_received_from}
use Rattle.kernel_abstract.specs.declared.call.Reply.TheVariants.{Delivered, Waiting, Dropped, Empty}
use Rattle.kernel_abstract.specs.declared.invocation.Service.{Service}
use Rattle.kernel_abstract.specs.declared.call.ThreadState.TheVariants.{Sending, Receiving}
use Rattle.kernel_core.specs.declared.rows.ThreadRow.{ThreadRow}
use Rattle.kernel_abstract.specs.Shown.{Shown, endpoints_of, waiting_at}
use Rattle.kernel_abstract.specs.Private.Effects.{Effect, send_effect, send_to_first, receive_effect, receive_from_first, IsLiveEndpoint, IsReady}
use Rattle.kernel_core.specs.Rows.{rows_map, kernel_shown, IsActive, IsKernel}
use Rattle.kernel_core.proofs.Threads.Addresses.{live_address, row_address}
use Rattle.kernel_core.proofs.Messages.KernelParts.{served_kernel, queued_kernel, receiver_active, sender_active}
use Rattle.kernel_core.proofs.Messages.ShownMessages.{receiver_was, no_receiver_was, dropped_was, sender_was, no_sender_was, empty_was, is_live, send_is, receive_is, shows_delivered, shows_waiting, shows_received, ready_row, is_active}

pub some_active : (o : Option ThreadRow) → IsSomeAnd o (λ (r : ThreadRow). r.inactive ≡ false) → IsSome o
some_active None h = absurd h
some_active (Some row) h = refl

-- the row of a thread to which a message was just delivered
abbrev pub delivered_row : Badge → Message → ThreadRow
delivered_row badge message = record { inactive = false; inbox = Some (record { badge = badge; message = message }) }

module _ (p : ProfileName) (memory store waiters : ℕ) (f : Forest Entry) (rows : List (Option ThreadRow)) (w : Waits) (kernel : IsKernel p memory store waiters f rows w) (v : Shown) (view : kernel_shown p f rows w ≡ v) (t : ℕ) (service : Service) (live : IsLiveEndpoint v service.endpoint) (ready : IsReady v t) where
  endpoint_live : list_any (λ k. service.endpoint == k) (endpoints_of f) ≡ true
  endpoint_live = is_live p memory store waiters f rows w kernel v view t service live

  thread_active : IsActive (tcb_size p) rows t
  thread_active = is_active p memory store waiters f rows w kernel v view t service live ready

  pub endpoint_stands : IsEndpointAddress p waiters service.endpoint
  endpoint_stands = subst (λ (m : ℕ). IsEndpointAddress p m service.endpoint) (sym kernel.waiters_memory_is) (live_address p memory service.endpoint (caps f) endpoint_live kernel.lawful)

  pub thread_there : IsSome (get (rows_map (tcb_size p) rows) t)
  thread_there = some_active _ thread_active

  pub thread_stands : IsThreadAddress p waiters t
  thread_stands = subst (λ (m : ℕ). IsThreadAddress p m t) (sym kernel.waiters_memory_is) (row_address p memory rows t kernel.rows_fill thread_there)

  pub waits_nowhere : w.role t ≡ None
  waits_nowhere = (ready_row p memory store waiters f rows w kernel v view t service live ready).role_is

  module _ (w' : Waits) (waiters' : ℕ) (same : waiters' ≡ waiters) where
    moved : (rows' : List (Option ThreadRow)) (u : Waits) → w' ≡ u → IsKernel p memory store waiters f rows' u → IsKernel p memory store waiters' f rows' w'
    moved rows' u is k = subst (λ (n : ℕ). IsKernel p memory store n f rows' w') (sym same) (subst (IsKernel p memory store waiters f rows') (sym is) k)

    -- a send
    module _ (message : Message) (block : Bool) (after : w' ≡ after_send block service.endpoint t service.badge message w) where
      sent_waits : (first : Option ℕ) → first_receiver (w.queue service.endpoint) ≡ first → w' ≡ waits_sent_to first block service.endpoint t (Sender t service.badge message) w
      sent_waits first is = after ∙ ap (λ (o : Option ℕ). waits_sent_to o block service.endpoint t (Sender t service.badge message) w) is

      -- nobody receives: the sender waits, or nothing happens
      unmatched_waits : (b : Bool) → (first_receiver (w.queue service.endpoint) ≡ None) × (block ≡ b) → w' ≡ waits_sent_to None b service.endpoint t (Sender t service.badge message) w
      unmatched_waits b is = sent_waits None is.0 ∙ ap (λ (c : Bool). waits_sent_to None c service.endpoint t (Sender t service.badge message) w) is.1

      unmatched : (b : Bool) → (first_receiver (w.queue service.endpoint) ≡ None) × (block ≡ b) → send_effect v t service message block (waiting_at v service.endpoint) ≡ send_to_first v t service message (w.queue service.endpoint) b None
      unmatched b is = send_is p memory store waiters f rows w kernel v view t service live message block None is.0 ∙ ap (λ (c : Bool). send_to_first v t service message (w.queue service.endpoint) c None) is.1

      module _ (to : ℕ) (answer : S.Delivered to ≡ sent block service.endpoint w) where
        first_is : first_receiver (w.queue service.endpoint) ≡ Some to
        first_is = receiver_was _ block to answer

        pub receiver_there : IsSome (get (rows_map (tcb_size p) rows) to)
        receiver_there = some_active _ (receiver_active p memory store waiters f rows w kernel service.endpoint to first_is)

        pub delivers_reply : Delivered service.endpoint t to service.badge message ≡ (send_effect v t service message block (waiting_at v service.endpoint)).reply
        delivers_reply = sym (ap (λ (e : Effect). e.reply) (send_is p memory store waiters f rows w kernel v view t service live message block (Some to) first_is))

        module _ (rows' : List (Option ThreadRow)) (mapped : rows_map (tcb_size p) rows' ≡ insert (rows_map (tcb_size p) rows) to (delivered_row service.badge message)) where
          pub delivers_kernel : length rows' ≡ length rows → IsKernel p memory store waiters' f rows' w'
          delivers_kernel long = moved rows' _ (sent_waits (Some to) first_is) (served_kernel p memory store waiters f rows w kernel rows' service.endpoint to to (delivered_row service.badge message) receiver_there refl mapped long)

          pub delivers_shown : kernel_shown p f rows' w' ≡ (send_effect v t service message block (waiting_at v service.endpoint)).after
          delivers_shown =
              ap (kernel_shown p f rows') (sent_waits (Some to) first_is)
              ∙ shows_delivered p memory store waiters f rows w kernel v view t service live rows' to service.badge message mapped
              ∙ sym (ap (λ (e : Effect). e.after) (send_is p memory store waiters f rows w kernel v view t service live message block (Some to) first_is))

      module _ (answer : S.Waiting ≡ sent block service.endpoint w) where
        nobody : (first_receiver (w.queue service.endpoint) ≡ None) × (block ≡ true)
        nobody = no_receiver_was _ block answer

        pub send_waits_reply : Waiting ≡ (send_effect v t service message block (waiting_at v service.endpoint)).reply
        send_waits_reply = sym (ap (λ (e : Effect). e.reply) (unmatched true nobody))

        pub send_waits_kernel : IsKernel p memory store waiters' f rows w'
        send_waits_kernel = moved rows _ (unmatched_waits true nobody) (queued_kernel p memory store waiters f rows w kernel service.endpoint t (R.Sending service.endpoint) (Sender t service.badge message) refl thread_active endpoint_live)

        pub send_waits_shown : kernel_shown p f rows w' ≡ (send_effect v t service message block (waiting_at v service.endpoint)).after
        send_waits_shown =
            ap (kernel_shown p f rows) (unmatched_waits true nobody)
            ∙ shows_waiting p memory store waiters f rows w kernel v view t service live ready (Sending service.endpoint) (R.Sending service.endpoint) (Sender t service.badge message) (λ b. refl)
            ∙ sym (ap (λ (e : Effect). e.after) (unmatched true nobody))

      module _ (answer : S.Dropped ≡ sent block service.endpoint w) where
        no_trace : (first_receiver (w.queue service.endpoint) ≡ None) × (block ≡ false)
        no_trace = dropped_was _ block answer

        pub send_dropped_reply : Dropped ≡ (send_effect v t service message block (waiting_at v service.endpoint)).reply
        send_dropped_reply = sym (ap (λ (e : Effect). e.reply) (unmatched false no_trace))

        pub send_dropped_kernel : IsKernel p memory store waiters' f rows w'
        send_dropped_kernel = moved rows _ (unmatched_waits false no_trace) kernel

        pub send_dropped_shown : kernel_shown p f rows w' ≡ (send_effect v t service message block (waiting_at v service.endpoint)).after
        send_dropped_shown = ap (kernel_shown p f rows) (unmatched_waits false no_trace) ∙ view ∙ sym (ap (λ (e : Effect). e.after) (unmatched false no_trace))

    -- a receive
    module _ (block : Bool) (after : w' ≡ after_receive block service.endpoint t w) where
      received_waits : (first : Option Offer) → first_sender (w.queue service.endpoint) ≡ first → w' ≡ waits_received_from first block service.endpoint t w
      received_waits first is = after ∙ ap (λ (o : Option Offer). waits_received_from o block service.endpoint t w) is

      -- nobody sends: the receiver waits, or nothing happens
      unoffered_waits : (b : Bool) → (first_sender (w.queue service.endpoint) ≡ None) × (block ≡ b) → w' ≡ waits_received_from None b service.endpoint t w
      unoffered_waits b is = received_waits None is.0 ∙ ap (λ (c : Bool). waits_received_from None c service.endpoint t w) is.1

      unoffered : (b : Bool) → (first_sender (w.queue service.endpoint) ≡ None) × (block ≡ b) → receive_effect v t service block (waiting_at v service.endpoint) ≡ receive_from_first v t service (w.queue service.endpoint) b None
      unoffered b is = receive_is p memory store waiters f rows w kernel v view t service live block None is.0 ∙ ap (λ (c : Bool). receive_from_first v t service (w.queue service.endpoint) c None) is.1

      module _ (from : ℕ) (badge : Badge) (message : Message) (answer : D.Delivered from badge message ≡ received block service.endpoint w) where
        offer : Offer
        offer = record { thread = from; badge = badge; message = message }

        offered : first_sender (w.queue service.endpoint) ≡ Some (record { thread = from; badge = badge; message = message })
        offered = sender_was _ block from badge message answer

        pub receives_reply : Delivered service.endpoint from t badge message ≡ (receive_effect v t service block (waiting_at v service.endpoint)).reply
        receives_reply = sym (ap (λ (e : Effect). e.reply) (receive_is p memory store waiters f rows w kernel v view t service live block (Some _) offered))

        module _ (rows' : List (Option ThreadRow)) (mapped : rows_map (tcb_size p) rows' ≡ insert (rows_map (tcb_size p) rows) t (delivered_row badge message)) where
          pub receives_kernel : length rows' ≡ length rows → IsKernel p memory store waiters' f rows' w'
          receives_kernel long = moved rows' _ (received_waits (Some _) offered) (served_kernel p memory store waiters f rows w kernel rows' service.endpoint from t (delivered_row badge message) thread_there refl mapped long)

          pub receives_shown : kernel_shown p f rows' w' ≡ (receive_effect v t service block (waiting_at v service.endpoint)).after
          receives_shown =
              ap (kernel_shown p f rows') (received_waits (Some _) offered)
              ∙ shows_received p memory store waiters f rows w kernel v view t service live ready rows' (record { thread = from; badge = badge; message = message }) (sender_active p memory store waiters f rows w kernel service.endpoint _ offered) mapped
              ∙ sym (ap (λ (e : Effect). e.after) (receive_is p memory store waiters f rows w kernel v view t service live block (Some _) offered))

      module _ (answer : D.Waiting ≡ received block service.endpoint w) where
        no_sender : (first_sender (w.queue service.endpoint) ≡ None) × (block ≡ true)
        no_sender = no_sender_was _ block answer

        pub receive_waits_reply : Waiting ≡ (receive_effect v t service block (waiting_at v service.endpoint)).reply
        receive_waits_reply = sym (ap (λ (e : Effect). e.reply) (unoffered true no_sender))

        pub receive_waits_kernel : IsKernel p memory store waiters' f rows w'
        receive_waits_kernel = moved rows _ (unoffered_waits true no_sender) (queued_kernel p memory store waiters f rows w kernel service.endpoint t (R.Receiving service.endpoint) (Receiver t) refl thread_active endpoint_live)

        pub receive_waits_shown : kernel_shown p f rows w' ≡ (receive_effect v t service block (waiting_at v service.endpoint)).after
        receive_waits_shown =
            ap (kernel_shown p f rows) (unoffered_waits true no_sender)
            ∙ shows_waiting p memory store waiters f rows w kernel v view t service live ready (Receiving service.endpoint) (R.Receiving service.endpoint) (Receiver t) (λ b. refl)
            ∙ sym (ap (λ (e : Effect). e.after) (unoffered true no_sender))

      module _ (answer : D.Empty ≡ received block service.endpoint w) where
        no_offer : (first_sender (w.queue service.endpoint) ≡ None) × (block ≡ false)
        no_offer = empty_was _ block answer

        pub receive_empty_reply : Empty ≡ (receive_effect v t service block (waiting_at v service.endpoint)).reply
        receive_empty_reply = sym (ap (λ (e : Effect). e.reply) (unoffered false no_offer))

        pub receive_empty_kernel : IsKernel p memory store waiters' f rows w'
        receive_empty_kernel = moved rows _ (unoffered_waits false no_offer) kernel

        pub receive_empty_shown : kernel_shown p f rows w' ≡ (receive_effect v t service block (waiting_at v service.endpoint)).after
        receive_empty_shown = ap (kernel_shown p f rows) (unoffered_waits false no_offer) ∙ view ∙ sym (ap (λ (e : Effect). e.after) (unoffered false no_offer))
