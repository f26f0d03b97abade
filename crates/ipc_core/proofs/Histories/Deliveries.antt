-- What requests deliver is what their pairs deliver, the pairs go on standing, and an emptied endpoint starts anew.
use Rattle.std.proofs.Common.{◌≡◌, ◌≢◌, ◌⊎◌, ℕ, Bool, true, false, cond, ◌||◌, ◌==◌, nat_lt, List, [], ◌∷◌, ◌++◌, map, length, drop, Option, None, Some, slice_get, inl, inr, refl, sym, ap, subst, ◌∙◌, append_assoc, eq-eqb}
use Rattle.std.proofs.lemmas.Bool.{lt-ltb}
use Rattle.std.proofs.lemmas.Bool.Decides.{eqb_tells}
use Rattle.std.proofs.lemmas.List.{map-append, append-nil}
use Rattle.std.proofs.lemmas.Option.{slice_get_within}
use Rattle.std.specs.List.{zip}
use Rattle.cap_core.specs.declared.message.Message.{Message}
use Rattle.cap_core.specs.declared.capability.Badge.{Badge}
use Rattle.ipc_core.specs.declared.waiter.Waiter.TheVariants.{Sender, Receiver}
use Rattle.ipc_core.specs.Records.{SendRecord, ReceiveRecord, paired, waiting_list}
use Rattle.ipc_core.specs.Waits.{Waits, Offer, changed, first_receiver, first_sender, sent, after_send, waits_sent_to, received, after_receive, waits_received_from, no_waits}
use Rattle.ipc_core.specs.Pairing.{sends_with, receives_with, answer_to_send, answer_to_receive}
use Rattle.ipc_core.specs.Cancelled.{others, is_sender_with, after_cancel_thread, after_cancel_badge, after_cancel_endpoint, waiting_less, is_sent_by, is_received_by, is_sent_with}
use Rattle.ipc_core.specs.Deliveries.{Request, Sends, Receives, CancelsThread, CancelsBadge, CancelsEndpoint, delivery_of_pair, delivered_by, delivered_to, delivered_on, after_request, deliveries, History, no_history, history_less, grown, standing}
use Rattle.ipc_core.proofs.Histories.Pairs.{send_by_histories, receive_by_histories, or_true, no_place, not_below}
use Rattle.ipc_core.proofs.Histories.Cancelling.{pairs_stay, thread_by_histories, badge_by_histories, endpoint_by_histories}

-- one more on either side makes a pair where the other side has one at its place
pair_more : {X Y : Type 0} (xs : List X) (ys : List Y) (x : X) (y : Y) → slice_get ys (length xs) ≡ Some y → zip (xs ++ x ∷ []) ys ≡ zip xs ys ++ (x, y) ∷ []
pair_more [] [] x y is = cc
pair_more [] (b ∷ ys) x y is = let e : b ≡ y = cc in ap (λ v. (x, v) ∷ []) e
pair_more (a ∷ xs) [] x y is = cc
pair_more (a ∷ xs) (b ∷ ys) x y is = ap (λ rest. (a, b) ∷ rest) (pair_more xs ys x y is)

pair_none : {X Y : Type 0} (xs : List X) (ys : List Y) (x : X) → slice_get ys (length xs) ≡ None → zip (xs ++ x ∷ []) ys ≡ zip xs ys
pair_none [] [] x is = refl
pair_none [] (b ∷ ys) x is = cc
pair_none (a ∷ xs) [] x is = refl
pair_none (a ∷ xs) (b ∷ ys) x is = ap (λ rest. (a, b) ∷ rest) (pair_none xs ys x is)

paired_more : {X Y : Type 0} (xs : List X) (ys : List Y) (x : X) (y : Y) → slice_get xs (length ys) ≡ Some x → zip xs (ys ++ y ∷ []) ≡ zip xs ys ++ (x, y) ∷ []
paired_more [] [] x y is = cc
paired_more [] (b ∷ ys) x y is = cc
paired_more (a ∷ []) [] x y is = let e : a ≡ x = cc in ap (λ v. (v, y) ∷ []) e
paired_more (a ∷ b ∷ xs) [] x y is = let e : a ≡ x = cc in ap (λ v. (v, y) ∷ []) e
paired_more (a ∷ xs) (b ∷ ys) x y is = ap (λ rest. (a, b) ∷ rest) (paired_more xs ys x y is)

paired_none : {X Y : Type 0} (xs : List X) (ys : List Y) (y : Y) → slice_get xs (length ys) ≡ None → zip xs (ys ++ y ∷ []) ≡ zip xs ys
paired_none [] ys y is = refl
paired_none (a ∷ xs) [] y is = cc
paired_none (a ∷ xs) (b ∷ ys) y is = ap (λ rest. (a, b) ∷ rest) (paired_none xs ys y is)

-- a send adds what it delivers
send_adds : (block : Bool) (s : SendRecord) (sends : List SendRecord) (receives : List ReceiveRecord) →
    map delivery_of_pair (paired sends receives) ++ delivered_by s (answer_to_send block (slice_get receives (length sends))) ≡ map delivery_of_pair (paired (sends_with block s sends receives) receives)
send_adds block s sends receives =
    elim (slice_get receives (length sends)) as (λ o. slice_get receives (length sends) ≡ o → map delivery_of_pair (paired sends receives) ++ delivered_by s (answer_to_send block o) ≡ map delivery_of_pair (paired (sends_with block s sends receives) receives)) [
      | None ↦ none block
      | Some a ↦ λ is.
          let accepted : (block || nat_lt (length sends) (length receives)) ≡ true = ap (λ b. block || b) (lt-ltb _ _ (slice_get_within receives (length sends) a is)) ∙ or_true block in
          sym (ap (λ b. map delivery_of_pair (paired (cond b (sends ++ s ∷ []) sends) receives)) accepted
          ∙ ap (map delivery_of_pair) (pair_more sends receives s a is)
          ∙ map-append delivery_of_pair (paired sends receives) ((s, a) ∷ []))
    ] refl
  where
    none : (block : Bool) → slice_get receives (length sends) ≡ None → map delivery_of_pair (paired sends receives) ++ delivered_by s (answer_to_send block None) ≡ map delivery_of_pair (paired (sends_with block s sends receives) receives)
    none true is = append-nil (map delivery_of_pair (paired sends receives)) ∙ sym (ap (map delivery_of_pair) (pair_none sends receives s is))
    none false is =
        append-nil (map delivery_of_pair (paired sends receives))
        ∙ sym (ap (λ b. map delivery_of_pair (paired (cond b (sends ++ s ∷ []) sends) receives)) (not_below _ _ (no_place receives (length sends) is)))

-- a receive likewise
receive_adds : (block : Bool) (a : ReceiveRecord) (sends : List SendRecord) (receives : List ReceiveRecord) →
    map delivery_of_pair (paired sends receives) ++ delivered_to a (answer_to_receive block (slice_get sends (length receives))) ≡ map delivery_of_pair (paired sends (receives_with block a sends receives))
receive_adds block a sends receives =
    elim (slice_get sends (length receives)) as (λ o. slice_get sends (length receives) ≡ o → map delivery_of_pair (paired sends receives) ++ delivered_to a (answer_to_receive block o) ≡ map delivery_of_pair (paired sends (receives_with block a sends receives))) [
      | None ↦ none block
      | Some s ↦ λ is.
          let accepted : (block || nat_lt (length receives) (length sends)) ≡ true = ap (λ b. block || b) (lt-ltb _ _ (slice_get_within sends (length receives) s is)) ∙ or_true block in
          sym (ap (λ b. map delivery_of_pair (paired sends (cond b (receives ++ a ∷ []) receives))) accepted
          ∙ ap (map delivery_of_pair) (paired_more sends receives s a is)
          ∙ map-append delivery_of_pair (paired sends receives) ((s, a) ∷ []))
    ] refl
  where
    none : (block : Bool) → slice_get sends (length receives) ≡ None → map delivery_of_pair (paired sends receives) ++ delivered_to a (answer_to_receive block None) ≡ map delivery_of_pair (paired sends (receives_with block a sends receives))
    none true is = append-nil (map delivery_of_pair (paired sends receives)) ∙ sym (ap (map delivery_of_pair) (paired_none sends receives a is))
    none false is =
        append-nil (map delivery_of_pair (paired sends receives))
        ∙ sym (ap (λ b. map delivery_of_pair (paired sends (cond b (receives ++ a ∷ []) receives))) (not_below _ _ (no_place sends (length receives) is)))

-- a request changes an endpoint's history as it changes its queue, and delivers the pair that it makes
record Follows (e : ℕ) (w : Waits) (h : History) (r : Request) : Type 0 where
  queue : (after_request w r).queue e ≡ waiting_list (grown e h r).sends (grown e h r).receives
  delivers : map delivery_of_pair (paired h.sends h.receives) ++ delivered_on e w r ≡ map delivery_of_pair (paired (grown e h r).sends (grown e h r).receives)

abbrev Shows : ℕ → Waits → History → Type 0
Shows e w h = w.queue e ≡ waiting_list h.sends h.receives

elsewhere : {X : Type 0} (f : ℕ → X) (k : ℕ) (x : X) (q : ℕ) → (k == q) ≡ false → changed f k x q ≡ f q
elsewhere f k x q away = ap (λ b. cond b x (f q)) (turned (eqb_tells q k))
  where
    turned : (((q == k) ≡ true) × (q ≡ k)) ⊎ (((q == k) ≡ false) × (q ≢ k)) → (q == k) ≡ false
    turned (inl w) = cc (sym (eq-eqb k q (sym w.1)) ∙ away)
    turned (inr w) = w.0

send_elsewhere : (block : Bool) (x thread : ℕ) (badge : Badge) (message : Message) (w : Waits) (q : ℕ) → (x == q) ≡ false → (after_send block x thread badge message w).queue q ≡ w.queue q
send_elsewhere block x thread badge message w q away = by_first (first_receiver (w.queue x)) block
  where
    by_first : (o : Option ℕ) (block : Bool) → (waits_sent_to o block x thread (Sender thread badge message) w).queue q ≡ w.queue q
    by_first (Some to) block = elsewhere w.queue x (drop 1 (w.queue x)) q away
    by_first None true = elsewhere w.queue x (w.queue x ++ Sender thread badge message ∷ []) q away
    by_first None false = refl

receive_elsewhere : (block : Bool) (x thread : ℕ) (w : Waits) (q : ℕ) → (x == q) ≡ false → (after_receive block x thread w).queue q ≡ w.queue q
receive_elsewhere block x thread w q away = by_first (first_sender (w.queue x)) block
  where
    by_first : (o : Option Offer) (block : Bool) → (waits_received_from o block x thread w).queue q ≡ w.queue q
    by_first (Some offer) block = elsewhere w.queue x (drop 1 (w.queue x)) q away
    by_first None true = elsewhere w.queue x (w.queue x ++ Receiver thread ∷ []) q away
    by_first None false = refl

-- whether a request on an endpoint is on this one
on_endpoint : (x : ℕ) (P : ℕ → Type 0) → ((x == x) ≡ true → P x) → ((q : ℕ) → (x == q) ≡ false → P q) → (e : ℕ) → P e
on_endpoint x P here away e = elim (eqb_tells x e) [ inl v ↦ subst P v.1 (here (eq-eqb x x refl)) | inr v ↦ away e v.0 ]

sends_follow : (block : Bool) (s : SendRecord) (e : ℕ) (w : Waits) (h : History) → Shows e w h → Follows e w h (Sends block s)
sends_follow block s e w h = on_endpoint s.endpoint.base (λ q. Shows q w h → Follows q w h (Sends block s)) here away e
  where
    g : History
    g = record { sends = sends_with block s h.sends h.receives; receives = h.receives }

    here : (s.endpoint.base == s.endpoint.base) ≡ true → Shows s.endpoint.base w h → Follows s.endpoint.base w h (Sends block s)
    here is queue =
        let after = after_send block s.endpoint.base s.thread.base s.badge s.message w in
        let answer = sent block s.endpoint.base w in
        let by = send_by_histories block s.endpoint.base s.thread.base s.badge s.message w after answer refl refl s h.sends h.receives refl refl refl queue in
        record {
          queue = by.after_is ∙ sym (ap (λ b. waiting_list (cond b g h).sends (cond b g h).receives) is);
          delivers =
              ap (λ b. map delivery_of_pair (paired h.sends h.receives) ++ cond b (delivered_by s answer) []) is
              ∙ ap (λ a. map delivery_of_pair (paired h.sends h.receives) ++ delivered_by s a) by.answer_is
              ∙ send_adds block s h.sends h.receives
              ∙ sym (ap (λ b. map delivery_of_pair (paired (cond b g h).sends (cond b g h).receives)) is);
        }

    away : (q : ℕ) → (s.endpoint.base == q) ≡ false → Shows q w h → Follows q w h (Sends block s)
    away q is queue =
        record {
          queue = send_elsewhere block s.endpoint.base s.thread.base s.badge s.message w q is ∙ queue ∙ sym (ap (λ b. waiting_list (cond b g h).sends (cond b g h).receives) is);
          delivers =
              ap (λ b. map delivery_of_pair (paired h.sends h.receives) ++ cond b (delivered_by s (sent block s.endpoint.base w)) []) is
              ∙ append-nil (map delivery_of_pair (paired h.sends h.receives))
              ∙ sym (ap (λ b. map delivery_of_pair (paired (cond b g h).sends (cond b g h).receives)) is);
        }

receives_follow : (block : Bool) (a : ReceiveRecord) (e : ℕ) (w : Waits) (h : History) → Shows e w h → Follows e w h (Receives block a)
receives_follow block a e w h = on_endpoint a.endpoint.base (λ q. Shows q w h → Follows q w h (Receives block a)) here away e
  where
    g : History
    g = record { sends = h.sends; receives = receives_with block a h.sends h.receives }

    here : (a.endpoint.base == a.endpoint.base) ≡ true → Shows a.endpoint.base w h → Follows a.endpoint.base w h (Receives block a)
    here is queue =
        let after = after_receive block a.endpoint.base a.thread.base w in
        let answer = received block a.endpoint.base w in
        let by = receive_by_histories block a.endpoint.base a.thread.base w after answer refl refl a h.sends h.receives refl queue in
        record {
          queue = by.after_is ∙ sym (ap (λ b. waiting_list (cond b g h).sends (cond b g h).receives) is);
          delivers =
              ap (λ b. map delivery_of_pair (paired h.sends h.receives) ++ cond b (delivered_to a answer) []) is
              ∙ ap (λ k. map delivery_of_pair (paired h.sends h.receives) ++ delivered_to a k) by.answer_is
              ∙ receive_adds block a h.sends h.receives
              ∙ sym (ap (λ b. map delivery_of_pair (paired (cond b g h).sends (cond b g h).receives)) is);
        }

    away : (q : ℕ) → (a.endpoint.base == q) ≡ false → Shows q w h → Follows q w h (Receives block a)
    away q is queue =
        record {
          queue = receive_elsewhere block a.endpoint.base a.thread.base w q is ∙ queue ∙ sym (ap (λ b. waiting_list (cond b g h).sends (cond b g h).receives) is);
          delivers =
              ap (λ b. map delivery_of_pair (paired h.sends h.receives) ++ cond b (delivered_to a (received block a.endpoint.base w)) []) is
              ∙ append-nil (map delivery_of_pair (paired h.sends h.receives))
              ∙ sym (ap (λ b. map delivery_of_pair (paired (cond b g h).sends (cond b g h).receives)) is);
        }

-- a cancellation delivers nothing, and leaves the pairs
no_delivery : (of_sends : SendRecord → Bool) (of_receives : ReceiveRecord → Bool) (h : History) →
    map delivery_of_pair (paired h.sends h.receives) ++ [] ≡ map delivery_of_pair (paired (history_less of_sends of_receives h).sends (history_less of_sends of_receives h).receives)
no_delivery of_sends of_receives h = append-nil (map delivery_of_pair (paired h.sends h.receives)) ∙ sym (ap (map delivery_of_pair) (pairs_stay of_sends of_receives h.sends h.receives))

cancels_follow : (x e : ℕ) (w after : Waits) (of_sends : SendRecord → Bool) (of_receives : ReceiveRecord → Bool) (h : History) → Shows e w h →
    (Shows x w h → after.queue x ≡ waiting_less of_sends of_receives h.sends h.receives) → ((q : ℕ) → (x == q) ≡ false → after.queue q ≡ w.queue q) →
    (after.queue e ≡ waiting_list (cond (x == e) (history_less of_sends of_receives h) h).sends (cond (x == e) (history_less of_sends of_receives h) h).receives)
    × (map delivery_of_pair (paired h.sends h.receives) ++ [] ≡ map delivery_of_pair (paired (cond (x == e) (history_less of_sends of_receives h) h).sends (cond (x == e) (history_less of_sends of_receives h) h).receives))
cancels_follow x e w after of_sends of_receives h queue here away = elim (eqb_tells x e) [
  | inl v ↦ (
    ap after.queue (sym v.1) ∙ here (ap w.queue v.1 ∙ queue) ∙ sym (ap (λ b. waiting_list (cond b (history_less of_sends of_receives h) h).sends (cond b (history_less of_sends of_receives h) h).receives) v.0),
    no_delivery of_sends of_receives h ∙ sym (ap (λ b. map delivery_of_pair (paired (cond b (history_less of_sends of_receives h) h).sends (cond b (history_less of_sends of_receives h) h).receives)) v.0),
  )
  | inr v ↦ (
    away e v.0 ∙ queue ∙ sym (ap (λ b. waiting_list (cond b (history_less of_sends of_receives h) h).sends (cond b (history_less of_sends of_receives h) h).receives) v.0),
    append-nil (map delivery_of_pair (paired h.sends h.receives)) ∙ sym (ap (λ b. map delivery_of_pair (paired (cond b (history_less of_sends of_receives h) h).sends (cond b (history_less of_sends of_receives h) h).receives)) v.0),
  )
]

follows : (e : ℕ) (w : Waits) (h : History) (r : Request) → Shows e w h → Follows e w h r
follows e w h (Sends block s) queue = sends_follow block s e w h queue
follows e w h (Receives block a) queue = receives_follow block a e w h queue
follows e w h (CancelsThread thread) queue =
    record {
      queue = thread_by_histories thread w (after_cancel_thread thread w) refl e h.sends h.receives queue;
      delivers = no_delivery (is_sent_by thread) (is_received_by thread) h;
    }
follows e w h (CancelsBadge x badge) queue =
    let both = cancels_follow x e w (after_cancel_badge x badge w) (is_sent_with badge) (λ _. false) h queue
    (λ shows. badge_by_histories x badge w (after_cancel_badge x badge w) refl h.sends h.receives shows)
    (λ q away. elsewhere w.queue x (others (is_sender_with badge) (w.queue x)) q away) in
    record { queue = both.0; delivers = both.1 }
follows e w h (CancelsEndpoint x) queue =
    let both = cancels_follow x e w (after_cancel_endpoint x w) (λ _. true) (λ _. true) h queue
    (λ shows. endpoint_by_histories x w (after_cancel_endpoint x w) refl h.sends h.receives shows)
    (λ q away. elsewhere w.queue x [] q away) in
    record { queue = both.0; delivers = both.1 }

from_history : (e : ℕ) (w : Waits) (h : History) (requests : List Request) → Shows e w h →
    map delivery_of_pair (paired h.sends h.receives) ++ deliveries e w requests ≡ map delivery_of_pair (paired (standing e h requests).sends (standing e h requests).receives)
from_history e w h [] queue = append-nil (map delivery_of_pair (paired h.sends h.receives))
from_history e w h (r ∷ requests) queue =
    let f = follows e w h r queue in
    sym (append_assoc (map delivery_of_pair (paired h.sends h.receives)) (delivered_on e w r) (deliveries e (after_request w r) requests))
    ∙ ap (λ list. list ++ deliveries e (after_request w r) requests) f.delivers
    ∙ from_history e (after_request w r) (grown e h r) requests f.queue

pub pairs_are_delivered : (e : ℕ) (requests : List Request) →
    deliveries e no_waits requests ≡ map delivery_of_pair (paired (standing e no_history requests).sends (standing e no_history requests).receives)
pairs_are_delivered e requests = from_history e no_waits no_history requests refl

-- the pairs that stand go on standing
abbrev Grows : History → History → Type 0
Grows h k = (more : List (SendRecord × ReceiveRecord)) × (paired k.sends k.receives ≡ paired h.sends h.receives ++ more)

same_pairs : (h k : History) → paired k.sends k.receives ≡ paired h.sends h.receives → Grows h k
same_pairs h k same = ([], same ∙ sym (append-nil (paired h.sends h.receives)))

grows_by : (b : Bool) (h k : History) → Grows h k → Grows h (cond b k h)
grows_by true h k grows = grows
grows_by false h k grows = same_pairs h h refl

send_grows : (block : Bool) (s : SendRecord) (h : History) → Grows h (record { sends = sends_with block s h.sends h.receives; receives = h.receives })
send_grows block s h = accepted (block || nat_lt (length h.sends) (length h.receives))
  where
    met : (o : Option ReceiveRecord) → slice_get h.receives (length h.sends) ≡ o → Grows h (record { sends = h.sends ++ s ∷ []; receives = h.receives })
    met None is = same_pairs h (record { sends = h.sends ++ s ∷ []; receives = h.receives }) (pair_none h.sends h.receives s is)
    met (Some a) is = ((s, a) ∷ [], pair_more h.sends h.receives s a is)

    accepted : (b : Bool) → Grows h (record { sends = cond b (h.sends ++ s ∷ []) h.sends; receives = h.receives })
    accepted true = met (slice_get h.receives (length h.sends)) refl
    accepted false = same_pairs h h refl

receive_grows : (block : Bool) (a : ReceiveRecord) (h : History) → Grows h (record { sends = h.sends; receives = receives_with block a h.sends h.receives })
receive_grows block a h = accepted (block || nat_lt (length h.receives) (length h.sends))
  where
    met : (o : Option SendRecord) → slice_get h.sends (length h.receives) ≡ o → Grows h (record { sends = h.sends; receives = h.receives ++ a ∷ [] })
    met None is = same_pairs h (record { sends = h.sends; receives = h.receives ++ a ∷ [] }) (paired_none h.sends h.receives a is)
    met (Some s) is = ((s, a) ∷ [], paired_more h.sends h.receives s a is)

    accepted : (b : Bool) → Grows h (record { sends = h.sends; receives = cond b (h.receives ++ a ∷ []) h.receives })
    accepted true = met (slice_get h.sends (length h.receives)) refl
    accepted false = same_pairs h h refl

less_grows : (of_sends : SendRecord → Bool) (of_receives : ReceiveRecord → Bool) (h : History) → Grows h (history_less of_sends of_receives h)
less_grows of_sends of_receives h = same_pairs h (history_less of_sends of_receives h) (pairs_stay of_sends of_receives h.sends h.receives)

request_grows : (e : ℕ) (h : History) (r : Request) → Grows h (grown e h r)
request_grows e h (Sends block s) = grows_by (s.endpoint.base == e) h (record { sends = sends_with block s h.sends h.receives; receives = h.receives }) (send_grows block s h)
request_grows e h (Receives block a) = grows_by (a.endpoint.base == e) h (record { sends = h.sends; receives = receives_with block a h.sends h.receives }) (receive_grows block a h)
request_grows e h (CancelsThread thread) = less_grows (is_sent_by thread) (is_received_by thread) h
request_grows e h (CancelsBadge x badge) = grows_by (x == e) h (history_less (is_sent_with badge) (λ _. false) h) (less_grows (is_sent_with badge) (λ _. false) h)
request_grows e h (CancelsEndpoint x) = grows_by (x == e) h (history_less (λ _. true) (λ _. true) h) (less_grows (λ _. true) (λ _. true) h)

standing_grows : (e : ℕ) (h : History) (requests : List Request) → Grows h (standing e h requests)
standing_grows e h [] = same_pairs h h refl
standing_grows e h (r ∷ requests) =
    let one = request_grows e h r in
    let rest = standing_grows e (grown e h r) requests in
    (one.0 ++ rest.0, rest.1 ∙ ap (λ list. list ++ rest.0) one.1 ∙ append_assoc (paired h.sends h.receives) one.0 rest.0)

standing-append : (e : ℕ) (h : History) (requests later : List Request) → standing e h (requests ++ later) ≡ standing e (standing e h requests) later
standing-append e h [] later = refl
standing-append e h (r ∷ requests) later = standing-append e (grown e h r) requests later

pub pairs_go_on : (e : ℕ) (requests later : List Request) → Grows (standing e no_history requests) (standing e no_history (requests ++ later))
pairs_go_on e requests later =
    subst (Grows (standing e no_history requests)) (sym (standing-append e no_history requests later)) (standing_grows e (standing e no_history requests) later)

-- what is called after others
after_all : Waits → List Request → Waits
after_all w [] = w
after_all w (r ∷ requests) = after_all (after_request w r) requests

deliveries-append : (e : ℕ) (w : Waits) (requests later : List Request) → deliveries e w (requests ++ later) ≡ deliveries e w requests ++ deliveries e (after_all w requests) later
unfolding after_all
deliveries-append e w [] later = refl
deliveries-append e w (r ∷ requests) later =
    ap (λ list. delivered_on e w r ++ list) (deliveries-append e (after_request w r) requests later)
    ∙ sym (append_assoc (delivered_on e w r) (deliveries e (after_request w r) requests) (deliveries e (after_all (after_request w r) requests) later))

pub starts_anew : (e : ℕ) (requests later : List Request) → deliveries e no_waits (requests ++ CancelsEndpoint e ∷ later) ≡ deliveries e no_waits requests ++ deliveries e no_waits later
starts_anew e requests later =
    let w = after_all no_waits requests in
    deliveries-append e no_waits requests (CancelsEndpoint e ∷ later)
    ∙ ap (λ list. deliveries e no_waits requests ++ list)
    (from_history e (after_cancel_endpoint e w) no_history later (ap (λ b. cond b [] (w.queue e)) (eq-eqb e e refl))
    ∙ sym (pairs_are_delivered e later))
