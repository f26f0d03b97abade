-- Histories, paired by place, say who waits first and who waits after a send or a receive.
use Rattle.std.proofs.Common.{◌≡◌, ℕ, ◌<◌, ◌≤◌, Bool, true, false, cond, ◌||◌, nat_lt, List, [], ◌∷◌, ◌++◌, map, length, drop, None, Some, slice_get, option_map, suc, zero, inl, inr, refl, sym, ap, ◌∙◌, arith, eq-eqb}
use Rattle.std.proofs.lemmas.Bool.{lt-ltb}
use Rattle.std.proofs.lemmas.Bool.Decides.{leb_tells}
use Rattle.std.proofs.lemmas.List.{map-append, append-nil}
use Rattle.std.proofs.lemmas.Option.{slice_get_within}
use Rattle.std.proofs.Math.ListN.{drop_of_length-le}
use Rattle.cap_core.specs.declared.message.Message.{Message}
use Rattle.cap_core.specs.declared.capability.Badge.{Badge}
use Rattle.ipc_core.specs.declared.waiter.Waiter.{Waiter}
use Rattle.ipc_core.specs.declared.waiter.Waiter.TheVariants.{Sender, Receiver}
use Rattle.ipc_core.specs.declared.waiter.Sent.{Sent}
use Rattle.ipc_core.specs.declared.waiter.Received.{Received}
use Rattle.ipc_core.specs.Records.{SendRecord, ReceiveRecord, sender, receiver, waiting_list}
use Rattle.ipc_core.specs.Waits.{Waits, sent, after_send, received, after_receive, first_receiver, first_sender, sent_to, received_from, waits_sent_to, waits_received_from, changed}
use Rattle.ipc_core.specs.declared.waiter.Offer.{Offer}
use Rattle.ipc_core.specs.Pairing.{SendsBy, ReceivesBy, answer_to_send, answer_to_receive}

abbrev offer : SendRecord → Offer
offer s = record { thread = s.thread.base; badge = s.badge; message = s.message }

-- who waits first is the one at the place of the next send, or of the next receive
next_receiver : (sends : List SendRecord) (receives : List ReceiveRecord) → first_receiver (waiting_list sends receives) ≡ option_map (λ (a : ReceiveRecord). a.thread.base) (slice_get receives (length sends))
next_receiver [] [] = refl
next_receiver [] (a ∷ receives) = refl
next_receiver (s ∷ sends) [] = refl
next_receiver (s ∷ sends) (a ∷ receives) = next_receiver sends receives

next_sender : (sends : List SendRecord) (receives : List ReceiveRecord) → first_sender (waiting_list sends receives) ≡ option_map offer (slice_get sends (length receives))
next_sender [] [] = refl
next_sender [] (a ∷ receives) = refl
next_sender (s ∷ sends) [] = refl
next_sender (s ∷ sends) (a ∷ receives) = next_sender sends receives

-- a send that meets a receive, and one that meets none
send_served : (s : SendRecord) (sends : List SendRecord) (receives : List ReceiveRecord) → length sends < length receives → waiting_list (sends ++ s ∷ []) receives ≡ drop 1 (waiting_list sends receives)
send_served s [] [] lt = absurd (omega arith)
send_served s [] (a ∷ receives) lt = ap (λ rest. map sender rest ++ map receiver receives) (drop_of_length-le {A = SendRecord} [] {i = length receives} (omega arith))
send_served s (x ∷ sends) [] lt = absurd (omega arith)
send_served s (x ∷ sends) (a ∷ receives) lt = send_served s sends receives (omega arith)

send_queued : (s : SendRecord) (sends : List SendRecord) (receives : List ReceiveRecord) → length receives ≤ length sends → waiting_list (sends ++ s ∷ []) receives ≡ waiting_list sends receives ++ sender s ∷ []
send_queued s [] [] le = refl
send_queued s [] (a ∷ receives) le = absurd (omega arith)
send_queued s (x ∷ sends) [] le =
    append-nil (map sender (x ∷ sends ++ s ∷ [])) ∙ map-append sender (x ∷ sends) (s ∷ []) ∙ ap (λ list. list ++ sender s ∷ []) (sym (append-nil (map sender (x ∷ sends))))
send_queued s (x ∷ sends) (a ∷ receives) le = send_queued s sends receives (omega arith)

-- a receive that meets a send, and one that meets none
receive_served : (a : ReceiveRecord) (sends : List SendRecord) (receives : List ReceiveRecord) → length receives < length sends → waiting_list sends (receives ++ a ∷ []) ≡ drop 1 (waiting_list sends receives)
receive_served a [] [] lt = absurd (omega arith)
receive_served a [] (x ∷ receives) lt = absurd (omega arith)
receive_served a (s ∷ sends) [] lt = ap (λ rest. map sender sends ++ map receiver rest) (drop_of_length-le {A = ReceiveRecord} [] {i = length sends} (omega arith))
receive_served a (s ∷ sends) (x ∷ receives) lt = receive_served a sends receives (omega arith)

receive_queued : (a : ReceiveRecord) (sends : List SendRecord) (receives : List ReceiveRecord) → length sends ≤ length receives → waiting_list sends (receives ++ a ∷ []) ≡ waiting_list sends receives ++ receiver a ∷ []
receive_queued a [] [] le = refl
receive_queued a [] (x ∷ receives) le = map-append receiver (x ∷ receives) (a ∷ [])
receive_queued a (s ∷ sends) [] le = absurd (omega arith)
receive_queued a (s ∷ sends) (x ∷ receives) le = receive_queued a sends receives (omega arith)

pub or_true : (b : Bool) → (b || true) ≡ true
or_true true = refl
or_true false = refl

pub no_place : {X : Type 0} (xs : List X) (i : ℕ) → slice_get xs i ≡ None → length xs ≤ i
no_place [] i none = omega arith
no_place (x ∷ xs) zero none = cc
no_place (x ∷ xs) (suc i) none = omega (arith, no_place xs i none)

pub not_below : (m n : ℕ) → n ≤ m → nat_lt m n ≡ false
not_below m n le = elim (leb_tells (suc m) n) [ inl w ↦ absurd (omega (arith, w.1)) | inr w ↦ w.0 ]

at_itself : (e : ℕ) (list : List Waiter) (rest : ℕ → List Waiter) → changed rest e list e ≡ list
at_itself e list rest = ap (λ b. cond b list (rest e)) (eq-eqb e e refl)

-- a send, where a receive has its place
send_meets : (block : Bool) (e thread : ℕ) (badge : Badge) (message : Message) (w : Waits) (s : SendRecord) (sends : List SendRecord) (receives : List ReceiveRecord) (a : ReceiveRecord) →
    w.queue e ≡ waiting_list sends receives → slice_get receives (length sends) ≡ Some a →
    SendsBy block s sends receives (sent block e w) ((after_send block e thread badge message w).queue e)
send_meets block e thread badge message w s sends receives a queue is =
    let first : first_receiver (w.queue e) ≡ Some a.thread.base =
    ap first_receiver queue ∙ next_receiver sends receives ∙ ap (option_map (λ (a : ReceiveRecord). a.thread.base)) is in
    let lt : length sends < length receives = slice_get_within receives (length sends) a is in
    let accepted : (block || nat_lt (length sends) (length receives)) ≡ true = ap (λ b. block || b) (lt-ltb _ _ lt) ∙ or_true block in
    record {
      answer_is = ap (λ o. sent_to o block) first ∙ sym (ap (answer_to_send block) is);
      after_is =
          ap (λ o. (waits_sent_to o block e thread (Sender thread badge message) w).queue e) first
          ∙ at_itself e (drop 1 (w.queue e)) w.queue
          ∙ ap (λ (list : List Waiter). drop 1 list) queue
          ∙ sym (send_served s sends receives lt)
          ∙ sym (ap (λ b. waiting_list (cond b (sends ++ s ∷ []) sends) receives) accepted);
    }

-- and where none has
send_waits : (block : Bool) (e thread : ℕ) (badge : Badge) (message : Message) (w : Waits) (s : SendRecord) (sends : List SendRecord) (receives : List ReceiveRecord) →
    Sender thread badge message ≡ sender s → w.queue e ≡ waiting_list sends receives → slice_get receives (length sends) ≡ None →
    SendsBy block s sends receives (sent block e w) ((after_send block e thread badge message w).queue e)
send_waits true e thread badge message w s sends receives same queue is =
    let first : first_receiver (w.queue e) ≡ None =
    ap first_receiver queue ∙ next_receiver sends receives ∙ ap (option_map (λ (a : ReceiveRecord). a.thread.base)) is in
    record {
      answer_is = ap (λ o. sent_to o true) first ∙ sym (ap (answer_to_send true) is);
      after_is =
          ap (λ o. (waits_sent_to o true e thread (Sender thread badge message) w).queue e) first
          ∙ at_itself e (w.queue e ++ Sender thread badge message ∷ []) w.queue
          ∙ ap (λ (list : List Waiter). list ++ Sender thread badge message ∷ []) queue
          ∙ ap (λ (v : Waiter). waiting_list sends receives ++ v ∷ []) same
          ∙ sym (send_queued s sends receives (no_place receives (length sends) is));
    }
send_waits false e thread badge message w s sends receives same queue is =
    let first : first_receiver (w.queue e) ≡ None =
    ap first_receiver queue ∙ next_receiver sends receives ∙ ap (option_map (λ (a : ReceiveRecord). a.thread.base)) is in
    record {
      answer_is = ap (λ o. sent_to o false) first ∙ sym (ap (answer_to_send false) is);
      after_is =
          ap (λ o. (waits_sent_to o false e thread (Sender thread badge message) w).queue e) first
          ∙ queue
          ∙ sym (ap (λ b. waiting_list (cond b (sends ++ s ∷ []) sends) receives) (not_below _ _ (no_place receives (length sends) is)));
    }

-- a receive, where a send has its place
receive_meets : (block : Bool) (e thread : ℕ) (w : Waits) (a : ReceiveRecord) (sends : List SendRecord) (receives : List ReceiveRecord) (s : SendRecord) →
    w.queue e ≡ waiting_list sends receives → slice_get sends (length receives) ≡ Some s →
    ReceivesBy block a sends receives (received block e w) ((after_receive block e thread w).queue e)
receive_meets block e thread w a sends receives s queue is =
    let first : first_sender (w.queue e) ≡ Some (offer s) = ap first_sender queue ∙ next_sender sends receives ∙ ap (option_map offer) is in
    let lt : length receives < length sends = slice_get_within sends (length receives) s is in
    let accepted : (block || nat_lt (length receives) (length sends)) ≡ true = ap (λ b. block || b) (lt-ltb _ _ lt) ∙ or_true block in
    record {
      answer_is = ap (λ o. received_from o block) first ∙ sym (ap (answer_to_receive block) is);
      after_is =
          ap (λ o. (waits_received_from o block e thread w).queue e) first
          ∙ at_itself e (drop 1 (w.queue e)) w.queue
          ∙ ap (λ (list : List Waiter). drop 1 list) queue
          ∙ sym (receive_served a sends receives lt)
          ∙ sym (ap (λ b. waiting_list sends (cond b (receives ++ a ∷ []) receives)) accepted);
    }

-- and where none has
receive_waits : (block : Bool) (e thread : ℕ) (w : Waits) (a : ReceiveRecord) (sends : List SendRecord) (receives : List ReceiveRecord) →
    Receiver thread ≡ receiver a → w.queue e ≡ waiting_list sends receives → slice_get sends (length receives) ≡ None →
    ReceivesBy block a sends receives (received block e w) ((after_receive block e thread w).queue e)
receive_waits true e thread w a sends receives same queue is =
    let first : first_sender (w.queue e) ≡ None = ap first_sender queue ∙ next_sender sends receives ∙ ap (option_map offer) is in
    record {
      answer_is = ap (λ o. received_from o true) first ∙ sym (ap (answer_to_receive true) is);
      after_is =
          ap (λ o. (waits_received_from o true e thread w).queue e) first
          ∙ at_itself e (w.queue e ++ Receiver thread ∷ []) w.queue
          ∙ ap (λ (list : List Waiter). list ++ Receiver thread ∷ []) queue
          ∙ ap (λ (v : Waiter). waiting_list sends receives ++ v ∷ []) same
          ∙ sym (receive_queued a sends receives (no_place sends (length receives) is));
    }
receive_waits false e thread w a sends receives same queue is =
    let first : first_sender (w.queue e) ≡ None = ap first_sender queue ∙ next_sender sends receives ∙ ap (option_map offer) is in
    record {
      answer_is = ap (λ o. received_from o false) first ∙ sym (ap (answer_to_receive false) is);
      after_is =
          ap (λ o. (waits_received_from o false e thread w).queue e) first
          ∙ queue
          ∙ sym (ap (λ b. waiting_list sends (cond b (receives ++ a ∷ []) receives)) (not_below _ _ (no_place sends (length receives) is)));
    }

-- a send does what the histories say, whatever keeps the threads that wait
pub send_by_histories : (block : Bool) (e thread : ℕ) (badge : Badge) (message : Message) (w after : Waits) (answer : Sent) →
    answer ≡ sent block e w → after ≡ after_send block e thread badge message w →
    (s : SendRecord) (sends : List SendRecord) (receives : List ReceiveRecord) → s.thread.base ≡ thread → s.badge ≡ badge → s.message ≡ message →
    w.queue e ≡ waiting_list sends receives → SendsBy block s sends receives answer (after.queue e)
send_by_histories block e thread badge message w after answer says is s sends receives by badged carries queue =
    let same : Sender thread badge message ≡ sender s = cc in
    let shown : SendsBy block s sends receives (sent block e w) ((after_send block e thread badge message w).queue e) =
    elim (slice_get receives (length sends)) as (λ o. slice_get receives (length sends) ≡ o → SendsBy block s sends receives (sent block e w) ((after_send block e thread badge message w).queue e)) [
      | None ↦ send_waits block e thread badge message w s sends receives same queue
      | Some a ↦ send_meets block e thread badge message w s sends receives a queue
    ] refl in
    record {
      answer_is = says ∙ shown.answer_is;
      after_is = ap (λ (v : Waits). v.queue e) is ∙ shown.after_is;
    }

-- a receive likewise
pub receive_by_histories : (block : Bool) (e thread : ℕ) (w after : Waits) (answer : Received) →
    answer ≡ received block e w → after ≡ after_receive block e thread w →
    (a : ReceiveRecord) (sends : List SendRecord) (receives : List ReceiveRecord) → a.thread.base ≡ thread →
    w.queue e ≡ waiting_list sends receives → ReceivesBy block a sends receives answer (after.queue e)
receive_by_histories block e thread w after answer says is a sends receives by queue =
    let same : Receiver thread ≡ receiver a = cc in
    let shown : ReceivesBy block a sends receives (received block e w) ((after_receive block e thread w).queue e) =
    elim (slice_get sends (length receives)) as (λ o. slice_get sends (length receives) ≡ o → ReceivesBy block a sends receives (received block e w) ((after_receive block e thread w).queue e)) [
      | None ↦ receive_waits block e thread w a sends receives same queue
      | Some s ↦ receive_meets block e thread w a sends receives s queue
    ] refl in
    record {
      answer_is = says ∙ shown.answer_is;
      after_is = ap (λ (v : Waits). v.queue e) is ∙ shown.after_is;
    }
