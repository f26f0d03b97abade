-- One thread is taken out of its queue.
use Rattle.std.proofs.Common.{◌≡◌, ◌≢◌, ℕ, ◌==◌, cond, not, List, [], ◌∷◌, ◌++◌, map, Option, Some, None, option_map, inl, inr, refl, sym, ap, subst, ◌∙◌}
use Rattle.std.specs.List.{AllByRecursion as Each}
use Rattle.std.proofs.lemmas.Bool.Decides.{eqb_tells}
use Rattle.ipc_core.specs.declared.waiter.Role.{Role}
use Rattle.ipc_core.specs.declared.tables.QueueRow.{QueueRow}
use Rattle.ipc_core.specs.declared.tables.EndpointRow.{EndpointRow}
use Rattle.ipc_core.specs.Waits.{changed, endpoint_of}
use Rattle.ipc_core.specs.Cancelled.{is_thread, others, after_cancel_thread}
use Rattle.ipc_core.specs.Representation.Chains.{IsChain, Lacks, IsApart, removed}
use Rattle.ipc_core.specs.Representation.Linked.{Links, waiter_of, waits_by, AreLinked, led, led_back, set_row, with_role, with_next, with_previous}
use Rattle.ipc_core.proofs.QueueForm.Chains.{Same, chain-same, chain-rest, chain-head, chain-previous, of_head, of_last, TakesOut, remove_chain, each-left_part, each-right_part, lacks_front, apart-right_part}
use Rattle.ipc_core.proofs.QueueForm.Led.{changed_here, changed_away, changed_keeps, led-thread_keeps, led-thread, led-next, led-endpoint, led-first_none, led-first_some, led-last, led_back-thread_keeps, led_back-thread, led_back-previous, led_back-endpoint, led_back-last_none, led_back-last_some, led_back-first}
use Rattle.ipc_core.proofs.QueueForm.Queues.{is_in, has_in, removed_is, removed_absent, each_removed, apart_removed, in_removed, maps_removed, lacks_from, thread_of_waiter}
use Rattle.ipc_core.proofs.Histories.Cancelling.{filter-map}

-- the links once s, which waits on e, is out
abbrev pub without : ℕ → ℕ → Links → Links
without e s l =
    set_row s (with_role None) (led_back e (l.thread s).next (l.thread s).previous (led e (l.thread s).previous (l.thread s).next l))

module _ (size n : ℕ) (l : Links) (orders : ℕ → List ℕ) (linked : AreLinked size n l orders) (s : ℕ) (r : Role) (waits : (l.thread s).role ≡ Some r) where
  abbrev e : ℕ
  e = endpoint_of r

  abbrev forward : Links
  forward = led e (l.thread s).previous (l.thread s).next l

  abbrev past : Links
  past = led_back e (l.thread s).next (l.thread s).previous forward

  abbrev after : Links
  after = without e s l

  -- a part of a row that no link changes
  kept : {Y : Type 0} (h : QueueRow → Y) → ((x : Option ℕ) (row : QueueRow) → h (with_next x row) ≡ h row) → ((x : Option ℕ) (row : QueueRow) → h (with_previous x row) ≡ h row) →
      (i : ℕ) → h (past.thread i) ≡ h (l.thread i)
  kept h nexts previouses i =
      led_back-thread_keeps e (l.thread s).previous forward (l.thread s).next h (previouses (l.thread s).previous) i
      ∙ led-thread_keeps e (l.thread s).next l (l.thread s).previous h (nexts (l.thread s).next) i

  next_after : (i : ℕ) → (after.thread i).next ≡ (forward.thread i).next
  next_after i =
      changed_keeps (λ (row : QueueRow). row.next) past.thread s (with_role None (past.thread s)) refl i
      ∙ led_back-thread_keeps e (l.thread s).previous forward (l.thread s).next (λ (row : QueueRow). row.next) (λ row. refl) i

  previous_after : (i : ℕ) → (after.thread i).previous ≡ (past.thread i).previous
  previous_after i = changed_keeps (λ (row : QueueRow). row.previous) past.thread s (with_role None (past.thread s)) refl i

  previous_forward : (i : ℕ) → (forward.thread i).previous ≡ (l.thread i).previous
  previous_forward i = led-thread_keeps e (l.thread s).next l (l.thread s).previous (λ (row : QueueRow). row.previous) (λ row. refl) i

  role_after : (i : ℕ) → (after.thread i).role ≡ changed (λ t. (l.thread t).role) s None i
  role_after i = elim (eqb_tells i s) [
    | inl w ↦ ap (λ j. (after.thread j).role) w.1 ∙ ap (λ (row : QueueRow). row.role) (changed_here past.thread s (with_role None (past.thread s))) ∙ sym (ap (λ b. cond b None (l.thread i).role) w.0)
    | inr w ↦
        ap (λ (row : QueueRow). row.role) (changed_away past.thread s (with_role None (past.thread s)) i w.1)
        ∙ kept (λ (row : QueueRow). row.role) (λ x row. refl) (λ x row. refl) i
        ∙ sym (ap (λ b. cond b None (l.thread i).role) w.0)
  ]

  role_away : (i : ℕ) → i ≢ s → (after.thread i).role ≡ (l.thread i).role
  role_away i ne = role_after i ∙ changed_away (λ t. (l.thread t).role) s None i ne

  pub waiter_away : (i : ℕ) → i ≢ s → waiter_of (after.thread i) i ≡ waiter_of (l.thread i) i
  waiter_away i ne =
      ap (λ (row : QueueRow). waiter_of row i) (changed_away past.thread s (with_role None (past.thread s)) i ne)
      ∙ kept (λ row. waiter_of row i) (λ x row. refl) (λ x row. refl) i

  takes : TakesOut (λ t. (l.thread t).next) (λ t. (l.thread t).previous) (λ t. (after.thread t).next) (λ t. (after.thread t).previous) (l.endpoint e).first (after.endpoint e).first (l.endpoint e).last (after.endpoint e).last s
  takes =
      record {
        next = λ i ne away. next_after i ∙ ap (λ (row : QueueRow). row.next) (led-thread e (l.thread s).next l (l.thread s).previous i away);
        next_p = λ p is ne. next_after p ∙ led-next e (l.thread s).next l (l.thread s).previous p is;
        first_none = λ none. led_back-first e (l.thread s).previous forward (l.thread s).next e ∙ led-first_none e (l.thread s).next l (l.thread s).previous none;
        first_some = λ p is. led_back-first e (l.thread s).previous forward (l.thread s).next e ∙ led-first_some e (l.thread s).next l (l.thread s).previous p is;
        previous = λ i ne away. previous_after i ∙ ap (λ (row : QueueRow). row.previous) (led_back-thread e (l.thread s).previous forward (l.thread s).next i away) ∙ previous_forward i;
        previous_n = λ m is ne. previous_after m ∙ led_back-previous e (l.thread s).previous forward (l.thread s).next m is;
        last_none = λ none. led_back-last_none e (l.thread s).previous forward (l.thread s).next none;
        last_some = λ m is. led_back-last_some e (l.thread s).previous forward (l.thread s).next m is ∙ led-last e (l.thread s).next l (l.thread s).previous e;
      }

  waits_on : option_map endpoint_of (l.thread s).role ≡ Some e
  waits_on = ap (option_map endpoint_of) waits

  abbrev pre : List ℕ
  pre = (is_in s (orders e) (linked.found s r waits)).0

  abbrev post : List ℕ
  post = (is_in s (orders e) (linked.found s r waits)).1

  split : orders e ≡ pre ++ s ∷ post
  split = (is_in s (orders e) (linked.found s r waits)).2

  abbrev WaitsOn : ℕ → Type 0
  WaitsOn t = option_map endpoint_of (l.thread t).role ≡ Some e

  members_split : Each WaitsOn (pre ++ s ∷ post)
  members_split = subst (Each WaitsOn) split (linked.members e)

  apart_split : IsApart (pre ++ s ∷ post)
  apart_split = subst IsApart split (linked.apart e)

  chain_split : IsChain (λ t. (l.thread t).next) (λ t. (l.thread t).previous) None (l.endpoint e).first (pre ++ s ∷ post) (l.endpoint e).last
  chain_split = subst (λ m. IsChain (λ t. (l.thread t).next) (λ t. (l.thread t).previous) None (l.endpoint e).first m (l.endpoint e).last) split (linked.chain e)

  behind : Lacks s post
  behind = (apart-right_part pre (s ∷ post) apart_split).0

  pub next_waits : (m : ℕ) → (l.thread s).next ≡ Some m → WaitsOn m
  next_waits m is =
      let rest = chain-rest (λ t. (l.thread t).next) (λ t. (l.thread t).previous) None (l.endpoint e).first pre s post (l.endpoint e).last chain_split in
      of_head WaitsOn post m (each-right_part WaitsOn pre (s ∷ post) members_split).1
      (sym (chain-head (λ t. (l.thread t).next) (λ t. (l.thread t).previous) (Some s) (l.thread s).next post (l.endpoint e).last rest) ∙ is)

  pub previous_waits : (p : ℕ) → (l.thread s).previous ≡ Some p → WaitsOn p
  previous_waits p is =
      of_last WaitsOn None pre p (λ m none. cc) (each-left_part WaitsOn pre (s ∷ post) members_split)
      (sym (chain-previous (λ t. (l.thread t).next) (λ t. (l.thread t).previous) None (l.endpoint e).first pre s post (l.endpoint e).last chain_split) ∙ is)

  removed_split : removed s (orders e) ≡ pre ++ post
  removed_split = ap (removed s) split ∙ removed_is pre s post (lacks_front pre s post apart_split) behind

  -- a queue of another endpoint
  elsewhere : (q t : ℕ) → q ≢ e → option_map endpoint_of (l.thread t).role ≡ Some q → WaitsOn t → ⊥
  elsewhere q t ne at_q at_e = ne (let same : Some q ≡ Some e = sym at_q ∙ at_e in let d : q ≡ e = cc in d)

  lacks_elsewhere : (q : ℕ) → q ≢ e → Lacks s (orders q)
  lacks_elsewhere q ne = lacks_from l s q (orders q) (λ at_q. elsewhere q s ne at_q waits_on) (linked.members q)

  same_elsewhere : (q : ℕ) → q ≢ e → (list : List ℕ) → Each (λ t. option_map endpoint_of (l.thread t).role ≡ Some q) list →
      Each (Same (λ t. (l.thread t).next) (λ t. (l.thread t).previous) (λ t. (after.thread t).next) (λ t. (after.thread t).previous)) list
  same_elsewhere q ne [] members = tt
  same_elsewhere q ne (t ∷ list) members =
      let other : t ≢ s = λ same. elsewhere q s ne (ap (λ j. option_map endpoint_of (l.thread j).role) (sym same) ∙ members.0) waits_on in (
        (
          takes.next t other (λ is. elsewhere q t ne members.0 (previous_waits t is)),
          takes.previous t other (λ is. elsewhere q t ne members.0 (next_waits t is)),
        ),
        same_elsewhere q ne list members.1,
      )

  abbrev ChainAfter : ℕ → Type 0
  ChainAfter q = IsChain (λ t. (after.thread t).next) (λ t. (after.thread t).previous) None (after.endpoint q).first (removed s (orders q)) (after.endpoint q).last

  chain_here : ChainAfter e
  chain_here =
      subst (λ m. IsChain (λ t. (after.thread t).next) (λ t. (after.thread t).previous) None (after.endpoint e).first m (after.endpoint e).last) (sym removed_split)
      (remove_chain (λ t. (l.thread t).next) (λ t. (l.thread t).previous) (λ t. (after.thread t).next) (λ t. (after.thread t).previous) (l.endpoint e).first (after.endpoint e).first (l.endpoint e).last (after.endpoint e).last s takes pre post chain_split apart_split)

  endpoint_elsewhere : (q : ℕ) → q ≢ e → after.endpoint q ≡ l.endpoint q
  endpoint_elsewhere q ne =
      led_back-endpoint e (l.thread s).previous forward (l.thread s).next q ne ∙ led-endpoint e (l.thread s).next l (l.thread s).previous q ne

  chain_elsewhere : (q : ℕ) → q ≢ e → ChainAfter q
  chain_elsewhere q ne =
      let P : List ℕ → Type 0 = λ m. IsChain (λ t. (after.thread t).next) (λ t. (after.thread t).previous) None (after.endpoint q).first m (after.endpoint q).last in
      let Q : EndpointRow → Type 0 = λ row. IsChain (λ t. (after.thread t).next) (λ t. (after.thread t).previous) None row.first (orders q) row.last in
      subst P (sym (removed_absent s (orders q) (lacks_elsewhere q ne)))
      (subst Q (sym (endpoint_elsewhere q ne))
      (chain-same (λ t. (l.thread t).next) (λ t. (l.thread t).previous) (λ t. (after.thread t).next) (λ t. (after.thread t).previous) None (l.endpoint q).first (orders q) (l.endpoint q).last
      (same_elsewhere q ne (orders q) (linked.members q)) (linked.chain q)))

  role_some : (t : ℕ) (k : Role) → (after.thread t).role ≡ Some k → (t ≢ s) × ((l.thread t).role ≡ Some k)
  role_some t k is = elim (eqb_tells t s) [
    | inl w ↦ cc (sym (role_after t ∙ ap (λ b. cond b None (l.thread t).role) w.0) ∙ is)
    | inr w ↦ (w.1, sym (role_away t w.1) ∙ is)
  ]

  pub taken_out : AreLinked size n after (λ q. removed s (orders q))
  taken_out =
      record {
        chain = λ q. elim (eqb_tells q e) [ inl w ↦ subst ChainAfter (sym w.1) chain_here | inr w ↦ chain_elsewhere q w.1 ];
        apart = λ q. apart_removed s (orders q) (linked.apart q);
        members = λ q. each_removed (λ t. option_map endpoint_of (l.thread t).role ≡ Some q) (λ t. option_map endpoint_of (after.thread t).role ≡ Some q) s
            (λ t ne at. ap (option_map endpoint_of) (role_away t ne) ∙ at) (orders q) (linked.members q);
        found = λ t k is. let was = role_some t k is in has_in t (removed s (orders (endpoint_of k))) (in_removed t s (orders (endpoint_of k)) was.0 (is_in t (orders (endpoint_of k)) (linked.found t k was.1)));
        placed = λ t k is. linked.placed t k (role_some t k is).1;
      }

  pub waits_after : waits_by after (λ q. removed s (orders q)) ≡ after_cancel_thread s (waits_by l orders)
  waits_after = λ k. record { queue = λ q. queues q k; role = λ t. role_after t k }
    where
      queues : (q : ℕ) → map (λ t. waiter_of (after.thread t) t) (removed s (orders q)) ≡ others (is_thread s) (map (λ t. waiter_of (l.thread t) t) (orders q))
      queues q =
          maps_removed (λ t. waiter_of (after.thread t) t) (λ t. waiter_of (l.thread t) t) s waiter_away (orders q)
          ∙ sym (filter-map (λ t. waiter_of (l.thread t) t) (λ v. not (is_thread s v)) (λ t. not (t == s)) (λ t. ap (λ j. not (j == s)) (thread_of_waiter (l.thread t) t)) (orders q))
