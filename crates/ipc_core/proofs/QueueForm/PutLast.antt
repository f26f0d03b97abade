-- One thread is put last into a queue.
use Rattle.std.proofs.Common.{◌≡◌, ◌≢◌, ℕ, ◌<◌, ◌/◌, ◌%◌, cond, List, [], ◌∷◌, ◌++◌, map, Option, Some, None, option_map, inl, inr, refl, sym, ap, subst, ◌∙◌}
use Rattle.std.specs.List.{AllByRecursion as Each}
use Rattle.std.proofs.lemmas.Bool.Decides.{eqb_tells}
use Rattle.std.proofs.lemmas.List.{map-append}
use Rattle.ipc_core.specs.declared.waiter.Role.{Role}
use Rattle.ipc_core.specs.declared.tables.QueueRow.{QueueRow}
use Rattle.ipc_core.specs.declared.tables.EndpointRow.{EndpointRow}
use Rattle.ipc_core.specs.Waits.{changed, endpoint_of, queued}
use Rattle.ipc_core.specs.Representation.Chains.{IsChain, Lacks, IsApart}
use Rattle.ipc_core.specs.Representation.Linked.{Links, waiter_of, waits_by, AreLinked, led, led_back, set_row}
use Rattle.ipc_core.proofs.QueueForm.Chains.{Same, chain-same, chain-last, of_last, PutsLast, append_chain}
use Rattle.ipc_core.proofs.QueueForm.Led.{changed_here, changed_away, led-thread_keeps, led-thread, led-next, led-endpoint, led-first_none, led-first_some, led_back-endpoint, led_back-last_none, led_back-first}
use Rattle.ipc_core.proofs.QueueForm.Queues.{IsIn, is_in, has_in, each_is, in_front, maps_same, lacks_from}

each_last : (P : ℕ → Type 0) (list : List ℕ) (t : ℕ) → Each P list → P t → Each P (list ++ t ∷ [])
each_last P [] t all one = (one, tt)
each_last P (i ∷ list) t all one = (all.0, each_last P list t all.1 one)

apart_last : (list : List ℕ) (t : ℕ) → IsApart list → Lacks t list → IsApart (list ++ t ∷ [])
apart_last [] t apart lacks = (tt, tt)
apart_last (i ∷ list) t apart lacks = (each_last (λ j. j ≢ i) list t apart.0 (λ same. lacks.0 (sym same)), apart_last list t apart.1 lacks.1)

-- the row that is put in, behind the one that was last
abbrev pub last_row : Option ℕ → QueueRow → QueueRow
last_row last row = record { role = row.role; badge = row.badge; message = row.message; previous = last; next = None }

-- the links once t is put last on e
abbrev pub with_last : ℕ → ℕ → QueueRow → Links → Links
with_last e t row l =
    led_back e None (Some t) (led e (l.endpoint e).last (Some t) (set_row t (λ _. last_row (l.endpoint e).last row) l))

module _ (size n : ℕ) (l : Links) (orders : ℕ → List ℕ) (linked : AreLinked size n l orders) (e t : ℕ) (row : QueueRow) (r : Role) (free : (l.thread t).role ≡ None) (role : row.role ≡ Some r) (on : endpoint_of r ≡ e) (aligned : t % size ≡ 0) (within : t / size < n) where
  abbrev last : Option ℕ
  last = (l.endpoint e).last

  abbrev put : Links
  put = set_row t (λ _. last_row last row) l

  abbrev forward : Links
  forward = led e last (Some t) put

  abbrev after : Links
  after = with_last e t row l

  abbrev orders' : ℕ → List ℕ
  orders' = changed orders e (orders e ++ t ∷ [])

  abbrev WaitsOn : ℕ → ℕ → Type 0
  WaitsOn q i = option_map endpoint_of (l.thread i).role ≡ Some q

  not_free : (q i : ℕ) → WaitsOn q i → i ≢ t
  not_free q i at same = cc (sym (ap (option_map endpoint_of) (ap (λ j. (l.thread j).role) same ∙ free)) ∙ at)

  pub last_waits : (p : ℕ) → last ≡ Some p → WaitsOn e p
  last_waits p is =
      of_last (WaitsOn e) None (orders e) p (λ m none. cc) (linked.members e)
      (sym (chain-last (λ t. (l.thread t).next) (λ t. (l.thread t).previous) None (l.endpoint e).first (orders e) last (linked.chain e)) ∙ is)

  not_last : last ≡ Some t → ⊥
  not_last is = not_free e t (last_waits t is) refl

  thread_here : after.thread t ≡ last_row last row
  thread_here = led-thread e (Some t) put last t not_last ∙ changed_here l.thread t (last_row last row)

  thread_away : {Y : Type 0} (h : QueueRow → Y) → ((x : Option ℕ) (row : QueueRow) → h (record { role = row.role; badge = row.badge; message = row.message; previous = row.previous; next = x }) ≡ h row) →
      (i : ℕ) → i ≢ t → h (after.thread i) ≡ h (l.thread i)
  thread_away h nexts i ne =
      led-thread_keeps e (Some t) put last h (nexts (Some t)) i ∙ ap h (changed_away l.thread t (last_row last row) i ne)

  role_away : (i : ℕ) → i ≢ t → (after.thread i).role ≡ (l.thread i).role
  role_away i ne = thread_away (λ (row : QueueRow). row.role) (λ x row. refl) i ne

  waiter_away : (i : ℕ) → i ≢ t → waiter_of (after.thread i) i ≡ waiter_of (l.thread i) i
  waiter_away i ne = thread_away (λ row. waiter_of row i) (λ x row. refl) i ne

  role_here : (after.thread t).role ≡ Some r
  role_here = ap (λ (row : QueueRow). row.role) thread_here ∙ role

  next_away : (i : ℕ) → i ≢ t → (last ≡ Some i → ⊥) → (after.thread i).next ≡ (l.thread i).next
  next_away i ne away = ap (λ (row : QueueRow). row.next) (led-thread e (Some t) put last i away ∙ changed_away l.thread t (last_row last row) i ne)

  previous_away : (i : ℕ) → i ≢ t → (after.thread i).previous ≡ (l.thread i).previous
  previous_away i ne = thread_away (λ (row : QueueRow). row.previous) (λ x row. refl) i ne

  puts : PutsLast (λ t. (l.thread t).next) (λ t. (l.thread t).previous) (λ t. (after.thread t).next) (λ t. (after.thread t).previous) (l.endpoint e).first (after.endpoint e).first last t
  puts =
      record {
        next = next_away;
        next_last = λ p ne is. led-next e (Some t) put last p is;
        next_t = ap (λ (row : QueueRow). row.next) thread_here;
        previous = previous_away;
        previous_t = ap (λ (row : QueueRow). row.previous) thread_here;
        first_none = λ none. led_back-first e (Some t) forward None e ∙ led-first_none e (Some t) put last none;
        first_some = λ p is. led_back-first e (Some t) forward None e ∙ led-first_some e (Some t) put last p is;
      }

  lacks_t : (q : ℕ) → Lacks t (orders q)
  lacks_t q = lacks_from l t q (orders q) (λ at. not_free q t at refl) (linked.members q)

  orders_here : orders' e ≡ orders e ++ t ∷ []
  orders_here = changed_here orders e (orders e ++ t ∷ [])

  orders_away : (q : ℕ) → q ≢ e → orders' q ≡ orders q
  orders_away q ne = changed_away orders e (orders e ++ t ∷ []) q ne

  same_elsewhere : (q : ℕ) → q ≢ e → (list : List ℕ) → Each (WaitsOn q) list →
      Each (Same (λ t. (l.thread t).next) (λ t. (l.thread t).previous) (λ t. (after.thread t).next) (λ t. (after.thread t).previous)) list
  same_elsewhere q ne [] members = tt
  same_elsewhere q ne (i ∷ list) members =
      let other : i ≢ t = not_free q i members.0 in
      ((next_away i other (λ is. ne (let same : Some q ≡ Some e = sym members.0 ∙ last_waits i is in let d : q ≡ e = cc in d)), previous_away i other), same_elsewhere q ne list members.1)

  abbrev ChainAfter : ℕ → List ℕ → Type 0
  ChainAfter q list = IsChain (λ t. (after.thread t).next) (λ t. (after.thread t).previous) None (after.endpoint q).first list (after.endpoint q).last

  chain_here : ChainAfter e (orders e ++ t ∷ [])
  chain_here =
      subst (λ o. IsChain (λ t. (after.thread t).next) (λ t. (after.thread t).previous) None (after.endpoint e).first (orders e ++ t ∷ []) o) (sym (led_back-last_none e (Some t) forward None refl))
      (append_chain (λ t. (l.thread t).next) (λ t. (l.thread t).previous) (λ t. (after.thread t).next) (λ t. (after.thread t).previous) (l.endpoint e).first (after.endpoint e).first last t puts (orders e) (linked.chain e) (linked.apart e) (lacks_t e))

  chain_elsewhere : (q : ℕ) → q ≢ e → ChainAfter q (orders q)
  chain_elsewhere q ne =
      let Q : EndpointRow → Type 0 = λ row. IsChain (λ t. (after.thread t).next) (λ t. (after.thread t).previous) None row.first (orders q) row.last in
      subst Q (sym (led_back-endpoint e (Some t) forward None q ne ∙ led-endpoint e (Some t) put last q ne))
      (chain-same (λ t. (l.thread t).next) (λ t. (l.thread t).previous) (λ t. (after.thread t).next) (λ t. (after.thread t).previous) None (l.endpoint q).first (orders q) (l.endpoint q).last
      (same_elsewhere q ne (orders q) (linked.members q)) (linked.chain q))

  -- what holds of the longer queue and of each other holds of all
  of_orders : (P : ℕ → List ℕ → Type 0) → P e (orders e ++ t ∷ []) → ((q : ℕ) → q ≢ e → P q (orders q)) → (q : ℕ) → P q (orders' q)
  of_orders P here away q = elim (eqb_tells q e) [
    | inl w ↦ subst (λ k. P k (orders' k)) (sym w.1) (subst (P e) (sym orders_here) here)
    | inr w ↦ subst (P q) (sym (orders_away q w.1)) (away q w.1)
  ]

  members_still : (q : ℕ) → Each (λ i. option_map endpoint_of (after.thread i).role ≡ Some q) (orders q)
  members_still q =
      each_is (WaitsOn q) (λ i. option_map endpoint_of (after.thread i).role ≡ Some q)
      (λ i at. ap (option_map endpoint_of) (role_away i (not_free q i at)) ∙ at) (orders q) (linked.members q)

  t_waits : option_map endpoint_of (after.thread t).role ≡ Some e
  t_waits = ap (option_map endpoint_of) role_here ∙ ap Some on

  found_still : (i : ℕ) (q : ℕ) → IsIn i (orders q) → IsIn i (orders' q)
  found_still i q at = elim (eqb_tells q e) [
    | inl w ↦ subst (λ k. IsIn i (orders' k)) (sym w.1) (subst (IsIn i) (sym orders_here) (in_front i (orders e) (t ∷ []) (subst (λ k. IsIn i (orders k)) w.1 at)))
    | inr w ↦ subst (IsIn i) (sym (orders_away q w.1)) at
  ]

  same_role : (k : Role) → (after.thread t).role ≡ Some k → endpoint_of k ≡ e
  same_role k is = let same : Some k ≡ Some r = sym is ∙ role_here in let d : k ≡ r = cc in ap endpoint_of d ∙ on

  pub put_last : AreLinked size n after orders'
  put_last =
      record {
        chain = of_orders ChainAfter chain_here chain_elsewhere;
        apart = of_orders (λ q list. IsApart list) (apart_last (orders e) t (linked.apart e) (lacks_t e)) (λ q ne. linked.apart q);
        members = of_orders (λ q list. Each (λ i. option_map endpoint_of (after.thread i).role ≡ Some q) list)
            (each_last (λ i. option_map endpoint_of (after.thread i).role ≡ Some e) (orders e) t (members_still e) t_waits) (λ q ne. members_still q);
        found = λ i k is. has_in i (orders' (endpoint_of k)) (elim (eqb_tells i t) [
          | inl w ↦
              subst (λ j. IsIn j (orders' (endpoint_of k))) (sym w.1)
              (subst (λ q. IsIn t (orders' q)) (sym (same_role k (ap (λ j. (after.thread j).role) (sym w.1) ∙ is))) (subst (IsIn t) (sym orders_here) (orders e, [], refl)))
          | inr w ↦ found_still i (endpoint_of k) (is_in i (orders (endpoint_of k)) (linked.found i k (sym (role_away i w.1) ∙ is)))
        ]);
        placed = λ i k is. elim (eqb_tells i t) [
          | inl w ↦ subst (λ j. (j % size ≡ 0) × (j / size < n)) (sym w.1) (aligned, within)
          | inr w ↦ linked.placed i k (sym (role_away i w.1) ∙ is)
        ];
      }

  pub waits_after : waits_by after orders' ≡ queued e t r (waiter_of row t) (waits_by l orders)
  waits_after = λ k. record { queue = λ q. queues q k; role = λ i. roles i k }
    where
      still : (q : ℕ) → map (λ i. waiter_of (after.thread i) i) (orders q) ≡ map (λ i. waiter_of (l.thread i) i) (orders q)
      still q = maps_same (λ i. waiter_of (after.thread i) i) (λ i. waiter_of (l.thread i) i) (orders q)
          (each_is (WaitsOn q) (λ i. waiter_of (after.thread i) i ≡ waiter_of (l.thread i) i) (λ i at. waiter_away i (not_free q i at)) (orders q) (linked.members q))

      here : map (λ i. waiter_of (after.thread i) i) (orders e ++ t ∷ []) ≡ map (λ i. waiter_of (l.thread i) i) (orders e) ++ waiter_of row t ∷ []
      here =
          map-append (λ i. waiter_of (after.thread i) i) (orders e) (t ∷ [])
          ∙ ap (λ front. front ++ waiter_of (after.thread t) t ∷ []) (still e)
          ∙ ap (λ (w : QueueRow). map (λ i. waiter_of (l.thread i) i) (orders e) ++ waiter_of w t ∷ []) thread_here

      queues : (q : ℕ) → map (λ i. waiter_of (after.thread i) i) (orders' q) ≡ changed (waits_by l orders).queue e ((waits_by l orders).queue e ++ waiter_of row t ∷ []) q
      queues q = elim (eqb_tells q e) [
        | inl w ↦
            ap (λ b. map (λ i. waiter_of (after.thread i) i) (cond b (orders e ++ t ∷ []) (orders q))) w.0
            ∙ here
            ∙ sym (ap (λ b. cond b ((waits_by l orders).queue e ++ waiter_of row t ∷ []) ((waits_by l orders).queue q)) w.0)
        | inr w ↦
            ap (λ b. map (λ i. waiter_of (after.thread i) i) (cond b (orders e ++ t ∷ []) (orders q))) w.0
            ∙ still q
            ∙ sym (ap (λ b. cond b ((waits_by l orders).queue e ++ waiter_of row t ∷ []) ((waits_by l orders).queue q)) w.0)
      ]

      roles : (i : ℕ) → (after.thread i).role ≡ changed (λ j. (l.thread j).role) t (Some r) i
      roles i = elim (eqb_tells i t) [
        | inl w ↦ ap (λ j. (after.thread j).role) w.1 ∙ role_here ∙ sym (ap (λ b. cond b (Some r) (l.thread i).role) w.0)
        | inr w ↦ role_away i w.1 ∙ sym (ap (λ b. cond b (Some r) (l.thread i).role) w.0)
      ]
