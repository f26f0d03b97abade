-- Who waits, by the waiting list of an endpoint, is told among the threads that wait.
use Rattle.std.proofs.Common.{◌≡◌, ◌≢◌, ◌⊎◌, inl, inr, ℕ, Bool, true, false, cond, ◌==◌, List, [], ◌∷◌, ◌++◌, map, filter_map, Option, Some, None, option_map, refl, sym, ap, subst, ◌∙◌, eq-eqb}
use Rattle.std.specs.List.{list_any, Contains, cons_option, AllByRecursion as Each}
use Rattle.std.specs.Option.{option_or}
use Rattle.std.proofs.lemmas.Bool.{false≢true, eqb-true}
use Rattle.std.proofs.lemmas.List.{map-append}
use Rattle.std.proofs.lemmas.List.Elements.{filter_map-append}
use Rattle.cap_core.specs.declared.profile.ProfileName.{ProfileName}
use Rattle.cap_core.specs.declared.capability.Badge.{Badge}
use Rattle.cap_core.specs.declared.message.Message.{Message}
use Rattle.cap_core.specs.Distinct.{IsApart, Lacks}
use Rattle.ipc_core.specs.declared.waiter.Offer.{Offer}
use Rattle.ipc_core.specs.declared.waiter.Waiter.{Waiter}
use Rattle.ipc_core.specs.declared.waiter.Waiter.TheVariants.{Sender, Receiver}
use Rattle.ipc_core.specs.Offers.{offer_by, offer_in}
use Rattle.ipc_core.specs.Waits.{thread_of}
use Rattle.kernel_forest.specs.Forest.{Forest, none, tree, preorder, parented}
use Rattle.kernel_forest.specs.Entries.{Entry, slot_of, derivations_of}
use Rattle.kernel_delete.specs.Members.{In}
use Rattle.kernel_delete.proofs.Clearable.{contains_in}
use Rattle.kernel_delete.proofs.Members.{any_of, each_in}
use Rattle.kernel_abstract.specs.declared.call.ThreadState.{ThreadState}
use Rattle.kernel_abstract.specs.declared.call.ThreadState.TheVariants.{Sending, Receiving}
use Rattle.kernel_abstract.specs.Shown.{ThreadView, state_at, tcb_base, threads_of, waiting_at}
use Rattle.kernel_abstract.specs.State.{State, shown, thread_view}
use Rattle.kernel_abstract.specs.Waiting.{AreStatesAndLists, offer_at, offer_where, state_in}
use Rattle.kernel_abstract.proofs.Lists.Tables.{get_table}
use Rattle.query_parts.proofs.Lists.{in_mapped}
use Rattle.setup_report.specs.declared.live.NamedObject.{NamedObject}
use Rattle.setup_report.specs.State.{is_in, named, named_by, threads}
use Rattle.setup_report.proofs.Addresses.Rising.{any_rising}
use Rattle.command_policy_breaches.specs.declared.held.Waiting.{Waiting}
use Rattle.command_policy_laws.proofs.Groups.{in_found}
use Rattle.command_policy_breaches.specs.Layouts.{offered_badge, waiting_in, waiting_of}

-- ---- the live threads

abbrev seen : Entry × Option Entry → Entry × Option ℕ
seen e = (e.0, option_map slot_of e.1)

named_above : (p : ProfileName) (above : Option Entry) (f : Forest Entry) →
    filter_map (named_by p NamedObject.Thread) (map seen (parented above f)) ≡ filter_map tcb_base (map (λ (e : Entry). e.cap) (preorder f))
named_above p above none = refl
named_above p above (tree a under others) =
    ap (cons_option (tcb_base a.cap))
    (ap (filter_map (named_by p NamedObject.Thread)) (map-append seen (parented (Some a) under) (parented above others))
    ∙ filter_map-append (named_by p NamedObject.Thread) (map seen (parented (Some a) under)) (map seen (parented above others))
    ∙ ap (λ l. l ++ filter_map (named_by p NamedObject.Thread) (map seen (parented above others))) (named_above p (Some a) under)
    ∙ ap (λ l. filter_map tcb_base (map (λ (e : Entry). e.cap) (preorder under)) ++ l) (named_above p above others)
    ∙ sym (filter_map-append tcb_base (map (λ (e : Entry). e.cap) (preorder under)) (map (λ (e : Entry). e.cap) (preorder others)))
    ∙ ap (filter_map tcb_base) (sym (map-append (λ (e : Entry). e.cap) (preorder under) (preorder others))))

is_member : (t : ℕ) (xs : List ℕ) → is_in t xs ≡ true → In t xs
is_member t xs h = let m = any_of (λ a. t == a) xs h in subst (λ n. In n xs) (sym (eqb-true t m.0 m.1.1)) m.1.0

-- a thread that does something is live
live : (p : ProfileName) (A : State) (t : ℕ) (s : ThreadState) → state_at (shown A) t ≡ Some s → In t (threads p (shown A))
unfolding shown
live p A t s does =
    is_member t (threads p (shown A))
    (any_rising (λ k. t == k) (named p NamedObject.Thread (derivations_of A.derivations))
    ∙ ap (is_in t) (named_above p None A.derivations)
    ∙ known (list_any (λ k. t == k) (threads_of A.derivations)) (sym (ap (option_map (λ (x : ThreadView). x.state)) (get_table (threads_of A.derivations) (thread_view A) t)) ∙ does))
  where
    known : (b : Bool) → option_map (λ (x : ThreadView). x.state) (cond b (Some (thread_view A t)) None) ≡ Some s → b ≡ true
    known true h = refl
    known false h = cc

-- ---- what they wait for

-- what a thread sends that is once in a list
offered : (t : ℕ) (badge : Badge) (message : Message) (list : List Waiter) → IsApart (map thread_of list) → In (Sender t badge message) list →
    offer_in t list ≡ Some (record { thread = t; badge = badge; message = message })
offered t badge message [] apart there = absurd there
offered t badge message (x ∷ list) apart (inl same) =
    subst (λ (w : Waiter). option_or (cond (thread_of w == t) (offer_by w) None) (offer_in t list) ≡ Some (record { thread = t; badge = badge; message = message })) same
    (rw (eq-eqb t t refl) refl)
offered t badge message (x ∷ list) apart (inr more) =
    let other : thread_of x == t ≡ false = differ (thread_of x == t) refl in
    rw other (offered t badge message list apart.1 more)
  where
    differ : (b : Bool) → thread_of x == t ≡ b → b ≡ false
    differ false is = refl
    differ true is = absurd (each_in (λ j. j ≢ thread_of x) (map thread_of list) t apart.0 (in_mapped thread_of (Sender t badge message) list more) (sym (eqb-true (thread_of x) t is)))

module _ (p : ProfileName) (A : State) (agree : AreStatesAndLists (shown A)) (t e : ℕ) where
  pub sender_listed : (badge : Badge) (message : Message) → Contains (waiting_at (shown A) e) (Sender t badge message) →
      In (record { thread = t; endpoint = e; badge = badge.0; sends = true }) (filter_map (waiting_of (shown A)) (threads p (shown A)))
  sender_listed badge message there =
      let here = contains_in (waiting_at (shown A) e) (Sender t badge message) there in
      let does : state_at (shown A) t ≡ Some (Sending e) = each_in (λ (x : Waiter). state_at (shown A) (thread_of x) ≡ Some (state_in e x)) (waiting_at (shown A) e) (Sender t badge message) (agree.listed e) here in
      let offer : offer_at (shown A) t ≡ Some (record { thread = t; badge = badge; message = message }) =
      ap (λ (s : Option ThreadState). offer_where s t (shown A)) does ∙ offered t badge message (waiting_at (shown A) e) (agree.once e) here in
      in_found (waiting_of (shown A)) (threads p (shown A)) t (record { thread = t; endpoint = e; badge = badge.0; sends = true }) (live p A t (Sending e) does)
      (ap (λ (s : Option ThreadState). waiting_in t s (offer_at (shown A) t)) does ∙ ap (waiting_in t (Some (Sending e))) offer)

  pub receiver_listed : Contains (waiting_at (shown A) e) (Receiver t) →
      In (record { thread = t; endpoint = e; badge = 0; sends = false }) (filter_map (waiting_of (shown A)) (threads p (shown A)))
  receiver_listed there =
      let here = contains_in (waiting_at (shown A) e) (Receiver t) there in
      let does : state_at (shown A) t ≡ Some (Receiving e) = each_in (λ (x : Waiter). state_at (shown A) (thread_of x) ≡ Some (state_in e x)) (waiting_at (shown A) e) (Receiver t) (agree.listed e) here in
      in_found (waiting_of (shown A)) (threads p (shown A)) t (record { thread = t; endpoint = e; badge = 0; sends = false }) (live p A t (Receiving e) does)
      (ap (λ (s : Option ThreadState). waiting_in t s (offer_at (shown A) t)) does)
