-- Of an endpoint that is open between two still parts, a thread of each holds a capability with the right that the message needs.
use Rattle.std.proofs.Common.{◌≡◌, ◌⊎◌, inl, inr, ℕ, refl, sym, ap, subst, ◌∙◌, Bool, true, false, cond, not, ◌==◌, ◌&&◌, ◌||◌, List, [], ◌∷◌, ◌++◌, map, filter, Option, Some, None, option_map, is_some, eq-eqb}
use Rattle.std.specs.Prelude.{find}
use Rattle.std.specs.List.{Contains, IsDistinct, list_any, filter_map, cons_option}
use Rattle.std.proofs.lemmas.Bool.{false≢true, eqb-true}
use Rattle.std.proofs.lemmas.Nat.{pow_pos}
use Rattle.cap_core.specs.declared.profile.ProfileName.{ProfileName}
use Rattle.cap_core.specs.declared.capability.Badge.{Badge}
use Rattle.cap_core.specs.declared.capability.Cap.{Cap}
use Rattle.cap_core.specs.declared.capability.Cap.TheVariants.{Null, Untyped, Endpoint, CNode, Tcb}
use Rattle.cap_core.specs.declared.rights.Rights.{Rights}
use Rattle.cap_core.specs.Numbers.{endpoint_bits, endpoint_size}
use Rattle.cap_core.specs.Rights.{write_bit, read_bit}
use Rattle.kernel_forest.specs.Forest.{preorder}
use Rattle.kernel_forest.specs.Entries.{Entry, cap_at, caps, slots, derivations_of}
use Rattle.kernel_forest.proofs.Slots.Holding.{cap-entry}
use Rattle.kernel_delete.specs.Members.{In}
use Rattle.kernel_delete.proofs.Members.{both_true, either_true, any_in, any_of, all_in, in_filter, filter_in, in_append, true_left, true_right}
use Rattle.kernel_delete.proofs.Clearable.{in_contains, contains_in}
use Rattle.cspace_core.specs.Inside.{IsSlotOf}
use Rattle.kernel_abstract.specs.declared.call.ThreadState.{ThreadState}
use Rattle.kernel_abstract.specs.declared.call.ThreadState.TheVariants.{Ready, Inactive, Sending, Receiving}
use Rattle.kernel_abstract.specs.Shown.{ThreadView, tcb_base, endpoint_base, threads_of, endpoints_of, state_at}
use Rattle.kernel_abstract.specs.State.{State, shown, first_of, is_sending, is_receiving, state_of, thread_at, thread_view}
use Rattle.kernel_abstract.specs.Decode.{has_right}
use Rattle.kernel_abstract.specs.Reached.{IsReached}
use Rattle.kernel_abstract.proofs.Checks.LiveEndpoints.{thread_live_at}
use Rattle.kernel_abstract.proofs.Lists.Tables.{get_table}
use Rattle.kernel_abstract.proofs.Reached.Simulation.{reached_is}
use Rattle.query_parts.specs.declared.listed.PartUse.{PartUse}
use Rattle.query_parts.specs.Parts.{Parts, IsOwned, IsClosed}
use Rattle.query_parts.specs.Listed.{part_at, use_of, parts_listed}
use Rattle.query_parts.specs.Order.{owns_block, has_block}
use Rattle.query_parts.specs.Passing.{IsForMessages}
use Rattle.query_parts.specs.Least.{LieIn}
use Rattle.query_parts.proofs.Bounded.{entries_told}
use Rattle.query_parts.proofs.Lists.{from_mapped, in_mapped, and_true}
use Rattle.query_parts.proofs.Tested.{range_owned}
use Rattle.setup_report.specs.declared.live.NamedObject.{NamedObject}
use Rattle.setup_report.specs.State.{Derived, is_in, named, named_by, threads}
use Rattle.setup_report.proofs.Addresses.Rising.{any_rising}
use Rattle.command_parts.specs.Ever.{AreRightParts}
use Rattle.command_parts.specs.Text.{is_part, is_use}
use Rattle.command_parts.specs.Threads.{callers}
use Rattle.command_never.specs.declared.parts_kept.waits.Wait.{Wait}
use Rattle.command_never.specs.Never.{has_bytes, is_use_of, is_open, is_waiting_sender, is_waiting_receiver, may_send_to, may_receive_on, endpoints_met}
use Rattle.command_never.specs.Waits.{wait_in, wait_of, waits}
use Rattle.command_never.proofs.Had.{IsKeptRight, write_kept, read_kept}
use Rattle.command_never.proofs.Kept.{now_closed}
use Rattle.command_never.specs.Still.{IsReadyToPass, IsStill, LieInTwoStill}
use Rattle.command_how_witness.specs.Witness.{Asking, may_thread_call}
use Rattle.command_how_witness.specs.Still.{HoldsEndpoint}
use Rattle.command_how_witness.proofs.Below.{is_the_part}
use Rattle.command_how_witness.proofs.Decided.{has_byte}
use Rattle.command_how_witness.proofs.Groups.{Held, IsMember, Standing, found, is_live, held_live, endpoint_named, split, split_closed, split_around, IsHeldBy, IsInGroup, IsMet, part_in_group, use_had, use_met, held_is_live, one_alone}
use Rattle.command_how_witness.proofs.StillShown.{MayShow}

-- ---- a thread among those that are told is named by the capability in some slot

from_chosen : {X Y : Type 0} (g : X → Option Y) (l : List X) (y : Y) → In y (filter_map g l) → (x : X) × (In x l × (g x ≡ Some y))
from_chosen g [] y i = absurd i
from_chosen g (x ∷ l) y i = at g x l y (from_chosen g l y) (g x) refl i
  where
    at : {X Y : Type 0} (g : X → Option Y) (x : X) (l : List X) (y : Y) → (In y (filter_map g l) → (z : X) × (In z l × (g z ≡ Some y))) →
        (o : Option Y) → g x ≡ o → In y (cons_option o (filter_map g l)) → (z : X) × (In z (x ∷ l) × (g z ≡ Some y))
    at g x l y on None is i = (let more = on i in (more.0, (inr more.1.0, more.1.1)))
    at g x l y on (Some z) is (inl same) = (x, (inl refl, is ∙ ap (λ w. Some w) (sym same)))
    at g x l y on (Some z) is (inr i) = (let more = on i in (more.0, (inr more.1.0, more.1.1)))

thread_named : (cap : Cap) (t : ℕ) → tcb_base cap ≡ Some t → cap ≡ Tcb t
thread_named Null t h = cc
thread_named (Untyped base bits free) t h = cc
thread_named (Endpoint base badge rights) t h = cc
thread_named (CNode base radix guard) t h = cc
thread_named (Tcb base) t h = (let same : base ≡ t = cc in ap Tcb same)

told_held : (p : ProfileName) (A : State) (t : ℕ) → In t (threads p (shown A)) → Held A.derivations (Tcb t)
unfolding shown
told_held p A t i =
    let told : is_in t (threads p (shown A)) ≡ true = any_in (λ a. t == a) (threads p (shown A)) t i (eq-eqb t t refl) in
    let there = sym (any_rising (λ a. t == a) (named p NamedObject.Thread (derivations_of A.derivations))) ∙ told in
    let m = any_of (λ a. t == a) (named p NamedObject.Thread (derivations_of A.derivations)) there in
    let d = from_chosen (named_by p NamedObject.Thread) (derivations_of A.derivations) m.0 m.1.0 in
    let listed = subst (In d.0.0) (entries_told A.derivations) (in_mapped (λ (x : Derived). x.0) d.0 (derivations_of A.derivations) d.1.0) in
    let same : t ≡ m.0 = eqb-true t m.0 m.1.1 in
    (d.0.0, (in_contains (preorder A.derivations) d.0.0 listed, thread_named d.0.0.cap t (d.1.1 ∙ ap (λ n. Some n) (sym same))))

-- ---- who waits

-- what a thread does that is told to wait
record IsWaiting (t : ℕ) (o : Option ThreadState) (w : Wait) : Type 0 where
  thread : w.thread ≡ t
  does : (o ≡ Some (Sending w.endpoint)) ⊎ (o ≡ Some (Receiving w.endpoint))

waiting : (t : ℕ) (o : Option ThreadState) (w : Wait) → wait_in t o ≡ Some w → IsWaiting t o w
waiting t None w h = cc
waiting t (Some Ready) w h = cc
waiting t (Some Inactive) w h = cc
waiting t (Some (Sending e)) w h =
    let made : Wait = record { thread = t; endpoint = e; sends = true } in
    let same : made ≡ w = cc in
    record { thread = ap (λ (x : Wait). x.thread) (sym same); does = inl (ap (λ (x : Wait). Some (Sending x.endpoint)) same) }
waiting t (Some (Receiving e)) w h =
    let made : Wait = record { thread = t; endpoint = e; sends = false } in
    let same : made ≡ w = cc in
    record { thread = ap (λ (x : Wait). x.thread) (sym same); does = inr (ap (λ (x : Wait). Some (Receiving x.endpoint)) same) }

not_ready : (t : ℕ) (o : Option ThreadState) (w : Wait) → IsWaiting t o w → o ≡ Some Ready → ⊥
not_ready t o w waits ready = elim (waits.does) [
  | inl sends ↦ let other : Some (Sending w.endpoint) ≡ Some Ready = sym sends ∙ ready in cc
  | inr receives ↦ let other : Some (Receiving w.endpoint) ≡ Some Ready = sym receives ∙ ready in cc
]

is_told : (t : ℕ) (o : Option ThreadState) (w : Wait) → IsWaiting t o w → is_some o ≡ true
is_told t o w waits = elim (waits.does) [ inl sends ↦ ap is_some sends | inr receives ↦ ap is_some receives ]

-- the endpoint on which a thread waits is among those that are live
waits_on : (o o' : Option ℕ) (inactive : Bool) (e : ℕ) →
    (first_of o o' (cond inactive Inactive Ready) ≡ Sending e) ⊎ (first_of o o' (cond inactive Inactive Ready) ≡ Receiving e) → (o ≡ Some e) ⊎ (o' ≡ Some e)
waits_on None None true e (inl h) = cc
waits_on None None true e (inr h) = cc
waits_on None None false e (inl h) = cc
waits_on None None false e (inr h) = cc
waits_on None (Some x) inactive e (inl h) = cc
waits_on None (Some x) inactive e (inr h) = (let same : x ≡ e = cc in inr (ap (λ n. Some n) same))
waits_on (Some x) o' inactive e (inl h) = (let same : x ≡ e = cc in inl (ap (λ n. Some n) same))
waits_on (Some x) o' inactive e (inr h) = cc

some_state : (s t : ThreadState) → Some s ≡ Some t → s ≡ t
some_state s t h = cc

module _ (p : ProfileName) (A : State) (reached : IsReached p A) where
  distinct : IsDistinct (λ (a b : ℕ). a == b) (slots A.derivations)
  distinct = (reached_is p A reached).store.slots_distinct

  told_state : (t : ℕ) → In t (threads p (shown A)) → state_at (shown A) t ≡ Some (state_of A (thread_at A t))
  unfolding shown
  told_state t i =
      let h = told_held p A t i in
      let live = thread_live_at A.derivations h.0.slot t (ap tcb_base (cap-entry A.derivations h.0 distinct h.1.0 ∙ h.1.1)) in
      ap (option_map (λ (x : ThreadView). x.state))
      (get_table (threads_of A.derivations) (thread_view A) t ∙ ap (λ b. cond b (Some (thread_view A t)) None) live)

  endpoint_live : (e : ℕ) → In e (endpoints_of A.derivations) → is_live A.derivations e ≡ true
  endpoint_live e i =
      let c = from_chosen endpoint_base (caps A.derivations) e i in
      let x = from_mapped (λ (y : Entry). y.cap) (preorder A.derivations) c.0 c.1.0 in
      let is = endpoint_named c.0 e c.1.1 in
      held_live A.derivations e is.0 is.1.0 (x.0, (in_contains (preorder A.derivations) x.0 x.1.0, sym x.1.1 ∙ is.1.1))

  waits_live : (w : Wait) → In w (waits p (shown A)) → is_live A.derivations w.endpoint ≡ true
  waits_live w i =
      let t = from_chosen (wait_of (shown A)) (threads p (shown A)) w i in
      let is = waiting t.0 (state_at (shown A) t.0) w t.1.1 in
      let told = told_state t.0 t.1.0 in
      let at = thread_at A t.0 in
      let does : (state_of A at ≡ Sending w.endpoint) ⊎ (state_of A at ≡ Receiving w.endpoint) = elim (is.does) [
        | inl sends ↦ inl (some_state (state_of A at) (Sending w.endpoint) (sym told ∙ sends))
        | inr receives ↦ inr (some_state (state_of A at) (Receiving w.endpoint) (sym told ∙ receives))
      ] in
      elim (waits_on (find (is_sending A at) (endpoints_of A.derivations)) (find (is_receiving A at) (endpoints_of A.derivations)) (A.is_inactive at) w.endpoint does) [
        | inl sends ↦ endpoint_live w.endpoint (found (is_sending A at) (endpoints_of A.derivations) w.endpoint sends).0
        | inr receives ↦ endpoint_live w.endpoint (found (is_receiving A at) (endpoints_of A.derivations) w.endpoint receives).0
      ]

-- ---- two still parts

some_same : (a b : ℕ) → Some a ≡ Some b → a ≡ b
some_same a b h = cc

module _ (p : ProfileName) (q : Asking) (uses : List PartUse) (A : State) (reached : IsReached p A)
    (right : AreRightParts p (shown A) q.without q.memory uses) (two : LieInTwoStill p q.without q.memory uses (shown A) q.from q.to) where
  abbrev parts : Parts
  parts = parts_listed q.memory uses

  abbrev all : List ℕ
  all = callers p (shown A) q.without

  still : ℕ → Bool
  still k = k == two.i || k == two.j

  is_still : (k : ℕ) → still k ≡ true → IsStill p parts k (shown A)
  unfolding still
  is_still k h = elim (either_true (k == two.i) (k == two.j) h) [
    | inl first ↦ subst (λ n. IsStill p parts n (shown A)) (sym (eqb-true k two.i first)) two.from_still
    | inr second ↦ subst (λ n. IsStill p parts n (shown A)) (sym (eqb-true k two.j second)) two.to_still
  ]

  still_at : Option ℕ → Bool
  still_at None = false
  still_at (Some k) = still k

  lies_in_still : ℕ → Bool
  lies_in_still t = still_at (part_at q.memory t)

  few : List ℕ
  few = filter lies_in_still all

  -- the part of such a thread
  part_of_few : (o : Option ℕ) → still_at o ≡ true → (k : ℕ) × ((o ≡ Some k) × (still k ≡ true))
  unfolding still_at
  part_of_few None h = absurd (false≢true h)
  part_of_few (Some k) h = (k, (refl, h))

  block_of : (t : ℕ) (o : Option ℕ) → owns_block p q.memory t o ≡ true → (k : ℕ) × ((o ≡ Some k) × IsOwned p parts k (Tcb t))
  block_of t None h = absurd (false≢true h)
  block_of t (Some k) h = (k, (refl, range_owned p q.memory uses k (Tcb t) h))

  block : (t : ℕ) → In t all → (k : ℕ) × ((part_at q.memory t ≡ Some k) × IsOwned p parts k (Tcb t))
  block t i = block_of t (part_at q.memory t) (all_in (has_block p q.memory) all t right.callers i)

  told : (t : ℕ) → In t all → In t (threads p (shown A))
  told t i = (in_filter (λ thread. not (is_in thread q.without)) (threads p (shown A)) t i).0

  block_in : (t k : ℕ) → In t all → part_at q.memory t ≡ Some k → IsOwned p parts k (Tcb t)
  block_in t k i own =
      let b = block t i in
      let same : b.0 ≡ k = some_same b.0 k (sym b.1.0 ∙ own) in
      subst (λ n. IsOwned p parts n (Tcb t)) {x = b.0} same b.1.1

  passes_in : (t k : ℕ) (node : Cap) → IsStill p parts k (shown A) → part_at q.memory t ≡ Some k → cap_at A.derivations t ≡ node →
      (slot : ℕ) → IsSlotOf p node slot → IsForMessages (cap_at A.derivations slot)
  unfolding shown
  passes_in t k node s own root slot at = s.passes t slot own (subst (λ (c : Cap). IsSlotOf p c slot) {x = node} (sym root) at)

  member_of : (t : ℕ) → In t few → IsMember p A.derivations parts still t
  unfolding shown few lies_in_still
  member_of t i =
      let m = in_filter lies_in_still all t i in
      let own = part_of_few (part_at q.memory t) m.1 in
      let live = ap is_some (told_state p A reached t (told t m.0)) in
      let s = is_still own.0 own.1.1 in
      let ready = s.threads t own.1.0 live in
      record {
        part = own.0;
        own = own.1.0;
        is_still = own.1.1;
        block = block_in t own.0 m.0 own.1.0;
        held = told_held p A t (told t m.0);
        base = ready.base;
        radix = ready.radix;
        guard = ready.guard;
        root = ready.root;
        passes = passes_in t own.0 (CNode ready.base ready.radix ready.guard) s own.1.0 ready.root;
      }

  pub closed : (k : ℕ) → IsClosed p parts k A.derivations
  closed = now_closed p q.memory uses q.by two.i two.j (shown A) right.ever A reached refl

  pub standing : Standing p A.derivations parts
  standing = record {
    distinct = distinct p A reached;
    disjoint = (reached_is p A reached).store.disjoint;
    housed = (reached_is p A reached).housed;
    closed = closed;
    still = still;
    threads = few;
    member = member_of;
  }

  -- the live threads of both parts that are not trusted, with what is known of them
  abbrev pub living : List ℕ
  living = standing.threads

  abbrev pub member : (t : ℕ) → In t living → IsMember p A.derivations parts standing.still t
  member = standing.member

  -- the parts told anew, in which these lie, since these are the least
  abbrev groups : Parts
  groups = split p A.derivations parts standing

  around : (t : ℕ) → Contains all t → (n : ℕ) × IsOwned p groups n (Tcb t)
  unfolding standing few lies_in_still still_at
  around t has =
      let i = contains_in all t has in
      let b = block t i in
      split_around p A.derivations parts standing t b.0 b.1.1 (λ is. filter_in lies_in_still all t i (ap still_at b.1.0 ∙ is))

  pub lie : LieIn p parts groups
  lie = right.least A reached refl groups (record {
    closed = split_closed p A.derivations parts standing;
    around = around;
  })

  -- ---- what a thread has of an endpoint

  abbrev pub IsHeld : (t : ℕ) → In t living → ℕ → Rights → Type 0
  IsHeld t i e rights = IsHeldBy p A.derivations parts standing t i e rights

  abbrev IsIn : (t : ℕ) → In t living → ℕ → Type 0
  IsIn t i e = IsInGroup p A.derivations parts standing t i e

  abbrev IsMetNow : ℕ → Type 0
  IsMetNow e = IsMet p A.derivations parts standing e

  -- it holds a capability to it with a right, or addresses of it lie in its group
  abbrev Has : ℕ → (t : ℕ) → In t living → ℕ → Type 0
  Has right t i e = ((rights : Rights) × (IsHeld t i e rights × (has_right right rights ≡ true))) ⊎ IsIn t i e

  abbrev ws : List Wait
  ws = waits p (shown A)

  pub use_in : (t : ℕ) (i : In t living) (u : PartUse) → In u uses → u.part ≡ (member t i).part → (e : ℕ) → u.endpoint ≡ e → IsHeld t i e u.rights ⊎ IsIn t i e
  use_in t i u here own e at =
      let k : ℕ = (member t i).part in
      let chosen = filter_in (λ (x : PartUse). x.part == k) uses u here (eq-eqb u.part k own) in
      let listed = in_mapped use_of u (filter (λ (x : PartUse). x.part == k) uses) chosen in
      subst (λ n. IsHeld t i n u.rights ⊎ IsIn t i n) at
      (use_had p A.derivations parts standing lie t i (use_of u) (in_contains (map use_of (filter (λ (x : PartUse). x.part == k) uses)) (use_of u) listed))

  used : (right t : ℕ) (i : In t living) (e : ℕ) → list_any (is_use right (member t i).part e) uses ≡ true → Has right t i e
  used right t i e some =
      let u = any_of (is_use right (member t i).part e) uses some in
      let own = both_true (u.0.part == (member t i).part) _ u.1.1 in
      let at = both_true (u.0.endpoint == e) (has_right right u.0.rights) own.1 in
      elim (use_in t i u.0 u.1.0 (eqb-true u.0.part (member t i).part own.0) e (eqb-true u.0.endpoint e at.0)) [
        | inl held ↦ inl (u.0.rights, (held, at.1))
        | inr inside ↦ inr inside
      ]

  bytes_in : (t : ℕ) (i : In t living) (e : ℕ) → has_bytes p q.memory (member t i).part e ≡ true → IsIn t i e
  bytes_in t i e has =
      let b = has_byte p q.memory uses right.order (member t i).part e (endpoint_size p) (pow_pos (endpoint_bits p)) has in (
        b.0,
        (
          b.1.0,
          (
            b.1.1.0,
            part_in_group p A.derivations parts standing lie t b.0 i b.1.1.1,
          ),
        ),
      )

  still_part : (k : ℕ) → standing.still k ≡ true → IsStill p parts k (shown A)
  unfolding standing
  still_part k h = is_still k h

  -- no thread of its part waits
  pub no_wait : (t : ℕ) (i : In t living) (w : Wait) → In w ws → is_part (member t i).part (part_at q.memory w.thread) ≡ true → ⊥
  no_wait t i w here own =
      let m = member t i in
      let x = from_chosen (wait_of (shown A)) (threads p (shown A)) w here in
      let is = waiting x.0 (state_at (shown A) x.0) w x.1.1 in
      let at : part_at q.memory x.0 ≡ Some m.part = ap (part_at q.memory) (sym is.thread) ∙ is_the_part (part_at q.memory w.thread) m.part own in
      not_ready x.0 (state_at (shown A) x.0) w is ((still_part m.part m.is_still).threads x.0 at (is_told x.0 (state_at (shown A) x.0) w is)).ready

  sends_to : (t : ℕ) (i : In t living) (e : ℕ) → may_send_to p q.memory uses ws (member t i).part e ≡ true → Has write_bit t i e
  sends_to t i e may = elim (either_true (has_bytes p q.memory (member t i).part e) _ may) [
    | inl has ↦ inr (bytes_in t i e has)
    | inr other ↦ elim (either_true (list_any (is_use write_bit (member t i).part e) uses) _ other) [
      | inl some ↦ used write_bit t i e some
      | inr waiting ↦
          let w = any_of (is_waiting_sender q.memory (member t i).part e) ws waiting in
          absurd (no_wait t i w.0 w.1.0 (both_true (w.0.endpoint == e) _ (both_true w.0.sends _ w.1.1).1).1)
    ]
  ]

  receives_on : (t : ℕ) (i : In t living) (e : ℕ) → may_receive_on p q.memory uses ws (member t i).part e ≡ true → Has read_bit t i e
  receives_on t i e may = elim (either_true (has_bytes p q.memory (member t i).part e) _ may) [
    | inl has ↦ inr (bytes_in t i e has)
    | inr other ↦ elim (either_true (list_any (is_use read_bit (member t i).part e) uses) _ other) [
      | inl some ↦ used read_bit t i e some
      | inr waiting ↦
          let w = any_of (is_waiting_receiver q.memory (member t i).part e) ws waiting in
          absurd (no_wait t i w.0 w.1.0 (both_true (w.0.endpoint == e) _ (both_true (not w.0.sends) _ w.1.1).1).1)
    ]
  ]

  met : (e : ℕ) → In e (endpoints_met uses ws) → IsMetNow e
  met e here =
      let told : is_in e (endpoints_met uses ws) ≡ true = any_in (λ a. e == a) (endpoints_met uses ws) e here (eq-eqb e e refl) in
      let listed = sym (any_rising (λ a. e == a) (map (λ (u : PartUse). u.endpoint) uses ++ map (λ (w : Wait). w.endpoint) ws)) ∙ told in
      let a = any_of (λ a. e == a) (map (λ (u : PartUse). u.endpoint) uses ++ map (λ (w : Wait). w.endpoint) ws) listed in
      let same : a.0 ≡ e = sym (eqb-true e a.0 a.1.1) in
      elim (in_append a.0 (map (λ (u : PartUse). u.endpoint) uses) (map (λ (w : Wait). w.endpoint) ws) a.1.0) [
        | inl told_use ↦
            let u = from_mapped (λ (x : PartUse). x.endpoint) uses a.0 told_use in
            let k : ℕ = u.0.part in
            let chosen = filter_in (λ (x : PartUse). x.part == k) uses u.0 u.1.0 (eq-eqb k k refl) in
            let there = in_mapped use_of u.0 (filter (λ (x : PartUse). x.part == k) uses) chosen in
            subst IsMetNow (sym u.1.1 ∙ same)
            (use_met p A.derivations parts standing lie k (use_of u.0) (in_contains (map use_of (filter (λ (x : PartUse). x.part == k) uses)) (use_of u.0) there))
        | inr told_wait ↦
            let w = from_mapped (λ (x : Wait). x.endpoint) ws a.0 told_wait in
            inl (ap (is_live A.derivations) (sym same ∙ w.1.1) ∙ waits_live p A reached w.0 w.1.0)
      ]

  -- ---- of two threads of two of these parts both hold what is open between them

  module _ (t u : ℕ) (i : In t living) (j : In u living) (apart : (member t i).part ≡ (member u j).part → ⊥) (e : ℕ) (at : IsMetNow e) where
    -- a capability with a right, of each
    abbrev BothHold : ℕ → ℕ → Type 0
    BothHold right right' =
        ((rights : Rights) × (IsHeld t i e rights × (has_right right rights ≡ true)))
        × ((rights : Rights) × (IsHeld u j e rights × (has_right right' rights ≡ true)))

    live_first : (rights : Rights) → IsHeld t i e rights → is_live A.derivations e ≡ true
    live_first rights h = held_is_live p A.derivations parts standing t i e rights h

    live_second : (rights : Rights) → IsHeld u j e rights → is_live A.derivations e ≡ true
    live_second rights h = held_is_live p A.derivations parts standing u j e rights h

    -- not the second has addresses of it, where the first has it
    not_second : (is_live A.derivations e ≡ true) ⊎ IsIn t i e → IsIn u j e → ⊥
    not_second first second = one_alone p A.derivations parts standing t u i j apart e at first second

    not_first : (is_live A.derivations e ≡ true) ⊎ IsIn u j e → IsIn t i e → ⊥
    not_first second first = one_alone p A.derivations parts standing u t j i (λ same. apart (sym same)) e at second first

    both_hold : (right right' : ℕ) → Has right t i e → Has right' u j e → BothHold right right'
    both_hold right right' (inl first) (inl second) = (first, second)
    both_hold right right' (inl first) (inr second) = absurd (not_second (inl (live_first first.0 first.1.0)) second)
    both_hold right right' (inr first) (inl second) = absurd (not_first (inl (live_second second.0 second.1.0)) first)
    both_hold right right' (inr first) (inr second) = absurd (not_second (inr first) second)

    -- a use of the first's part, and bytes of the second's
    not_taken : list_any (is_use_of (member t i).part e) uses ≡ true → has_bytes p q.memory (member u j).part e ≡ true → ⊥
    not_taken some bytes =
        let w = any_of (is_use_of (member t i).part e) uses some in
        let own = both_true (w.0.part == (member t i).part) (w.0.endpoint == e) w.1.1 in
        elim (use_in t i w.0 w.1.0 (eqb-true w.0.part (member t i).part own.0) e (eqb-true w.0.endpoint e own.1)) [
          | inl held ↦ not_second (inl (live_first w.0.rights held)) (bytes_in u j e bytes)
          | inr inside ↦ not_second (inr inside) (bytes_in u j e bytes)
        ]

    open_held : (by : List ℕ) → is_open p q.memory uses ws by (member t i).part (member u j).part e ≡ true → (not (is_in e by) ≡ true) × BothHold write_bit read_bit
    open_held by opens =
        let named = both_true (not (is_in e by)) _ opens in
        elim (either_true (list_any (is_use_of (member t i).part e) uses && has_bytes p q.memory (member u j).part e) _ named.1) [
          | inl takes ↦
              let both = both_true (list_any (is_use_of (member t i).part e) uses) (has_bytes p q.memory (member u j).part e) takes in
              absurd (not_taken both.0 both.1)
          | inr passes ↦
              let both = both_true (may_send_to p q.memory uses ws (member t i).part e) (may_receive_on p q.memory uses ws (member u j).part e) passes in
              (named.0, both_hold write_bit read_bit (sends_to t i e both.0) (receives_on u j e both.1))
        ]

  pub holds : (right t : ℕ) (i : In t living) (e : ℕ) → IsKeptRight right → (rights : Rights) → IsHeld t i e rights → has_right right rights ≡ true →
      (badge : Badge) × HoldsEndpoint p A.derivations right t e badge
  holds right t i e kept rights h has = (h.badge, record { slot = h.slot; rights = h.more; inside = h.inside; cap = h.cap; allows = kept rights h.more h.among has })

  -- ---- both threads

  in_few : (t k : ℕ) → Contains all t → part_at q.memory t ≡ Some k → standing.still k ≡ true → In t living
  unfolding standing few lies_in_still still_at
  in_few t k calls own is = filter_in lies_in_still all t (contains_in all t calls) (ap still_at own ∙ is)

  pub from_few : In q.from living
  unfolding standing still
  from_few = in_few q.from two.i two.from_calls two.from_in (true_left (two.i == two.i) (two.i == two.j) (eq-eqb two.i two.i refl))

  pub to_few : In q.to living
  unfolding standing still
  to_few = in_few q.to two.j two.to_calls two.to_in (true_right (two.j == two.i) (two.j == two.j) (eq-eqb two.j two.j refl))

  pub from_part : (member q.from from_few).part ≡ two.i
  from_part = some_same (member q.from from_few).part two.i (sym (member q.from from_few).own ∙ two.from_in)

  pub to_part : (member q.to to_few).part ≡ two.j
  to_part = some_same (member q.to to_few).part two.j (sym (member q.to to_few).own ∙ two.to_in)

  apart_parts : (member q.from from_few).part ≡ (member q.to to_few).part → ⊥
  apart_parts same = two.two (sym from_part ∙ (same ∙ to_part))

  may_call : (t k : ℕ) → Contains all t → part_at q.memory t ≡ Some k → may_thread_call q.memory q.without t ≡ true
  may_call t k calls own =
      and_true _ _ (ap is_some own) (in_filter (λ thread. not (is_in thread q.without)) (threads p (shown A)) t (contains_in all t calls)).1

  is_ready : (t k : ℕ) → Contains all t → part_at q.memory t ≡ Some k → IsStill p parts k (shown A) → IsReadyToPass p (shown A) t
  is_ready t k calls own s = s.threads t own (ap is_some (told_state p A reached t (told t (contains_in all t calls))))

  two_threads : q.from ≡ q.to → ⊥
  two_threads same = two.two (some_same two.i two.j (sym two.from_in ∙ (ap (part_at q.memory) same ∙ two.to_in)))

  pub may_show : MayShow p q A
  may_show = record {
    two = two_threads;
    from_calls = may_call q.from two.i two.from_calls two.from_in;
    to_calls = may_call q.to two.j two.to_calls two.to_in;
    from_ready = is_ready q.from two.i two.from_calls two.from_in two.from_still;
    to_ready = is_ready q.to two.j two.to_calls two.to_in two.to_still;
  }

  -- an endpoint that is open is not named, and both hold it
  pub record IsHeldByBoth (e : ℕ) : Type 0 where
    pub named : not (is_in e q.by) ≡ true
    pub badge : Badge
    pub sends : HoldsEndpoint p A.derivations write_bit q.from e badge
    pub other : Badge
    pub receives : HoldsEndpoint p A.derivations read_bit q.to e other

  pub open_held_by : (e : ℕ) → In e (endpoints_met uses ws) → is_open p q.memory uses ws q.by two.i two.j e ≡ true → IsHeldByBoth e
  open_held_by e here opens =
      let first = subst (λ n. is_open p q.memory uses ws q.by n two.j e ≡ true) (sym from_part) opens in
      let second = subst (λ n. is_open p q.memory uses ws q.by (member q.from from_few).part n e ≡ true) (sym to_part) first in
      let hold = open_held q.from q.to from_few to_few apart_parts e (met e here) q.by second in
      let sends = holds write_bit q.from from_few e write_kept hold.1.0.0 hold.1.0.1.0 hold.1.0.1.1 in
      let receives = holds read_bit q.to to_few e read_kept hold.1.1.0 hold.1.1.1.0 hold.1.1.1.1 in
      record { named = hold.0; badge = sends.0; sends = sends.1; other = receives.0; receives = receives.1 }
