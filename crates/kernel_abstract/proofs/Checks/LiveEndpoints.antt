-- An endpoint that a capability names is live.
use Rattle.std.proofs.Common.{◌≡◌, ℕ, Bool, true, false, cond, ◌==◌, ◌||◌, List, [], ◌∷◌, map, Option, None, Some, Result, Ok, Err, refl, sym, ap, subst, eq-eqb}
use Rattle.std.specs.List.{list_any, filter_map, cons_option}
use Rattle.cap_core.specs.declared.capability.Badge.{Badge}
use Rattle.cap_core.specs.declared.capability.Cap.{Cap}
use Rattle.cap_core.specs.declared.capability.Cap.TheVariants.{Null, Untyped, Endpoint, CNode, Tcb}
use Rattle.kernel_forest.specs.Forest.{Forest, preorder}
use Rattle.kernel_forest.specs.Entries.{Entry, cap_at, cap_in}
use Rattle.cap_core.specs.declared.profile.ProfileName.{ProfileName}
use Rattle.cap_core.specs.Rights.{all_rights}
use Rattle.cap_core.specs.Checks.{◌>>=◌}
use Rattle.kernel_abstract.specs.declared.call.Op.{Op}
use Rattle.kernel_abstract.specs.declared.call.Op.TheVariants as op
use Rattle.kernel_abstract.specs.declared.invocation.Service.{Service}
use Rattle.kernel_abstract.specs.declared.invocation.Invocation.{Invocation}
use Rattle.kernel_abstract.specs.declared.invocation.Invocation.TheVariants.{Send, Receive, Retype, Derive, Move, Delete, Revoke, CancelBadged, SetSpace, Suspend, Resume}
use Rattle.kernel_abstract.specs.Shown.{tcb_base, endpoint_base, threads_of, endpoints_of}
use Rattle.kernel_abstract.specs.declared.reason.Right.{Right}
use Rattle.kernel_abstract.specs.declared.reason.Right.TheVariants.{Write, Read}
use Rattle.kernel_abstract.specs.declared.reason.Reason.{Reason}
use Rattle.kernel_abstract.specs.Decode.{service_in, right_bit, has_right, checked_invocation}
use Rattle.kernel_abstract.specs.Deletion.{checked_slot, ensure_all_rights, checked_badge}
use Rattle.kernel_abstract.proofs.Checks.FoundSlots.{passed, made_passed}

service_at : (b : Bool) (base : ℕ) (badge : Badge) (service : Service) (reason : Reason) →
    ◌≡◌ {A = Result Service Reason} (cond b (Ok (record { endpoint = base; badge = badge })) (Err reason))
    (Ok service) → Some base ≡ Some service.endpoint
service_at true base badge service reason h =
    let same : Service → Option ℕ = λ s. Some s.endpoint in
    let e : record_of base badge ≡ service = cc in
    ap same e
  where
    record_of : ℕ → Badge → Service
    record_of a b = record { endpoint = a; badge = b }
service_at false base badge service reason h = cc

pub service_endpoint : (needed : Right) (slot : ℕ) (cap : Cap) (service : Service) → service_in needed slot cap ≡ Ok service → endpoint_base cap ≡ Some service.endpoint
service_endpoint needed slot Null service h = cc
service_endpoint needed slot (Untyped base bits free) service h = cc
service_endpoint needed slot (Endpoint base badge rights) service h =
    service_at (has_right (right_bit needed) rights) base badge service _ h
service_endpoint needed slot (CNode base radix guard) service h = cc
service_endpoint needed slot (Tcb base) service h = cc

badged_endpoint : (slot : ℕ) (cap : Cap) (service : Service) → ensure_all_rights slot cap ≡ Ok service →
    endpoint_base cap ≡ Some service.endpoint
badged_endpoint slot Null service h = cc
badged_endpoint slot (Untyped base bits free) service h = cc
badged_endpoint slot (Endpoint base badge rights) service h =
    service_at (rights.0 == all_rights.0) base badge service _ h
badged_endpoint slot (CNode base radix guard) service h = cc
badged_endpoint slot (Tcb base) service h = cc

one_more : (e : ℕ) (o : Option ℕ) (ks : List ℕ) → list_any (λ k. e == k) ks ≡ true → list_any (λ k. e == k) (cons_option o ks) ≡ true
one_more e None ks h = h
one_more e (Some n) ks h = elim (e == n) as (λ b. (b || list_any (λ k. e == k) ks) ≡ true) [ true ↦ refl | false ↦ h ]

this_one : (e : ℕ) (o : Option ℕ) (ks : List ℕ) → o ≡ Some e → list_any (λ k. e == k) (cons_option o ks) ≡ true
this_one e o ks h = subst (λ (p : Option ℕ). list_any (λ k. e == k) (cons_option p ks) ≡ true) (sym h) (ap (λ b. b || list_any (λ k. e == k) ks) (eq-eqb e e refl))

-- an object that the capability in a slot names is among those that the slots name
named_in : (base_of : Cap → Option ℕ) (es : List Entry) (slot e : ℕ) → base_of (cap_in slot es) ≡ Some e → base_of (cap_in slot []) ≡ None → list_any (λ k. e == k) (filter_map base_of (map (λ (x : Entry). x.cap) es)) ≡ true
named_in base_of [] slot e h null = cc
named_in base_of (x ∷ es) slot e h null =
    elim (x.slot == slot) as (λ b. base_of (cond b x.cap (cap_in slot es)) ≡ Some e → list_any (λ k. e == k) (filter_map base_of (map (λ (y : Entry). y.cap) (x ∷ es))) ≡ true) [
      | true ↦ λ k. this_one e (base_of x.cap) _ k
      | false ↦ λ k. one_more e (base_of x.cap) _ (named_in base_of es slot e k null)
    ] h

pub live_at : (f : Forest Entry) (slot e : ℕ) → endpoint_base (cap_at f slot) ≡ Some e → list_any (λ k. e == k) (endpoints_of f) ≡ true
live_at f slot e h = named_in endpoint_base (preorder f) slot e h refl

pub thread_live_at : (f : Forest Entry) (slot t : ℕ) → tcb_base (cap_at f slot) ≡ Some t →
    list_any (λ k. t == k) (threads_of f) ≡ true
thread_live_at f slot t h = named_in tcb_base (preorder f) slot t h refl

-- the endpoint of an invocation is live, where it has one
abbrev pub HasLiveEndpoint : Forest Entry → Invocation → Type 0
HasLiveEndpoint f (Send service message block) = list_any (λ k. service.endpoint == k) (endpoints_of f) ≡ true
HasLiveEndpoint f (Receive service block) = list_any (λ k. service.endpoint == k) (endpoints_of f) ≡ true
HasLiveEndpoint f (Retype new) = Unit {0}
HasLiveEndpoint f (Derive placement) = Unit {0}
HasLiveEndpoint f (Move placement) = Unit {0}
HasLiveEndpoint f (Delete slot) = Unit {0}
HasLiveEndpoint f (Revoke slot) = Unit {0}
HasLiveEndpoint f (CancelBadged service) = list_any (λ k. service.endpoint == k) (endpoints_of f) ≡ true
HasLiveEndpoint f (SetSpace new) = Unit {0}
HasLiveEndpoint f (Suspend tcb) = Unit {0}
HasLiveEndpoint f (Resume tcb) = Unit {0}

badged_live : (p : ProfileName) (f : Forest Entry) (slot index depth : ℕ) (service : Service) →
    checked_badge p f slot index depth ≡ Ok service →
    list_any (λ k. service.endpoint == k) (endpoints_of f) ≡ true
badged_live p f slot index depth service h =
    let named = passed (checked_slot p f slot index depth) (λ s. ensure_all_rights s (cap_at f s)) service h in
    live_at f named.0 service.endpoint (badged_endpoint named.0 (cap_at f named.0) service named.1.1)

invocation_live : (p : ProfileName) (f : Forest Entry) (thread : ℕ) (op : Op) (slot : ℕ) (invocation : Invocation) → checked_invocation p f thread op slot ≡ Ok invocation → HasLiveEndpoint f invocation
invocation_live p f thread (op.Retype cap kind size_bits root index depth offset count) slot invocation h =
    made_passed (HasLiveEndpoint f) Retype _ invocation (λ new is. tt) h
invocation_live p f thread (op.CapCopy cap index depth src_root src_index src_depth rights) slot invocation h =
    made_passed (HasLiveEndpoint f) Derive _ invocation (λ placement is. tt) h
invocation_live p f thread (op.CapMint cap index depth src_root src_index src_depth rights word) slot invocation h =
    made_passed (HasLiveEndpoint f) Derive _ invocation (λ placement is. tt) h
invocation_live p f thread (op.CapMove cap index depth src_root src_index src_depth) slot invocation h =
    made_passed (HasLiveEndpoint f) Move _ invocation (λ placement is. tt) h
invocation_live p f thread (op.CapMutate cap index depth src_root src_index src_depth word) slot invocation h =
    made_passed (HasLiveEndpoint f) Move _ invocation (λ placement is. tt) h
invocation_live p f thread (op.CapDelete cap index depth) slot invocation h =
    made_passed (HasLiveEndpoint f) Delete _ invocation (λ cleared is. tt) h
invocation_live p f thread (op.CapRevoke cap index depth) slot invocation h =
    made_passed (HasLiveEndpoint f) Revoke _ invocation (λ revoked is. tt) h
invocation_live p f thread (op.CancelBadged cap index depth) slot invocation h =
    made_passed (HasLiveEndpoint f) CancelBadged _ invocation (badged_live p f slot index depth) h
invocation_live p f thread (op.Send cap message) slot invocation h =
    made_passed (HasLiveEndpoint f) (λ service. Send service message true) _ invocation
    (λ service is. live_at f slot service.endpoint (service_endpoint Write slot (cap_at f slot) service is)) h
invocation_live p f thread (op.NbSend cap message) slot invocation h =
    made_passed (HasLiveEndpoint f) (λ service. Send service message false) _ invocation
    (λ service is. live_at f slot service.endpoint (service_endpoint Write slot (cap_at f slot) service is)) h
invocation_live p f thread (op.Recv cap) slot invocation h =
    made_passed (HasLiveEndpoint f) (λ service. Receive service true) _ invocation
    (λ service is. live_at f slot service.endpoint (service_endpoint Read slot (cap_at f slot) service is)) h
invocation_live p f thread (op.NbRecv cap) slot invocation h =
    made_passed (HasLiveEndpoint f) (λ service. Receive service false) _ invocation
    (λ service is. live_at f slot service.endpoint (service_endpoint Read slot (cap_at f slot) service is)) h
invocation_live p f thread (op.SetSpace cap root word) slot invocation h =
    made_passed (HasLiveEndpoint f) SetSpace _ invocation (λ new is. tt) h
invocation_live p f thread (op.Suspend cap) slot invocation h =
    made_passed (HasLiveEndpoint f) Suspend _ invocation (λ tcb is. tt) h
invocation_live p f thread (op.Resume cap) slot invocation h =
    made_passed (HasLiveEndpoint f) Resume _ invocation (λ tcb is. tt) h

-- the endpoint that a call uses is live
pub found_live : (p : ProfileName) (f : Forest Entry) (thread : ℕ) (op : Op) (r : Result ℕ Reason) (invocation : Invocation) → (r >>= checked_invocation p f thread op) ≡ Ok invocation → HasLiveEndpoint f invocation
found_live p f thread op (Err reason) invocation h = cc
found_live p f thread op (Ok slot) invocation h = invocation_live p f thread op slot invocation h
