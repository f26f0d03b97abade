-- What a delete, a revoke, and what is asked of a thread name that passed their checks.
use Rattle.std.proofs.Common.{◌≡◌, ℕ, ◌+◌, ◌%◌, ◌^◌, ◌≤◌, ◌⊎◌, Bool, true, false, cond, nat_le, ◌==◌, Ok, refl, sym, ap, subst, ◌∙◌, arith}
use Rattle.std.proofs.Math.Pow.{mod-mod-pow}
use Rattle.std.proofs.Math.Nat.{one-le-pow}
use Rattle.cap_core.specs.declared.profile.ProfileName.{ProfileName}
use Rattle.cap_core.specs.declared.profile.ProfileName.TheVariants.{Wide, Narrow}
use Rattle.cap_core.specs.declared.capability.Cap.{Cap}
use Rattle.cap_core.specs.declared.capability.Cap.TheVariants.{Null, Untyped, Endpoint, CNode, Tcb}
use Rattle.cap_core.specs.declared.capability.Kind.TheVariants as kind
use Rattle.cap_core.specs.Numbers.{word_bits, slot_size, tcb_bits}
use Rattle.cap_core.specs.Objects.{is_null, IsLawful}
use Rattle.cap_core.specs.Minting.{guard_held, guarded}
use Rattle.kernel_forest.specs.Forest.{Forest}
use Rattle.kernel_forest.specs.Entries.{Entry, cap_at}
use Rattle.cspace_core.specs.Resolution.{is_cnode}
use Rattle.kernel_abstract.specs.declared.invocation.NewSpace.{NewSpace}
use Rattle.kernel_abstract.specs.Memory.{IsSlotAddress}
use Rattle.kernel_abstract.specs.Shown.{tcb_base}
use Rattle.kernel_abstract.specs.declared.reason.Word.TheVariants.{Root, Index}
use Rattle.kernel_abstract.specs.Reasons.{held_at}
use Rattle.kernel_abstract.specs.Lookups.{slot_by_word, of_kind}
use Rattle.kernel_abstract.specs.CNodes.{no_data, ensure_set}
use Rattle.kernel_abstract.specs.Deletion.{checked_slot}
use Rattle.kernel_abstract.specs.Threads.{checked_tcb, space_cap, checked_space}
use Rattle.kernel_abstract.specs.Private.Invocations.{IsNamedSlot, IsLiveThread, IsSpace}
use Rattle.kernel_abstract.proofs.Checks.Walked.{index_passed}
use Rattle.kernel_abstract.proofs.Checks.FoundSlots.{passed, ok_same, lawful_at, lawful_full, full_at, target_passed}
use Rattle.kernel_abstract.proofs.Checks.LiveEndpoints.{thread_live_at}
use Rattle.kernel_abstract.proofs.Checks.PassedCNodeChecks.{IsRemade, itself_remade, where_some, guarded_remade, set_passed}

-- the slot that is named from a CNode stands in the memory
pub slot_shows : (p : ProfileName) (f : Forest Entry) (slot index depth target : ℕ) →
    checked_slot p f slot index depth ≡ Ok target → IsNamedSlot p f target
slot_shows p f slot index depth target h memory all =
    let node = passed (of_kind kind.CNode (held_at (cap_at f) slot)) _ target h in
    target_passed p memory f (cap_at f slot) index depth target all (lawful_at p memory f all slot)
    (index_passed p (cap_at f) Index slot index depth target node.1.1)

-- the capability of a thread
pub tcb_named : (slot : ℕ) (cap : Cap) (t : ℕ) → checked_tcb slot cap ≡ Ok t → cap ≡ Tcb t
tcb_named slot Null t h = cc
tcb_named slot (Untyped base bits free) t h = cc
tcb_named slot (Endpoint base badge rights) t h = cc
tcb_named slot (CNode base radix guard) t h = cc
tcb_named slot (Tcb base) t h = ap Tcb (ok_same base t h)

pub tcb_shows : (f : Forest Entry) (slot t : ℕ) → checked_tcb slot (cap_at f slot) ≡ Ok t → IsLiveThread f t
tcb_shows f slot t h = thread_live_at f slot t (ap tcb_base (tcb_named slot (cap_at f slot) t h))

-- a thread's root slot stands where its control block does
pub thread_slot : (p : ProfileName) (memory base : ℕ) → IsLawful p memory (Tcb base) → IsSlotAddress p memory base
thread_slot p memory base lawful =
    record {
      aligned = aligned p lawful.placed.aligned;
      within = let end = lawful.placed.within in let some : 1 ≤ 2 ^ tcb_bits p =
          one-le-pow (tcb_bits p) 2 (omega arith) in omega (arith, end, some);
    }
  where
    aligned : (q : ProfileName) → base % 2 ^ tcb_bits q ≡ 0 → base % slot_size q ≡ 0
    aligned Wide h = sym (mod-mod-pow base 6 5) ∙ ap (λ n. n % 2 ^ 5) h
    aligned Narrow h = sym (mod-mod-pow base 6 4) ∙ ap (λ n. n % 2 ^ 4) h

pub tcb_placed : (p : ProfileName) (f : Forest Entry) (slot t : ℕ) → cap_at f slot ≡ Tcb t → IsNamedSlot p f t
tcb_placed p f slot t names memory all =
    thread_slot p memory t
    (lawful_full p memory (Tcb t) refl
    (subst (λ cap. (cap ≡ Null) ⊎ IsLawful p memory cap) names (lawful_at p memory f all slot)))

-- the capability of a CNode, as it is or with another guard
record IsSpaceCap (p : ProfileName) (cap made : Cap) : Type 0 where
  full : is_null cap ≡ false
  remade : IsRemade p cap made
  node : is_cnode made ≡ true

space_made : (p : ProfileName) (word source : ℕ) (cap made : Cap) → space_cap p word source cap ≡ Ok made → IsSpaceCap p cap made
space_made p word source Null made h = cc
space_made p word source (Untyped base bits free) made h = cc
space_made p word source (Endpoint base badge rights) made h = cc
space_made p word source (CNode base radix guard) made h = by (word == 0) h
  where
    by : (none : Bool) →
        cond none (Ok (CNode base radix guard)) (ensure_set (no_data p Root word source (CNode base radix guard)) (guarded p base radix (guard_held p word))) ≡ Ok made →
        IsSpaceCap p (CNode base radix guard) made
    by true h =
        let same = ok_same (CNode base radix guard) made h in
        record {
          full = refl;
          remade = subst (IsRemade p (CNode base radix guard)) same
              (itself_remade p (CNode base radix guard) refl);
          node = sym (ap is_cnode same);
        }
    by false h =
        let held = guard_held p word in
        let set = set_passed _ (guarded p base radix held) made h in
        let same = (where_some (nat_le (held.size + radix) (word_bits p)) (CNode base radix held) made set).1 in
        record { full = refl; remade = guarded_remade p base radix word guard made set; node = sym (ap is_cnode same) }
space_made p word source (Tcb base) made h = cc

pub space_shows : (p : ProfileName) (f : Forest Entry) (thread slot root word : ℕ) (new : NewSpace) →
    checked_space p f thread slot root word ≡ Ok new → IsSpace p f new
space_shows p f thread slot root word new h =
    let tcb = passed (checked_tcb slot (cap_at f slot)) _ new h in
    let source = passed (slot_by_word p f Root thread root) _ new tcb.1.1 in
    let cap = passed (space_cap p word source.0 (cap_at f source.0)) _ new source.1.1 in
    let found : NewSpace = record { tcb = tcb.0; invoked = slot; source = source.0; cap = cap.0 } in
    let names = tcb_named slot (cap_at f slot) tcb.0 tcb.1.0 in
    let is = space_made p word source.0 (cap_at f source.0) cap.0 cap.1.0 in
    subst (IsSpace p f) (ok_same found new cap.1.1)
    (record {
      live = tcb_shows f slot tcb.0 tcb.1.0;
      root = tcb_placed p f slot tcb.0 names;
      full = full_at f source.0 is.full;
      invoked = full_at f slot (ap is_null names);
      names = names;
      lawful =
          λ memory all. is.remade.lawful memory
          (lawful_full p memory (cap_at f source.0) is.full (lawful_at p memory f all source.0));
      remade = is.remade.lawful;
      same = is.remade.same;
      node = is.node;
    })
