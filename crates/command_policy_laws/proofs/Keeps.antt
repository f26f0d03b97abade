-- What is kept is held, and the least parts keep to a policy where any larger ones do.
use Rattle.std.proofs.Common.{◌≡◌, ℕ, inl, inr, Bool, List, [], Option, Some, subst}
use Rattle.cap_core.specs.declared.profile.ProfileName.{ProfileName}
use Rattle.cap_core.specs.declared.capability.Badge.{Badge}
use Rattle.cap_core.specs.declared.capability.Cap.{Cap}
use Rattle.cap_core.specs.declared.capability.Cap.TheVariants.{Null, Untyped, Endpoint, CNode, Tcb}
use Rattle.cap_core.specs.declared.message.Message.{Message}
use Rattle.cap_core.specs.declared.rights.Rights.{Rights}
use Rattle.cap_core.specs.Rights.{write_bit, read_bit}
use Rattle.kernel_forest.specs.Forest.{Forest}
use Rattle.kernel_forest.specs.Entries.{Entry, cap_at}
use Rattle.kernel_forest.proofs.Trees.Forests.{each-weaker}
use Rattle.kernel_abstract.specs.declared.call.Reply.{Reply}
use Rattle.kernel_abstract.specs.declared.call.Reply.TheVariants.{Done, Delivered, Waiting, Dropped, Empty, Refused}
use Rattle.kernel_abstract.specs.Shown.{Shown}
use Rattle.kernel_abstract.specs.State.{shown}
use Rattle.kernel_abstract.specs.Step.{state_after, replies_of}
use Rattle.query_parts.specs.declared.listed.PartMemory.{PartMemory}
use Rattle.query_parts.specs.declared.listed.PartUse.{PartUse}
use Rattle.query_parts.specs.Parts.{Parts, IsWithin}
use Rattle.query_parts.specs.Listed.{part_at, parts_listed}
use Rattle.query_parts.proofs.Delivered.{tell_within}
use Rattle.query_parts.specs.Delivered.{WaitsOrMaySend, WaitsOrMayReceive, TellsOnlyOfThose}
use Rattle.query_parts.specs.Least.{LieIn}
use Rattle.command_policy_laws.specs.Larger.{HoldsNoLess}
use Rattle.command_policy_laws.specs.Takes.{StandBelowOnly}
use Rattle.command_policy_laws.specs.Keeps.{WaitsOrPartSends, WaitsOrPartHears, KeepPolicy, LeastKeepMost, IsHeld, TellsPassed, WhatIsKeptIsHeld}
use Rattle.command_policy_laws.proofs.Larger.{hold_no_less}
use Rattle.command_never.proofs.Kept.{now_closed}

module _ (p : ProfileName) (v : Shown) (parts others : Parts) (lie : LieIn p parts others) where
  larger : ℕ → ℕ
  larger i = (lie i).0

  there : (a i : ℕ) → parts.part_of a ≡ Some i → others.part_of a ≡ Some (larger i)
  unfolding larger
  there a i at = (lie i).1.memory a at

  no_less : (i : ℕ) → HoldsNoLess p parts i others (larger i)
  unfolding larger
  no_less i = hold_no_less p parts i others (lie i).0 (lie i).1

  sends_there : (e t : ℕ) (badge : Badge) (message : Message) → WaitsOrPartSends p parts v e t badge message → WaitsOrPartSends p others v e t badge message
  sends_there e t badge message (inl waits) = inl waits
  sends_there e t badge message (inr (i, (at, may))) = inr (larger i, (there t i at, (no_less i).uses write_bit e badge may))

  receives_there : (e u : ℕ) → WaitsOrPartHears p parts v e u → WaitsOrPartHears p others v e u
  receives_there e u (inl waits) = inl waits
  receives_there e u (inr (i, (at, (badge, may)))) = inr (larger i, (there u i at, (badge, (no_less i).uses read_bit e badge may)))

  module _ (group_of : ℕ → Option ℕ) (is_live : ℕ → Bool) (may_hold : ℕ → ℕ → Badge → Rights → Bool) (may_pass : ℕ → ℕ → Badge → ℕ → Bool)
      (keep : KeepPolicy p group_of is_live may_hold may_pass v others) where
    pub kept_by_less : KeepPolicy p group_of is_live may_hold may_pass v parts
    kept_by_less = record {
      apart = λ t u i g h at to own other. keep.apart t u (larger i) g h (there t i at) (there u i to) own other;
      holds = λ t i g endpoint badge rights at own live within.
          keep.holds t (larger i) g endpoint badge rights (there t i at) own live ((no_less i).holds (Endpoint endpoint badge rights) within);
      passes = λ t u g h endpoint badge message own other differ sends receives.
          keep.passes t u g h endpoint badge message own other differ (sends_there endpoint t badge message sends) (receives_there endpoint u receives);
    }

  below_by_less : (group_of : ℕ → Option ℕ) (may_take : ℕ → ℕ → Bool) (f : Forest Entry) → StandBelowOnly group_of may_take f others → StandBelowOnly group_of may_take f parts
  below_by_less group_of may_take f keep t u i j g h slot e at to own other differ mine under theirs =
      keep t u (larger i) (larger j) g h slot e (there t i at) (there u j to) own other differ (there slot i mine) under (there e.slot j theirs)

pub least_keep_most : (p : ProfileName) (threads : List ℕ) (memory : List PartMemory) (uses : List PartUse) (v : Shown) → LeastKeepMost p threads memory uses v
least_keep_most p threads memory uses v group_of is_live may_hold may_pass may_take least A reached is others closed = (
  kept_by_less p v (parts_listed memory uses) others (least A reached is others closed) group_of is_live may_hold may_pass,
  below_by_less p v (parts_listed memory uses) others (least A reached is others closed) group_of may_take A.derivations,
)

-- ---- what is kept is held

module _ (p : ProfileName) (memory : List PartMemory) (uses : List PartUse) (v : Shown) (group_of : ℕ → Option ℕ) (is_live : ℕ → Bool)
    (may_hold : ℕ → ℕ → Badge → Rights → Bool) (may_pass : ℕ → ℕ → Badge → ℕ → Bool)
    (keep : KeepPolicy p group_of is_live may_hold may_pass v (parts_listed memory uses)) where
  is_held : (t i g : ℕ) (cap : Cap) → part_at memory t ≡ Some i → group_of t ≡ Some g → IsWithin p (parts_listed memory uses) i cap → IsHeld is_live may_hold g cap
  is_held t i g Null at own within = tt
  is_held t i g (Untyped base bits free) at own within = tt
  is_held t i g (Endpoint base badge rights) at own within = λ live. keep.holds t i g base badge rights at own live within
  is_held t i g (CNode base radix guard) at own within = tt
  is_held t i g (Tcb base) at own within = tt

  sends_of : (e t i : ℕ) (badge : Badge) (message : Message) → part_at memory t ≡ Some i → WaitsOrMaySend p (parts_listed memory uses) v e t badge message →
      WaitsOrPartSends p (parts_listed memory uses) v e t badge message
  sends_of e t i badge message at (inl waits) = inl waits
  sends_of e t i badge message at (inr may) = inr (i, (at, may i at))

  hears_of : (e u j : ℕ) → part_at memory u ≡ Some j → WaitsOrMayReceive p (parts_listed memory uses) v e u → WaitsOrPartHears p (parts_listed memory uses) v e u
  hears_of e u j at (inl waits) = inl waits
  hears_of e u j at (inr may) = inr (j, (at, may j at))

  tells_passed : (reply : Reply) → TellsOnlyOfThose p (parts_listed memory uses) v reply → TellsPassed memory group_of may_pass reply
  tells_passed Done told = tt
  tells_passed Waiting told = tt
  tells_passed Dropped told = tt
  tells_passed Empty told = tt
  tells_passed (Refused refusal) told = tt
  tells_passed (Delivered endpoint from to badge message) told =
      λ i j g h here there own other differ. keep.passes from to g h endpoint badge message own other differ (sends_of endpoint from i badge message here told.0) (hears_of endpoint to j there told.1)

pub kept_held : (p : ProfileName) (memory : List PartMemory) (uses : List PartUse) (v : Shown) → WhatIsKeptIsHeld p memory uses v
kept_held p memory uses v group_of is_live may_hold may_pass confined keep A reached is calls of = record {
  slots = λ t i g slot at own here. is_held p memory uses v group_of is_live may_hold may_pass keep t i g (cap_at (state_after p A calls).derivations slot) at own
      ((confined A reached is calls of).closed i slot here);
  deliveries = each-weaker (TellsOnlyOfThose p (parts_listed memory uses) (shown A)) (TellsPassed memory group_of may_pass)
      (tells_passed p memory uses (shown A) group_of is_live may_hold may_pass (subst (λ (w : Shown). KeepPolicy p group_of is_live may_hold may_pass w (parts_listed memory uses)) is keep))
      (replies_of p A calls)
      (tell_within p (parts_listed memory uses) A calls reached (now_closed p memory uses [] 0 0 v confined A reached is) of);
}
