-- What the threads of a closed part name lies in it; and the least parts are the only ones.
use Rattle.std.proofs.Common.{◌≡◌, ℕ, inl, inr, true, List, [], Option, Some, None}
use Rattle.std.proofs.lemmas.Bool.{false≢true}
use Rattle.cap_core.specs.declared.profile.ProfileName.{ProfileName}
use Rattle.cap_core.specs.declared.capability.Cap.TheVariants.{Tcb}
use Rattle.kernel_forest.specs.Forest.{Forest}
use Rattle.kernel_forest.specs.Entries.{Entry, cap_at}
use Rattle.kernel_delete.proofs.Members.{all_in}
use Rattle.kernel_delete.proofs.Clearable.{contains_in}
use Rattle.kernel_abstract.specs.Shown.{Shown}
use Rattle.kernel_abstract.specs.State.{State, shown}
use Rattle.kernel_abstract.specs.Step.{state_after}
use Rattle.kernel_abstract.specs.Reached.{IsReached}
use Rattle.query_parts.specs.declared.listed.PartMemory.{PartMemory}
use Rattle.query_parts.specs.declared.listed.PartUse.{PartUse}
use Rattle.query_parts.specs.Parts.{Parts, IsOwned}
use Rattle.query_parts.specs.Listed.{part_at, parts_listed}
use Rattle.query_parts.specs.Order.{owns_block, has_block}
use Rattle.query_parts.specs.Laws.{AreClosed, NamesItsOwn}
use Rattle.query_parts.specs.Least.{AreClosedAround, AreLeastAround, LieInEachOther}
use Rattle.query_parts.proofs.Found.{invoked_owned, target_owned}
use Rattle.query_parts.proofs.Tested.{range_owned}

pub names_its_own : (p : ProfileName) (parts : Parts) (i : ℕ) (f : Forest Entry) (thread : ℕ) → NamesItsOwn p parts i f thread
names_its_own p parts i f thread closed own slot (inl (word, leads)) = invoked_owned p parts i f closed thread word slot own leads
names_its_own p parts i f thread closed own slot (inr (word, (root, (held, (index, (depth, named)))))) =
    target_owned p parts i f closed (cap_at f root) index depth slot (closed root (invoked_owned p parts i f closed thread word root own held)) named

module _ (p : ProfileName) (threads : List ℕ) (v : Shown) (memory : List PartMemory) (uses : List PartUse) (L : AreLeastAround p threads v memory uses)
    (A : State) (reached : IsReached p A) (is : v ≡ shown A) where
  closed_now : AreClosed p (parts_listed memory uses) A
  unfolding state_after
  closed_now = (L.ever A reached is [] tt).closed

  block_owned : (t : ℕ) (o : Option ℕ) → owns_block p memory t o ≡ true → (j : ℕ) × IsOwned p (parts_listed memory uses) j (Tcb t)
  block_owned t None h = absurd (false≢true h)
  block_owned t (Some part) h = (part, range_owned p memory uses part (Tcb t) h)

  pub closed_around : AreClosedAround p threads A (parts_listed memory uses)
  closed_around = record {
    closed = closed_now;
    around = λ t has. block_owned t (part_at memory t) (all_in (has_block p memory) threads t L.around (contains_in threads t has));
  }

pub lie_in_each_other : (p : ProfileName) (threads : List ℕ) (v : Shown) (memory : List PartMemory) (uses : List PartUse) (memory' : List PartMemory) (uses' : List PartUse) →
    LieInEachOther p threads v memory uses memory' uses'
lie_in_each_other p threads v memory uses memory' uses' L M A reached is = (
  L.least A reached is (parts_listed memory' uses') (closed_around p threads v memory' uses' M A reached is),
  M.least A reached is (parts_listed memory uses) (closed_around p threads v memory uses L A reached is),
)
