-- The proof of `lookup_path`: the goals that a search leaves open.
use Rattle.std.proofs.Common.{◌≡◌, sym, ap, subst, ◌∙◌, List, IfOk}
use Rattle.cap_core.specs.declared.capability.Cap.TheVariants.{Null}
use Rattle.kernel_forest.specs.Entries.{cap_at}
use Rattle.cspace_core.specs.Bits.{low_bits}
use Rattle.kernel_abstract.specs.Shown.{Shown}
use Rattle.kernel_abstract.specs.Memory.{IsSlotAddress}
use Rattle.kernel_core.proofs.Threads.Addresses.{no_cap}
use Rattle.kernel_abstract.specs.declared.reason.Held.{Held}
use Rattle.kernel_checks.proofs.Nowhere.{path_nowhere}
use Rattle.kernel_core.proofs.kernel.Kernel.lookup_path.Goals as goal

pub returns-in-None : goal.returns-in-None
returns-in-None g c =
    let nothing : cap_at c.args.self.now.derivations c.args.slot ≡ Null =
    ap (λ (v : Shown). cap_at v.derivations c.args.slot) (sym c.self.view_is)
    ∙ no_cap (g.S.CapStore.forest c.self.inside.store) c.args.slot (IsSlotAddress g.P.Profile.profile c.self.inside.threads.memory_bits) c.self.invariant.kernel.slots_placed c.in-None.ensures.none in
    subst (λ (items : List Held). IfOk c.path_of_one.result (λ path. path.items ≡ items))
    (path_nowhere g.P.Profile.profile (cap_at c.args.self.now.derivations) c.args.slot (low_bits c.args.bits c.args.address) nothing) c.path_of_one.ensures
