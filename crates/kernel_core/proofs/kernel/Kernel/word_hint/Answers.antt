-- The proof of `word_hint`: the goals that a search leaves open.
use Rattle.std.proofs.Common.{◌≡◌, sym, ap, ◌∙◌}
use Rattle.cap_core.specs.declared.capability.Cap.TheVariants.{Null}
use Rattle.kernel_forest.specs.Entries.{cap_at}
use Rattle.kernel_abstract.specs.Shown.{Shown}
use Rattle.kernel_abstract.specs.Memory.{IsSlotAddress}
use Rattle.kernel_core.proofs.Threads.Addresses.{no_cap}
use Rattle.kernel_checks.proofs.Nowhere.{word_hint_nowhere}
use Rattle.kernel_core.proofs.kernel.Kernel.word_hint.Goals as goal

pub returns-in-None : goal.returns-in-None
returns-in-None g c =
    let nothing : cap_at c.args.self.now.derivations c.args.root ≡ Null =
    ap (λ (v : Shown). cap_at v.derivations c.args.root) (sym c.self.view_is)
    ∙ no_cap (g.S.CapStore.forest c.self.inside.store) c.args.root (IsSlotAddress g.P.Profile.profile c.self.inside.threads.memory_bits) c.self.invariant.kernel.slots_placed c.in-None.ensures.none in
    word_hint_nowhere g.P.Profile.profile c.args.self.now.derivations c.args.root c.args.word nothing
