use Rattle.kernel_core.proofs.Saved.SavedKernels.{saved_rows, saved_kernel, saved_shown}
use Rattle.kernel_core.proofs.kernel.Kernel.save.Goals as goal

pub invariant_of-result : goal.invariant_of-result
invariant_of-result g c =
    let p = g.P.Profile.profile in
    let memory = c.self.inside.threads.memory_bits in
    let store = g.S.CapStore.memory_bits c.self.inside.store in
    let waiters = g.W.Waiters.memory_bits c.self.inside.threads.waiters in
    let f = g.S.CapStore.forest c.self.inside.store in
    let rows = c.self.inside.threads.rows in
    let live = c.in_ok-rows.rows.items in
    let w = g.W.Waiters.waits c.self.inside.threads.waiters in
    saved_kernel p memory store waiters _ _ f _ rows _ w _ c.self.invariant.kernel c.in_ok-save.ensures.memory c.in_ok-save-2.ensures.memory c.in_ok-save.ensures.forest
    (saved_rows p memory store waiters f rows w live c.self.invariant.kernel c.in_ok-rows.ensures) c.in_ok-save-2.ensures.waits

pub returns : goal.returns
returns g c =
    let p = g.P.Profile.profile in
    let memory = c.self.inside.threads.memory_bits in
    let store = g.S.CapStore.memory_bits c.self.inside.store in
    let waiters = g.W.Waiters.memory_bits c.self.inside.threads.waiters in
    let f = g.S.CapStore.forest c.self.inside.store in
    let rows = c.self.inside.threads.rows in
    let live = c.in_ok-rows.rows.items in
    let w = g.W.Waiters.waits c.self.inside.threads.waiters in
    saved_shown p f _ rows _ w _ c.args.self.now c.self.view_is c.in_ok-save.ensures.forest (saved_rows p memory store waiters f rows w live c.self.invariant.kernel c.in_ok-rows.ensures) c.in_ok-save-2.ensures.waits
