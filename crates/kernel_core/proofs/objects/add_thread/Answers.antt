-- The proof of `add_thread`: the goals that a search leaves open.
use Rattle.std.proofs.Common.{◌≡◌, ◌<◌, ◌/◌, ◌^◌, ℕ, Some, length, sym, ap, subst, ◌∙◌}
use Rattle.std.proofs.Math.ListN.{set}
use Rattle.cap_core.specs.Numbers.{tcb_size}
use Rattle.kernel_core.specs.Rows.{rows_map}
use Rattle.kernel_core.specs.Private.NewRows.{new_row}
use Rattle.cap_core.proofs.Sizes.{tcb_size-pos}
use Rattle.kernel_core.proofs.Threads.KeyedRows.{row_changed}
use Rattle.kernel_core.proofs.objects.add_thread.Goals as goal

pub put-requires : goal.put-requires
put-requires g c =
    let p = g.P.Profile.profile in
    let size : 2 ^ c.TCB_BITS.result ≡ tcb_size p = ap (λ (n : ℕ). 2 ^ n) (c.TCB_BITS.ensures ∙ g.met.P.Profile.tcb_bits_is) in
    subst (λ (n : ℕ). c.args.thread / n < length c.args.rows.now) (sym size) c.requires.within

pub returns-clause-map : goal.returns-clause-map
returns-clause-map g c =
    let p = g.P.Profile.profile in
    let size : 2 ^ c.TCB_BITS.result ≡ tcb_size p = ap (λ (n : ℕ). 2 ^ n) (c.TCB_BITS.ensures ∙ g.met.P.Profile.tcb_bits_is) in
    ap (rows_map (tcb_size p)) c.put.ensures
    ∙ ap (λ (n : ℕ). rows_map (tcb_size p) (set c.args.rows.now (c.args.thread / n) (Some new_row))) size
    ∙ row_changed (tcb_size p) c.args.thread c.args.rows.now new_row (tcb_size-pos p) c.requires.aligned c.requires.within
