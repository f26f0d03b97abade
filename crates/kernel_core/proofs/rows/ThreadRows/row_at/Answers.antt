-- The proof of `row_at`: the goals that a search leaves open.
use Rattle.std.proofs.Common.{◌≡◌, ◌<◌, ◌≤◌, ◌/◌, ◌%◌, ◌^◌, ℕ, List, Option, None, get_or, length, sym, ap, subst, ◌∙◌, arith}
use Rattle.std.proofs.lemmas.List.{get_or_default}
use Rattle.std.specs.FinMap.{get}
use Rattle.cap_core.specs.Numbers.{tcb_size}
use Rattle.cap_core.proofs.Sizes.{tcb_size-pos, tcb_size-shifted}
use Rattle.kernel_core.specs.declared.rows.ThreadRow.{ThreadRow}
use Rattle.kernel_core.specs.Rows.{rows_map}
use Rattle.kernel_core.proofs.Threads.KeyedRows.{get_row, get_no_row, get_row_past}
use Rattle.kernel_core.proofs.rows.ThreadRows.row_at.Goals as goal
use Rattle.kernel_core.proofs.rows.ThreadRows.row_at.Goals.{then-thread-TCB_BITS-ne0-via-then-thread-TCB_BITS-ne0, then-thread-TCB_BITS-ne0-via-else-thread-TCB_BITS-ne0+then-place-len}

pub returns-then-thread-TCB_BITS-ne0 : goal.returns-then-thread-TCB_BITS-ne0
returns-then-thread-TCB_BITS-ne0 g c =
    let p = g.P.Profile.profile in
    let t = c.args.thread in
    let size : 2 ^ c.TCB_BITS.result ≡ tcb_size p = ap (λ (n : ℕ). 2 ^ n) (c.TCB_BITS.ensures ∙ g.met.P.Profile.tcb_bits_is) in
    let size' = tcb_size-shifted p c.TCB_BITS-2.result (c.TCB_BITS-2.ensures ∙ g.met.P.Profile.tcb_bits_is) in
    elim c.then-thread-TCB_BITS-ne0.branch [
      | then-thread-TCB_BITS-ne0-via-then-thread-TCB_BITS-ne0 w ↦
          sym (get_no_row (tcb_size p) t c.args.self.now (λ e. w.if-thread-TCB_BITS-ne0.true (ap (λ (n : ℕ). t % n) size' ∙ e)))
      | then-thread-TCB_BITS-ne0-via-else-thread-TCB_BITS-ne0+then-place-len w ↦
          let le : length c.args.self.now ≤ t / 2 ^ c.TCB_BITS.result = omega (arith, ap length c.self.view_is) in
          sym (get_row_past (tcb_size p) t c.args.self.now (tcb_size-pos p) (sym (ap (λ (n : ℕ). t % n) size') ∙ w.if-thread-TCB_BITS-ne0.false)
          (subst (λ (n : ℕ). length c.args.self.now ≤ t / n) size le))
    ]

pub returns : goal.returns
returns g c =
    let p = g.P.Profile.profile in
    let t = c.args.thread in
    let rows = c.self.inside.places.items in
    let size : 2 ^ c.TCB_BITS.result ≡ tcb_size p = ap (λ (n : ℕ). 2 ^ n) (c.TCB_BITS.ensures ∙ g.met.P.Profile.tcb_bits_is) in
    let size' = tcb_size-shifted p c.TCB_BITS-2.result (c.TCB_BITS-2.ensures ∙ g.met.P.Profile.tcb_bits_is) in
    let lt : t / 2 ^ c.TCB_BITS.result < length rows = omega arith in
    c.index.ensures
    ∙ sym (get_or_default rows (t / 2 ^ c.TCB_BITS.result) None c.index.result.now lt)
    ∙ ap (λ (n : ℕ). get_or rows (t / n) None) size
    ∙ sym (get_row (tcb_size p) t rows (tcb_size-pos p) (sym (ap (λ (n : ℕ). t % n) size') ∙ c.if-thread-TCB_BITS-ne0.false))
    ∙ ap (λ (l : List (Option ThreadRow)). get (rows_map (tcb_size p) l) t) c.self.view_is
