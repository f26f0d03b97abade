-- The threads of a booted kernel.
use Rattle.std.proofs.Common.{◌≡◌, ℕ, zero, suc, ◌+◌, ◌-◌, ◌*◌, ◌/◌, ◌^◌, ◌<◌, ◌≤◌, true, false, cond, ◌&&◌, ◌||◌, ◌==◌, nat_lt, nat_le, List, [], ◌∷◌, map, None, Some, is_some, find, refl, sym, ◌∙◌, ap, arith}
use Rattle.std.specs.List.{list_any, range_with_len}
use Rattle.std.specs.Ordering.{nat_cmp}
use Rattle.std.specs.FinMap.{get, from_entries}
use Rattle.std.proofs.lemmas.Bool.Decides.{nat_tests}
use Rattle.cap_core.specs.declared.profile.ProfileName.{ProfileName}
use Rattle.cap_core.specs.declared.profile.ProfileName.TheVariants.{Wide, Narrow}
use Rattle.cap_core.specs.Numbers.{slot_bits, tcb_size}
use Rattle.ipc_core.specs.Waits.{no_waits}
use Rattle.kernel_core.specs.declared.rows.ThreadRow.{ThreadRow}
use Rattle.mem_core.specs.Plans.{least_multiple}
use Rattle.kernel_abstract.specs.Plan.{Plan, first_tcb, tcb_place}
use Rattle.kernel_abstract.specs.Shown.{ThreadView, threads_of, endpoints_of, table}
use Rattle.kernel_abstract.specs.State.{shown, thread_view}
use Rattle.kernel_core.specs.Rows.{keyed, rows_map, view_of, threads_shown, kernel_shown}
use Rattle.kernel_core.specs.Private.BootRows.{ready_row, boot_row, boot_rows}
use Rattle.kernel_abstract.specs.Boot.{boot_tcbs, boot_forest, boot}
use Rattle.kernel_abstract.proofs.Lists.Tables.{at, get_at}
use Rattle.kernel_abstract.proofs.Boot.BootedThreads.{threads_at_boot}

-- the rows

is_within : (first threads k : ℕ) → first ≤ k → k < first + threads → (nat_le first k && nat_lt k (first + threads)) ≡ true
is_within first threads k low high = grind (arith, nat_tests)

is_before : (first threads k : ℕ) → k < first → (nat_le first k && nat_lt k (first + threads)) ≡ false
is_before first threads k low = grind (arith, nat_tests)

is_past : (first threads k : ℕ) → first + threads ≤ k → (nat_le first k && nat_lt k (first + threads)) ≡ false
is_past first threads k high = grind (arith, nat_tests)

keyed_past : (size first threads a n : ℕ) → first + threads ≤ a → keyed size a (map (boot_row first threads) (range_with_len a n)) ≡ []
keyed_past size first threads a zero h = refl
keyed_past size first threads a (suc n) h = rw (is_past first threads a h) (keyed_past size first threads (a + 1) n (omega arith))

abbrev row_at : (ℕ → ℕ) → ℕ → ℕ × ThreadRow
row_at f i = (f i, ready_row)

-- from the row of thread j on
keyed_within : (size first threads j n rest : ℕ) → j + n ≡ threads → keyed size (first + j) (map (boot_row first threads) (range_with_len (first + j) (n + rest))) ≡ map (row_at (λ i. size * (first + i))) (range_with_len j n)
keyed_within size first threads j zero rest h =
    let e : 0 + rest ≡ rest = omega arith in
    ap (λ m. keyed size (first + j) (map (boot_row first threads) (range_with_len (first + j) m))) e ∙ keyed_past size first threads (first + j) rest (omega arith)
keyed_within size first threads j (suc n) rest h =
    let e : suc n + rest ≡ suc (n + rest) = omega arith in
    let f : first + j + 1 ≡ first + (j + 1) = omega arith in
    ap (λ m. keyed size (first + j) (map (boot_row first threads) (range_with_len (first + j) m))) e
    ∙ rw (is_within first threads (first + j) (omega arith) (omega arith)) (ap (λ m. (size * (first + j), ready_row) ∷ keyed size m (map (boot_row first threads) (range_with_len m (n + rest)))) f ∙ ap (λ l. (size * (first + j), ready_row) ∷ l) (keyed_within size first threads (j + 1) n rest (omega arith)))

keyed_before : (size first threads a before rest : ℕ) → a + before ≡ first → keyed size a (map (boot_row first threads) (range_with_len a (before + (threads + rest)))) ≡ map (row_at (λ i. size * (first + i))) (range_with_len 0 threads)
keyed_before size first threads a zero rest h =
    let e : 0 + (threads + rest) ≡ threads + rest = omega arith in
    let f : a ≡ first + 0 = omega arith in
    ap (λ m. keyed size a (map (boot_row first threads) (range_with_len a m))) e
    ∙ ap (λ m. keyed size m (map (boot_row first threads) (range_with_len m (threads + rest)))) f
    ∙ keyed_within size first threads 0 threads rest (omega arith)
keyed_before size first threads a (suc before) rest h =
    let e : suc before + (threads + rest) ≡ suc (before + (threads + rest)) = omega arith in
    ap (λ m. keyed size a (map (boot_row first threads) (range_with_len a m))) e
    ∙ rw (is_before first threads a (omega arith)) (keyed_before size first threads (a + 1) before rest (omega arith))

-- what is shown

find_none : (l : List ℕ) → find (λ n. false) l ≡ None
find_none [] = refl
find_none (n ∷ l) = find_none l

ready : (p : ProfileName) (plan : Plan) (base : ℕ) → thread_view (boot p plan) base ≡ view_of None ready_row
unfolding boot
ready p plan base = rw (find_none (endpoints_of (boot_forest p plan))) refl

abbrev seen : ℕ × ThreadRow → ℕ × ThreadView
seen e = (e.0, view_of None e.1)

abbrev seen_ready : ℕ → ℕ × ThreadView
seen_ready k = (k, view_of None ready_row)

abbrev seen_in : (ℕ → ThreadView) → ℕ → ℕ × ThreadView
seen_in f k = (k, f k)

viewed : (f : ℕ → ℕ) (a n : ℕ) → map seen (map (row_at f) (range_with_len a n)) ≡ map seen_ready (map f (range_with_len a n))
viewed f a zero = refl
viewed f a (suc n) = ap (λ l. seen_ready (f a) ∷ l) (viewed f (a + 1) n)

-- the first thread control block is at a place of one
first_place : (p : ProfileName) (n : ℕ) → tcb_size p * (least_multiple (tcb_size p) n / tcb_size p) ≡ least_multiple (tcb_size p) n
first_place Wide n = omega arith
first_place Narrow n = omega arith

pub places : (p : ProfileName) (plan : Plan) (i : ℕ) → tcb_size p * (first_tcb p plan / tcb_size p + i) ≡ tcb_place p plan i
places p plan i = let e = first_place p (2 ^ (slot_bits p + plan.root_radix)) in omega arith

-- each boot thread has its row
rows_at_boot : (p : ProfileName) (plan : Plan) (count : ℕ) → first_tcb p plan / tcb_size p + plan.threads ≤ count
    → keyed (tcb_size p) 0 (boot_rows (first_tcb p plan / tcb_size p) plan.threads count) ≡ map (row_at (tcb_place p plan)) (range_with_len 0 plan.threads)
rows_at_boot p plan count h =
    ap (λ n. keyed (tcb_size p) 0 (map (boot_row first plan.threads) (range_with_len 0 n))) (let e : count ≡ first + (plan.threads + (count - (first + plan.threads))) = omega arith in e)
    ∙ keyed_before (tcb_size p) first plan.threads 0 first (count - (first + plan.threads)) (omega arith)
    ∙ ap (λ (f : ℕ → ℕ). map (row_at f) (range_with_len 0 plan.threads)) (λ j i. places p plan i j)
  where
    first : ℕ
    first = first_tcb p plan / tcb_size p

-- and so the live threads have rows, and no others
pub live_at_boot : (p : ProfileName) (plan : Plan) (count : ℕ) → first_tcb p plan / tcb_size p + plan.threads ≤ count
    → (t : ℕ) → is_some (get (rows_map (tcb_size p) (boot_rows (first_tcb p plan / tcb_size p) plan.threads count)) t) ≡ list_any (λ k. t == k) (threads_of (boot_forest p plan))
live_at_boot p plan count h t =
    ap (λ (es : List (ℕ × ThreadRow)). is_some (get (from_entries {R = nat_cmp} es) t)) (rows_at_boot p plan count h)
    ∙ ap is_some (get_at (map (row_at (tcb_place p plan)) (range_with_len 0 plan.threads)) t)
    ∙ among (range_with_len 0 plan.threads)
    ∙ ap (list_any (λ k. t == k)) (sym (threads_at_boot p plan))
  where
    among : (l : List ℕ) → is_some (at t (map (row_at (tcb_place p plan)) l)) ≡ list_any (λ k. t == k) (map (tcb_place p plan) l)
    among [] = refl
    among (i ∷ l) =
        elim (t == tcb_place p plan i) as (λ b. is_some (cond b (Some ready_row) (at t (map (row_at (tcb_place p plan)) l))) ≡ (b || list_any (λ k. t == k) (map (tcb_place p plan) l))) [
          | true ↦ refl
          | false ↦ among l
        ]

pub shows_boot : (p : ProfileName) (plan : Plan) (count : ℕ) → first_tcb p plan / tcb_size p + plan.threads ≤ count
    → kernel_shown p (boot_forest p plan) (boot_rows (first_tcb p plan / tcb_size p) plan.threads count) no_waits ≡ shown (boot p plan)
unfolding shown boot
shows_boot p plan count h = λ i. record { derivations = boot_forest p plan; threads = threads i; endpoints = table (endpoints_of (boot_forest p plan)) (λ e. []) }
  where
    first : ℕ
    first = first_tcb p plan / tcb_size p

    threads : threads_shown (tcb_size p) (boot_rows first plan.threads count) no_waits ≡ table (threads_of (boot_forest p plan)) (thread_view (boot p plan))
    threads =
        ap (λ l. from_entries (map seen l)) (rows_at_boot p plan count h)
        ∙ ap from_entries (viewed (tcb_place p plan) 0 plan.threads)
        ∙ ap (λ (f : ℕ → ThreadView). from_entries (map (seen_in f) (boot_tcbs p plan))) (λ j k. sym (ready p plan k) j)
        ∙ ap (λ l. table l (thread_view (boot p plan))) (sym (threads_at_boot p plan))
