use Rattle.std.proofs.Common.{◌≢◌, Bool, ◌≤◌, ◌*◌, ◌^◌, ℕ, not, ◌||◌, sym, ap, subst, ◌∙◌, rules}
use Rattle.std.proofs.lemmas.Fn.{filter_same}
use Rattle.std.proofs.lemmas.List.Kept.{AllPairs-filter}
use Rattle.std.proofs.lemmas.List.Elements.{All-filter}
use Rattle.cap_core.specs.Numbers.{tcb_size}
use Rattle.cap_core.specs.declared.capability.Badge.{Badge}
use Rattle.ipc_core.specs.Representation.Rows.{row_thread, is_at, waits_of, AreDistinct, ArePlaced}
use Rattle.ipc_core.specs.Waits.{IsThreadAddress}
use Rattle.ipc_core.specs.Cancelled.{is_sender_with}
use Rattle.ipc_core.specs.declared.row.WaitRow.{WaitRow}
use Rattle.ipc_core.proofs.Histories.Cancelling.{badge_by_histories}
use Rattle.ipc_core.proofs.RowForm.Kept.{rows_cancelled, badge_tests}
use Rattle.ipc_core.specs.Agreement.{AreAlike}
use Rattle.ipc_core.proofs.SendersOrReceivers.{alike_cancel_badge}
use Rattle.ipc_core.proofs.rows.RowWaitersWaiters.cancel_badge.Goals as goal

abbrev keeps : ℕ → Badge → WaitRow → Bool
keeps e badge row = not (is_at e row) || not (is_sender_with badge row.waiter)

pub invariant_of-self-clause-distinct : goal.invariant_of-self-clause-distinct
invariant_of-self-clause-distinct g c =
    let own = c.args.self.now in
    let left = filter_same _ (keeps c.args.endpoint c.args.badge) _ (λ x b f' k. search rules) own.rows.items _ c.retain.ensures.filtered in
    subst AreDistinct (sym left) (AllPairs-filter (λ a b. row_thread a ≢ row_thread b) (keeps c.args.endpoint c.args.badge) own.rows.items own.distinct)

pub invariant_of-self-clause-placed : goal.invariant_of-self-clause-placed
invariant_of-self-clause-placed g c =
    let own = c.args.self.now in
    let left = filter_same _ (keeps c.args.endpoint c.args.badge) _ (λ x b f' k. search rules) own.rows.items _ c.retain.ensures.filtered in
    subst (ArePlaced g.P.Profile.profile own.memory_bits) (sym left) (All-filter (keeps c.args.endpoint c.args.badge) (λ row. IsThreadAddress g.P.Profile.profile own.memory_bits (row_thread row)) own.rows.items own.placed)

pub invariant_of-self-clause-room : goal.invariant_of-self-clause-room
invariant_of-self-clause-room g c =
    subst (λ (n : ℕ). 2 ^ c.args.self.now.memory_bits ≤ n * tcb_size g.P.Profile.profile) (sym c.retain.ensures.capacity) c.args.self.now.room

pub returns-clause-waits : goal.returns-clause-waits
returns-clause-waits g c =
    let own = c.args.self.now in
    let left = filter_same _ (keeps c.args.endpoint c.args.badge) _ (λ x b f' k. search rules) own.rows.items _ c.retain.ensures.filtered in
    ap waits_of left ∙ badge_tests c.args.endpoint c.args.badge own.rows.items ∙ rows_cancelled own.rows.items c.args.endpoint (is_sender_with c.args.badge) own.distinct

pub returns-clause-histories : goal.returns-clause-histories
returns-clause-histories g c =
    let own = c.args.self.now in
    let left = filter_same _ (keeps c.args.endpoint c.args.badge) _ (λ x b f' k. search rules) own.rows.items _ c.retain.ensures.filtered in
    badge_by_histories c.args.endpoint c.args.badge (waits_of own.rows.items) (waits_of c.retain.new.self.items) (ap waits_of left ∙ badge_tests c.args.endpoint c.args.badge own.rows.items ∙ rows_cancelled own.rows.items c.args.endpoint (is_sender_with c.args.badge) own.distinct)

pub invariant_of-self-clause-alike : goal.invariant_of-self-clause-alike
invariant_of-self-clause-alike g c =
    let own = c.args.self.now in
    let left = filter_same _ (keeps c.args.endpoint c.args.badge) _ (λ x b f' k. search rules) own.rows.items _ c.retain.ensures.filtered in
    subst AreAlike (sym (ap waits_of left ∙ badge_tests c.args.endpoint c.args.badge own.rows.items ∙ rows_cancelled own.rows.items c.args.endpoint (is_sender_with c.args.badge) own.distinct))
    (alike_cancel_badge (waits_of own.rows.items) own.alike c.args.endpoint c.args.badge)
