-- The proof of `policy_text`: the goals that a search leaves open.
use Rattle.std.proofs.Common.{◌≡◌, ◌++◌, ◌+◌, ℕ, List, length, string_bytes, sym, ap, ◌∙◌, rules}
use Rattle.command_core.specs.declared.fault.Verdict.{Verdict}
use Rattle.command_policy_text.specs.declared.text.Counts.{Counts}
use Rattle.command_policy_text.specs.Texts.{text, verdict_by_count, policy_head_line, last_line, all_lines_text, first_lines, calls_breached, breaches, unused, breach_count, counts}
use Rattle.command_policy_text.specs.Places.{places_told}
use Rattle.command_policy_breaches.specs.Ways.{is_between_parts}
use Rattle.command_policy_text.proofs.Whole.{lines_behind, whole_behind, as_many, as_many_breaches, six, counted, all_told}
use Rattle.command_policy_text.proofs.text.policy_text.Goals as goal

pub returns : goal.returns
returns g c =
    let places = places_told g.P.Profile.profile c.args.held.policy.now c.args.held.layout.now c.args.origin in
    let p = c.args.held.policy.now in
    let l = c.args.held.layout.now in
    let n = c.args.held.labels.now in
    let hs = c.args.held.homes.now in
    let js = c.args.joins.now in
    let ws = c.args.passages.now in
    let setup = c.args.setup.now in
    let replies = c.args.replies.now in
    let told_long : c.len.result ≡ length c.in_ok-calls.calls.items = search rules in
    let others_long : c.len-2.result ≡ length c.in_ok-others.others.items = search rules in
    let idle_long : c.len-6.result ≡ length c.in_ok-unused.unused.items = search rules in
    let groups : c.len-3.result ≡ length p.groups.items = search rules in
    let parts : c.len-4.result ≡ length l.parts.items = search rules in
    let taken : c.len-5.result ≡ length l.takes.items = search rules in
    let told : c.len.result ≡ length (calls_breached p setup replies) = told_long ∙ as_many c.in_ok-calls.calls.items _ c.in_ok-calls.ensures in
    let others : c.len-2.result ≡ length (breaches p l n hs js ws) = others_long ∙ as_many c.in_ok-others.others.items _ c.in_ok-others.ensures ∙ as_many_breaches places p l n hs js ws in
    let idle : c.len-6.result ≡ length (unused p l n hs) = idle_long ∙ as_many c.in_ok-unused.unused.items _ c.in_ok-unused.ensures in
    let numbers = counted p l n hs js ws setup replies c.len-3.result c.len-4.result c.count_between_parts.result c.len-5.result c.len.result c.len-2.result c.len-6.result
    groups parts c.count_between_parts.ensures taken told others idle in
    let written : c.into_bytes.result.items ≡ string_bytes c.add_counts.new.out = search rules in
    let head : string_bytes c.add_head.new.out ≡ policy_head_line p.version setup (length replies) = search rules in
    let verdict : c.verdict_of.result ≡ verdict_by_count (breach_count p l n hs js ws setup replies) =
    c.verdict_of.ensures ∙ ap (λ (k : Counts). verdict_by_count k.breaches) numbers in
    all_told places p l n hs js ws setup replies _ _
    (written ∙ six _ _ _ _ _ _ _ _ _ _ _ _ head
    (lines_behind c.in_ok-first.first.items _ _ _ c.in_ok-first.ensures (rw c.as_slice.ensures.value at c.in_ok-add_each.ensures))
    (lines_behind c.in_ok-calls.calls.items _ _ _ c.in_ok-calls.ensures (rw c.as_slice-2.ensures.value at c.in_ok-add_each-2.ensures))
    (whole_behind c.in_ok-others.others.items _ _ _ c.in_ok-others.ensures (rw c.as_slice-3.ensures.value at c.in_ok-add_each-3.ensures))
    (lines_behind c.in_ok-unused.unused.items _ _ _ c.in_ok-unused.ensures (rw c.as_slice-4.ensures.value at c.in_ok-add_each-4.ensures))
    (c.in_ok-add_counts.ensures ∙ ap (λ k. string_bytes c.add_each-4.new.out ++ last_line p.version k) numbers))
    verdict
