-- The proof of `firsts`: the goals that a search leaves open.
use Rattle.std.proofs.Common.{◌≡◌, get_or, rules}
use Rattle.std.specs.Option.{unwrap_or}
use Rattle.std.specs.BTreeMap.{is_at}
use Rattle.std.specs.Map.{lookup}
use Rattle.std.specs.String.{string_cmp}
use Rattle.command_policy_text.specs.declared.told.Told.TheVariants.{Silent}
use Rattle.command_policy_text.specs.Told.{line_told}
use Rattle.command_policy_text.proofs.Firsts.{put_one}
use Rattle.command_policy_text.proofs.text.firsts.Goals as goal

pub loop-one-preserved : goal.loop-one-preserved
loop-one-preserved c =
    let one = get_or c.args.told.now c.loop-one.one-index (Silent 0) in
    let first : c.unwrap_or-first.result ≡ unwrap_or (lookup (is_at (string_cmp c.in_ok-line.line)) c.loop-one.lines.entries) one = search rules in
    put_one (line_told c.args.held.policy.now c.args.held.layout.now c.args.held.labels.now c.args.held.homes.now) c.args.told.now c.loop-one.one-index
    (Silent 0) c.loop-one.lines.entries _ c.in_ok-line.line c.unwrap_or-first.result
    c.loop-one-test.true c.loop-one.invariant c.in_ok-line.ensures first c.in_ok-insert.ensures.entries
