-- Three lines are written as one text.
use Rattle.std.proofs.Common.{◌≡◌, ◌++◌, ◌∙◌, ap, string_bytes}
use Rattle.command_policy_text.specs.Names.{version_text}
use Rattle.command_policy_text.specs.Texts.{all_lines_text}
use Rattle.command_policy_listing.specs.Listing.{switch_lines, switch_text}
use Rattle.command_policy_listing.proofs.Pieces.{on_ok, three_words}
use Rattle.command_policy_listing.proofs.listing.add_switches.Goals as goal

pub returns : goal.returns
returns c =
    let start = string_bytes c.args.out.now in
    let all = string_bytes c.writeln.new.self in
    on_ok _ (all ≡ start ++ all_lines_text (switch_lines c.args.policy.now))
    (λ is. is ∙ ap (λ l. start ++ l) (three_words _ _ _ (version_text c.args.policy.now.version) (switch_text c.args.policy.now.grant) (switch_text c.args.policy.now.calls)
    c.version_text-version.ensures c.switch_text-grant.ensures c.switch_text-succeed.ensures))
    c.writeln.result c.writeln.ensures.bytes
