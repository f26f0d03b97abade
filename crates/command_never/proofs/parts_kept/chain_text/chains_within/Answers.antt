-- The proof of `chains_within`: the goals that a search leaves open.
use Rattle.std.proofs.Common.{rules, string_bytes, subst}
use Rattle.query_reach.specs.declared.chains.chain.Target.{Target}
use Rattle.setup_report.specs.declared.objects.Object.{Object}
use Rattle.command_parts.specs.Telling.{part_naming_view}
use Rattle.command_never.specs.Chains.{IsChainText}
use Rattle.command_never.proofs.parts_kept.chain_text.chains_within.Goals as goal

pub returns : goal.returns
returns g c f are =
    let p = g.P.Profile.profile in
    let texts = (part_naming_view c.args.told.now).texts in
    record {
      there = string_bytes c.in_ok-there.there;
      back = string_bytes c.in_ok-back.back;
      there_is = subst (λ (t : Target). IsChainText p texts f c.args.from (Object.Thread c.args.to) t (string_bytes c.in_ok-there.there)) c.control_block.ensures (c.in_ok-there.ensures f are);
      back_is = subst (λ (t : Target). IsChainText p texts f c.args.to (Object.Thread c.args.from) t (string_bytes c.in_ok-back.back)) c.control_block-2.ensures (c.in_ok-back.ensures f are);
      both = search rules;
    }
