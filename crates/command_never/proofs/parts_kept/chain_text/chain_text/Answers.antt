-- The proof of `chain_text`: the goals that a search leaves open.
use Rattle.std.proofs.Common.{rules}
use Rattle.command_never.proofs.parts_kept.chain_text.chain_text.Goals as goal

pub returns : goal.returns
returns g c f are = record {
  chain = c.in_ok-chain.chain.items;
  shortest = c.in_ok-chain.ensures f are;
  told = search rules;
}
