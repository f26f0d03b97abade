-- The proof of `answer`: the table that is made of the text is the one of the set-up.
use Rattle.std.proofs.Common.{◌≡◌, Option, option_map, ap, subst, ◌∙◌}
use Rattle.std.specs.Prelude.{IfOk}
use Rattle.toml.specs.Data.{Members}
use Rattle.toml.specs.View.{table_view}
use Rattle.setup_format.specs.Read.{read_view}
use Rattle.command_explore.specs.Witnesses.{witness_of}
use Rattle.command_explore.specs.Witnessed.{IsTextOfTable}
use Rattle.command_explore.proofs.witnessing.WriteWitnessCommand.answer.Goals as goal

pub returns : goal.returns
returns g c =
    let p = g.P.Profile.profile in
    let write = c.args.self.now in
    let setup = c.args.read.now.setup in
    let made : option_map table_view c.in_ok-made.made ≡ witness_of p setup write.options.first write.options.states write.witness (read_view c.args.read.now).table =
    c.in_ok-made.ensures ∙ ap (witness_of p setup write.options.first write.options.states write.witness) (rw c.as_slice.ensures.value at c.in_ok-table.ensures) in
    subst (λ (o : Option Members). IfOk c.witness_text.result (λ written. IsTextOfTable o written.text.items written.verdict)) made c.witness_text.ensures
