use Rattle.std.proofs.Common.{◌≡◌, List, [], ◌∷◌, ◌++◌, map, refl, ap, ◌∙◌, string_bytes, arith}
use Rattle.std.specs.List.{flat_map}
use Rattle.setup_values.specs.declared.names.Name.{Name}
use Rattle.command_trace.specs.Private.Listed.{name_view}
use Rattle.command_trace.specs.Names.{name_line, name_lines}
use Rattle.command_trace.proofs.Steps.{take_whole}
use Rattle.command_trace.proofs.lines.names.add_names.Goals as goal

each_name : (names : List Name) → flat_map (λ (n : Name). name_line (name_view n)) names ≡ name_lines (map name_view names)
each_name [] = refl
each_name (n ∷ names) = ap (λ l. name_line (name_view n) ++ l) (each_name names)

pub returns : goal.returns
returns c =
    let names = c.args.names.now in
    c.loop-name.invariant
    ∙ ap (λ l. string_bytes c.args.out.now ++ l)
    (ap (flat_map (λ (n : Name). name_line (name_view n))) (take_whole names c.loop-name.name-index (omega (arith, c.loop-name-test.false))) ∙ each_name names)
