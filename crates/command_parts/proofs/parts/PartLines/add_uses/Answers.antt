-- The proof of `add_uses`: the goals that a search leaves open.
use Rattle.std.proofs.Common.{◌≡◌, ◌∙◌, ◌++◌, ℕ, List, Bool, true, cond, sym, ap, codes, string_bytes}
use Rattle.std.specs.List.{flat_map}
use Rattle.query_parts.specs.declared.listed.PartUse.{PartUse}
use Rattle.setup_report.specs.Report.{terminated}
use Rattle.setup_report.specs.State.{is_in}
use Rattle.command_parts.specs.Messages.{uses_held}
use Rattle.command_parts.specs.Telling.{part_naming_view}
use Rattle.command_parts.specs.Text as spec
use Rattle.command_parts.proofs.Given.{on_ok}
use Rattle.command_parts.proofs.Written.{then_written}
use Rattle.command_parts.proofs.parts.PartLines.add_uses.Goals as goal

pub returns-in_ok-writeln : goal.returns-in_ok-writeln
returns-in_ok-writeln g c =
    let self = c.args.self.now in
    let part = c.args.part in
    let told = part_naming_view self.told.now in
    let start = string_bytes c.args.out.now in
    let one = string_bytes c.writeln.new.self in
    let all = string_bytes c.add_each.new.out in
    let line = terminated (codes "  only messages") in
    let lines = flat_map (spec.held_line told) (uses_held self.slots.now part) in
    let uses = flat_map (spec.use_line told part) self.parts.now.uses.items in
    let here : is_in part self.alone.now ≡ true = sym c.is_in.ensures ∙ c.if-is_in.true in
    on_ok (all ≡ one ++ flat_map (spec.held_line told) c.as_slice.result.now) (all ≡ start ++ cond (is_in part self.alone.now) (line ++ lines) uses)
    (λ is. then_written start one all line lines c.in_ok-writeln.ensures.bytes
    (is ∙ ap (λ (held : List PartUse). one ++ flat_map (spec.held_line told) held) (c.as_slice.ensures.value ∙ c.in_ok-held.ensures))
    ∙ ap (λ (b : Bool). start ++ cond b (line ++ lines) uses) (sym here))
    c.add_each.result c.add_each.ensures
