-- The proof of `add`: the goals that a search leaves open.
use Rattle.std.proofs.Common.{◌≡◌, ◌∙◌, ◌++◌, ℕ, List, ap, codes, string_bytes}
use Rattle.std.specs.List.{flat_map}
use Rattle.kernel_abstract.specs.Shown.{state_at}
use Rattle.query_parts.specs.declared.listed.PartMemory.{PartMemory}
use Rattle.setup_report.specs.Report.{terminated}
use Rattle.setup_report.specs.State.{threads}
use Rattle.setup_report.proofs.Addresses.Rising.{four_parts}
use Rattle.command_parts.specs.declared.telling.Home.{Home}
use Rattle.command_parts.specs.Telling.{part_naming_view, threads_at_home}
use Rattle.command_parts.specs.Text as spec
use Rattle.command_parts.proofs.Given.{on_ok}
use Rattle.command_parts.proofs.Homes.{lines_at_home}
use Rattle.command_parts.proofs.parts.PartLinesLineU64.add.Goals as goal

pub returns : goal.returns
returns g c =
    let told = part_naming_view c.args.self.now.told.now in
    let v = c.args.self.now.kernel.now in
    let memory = c.args.self.now.parts.now.memory.items in
    let uses = c.args.self.now.parts.now.uses.items in
    let part = c.args.part.now in
    let slots = c.args.self.now.slots.now in
    let alone = c.args.self.now.alone.now in
    let start = string_bytes c.args.out.now in
    let one = string_bytes c.writeln.new.self in
    let two = string_bytes c.add_each.new.out in
    let three = string_bytes c.add_each-2.new.out in
    let all = string_bytes c.add_uses.new.out in
    let number = terminated (codes "part " ++ told.part part) in
    let of_threads = flat_map (spec.part_thread_line told memory part v) (threads g.P.Profile.profile v) in
    let of_memory = flat_map (spec.memory_line part) memory in
    let of_uses = spec.use_lines told slots alone uses part in
    on_ok (all ≡ three ++ spec.use_lines told slots alone uses part) (all ≡ start ++ (number ++ (of_threads ++ (of_memory ++ of_uses))))
    (λ is. four_parts start one two three all number of_threads of_memory of_uses
    (c.in_ok-writeln.ensures.bytes ∙ ap (λ (name : List ℕ). start ++ terminated (codes "part " ++ name)) c.in_ok-name.ensures)
    (c.in_ok-add_each.ensures
    ∙ ap (λ (ts : List ℕ). one ++ flat_map (λ thread. spec.state_line (told.texts.about thread) (state_at v thread)) ts)
    (c.as_slice.ensures.value ∙ c.in_ok-threads.ensures ∙ ap (λ (homes : List Home). threads_at_home homes part) c.args.self.now.housed)
    ∙ ap (λ (l : List ℕ). one ++ l) (lines_at_home (λ thread. spec.state_line (told.texts.about thread) (state_at v thread)) memory part (threads g.P.Profile.profile v)))
    (c.in_ok-add_each-2.ensures ∙ ap (λ (m : List PartMemory). two ++ flat_map (spec.memory_line part) m) c.as_slice-2.ensures.value)
    is)
    c.add_uses.result c.add_uses.ensures
