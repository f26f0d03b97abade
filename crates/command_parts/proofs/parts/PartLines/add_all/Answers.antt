-- The proof of `add_all`: the goals that a search leaves open.
use Rattle.std.proofs.Common.{◌≡◌, ◌∙◌, ◌++◌, ℕ, List, length, ap, codes, string_bytes}
use Rattle.std.specs.List.{flat_map}
use Rattle.std.specs.Fmt.{decimal}
use Rattle.setup_report.specs.State.{endpoints}
use Rattle.command_parts.specs.declared.ways.Passing.TheVariants.{Grant, Answer}
use Rattle.command_parts.specs.Takes.{takes}
use Rattle.command_parts.specs.Telling.{part_naming_view}
use Rattle.command_parts.specs.Text as spec
use Rattle.command_parts.specs.Text.{lines_by_slots}
use Rattle.command_parts.proofs.Given.{on_ok}
use Rattle.command_parts.proofs.Written.{count_pieces, then_written}
use Rattle.command_parts.proofs.parts.PartLines.add_all.Goals as goal

pub returns : goal.returns
unfolding lines_by_slots
returns g c =
    let p = g.P.Profile.profile in
    let self = c.args.self.now in
    let told = part_naming_view self.told.now in
    let v = self.kernel.now in
    let memory = self.parts.now.memory.items in
    let uses = self.parts.now.uses.items in
    let slots = self.slots.now in
    let alone = self.alone.now in
    let numbers = spec.parts_of memory in
    let start = string_bytes c.args.out.now in
    let one = string_bytes c.add_each.new.out in
    let two = string_bytes c.add_message_passing.new.out in
    let three = string_bytes c.add_passing.new.out in
    let four = string_bytes c.add_passing-2.new.out in
    let five = string_bytes c.add_taken.new.out in
    let six = string_bytes c.add_each-2.new.out in
    let all = string_bytes c.writeln.new.self in
    let ways = c.in_ok-ways.ways in
    let grants = c.in_ok-grants.grants in
    let replies = c.in_ok-replies.replies in
    let taken = c.in_ok-takes.takes in
    let of_parts = flat_map (spec.part_lines p told memory uses v slots alone) numbers in
    let of_messages = flat_map (spec.message_line told alone) (spec.message_ways p memory uses slots alone) in
    let of_grants = spec.way_lines told Grant p memory uses in
    let of_replies = spec.way_lines told Answer p memory uses in
    let of_takes = flat_map (spec.take_line told) (takes slots numbers) in
    let of_waiting = flat_map (spec.waiting_lines told v) (endpoints p v) in
    let of_count = spec.parts_count_line (length numbers) (length (spec.message_ways p memory uses slots alone)) (length (spec.ways Grant p memory uses)) (length (spec.ways Answer p memory uses)) (length (takes slots numbers)) in
    let is_one : one ≡ start ++ of_parts = c.in_ok-add_each.ensures ∙ ap (λ (l : List ℕ). start ++ flat_map (spec.part_lines p told memory uses v slots alone) l) self.numbered in
    let is_five : five ≡ four ++ of_takes = c.in_ok-takes.ensures.lines ∙ ap (λ (l : List ℕ). four ++ flat_map (spec.take_line told) (takes slots l)) self.numbered in
    let is_six : six ≡ five ++ of_waiting = c.in_ok-add_each-2.ensures ∙ ap (λ (l : List ℕ). five ++ flat_map (spec.waiting_lines told v) l) c.requires in
    let count_is : spec.parts_count_line (length self.numbers.now) ways grants replies taken ≡ of_count =
    ap (λ (l : List ℕ). spec.parts_count_line (length l) ways grants replies taken) self.numbered
    ∙ ap (λ (n : ℕ). spec.parts_count_line (length numbers) n grants replies taken) c.in_ok-ways.ensures.count
    ∙ ap (λ (n : ℕ). spec.parts_count_line (length numbers) (length (spec.message_ways p memory uses slots alone)) n replies taken) c.in_ok-grants.ensures.count
    ∙ ap (λ (n : ℕ). spec.parts_count_line (length numbers) (length (spec.message_ways p memory uses slots alone)) (length (spec.ways Grant p memory uses)) n taken) c.in_ok-replies.ensures.count
    ∙ ap (λ (n : ℕ). spec.parts_count_line (length numbers) (length (spec.message_ways p memory uses slots alone)) (length (spec.ways Grant p memory uses)) (length (spec.ways Answer p memory uses)) n)
    (c.in_ok-takes.ensures.count ∙ ap (λ (l : List ℕ). length (takes slots l)) self.numbered) in
    on_ok (all ≡ six ++ (codes "parts " ++ (decimal (length self.numbers.now) ++ (codes " ways " ++ (decimal ways ++ (codes " grants " ++ (decimal grants ++ (codes " replies " ++ (decimal replies ++ (codes " takes " ++ (decimal taken ++ codes "\n")))))))))))
    (all ≡ start ++ (of_parts ++ (of_messages ++ (of_grants ++ (of_replies ++ (of_takes ++ (of_waiting ++ of_count)))))))
    (λ is.
    then_written start one all of_parts (of_messages ++ (of_grants ++ (of_replies ++ (of_takes ++ (of_waiting ++ of_count))))) is_one
    (then_written one two all of_messages (of_grants ++ (of_replies ++ (of_takes ++ (of_waiting ++ of_count)))) c.in_ok-ways.ensures.lines
    (then_written two three all of_grants (of_replies ++ (of_takes ++ (of_waiting ++ of_count))) c.in_ok-grants.ensures.lines
    (then_written three four all of_replies (of_takes ++ (of_waiting ++ of_count)) c.in_ok-replies.ensures.lines
    (then_written four five all of_takes (of_waiting ++ of_count) is_five
    (then_written five six all of_waiting of_count is_six
    (is ∙ ap (λ (l : List ℕ). six ++ l) (count_pieces (decimal (length self.numbers.now)) (decimal ways) (decimal grants) (decimal replies) (decimal taken) ∙ count_is))))))))
    c.writeln.result c.writeln.ensures.bytes
