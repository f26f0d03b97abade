-- The proof of `add_endpoint`: the goals that a search leaves open.
use Rattle.std.proofs.Common.{◌≡◌, ◌∙◌, ◌++◌, ℕ, List, ap, codes, string_bytes}
use Rattle.std.specs.List.{flat_map}
use Rattle.setup_report.specs.Report.{terminated}
use Rattle.command_parts.specs.Telling.{part_naming_view}
use Rattle.command_parts.proofs.Given.{on_ok}
use Rattle.command_never.specs.declared.parts_kept.waits.Wait.{Wait}
use Rattle.command_never.specs.Waits.{waits}
use Rattle.command_never.specs.Open as spec
use Rattle.command_never.proofs.Written.{then_written}
use Rattle.command_never.proofs.parts_kept.open.Telling.add_endpoint.Goals as goal

pub returns : goal.returns
returns g c =
    let p = g.P.Profile.profile in
    let self = c.args.self.now in
    let told = part_naming_view self.told.now in
    let v = self.kernel.now in
    let memory = self.layout.now.memory.now in
    let uses = c.args.uses.now in
    let from = c.args.between.now.from in
    let to = c.args.between.now.to in
    let endpoint = c.args.endpoint in
    let start = string_bytes c.args.out.now in
    let one = string_bytes c.writeln.new.self in
    let two = string_bytes c.add_had.new.out in
    let three = string_bytes c.add_each.new.out in
    let four = string_bytes c.add_had-2.new.out in
    let all = string_bytes c.add_each-2.new.out in
    let opened = spec.open_endpoint_line told endpoint in
    let has_sender = spec.had_lines told p memory uses from endpoint in
    let senders = flat_map (spec.sender_line told memory v from endpoint) (waits p v) in
    let has_receiver = spec.had_lines told p memory uses to endpoint in
    let receivers = flat_map (spec.open_receiver_line told memory to endpoint) (waits p v) in
    let is_one : one ≡ start ++ opened = c.in_ok-writeln.ensures.bytes ∙ ap (λ (l : List ℕ). start ++ terminated (codes "open " ++ l)) c.endpoint-open.ensures in
    let is_three : three ≡ two ++ senders = c.in_ok-add_each.ensures ∙ ap (λ (w : List Wait). two ++ flat_map (spec.sender_line told memory v from endpoint) w) self.waiting in
    on_ok (all ≡ four ++ flat_map (spec.open_receiver_line told memory to endpoint) self.layout.now.waits.now)
    (all ≡ start ++ (opened ++ (has_sender ++ (senders ++ (has_receiver ++ receivers)))))
    (λ is.
    then_written start one all opened (has_sender ++ (senders ++ (has_receiver ++ receivers))) is_one
    (then_written one two all has_sender (senders ++ (has_receiver ++ receivers)) c.in_ok-add_had.ensures
    (then_written two three all senders (has_receiver ++ receivers) is_three
    (then_written three four all has_receiver receivers c.in_ok-add_had-2.ensures
    (is ∙ ap (λ (w : List Wait). four ++ flat_map (spec.open_receiver_line told memory to endpoint) w) self.waiting)))))
    c.add_each-2.result c.add_each-2.ensures
