-- The proof of `add_heading`: the goals that a search leaves open.
use Rattle.std.proofs.Common.{◌≡◌, ◌∙◌, ◌++◌, ℕ, List, length, ap, codes, string_bytes}
use Rattle.std.specs.List.{flat_map}
use Rattle.std.specs.Fmt.{decimal}
use Rattle.std.proofs.lemmas.List.{length-map}
use Rattle.kernel_abstract.specs.Plan.{Plan}
use Rattle.setup_values.specs.Told.{profile_text}
use Rattle.setup_format.specs.Views.{CallView}
use Rattle.setup_report.specs.Report.{terminated}
use Rattle.command_parts.specs.Telling.{part_naming_view}
use Rattle.command_parts.specs.Text as spec
use Rattle.command_parts.proofs.Given.{on_ok}
use Rattle.command_parts.proofs.Written.{head_pieces, then_written}
use Rattle.command_parts.proofs.head.add_heading.Goals as goal

pub returns : goal.returns
returns g c =
    let head = c.args.heading.now in
    let setup = head.setup.now in
    let title = c.args.title.now in
    let texts = (part_naming_view c.args.told.now).texts in
    let v = c.args.kernel.now in
    let start = string_bytes c.args.out.now in
    let one = string_bytes c.writeln.new.self in
    let two = string_bytes c.add_each.new.out in
    let all = string_bytes c.add_each-2.new.out in
    let name = c.profile_text-profile.result.now in
    let bits = c.memory_bits-memory_bits.result in
    let calls = length c.calls.result.now in
    let first = spec.parts_head_line title setup head.made head.refused in
    let without = flat_map (spec.without_line texts v) head.without.now in
    let messages = flat_map (spec.messages_line texts v) head.messages.now in
    let is_name : name ≡ profile_text setup.profile = c.profile_text-profile.ensures ∙ ap profile_text c.profile.ensures in
    let is_bits : bits ≡ setup.plan.memory_bits = c.memory_bits-memory_bits.ensures ∙ ap (λ (p : Plan). p.memory_bits) c.plan.ensures.plan in
    let is_calls : calls ≡ length setup.calls = ap length c.calls.ensures ∙ length-map setup.calls (λ (k : CallView). k.call) in
    let is_first : one ≡ start ++ first =
    c.in_ok-writeln.ensures.bytes
    ∙ ap (λ (l : List ℕ). start ++ l) (head_pieces title name (decimal bits) (decimal calls) (decimal head.made) (spec.refused_text head.refused))
    ∙ ap (λ (l : List ℕ). start ++ terminated (title ++ (codes " " ++ (l ++ (codes " memory_bits " ++ (decimal bits ++ spec.calls_text calls head.made head.refused)))))) is_name
    ∙ ap (λ (n : ℕ). start ++ terminated (title ++ (codes " " ++ (profile_text setup.profile ++ (codes " memory_bits " ++ (decimal n ++ spec.calls_text calls head.made head.refused)))))) is_bits
    ∙ ap (λ (n : ℕ). start ++ terminated (title ++ (codes " " ++ (profile_text setup.profile ++ (codes " memory_bits " ++ (decimal setup.plan.memory_bits ++ spec.calls_text n head.made head.refused)))))) is_calls in
    on_ok (all ≡ two ++ messages) (all ≡ start ++ (first ++ (without ++ messages)))
    (λ is. then_written start one all first (without ++ messages) is_first (then_written one two all without messages c.in_ok-add_each.ensures is))
    c.add_each-2.result c.add_each-2.ensures
