use Rattle.std.proofs.Common.{◌≡◌, List, [], ◌∷◌, take, map, None, Some, refl, sym, ap, ◌∙◌, rules, arith, nat_cmp}
use Rattle.std.specs.BTreeSet.{insert_key}
use Rattle.cap_core.specs.declared.capability.Cap.{Cap}
use Rattle.setup_report.specs.State.{rising}
use Rattle.setup_report.proofs.Addresses.Named.{named_some, named_none}
use Rattle.command_trace.proofs.Steps.{take_whole}
use Rattle.command_audit.specs.Ends.{all_asked, asked_object}
use Rattle.command_audit.proofs.ends.numbers_asked.Goals.{in-Some+in_ok-insert, in_default}
use Rattle.command_audit.proofs.ends.numbers_asked.Goals as goal

map_same : (caps : List Cap) → map (λ (c : Cap). c) caps ≡ caps
map_same [] = refl
map_same (c ∷ caps) = ap (λ (l : List Cap). c ∷ l) (map_same caps)

pub loop-cap-preserved : goal.loop-cap-preserved
loop-cap-preserved c =
    let list = c.args.caps.now in
    let i = c.loop-cap.cap-index in
    elim c.match-asked_of.branch [
      | in-Some+in_ok-insert w ↦
          let some : c.asked_of.result ≡ Some w.in-Some.number = search rules in
          let after : c.match-asked_of.numbers.keys ≡ insert_key nat_cmp c.loop-cap.numbers.keys w.in-Some.number = cc (w.numbers-is, w.in_ok-insert.ensures.keys) in
          named_some (asked_object c.args.asked) (λ (x : Cap). x) list i _ w.in-Some.number c.loop-cap.numbers.keys c.match-asked_of.numbers.keys c.loop-cap-test.true c.loop-cap.invariant (sym c.asked_of.ensures ∙ some) after
      | in_default w ↦
          let none : c.asked_of.result ≡ None = search rules in
          let same : c.match-asked_of.numbers.keys ≡ c.loop-cap.numbers.keys = cc (w.numbers-is) in
          same ∙ named_none (asked_object c.args.asked) (λ (x : Cap). x) list i _ c.loop-cap.numbers.keys c.loop-cap-test.true c.loop-cap.invariant (sym c.asked_of.ensures ∙ none)
    ]

pub returns : goal.returns
returns c =
    let list = c.args.caps.now in
    let i = c.loop-cap.cap-index in
    c.loop-cap.invariant ∙ ap (λ l. rising (all_asked c.args.asked l)) (map_same (take i list) ∙ take_whole list i (omega (arith, c.loop-cap-test.false)))
