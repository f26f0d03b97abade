use Rattle.std.proofs.Common.{◌++◌, ◌-◌, ◌^◌, ◌<◌, ℕ, List, [], ◌∷◌, length, get_or, ap, sym, subst, ◌∙◌, arith}
use Rattle.std.proofs.lemmas.List.{length-map}
use Rattle.command_explore.specs.Numbers.{numbers_in}
use Rattle.command_explore.proofs.Taken.{IsTaken, taken_none, taken_fits, taken_more, taken_all}
use Rattle.command_explore.proofs.report.numbers.call_numbers.Goals as goal

pub loop-i-init : goal.loop-i-init
loop-i-init c =
    let numbers = numbers_in c.args.numbers.now in
    subst (λ (o : List ℕ). IsTaken numbers c.args.clients.now c.in_ok-made.made.items o 0) (sym c.new-own.ensures.items)
    (taken_none numbers c.args.clients.now c.in_ok-made.made.items (length c.args.numbers.now) (c.in_ok-made.ensures.items_if_clones_equal (λ y same. same)) (sym (length-map c.args.numbers.now _)))

pub take_number-requires : goal.take_number-requires
take_number-requires c =
    taken_fits (numbers_in c.args.numbers.now) c.args.clients.now c.loop-i.made.items c.loop-i.own.items c.loop-i.i c.loop-i.invariant (omega arith)
    (get_or c.args.clients.now c.loop-i.i 0) (2 ^ 64 - 1) (omega arith)

pub loop-i-preserved : goal.loop-i-preserved
loop-i-preserved c =
    let lt : c.loop-i.i < length c.args.clients.now = omega arith in
    taken_more (numbers_in c.args.numbers.now) c.args.clients.now c.loop-i.made.items c.loop-i.own.items c.loop-i.i c.loop-i.invariant lt
    c.take_number.new.made.items c.take_number.ensures.made c.push.new.self.items
    (c.in_ok-push.ensures.items ∙ ap (λ (n : ℕ). c.loop-i.own.items ++ n ∷ []) c.take_number.ensures.number)

pub returns : goal.returns
returns c = taken_all (numbers_in c.args.numbers.now) c.args.clients.now c.loop-i.made.items c.loop-i.own.items c.loop-i.i c.loop-i.invariant (omega arith)
