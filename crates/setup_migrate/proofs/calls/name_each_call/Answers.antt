use Rattle.std.proofs.Common.{◌<◌, length, refl, ◌∙◌, arith}
use Rattle.std.proofs.lemmas.List.{length-set}
use Rattle.setup_migrate.specs.Migration.{named_call}
use Rattle.setup_migrate.proofs.Parts.{changed_so_far, changed_rest, changed_all}
use Rattle.setup_migrate.proofs.calls.name_each_call.Goals as goal

pub loop-i-preserved : goal.loop-i-preserved
loop-i-preserved g c =
    let named = named_call g.P.Profile.profile c.args.plan.now in
    let calls = c.loop-i.calls in
    let i = c.loop-i.i in
    let call = c.name_call.new.call in
    let within : i < length calls = omega arith in
    record {
      count = length-set calls i call ∙ c.loop-i.invariant.count;
      so_far = changed_so_far named calls c.args.calls.now _ i c.index-calls-i.result call within c.loop-i.invariant.count c.loop-i.invariant.so_far c.loop-i.invariant.rest refl c.in_ok-name_call.ensures;
      rest = changed_rest calls c.args.calls.now _ i call c.loop-i.invariant.rest refl;
    }

pub returns : goal.returns
returns g c =
    changed_all (named_call g.P.Profile.profile c.args.plan.now) c.loop-i.calls c.args.calls.now c.loop-i.i (omega arith) c.loop-i.invariant.count c.loop-i.invariant.so_far
