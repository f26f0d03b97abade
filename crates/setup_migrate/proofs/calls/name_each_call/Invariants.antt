use Rattle.std.proofs.Common.{◌≡◌, length, take, drop, map}
use Rattle.toml.specs.View.{view}
use Rattle.setup_migrate.specs.Migration.{named_call}
use Rattle.setup_migrate.proofs.calls.name_each_call.Given as goal

-- the calls so far, and those that are left
abbrev pub invariant-loop-i : goal.invariant-loop-i
invariant-loop-i g l = record {
  count : length l.calls ≡ length l.initial.calls;
  so_far : map view (take l.i l.calls) ≡ map (λ v. named_call g.P.Profile.profile l.plan (view v)) (take l.i l.initial.calls);
  rest : drop l.i l.calls ≡ drop l.i l.initial.calls;
}
