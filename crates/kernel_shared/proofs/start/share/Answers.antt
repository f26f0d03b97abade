use Rattle.std.proofs.Common.{rules, ℕ, ◌≡◌, [], None, arith}
use Rattle.std.proofs.lemmas.Grind.{common_steps}
use Rattle.kernel_shared.proofs.Places.{each_pushed}
use Rattle.kernel_shared.specs.ClientStates.{ClientState, client_state}
use Rattle.kernel_shared.proofs.Keeping.{keeps_snoc, starts_nil}
use Rattle.kernel_shared.proofs.start.share.Goals as goal

pub reader-requires : goal.reader-requires
reader-requires g c x views h seat v at = keeps_snoc _ views [] h (starts_nil _) seat v at

pub loop-id-preserved : goal.loop-id-preserved
loop-id-preserved g c = record {
  parts = grind (arith, common_steps);
  amount = grind (arith, common_steps);
  len = search rules;
  room = search rules;
  each = each_pushed (λ (i : ℕ) (c : ClientState). c ≡ client_state i 0 [] None) _ _ _ _ c.push_reserved.ensures.items c.loop-id.invariant.len c.loop-id.invariant.each c.new-in-loop-id.ensures;
}
