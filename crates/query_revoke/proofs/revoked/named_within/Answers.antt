use Rattle.std.proofs.Common.{◌≡◌, filter, map, arith, ap, ◌∙◌}
use Rattle.query_revoke.specs.Private.{is_within_alone}
use Rattle.query_revoke.specs.Runs.{part}
use Rattle.query_revoke.proofs.revoked.named_within.Goals as goal

pub returns : goal.returns
returns c =
    let done : c.loop-place.place ≡ c.args.end = omega (arith, c.loop-place-test.false, c.loop-place.auto.place-end, c.requires.start) in
    c.loop-place.invariant.caps ∙ ap (λ n. filter (is_within_alone c.args.objects.now c.args.start c.args.end) (map (λ d. d.cap) (part c.args.start n c.args.list.now))) done
