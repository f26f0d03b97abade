-- The proof of `verdict_by`: the goals that a search leaves open.
use Rattle.std.proofs.Common.{◌≡◌, ◌<◌, Some, length, sym, ◌∙◌, arith}
use Rattle.std.specs.List.{position}
use Rattle.std.proofs.lemmas.Bool.Decides.{nat_tests}
use Rattle.query_flow.specs.Private.{is_alike}
use Rattle.query_flow.proofs.Verdicts.{known_alike}
use Rattle.query_flow.proofs.listed.verdict_by.Goals as goal

pub returns-in-Some-get : goal.returns-in-Some-get
returns-in-Some-get g c =
    let args = c.args in
    let place = c.in-Some.place in
    let verdict = c.in-Some-get.verdict.now in
    let found : position (is_alike args.caller.now) args.callers.now ≡ Some place = sym c.first_alike.ensures ∙ c.in-Some.is in
    let inside = (c.in-Some-get.ensures.lookup).0 in
    let lt : place < length args.known.now = grind (arith, nat_tests) in
    known_alike g.P.Profile.profile args.memory.now args.all.now args.caller.now args.callers.now c.requires.0 args.known.now place verdict c.requires.1 found lt
    (c.in-Some-get.ensures.lookup).1
