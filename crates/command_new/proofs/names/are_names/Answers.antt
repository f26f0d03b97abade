-- The names that were found are those that are promised, and where they are these all are found.
use Rattle.std.proofs.Common.{◌≡◌, ◌+◌, ◌*◌, true, length, ap, ◌∙◌, sym, subst, arith}
use Rattle.std.proofs.lemmas.List.{length-map}
use Rattle.setup_values.specs.Names.{names_view}
use Rattle.command_new.proofs.Named.{names_found, untypeds_named}
use Rattle.command_new.specs.New.{AreNames}
use Rattle.command_new.proofs.names.are_names.Goals as goal

pub returns-then-has_endpoints : goal.returns-then-has_endpoints
returns-then-has_endpoints g c =
    let p = g.P.Profile.profile in
    let plan = c.args.plan.now in
    let known = names_view c.args.known.now in
    let ts = c.threads-threads.result in
    let es = c.endpoints-endpoints.result in
    let us = length c.untypeds-untypeds.result.now in
    let has_threads : c.in_ok-has_threads.has_threads ≡ true = assumption c.if-has_endpoints.true in
    let has_tcbs : c.in_ok-has_tcbs.has_tcbs ≡ true = assumption c.if-has_endpoints.true in
    let has_endpoints : c.in_ok-has_endpoints.has_endpoints ≡ true = assumption c.if-has_endpoints.true in
    let many : length c.args.names.now ≡ 2 * ts + es + us = omega arith in
    let many_known : length known ≡ 2 * ts + es + us = simp length-map (ap length c.requires.known ∙ many) in (
      λ has_untypeds.
          subst (λ names. AreNames p plan (names_view names)) c.requires.known
          (names_found p plan known ts es us c.threads-threads.ensures c.endpoints-endpoints.ensures (ap length c.untypeds-untypeds.ensures)
          (c.in_ok-has_threads.ensures.0 has_threads) (c.in_ok-has_tcbs.ensures.0 has_tcbs) (c.in_ok-has_endpoints.ensures.0 has_endpoints)
          (c.in_ok-has_untypeds.ensures.0 has_untypeds) many_known),
      λ are.
          c.in_ok-has_untypeds.ensures.1
          (untypeds_named p plan known ts es us c.threads-threads.ensures c.endpoints-endpoints.ensures (ap length c.untypeds-untypeds.ensures)
          (subst (λ names. AreNames p plan (names_view names)) (sym c.requires.known) are)),
    )
