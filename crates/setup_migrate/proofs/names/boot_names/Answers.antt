use Rattle.std.proofs.Common.{ℕ, ◌+◌, ◌*◌, codes, length, sym, ap, ◌∙◌, arith}
use Rattle.toml.specs.Data.{no_members}
use Rattle.toml.specs.View.{members_view, table_view}
use Rattle.kernel_abstract.specs.Plan.{first_tcb, tcb_place}
use Rattle.setup_migrate.specs.Migration.{with_words, numbered_names}
use Rattle.setup_migrate.proofs.Law.Names.{with_words-append, added}
use Rattle.setup_migrate.proofs.names.boot_names.Goals as goal

pub returns : goal.returns
returns g c =
    let p = g.P.Profile.profile in
    let plan = c.args.plan.now in
    let untyped = λ (k : ℕ). 2 + plan.threads + plan.endpoints + k in
    let endpoint = λ (j : ℕ). 2 + plan.threads + j in
    let tcb = λ (i : ℕ). 2 + i in
    let untyped_made = λ (k : ℕ). 2 + c.from-first_endpoint.result + c.from.result + 1 * k in
    let endpoint_made = λ (j : ℕ). 2 + c.from-first_endpoint.result + 1 * j in
    let tcb_made = λ (i : ℕ). 2 + 1 * i in
    let place_made = λ (i : ℕ). c.first_tcb-first_thread.result + c.tcb_size.result * i in
    let with_untypeds = with_words (numbered_names (codes "untyped_") untyped (length plan.untypeds)) no_members in
    let with_endpoints = with_words (numbered_names (codes "ep_") endpoint plan.endpoints) with_untypeds in
    let with_tcbs = with_words (numbered_names (codes "tcb_") tcb plan.threads) with_endpoints in
    let untypeds = added (codes "untyped_") untyped untyped_made (length c.untypeds.result.now) (length plan.untypeds) (members_view c.new-names.result.entries) no_members (table_view c.add_names.new.names)
    c.in_ok-add_names.ensures (ap members_view c.new-names.ensures.empty) (ap length c.untypeds.ensures) (λ k. omega arith) in
    let endpoints = added (codes "ep_") endpoint endpoint_made c.endpoints-endpoints.result plan.endpoints (table_view c.add_names.new.names) with_untypeds (table_view c.add_names-2.new.names)
    c.in_ok-add_names-2.ensures untypeds c.endpoints-endpoints.ensures (λ j. omega arith) in
    let tcbs = added (codes "tcb_") tcb tcb_made c.threads-threads.result plan.threads (table_view c.add_names-2.new.names) with_endpoints (table_view c.add_names-3.new.names)
    c.in_ok-add_names-3.ensures endpoints c.threads-threads.ensures (λ i. omega arith) in
    let places = added (codes "thread_") (tcb_place p plan) place_made c.threads-threads.result plan.threads (table_view c.add_names-3.new.names) with_tcbs (table_view c.add_names-4.new.names)
    c.in_ok-add_names-4.ensures tcbs c.threads-threads.ensures (λ i. ap (λ a. a + c.tcb_size.result * i) c.first_tcb-first_thread.ensures ∙ ap (λ b. first_tcb p plan + b * i) c.tcb_size.ensures) in
    let rest = numbered_names (codes "thread_") (tcb_place p plan) plan.threads in
    places
    ∙ sym (with_words-append (numbered_names (codes "untyped_") untyped (length plan.untypeds)) _ no_members
    ∙ (with_words-append (numbered_names (codes "ep_") endpoint plan.endpoints) _ with_untypeds ∙ with_words-append (numbered_names (codes "tcb_") tcb plan.threads) rest with_endpoints))
