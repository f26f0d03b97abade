use Rattle.std.proofs.Common.{IfSome, sym, ap, subst, ◌∙◌}
use Rattle.cap_core.specs.Numbers.{tcb_size, endpoint_size}
use Rattle.ipc_core.specs.declared.tables.QueueRow.{QueueRow}
use Rattle.ipc_core.specs.Representation.Linked.{HasRow}
use Rattle.ipc_core.proofs.QueueForm.InTables.{endpoint_there, previous_there, next_there, out_links, out, out_others, orders_free, waits_free, still_has, still_if, none_of}
use Rattle.ipc_core.proofs.tables.Tables.take_out.Goals as goal

pub lead-requires-clause-endpoint : goal.lead-requires-clause-endpoint
lead-requires-clause-endpoint g c =
    let p = g.P.Profile.profile in
    let old = c.args.self.now in
    let waits = sym (ap (λ (row : QueueRow). row.role) c.thread-row.ensures) ∙ c.in-Some.is in
    subst (HasRow (endpoint_size p) old.endpoints.items) (sym c.endpoint-endpoint.ensures) (endpoint_there p old c.requires.linked c.args.thread c.in-Some.role waits)

pub lead-requires-clause-previous : goal.lead-requires-clause-previous
lead-requires-clause-previous g c =
    let p = g.P.Profile.profile in
    let old = c.args.self.now in
    let waits = sym (ap (λ (row : QueueRow). row.role) c.thread-row.ensures) ∙ c.in-Some.is in
    subst (λ (row : QueueRow). IfSome row.previous (HasRow (tcb_size p) old.threads.items)) (sym c.thread-row.ensures) (previous_there p old c.requires.linked c.args.thread c.in-Some.role waits)

pub lead_back-requires-clause-endpoint : goal.lead_back-requires-clause-endpoint
lead_back-requires-clause-endpoint g c =
    let p = g.P.Profile.profile in
    let old = c.args.self.now in
    let waits = sym (ap (λ (row : QueueRow). row.role) c.thread-row.ensures) ∙ c.in-Some.is in
    still_has (endpoint_size p) old.endpoints.items c.lead.new.self.endpoints.items c.endpoint-endpoint.result c.lead.ensures.endpoints
    (subst (HasRow (endpoint_size p) old.endpoints.items) (sym c.endpoint-endpoint.ensures) (endpoint_there p old c.requires.linked c.args.thread c.in-Some.role waits))

pub lead_back-requires-clause-next : goal.lead_back-requires-clause-next
lead_back-requires-clause-next g c =
    let p = g.P.Profile.profile in
    let old = c.args.self.now in
    let waits = sym (ap (λ (row : QueueRow). row.role) c.thread-row.ensures) ∙ c.in-Some.is in
    let there = subst (λ (row : QueueRow). IfSome row.next (HasRow (tcb_size p) old.threads.items)) (sym c.thread-row.ensures) (next_there p old c.requires.linked c.args.thread c.in-Some.role waits) in
    still_if (tcb_size p) old.threads.items c.lead.new.self.threads.items c.thread-row.result.next c.lead.ensures.threads there

pub returns-in-Some-clause-linked : goal.returns-in-Some-clause-linked
returns-in-Some-clause-linked g c =
    let p = g.P.Profile.profile in
    let old = c.args.self.now in
    let waits = sym (ap (λ (row : QueueRow). row.role) c.thread-row.ensures) ∙ c.in-Some.is in
    let links = out_links p old c.requires.linked c.args.thread c.in-Some.role waits c.thread-row.result c.endpoint-endpoint.result c.lead.new.self c.lead_back.new.self c.set_role.new.self
    c.thread-row.ensures c.endpoint-endpoint.ensures c.lead.ensures.links c.lead_back.ensures.links c.set_role.ensures.links in
    (out p old c.requires.linked c.args.thread c.in-Some.role waits c.set_role.new.self links (c.set_role.ensures.threads ∙ c.lead_back.ensures.threads ∙ c.lead.ensures.threads)).2

pub returns-in-Some-clause-waits : goal.returns-in-Some-clause-waits
returns-in-Some-clause-waits g c =
    let p = g.P.Profile.profile in
    let old = c.args.self.now in
    let waits = sym (ap (λ (row : QueueRow). row.role) c.thread-row.ensures) ∙ c.in-Some.is in
    let links = out_links p old c.requires.linked c.args.thread c.in-Some.role waits c.thread-row.result c.endpoint-endpoint.result c.lead.new.self c.lead_back.new.self c.set_role.new.self
    c.thread-row.ensures c.endpoint-endpoint.ensures c.lead.ensures.links c.lead_back.ensures.links c.set_role.ensures.links in
    (out p old c.requires.linked c.args.thread c.in-Some.role waits c.set_role.new.self links (c.set_role.ensures.threads ∙ c.lead_back.ensures.threads ∙ c.lead.ensures.threads)).0

pub returns-in-Some-clause-orders : goal.returns-in-Some-clause-orders
returns-in-Some-clause-orders g c =
    let p = g.P.Profile.profile in
    let old = c.args.self.now in
    let waits = sym (ap (λ (row : QueueRow). row.role) c.thread-row.ensures) ∙ c.in-Some.is in
    let links = out_links p old c.requires.linked c.args.thread c.in-Some.role waits c.thread-row.result c.endpoint-endpoint.result c.lead.new.self c.lead_back.new.self c.set_role.new.self
    c.thread-row.ensures c.endpoint-endpoint.ensures c.lead.ensures.links c.lead_back.ensures.links c.set_role.ensures.links in
    (out p old c.requires.linked c.args.thread c.in-Some.role waits c.set_role.new.self links (c.set_role.ensures.threads ∙ c.lead_back.ensures.threads ∙ c.lead.ensures.threads)).1

pub returns-in_default-clause-waits : goal.returns-in_default-clause-waits
returns-in_default-clause-waits g c =
    waits_free g.P.Profile.profile c.args.self.now c.requires.linked c.args.thread (sym (ap (λ (row : QueueRow). row.role) c.thread-row.ensures) ∙ none_of c.thread-row.result.role c.in_default.not-Some)

pub returns-in_default-clause-orders : goal.returns-in_default-clause-orders
returns-in_default-clause-orders g c =
    orders_free g.P.Profile.profile c.args.self.now c.requires.linked c.args.thread (sym (ap (λ (row : QueueRow). row.role) c.thread-row.ensures) ∙ none_of c.thread-row.result.role c.in_default.not-Some)

pub returns-in-Some-clause-others : goal.returns-in-Some-clause-others
returns-in-Some-clause-others g c =
    let p = g.P.Profile.profile in
    let old = c.args.self.now in
    let waits = sym (ap (λ (row : QueueRow). row.role) c.thread-row.ensures) ∙ c.in-Some.is in
    let links = out_links p old c.requires.linked c.args.thread c.in-Some.role waits c.thread-row.result c.endpoint-endpoint.result c.lead.new.self c.lead_back.new.self c.set_role.new.self
    c.thread-row.ensures c.endpoint-endpoint.ensures c.lead.ensures.links c.lead_back.ensures.links c.set_role.ensures.links in
    out_others p old c.requires.linked c.args.thread c.in-Some.role waits c.set_role.new.self links
