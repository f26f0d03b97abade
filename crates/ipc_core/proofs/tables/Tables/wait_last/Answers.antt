use Rattle.std.proofs.Common.{IfSome, sym, ap, subst, ◌∙◌}
use Rattle.cap_core.specs.Numbers.{tcb_size}
use Rattle.ipc_core.specs.declared.tables.EndpointRow.{EndpointRow}
use Rattle.ipc_core.specs.Representation.Linked.{HasRow}
use Rattle.ipc_core.proofs.QueueForm.InTables.{last_there, last_links, put_in, still_if}
use Rattle.ipc_core.proofs.tables.Tables.wait_last.Goals as goal

pub lead-requires-clause-previous : goal.lead-requires-clause-previous
lead-requires-clause-previous g c =
    let p = g.P.Profile.profile in
    let old = c.args.self.now in
    still_if (tcb_size p) old.threads.items c.set_thread.new.self.threads.items c.endpoint-last.result.last c.set_thread.ensures.threads
    (subst (λ (row : EndpointRow). IfSome row.last (HasRow (tcb_size p) old.threads.items)) (sym c.endpoint-last.ensures)
    (last_there p old c.requires.linked c.args.endpoint c.args.thread c.args.row c.requires.free c.requires.role c.requires.thread))

pub returns-clause-linked : goal.returns-clause-linked
returns-clause-linked g c =
    let p = g.P.Profile.profile in
    let old = c.args.self.now in
    let links = last_links p old c.requires.linked c.args.endpoint c.args.thread c.args.row c.requires.free c.requires.role c.requires.thread
    c.endpoint-last.result.last c.set_thread.new.self c.lead.new.self c.lead_back.new.self (ap (λ (row : EndpointRow). row.last) c.endpoint-last.ensures)
    c.set_thread.ensures.links c.lead.ensures.links c.lead_back.ensures.links in
    (put_in p old c.requires.linked c.args.endpoint c.args.thread c.args.row c.requires.free c.requires.role c.requires.thread c.lead_back.new.self links
    (c.lead_back.ensures.threads ∙ c.lead.ensures.threads ∙ c.set_thread.ensures.threads)).1

pub returns-clause-waits : goal.returns-clause-waits
returns-clause-waits g c =
    let p = g.P.Profile.profile in
    let old = c.args.self.now in
    let links = last_links p old c.requires.linked c.args.endpoint c.args.thread c.args.row c.requires.free c.requires.role c.requires.thread
    c.endpoint-last.result.last c.set_thread.new.self c.lead.new.self c.lead_back.new.self (ap (λ (row : EndpointRow). row.last) c.endpoint-last.ensures)
    c.set_thread.ensures.links c.lead.ensures.links c.lead_back.ensures.links in
    (put_in p old c.requires.linked c.args.endpoint c.args.thread c.args.row c.requires.free c.requires.role c.requires.thread c.lead_back.new.self links
    (c.lead_back.ensures.threads ∙ c.lead.ensures.threads ∙ c.set_thread.ensures.threads)).0
