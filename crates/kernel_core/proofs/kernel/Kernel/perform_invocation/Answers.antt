-- Each kind of invocation is performed by its own method, whose clauses are those of its case.
use Rattle.std.proofs.Common.{subst}
use Rattle.kernel_abstract.specs.declared.invocation.Invocation.{Invocation}
use Rattle.kernel_abstract.specs.Private.Invocations.{IsInvocation}
use Rattle.kernel_core.proofs.Capabilities.ShownInvocations.{performed_as}
use Rattle.kernel_core.proofs.kernel.Kernel.perform_invocation.Goals as goal

pub send-requires : goal.send-requires
send-requires g c = record { ready = c.requires.ready; live = subst (λ (k : Invocation). IsInvocation g.P.Profile.profile c.args.self.now k) c.in-Send.is c.requires.invocation }

pub returns-in-Send : goal.returns-in-Send
returns-in-Send g c =
    let done = performed_as g.P.Profile.profile c.args.self.now _ c.args.thread c.args.invocation _ _ c.in-Send.is c.requires.forest c.requires.invocation c.send.ensures.reply c.send.ensures.after in
    record { reply = done.reply_is; after = done.after_is; within = done.within }

pub recv-requires : goal.recv-requires
recv-requires g c = record { ready = c.requires.ready; live = subst (λ (k : Invocation). IsInvocation g.P.Profile.profile c.args.self.now k) c.in-Receive.is c.requires.invocation }

pub returns-in-Receive : goal.returns-in-Receive
returns-in-Receive g c =
    let done = performed_as g.P.Profile.profile c.args.self.now _ c.args.thread c.args.invocation _ _ c.in-Receive.is c.requires.forest c.requires.invocation c.recv.ensures.reply c.recv.ensures.after in
    record { reply = done.reply_is; after = done.after_is; within = done.within }

pub retype-requires : goal.retype-requires
retype-requires g c = subst (λ (k : Invocation). IsInvocation g.P.Profile.profile c.args.self.now k) c.in-Retype.is c.requires.invocation

pub returns-in-Retype : goal.returns-in-Retype
returns-in-Retype g c =
    let done = performed_as g.P.Profile.profile c.args.self.now _ c.args.thread c.args.invocation _ _ c.in-Retype.is c.requires.forest c.requires.invocation c.retype.ensures.reply c.retype.ensures.after in
    record { reply = done.reply_is; after = done.after_is; within = done.within }

pub derive-requires : goal.derive-requires
derive-requires g c = subst (λ (k : Invocation). IsInvocation g.P.Profile.profile c.args.self.now k) c.in-Derive.is c.requires.invocation

pub returns-in-Derive : goal.returns-in-Derive
returns-in-Derive g c =
    let done = performed_as g.P.Profile.profile c.args.self.now _ c.args.thread c.args.invocation _ _ c.in-Derive.is c.requires.forest c.requires.invocation c.derive.ensures.reply c.derive.ensures.after in
    record { reply = done.reply_is; after = done.after_is; within = done.within }

pub relocate-requires : goal.relocate-requires
relocate-requires g c = subst (λ (k : Invocation). IsInvocation g.P.Profile.profile c.args.self.now k) c.in-Move.is c.requires.invocation

pub returns-in-Move : goal.returns-in-Move
returns-in-Move g c =
    let done = performed_as g.P.Profile.profile c.args.self.now _ c.args.thread c.args.invocation _ _ c.in-Move.is c.requires.forest c.requires.invocation c.relocate.ensures.reply c.relocate.ensures.after in
    record { reply = done.reply_is; after = done.after_is; within = done.within }

pub delete-requires : goal.delete-requires
delete-requires g c = subst (λ (k : Invocation). IsInvocation g.P.Profile.profile c.args.self.now k) c.in-Delete.is c.requires.invocation

pub returns-in-Delete : goal.returns-in-Delete
returns-in-Delete g c =
    let done = performed_as g.P.Profile.profile c.args.self.now _ c.args.thread c.args.invocation _ _ c.in-Delete.is c.requires.forest c.requires.invocation c.delete.ensures.reply c.delete.ensures.after in
    record { reply = done.reply_is; after = done.after_is; within = done.within }

pub revoke-requires : goal.revoke-requires
revoke-requires g c = subst (λ (k : Invocation). IsInvocation g.P.Profile.profile c.args.self.now k) c.in-Revoke.is c.requires.invocation

pub returns-in-Revoke : goal.returns-in-Revoke
returns-in-Revoke g c =
    let done = performed_as g.P.Profile.profile c.args.self.now _ c.args.thread c.args.invocation _ _ c.in-Revoke.is c.requires.forest c.requires.invocation c.revoke.ensures.reply c.revoke.ensures.after in
    record { reply = done.reply_is; after = done.after_is; within = done.within }

pub cancel_badged-requires : goal.cancel_badged-requires
cancel_badged-requires g c = subst (λ (k : Invocation). IsInvocation g.P.Profile.profile c.args.self.now k) c.in-CancelBadged.is c.requires.invocation

pub returns-in-CancelBadged : goal.returns-in-CancelBadged
returns-in-CancelBadged g c =
    let done = performed_as g.P.Profile.profile c.args.self.now _ c.args.thread c.args.invocation _ _ c.in-CancelBadged.is c.requires.forest c.requires.invocation c.cancel_badged.ensures.reply c.cancel_badged.ensures.after in
    record { reply = done.reply_is; after = done.after_is; within = done.within }

pub set_space-requires : goal.set_space-requires
set_space-requires g c = subst (λ (k : Invocation). IsInvocation g.P.Profile.profile c.args.self.now k) c.in-SetSpace.is c.requires.invocation

pub returns-in-SetSpace : goal.returns-in-SetSpace
returns-in-SetSpace g c =
    let done = performed_as g.P.Profile.profile c.args.self.now _ c.args.thread c.args.invocation _ _ c.in-SetSpace.is c.requires.forest c.requires.invocation c.set_space.ensures.reply c.set_space.ensures.after in
    record { reply = done.reply_is; after = done.after_is; within = done.within }

pub suspend-requires : goal.suspend-requires
suspend-requires g c = subst (λ (k : Invocation). IsInvocation g.P.Profile.profile c.args.self.now k) c.in-Suspend.is c.requires.invocation

pub returns-in-Suspend : goal.returns-in-Suspend
returns-in-Suspend g c =
    let done = performed_as g.P.Profile.profile c.args.self.now _ c.args.thread c.args.invocation _ _ c.in-Suspend.is c.requires.forest c.requires.invocation c.suspend.ensures.reply c.suspend.ensures.after in
    record { reply = done.reply_is; after = done.after_is; within = done.within }

pub resume-requires : goal.resume-requires
resume-requires g c = subst (λ (k : Invocation). IsInvocation g.P.Profile.profile c.args.self.now k) c.in-Resume.is c.requires.invocation

pub returns-in-Resume : goal.returns-in-Resume
returns-in-Resume g c =
    let done = performed_as g.P.Profile.profile c.args.self.now _ c.args.thread c.args.invocation _ _ c.in-Resume.is c.requires.forest c.requires.invocation c.resume.ensures.reply c.resume.ensures.after in
    record { reply = done.reply_is; after = done.after_is; within = done.within }
