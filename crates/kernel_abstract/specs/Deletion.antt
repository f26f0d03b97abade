-- What a delete, a revoke and a cancelling of badged sends check (seL4 Reference Manual, on CNodes), and what ends by them.
use Rattle.std.specs.Prelude.{ℕ, ◌==◌, cond, Result, Ok, Err}
use Rattle.cap_core.specs.declared.profile.ProfileName.{ProfileName}
use Rattle.cap_core.specs.declared.capability.Cap.{Cap}
use Rattle.cap_core.specs.declared.capability.Cap.TheVariants.{Endpoint}
use Rattle.cap_core.specs.declared.capability.Kind.TheVariants as kind
use Rattle.cap_core.specs.Rights.{all_rights}
use Rattle.cap_core.specs.Checks.{◌>>=◌}
use Rattle.kernel_forest.specs.Forest.{Forest}
use Rattle.kernel_forest.specs.Entries.{Entry, cap_at}
use Rattle.kernel_abstract.specs.declared.invocation.Service.{Service}
use Rattle.kernel_abstract.specs.declared.reason.Word.TheVariants.{Index}
use Rattle.kernel_abstract.specs.declared.reason.Reason.{Reason}
use Rattle.kernel_abstract.specs.declared.reason.Reason.TheVariants.{NotAllRights}
use Rattle.kernel_abstract.specs.Reasons.{held_at}
use Rattle.kernel_abstract.specs.Lookups.{slot_by_index, of_kind}

-- the slot that is named by an index and a depth from the invoked CNode; an empty one is no refusal
abbrev pub checked_slot : ProfileName → Forest Entry → ℕ → ℕ → ℕ → Result ℕ Reason
checked_slot p f at index depth =
    of_kind kind.CNode (held_at (cap_at f) at) >>= λ node.
    slot_by_index p (cap_at f) Index at index depth

-- the endpoint and the badge of the capability in a slot, if it is an endpoint's with all rights
abbrev pub ensure_all_rights : ℕ → Cap → Result Service Reason
ensure_all_rights slot (Endpoint base badge rights) =
    cond (rights.0 == all_rights.0) (Ok (record { endpoint = base; badge = badge }))
    (Err (NotAllRights (record { slot = slot; cap = Endpoint base badge rights })))
ensure_all_rights slot cap = Err (NotAllRights (record { slot = slot; cap = cap }))

-- the endpoint and the badge of the capability in the slot that is named
abbrev pub checked_badge : ProfileName → Forest Entry → ℕ → ℕ → ℕ → Result Service Reason
checked_badge p f at index depth =
    checked_slot p f at index depth >>= λ slot.
    ensure_all_rights slot (cap_at f slot)
