-- What leaves in small cases: a CNode with two slots at 1024, a thread at 2048 and an endpoint at 4096.
use Rattle.std.proofs.Common.{◌≡◌, true, false, List, [], ◌∷◌, refl}
use Rattle.cap_core.specs.declared.profile.ProfileName.TheVariants.{Wide}
use Rattle.cap_core.specs.declared.capability.Cap.{Cap}
use Rattle.cap_core.specs.declared.capability.Cap.TheVariants.{Untyped, Endpoint, CNode, Tcb}
use Rattle.cap_core.specs.Rights.{all_rights}
use Rattle.kernel_forest.specs.Forest.{Forest, none, tree}
use Rattle.kernel_forest.specs.Entries.{Entry, entry, slots}
use Rattle.kernel_forest.specs.Slots.{slots_of}
use Rattle.kernel_delete.specs.Least.{cleared}
use Rattle.kernel_delete.specs.Revoke.{revoke}

node : Cap
node = CNode 1024 1 (record { value = 0; size = 0 })

endpoint : Cap
endpoint = Endpoint 4096 (record { 0 = 0 }) all_rights

-- the CNode holds the thread's only capability, and the thread's root slot one of the endpoint
whole : List Entry
whole = entry 0 node true ∷ entry 1056 (Tcb 2048) true ∷ entry 2048 endpoint true ∷ entry 32 endpoint false ∷ []

-- with the CNode's only capability go the thread in it and what the thread's root slot holds, and nothing else
root_slot_leaves : cleared Wide whole 0 2048 ≡ true
unfolding whole node endpoint slots_of
root_slot_leaves = refl

other_stays : cleared Wide whole 0 32 ≡ false
unfolding whole node endpoint slots_of
other_stays = refl

-- a CNode that holds a capability of itself stays, with what lies in it
selfheld : List Entry
selfheld = entry 0 node true ∷ entry 1024 node false ∷ entry 1056 endpoint true ∷ []

contents_stay : cleared Wide selfheld 0 1056 ≡ false
unfolding selfheld node endpoint slots_of
contents_stay = refl

-- the revoked slot lies in the CNode, whose only capability is its first child: the slot itself is emptied, and no more is
held : Forest Entry
held = tree (entry 1024 (Untyped 0 13 8192) true) (tree (entry 0 node true) none (tree (entry 32 endpoint false) none none)) none

emptied_itself : slots (revoke Wide 1024 held) ≡ 32 ∷ []
unfolding held node endpoint slots_of revoke
emptied_itself = refl
