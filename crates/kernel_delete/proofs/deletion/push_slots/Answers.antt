use Rattle.std.proofs.Common.{◌*◌, ◌≤◌, ◌+◌, ◌^◌, subst, sym, ℕ}
use Rattle.std.proofs.lemmas.Nat.{one_shl}
use Rattle.cap_core.specs.declared.capability.Cap.{Cap}
use Rattle.cap_core.specs.Numbers.{slot_size, word_bits}
use Rattle.cap_core.specs.Objects.{IsLawful}
use Rattle.kernel_delete.proofs.Ranges.{node_lawful}
use Rattle.kernel_delete.proofs.deletion.push_slots.Goals as goal

pub push_node-requires-clause-aligned : goal.push_node-requires-clause-aligned
push_node-requires-clause-aligned g c =
    let P : Cap → Type 0 = IsLawful g.P.Profile.profile (word_bits g.P.Profile.profile) in
    (node_lawful g.P.Profile.profile c.in-CNode.base c.in-CNode.radix c.in-CNode.guard (subst P c.in-CNode.is c.requires.lawful)).1

pub push_node-requires-clause-end : goal.push_node-requires-clause-end
push_node-requires-clause-end g c =
    let P : Cap → Type 0 = IsLawful g.P.Profile.profile (word_bits g.P.Profile.profile) in
    let h = node_lawful g.P.Profile.profile c.in-CNode.base c.in-CNode.radix c.in-CNode.guard (subst P c.in-CNode.is c.requires.lawful) in
    let Q : ℕ → Type 0 = λ n. c.in-CNode.base + n * slot_size g.P.Profile.profile ≤ 2 ^ word_bits g.P.Profile.profile in
    subst Q (sym (one_shl c.in-CNode.radix 64 h.0)) h.2
