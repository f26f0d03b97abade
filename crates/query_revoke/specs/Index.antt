-- Places of derivations, by which they are looked up.
use Rattle.std.specs.Prelude.{◌^◌, ◌<◌, List, map, All}
use Rattle.cap_core.specs.declared.profile.ProfileName.{ProfileName}
use Rattle.slot_core.specs.declared.derivations.Derivation.{Derivation}
use Rattle.slot_core.specs.Places.{address_of}
use Rattle.query_revoke.specs.declared.keyed.Keyed.{Keyed}
use Rattle.query_revoke.specs.Keyed.{AreKeyed}
use Rattle.query_revoke.specs.Objects.{size_in, object_number}

-- places of derivations by the numbers of what they name, which are apart since no size takes more than its bits
pub record AreByObject (list : List Derivation) (objects : List Keyed) : Type 0 where
  pub numbers : AreKeyed (map (λ (d : Derivation). object_number d.cap) list) objects
  pub small : All (λ (d : Derivation). size_in d.cap < 2 ^ 32) list

-- places of derivations by the addresses of their slots, and by what they name
pub record IsIndex (p : ProfileName) (list : List Derivation) (places objects : List Keyed) : Type 0 where
  pub addresses : AreKeyed (map (λ (d : Derivation). address_of p d.slot) list) places
  pub named : AreByObject list objects
