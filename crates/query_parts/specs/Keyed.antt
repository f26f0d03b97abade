-- Uses in the order of a key.
use Rattle.std.specs.Prelude.{ℕ, ◌+◌, ◌*◌, ◌^◌, Bool, ◌==◌, List}
use Rattle.std.specs.List.Sorted.{IsNonDecreasingBy}
use Rattle.query_parts.specs.declared.listed.PartUse.{PartUse}
use Rattle.query_parts.specs.declared.keyed.UseKey.{UseKey}
use Rattle.query_parts.specs.declared.keyed.UseKey.TheVariants as keys

-- the key of an endpoint, or of an endpoint and a badge
abbrev pub key : UseKey → ℕ → ℕ → ℕ
key keys.Endpoint endpoint badge = endpoint
key keys.EndpointAndBadge endpoint badge = endpoint * 2 ^ 64 + badge

-- the key of a use
abbrev pub key_of : UseKey → PartUse → ℕ
key_of by u = key by u.endpoint u.badge.0

-- a use has this key
abbrev pub has_key : UseKey → ℕ → PartUse → Bool
has_key by n u = key_of by u == n

-- no key comes after a greater one
abbrev pub AreByKey : UseKey → List PartUse → Type 0
AreByKey by list = IsNonDecreasingBy (key_of by) list
