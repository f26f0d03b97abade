-- The words of threads that lead to endpoints' capabilities.
use Rattle.std.specs.Prelude.{ℕ, Bool, List, Option, Some, None}
use Rattle.std.specs.List.{filter_map}
use Rattle.cap_core.specs.declared.capability.Cap.{Cap}
use Rattle.cap_core.specs.declared.capability.Cap.TheVariants.{Endpoint}
use Rattle.kernel_forest.specs.Forest.{Forest}
use Rattle.kernel_forest.specs.Entries.{Entry, cap_at}
use Rattle.query_reach.specs.declared.endpoints.EndpointWord.{EndpointWord}
use Rattle.query_reach.specs.declared.reached.Reached.{Reached}

-- a word of a thread that leads to a capability, if that is an endpoint's; another thread may have the same words
abbrev pub endpoint_word : ℕ → Bool → ℕ → Cap → Option EndpointWord
endpoint_word thread shared word (Endpoint base badge rights) =
    Some (record { thread = thread; shared = shared; word = word; endpoint = base; badge = badge; rights = rights })
endpoint_word thread shared word cap = None

-- the words of a list of reached slots that lead to endpoints' capabilities
abbrev pub endpoint_words : Forest Entry → ℕ → Bool → List Reached → List EndpointWord
endpoint_words f thread shared list = filter_map (λ (r : Reached). endpoint_word thread shared r.word (cap_at f r.slot)) list
