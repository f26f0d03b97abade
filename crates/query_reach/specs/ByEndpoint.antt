-- Words by rising endpoint.
use Rattle.std.specs.Prelude.{ℕ, Bool, ◌==◌, ◌&&◌, List}
use Rattle.std.specs.List.Sorted.{IsNonDecreasingBy}
use Rattle.cap_core.specs.Rights.{read_bit}
use Rattle.kernel_abstract.specs.Decode.{has_right}
use Rattle.query_reach.specs.declared.endpoints.EndpointWord.{EndpointWord}

-- whether a word leads to a capability of an endpoint, and whether its thread may receive by it
abbrev pub leads_to : ℕ → EndpointWord → Bool
leads_to e v = v.endpoint == e

abbrev pub may_receive : EndpointWord → Bool
may_receive v = has_right read_bit v.rights

-- two words of one thread that lead to one endpoint
abbrev pub same_receiver : EndpointWord → EndpointWord → Bool
same_receiver v w = (v.endpoint == w.endpoint) && (v.thread == w.thread)

-- the words are in the order of their endpoints
abbrev pub AreByEndpoint : List EndpointWord → Type 0
AreByEndpoint words = IsNonDecreasingBy (λ (v : EndpointWord). v.endpoint) words
