-- Who can send to whom.
use Rattle.std.specs.Prelude.{ℕ, Bool, not, ◌==◌, ◌&&◌, ◌||◌, List, [], ◌∷◌, map, filter, Option, Some, None}
use Rattle.std.specs.List.{dedup, flat_map, list_any}
use Rattle.cap_core.specs.Rights.{write_bit, read_bit}
use Rattle.kernel_abstract.specs.Decode.{has_right}
use Rattle.query_reach.specs.declared.endpoints.EndpointWord.{EndpointWord}
use Rattle.query_reach.specs.declared.senders.Channel.{Channel}

-- a word by which its thread may send; one by which it may receive from an endpoint
abbrev pub sends_by_word : EndpointWord → Bool
sends_by_word u = has_right write_bit u.rights

abbrev pub is_receiver : ℕ → EndpointWord → Bool
is_receiver e v = (v.endpoint == e) && has_right read_bit v.rights

-- the first words of the threads that may receive from an endpoint: each thread's words stand together, and rise
abbrev pub receivers : List EndpointWord → ℕ → List EndpointWord
receivers words e = dedup (λ (v w : EndpointWord). v.thread == w.thread) (filter (is_receiver e) words)

-- another thread has one of two words than the other one: they are of two threads, or of one that stands for several
abbrev pub is_between_two : EndpointWord → EndpointWord → Bool
is_between_two u v = u.shared || not (v.thread == u.thread)

-- a sender's channels are to all receivers but itself; without these there is one to nobody
abbrev pub other_words : EndpointWord → List EndpointWord → List EndpointWord
other_words u list = filter (is_between_two u) list

abbrev pub channel : EndpointWord → Option EndpointWord → Channel
channel u v = record { sender = u; receiver = v }

abbrev pub channels_to : EndpointWord → List EndpointWord → List Channel
channels_to u [] = channel u None ∷ []
channels_to u (v ∷ list) = map (λ (w : EndpointWord). channel u (Some w)) (v ∷ list)

abbrev pub channels_of : List EndpointWord → EndpointWord → List Channel
channels_of words u = channels_to u (other_words u (receivers words u.endpoint))

-- all channels between the threads whose words are listed, in the order of the senders
abbrev pub channels : List EndpointWord → List Channel
channels words = flat_map (channels_of words) (filter sends_by_word words)

-- a word by which another thread may send to a receiver
abbrev pub is_sender_to : EndpointWord → EndpointWord → Bool
is_sender_to v u = sends_by_word u && ((u.endpoint == v.endpoint) && is_between_two u v)

-- the receivers of an endpoint to which no other thread may send
abbrev pub receivers_without_sender : List EndpointWord → ℕ → List EndpointWord
receivers_without_sender words e =
    filter (λ (v : EndpointWord). not (list_any (is_sender_to v) words)) (receivers words e)
