-- The lines of channels: who can send to whom.
use Rattle.std.specs.Prelude.{codes, ℕ, Bool, List, [], ◌++◌, Option, Some, None}
use Rattle.std.specs.List.{flat_map}
use Rattle.std.specs.Fmt.{decimal}
use Rattle.kernel_forest.specs.Forest.{Forest}
use Rattle.kernel_forest.specs.Entries.{Entry}
use Rattle.query_reach.specs.declared.endpoints.EndpointWord.{EndpointWord}
use Rattle.query_reach.specs.declared.senders.Channel.{Channel}
use Rattle.query_reach.specs.Endpoints.{endpoint_words}
use Rattle.query_reach.specs.Channels.{channels, receivers_without_sender}
use Rattle.setup_report.specs.Report.{terminated}
use Rattle.command_audit.specs.declared.threads.ThreadSlots.{ThreadSlots}
use Rattle.command_audit.specs.Spaces.{told_as, is_shared}
use Rattle.setup_report.specs.declared.objects.Object.{Object}
use Rattle.setup_report.specs.Naming.{Texts}
use Rattle.command_audit.specs.Text.{sender_text}

-- the words of a thread that lead to endpoints' capabilities; none, where the thread is told as another one
abbrev pub words_unless : Forest Entry → ThreadSlots → Bool → Option ℕ → List EndpointWord
words_unless f t shared None = endpoint_words f t.thread shared t.reached.items
words_unless f t shared (Some first) = []

abbrev pub endpoint_words_of : Forest Entry → List ThreadSlots → ThreadSlots → List EndpointWord
endpoint_words_of f list t = words_unless f t (is_shared list t) (told_as list t)

-- the receiving end: a thread and its word
abbrev pub receiver_text : Texts → EndpointWord → List ℕ
receiver_text texts v = texts.about v.thread ++ (codes " " ++ decimal v.word)

abbrev pub channel_text : List ℕ → Texts → Option EndpointWord → List ℕ
channel_text sender texts None = codes "channel " ++ (sender ++ codes " -> none")
channel_text sender texts (Some v) = codes "channel " ++ (sender ++ (codes " -> " ++ receiver_text texts v))

abbrev pub channel_line : Texts → Channel → List ℕ
channel_line texts c = terminated (channel_text (sender_text texts c.sender) texts c.receiver)

-- a receiver to which no other thread can send
abbrev pub receiver_line : Texts → EndpointWord → List ℕ
receiver_line texts v = terminated (codes "channel none -> " ++ (texts.object (Object.Endpoint v.endpoint) ++ (codes " -> " ++ receiver_text texts v)))

abbrev pub unserved_lines : Texts → List EndpointWord → ℕ → List ℕ
unserved_lines texts words e = flat_map (receiver_line texts) (receivers_without_sender words e)

-- the channels by the words of all threads, and behind them the receivers without a sender, endpoint by endpoint
abbrev pub channel_lines : Texts → List EndpointWord → List ℕ → List ℕ
channel_lines texts words endpoints =
    flat_map (channel_line texts) (channels words) ++ flat_map (unserved_lines texts words) endpoints
