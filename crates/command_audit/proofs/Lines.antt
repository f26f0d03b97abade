-- The lines of receivers to which no other thread can send, by the words of each endpoint.
use Rattle.std.proofs.Common.{◌≡◌, ℕ, sym, ap, ◌∙◌, List, ◌++◌, filter, append_assoc}
use Rattle.std.specs.List.{flat_map}
use Rattle.query_reach.specs.declared.endpoints.EndpointWord.{EndpointWord}
use Rattle.query_reach.specs.declared.senders.Channel.{Channel}
use Rattle.query_reach.specs.ByEndpoint.{leads_to}
use Rattle.query_reach.specs.Channels.{channels, receivers_without_sender}
use Rattle.query_reach.proofs.ByEndpoint.{unserved_of}
use Rattle.setup_report.specs.Naming.{Texts}
use Rattle.command_audit.specs.Channels.{channel_line, receiver_line, unserved_lines, channel_lines}

-- the lines of one endpoint, by its words
pub unserved_at : (texts : Texts) (words own list : List EndpointWord) (e : ℕ) → own ≡ filter (leads_to e) words → list ≡ receivers_without_sender own e →
    flat_map (receiver_line texts) list ≡ unserved_lines texts words e
unserved_at texts words own list e is holds =
    ap (flat_map (receiver_line texts)) (holds ∙ (ap (λ (l : List EndpointWord). receivers_without_sender l e) is ∙ unserved_of e words))

unserved_same : (texts : Texts) (words list : List EndpointWord) → ((e : ℕ) → filter (leads_to e) list ≡ filter (leads_to e) words) → (endpoints : List ℕ) →
    flat_map (unserved_lines texts list) endpoints ≡ flat_map (unserved_lines texts words) endpoints
unserved_same texts words list same endpoints =
    λ i. flat_map (λ (e : ℕ). flat_map (receiver_line texts) ((sym (unserved_of e list) ∙ (ap (λ (l : List EndpointWord). receivers_without_sender l e) (same e) ∙ unserved_of e words)) i)) endpoints

-- all lines
pub all_channels : (texts : Texts) (words list : List EndpointWord) (told : List Channel) (endpoints : List ℕ) (start first last : List ℕ) →
    told ≡ channels words → ((e : ℕ) → filter (leads_to e) list ≡ filter (leads_to e) words) →
    first ≡ start ++ flat_map (channel_line texts) told → last ≡ first ++ flat_map (unserved_lines texts list) endpoints →
    last ≡ start ++ channel_lines texts words endpoints
all_channels texts words list told endpoints start first last all same is so =
    so
    ∙ ((λ i. is i ++ (unserved_same texts words list same endpoints) i)
    ∙ (append_assoc start (flat_map (channel_line texts) told) (flat_map (unserved_lines texts words) endpoints)
    ∙ ap (λ (l : List Channel). start ++ (flat_map (channel_line texts) l ++ flat_map (unserved_lines texts words) endpoints)) all))
