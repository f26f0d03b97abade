-- What is seen of a set-up.
use Rattle.std.specs.Prelude.{ℕ, ◌≤◌, ◌<◌, List, [], ◌∷◌, length, All, Option, option_map, string_bytes}
use Rattle.toml.specs.Data.{Members}
use Rattle.cap_core.specs.declared.profile.ProfileName.{ProfileName}
use Rattle.setup_values.specs.Names.{Names}
use Rattle.kernel_abstract.specs.declared.call.Call.{Call}
use Rattle.kernel_abstract.specs.Plan.{Plan}
use Rattle.cap_core.specs.Limits.{max_clients, max_history_limit}
use Rattle.setup_format.specs.Limits.{max_calls}
use Rattle.setup_format.specs.declared.setup.Caller.{Caller}

-- a call, the client that makes it, and what its reply is expected to begin with
pub record CallView : Type 0 where
  pub call : Call
  pub client : ℕ
  pub expect : Option (List ℕ)

-- what a set-up means: profile, plan, clients, limit of the history, calls
pub record SetupView : Type 0 where
  pub profile : ProfileName
  pub plan : Plan
  pub clients : ℕ
  pub limit : ℕ
  pub calls : List CallView

-- a set-up as it was read: with the table of its text and the names by which it is spelt, which are no part of it
pub record ReadView : Type 0 where
  pub table : Members
  pub names : Names
  pub setup : SetupView

-- ---- what a set-up is, as the code keeps it

-- a call, with its client and what it expects
abbrev pub call_view : Call → Caller → CallView
call_view call caller = record { call = call; client = caller.client; expect = option_map string_bytes caller.expect }

-- calls, each with its client and what it expects
abbrev pub call_views : List Call → List Caller → List CallView
call_views [] callers = []
call_views (call ∷ calls) [] = []
call_views (call ∷ calls) (caller ∷ callers) = call_view call caller ∷ call_views calls callers

-- a set-up of these parts
abbrev pub setup_view : ProfileName → Plan → ℕ → ℕ → List CallView → SetupView
setup_view profile plan clients limit calls =
    record { profile = profile; plan = plan; clients = clients; limit = limit; calls = calls }

-- ---- bounds

-- the number of clients, the most entries of a history, the number of calls and each call's client lie within their bounds
pub record IsWithinBounds (s : SetupView) : Type 0 where
  pub clients_least : 1 ≤ s.clients
  pub clients_most : s.clients ≤ max_clients
  pub limit_least : 1 ≤ s.limit
  pub limit_most : s.limit ≤ max_history_limit
  pub calls_most : length s.calls ≤ max_calls
  pub each_client : All (λ call. call.client < s.clients) s.calls
