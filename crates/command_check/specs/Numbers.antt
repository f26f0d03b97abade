-- The numbers of a set-up's calls, from 1 on, by the clients that make them, and what is expected of the call with a number.
use Rattle.std.specs.Prelude.{ℕ, zero, suc, ◌+◌, ◌==◌, cond, List, [], ◌∷◌, map, Option, None, option_and_then, slice_get, unwrap_or}
use Rattle.std.specs.List.{range_with_len}
use Rattle.std.specs.Global.{Vec}
use Rattle.setup_format.specs.Views.{CallView, SetupView}

-- the numbers of a client's calls, if the first of the calls has this number
abbrev pub client_numbers : ℕ → ℕ → List CallView → List ℕ
client_numbers client number [] = []
client_numbers client number (call ∷ calls) =
    cond (call.client == client) (number ∷ client_numbers client (number + 1) calls) (client_numbers client (number + 1) calls)

-- the numbers of each client's calls
abbrev pub client_numbers_of : SetupView → List (List ℕ)
client_numbers_of setup = map (λ client. client_numbers client 1 setup.calls) (range_with_len 0 setup.clients)

-- the numbers in lists that the code keeps
abbrev pub numbers_in : List (Vec ℕ) → List (List ℕ)
numbers_in lists = map (λ (v : Vec ℕ). v.items) lists

-- the number of the call of a client at a place among its calls
abbrev pub call_number_at : List (List ℕ) → ℕ → ℕ → ℕ
call_number_at numbers client place = unwrap_or (option_and_then (λ (own : List ℕ). slice_get own place) (slice_get numbers client)) 0

-- the call with a number, from 1 on
abbrev pub view_numbered : List CallView → ℕ → Option CallView
view_numbered calls zero = None
view_numbered calls (suc n) = slice_get calls n

-- what is expected of the call with a number; nothing if there is no such call
abbrev pub expectation_of : List CallView → ℕ → Option (List ℕ)
expectation_of calls number = option_and_then (λ (call : CallView). call.expect) (view_numbered calls number)
