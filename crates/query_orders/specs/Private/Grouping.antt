-- Groups of clients, while they are made.
use Rattle.std.specs.Prelude.{◌≡◌, ◌≤◌, ◌<◌, ◌==◌, ◌||◌, ℕ, Bool, true, cond, List, [], ◌++◌, map, filter, length, slice_get, unwrap_or}
use Rattle.std.specs.List.{flat_map}
use Rattle.std.specs.Global.{Vec}
use Rattle.cap_core.specs.declared.profile.ProfileName.{ProfileName}
use Rattle.kernel_abstract.specs.declared.call.Call.{Call}
use Rattle.kernel_abstract.specs.Shown.{Shown}
use Rattle.query_orders.specs.declared.answer.WaitingCall.{WaitingCall}
use Rattle.query_orders.specs.declared.groups.objects.CallObject.{CallObject}
use Rattle.query_orders.specs.Groups.{object_of, objects_of_call, calls_left, share, group_of_client}

-- what a client touches, by the parts of a world
abbrev pub objects_by : ProfileName → List (List Call) → List ℕ → List WaitingCall → Shown → ℕ → List CallObject
objects_by p own made waits v client =
    flat_map (objects_of_call p v) (calls_left own made client)
    ++ map (λ (call : WaitingCall). object_of v call.thread) (filter (λ (call : WaitingCall). call.client == client) waits)

abbrev pub object_lists : List (Vec CallObject) → List (List CallObject)
object_lists lists = map (λ (v : Vec CallObject). v.items) lists

-- whether two clients touch one object, by what each touches, or capabilities may change
abbrev pub touch_alike : Bool → List (List CallObject) → ℕ → ℕ → Bool
touch_alike may_change objects a b = may_change || share (unwrap_or (slice_get objects a) []) (unwrap_or (slice_get objects b) [])

-- the group that comes in a group's place, where all clients of one go to another
abbrev pub regrouped : ℕ → ℕ → ℕ → ℕ
regrouped from to group = cond (group == from) to group

-- clients that are together are in one group: each client before `a` with all others, and `a` with each before `b`
pub record AreGrouped (together : ℕ → ℕ → Bool) (a b : ℕ) (groups : List ℕ) : Type 0 where
  pub first : (client : ℕ) → client < length groups → (group_of_client groups client ≤ client) × (group_of_client groups (group_of_client groups client) ≡ group_of_client groups client)
  pub finest : (other : ℕ → ℕ) → ((x y : ℕ) → x < length groups → y < length groups → together x y ≡ true → other x ≡ other y)
      → (client : ℕ) → client < length groups → other client ≡ other (group_of_client groups client)
  pub before : (x y : ℕ) → x < a → x < length groups → y < length groups → together x y ≡ true → group_of_client groups x ≡ group_of_client groups y
  pub here : (y : ℕ) → y < b → a < length groups → y < length groups → together a y ≡ true → group_of_client groups a ≡ group_of_client groups y
