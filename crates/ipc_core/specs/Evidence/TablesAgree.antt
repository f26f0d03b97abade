-- Queues inside tables: the roles and the waiting lists that they stand for say the same.
use Rattle.std.proofs.Common.{◌≡◌, ℕ, ◌==◌, ◌||◌, List, [], ◌∷◌, map, Option, None, Some, option_map, refl, sym, ap, subst, ◌∙◌}
use Rattle.std.specs.List.{AllByRecursion as Each, list_any}
use Rattle.cap_core.specs.declared.profile.ProfileName.{ProfileName}
use Rattle.cap_core.specs.declared.message.Message.{Message}
use Rattle.cap_core.specs.declared.capability.Badge.{Badge}
use Rattle.cap_core.specs.Distinct.{IsApart}
use Rattle.ipc_core.specs.declared.waiter.Waiter.{Waiter}
use Rattle.ipc_core.specs.declared.waiter.Role.{Role}
use Rattle.ipc_core.specs.declared.waiter.Role.TheVariants.{Sending, Receiving}
use Rattle.ipc_core.specs.declared.tables.QueueRow.{QueueRow}
use Rattle.ipc_core.specs.declared.tables.Tables.{Tables}
use Rattle.ipc_core.specs.Waits.{thread_of, role_at, endpoint_of}
use Rattle.ipc_core.specs.Cancelled.{is_thread}
use Rattle.ipc_core.specs.Agreement.{AreAlike, AreRolesAndQueues}
use Rattle.ipc_core.specs.Representation.Chains.{has}
use Rattle.ipc_core.specs.Representation.Linked.{Links, waiter_in, waiter_of, waits_by, waits_in, AreLinked, IsLinked}

pub thread_of_waiter : (row : QueueRow) (t : ℕ) → thread_of (waiter_of row t) ≡ t
thread_of_waiter row t = by_role t row.badge row.message row.role
  where
    by_role : (t : ℕ) (badge : Badge) (message : Message) (o : Option Role) → thread_of (waiter_in t badge message o) ≡ t
    by_role t badge message None = refl
    by_role t badge message (Some (Sending e)) = refl
    by_role t badge message (Some (Receiving e)) = refl

-- the role of a thread that waits, by its row, is that of its place
role_here : (e t : ℕ) (badge : Badge) (message : Message) (o : Option Role) → option_map endpoint_of o ≡ Some e → o ≡ Some (role_at e (waiter_in t badge message o))
role_here e t badge message None at = cc
role_here e t badge message (Some (Sending q)) at = let d : q ≡ e = cc in ap (λ n. Some (Sending n)) d
role_here e t badge message (Some (Receiving q)) at = let d : q ≡ e = cc in ap (λ n. Some (Receiving n)) d

module _ (l : Links) where
  abbrev waiting : List ℕ → List Waiter
  waiting list = map (λ t. waiter_of (l.thread t) t) list

  queued_from : (e : ℕ) (list : List ℕ) → Each (λ t. option_map endpoint_of (l.thread t).role ≡ Some e) list →
      Each (λ x. (l.thread (thread_of x)).role ≡ Some (role_at e x)) (waiting list)
  queued_from e [] each = tt
  queued_from e (t ∷ list) each = (
    ap (λ k. (l.thread k).role) (thread_of_waiter (l.thread t) t) ∙ role_here e t (l.thread t).badge (l.thread t).message (l.thread t).role each.0,
    queued_from e list each.1,
  )

  any_same : (t : ℕ) (list : List ℕ) → list_any (is_thread t) (waiting list) ≡ has t list
  any_same t [] = refl
  any_same t (j ∷ list) =
      ap (λ k. (k == t) || list_any (is_thread t) (waiting list)) (thread_of_waiter (l.thread j) j)
      ∙ ap (λ b. (j == t) || b) (any_same t list)

  threads_same : (list : List ℕ) → map thread_of (waiting list) ≡ list
  threads_same [] = refl
  threads_same (t ∷ list) =
      ap (λ k. k ∷ map thread_of (waiting list)) (thread_of_waiter (l.thread t) t) ∙ ap (λ rest. t ∷ rest) (threads_same list)

  linked_agree : (size n : ℕ) (orders : ℕ → List ℕ) → AreLinked size n l orders → AreAlike (waits_by l orders) → AreRolesAndQueues (waits_by l orders)
  linked_agree size n orders linked alike = record {
    queued = λ e. queued_from e (orders e) (linked.members e);
    waits = λ t r is. any_same t (orders (endpoint_of r)) ∙ linked.found t r is;
    once = λ e. subst IsApart (sym (threads_same (orders e))) (linked.apart e);
    alike = alike;
  }

-- by the linked tables of waiting threads, roles and queues agree
pub tables_agree : (p : ProfileName) (tables : Tables) → IsLinked p tables → AreAlike (waits_in p tables) → AreRolesAndQueues (waits_in p tables)
tables_agree p tables linked alike = linked_agree _ _ _ _ linked alike
