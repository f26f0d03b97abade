-- The histories of sends and receives: records that are never taken away, and pairs by place.
use Rattle.std.specs.Prelude.{ℕ, Bool, ◌==◌, ◌&&◌, List, ◌++◌, length, drop, map}
use Rattle.std.specs.List.{zip}
use Rattle.cap_core.specs.declared.message.Message.{Message}
use Rattle.cap_core.specs.declared.capability.Badge.{Badge}
use Rattle.ipc_core.specs.declared.waiter.Waiter.{Waiter}
use Rattle.ipc_core.specs.declared.waiter.Waiter.TheVariants.{Sender, Receiver}

-- an endpoint or a thread: its address, and the number of the call that made it there
pub record Instance : Type 0 where
  pub base : ℕ
  pub birth : ℕ

abbrev pub same_instance : Instance → Instance → Bool
same_instance a b = a.base == b.base && a.birth == b.birth

-- an accepted send, by the number of its call
pub record SendRecord : Type 0 where
  pub number : ℕ
  pub endpoint : Instance
  pub thread : Instance
  pub badge : Badge
  pub message : Message

-- an accepted receive, by the number of its call
pub record ReceiveRecord : Type 0 where
  pub number : ℕ
  pub endpoint : Instance
  pub thread : Instance

-- what an endpoint delivered, given the sends and the receives that stand on it: each with the one at its place
abbrev pub paired : List SendRecord → List ReceiveRecord → List (SendRecord × ReceiveRecord)
paired sends receives = zip sends receives

abbrev pub sender : SendRecord → Waiter
sender s = Sender s.thread.base s.badge s.message

abbrev pub receiver : ReceiveRecord → Waiter
receiver a = Receiver a.thread.base

-- who waits: the part of the longer list past the length of the other
abbrev pub waiting_list : List SendRecord → List ReceiveRecord → List Waiter
waiting_list sends receives = map sender (drop (length receives) sends) ++ map receiver (drop (length sends) receives)
