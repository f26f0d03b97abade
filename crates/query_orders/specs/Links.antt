-- Orders that share their beginnings.
use Rattle.std.specs.Prelude.{ℕ, List, [], ◌∷◌, ◌++◌, Option, None, Some}
use Rattle.std.specs.declared.alloc.Global.{Global}
use Rattle.std.specs.declared.rc.Rc.{Rc}
use Rattle.query_orders.specs.declared.exploring.order.Link.{Link}

-- the clients up to the last one
abbrev pub clients_to : Option (Rc Link Global) → List ℕ
clients_to None = []
clients_to (Some link) = link.value.before ++ link.value.client ∷ []
