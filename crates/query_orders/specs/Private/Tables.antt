-- Nodes in a table.
use Rattle.std.specs.Prelude.{◌≡◌, ℕ, ◌+◌, Bool, cond, List, [], ◌∷◌, nat_eq, Option, None, Some, fold, slice_get, slice_set, position}
use Rattle.std.specs.Map.{lookup}
use Rattle.std.specs.Hash.{slice, u64}
use Rattle.std.specs.Hash.FoldHasher.{initial, write, finish}
use Rattle.std.specs.Cmp.Lexicographic.{pointwise}
use Rattle.query_orders.specs.declared.exploring.node.Node.{Node}
use Rattle.query_orders.specs.Counts.{saturated}

-- whether two nodes are of one state
abbrev pub by_words : Node → Node → Bool
by_words n m = pointwise nat_eq n.words.items m.words.items

-- a node to whose state more orders lead
abbrev pub heavier : ℕ → Node → Node
heavier more n = record { order = n.order; made = n.made; waits = n.waits; words = n.words; weight = saturated (n.weight + more) }

-- the nodes, with this one at the end, or with its orders at the first of its state
abbrev pub with_node : List Node → Node → List Node
with_node [] n = n ∷ []
with_node (m ∷ ms) n = cond (by_words m n) (heavier n.weight m ∷ ms) (m ∷ with_node ms n)

-- the nodes, that at a place heavier
abbrev pub heavier_in : ℕ → ℕ → Option Node → List Node → List Node
heavier_in place more None nodes = nodes
heavier_in place more (Some n) nodes = slice_set nodes place (heavier more n)

abbrev pub heavier_at : ℕ → ℕ → List Node → List Node
heavier_at place more nodes = heavier_in place more (slice_get nodes place) nodes

-- whether a node has these words
abbrev pub has_words : List ℕ → Node → Bool
has_words words n = pointwise nat_eq n.words.items words

abbrev pub words_hash : List ℕ → ℕ
words_hash words = finish (fold write initial (slice u64 words))

abbrev pub has_hash : ℕ → Node → Bool
has_hash hash n = nat_eq hash (words_hash n.words.items)

-- a table tells of each hash the place of the first node whose words have it
abbrev pub AreFirsts : List (ℕ × ℕ) → List Node → Type 0
AreFirsts firsts nodes = (hash : ℕ) → lookup (nat_eq hash) firsts ≡ position (has_hash hash) nodes
