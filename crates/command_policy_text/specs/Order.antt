-- Texts, each once, in the order of their bytes.
use Rattle.std.specs.Prelude.{ℕ, List, [], ◌∷◌}
use Rattle.std.specs.Option.{unwrap_or}
use Rattle.std.specs.declared.cmp.Ordering.{Ordering}
use Rattle.std.specs.Ordering.{nat_cmp}
use Rattle.std.specs.BTreeMap.{insert_entry, is_at}
use Rattle.std.specs.BTreeSet.{insert_key}
use Rattle.std.specs.Map.{lookup}
use Rattle.std.specs.Cmp.Lexicographic.{slice_cmp}

abbrev pub text_cmp : List ℕ → List ℕ → Ordering
text_cmp = slice_cmp nat_cmp

abbrev pub put_all : List (List ℕ) → List (List ℕ) → List (List ℕ)
put_all kept [] = kept
put_all kept (text ∷ texts) = put_all (insert_key text_cmp kept text) texts

abbrev pub in_order : List (List ℕ) → List (List ℕ)
in_order texts = put_all [] texts

-- a text more, with what has it; if the text is there already, the first that has it stays
abbrev pub put_first : {X : Type 0} → List (List ℕ × X) → List ℕ → X → List (List ℕ × X)
put_first kept text x = insert_entry text_cmp kept text (unwrap_or (lookup (is_at (text_cmp text)) kept) x)

abbrev pub put_each : {X : Type 0} → (X → List ℕ) → List (List ℕ × X) → List X → List (List ℕ × X)
put_each text_of kept [] = kept
put_each text_of kept (x ∷ xs) = put_each text_of (put_first kept (text_of x) x) xs

-- the texts of some items, each once, in the order of their bytes, each with the first item that has it
abbrev pub firsts_in_order : {X : Type 0} → (X → List ℕ) → List X → List (List ℕ × X)
firsts_in_order text_of items = put_each text_of [] items
