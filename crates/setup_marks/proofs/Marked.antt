-- The mark among names as the code keeps them.
use Rattle.std.proofs.Common.{◌≡◌, ℕ, Bool, List, [], ◌∷◌, map, codes, string_bytes, refl, sym, ap, ◌∙◌, ◌||◌}
use Rattle.std.specs.Str.{bytes_eq}
use Rattle.std.specs.List.{list_any}
use Rattle.setup_values.specs.declared.names.Name.{Name}
use Rattle.setup_values.specs.Names.{names_view}
use Rattle.setup_marks.specs.Marks.{is_for_flows}

any_map : {A B : Type 0} (p : B → Bool) (f : A → B) (xs : List A) → list_any p (map f xs) ≡ list_any (λ x. p (f x)) xs
any_map p f [] = refl
any_map p f (x ∷ xs) = ap (λ b. p (f x) || b) (any_map p f xs)

pub marked : (names : List Name) (b : Bool) → b ≡ list_any (λ n. bytes_eq (string_bytes n.text) (codes "import_flows")) names → b ≡ is_for_flows (names_view names)
marked names b is = is ∙ sym (any_map (λ (n : List ℕ × ℕ). bytes_eq n.0 (codes "import_flows")) (λ (n : Name). (string_bytes n.text, n.word)) names)
