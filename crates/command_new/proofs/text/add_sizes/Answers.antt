-- The keys, one behind the other.
use Rattle.std.proofs.Common.{◌≡◌, ℕ, List, ◌++◌, codes, string_bytes, ap, ◌∙◌}
use Rattle.command_new.specs.Text.{number_line}
use Rattle.command_new.proofs.Appended.{both}
use Rattle.command_new.proofs.text.add_sizes.Goals as goal

-- a key with a number that is another
of_number : (key before after : List ℕ) (n m : ℕ) → after ≡ before ++ number_line key n → n ≡ m → after ≡ before ++ number_line key m
of_number key before after n m e is = e ∙ ap (λ (k : ℕ). before ++ number_line key k) is

pub returns : goal.returns
returns c =
    let plan = c.args.plan.now in
    let memory = of_number (codes "memory_bits") _ _ _ plan.memory_bits c.in_ok-add_number.ensures c.memory_bits.ensures in
    let radix = of_number (codes "root_radix") _ _ _ plan.root_radix c.in_ok-add_number-2.ensures c.root_radix.ensures in
    let threads = of_number (codes "threads") _ _ _ plan.threads c.in_ok-add_number-3.ensures c.threads.ensures in
    let endpoints = of_number (codes "endpoints") _ _ _ plan.endpoints c.in_ok-add_number-4.ensures c.endpoints.ensures in
    both (string_bytes c.args.out.now) (number_line (codes "memory_bits") plan.memory_bits) _ _ _ memory
    (both _ (number_line (codes "root_radix") plan.root_radix) _ _ _ radix
    (both _ (number_line (codes "threads") plan.threads) (number_line (codes "endpoints") plan.endpoints) _ _ threads endpoints))
