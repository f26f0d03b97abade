-- The lines of a forest tell where each full slot stands, and so the whole forest.
use Rattle.std.proofs.Common.{◌≡◌, ℕ, suc, ◌*◌, ◌<◌, ◌≤◌, ◌^◌, ◌==◌, ◌&&◌, Bool, true, false, cond, not, List, [], ◌∷◌, ◌++◌, map, length, Option, None, Some, option_map, find, refl, sym, ap, ◌∙◌, append_assoc, length-append, arith, append-nil}
use Rattle.std.specs.Prelude.{codes, count_by}
use Rattle.std.specs.Fmt.{decimal}
use Rattle.std.specs.List.{AllByRecursion as Each, flat_map, list_all}
use Rattle.std.proofs.Math.Pow.{pow_mono}
use Rattle.std.proofs.lemmas.Bool.Decides.{nat_tests}
use Rattle.std.proofs.lemmas.Fmt.{decimal_injective, decimal_nonempty}
use Rattle.std.proofs.lemmas.List.{append_cancel_left, map-append}
use Rattle.std.proofs.lemmas.List.Elements.{recursion_from_All}
use Rattle.cap_core.specs.Limits.{max_memory_bits}
use Rattle.cap_core.specs.declared.profile.ProfileName.{ProfileName}
use Rattle.cap_core.specs.declared.profile.ProfileName.TheVariants.{Wide, Narrow}
use Rattle.cap_core.specs.declared.capability.Cap.{Cap}
use Rattle.cap_core.specs.declared.capability.Cap.TheVariants.{Null, Untyped, Endpoint, CNode, Tcb}
use Rattle.kernel_forest.specs.Forest.{Forest, none, tree, preorder, renamed}
use Rattle.kernel_forest.specs.Entries.{Entry, caps, slots, slot_of as entry_slot}
use Rattle.kernel_forest.proofs.Trees.Forests.{each-append, each-left_part, each-right_part}
use Rattle.kernel_forest.proofs.Trees.Renamed.{each-map_old}
use Rattle.kernel_abstract.specs.Memory.{IsSlotAddress}
use Rattle.kernel_abstract.specs.Reached.{IsReached}
use Rattle.kernel_abstract.specs.State.{State}
use Rattle.kernel_abstract.proofs.Reached.Simulation.{reached_is}
use Rattle.setup_values.specs.Kinds.{is_name, is_name_byte, between}
use Rattle.setup_values.specs.Limits.{max_name_bytes}
use Rattle.setup_values.specs.Names.{Names}
use Rattle.setup_values.specs.Told.{profile_text, named_text, name_of, has_value}
use Rattle.setup_format.specs.Views.{SetupView}
use Rattle.setup_report.specs.Text.{cap_text}
use Rattle.setup_report.specs.Naming.{by_addresses, plain}
use Rattle.setup_report_laws.specs.Laws.{Stops, is_digit, IsOneLine, IsWithinWords}
use Rattle.setup_report_laws.proofs.Parts.{Pass, told_apart, number_digits, numbers_apart}
use Rattle.setup_report_laws.proofs.Capabilities.{capabilities_apart}
use Rattle.setup_report_laws.proofs.Measured.{reached_words}
use Rattle.setup_report_laws.proofs.Renamed.{same_renamed}
use Rattle.setup_report_laws.proofs.Told.{capability_told}
use Rattle.setup_report_laws.proofs.OneLine.{all_pass, both_lines, number_line, number_and, capability_line}
use Rattle.command_tree.specs.Tree.{placed, indent, tree_cap_text, placed_line, forest_lines, head_text, forest_text}
use Rattle.command_tree.specs.Laws.{held_capability, held_in, AreSetUpNames}
use Rattle.command_tree.proofs.Levels.{leveled, same_forest}

-- ---- by addresses, the name of a thread stands behind the capability

abbrev thread_named : Names → Cap → Option (List ℕ)
thread_named names (Tcb base) = name_of names base
thread_named names Null = None
thread_named names (Untyped base bits free) = None
thread_named names (Endpoint base badge rights) = None
thread_named names (CNode base radix guard) = None

abbrev tree_name_text : Option (List ℕ) → List ℕ
tree_name_text None = []
tree_name_text (Some name) = codes " @" ++ name

named_behind : (base : ℕ) (name : Option (List ℕ)) → codes "tcb " ++ named_text base name ≡ (codes "tcb " ++ decimal base) ++ tree_name_text name
named_behind base None = sym (append-nil (codes "tcb " ++ decimal base))
named_behind base (Some name) = refl

cap_is : (names : Names) (cap : Cap) → tree_cap_text (by_addresses names) cap ≡ cap_text plain cap ++ tree_name_text (thread_named names cap)
cap_is names (Tcb base) = named_behind base (name_of names base)
cap_is names Null = sym (append-nil (cap_text plain Null))
cap_is names (Untyped base bits free) = sym (append-nil (cap_text plain (Untyped base bits free)))
cap_is names (Endpoint base badge rights) = sym (append-nil (cap_text plain (Endpoint base badge rights)))
cap_is names (CNode base radix guard) = sym (append-nil (cap_text plain (CNode base radix guard)))

abbrev tree_slot_text : Names → Entry → List ℕ
tree_slot_text names e = decimal e.slot ++ (codes " " ++ (cap_text plain e.cap ++ tree_name_text (thread_named names e.cap)))

-- what a line tells of a full slot: its address and its capability
abbrev ToldSlot : Type 0
ToldSlot = ℕ × List ℕ

abbrev told_slot : Entry → ToldSlot
told_slot e = (e.slot, cap_text plain e.cap)

abbrev told_forest : Forest Entry → Forest ToldSlot
told_forest f = renamed told_slot f

-- ---- no line has a line feed before its end

abbrev no_end : ℕ → Bool
no_end byte = not (byte == 10)

-- a name that is there
abbrev IsNamed : Option (List ℕ) → Type 0
IsNamed None = Unit {0}
IsNamed (Some name) = IsOneLine name

name_line : (name : Option (List ℕ)) → IsNamed name → IsOneLine (tree_name_text name)
name_line None h = refl
name_line (Some name) h = h

byte_is_no_end : (byte : ℕ) → is_name_byte byte ≡ true → no_end byte ≡ true
byte_is_no_end byte h = grind (arith, nat_tests)

bytes_line : (name : List ℕ) → list_all is_name_byte name ≡ true → IsOneLine name
bytes_line [] h = refl
bytes_line (byte ∷ name) h =
    elim (is_name_byte byte) as (λ b. is_name_byte byte ≡ b → (b && list_all is_name_byte name) ≡ true → IsOneLine (byte ∷ name)) [
      | true ↦ λ e k. λ i. byte_is_no_end byte e i && bytes_line name k i
      | false ↦ λ e k. absurd cc
    ] refl h

second : (a b : Bool) → (a && b) ≡ true → b ≡ true
second true b h = h
second false b h = absurd cc

is_line : (name : List ℕ) → is_name name ≡ true → IsOneLine name
is_line name h = bytes_line name (second (between 1 max_name_bytes (length name)) (list_all is_name_byte name) h)

abbrev AreLines : Names → Type 0
AreLines names = Each (λ (name : List ℕ × ℕ). is_name name.0 ≡ true) names

found_line : (test : List ℕ × ℕ → Bool) (names : Names) → AreLines names → IsNamed (option_map (λ (n : List ℕ × ℕ). n.0) (find test names))
found_line test [] h = tt
found_line test (name ∷ names) h =
    elim (test name) as (λ b. IsNamed (option_map (λ (n : List ℕ × ℕ). n.0) (cond b (Some name) (find test names)))) [
      | true ↦ is_line name.0 h.0
      | false ↦ found_line test names h.1
    ]

value_line : (names : Names) (value : ℕ) → AreLines names → IsNamed (name_of names value)
value_line names value h =
    elim (count_by (has_value value) names == 1) as (λ b. IsNamed (cond b (option_map (λ (n : List ℕ × ℕ). n.0) (find (has_value value) names)) None)) [
      | true ↦ found_line (has_value value) names h
      | false ↦ tt
    ]

thread_line : (names : Names) (cap : Cap) → AreLines names → IsNamed (thread_named names cap)
thread_line names (Tcb base) h = value_line names base h
thread_line names Null h = tt
thread_line names (Untyped base bits free) h = tt
thread_line names (Endpoint base badge rights) h = tt
thread_line names (CNode base radix guard) h = tt

indent_line : (above : List ℕ) → IsOneLine (indent above)
indent_line [] = refl
indent_line (slot ∷ above) = indent_line above

-- a line without its end
abbrev body : Names → Entry × List ℕ → List ℕ
body names x = indent x.1 ++ tree_slot_text names x.0

body_line : (names : Names) (x : Entry × List ℕ) → AreLines names → IsOneLine (body names x)
body_line names x h =
    let name = tree_name_text (thread_named names x.0.cap) in
    both_lines (indent x.1) (tree_slot_text names x.0) (indent_line x.1)
    (number_and x.0.slot (codes " " ++ (cap_text plain x.0.cap ++ name))
    (both_lines (cap_text plain x.0.cap) name (capability_line x.0.cap) (name_line (thread_named names x.0.cap) (thread_line names x.0.cap h))))

head_line : (setup : SetupView) (made : ℕ) → IsOneLine (head_text setup made)
head_line setup made =
    both_lines (profile_text setup.profile) (codes " memory_bits " ++ (decimal setup.plan.memory_bits ++ (codes " calls " ++ (decimal (length setup.calls) ++ (codes " after " ++ decimal made)))))
    (profile_line setup.profile)
    (number_and setup.plan.memory_bits (codes " calls " ++ (decimal (length setup.calls) ++ (codes " after " ++ decimal made)))
    (number_and (length setup.calls) (codes " after " ++ decimal made) (number_line made)))
  where
    profile_line : (p : ProfileName) → IsOneLine (profile_text p)
    profile_line Wide = refl
    profile_line Narrow = refl

-- the first line of a text, and what is behind it
lines_apart : (first other rest more : List ℕ) → IsOneLine first → IsOneLine other → (first ++ codes "\n") ++ rest ≡ (other ++ codes "\n") ++ more → (first ≡ other) × (rest ≡ more)
lines_apart first other rest more h k same =
    let both : (first ≡ other) × (◌≡◌ {A = List ℕ} (10 ∷ rest) (10 ∷ more)) =
    told_apart no_end first other (10 ∷ rest) (10 ∷ more) (all_pass no_end first h) (all_pass no_end other k) refl refl
    (sym (append_assoc first (codes "\n") rest) ∙ (same ∙ append_assoc other (codes "\n") more)) in
    (both.0, append_cancel_left (codes "\n") rest more both.1)

-- ---- what a line tells

abbrev is_space : ℕ → Bool
is_space byte = byte == 32

indent_spaces : (above : List ℕ) → Pass is_space (indent above)
indent_spaces [] = tt
indent_spaces (slot ∷ above) = (refl, (refl, indent_spaces above))

indent_length : (above : List ℕ) → length (indent above) ≡ 2 * length above
indent_length [] = refl
indent_length (slot ∷ above) = omega (arith, indent_length above)

digit_is_no_space : (byte : ℕ) → is_digit byte ≡ true → is_space byte ≡ false
digit_is_no_space byte h = grind (arith, nat_tests)

digits_stop : (text rest : List ℕ) → Pass is_digit text → 0 < length text → Stops is_space (text ++ rest)
digits_stop [] rest h some = absurd (omega (arith, some))
digits_stop (byte ∷ text) rest h some = digit_is_no_space byte h.0

slot_stops : (names : Names) (e : Entry) → e.slot < 2 ^ 64 → Stops is_space (tree_slot_text names e)
slot_stops names e short =
    digits_stop (decimal e.slot) (codes " " ++ (cap_text plain e.cap ++ tree_name_text (thread_named names e.cap))) (number_digits e.slot) (decimal_nonempty e.slot short)

name_stops : (name : Option (List ℕ)) → Stops is_digit (tree_name_text name)
name_stops None = tt
name_stops (Some name) = refl

-- how many slots are above, and what is told of the slot
abbrev view : Entry × List ℕ → ℕ × ToldSlot
view x = (length x.1, told_slot x.0)

same_view : (names others : Names) (x y : Entry × List ℕ) → x.0.slot < 2 ^ 64 → y.0.slot < 2 ^ 64 → body names x ≡ body others y → view x ≡ view y
same_view names others x y h k same =
    let spaces : (indent x.1 ≡ indent y.1) × (tree_slot_text names x.0 ≡ tree_slot_text others y.0) =
    told_apart is_space (indent x.1) (indent y.1) (tree_slot_text names x.0) (tree_slot_text others y.0) (indent_spaces x.1) (indent_spaces y.1) (slot_stops names x.0 h) (slot_stops others y.0 k) same in
    let deep : length x.1 ≡ length y.1 = omega (arith, ap length spaces.0, indent_length x.1, indent_length y.1) in
    let mine = cap_text plain x.0.cap ++ tree_name_text (thread_named names x.0.cap) in
    let theirs = cap_text plain y.0.cap ++ tree_name_text (thread_named others y.0.cap) in
    let numbers = numbers_apart x.0.slot y.0.slot (codes " " ++ mine) (codes " " ++ theirs) refl refl spaces.1 in
    let caps = capabilities_apart x.0.cap y.0.cap (tree_name_text (thread_named names x.0.cap)) (tree_name_text (thread_named others y.0.cap))
    (name_stops (thread_named names x.0.cap)) (name_stops (thread_named others y.0.cap)) (append_cancel_left (codes " ") mine theirs numbers.1) in
    λ i. (deep i, (decimal_injective x.0.slot y.0.slot h k numbers.0 i, caps.0 i))

-- ---- all lines

abbrev AreShort : List (Entry × List ℕ) → Type 0
AreShort xs = Each (λ (x : Entry × List ℕ). x.0.slot < 2 ^ 64) xs

line_is : (names : Names) (x : Entry × List ℕ) (rest : List ℕ) → placed_line (by_addresses names) x ++ rest ≡ (body names x ++ codes "\n") ++ rest
line_is names x rest =
    ap (λ l. l ++ rest)
    (ap (λ (t : List ℕ). indent x.1 ++ ((decimal x.0.slot ++ (codes " " ++ t)) ++ codes "\n")) (cap_is names x.0.cap)
    ∙ sym (append_assoc (indent x.1) (tree_slot_text names x.0) (codes "\n")))

never_empty : (text rest : List ℕ) → (text ++ codes "\n") ++ rest ≡ [] → ⊥
never_empty [] rest h = cc
never_empty (byte ∷ text) rest h = cc

same_views : (names others : Names) → AreLines names → AreLines others → (xs ys : List (Entry × List ℕ)) → AreShort xs → AreShort ys →
    flat_map (placed_line (by_addresses names)) xs ≡ flat_map (placed_line (by_addresses others)) ys → map view xs ≡ map view ys
same_views names others n o [] [] h k same = refl
same_views names others n o [] (y ∷ ys) h k same = absurd (never_empty (body others y) (flat_map (placed_line (by_addresses others)) ys) (sym (line_is others y (flat_map (placed_line (by_addresses others)) ys)) ∙ sym same))
same_views names others n o (x ∷ xs) [] h k same = absurd (never_empty (body names x) (flat_map (placed_line (by_addresses names)) xs) (sym (line_is names x (flat_map (placed_line (by_addresses names)) xs)) ∙ same))
same_views names others n o (x ∷ xs) (y ∷ ys) h k same =
    let rest = flat_map (placed_line (by_addresses names)) xs in
    let more = flat_map (placed_line (by_addresses others)) ys in
    let both : (body names x ≡ body others y) × (rest ≡ more) =
    lines_apart (body names x) (body others y) rest more (body_line names x n) (body_line others y o) (sym (line_is names x rest) ∙ (same ∙ line_is others y more)) in
    λ i. same_view names others x y h.0 k.0 both.0 i ∷ same_views names others n o xs ys h.1 k.1 both.1 i

-- ---- forests

above_more : (above : List ℕ) (slot : ℕ) → length (above ++ slot ∷ []) ≡ suc (length above)
above_more above slot = omega (arith, length-append above (slot ∷ []))

placed_levels : (above : List ℕ) (f : Forest Entry) → map view (placed above f) ≡ leveled (length above) (told_forest f)
placed_levels above none = refl
placed_levels above (tree e under others) =
    ap (λ l. (length above, told_slot e) ∷ l)
    (map-append view (placed (above ++ e.slot ∷ []) under) (placed above others)
    ∙ (λ i. (placed_levels (above ++ e.slot ∷ []) under ∙ ap (λ n. leveled n (told_forest under)) (above_more above e.slot)) i ++ placed_levels above others i))

placed_short : (above : List ℕ) (f : Forest Entry) → Each (λ (e : Entry). e.slot < 2 ^ 64) (preorder f) → AreShort (placed above f)
placed_short above none h = tt
placed_short above (tree e under others) h =
    let P : Entry → Type 0 = λ a. a.slot < 2 ^ 64 in (
      h.0,
      each-append (λ (x : Entry × List ℕ). x.0.slot < 2 ^ 64) (placed (above ++ e.slot ∷ []) under) (placed above others)
          (placed_short (above ++ e.slot ∷ []) under (each-left_part P (preorder under) (preorder others) h.1))
          (placed_short above others (each-right_part P (preorder under) (preorder others) h.1)),
    )

all_short : (memory : ℕ) (p : ProfileName) (list : List Entry) → memory ≤ max_memory_bits → Each (IsSlotAddress p memory) (map entry_slot list) → Each (λ (e : Entry). e.slot < 2 ^ 64) list
all_short memory p [] most h = tt
all_short memory p (e ∷ list) most h =
    let bound : 2 ^ memory ≤ 2 ^ 64 = pow_mono {i = memory} {j = 64} (omega (arith, most)) in
    (omega (arith, h.0.within, bound), all_short memory p list most h.1)

-- of each state that runs reach
short : (p : ProfileName) (A : State) → IsReached p A → AreShort (placed [] A.derivations)
short p A reached =
    let is = (reached_is p A reached).store in
    let memory = reached.plan.memory_bits in
    placed_short [] A.derivations (all_short memory p (preorder A.derivations) is.memory_most (recursion_from_All (IsSlotAddress p memory) (slots A.derivations) is.slots_placed))

words : (p : ProfileName) (A : State) → IsReached p A → Each (λ (e : Entry). IsWithinWords e.cap) (preorder A.derivations)
words p A reached = each-map_old IsWithinWords (λ (e : Entry). e.cap) (preorder A.derivations) (recursion_from_All IsWithinWords (caps A.derivations) (reached_words p A reached))

-- what is told alike is alike
same_held : (a b : Entry) → IsWithinWords a.cap → IsWithinWords b.cap → told_slot a ≡ told_slot b → held_capability a ≡ held_capability b
same_held a b h k same = λ i. ((same i).0, capability_told a.cap b.cap h k (ap (λ (x : ToldSlot). x.1) same) i)

pub same_states : (p q : ProfileName) (A B : State) (names others : Names) (setup other : SetupView) (made after : ℕ) → IsReached p A → IsReached q B → AreSetUpNames names → AreSetUpNames others →
    forest_text (by_addresses names) setup made A.derivations ≡ forest_text (by_addresses others) other after B.derivations → held_in A.derivations ≡ held_in B.derivations
same_states p q A B names others setup other made after a b n o same =
    let f = A.derivations in
    let g = B.derivations in
    let behind : forest_lines (by_addresses names) f ≡ forest_lines (by_addresses others) g =
    (lines_apart (head_text setup made) (head_text other after) (forest_lines (by_addresses names) f) (forest_lines (by_addresses others) g) (head_line setup made) (head_line other after) same).1 in
    let views : map view (placed [] f) ≡ map view (placed [] g) =
    same_views names others (recursion_from_All (λ (name : List ℕ × ℕ). is_name name.0 ≡ true) names n) (recursion_from_All (λ (name : List ℕ × ℕ). is_name name.0 ≡ true) others o)
    (placed [] f) (placed [] g) (short p A a) (short q B b) behind in
    let told : told_forest f ≡ told_forest g = same_forest (told_forest f) (told_forest g) (sym (placed_levels [] f) ∙ (views ∙ placed_levels [] g)) in
    same_renamed told_slot held_capability (λ (e : Entry). IsWithinWords e.cap) same_held f g (words p A a) (words q B b) told
