-- In a table that a text is read as, the keys come in the order of their bytes.
use Rattle.std.proofs.Common.{◌≡◌, ℕ, zero, suc, ◌==◌, ◌&&◌, Bool, true, false, List, [], ◌∷◌, ◌++◌, length, drop, Option, Some, None, option_and_then, if◌then◌else◌, Less, Greater, nat_cmp, refl, ap, subst, ◌∙◌, inl, inr}
use Rattle.std.proofs.lemmas.Bool.{cases_Bool}
use Rattle.std.proofs.lemmas.Cmp.{nat_list_cmp_total}
use Rattle.std.proofs.lemmas.Option.{none-some, same_Some, option_and_then_some}
use Rattle.std.specs.Cmp.Lexicographic.{slice_cmp}
use Rattle.std.specs.Ordering.{ordering_reverse, is_lt}
use Rattle.setup_migrate.proofs.Parts.{cases_ordering}
use Rattle.command_explore.proofs.Replay.Accepted.{some_of}
use Rattle.command_explore.proofs.Replay.Without.{both}
use Rattle.toml_parser.specs.Lexical.{Read, first, skip_ws, skip_blank, left_bracket, left_brace, right_bracket, right_brace}
use Rattle.toml_parser.specs.Strings.{Key, quoted, starts_string, recursion_limit}
use Rattle.toml_parser.specs.Numbers.{unquoted}
use Rattle.toml_parser.specs.declared.scalar.Scalar.{Scalar}
use Rattle.toml_parser.specs.declared.scalar.Scalar.TheVariants.{Boolean, Integer, Float, Datetime}
use Rattle.toml.specs.Data.{Data, string, array, table, Items, no_items, item, Members, no_members, push_item, same_key, is_before, is_sorted, items_are_sorted, members_are_sorted}
use Rattle.toml.specs.Parse.{read_map, keyval, after_byte, after_element, items, members, scalar_data, atom, val, header_key, expression, ends_line, line, lines, skip_bom, parse_document, key_equals}
use Rattle.toml.specs.Tables.{implicit, dotted, header, Node, value, open_table, open_array, Nodes, no_nodes, node, get_node, insert, replace, close_node, close, Edit, header_node, dot_node, by_header, by_dot, along_header, along_dots, Definition, key_value, std_table, array_table, Expression, new_node, redefine, at_found, at_key, put, Document, define_as, define}

-- ---- the nodes of a document

abbrev AreAscending : Nodes → Type 0
AreAscending ns = members_are_sorted (close ns) ≡ true

abbrev IsAscending : Node → Type 0
IsAscending x = is_sorted (close_node x) ≡ true

ascending : (k : List ℕ) (x : Node) (ns : Nodes) → is_before k (close ns) ≡ true → IsAscending x → AreAscending ns → AreAscending (node k x ns)
ascending k x ns before here more = rw (before, here) more

parts : (k : List ℕ) (x : Node) (ns : Nodes) → AreAscending (node k x ns) → (is_before k (close ns) ≡ true) × IsAscending x × AreAscending ns
parts k x ns e =
    let (front, more) = both (is_before k (close ns) && is_sorted (close_node x)) (members_are_sorted (close ns)) e in
    let (before, here) = both (is_before k (close ns)) (is_sorted (close_node x)) front in
    (before, here, more)

after : (k l : List ℕ) → slice_cmp nat_cmp k l ≡ Greater → slice_cmp nat_cmp l k ≡ Less
after k l e = nat_list_cmp_total.antisymm l k ∙ ap ordering_reverse e

before_inserted : (l k : List ℕ) (x : Node) (ns : Nodes) → slice_cmp nat_cmp l k ≡ Less → is_before l (close ns) ≡ true → is_before l (close (insert k x ns)) ≡ true
before_inserted l k x no_nodes less before = ap is_lt less
before_inserted l k x (node j y ns) less before =
    elim (cases_ordering (slice_cmp nat_cmp k j)) [
      | inl first ↦ rw first (ap is_lt less)
      | inr other ↦ elim other [ inl tie ↦ rw tie before | inr more ↦ rw more before ]
    ]

inserted : (k : List ℕ) (x : Node) (ns : Nodes) → IsAscending x → AreAscending ns → AreAscending (insert k x ns)
inserted k x no_nodes here all = ascending k x no_nodes refl here refl
inserted k x (node l y ns) here all =
    let (before, its, more) = parts l y ns all in
    elim (cases_ordering (slice_cmp nat_cmp k l)) [
      | inl less ↦ rw less (ascending k x (node l y ns) (ap is_lt less) here all)
      | inr other ↦ elim other [
        | inl tie ↦ rw tie (ascending l x ns before here more)
        | inr greater ↦ rw greater (ascending l y (insert k x ns) (before_inserted l k x ns (after k l greater) before) its (inserted k x ns here more))
      ]
    ]

before_replaced : (l k : List ℕ) (x : Node) (ns : Nodes) → is_before l (close ns) ≡ true → is_before l (close (replace k x ns)) ≡ true
before_replaced l k x no_nodes before = before
before_replaced l k x (node j y ns) before = elim (cases_Bool (same_key k j)) [ inl same ↦ rw same before | inr other ↦ rw other before ]

replaced : (k : List ℕ) (x : Node) (ns : Nodes) → IsAscending x → AreAscending ns → AreAscending (replace k x ns)
replaced k x no_nodes here all = all
replaced k x (node l y ns) here all =
    let (before, its, more) = parts l y ns all in
    elim (cases_Bool (same_key k l)) [
      | inl same ↦ rw same (ascending l x ns before here more)
      | inr other ↦ rw other (ascending l y (replace k x ns) (before_replaced l k x ns before) its (replaced k x ns here more))
    ]

found : (k : List ℕ) (x : Node) (ns : Nodes) → AreAscending ns → get_node k ns ≡ Some x → IsAscending x
found k x no_nodes all e = absurd (none-some x e)
found k x (node l y ns) all e =
    let (before, its, more) = parts l y ns all in
    elim (cases_Bool (same_key k l)) [
      | inl same ↦ subst IsAscending (same_Some y x (rw same at e)) its
      | inr other ↦ found k x ns more (rw other at e)
    ]

-- ---- items

pushed : (ds : Items) (d : Data) → items_are_sorted ds ≡ true → is_sorted d ≡ true → items_are_sorted (push_item ds d) ≡ true
pushed no_items d all here = rw here refl
pushed (item e ds) d all here = let (its, more) = both (is_sorted e) (items_are_sorted ds) all in rw its (pushed ds d more here)

unpushed : (ds : Items) (d : Data) → items_are_sorted (push_item ds d) ≡ true → (items_are_sorted ds ≡ true) × (is_sorted d ≡ true)
unpushed no_items d all = (refl, (both (is_sorted d) true all).0)
unpushed (item e ds) d all =
    let (its, more) = both (is_sorted e) (items_are_sorted (push_item ds d)) all in
    let (front, last) = unpushed ds d more in
    (rw its front, last)

-- ---- changes of a table

abbrev Keeps : Edit → Type 0
Keeps edit = (ns ms : Nodes) → AreAscending ns → edit ns ≡ Some ms → AreAscending ms

header_keeps : (edit : Edit) → Keeps edit → (x y : Node) → IsAscending x → header_node edit x ≡ Some y → IsAscending y
header_keeps edit keeps (value d) y here e = absurd (none-some y e)
header_keeps edit keeps (open_table origin inner) y here e =
    let (new, made, is) = some_of (open_table origin) (edit inner) y e in
    subst IsAscending is (keeps inner new here made)
header_keeps edit keeps (open_array done last) y here e =
    let (new, made, is) = some_of (open_array done) (edit last) y e in
    let (front, its) = unpushed done (table (close last)) here in
    subst IsAscending is (pushed done (table (close new)) front (keeps last new its made))

dot_keeps : (edit : Edit) → Keeps edit → (x y : Node) → IsAscending x → dot_node edit x ≡ Some y → IsAscending y
dot_keeps edit keeps (value d) y here e = absurd (none-some y e)
dot_keeps edit keeps (open_table header inner) y here e = absurd (none-some y e)
dot_keeps edit keeps (open_table implicit inner) y here e =
    let (new, made, is) = some_of (open_table dotted) (edit inner) y e in
    subst IsAscending is (keeps inner new here made)
dot_keeps edit keeps (open_table dotted inner) y here e =
    let (new, made, is) = some_of (open_table dotted) (edit inner) y e in
    subst IsAscending is (keeps inner new here made)
dot_keeps edit keeps (open_array done last) y here e = absurd (none-some y e)

by_header_keeps : (k : List ℕ) (edit : Edit) → Keeps edit → (ns ms : Nodes) (o : Option Node) → AreAscending ns → get_node k ns ≡ o → by_header k edit ns o ≡ Some ms → AreAscending ms
by_header_keeps k edit keeps ns ms None all at e =
    let (new, made, is) = some_of (λ new. insert k (open_table implicit new) ns) (edit no_nodes) ms e in
    subst AreAscending is (inserted k (open_table implicit new) ns (keeps no_nodes new refl made) all)
by_header_keeps k edit keeps ns ms (Some x) all at e =
    let (new, made, is) = some_of (λ new. replace k new ns) (header_node edit x) ms e in
    subst AreAscending is (replaced k new ns (header_keeps edit keeps x new (found k x ns all at) made) all)

by_dot_keeps : (k : List ℕ) (edit : Edit) → Keeps edit → (ns ms : Nodes) (o : Option Node) → AreAscending ns → get_node k ns ≡ o → by_dot k edit ns o ≡ Some ms → AreAscending ms
by_dot_keeps k edit keeps ns ms None all at e =
    let (new, made, is) = some_of (λ new. insert k (open_table dotted new) ns) (edit no_nodes) ms e in
    subst AreAscending is (inserted k (open_table dotted new) ns (keeps no_nodes new refl made) all)
by_dot_keeps k edit keeps ns ms (Some x) all at e =
    let (new, made, is) = some_of (λ new. replace k new ns) (dot_node edit x) ms e in
    subst AreAscending is (replaced k new ns (dot_keeps edit keeps x new (found k x ns all at) made) all)

along_header_keeps : (path : List (List ℕ)) (edit : Edit) → Keeps edit → Keeps (along_header path edit)
unfolding along_header
along_header_keeps [] edit keeps ns ms all e = keeps ns ms all e
along_header_keeps (k ∷ path) edit keeps ns ms all e = by_header_keeps k (along_header path edit) (along_header_keeps path edit keeps) ns ms (get_node k ns) all refl e

along_dots_keeps : (path : List (List ℕ)) (edit : Edit) → Keeps edit → Keeps (along_dots path edit)
unfolding along_dots
along_dots_keeps [] edit keeps ns ms all e = keeps ns ms all e
along_dots_keeps (k ∷ path) edit keeps ns ms all e = by_dot_keeps k (along_dots path edit) (along_dots_keeps path edit keeps) ns ms (get_node k ns) all refl e

-- what is defined ascends
abbrev Defines : Definition → Type 0
Defines (key_value d) = is_sorted d ≡ true
Defines std_table = Unit {0}
Defines array_table = Unit {0}

new_ascends : (what : Definition) → Defines what → IsAscending (new_node what)
new_ascends (key_value d) h = h
new_ascends std_table h = refl
new_ascends array_table h = refl

redefined : (what : Definition) (x y : Node) → IsAscending x → redefine what x ≡ Some y → IsAscending y
redefined std_table (open_table implicit inner) y here e = subst IsAscending (same_Some (open_table header inner) y e) here
redefined array_table (open_array done last) y here e =
    subst IsAscending (same_Some (open_array (push_item done (table (close last))) no_nodes) y e) (pushed (push_item done (table (close last))) (table no_members) here refl)
redefined what x y here e = absurd (none-some y e)

at_found_keeps : (k : List ℕ) (what : Definition) → Defines what → (ns ms : Nodes) (o : Option Node) → AreAscending ns → get_node k ns ≡ o → at_found k what ns o ≡ Some ms → AreAscending ms
at_found_keeps k what h ns ms None all at e = subst AreAscending (same_Some (insert k (new_node what) ns) ms e) (inserted k (new_node what) ns (new_ascends what h) all)
at_found_keeps k what h ns ms (Some x) all at e =
    let (y, made, is) = some_of (λ y. replace k y ns) (redefine what x) ms e in
    subst AreAscending is (replaced k y ns (redefined what x y (found k x ns all at) made) all)

at_key_keeps : (k : List ℕ) (what : Definition) → Defines what → Keeps (at_key k what)
unfolding at_key
at_key_keeps k what h ns ms all e = at_found_keeps k what h ns ms (get_node k ns) all refl e

put_keeps : (k : Key) (d : Data) → is_sorted d ≡ true → Keeps (put k d)
put_keeps k d h = along_dots_keeps k.0 (at_key k.1 (key_value d)) (at_key_keeps k.1 (key_value d) h)

defined : (doc next : Document) (k : Key) (what : Definition) → Defines what → AreAscending doc.0 → define_as doc k what ≡ Some next → AreAscending next.0
defined doc next k (key_value d) h all e =
    let (root, made, is) = some_of (λ (root : Nodes). (root, doc.1)) (along_header doc.1 (put k d) doc.0) next e in
    subst AreAscending (ap (λ (x : Document). x.0) is) (along_header_keeps doc.1 (put k d) (put_keeps k d h) doc.0 root all made)
defined doc next k std_table h all e =
    let (root, made, is) = some_of (λ (root : Nodes). (root, k.0 ++ k.1 ∷ [])) (along_header k.0 (at_key k.1 std_table) doc.0) next e in
    subst AreAscending (ap (λ (x : Document). x.0) is) (along_header_keeps k.0 (at_key k.1 std_table) (at_key_keeps k.1 std_table tt) doc.0 root all made)
defined doc next k array_table h all e =
    let (root, made, is) = some_of (λ (root : Nodes). (root, k.0 ++ k.1 ∷ [])) (along_header k.0 (at_key k.1 array_table) doc.0) next e in
    subst AreAscending (ap (λ (x : Document). x.0) is) (along_header_keeps k.0 (at_key k.1 array_table) (at_key_keeps k.1 array_table tt) doc.0 root all made)

define_keeps : (doc next : Document) (e : Expression) → Defines e.1 → AreAscending doc.0 → define doc e ≡ Some next → AreAscending next.0
unfolding define
define_keeps doc next e h all made = defined doc next e.0 e.1 h all made

-- ---- values

-- what a read gives satisfies a fact
abbrev Gives : {A : Type 0} → (A → Type 0) → Read A → Type 0
Gives {A} P r = (x : A × List ℕ) → r ≡ Some x → P x.0

either : {A : Type 0} (P : A → Type 0) (b : Bool) (r s : Read A) → Gives P r → Gives P s → Gives P (if b then r else s)
either P true r s h k = h
either P false r s h k = k

mapped : {A B : Type 0} (P : A → Type 0) (Q : B → Type 0) (f : A → B) → ((x : A) → P x → Q (f x)) → (r : Read A) → Gives P r → Gives Q (read_map f r)
mapped {A} {B} P Q f h r gives x e =
    let (y, read, is) = some_of (λ (y : A × List ℕ). (f y.0, y.1)) r x e in
    subst (λ (z : B × List ℕ). Q z.0) is (h y.0 (gives y read))

followed : {A B : Type 0} (P : A → Type 0) (Q : B → Type 0) (r : Read A) (f : A × List ℕ → Read B) → Gives P r → ((x : A × List ℕ) → P x.0 → Gives Q (f x)) → Gives Q (option_and_then f r)
followed P Q r f gives h x e = option_and_then_some f r x e (λ y read more. h y (gives y read) x more)

-- a step that gives no value
past : {A B : Type 0} (Q : B → Type 0) (o : Option A) (f : A → Read B) → ((x : A) → Gives Q (f x)) → Gives Q (option_and_then f o)
past Q o f h x e = option_and_then_some f o x e (λ y read more. h y x more)

any : {A : Type 0} (r : Read A) → Gives (λ _. Unit {0}) r
any r x e = tt

none : {A : Type 0} (P : A → Type 0) → Gives P None
none P x e = absurd (none-some x e)

one : {A : Type 0} (P : A → Type 0) (x : A × List ℕ) → P x.0 → Gives P (Some x)
one {A} P x h y e = subst (λ (z : A × List ℕ). P z.0) (same_Some x y e) h

abbrev IsSorted : Data → Type 0
IsSorted d = is_sorted d ≡ true

scalar_sorted : (s : Scalar) → IsSorted (scalar_data s)
scalar_sorted (Boolean b) = refl
scalar_sorted (Integer z) = refl
scalar_sorted (Float x) = refl
scalar_sorted (Datetime dt) = refl

atom_sorted : (text : List ℕ) → Gives IsSorted (atom text)
unfolding atom
atom_sorted text =
    either IsSorted (starts_string text) (read_map string (quoted text)) (read_map scalar_data (unquoted text))
    (mapped (λ _. Unit {0}) IsSorted string (λ s h. refl) (quoted text) (any (quoted text)))
    (mapped (λ _. Unit {0}) IsSorted scalar_data (λ s h. scalar_sorted s) (unquoted text) (any (unquoted text)))

module _ (read : List ℕ → Read Data) (sorted : (text : List ℕ) → Gives IsSorted (read text)) where
  keyval_sorted : (text : List ℕ) → Gives (λ (e : Key × Data). IsSorted e.1) (keyval read text)
  keyval_sorted text =
      past (λ (e : Key × Data). IsSorted e.1) (key_equals text) (λ k. read_map (λ d. (k.0, d)) (read k.1))
      (λ k. mapped IsSorted (λ (e : Key × Data). IsSorted e.1) (λ d. (k.0, d)) (λ d h. h) (read k.1) (sorted k.1))

  items_sorted : (n : ℕ) (done : Items) (text : List ℕ) → items_are_sorted done ≡ true → Gives (λ ds. items_are_sorted ds ≡ true) (items read n done text)
  unfolding items
  items_sorted zero done text h = none (λ ds. items_are_sorted ds ≡ true)
  items_sorted (suc n) done text h =
      let start = skip_blank text in
      either (λ ds. items_are_sorted ds ≡ true) (first start == right_bracket) _ _
      (one (λ ds. items_are_sorted ds ≡ true) (done, drop 1 start) h)
      (followed IsSorted (λ ds. items_are_sorted ds ≡ true) (read start) (λ v. option_and_then (items read n (push_item done v.0)) (after_element right_bracket v.1)) (sorted start)
      (λ v its. past (λ ds. items_are_sorted ds ≡ true) (after_element right_bracket v.1) (items read n (push_item done v.0)) (λ rest. items_sorted n (push_item done v.0) rest (pushed done v.0 h its))))

  members_sorted : (n : ℕ) (done : Nodes) (text : List ℕ) → AreAscending done → Gives (λ ms. members_are_sorted ms ≡ true) (members read n done text)
  unfolding members
  members_sorted zero done text h = none (λ ms. members_are_sorted ms ≡ true)
  members_sorted (suc n) done text h =
      let start = skip_blank text in
      either (λ ms. members_are_sorted ms ≡ true) (first start == right_brace) _ _
      (one (λ ms. members_are_sorted ms ≡ true) (close done, drop 1 start) h)
      (followed (λ (e : Key × Data). IsSorted e.1) (λ ms. members_are_sorted ms ≡ true) (keyval read start) (λ e. option_and_then (λ more. option_and_then (members read n more) (after_element right_brace e.1)) (put e.0.0 e.0.1 done)) (keyval_sorted start)
      (λ e its ms given. option_and_then_some (λ more. option_and_then (members read n more) (after_element right_brace e.1)) (put e.0.0 e.0.1 done) ms given
      (λ more made rest. past (λ ms. members_are_sorted ms ≡ true) (after_element right_brace e.1) (members read n more) (λ text. members_sorted n more text (put_keeps e.0.0 e.0.1 its done more h made)) ms rest)))

val_sorted : (depth : ℕ) (text : List ℕ) → Gives IsSorted (val depth text)
unfolding val
val_sorted zero text = atom_sorted text
val_sorted (suc depth) text =
    either IsSorted (first text == left_bracket) _ _
    (mapped (λ ds. items_are_sorted ds ≡ true) IsSorted array (λ ds h. h) (items (val depth) (length text) no_items (drop 1 text)) (items_sorted (val depth) (val_sorted depth) (length text) no_items (drop 1 text) refl))
    (either IsSorted (first text == left_brace) _ _
    (mapped (λ ms. members_are_sorted ms ≡ true) IsSorted table (λ ms h. h) (members (val depth) (length text) no_nodes (drop 1 text)) (members_sorted (val depth) (val_sorted depth) (length text) no_nodes (drop 1 text) refl))
    (atom_sorted text))

-- ---- lines

expression_defines : (text : List ℕ) → Gives (λ (e : Expression). Defines e.1) (expression text)
unfolding expression
expression_defines text =
    let P = λ (e : Expression). Defines e.1 in
    either P _ _ _
    (past P (header_key (drop 2 text)) _ (λ k. λ x e. (let (rest, made, is) = some_of (λ (rest : List ℕ). ((k.0, array_table), rest)) (after_byte right_bracket k.1) x e in subst (λ (z : Expression × List ℕ). P z.0) is tt)))
    (either P _ _ _
    (mapped (λ _. Unit {0}) P (λ k. (k, std_table)) (λ k h. tt) (header_key (drop 1 text)) (any _))
    (mapped (λ (p : Key × Data). IsSorted p.1) P (λ p. (p.0, key_value p.1)) (λ p h. h) (keyval (val recursion_limit) text) (keyval_sorted (val recursion_limit) (val_sorted recursion_limit) text)))

line_defines : (text : List ℕ) → Gives (λ (e : Expression). Defines e.1) (line text)
unfolding line
line_defines text =
    let P = λ (e : Expression). Defines e.1 in
    followed P P (expression text) _ (expression_defines text) (λ e h. either P (ends_line (skip_ws e.1)) (Some e) None (one P e h) (none P))

lines_keep : (n : ℕ) (doc : Document) (text : List ℕ) (end : Document) → AreAscending doc.0 → lines n doc text ≡ Some end → AreAscending end.0
unfolding lines
lines_keep zero doc text end all e = absurd (none-some end e)
lines_keep (suc n) doc text end all e =
    elim (length (skip_blank text) == 0) as (λ b. (if b then Some doc else option_and_then (λ (e : Expression × List ℕ). option_and_then (λ next. lines n next e.1) (define doc e.0)) (line (skip_blank text))) ≡ Some end → AreAscending end.0) [
      | true ↦ λ e. subst (λ (x : Document). AreAscending x.0) (same_Some doc end e) all
      | false ↦ λ e. option_and_then_some (λ (e : Expression × List ℕ). option_and_then (λ next. lines n next e.1) (define doc e.0)) (line (skip_blank text)) end e
          (λ x read more. option_and_then_some (λ next. lines n next x.1) (define doc x.0) end more
          (λ next made rest. lines_keep n next x.1 end (define_keeps doc next x.0 (line_defines (skip_blank text) x read) all made) rest))
    ] e

-- a document's keys ascend
pub parsed_sorted : (text : List ℕ) (ms : Members) → parse_document text ≡ Some ms → members_are_sorted ms ≡ true
unfolding parse_document
parsed_sorted text ms e =
    let (doc, read, is) = some_of (λ (doc : Document). close doc.0) (lines (suc (length text)) (no_nodes, []) (skip_bom text)) ms e in
    subst (λ ms. members_are_sorted ms ≡ true) is (lines_keep (suc (length text)) (no_nodes, []) (skip_bom text) doc refl read)
