-- The parts are added one behind another.
use Rattle.std.proofs.Common.{◌≡◌, ◌∙◌, ◌++◌, ℕ, List, Result, Ok, Err, OnOk, codes, is_ok, if◌then◌else◌, ap, append_assoc, option_map, refl}
use Rattle.command_import.specs.Import.{layout_line}
use Rattle.command_import.proofs.path.add_setup.Goals as goal

-- what stands behind a part that was added
behind_part : (new old part rest all : List ℕ) → new ≡ old ++ part → old ++ (part ++ rest) ≡ all → new ++ rest ≡ all
behind_part new old part rest all is so = ap (λ l. l ++ rest) is ∙ append_assoc old part rest ∙ so

-- the last part
last_part : {X E : Type 0} (r : Result X E) (new old part rest all : List ℕ)
    → new ≡ (if is_ok r then old ++ part else old) → part ≡ rest → old ++ rest ≡ all → OnOk r (new ≡ all)
last_part (Ok x) new old part rest all is same so = is ∙ ap (λ l. old ++ l) same ∙ so
last_part (Err e) new old part rest all is same so = tt

-- five parts
parts : (out notes end line format rest first second third fourth : List ℕ)
    → first ≡ out ++ notes → second ≡ first ++ end → third ≡ second ++ line → fourth ≡ third ++ format
    → fourth ++ rest ≡ out ++ (notes ++ (end ++ (line ++ (format ++ rest))))
parts out notes end line format rest first second third fourth a b c d =
    behind_part fourth third format rest _ d
    (behind_part third second line (format ++ rest) _ c
    (behind_part second first end (line ++ (format ++ rest)) _ b
    (behind_part first out notes (end ++ (line ++ (format ++ rest))) _ a refl)))

pub returns : goal.returns
returns c =
    let out = c.args.out.now.items in
    let notes = c.args.notes.now in
    let line = layout_line (option_map (λ s. s.now) c.args.path) in
    let first = c.extend_from_slice.new.self.items in
    let second = c.extend_from_slice-2.new.self.items in
    let third = c.add_layout_line.new.out.items in
    let fourth = c.extend_from_slice-3.new.self.items in
    last_part c.extend_from_slice-4.result c.extend_from_slice-4.new.self.items fourth c.as_bytes-2.result.now c.args.rest.now _
    c.extend_from_slice-4.ensures.items c.as_bytes-2.ensures.value
    (parts out notes (codes "\n") line (codes "format = 2\n") c.args.rest.now first second third fourth
    (c.in_ok-extend_from_slice.ensures.items ∙ ap (λ l. out ++ l) c.as_bytes.ensures.value)
    c.in_ok-extend_from_slice-2.ensures.items
    c.in_ok-add_layout_line.ensures
    c.in_ok-extend_from_slice-3.ensures.items)
