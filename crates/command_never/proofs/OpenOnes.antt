-- What is open by the uses of an endpoint alone, and what is told of the endpoints that are open.
use Rattle.std.proofs.Common.{◌≡◌, ◌≢◌, ℕ, Bool, true, false, not, cond, ◌==◌, ◌&&◌, ◌||◌, List, [], ◌∷◌, ◌++◌, Option, Some, filter, find, length, refl, sym, ap, ◌∙◌, arith}
use Rattle.std.specs.List.{list_any, flat_map}
use Rattle.std.specs.Prelude.{slice_get}
use Rattle.std.proofs.lemmas.Bool.{false≢true, ne_eqb}
use Rattle.cap_core.specs.declared.profile.ProfileName.{ProfileName}
use Rattle.cap_core.specs.Rights.{write_bit, read_bit}
use Rattle.kernel_delete.proofs.Members.{both_true}
use Rattle.kernel_abstract.specs.Shown.{Shown}
use Rattle.query_parts.specs.declared.listed.PartMemory.{PartMemory}
use Rattle.query_parts.specs.declared.listed.PartUse.{PartUse}
use Rattle.setup_report.specs.State.{is_in}
use Rattle.command_parts.specs.Telling.{PartTexts}
use Rattle.command_parts.specs.Text.{is_use, is_of_endpoint}
use Rattle.command_never.specs.declared.parts_kept.waits.Wait.{Wait}
use Rattle.command_never.specs.Waits.{waits}
use Rattle.command_never.specs.Never.{has_bytes, is_use_of, is_waiting_sender, is_waiting_receiver, is_open, endpoints_met, open_endpoints}
use Rattle.command_never.specs.Open.{used_line, had_lines, bytes_line, sender_line, open_receiver_line, open_endpoint_line, open_endpoint_lines, open_lines, lines_between}

-- ---- the uses of an endpoint are enough

any_step : (f g : PartUse → Bool) → ((u : PartUse) → f u ≡ true → g u ≡ true) → (u : PartUse) (l : List PartUse) (b c : Bool) → g u ≡ b → f u ≡ c →
    list_any f (filter g l) ≡ list_any f l → list_any f (cond b (u ∷ filter g l) (filter g l)) ≡ (f u || list_any f l)
any_step f g stricter u l true c kept is rest = ap (λ d. f u || d) rest
any_step f g stricter u l false true out is rest = absurd (false≢true (sym out ∙ stricter u is))
any_step f g stricter u l false false out is rest = rest ∙ sym (ap (λ d. d || list_any f l) is)

any_kept : (f g : PartUse → Bool) → ((u : PartUse) → f u ≡ true → g u ≡ true) → (l : List PartUse) → list_any f (filter g l) ≡ list_any f l
any_kept f g stricter [] = refl
any_kept f g stricter (u ∷ l) = any_step f g stricter u l (g u) (f u) refl refl (any_kept f g stricter l)

right_of : (b c : Bool) → b && c ≡ true → c ≡ true
right_of true c h = h
right_of false c h = absurd (false≢true h)

of_endpoint : (i e : ℕ) (u : PartUse) → is_use_of i e u ≡ true → is_of_endpoint e u ≡ true
of_endpoint i e u h = right_of (u.part == i) (u.endpoint == e) h

used_at : (right i e : ℕ) (u : PartUse) → is_use right i e u ≡ true → is_of_endpoint e u ≡ true
used_at right i e u h = (both_true (u.endpoint == e) _ (both_true (u.part == i) _ h).1).0

module _ (p : ProfileName) (memory : List PartMemory) (uses : List PartUse) (ws : List Wait) (by : List ℕ) (i j e : ℕ) where
  abbrev open_with : Bool → Bool → Bool → Bool
  open_with used sends receives =
      not (is_in e by)
      && ((used && has_bytes p memory j e)
      || ((has_bytes p memory i e || (sends || list_any (is_waiting_sender memory i e) ws)) && (has_bytes p memory j e || (receives || list_any (is_waiting_receiver memory j e) ws))))

  pub open_here : (here : List PartUse) → here ≡ filter (is_of_endpoint e) uses → is_open p memory here ws by i j e ≡ is_open p memory uses ws by i j e
  open_here here is =
      ap (λ (l : List PartUse). is_open p memory l ws by i j e) is
      ∙ (ap (λ b. open_with b (list_any (is_use write_bit i e) (filter (is_of_endpoint e) uses)) (list_any (is_use read_bit j e) (filter (is_of_endpoint e) uses)))
      (any_kept (is_use_of i e) (is_of_endpoint e) (of_endpoint i e) uses)
      ∙ (ap (λ b. open_with (list_any (is_use_of i e) uses) b (list_any (is_use read_bit j e) (filter (is_of_endpoint e) uses)))
      (any_kept (is_use write_bit i e) (is_of_endpoint e) (used_at write_bit i e) uses)
      ∙ ap (λ b. open_with (list_any (is_use_of i e) uses) (list_any (is_use write_bit i e) uses) b)
      (any_kept (is_use read_bit j e) (is_of_endpoint e) (used_at read_bit j e) uses)))

-- ---- their lines

and_false : (b c : Bool) → c ≡ false → b && c ≡ false
and_false true c h = h
and_false false c h = refl

none_told : (b : Bool) (text : List ℕ) → b ≡ false → cond b text [] ≡ []
none_told true text h = absurd (false≢true (sym h))
none_told false text h = refl

none_used : (told : PartTexts) (part e : ℕ) (u : PartUse) → is_of_endpoint e u ≡ false → used_line told part e u ≡ []
none_used told part e u is = none_told (is_use_of part e u) _ (and_false (u.part == part) (u.endpoint == e) is)

used_step : (told : PartTexts) (part e : ℕ) (u : PartUse) (l : List PartUse) (b : Bool) → is_of_endpoint e u ≡ b →
    flat_map (used_line told part e) (filter (is_of_endpoint e) l) ≡ flat_map (used_line told part e) l →
    flat_map (used_line told part e) (cond b (u ∷ filter (is_of_endpoint e) l) (filter (is_of_endpoint e) l)) ≡ used_line told part e u ++ flat_map (used_line told part e) l
used_step told part e u l true is rest = ap (λ (t : List ℕ). used_line told part e u ++ t) rest
used_step told part e u l false is rest = rest ∙ sym (ap (λ (t : List ℕ). t ++ flat_map (used_line told part e) l) (none_used told part e u is))

used_kept : (told : PartTexts) (part e : ℕ) (l : List PartUse) → flat_map (used_line told part e) (filter (is_of_endpoint e) l) ≡ flat_map (used_line told part e) l
used_kept told part e [] = refl
used_kept told part e (u ∷ l) = used_step told part e u l (is_of_endpoint e u) refl (used_kept told part e l)

module _ (p : ProfileName) (told : PartTexts) (memory : List PartMemory) (uses : List PartUse) (v : Shown) (i j e : ℕ) where
  had_here : (part : ℕ) → had_lines told p memory (filter (is_of_endpoint e) uses) part e ≡ had_lines told p memory uses part e
  had_here part = ap (λ (t : List ℕ). flat_map (bytes_line told p part e) memory ++ t) (used_kept told part e uses)

  abbrev lines_with : List ℕ → List ℕ → List ℕ
  lines_with first second =
      open_endpoint_line told e
      ++ (first ++ (flat_map (sender_line told memory v i e) (waits p v) ++ (second ++ flat_map (open_receiver_line told memory j e) (waits p v))))

  pub lines_here : (here : List PartUse) → here ≡ filter (is_of_endpoint e) uses → open_endpoint_lines p told memory here v i j e ≡ open_endpoint_lines p told memory uses v i j e
  lines_here here is =
      ap (λ (l : List PartUse). open_endpoint_lines p told memory l v i j e) is
      ∙ (ap (λ (t : List ℕ). lines_with t (had_lines told p memory (filter (is_of_endpoint e) uses) j e)) (had_here i)
      ∙ ap (λ (t : List ℕ). lines_with (had_lines told p memory uses i e) t) (had_here j))

-- ---- those that are open

lines_step : (f : ℕ → Bool) (g : ℕ → List ℕ) (e : ℕ) (l : List ℕ) (b : Bool) → flat_map (λ a. cond (f a) (g a) []) l ≡ flat_map g (filter f l) →
    cond b (g e) [] ++ flat_map (λ a. cond (f a) (g a) []) l ≡ flat_map g (cond b (e ∷ filter f l) (filter f l))
lines_step f g e l true rest = ap (λ (t : List ℕ). g e ++ t) rest
lines_step f g e l false rest = rest

lines_of_those : (f : ℕ → Bool) (g : ℕ → List ℕ) (l : List ℕ) → flat_map (λ a. cond (f a) (g a) []) l ≡ flat_map g (filter f l)
lines_of_those f g [] = refl
lines_of_those f g (e ∷ l) = lines_step f g e l (f e) (lines_of_those f g l)

pub lines_of_open : (p : ProfileName) (told : PartTexts) (memory : List PartMemory) (uses : List PartUse) (v : Shown) (by : List ℕ) (i j : ℕ) →
    flat_map (open_lines p told memory uses v by i j) (endpoints_met uses (waits p v))
    ≡ flat_map (open_endpoint_lines p told memory uses v i j) (open_endpoints p memory uses (waits p v) by i j)
lines_of_open p told memory uses v by i j =
    lines_of_those (is_open p memory uses (waits p v) by i j) (open_endpoint_lines p told memory uses v i j) (endpoints_met uses (waits p v))

first_step : (f : ℕ → Bool) (e : ℕ) (l : List ℕ) (b : Bool) → find f l ≡ slice_get (filter f l) 0 → cond b (Some e) (find f l) ≡ slice_get (cond b (e ∷ filter f l) (filter f l)) 0
first_step f e l true rest = refl
first_step f e l false rest = rest

pub first_found : (f : ℕ → Bool) (l : List ℕ) → find f l ≡ slice_get (filter f l) 0
first_found f [] = refl
first_found f (e ∷ l) = first_step f e l (f e) (first_found f l)

some_step : (f : ℕ → Bool) (e : ℕ) (l : List ℕ) (b : Bool) → not (length (filter f l) == 0) ≡ list_any f l →
    not (length (cond b (e ∷ filter f l) (filter f l)) == 0) ≡ (b || list_any f l)
some_step f e l true rest = ap not (ne_eqb (length (e ∷ filter f l)) 0 (λ h. omega (arith, h)))
some_step f e l false rest = rest

pub some_open : (f : ℕ → Bool) (l : List ℕ) → not (length (filter f l) == 0) ≡ list_any f l
some_open f [] = refl
some_open f (e ∷ l) = some_step f e l (f e) (some_open f l)

pub between_two : (p : ProfileName) (told : PartTexts) (memory : List PartMemory) (uses : List PartUse) (v : Shown) (by : List ℕ) (from to : Option ℕ) (i j : ℕ) →
    from ≡ Some i → to ≡ Some j → i ≢ j → (open_ones : List ℕ) → open_ones ≡ open_endpoints p memory uses (waits p v) by i j →
    flat_map (open_endpoint_lines p told memory uses v i j) open_ones ≡ lines_between p told memory uses v by from to
between_two p told memory uses v by from to i j first second two open_ones is =
    ap (flat_map (open_endpoint_lines p told memory uses v i j)) is
    ∙ (sym (lines_of_open p told memory uses v by i j)
    ∙ (sym (ap (λ b. cond b [] (flat_map (open_lines p told memory uses v by i j) (endpoints_met uses (waits p v)))) (ne_eqb i j two))
    ∙ (sym (ap (λ (o : Option ℕ). lines_between p told memory uses v by (Some i) o) second) ∙ sym (ap (λ (o : Option ℕ). lines_between p told memory uses v by o to) first))))
