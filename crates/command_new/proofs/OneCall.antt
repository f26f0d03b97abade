-- A set-up with one call, which the first client makes, and of which nothing is expected.
use Rattle.std.proofs.Common.{◌≡◌, ℕ, ◌<◌, ◌≤◌, List, [], ◌∷◌, map, length, get_or, false, Option, Some, None, option_map, is_some, refl, sym, ap, ◌∙◌, arith}
use Rattle.std.specs.Prelude.{option_copied}
use Rattle.std.specs.List.{slice_get}
use denote.Ref.{Bor}
use Rattle.kernel_abstract.specs.declared.call.Call.{Call}
use Rattle.setup_format.specs.Views.{CallView}

nothing_expected : (expect : Option (Bor (List ℕ))) → is_some expect ≡ false → option_copied expect ≡ None
nothing_expected None h = refl
nothing_expected (Some text) h = cc

one_view : (view : CallView) (call : Call) (client : ℕ) (expect : Option (List ℕ)) → view.call ≡ call → view.client ≡ client → view.expect ≡ expect →
    view ≡ record { call = call; client = client; expect = expect }
one_view view call client expect a b c = λ i. record { call = a i; client = b i; expect = c i }

some_one : {A : Type 0} (x y : A) → Some x ≡ Some y → x ≡ y
some_one x y e = cc

pub only_call : (views : List CallView) (calls : List Call) (d : Call) (client : ℕ) (expect : Option (Bor (List ℕ))) →
    calls ≡ map (λ c. c.call) views → 1 ≤ length calls → length calls < 2 →
    option_map (λ c. c.client) (slice_get views 0) ≡ Some client → client ≡ 0 →
    option_map (λ c. c.expect) (slice_get views 0) ≡ Some (option_copied expect) → is_some expect ≡ false →
    views ≡ record { call = get_or calls 0 d; client = 0; expect = None } ∷ []
only_call [] calls d client expect are least most by first told none = absurd (omega (arith, ap length are))
only_call (view ∷ []) calls d client expect are least most by first told none =
    let call : view.call ≡ get_or calls 0 d = sym (ap (λ (cs : List Call). get_or cs 0 d) are) in
    let same = one_view view (get_or calls 0 d) 0 None call (some_one view.client client by ∙ first)
    (some_one view.expect (option_copied expect) told ∙ nothing_expected expect none) in
    ap (λ (v : CallView). v ∷ []) same
only_call (view ∷ other ∷ views) calls d client expect are least most by first told none = absurd (omega (arith, ap length are))
