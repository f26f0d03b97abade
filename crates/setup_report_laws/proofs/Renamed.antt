-- Two forests that are the same under one name for each thing are the same under another.
use Rattle.std.proofs.Common.{◌≡◌, refl}
use Rattle.std.specs.List.{AllByRecursion as Each}
use Rattle.kernel_forest.specs.Forest.{Forest, none, tree, preorder, renamed}
use Rattle.kernel_forest.proofs.Trees.Forests.{each-left_part, each-right_part}

-- where things that are told alike are alike
pub same_renamed : {A B C : Type 0} (told : A → B) (v : A → C) (P : A → Type 0) → ((a b : A) → P a → P b → told a ≡ told b → v a ≡ v b) →
    (f g : Forest A) → Each P (preorder f) → Each P (preorder g) → renamed told f ≡ renamed told g → renamed v f ≡ renamed v g
same_renamed told v P alike none none h k same = refl
same_renamed told v P alike none (tree b under others) h k same = absurd cc
same_renamed told v P alike (tree a below beside) none h k same = absurd cc
same_renamed told v P alike (tree a below beside) (tree b under others) h k same =
    let first : told a ≡ told b = cc in
    let down : renamed told below ≡ renamed told under = cc in
    let on : renamed told beside ≡ renamed told others = cc in
    λ i. tree (alike a b h.0 k.0 first i)
    (same_renamed told v P alike below under (each-left_part P (preorder below) (preorder beside) h.1) (each-left_part P (preorder under) (preorder others) k.1) down i)
    (same_renamed told v P alike beside others (each-right_part P (preorder below) (preorder beside) h.1) (each-right_part P (preorder under) (preorder others) k.1) on i)

pub renamed_as_it_is : {A : Type 0} (f : Forest A) → renamed (λ (a : A). a) f ≡ f
renamed_as_it_is none = refl
renamed_as_it_is (tree a under others) = λ i. tree a (renamed_as_it_is under i) (renamed_as_it_is others i)
