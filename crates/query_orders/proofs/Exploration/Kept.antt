-- The kernels of a layer's first nodes, as the layer grows.
use Rattle.std.proofs.Common.{◌≡◌, suc, ◌<◌, true, false, cond, List, [], ◌∷◌, ◌++◌, ◌⊎◌, inl, inr, length, drop, get_or, Option, Some, None, ap, sym, subst, ◌∙◌, arith}
use Rattle.std.specs.Prelude.{IfSome}
use Rattle.std.specs.Option.{option_to_list}
use Rattle.cap_core.specs.declared.profile.ProfileName.{ProfileName}
use Rattle.kernel_abstract.specs.declared.call.Call.{Call}
use Rattle.kernel_abstract.specs.Shown.{Shown}
use Rattle.query_orders.specs.World.{World}
use Rattle.query_orders.specs.declared.exploring.node.Node.{Node}
use Rattle.query_orders.specs.Private.Kernels.{IsKernelOf, AreKernels}
use Rattle.query_orders.specs.Private.Tables.{by_words, heavier, with_node}

module _ (p : ProfileName) (own : List (List Call)) (w : World) where
  -- a node more, or one that is heavier, leaves the nodes in front what they were
  pub kernels_stay : (kernels : List Shown) (nodes : List Node) (n : Node) → AreKernels p own w kernels nodes → AreKernels p own w kernels (with_node nodes n)
  kernels_stay [] nodes n are = tt
  kernels_stay (v ∷ kernels) [] n are = absurd are
  kernels_stay (v ∷ kernels) (m ∷ nodes) n are =
      elim (by_words m n) as (λ b. AreKernels p own w (v ∷ kernels) (cond b (heavier n.weight m ∷ nodes) (m ∷ with_node nodes n))) [
        | true ↦ (are.0, are.1)
        | false ↦ (are.0, kernels_stay kernels nodes n are.1)
      ]

  -- where the kernels of all nodes are kept, that of a new one is kept as the last
  pub kernel_kept : (kernels : List Shown) (nodes : List Node) (n : Node) (v : Shown) → AreKernels p own w kernels nodes → IsKernelOf p own w n v → length kernels ≡ length nodes → length nodes < length (with_node nodes n) →
      AreKernels p own w (kernels ++ v ∷ []) (with_node nodes n)
  kernel_kept [] [] n v are is same more = (is, tt)
  kernel_kept [] (m ∷ nodes) n v are is same more = absurd (let e : 0 ≡ suc (length nodes) = same in omega arith)
  kernel_kept (u ∷ kernels) [] n v are is same more = absurd are
  kernel_kept (u ∷ kernels) (m ∷ nodes) n v are is same more =
      elim (by_words m n) as (λ b. suc (length nodes) < length (cond b (heavier n.weight m ∷ nodes) (m ∷ with_node nodes n)) → AreKernels p own w (u ∷ (kernels ++ v ∷ [])) (cond b (heavier n.weight m ∷ nodes) (m ∷ with_node nodes n))) [
        | true ↦ λ lt. absurd (let l : suc (length nodes) < suc (length nodes) = lt in omega arith)
        | false ↦ λ lt.
            (let s : length kernels ≡ length nodes = (let e : suc (length kernels) ≡ suc (length nodes) = same in omega arith) in
            let l : length nodes < length (with_node nodes n) = (let k : suc (length nodes) < suc (length (with_node nodes n)) = lt in omega arith) in
            (are.0, kernel_kept kernels nodes n v are.1 is s l))
      ] more

  -- and where there is no memory for it, none is kept more
  pub kernel_saved : (kernels kernels' : List Shown) (nodes : List Node) (n : Node) (v : Shown) → AreKernels p own w kernels nodes → IsKernelOf p own w n v → length kernels ≡ length nodes → length nodes < length (with_node nodes n) →
      (kernels' ≡ kernels) ⊎ (kernels' ≡ kernels ++ v ∷ []) → AreKernels p own w kernels' (with_node nodes n)
  kernel_saved kernels kernels' nodes n v are is same more (inl stays) = subst (λ (l : List Shown). AreKernels p own w l (with_node nodes n)) (sym stays) (kernels_stay kernels nodes n are)
  kernel_saved kernels kernels' nodes n v are is same more (inr kept) = subst (λ (l : List Shown). AreKernels p own w l (with_node nodes n)) (sym kept) (kernel_kept kernels nodes n v are is same more)

  -- the kernel of the first node is taken, where it is kept
  pub kernel_taken : (taken : Option Shown) (kernels rest : List Shown) (n : Node) (nodes : List Node) → AreKernels p own w kernels (n ∷ nodes) → kernels ≡ option_to_list taken ++ rest → rest ≡ drop 1 kernels →
      IfSome taken (IsKernelOf p own w n) × AreKernels p own w rest nodes
  kernel_taken None [] rest n nodes are is after = (tt, subst (λ l. AreKernels p own w l nodes) (sym after) tt)
  kernel_taken None (v ∷ kernels) rest n nodes are is after = absurd (let e : suc (length kernels) ≡ length rest = ap length is in let f : length rest ≡ length kernels = ap length after in omega arith)
  kernel_taken (Some v) [] rest n nodes are is after = absurd (let e : 0 ≡ suc (length rest) = ap length is in omega arith)
  kernel_taken (Some v) (u ∷ kernels) rest n nodes are is after = (sym (ap (λ l. get_or l 0 u) is) ∙ are.0, subst (λ l. AreKernels p own w l nodes) (sym after) are.1)
