-- The way back from a slot of a layer to the first layer.
use Rattle.std.proofs.Common.{◌≡◌, ◌<◌, ◌-◌, ◌+◌, ℕ, suc, true, false, List, [], ◌∷◌, ◌++◌, reverse, refl, sym, ap, ◌∙◌, subst, arith}
use Rattle.std.proofs.lemmas.Bool.{false≢true}
use Rattle.std.proofs.lemmas.List.{reverse-append}
use Rattle.kernel_delete.specs.Members.{In}
use Rattle.cap_core.specs.declared.profile.ProfileName.{ProfileName}
use Rattle.query_reach.specs.declared.filled.FullSlot.{FullSlot}
use Rattle.query_reach.specs.declared.chains.chain.Target.{Target}
use Rattle.query_reach.specs.Private.Layers.{leads_to_layer, is_next, layer_at, is_sought_at, AreStepped, IsRunFrom, IsBack}

module _ (p : ProfileName) (ls : List (List FullSlot)) (depth : ℕ) (end : FullSlot) where
  pub back_begun : (back : List FullSlot) → In end (layer_at ls depth) → back ≡ end ∷ [] → IsBack p ls depth end 0 end back
  back_begun back i e = record {
    at = depth;
    place = omega arith;
    in_layer = i;
    more = [];
    turned = ap reverse e;
    count = refl;
    run = λ target h. ((depth, i), h);
  }

  module _ (k : ℕ) (head : FullSlot) (back : List FullSlot) (is : IsBack p ls depth end k head back) (below : k < depth) (layer : List FullSlot)
      (there : layer_at ls (depth - 1 - k) ≡ layer) where
    one_behind : is.at ≡ suc (depth - 1 - k)
    one_behind = omega (arith, is.place, below)

    pub back_more : (slot : FullSlot) (new : List FullSlot) → In slot layer → leads_to_layer p slot head ≡ true → new ≡ back ++ slot ∷ [] → IsBack p ls depth end (k + 1) slot new
    back_more slot new i h e =
        let in_layer : In slot (layer_at ls (depth - 1 - k)) = subst (In slot) (sym there) i in
        record {
          at = depth - 1 - k;
          place = omega (arith, below);
          in_layer = in_layer;
          more = head ∷ is.more;
          turned = ap reverse e ∙ (reverse-append back (slot ∷ []) ∙ ap (λ (l : List FullSlot). slot ∷ l) is.turned);
          count = omega (arith, is.count);
          run = λ target sought. ((depth - 1 - k, in_layer), (h, is.run target sought));
        }

    pub back_never : AreStepped p ls → is_next p layer head ≡ false → ⊥
    back_never stepped none =
        let before : is_next p (layer_at ls (depth - 1 - k)) head ≡ true =
        stepped (depth - 1 - k) head (subst (λ (n : ℕ). In head (layer_at ls n)) one_behind is.in_layer) in
        false≢true (sym none ∙ (ap (λ (l : List FullSlot). is_next p l head) (sym there) ∙ before))

  run_from : (target : Target) (head : FullSlot) (back more : List FullSlot) → reverse back ≡ head ∷ more → IsRunFrom p target ls 0 depth (head ∷ more) →
      IsRunFrom p target ls 0 depth (reverse back)
  run_from target head back more e run = subst (IsRunFrom p target ls 0 depth) (sym e) run

  pub back_done : (k : ℕ) (head : FullSlot) (back : List FullSlot) → IsBack p ls depth end k head back → k ≡ depth →
      (target : Target) → is_sought_at p target end ≡ true → IsRunFrom p target ls 0 depth (reverse back)
  back_done k head back is same target sought =
      run_from target head back is.more is.turned
      (subst (λ (n : ℕ). In head (layer_at ls n)) (omega (arith, is.place, same)) is.in_layer, (is.count ∙ same, is.run target sought))
