-- What the removal of a slot from the table, and its move to another, are to the list that the table leads along.
use Rattle.std.proofs.Common.{◌≡◌, ◌≢◌, ℕ, ◌<◌, Bool, true, false, ◌==◌, eq-eqb, List, [], ◌∷◌, ◌++◌, map, length, Option, Some, None, refl, sym, ◌∙◌, ap, subst}
use Rattle.std.specs.List.{AllByRecursion as Each}
use Rattle.std.proofs.lemmas.Bool.{eqb-true}
use Rattle.cap_core.specs.declared.capability.Cap.{Cap}
use Rattle.slot_core.specs.declared.linked.table.Link.{Link}
use Rattle.kernel_forest.specs.Marked.{Marked, at_place, with_cap, with_mark}
use Rattle.kernel_forest.specs.MarkedEdits.{handed_on}
use Rattle.slot_core.specs.TableEdits.{TakesOut, Replaces}
use Rattle.slot_core.specs.Links.{next_of, previous_of, row_of, head_or, last_or, Lacks, IsApart, IsFree, IsLinked}
use Rattle.kernel_forest.proofs.Trees.Forests.{each-left_part, each-right_part}
use Rattle.slot_core.proofs.LinkedStores.Chains.{each-both, each-one, head-append, last-append, linked-append, not_head, not_last, linked-front, linked-back, each-insert, each-without, apart-insert, apart-without, lacks-with}
use Rattle.slot_core.proofs.LinkedStores.Linkings.{map-same, map-parts, last_is, StandsBetween, between}

pub removed : (links links' : List Link) (first first' last last' : Option ℕ) (pre : List ℕ) (s : ℕ) (post : List ℕ)
    → IsLinked links first last (pre ++ s ∷ post) → TakesOut links links' first first' last last' s
    → IsLinked links' first' last' (pre ++ post)
    × (map (row_of links') (pre ++ post) ≡ map (row_of links) pre ++ handed_on (row_of links s).first_badged (map (row_of links) post))
removed links links' first first' last last' pre s post ok w = (
  record {
    starts = starts pre b.previous b.starts ∙ sym (head-append pre post None);
    ends = ends post b.next b.ends ∙ sym (last-append None pre post);
    linked = linked-append f' g' None pre post None
        (linked-front f g f' g' None pre (Some s) (head_or post None) b.front b.front_apart
        (each-one (λ i. Lacks i (s ∷ post)) (λ i. (last_or None pre ≡ Some i → ⊥) → f' i ≡ f i) (λ i d e. w.next i (λ z. d.0 (sym z)) (λ z. e (sym b.previous ∙ z))) pre b.front_lacks)
        (λ i e. w.next_previous i (b.previous ∙ e) (λ d. not_last s pre b.not_front (e ∙ ap Some d)) ∙ b.next)
        (each-one (λ i. Lacks i (s ∷ post)) (λ i. g' i ≡ g i) (λ i d. w.previous i (λ z. d.0 (sym z)) (λ z. not_head i post d.1 (sym b.next ∙ z))) pre b.front_lacks))
        (linked-back f g f' g' (Some s) (last_or None pre) post None b.back b.back_apart
        (each-both (λ i. i ≢ s) (λ i. Lacks i pre) (λ i. f' i ≡ f i) (λ i d e. w.next i d (λ z. not_last i pre e (sym b.previous ∙ z))) post b.not_back b.back_lacks)
        (each-one (λ i. i ≢ s) (λ i. (head_or post None ≡ Some i → ⊥) → g' i ≡ g i) (λ i d e. w.previous i d (λ z. e (sym b.next ∙ z))) post b.not_back)
        (λ i e. w.previous_next i (b.next ∙ e) (λ d. not_head s post b.not_back (e ∙ ap Some d)) ∙ b.previous));
    apart = apart-without pre s post ok.apart;
    within = (let P : ℕ → Type 0 = λ n. Each (λ i. i < n) (pre ++ post) in subst P (sym w.size) (each-without (λ i. i < length links) pre s post ok.within));
    free = free;
  },
  rows,
)
  where
    f : ℕ → Option ℕ
    f = next_of links

    g : ℕ → Option ℕ
    g = previous_of links

    f' : ℕ → Option ℕ
    f' = next_of links'

    g' : ℕ → Option ℕ
    g' = previous_of links'

    b : StandsBetween links first last pre s post
    b = between links first last pre s post ok

    starts : (l : List ℕ) → g s ≡ last_or None l → first ≡ head_or l (Some s) → first' ≡ head_or l (head_or post None)
    starts [] e d = w.first_none e ∙ b.next
    starts (i ∷ l) e d = w.first_some (last_is i l).0 (e ∙ (last_is i l).1) ∙ d

    ends : (l : List ℕ) → f s ≡ head_or l None → last ≡ last_or (Some s) l → last' ≡ last_or (last_or None pre) l
    ends [] e d = w.last_none e ∙ b.previous
    ends (n ∷ l) e d = w.last_some n e ∙ d

    free : (i : ℕ) → Lacks i (pre ++ post) → IsFree links' i
    free i h = is_s (i == s) refl
      where
        hf : Lacks i pre
        hf = each-left_part (λ j. j ≢ i) pre post h

        hb : Lacks i post
        hb = each-right_part (λ j. j ≢ i) pre post h

        is_s : (c : Bool) → (i == s) ≡ c → IsFree links' i
        is_s true e = let P : ℕ → Type 0 = IsFree links' in subst P (sym (eqb-true i s e)) (record { next = w.next_slot; previous = w.previous_slot; row = w.row })
        is_s false e =
            let ne : i ≢ s = λ d. (let t : (i == s) ≡ true = eq-eqb i s d in let no' : true ≡ false = sym t ∙ e in cc) in
            let old : IsFree links i = ok.free i (lacks-with i pre s post h (λ d. ne (sym d))) in
            let away : f s ≡ Some i → ⊥ = λ d. not_head i post hb (sym b.next ∙ d) in
            record {
              next = w.next i ne (λ d. not_last i pre hf (sym b.previous ∙ d)) ∙ old.next;
              previous = w.previous i ne away ∙ old.previous;
              row = w.rows i ne away ∙ old.row;
            }

    back_rows : (l : List ℕ) → f s ≡ head_or l None → Lacks s l → IsApart l → map (row_of links') l ≡ handed_on (row_of links s).first_badged (map (row_of links) l)
    back_rows [] e n a = refl
    back_rows (h ∷ q) e n a =
        ap (λ (r : Marked). r ∷ map (row_of links') q) (w.row_next h e n.0)
        ∙ ap (λ (m : List Marked). with_mark (row_of links s).first_badged (row_of links h) ∷ m) (map-same (row_of links) (row_of links') q
        (each-both (λ i. i ≢ s) (λ i. i ≢ h) (λ i. row_of links' i ≡ row_of links i) (λ i d c. w.rows i d (λ z. c (let k : h ≡ i = some_is (sym e ∙ z) in sym k))) q n.1 a.0))
      where
        some_is : {i j : ℕ} → Some i ≡ Some j → i ≡ j
        some_is e = cc

    rows : map (row_of links') (pre ++ post) ≡ map (row_of links) pre ++ handed_on (row_of links s).first_badged (map (row_of links) post)
    rows =
        let ef : map (row_of links') pre ≡ map (row_of links) pre = map-same (row_of links) (row_of links') pre
        (each-one (λ i. Lacks i (s ∷ post)) (λ i. row_of links' i ≡ row_of links i) (λ i d. w.rows i (λ z. d.0 (sym z)) (λ z. not_head i post d.1 (sym b.next ∙ z))) pre b.front_lacks) in
        map-parts (row_of links') pre post
        ∙ ap (λ (m : List Marked). m ++ map (row_of links') post) ef
        ∙ ap (λ (m : List Marked). map (row_of links) pre ++ m) (back_rows post b.next b.not_back b.back_apart)

pub replaced : (links links' : List Link) (first first' last last' : Option ℕ) (pre : List ℕ) (s x : ℕ) (post : List ℕ) (cap : Cap)
    → IsLinked links first last (pre ++ s ∷ post) → Lacks x (pre ++ s ∷ post) → x < length links → Replaces links links' first first' last last' s x cap
    → IsLinked links' first' last' (pre ++ x ∷ post)
    × (map (row_of links') (pre ++ x ∷ post) ≡ map (row_of links) pre ++ at_place x (with_cap cap (row_of links s)) ∷ map (row_of links) post)
replaced links links' first first' last last' pre s x post cap ok k lx w = (
  record {
    starts = starts pre b.previous b.starts ∙ sym (head-append pre (x ∷ post) None);
    ends = ends post b.next b.ends ∙ sym (last-append None pre (x ∷ post));
    linked = linked-append f' g' None pre (x ∷ post) None
        (linked-front f g f' g' None pre (Some s) (Some x) b.front b.front_apart
        (each-both (λ i. Lacks i (s ∷ post)) (λ i. i ≢ x) (λ i. (last_or None pre ≡ Some i → ⊥) → f' i ≡ f i) (λ i d c e. w.next i (λ z. d.0 (sym z)) c (λ z. e (sym b.previous ∙ z))) pre b.front_lacks kf)
        (λ i e. w.next_previous i (b.previous ∙ e) (λ d. not_last s pre b.not_front (e ∙ ap Some d)) (λ d. not_last x pre kf (e ∙ ap Some d)))
        (each-both (λ i. Lacks i (s ∷ post)) (λ i. i ≢ x) (λ i. g' i ≡ g i) (λ i d c. w.previous i (λ z. d.0 (sym z)) c (λ z. not_head i post d.1 (sym b.next ∙ z))) pre b.front_lacks kf)) (
          w.previous_slot xs nx ∙ b.previous,
          (
            w.next_slot xs px ∙ b.next,
            linked-back f g f' g' (Some s) (Some x) post None b.back b.back_apart
                (each-both (λ i. (i ≢ s) × (i ≢ x)) (λ i. Lacks i pre) (λ i. f' i ≡ f i) (λ i d e. w.next i d.0 d.1 (λ z. not_last i pre e (sym b.previous ∙ z))) post two b.back_lacks)
                (each-one (λ i. (i ≢ s) × (i ≢ x)) (λ i. (head_or post None ≡ Some i → ⊥) → g' i ≡ g i) (λ i d e. w.previous i d.0 d.1 (λ z. e (sym b.next ∙ z))) post two)
                (λ i e. w.previous_next i (b.next ∙ e) (λ d. not_head s post b.not_back (e ∙ ap Some d)) (λ d. not_head x post kb.1 (e ∙ ap Some d))),
          ),
        );
    apart = apart-insert pre x post (apart-without pre s post ok.apart) (each-without (λ j. j ≢ x) pre s post k);
    within = (let P : ℕ → Type 0 = λ n. Each (λ i. i < n) (pre ++ x ∷ post) in subst P (sym w.size) (each-insert (λ i. i < length links) pre x post (each-without (λ i. i < length links) pre s post ok.within) lx));
    free = free;
  },
  rows,
)
  where
    f : ℕ → Option ℕ
    f = next_of links

    g : ℕ → Option ℕ
    g = previous_of links

    f' : ℕ → Option ℕ
    f' = next_of links'

    g' : ℕ → Option ℕ
    g' = previous_of links'

    b : StandsBetween links first last pre s post
    b = between links first last pre s post ok

    kf : Lacks x pre
    kf = each-left_part (λ j. j ≢ x) pre (s ∷ post) k

    kb : Lacks x (s ∷ post)
    kb = each-right_part (λ j. j ≢ x) pre (s ∷ post) k

    xs : x ≢ s
    xs e = kb.0 (sym e)

    nx : f s ≡ Some x → ⊥
    nx e = not_head x post kb.1 (sym b.next ∙ e)

    px : g s ≡ Some x → ⊥
    px e = not_last x pre kf (sym b.previous ∙ e)

    two : Each (λ i. (i ≢ s) × (i ≢ x)) post
    two = each-both (λ i. i ≢ s) (λ i. i ≢ x) (λ i. (i ≢ s) × (i ≢ x)) (λ i d e. (d, e)) post b.not_back kb.1

    starts : (l : List ℕ) → g s ≡ last_or None l → first ≡ head_or l (Some s) → first' ≡ head_or l (Some x)
    starts [] e d = w.first_none e
    starts (i ∷ l) e d = w.first_some (last_is i l).0 (e ∙ (last_is i l).1) ∙ d

    ends : (l : List ℕ) → f s ≡ head_or l None → last ≡ last_or (Some s) l → last' ≡ last_or (Some x) l
    ends [] e d = w.last_none e
    ends (n ∷ l) e d = w.last_some n e ∙ d

    free : (i : ℕ) → Lacks i (pre ++ x ∷ post) → IsFree links' i
    free i h = is_s (i == s) refl
      where
        hf : Lacks i pre
        hf = each-left_part (λ j. j ≢ i) pre (x ∷ post) h

        hb : Lacks i (x ∷ post)
        hb = each-right_part (λ j. j ≢ i) pre (x ∷ post) h

        is_s : (c : Bool) → (i == s) ≡ c → IsFree links' i
        is_s true e = let P : ℕ → Type 0 = IsFree links' in subst P (sym (eqb-true i s e)) (record { next = w.next_source; previous = w.previous_source; row = w.row })
        is_s false e =
            let ne : i ≢ s = λ d. (let t : (i == s) ≡ true = eq-eqb i s d in let no' : true ≡ false = sym t ∙ e in cc) in
            let nix : i ≢ x = λ d. hb.0 (sym d) in
            let old : IsFree links i = ok.free i (lacks-with i pre s post (each-without (λ j. j ≢ i) pre x post h) (λ d. ne (sym d))) in
            let away : f s ≡ Some i → ⊥ = λ d. not_head i post hb.1 (sym b.next ∙ d) in
            record {
              next = w.next i ne nix (λ d. not_last i pre hf (sym b.previous ∙ d)) ∙ old.next;
              previous = w.previous i ne nix away ∙ old.previous;
              row = w.rows i ne nix ∙ old.row;
            }

    rows : map (row_of links') (pre ++ x ∷ post) ≡ map (row_of links) pre ++ at_place x (with_cap cap (row_of links s)) ∷ map (row_of links) post
    rows =
        let ef : map (row_of links') pre ≡ map (row_of links) pre = map-same (row_of links) (row_of links') pre
        (each-both (λ i. Lacks i (s ∷ post)) (λ i. i ≢ x) (λ i. row_of links' i ≡ row_of links i) (λ i d c. w.rows i (λ z. d.0 (sym z)) c) pre b.front_lacks kf) in
        let eb : map (row_of links') post ≡ map (row_of links) post = map-same (row_of links) (row_of links') post (each-one (λ i. (i ≢ s) × (i ≢ x)) (λ i. row_of links' i ≡ row_of links i) (λ i d. w.rows i d.0 d.1) post two) in
        map-parts (row_of links') pre (x ∷ post)
        ∙ ap (λ (m : List Marked). m ++ row_of links' x ∷ map (row_of links') post) ef
        ∙ ap (λ (r : Marked). map (row_of links) pre ++ r ∷ map (row_of links') post) (w.row_slot xs)
        ∙ ap (λ (m : List Marked). map (row_of links) pre ++ at_place x (with_cap cap (row_of links s)) ∷ m) eb
