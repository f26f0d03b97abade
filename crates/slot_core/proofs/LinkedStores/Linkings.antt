-- What each edit of the table is to the list that it leads along, and to its rows.
use Rattle.std.proofs.Common.{◌≡◌, ◌≢◌, ℕ, ◌<◌, List, [], ◌∷◌, ◌++◌, map, length, Option, Some, None, refl, sym, ◌∙◌, ap, subst}
use Rattle.std.specs.List.{AllByRecursion as Each}
use Rattle.slot_core.specs.declared.linked.table.Link.{Link}
use Rattle.kernel_forest.specs.Marked.{Marked}
use Rattle.slot_core.specs.TableEdits.{PutsBehind, Appends}
use Rattle.slot_core.specs.Links.{next_of, previous_of, row_of, head_or, last_or, AreLinked, Lacks, IsApart, IsFree, IsLinked, order_of}
use Rattle.kernel_forest.proofs.Trees.Forests.{each-left_part, each-right_part}
use Rattle.slot_core.proofs.LinkedStores.Chains.{each-both, each-one, head-append, last-append, linked-front_part, linked-back_part, linked-append, not_head, not_last, linked-same, linked-front, linked-back, walk_is, few, apart-front_part, apart-back_part, apart-lacks, apart-before, lacks-front}

-- the list is what is walked
pub walked : (links : List Link) (first last : Option ℕ) (l : List ℕ) → IsLinked links first last l → order_of links first ≡ l
walked links first last l ok = walk_is (next_of links) (previous_of links) None first l (length links) ok.linked ok.starts (few (length links) l ok.apart ok.within)

pub map-same : {B : Type 0} (v v' : ℕ → B) (l : List ℕ) → Each (λ i. v' i ≡ v i) l → map v' l ≡ map v l
map-same v v' [] h = refl
map-same v v' (i ∷ l) h = rw (h.0, map-same v v' l h.1)

pub map-parts : {B : Type 0} (v : ℕ → B) (xs ys : List ℕ) → map v (xs ++ ys) ≡ map v xs ++ map v ys
map-parts v [] ys = refl
map-parts v (x ∷ xs) ys = ap (λ l. v x ∷ l) (map-parts v xs ys)

same_some : (i j : ℕ) → Some i ≡ Some j → i ≡ j
same_some i j e = cc

pub last_is : (q : ℕ) (l : List ℕ) → (r : ℕ) × (last_or (Some q) l ≡ Some r)
last_is q [] = (q, refl)
last_is q (i ∷ l) = last_is i l

each-behind : (P : ℕ → Type 0) (pre : List ℕ) (s x : ℕ) (post : List ℕ) → Each P (pre ++ s ∷ post) → P x → Each P (pre ++ s ∷ x ∷ post)
each-behind P [] s x post h k = (h.0, (k, h.1))
each-behind P (a ∷ pre) s x post h k = (h.0, each-behind P pre s x post h.1 k)

apart-behind : (pre : List ℕ) (s x : ℕ) (post : List ℕ) → IsApart (pre ++ s ∷ post) → Lacks x (pre ++ s ∷ post) → IsApart (pre ++ s ∷ x ∷ post)
apart-behind [] s x post h k = (((λ e. k.0 (sym e)), h.0), (k.1, h.1))
apart-behind (a ∷ pre) s x post h k = (each-behind (λ j. j ≢ a) pre s x post h.0 (λ e. k.0 (sym e)), apart-behind pre s x post h.1 k.1)

-- what is read of a list in which s stands between `pre` and `post`
pub record StandsBetween (links : List Link) (first last : Option ℕ) (pre : List ℕ) (s : ℕ) (post : List ℕ) : Type 0 where
  pub front : AreLinked (next_of links) (previous_of links) None pre (Some s)
  pub previous : previous_of links s ≡ last_or None pre
  pub next : next_of links s ≡ head_or post None
  pub back : AreLinked (next_of links) (previous_of links) (Some s) post None
  pub starts : first ≡ head_or pre (Some s)
  pub ends : last ≡ last_or (Some s) post
  pub front_apart : IsApart pre
  pub back_apart : IsApart post
  pub front_lacks : Each (λ i. Lacks i (s ∷ post)) pre
  pub back_lacks : Each (λ i. Lacks i pre) post
  pub not_front : Lacks s pre
  pub not_back : Lacks s post

pub between : (links : List Link) (first last : Option ℕ) (pre : List ℕ) (s : ℕ) (post : List ℕ) → IsLinked links first last (pre ++ s ∷ post) → StandsBetween links first last pre s post
between links first last pre s post ok =
    let back : AreLinked (next_of links) (previous_of links) (last_or None pre) (s ∷ post) None = linked-back_part (next_of links) (previous_of links) None pre (s ∷ post) None ok.linked in
    let tail : IsApart (s ∷ post) = apart-back_part pre (s ∷ post) ok.apart in
    record {
      front = linked-front_part (next_of links) (previous_of links) None pre (s ∷ post) None ok.linked;
      previous = back.0;
      next = back.1.0;
      back = back.1.1;
      starts = ok.starts ∙ head-append pre (s ∷ post) None;
      ends = ok.ends ∙ last-append None pre (s ∷ post);
      front_apart = apart-front_part pre (s ∷ post) ok.apart;
      back_apart = tail.1;
      front_lacks = apart-lacks pre s post ok.apart;
      back_lacks = (apart-before pre (s ∷ post) ok.apart).1;
      not_front = lacks-front pre s post ok.apart;
      not_back = tail.0;
    }

pub inserted : (links links' : List Link) (first first' last last' : Option ℕ) (pre : List ℕ) (s x : ℕ) (post : List ℕ) (row : Marked)
    → IsLinked links first last (pre ++ s ∷ post) → Lacks x (pre ++ s ∷ post) → x < length links → PutsBehind links links' first first' last last' s x row
    → IsLinked links' first' last' (pre ++ s ∷ x ∷ post)
    × (map (row_of links') (pre ++ s ∷ x ∷ post) ≡ map (row_of links) pre ++ row_of links s ∷ row ∷ map (row_of links) post)
inserted links links' first first' last last' pre s x post row ok k lx w = (
  record {
    starts = w.first_same ∙ b.starts ∙ sym (head-append pre (s ∷ x ∷ post) None);
    ends = ends post b.next b.ends ∙ sym (last-append None pre (s ∷ x ∷ post));
    linked = linked-append f' g' None pre (s ∷ x ∷ post) None
        (linked-same f g f' g' None pre (Some s) b.front
        (each-both (λ i. Lacks i (s ∷ post)) (λ i. i ≢ x) (λ i. f' i ≡ f i) (λ i d e. w.next i (λ z. d.0 (sym z)) e) pre b.front_lacks kf)
        (each-both (λ i. Lacks i (s ∷ post)) (λ i. i ≢ x) (λ i. g' i ≡ g i) (λ i d e. w.previous i e (λ z. not_head i post d.1 (sym b.next ∙ z))) pre b.front_lacks kf)) (
          w.previous s kb.0 ns ∙ b.previous,
          (
            w.next_source kb.0,
            (
              w.previous_slot nx,
              (
                w.next_slot kb.0 ∙ b.next,
                linked-back f g f' g' (Some s) (Some x) post None b.back b.back_apart
                    (each-both (λ i. i ≢ s) (λ i. i ≢ x) (λ i. f' i ≡ f i) (λ i d e. w.next i d e) post b.not_back kb.1)
                    (each-one (λ i. i ≢ x) (λ i. (head_or post None ≡ Some i → ⊥) → g' i ≡ g i) (λ i d e. w.previous i d (λ z. e (sym b.next ∙ z))) post kb.1)
                    (λ i e. w.previous_next i (b.next ∙ e)),
              ),
            ),
          ),
        );
    apart = apart-behind pre s x post ok.apart k;
    within = (let P : ℕ → Type 0 = λ n. Each (λ i. i < n) (pre ++ s ∷ x ∷ post) in subst P (sym w.size) (each-behind (λ i. i < length links) pre s x post ok.within lx));
    free = free;
  },
  rows,
)
  where
    f : ℕ → Option ℕ
    f = next_of links

    g : ℕ → Option ℕ
    g = previous_of links

    f' : ℕ → Option ℕ
    f' = next_of links'

    g' : ℕ → Option ℕ
    g' = previous_of links'

    b : StandsBetween links first last pre s post
    b = between links first last pre s post ok

    kf : Lacks x pre
    kf = each-left_part (λ j. j ≢ x) pre (s ∷ post) k

    kb : Lacks x (s ∷ post)
    kb = each-right_part (λ j. j ≢ x) pre (s ∷ post) k

    ns : f s ≡ Some s → ⊥
    ns e = not_head s post b.not_back (sym b.next ∙ e)

    nx : f s ≡ Some x → ⊥
    nx e = not_head x post kb.1 (sym b.next ∙ e)

    ends : (l : List ℕ) → f s ≡ head_or l None → last ≡ last_or (Some s) l → last' ≡ last_or (Some x) l
    ends [] e d = w.last_none e
    ends (n ∷ l) e d = w.last_some n e ∙ d

    free : (i : ℕ) → Lacks i (pre ++ s ∷ x ∷ post) → IsFree links' i
    free i h =
        let hf : Lacks i pre = each-left_part (λ j. j ≢ i) pre (s ∷ x ∷ post) h in
        let hb : Lacks i (s ∷ x ∷ post) = each-right_part (λ j. j ≢ i) pre (s ∷ x ∷ post) h in
        let old : IsFree links i = ok.free i (lacks pre hf (hb.0, hb.1.1)) in
        record {
          next = w.next i (λ e. hb.0 (sym e)) (λ e. hb.1.0 (sym e)) ∙ old.next;
          previous = w.previous i (λ e. hb.1.0 (sym e)) (λ e. not_head i post hb.1.1 (sym b.next ∙ e)) ∙ old.previous;
          row = w.rows i (λ e. hb.1.0 (sym e)) ∙ old.row;
        }
      where
        lacks : (l : List ℕ) → Lacks i l → Lacks i (s ∷ post) → Lacks i (l ++ s ∷ post)
        lacks [] m n = n
        lacks (a ∷ l) m n = (m.0, lacks l m.1 n)

    rows : map (row_of links') (pre ++ s ∷ x ∷ post) ≡ map (row_of links) pre ++ row_of links s ∷ row ∷ map (row_of links) post
    rows =
        let ef : map (row_of links') pre ≡ map (row_of links) pre = map-same (row_of links) (row_of links') pre (each-one (λ i. i ≢ x) (λ i. row_of links' i ≡ row_of links i) w.rows pre kf) in
        let eb : map (row_of links') post ≡ map (row_of links) post = map-same (row_of links) (row_of links') post (each-one (λ i. i ≢ x) (λ i. row_of links' i ≡ row_of links i) w.rows post kb.1) in
        let es : row_of links' s ≡ row_of links s = w.rows s kb.0 in
        map-parts (row_of links') pre (s ∷ x ∷ post)
        ∙ ap (λ (l : List Marked). l ++ row_of links' s ∷ row_of links' x ∷ map (row_of links') post) ef
        ∙ ap (λ (r : Marked). map (row_of links) pre ++ r ∷ row_of links' x ∷ map (row_of links') post) es
        ∙ ap (λ (r : Marked). map (row_of links) pre ++ row_of links s ∷ r ∷ map (row_of links') post) w.row_slot
        ∙ ap (λ (l : List Marked). map (row_of links) pre ++ row_of links s ∷ row ∷ l) eb

pub appended : (links links' : List Link) (first first' last last' : Option ℕ) (l : List ℕ) (x : ℕ) (row : Marked)
    → IsLinked links first last l → Lacks x l → x < length links → Appends links links' first first' last last' x row
    → IsLinked links' first' last' (l ++ x ∷ []) × (map (row_of links') (l ++ x ∷ []) ≡ map (row_of links) l ++ row ∷ [])
appended links links' first first' last last' l x row ok k lx w = (
  record {
    starts = starts l ok.starts ok.ends;
    ends = w.last_slot ∙ sym (last-append None l (x ∷ []));
    linked = linked-append f' g' None l (x ∷ []) None
        (linked-front f g f' g' None l None (Some x) ok.linked ok.apart
        (each-one (λ i. i ≢ x) (λ i. (last_or None l ≡ Some i → ⊥) → f' i ≡ f i) (λ i d e. w.next i (λ z. e (sym ok.ends ∙ z)) d) l k)
        (λ i e. w.next_last i (ok.ends ∙ e) (λ d. not_last x l k (e ∙ ap Some d)))
        (each-one (λ i. i ≢ x) (λ i. g' i ≡ g i) w.previous l k))
        (w.previous_slot ∙ ok.ends, (w.next_slot (λ e. not_last x l k (sym ok.ends ∙ e)), tt));
    apart = apart l ok.apart k;
    within = (let P : ℕ → Type 0 = λ n. Each (λ i. i < n) (l ++ x ∷ []) in subst P (sym w.size) (push (λ i. i < length links) l ok.within lx));
    free = free;
  },
  rows,
)
  where
    f : ℕ → Option ℕ
    f = next_of links

    g : ℕ → Option ℕ
    g = previous_of links

    f' : ℕ → Option ℕ
    f' = next_of links'

    g' : ℕ → Option ℕ
    g' = previous_of links'

    starts : (m : List ℕ) → first ≡ head_or m None → last ≡ last_or None m → first' ≡ head_or (m ++ x ∷ []) None
    starts [] e d = w.first_none d
    starts (i ∷ m) e d = w.first_some (last_is i m).0 (d ∙ (last_is i m).1) ∙ e

    push : (P : ℕ → Type 0) (m : List ℕ) → Each P m → P x → Each P (m ++ x ∷ [])
    push P [] h q = (q, tt)
    push P (i ∷ m) h q = (h.0, push P m h.1 q)

    apart : (m : List ℕ) → IsApart m → Lacks x m → IsApart (m ++ x ∷ [])
    apart [] h q = (tt, tt)
    apart (i ∷ m) h q = (push (λ j. j ≢ i) m h.0 (λ e. q.0 (sym e)), apart m h.1 q.1)

    free : (i : ℕ) → Lacks i (l ++ x ∷ []) → IsFree links' i
    free i h =
        let hf : Lacks i l = each-left_part (λ j. j ≢ i) l (x ∷ []) h in
        let hb : Lacks i (x ∷ []) = each-right_part (λ j. j ≢ i) l (x ∷ []) h in
        let old : IsFree links i = ok.free i hf in
        record {
          next = w.next i (λ e. not_last i l hf (sym ok.ends ∙ e)) (λ e. hb.0 (sym e)) ∙ old.next;
          previous = w.previous i (λ e. hb.0 (sym e)) ∙ old.previous;
          row = w.rows i (λ e. hb.0 (sym e)) ∙ old.row;
        }

    rows : map (row_of links') (l ++ x ∷ []) ≡ map (row_of links) l ++ row ∷ []
    rows =
        let ef : map (row_of links') l ≡ map (row_of links) l = map-same (row_of links) (row_of links') l (each-one (λ i. i ≢ x) (λ i. row_of links' i ≡ row_of links i) w.rows l k) in
        map-parts (row_of links') l (x ∷ [])
        ∙ ap (λ (m : List Marked). m ++ row_of links' x ∷ []) ef
        ∙ ap (λ (r : Marked). map (row_of links) l ++ r ∷ []) w.row_slot
