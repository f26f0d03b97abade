-- What a further slot, and one that leaves, keep of the marked list's order.
use Rattle.std.proofs.Common.{◌≡◌, ◌≢◌, Bool, true, false, ◌||◌, List, [], ◌∷◌, ◌++◌, Option, Some, None, refl, sym, ◌∙◌}
use Rattle.std.specs.List.{AllByRecursion as Each}
use Rattle.cap_core.specs.declared.profile.ProfileName.{ProfileName}
use Rattle.cap_core.specs.Objects.{badge_of, same_object, in_region}
use Rattle.kernel_forest.specs.Marked.{Marked, with_mark, IsFront, IsGathered, Follows, IsLed, IsNamedFirst, HasMarks}
use Rattle.kernel_forest.proofs.Disjoint.InRegion.{NamesOne, same-through}

-- a further element

pub each-put : (P : Marked → Type 0) (pre : List Marked) (x : Marked) (post : List Marked) → Each P (pre ++ post) → P x → Each P (pre ++ x ∷ post)
each-put P [] x post h k = (k, h)
each-put P (a ∷ pre) x post h k = (h.0, each-put P pre x post h.1 k)

pub each-gone : (P : Marked → Type 0) (pre : List Marked) (s : Marked) (post : List Marked) → Each P (pre ++ s ∷ post) → Each P (pre ++ post)
each-gone P [] s post h = h.1
each-gone P (a ∷ pre) s post h = (h.0, each-gone P pre s post h.1)

pub each-back : (P : Marked → Type 0) (pre post : List Marked) → Each P (pre ++ post) → Each P post
each-back P [] post h = h
each-back P (a ∷ pre) post h = each-back P pre post h.1

-- gathered, with x directly behind s: whatever has s in its region has x, and the other way round

abbrev pub Outside : ProfileName → Marked → List Marked → Type 0
Outside p a l = Each (λ (c : Marked). in_region p a.cap c.cap ≡ false) l

pub each-behind : (P : Marked → Type 0) (pre : List Marked) (s x : Marked) (post : List Marked) → (P s → P x) → Each P (pre ++ s ∷ post) → Each P (pre ++ s ∷ x ∷ post)
each-behind P [] s x post i h = (h.0, (i h.0, h.1))
each-behind P (a ∷ pre) s x post i h = (h.0, each-behind P pre s x post i h.1)

pub front-behind : (p : ProfileName) (a : Marked) (pre : List Marked) (s x : Marked) (post : List Marked)
    → (in_region p a.cap s.cap ≡ false → in_region p a.cap x.cap ≡ false) → (in_region p a.cap x.cap ≡ false → Outside p a post)
    → IsFront p a (pre ++ s ∷ post) → IsFront p a (pre ++ s ∷ x ∷ post)
front-behind p a [] s x post i k f = ((λ e. (i e, f.0 e)), (k, f.1))
front-behind p a (b ∷ pre) s x post i k f = ((λ e. each-behind (λ (c : Marked). in_region p a.cap c.cap ≡ false) pre s x post i (f.0 e)), front-behind p a pre s x post i k f.1)

-- what IsFront says at a place in the list
pub front-at : (p : ProfileName) (a : Marked) (pre : List Marked) (s : Marked) (post : List Marked) → IsFront p a (pre ++ s ∷ post) → in_region p a.cap s.cap ≡ false → Outside p a post
front-at p a [] s post f = f.0
front-at p a (b ∷ pre) s post f = front-at p a pre s post f.1

pub gathered-back : (p : ProfileName) (pre post : List Marked) → IsGathered p (pre ++ post) → IsGathered p post
gathered-back p [] post h = h
gathered-back p (a ∷ pre) post h = gathered-back p pre post h.1

-- for a further name of s
pub gathered-derive : (p : ProfileName) (pre : List Marked) (s x : Marked) (post : List Marked) → NamesOne p s.cap x.cap → in_region p s.cap s.cap ≡ true
    → IsGathered p (pre ++ s ∷ post) → IsGathered p (pre ++ s ∷ x ∷ post)
gathered-derive p [] s x post n self h = (((λ e. absurd (let t : in_region p s.cap x.cap ≡ true = sym (n.of s.cap) ∙ self in cc)), h.0), (same post h.0, h.1))
  where
    each : (l : List Marked) → Outside p s l → Outside p x l
    each [] k = tt
    each (c ∷ l) k = (sym (n.by c.cap) ∙ k.0, each l k.1)

    same : (l : List Marked) → IsFront p s l → IsFront p x l
    same [] f = tt
    same (b ∷ l) f = ((λ e. each l (f.0 (n.by b.cap ∙ e))), same l f.1)
gathered-derive p (a ∷ pre) s x post n self h =
    (front-behind p a pre s x post (λ e. sym (n.of a.cap) ∙ e) (λ e. front-at p a pre s post h.0 (n.of a.cap ∙ e)) h.0, gathered-derive p pre s x post n self h.1)

-- behind all, in nobody's region
pub gathered-push : (p : ProfileName) (l : List Marked) (x : Marked) → Each (λ (a : Marked). in_region p a.cap x.cap ≡ false) l → IsGathered p l → IsGathered p (l ++ x ∷ [])
gathered-push p [] x n h = (tt, tt)
gathered-push p (a ∷ l) x n h = (front l h.0, gathered-push p l x n.1 h.1)
  where
    each : (m : List Marked) → Outside p a m → Outside p a (m ++ x ∷ [])
    each [] k = (n.0, tt)
    each (c ∷ m) k = (k.0, each m k.1)

    front : (m : List Marked) → IsFront p a m → IsFront p a (m ++ x ∷ [])
    front [] f = ((λ e. tt), tt)
    front (b ∷ m) f = ((λ e. each m (f.0 e)), front m f.1)

-- without s, and with a mark more on what follows it

pub front-gone : (p : ProfileName) (a : Marked) (pre : List Marked) (s : Marked) (post : List Marked) → IsFront p a (pre ++ s ∷ post) → IsFront p a (pre ++ post)
front-gone p a [] s post f = f.1
front-gone p a (b ∷ pre) s post f = ((λ e. each-gone (λ (c : Marked). in_region p a.cap c.cap ≡ false) pre s post (f.0 e)), front-gone p a pre s post f.1)

pub gathered-gone : (p : ProfileName) (pre : List Marked) (s : Marked) (post : List Marked) → IsGathered p (pre ++ s ∷ post) → IsGathered p (pre ++ post)
gathered-gone p [] s post h = h.1
gathered-gone p (a ∷ pre) s post h = (front-gone p a pre s post h.0, gathered-gone p pre s post h.1)

pub each-marked : (P : Marked → Type 0) (mark : Bool) (pre : List Marked) (h : Marked) (q : List Marked) → (P h → P (with_mark mark h)) → Each P (pre ++ h ∷ q) → Each P (pre ++ with_mark mark h ∷ q)
each-marked P mark [] h q i k = (i k.0, k.1)
each-marked P mark (a ∷ pre) h q i k = (k.0, each-marked P mark pre h q i k.1)

pub gathered-marked : (p : ProfileName) (mark : Bool) (pre : List Marked) (h : Marked) (q : List Marked) → IsGathered p (pre ++ h ∷ q) → IsGathered p (pre ++ with_mark mark h ∷ q)
gathered-marked p mark [] h q k = (front q k.0, k.1)
  where
    each : (l : List Marked) → Outside p h l → Outside p (with_mark mark h) l
    each [] n = tt
    each (c ∷ l) n = (n.0, each l n.1)

    front : (l : List Marked) → IsFront p h l → IsFront p (with_mark mark h) l
    front [] f = tt
    front (b ∷ l) f = ((λ e. each l (f.0 e)), front l f.1)
gathered-marked p mark (a ∷ pre) h q k = (front pre k.0, gathered-marked p mark pre h q k.1)
  where
    front : (l : List Marked) → IsFront p a (l ++ h ∷ q) → IsFront p a (l ++ with_mark mark h ∷ q)
    front [] f = (f.0, f.1)
    front (b ∷ l) f = ((λ e. each-marked (λ (c : Marked). in_region p a.cap c.cap ≡ false) mark l h q (λ n. n) (f.0 e)), front l f.1)

-- led

pub led-back : (before : Option Marked) (pre : List Marked) (s : Marked) (post : List Marked) → IsLed before (pre ++ s ∷ post) → IsLed (Some s) post
led-back before [] s post h = h.1
led-back before (a ∷ pre) s post h = led-back (Some a) pre s post h.1

-- x directly behind s, where it has no badge, or the mark, or the object and badge of s, and what followed s follows x
pub led-put : (before : Option Marked) (pre : List Marked) (s x : Marked) (post : List Marked) → (badge_of x.cap ≢ 0 → x.first_badged ≡ false → Follows (Some s) x)
    → IsLed (Some x) post → IsLed before (pre ++ s ∷ post) → IsLed before (pre ++ s ∷ x ∷ post)
led-put before [] s x post f k h = (h.0, (f, k))
led-put before (a ∷ pre) s x post f k h = (h.0, led-put (Some a) pre s x post f k h.1)

pub led-push : (before : Option Marked) (l : List Marked) (x : Marked) → x.first_badged ≡ true → IsLed before l → IsLed before (l ++ x ∷ [])
led-push before [] x e h = ((λ z f. absurd (let n : true ≡ false = sym e ∙ f in cc)), tt)
led-push before (a ∷ l) x e h = (h.0, led-push (Some a) l x e h.1)

-- the next slot follows what s followed, or has the mark
pub led-gone : (before : Option Marked) (pre : List Marked) (s h : Marked) (q : List Marked) → IsLed before (pre ++ s ∷ h ∷ q) → IsLed before (pre ++ with_mark s.first_badged h ∷ q)
led-gone before [] s h q k = ((λ z f. follow z (or_parts h.first_badged s.first_badged f)), again q k.1.1)
  where
    or_parts : (x y : Bool) → (x || y) ≡ false → (x ≡ false) × (y ≡ false)
    or_parts true y i = cc
    or_parts false y i = (refl, i)

    chain : (o : Option Marked) → Follows o s → Follows (Some s) h → Follows o (with_mark s.first_badged h)
    chain None f g = absurd f
    chain (Some a) f g = (through a f.0 g.0, f.1 ∙ g.1)
      where
        through : (a : Marked) → same_object a.cap s.cap ≡ true → same_object s.cap h.cap ≡ true → same_object a.cap h.cap ≡ true
        through a e d = same-through a.cap s.cap h.cap e d

    follow : badge_of h.cap ≢ 0 → (h.first_badged ≡ false) × (s.first_badged ≡ false) → Follows before (with_mark s.first_badged h)
    follow z f =
        let g : Follows (Some s) h = k.1.0 z f.0 in
        chain before (k.0 (λ y. z (sym g.1 ∙ y)) f.1) g

    again : (l : List Marked) → IsLed (Some h) l → IsLed (Some (with_mark s.first_badged h)) l
    again [] n = tt
    again (b ∷ l) n = (n.0, n.1)
led-gone before (a ∷ pre) s h q k = (k.0, led-gone (Some a) pre s h q k.1)

pub led-cut : (before : Option Marked) (pre : List Marked) (s : Marked) → IsLed before (pre ++ s ∷ []) → IsLed before (pre ++ [])
led-cut before [] s h = tt
led-cut before (a ∷ pre) s h = (h.0, led-cut (Some a) pre s h.1)

-- the first of its object

pub first-put : (pre : List Marked) (x : Marked) (post : List Marked)
    → Each (λ (a : Marked). same_object a.cap x.cap ≡ true → x.revocable ≡ true → badge_of x.cap ≢ 0) pre
    → Each (λ (b : Marked). same_object x.cap b.cap ≡ true → b.revocable ≡ true → badge_of b.cap ≢ 0) post → IsNamedFirst (pre ++ post) → IsNamedFirst (pre ++ x ∷ post)
first-put [] x post h k n = (k, n)
first-put (a ∷ pre) x post h k n =
    (each-put (λ (b : Marked). same_object a.cap b.cap ≡ true → b.revocable ≡ true → badge_of b.cap ≢ 0) pre x post n.0 h.0, first-put pre x post h.1 k n.1)

pub first-gone : (pre : List Marked) (s : Marked) (post : List Marked) → IsNamedFirst (pre ++ s ∷ post) → IsNamedFirst (pre ++ post)
first-gone [] s post n = n.1
first-gone (a ∷ pre) s post n = (each-gone (λ (b : Marked). same_object a.cap b.cap ≡ true → b.revocable ≡ true → badge_of b.cap ≢ 0) pre s post n.0, first-gone pre s post n.1)

pub first-marked : (mark : Bool) (pre : List Marked) (h : Marked) (q : List Marked) → IsNamedFirst (pre ++ h ∷ q) → IsNamedFirst (pre ++ with_mark mark h ∷ q)
first-marked mark [] h q n = (each q n.0, n.1)
  where
    each : (l : List Marked) → Each (λ (b : Marked). same_object h.cap b.cap ≡ true → b.revocable ≡ true → badge_of b.cap ≢ 0) l
        → Each (λ (b : Marked). same_object (with_mark mark h).cap b.cap ≡ true → b.revocable ≡ true → badge_of b.cap ≢ 0) l
    each [] k = tt
    each (c ∷ l) k = (k.0, each l k.1)
first-marked mark (a ∷ pre) h q n =
    (each-marked (λ (b : Marked). same_object a.cap b.cap ≡ true → b.revocable ≡ true → badge_of b.cap ≢ 0) mark pre h q (λ k. k) n.0, first-marked mark pre h q n.1)

pub marks-marked : (mark : Bool) (h : Marked) → HasMarks h → HasMarks (with_mark mark h)
marks-marked mark h k = record { untyped = k.untyped; badged = λ z r. step h.first_badged (k.badged z r) }
  where
    step : (b : Bool) → b ≡ true → (b || mark) ≡ true
    step true e = refl
    step false e = cc
