-- Slots of the marked list under another place, or with another capability of the same object: the same forest, relabelled.
use Rattle.std.proofs.Common.{◌≡◌, ◌≢◌, true, false, List, [], ◌∷◌, map, Option, Some, None, refl, sym, ◌∙◌, ap}
use Rattle.std.specs.List.{AllByRecursion as Each}
use Rattle.cap_core.specs.declared.profile.ProfileName.{ProfileName}
use Rattle.cap_core.specs.declared.capability.Cap.{Cap}
use Rattle.cap_core.specs.Objects.{badge_of, same_object, in_region}
use Rattle.kernel_forest.specs.Forest.{Forest, none, tree, renamed, build}
use Rattle.kernel_forest.specs.Entries.{Entry}
use Rattle.kernel_forest.specs.Marked.{Marked, is_parent, entry_of, forest_of, IsFront, IsGathered, Follows, IsLed, IsNamedFirst, HasMarks}
use Rattle.kernel_forest.proofs.Trees.BuiltRenamed.{AgreeUnder, build-renamed}
use Rattle.kernel_forest.proofs.Disjoint.Disjointness.{same_object-swap}
use Rattle.kernel_forest.proofs.Disjoint.InRegion.{NamesOne}

pub names-self : (p : ProfileName) (a : Cap) → NamesOne p a a
names-self p a = record { null = refl; untyped = refl; of = λ c. refl; by = λ c. refl; same = λ c. refl }

-- all that the test looks at is the same
pub record IsSameRow (p : ProfileName) (a b : Marked) : Type 0 where
  pub names : NamesOne p a.cap b.cap
  pub badge : badge_of b.cap ≡ badge_of a.cap
  pub revocable : b.revocable ≡ a.revocable
  pub first : b.first_badged ≡ a.first_badged

pub row-self : (p : ProfileName) (a : Marked) → IsSameRow p a a
row-self p a = record { names = names-self p a.cap; badge = refl; revocable = refl; first = refl }

pub same_region : (p : ProfileName) (a a' b b' : Marked) → IsSameRow p a a' → IsSameRow p b b' → in_region p a'.cap b'.cap ≡ in_region p a.cap b.cap
same_region p a a' b b' h k = sym (h.names.by b'.cap) ∙ sym (k.names.of a.cap)

pub same_parent : (p : ProfileName) (a a' b b' : Marked) → IsSameRow p a a' → IsSameRow p b b' → is_parent p a' b' ≡ is_parent p a b
same_parent p a a' b b' h k = rw (h.revocable, same_region p a a' b b' h k, h.badge, k.badge, k.first)

pub same_object_rows : (p : ProfileName) (a a' b b' : Marked) → IsSameRow p a a' → IsSameRow p b b' → same_object a'.cap b'.cap ≡ same_object a.cap b.cap
same_object_rows p a a' b b' h k = sym (h.names.same b'.cap) ∙ same_object-swap a.cap b'.cap ∙ sym (k.names.same a.cap) ∙ same_object-swap b.cap a.cap

pub agree_under : (p : ProfileName) (g : Marked → Marked) (l : List Marked) → Each (λ (a : Marked). IsSameRow p a (g a)) l → AgreeUnder g (is_parent p) (is_parent p) l
agree_under p g [] h = tt
agree_under p g (a ∷ l) h = (each l h.1, agree_under p g l h.1)
  where
    each : (m : List Marked) → Each (λ (b : Marked). IsSameRow p b (g b)) m → Each (λ (b : Marked). is_parent p (g a) (g b) ≡ is_parent p a b) m
    each [] n = tt
    each (b ∷ m) n = (same_parent p a (g a) b (g b) h.0 n.0, each m n.1)

pub renamed-both : {A B C D : Type 0} (v : A → B) (g : B → D) (u : A → C) (w : C → D) → ((a : A) → w (u a) ≡ g (v a)) → (f : Forest A) → renamed w (renamed u f) ≡ renamed g (renamed v f)
renamed-both v g u w e none = refl
renamed-both v g u w e (tree a k r) = rw (e a, renamed-both v g u w e k, renamed-both v g u w e r)

-- the forest, relabelled
pub forest_renamed : (p : ProfileName) (g : Marked → Marked) (h : Entry → Entry) (l : List Marked) → ((a : Marked) → entry_of p (g a) ≡ h (entry_of p a))
    → Each (λ (a : Marked). IsSameRow p a (g a)) l → forest_of p (map g l) ≡ renamed h (forest_of p l)
forest_renamed p g h l e s =
    ap (renamed (entry_of p)) (build-renamed g (is_parent p) (is_parent p) l (agree_under p g l s))
    ∙ renamed-both (entry_of p) h g (entry_of p) e (build (is_parent p) l)

-- and what the list keeps is kept

pub gathered-renamed : (p : ProfileName) (g : Marked → Marked) (l : List Marked) → Each (λ (a : Marked). IsSameRow p a (g a)) l → IsGathered p l → IsGathered p (map g l)
gathered-renamed p g [] s h = tt
gathered-renamed p g (a ∷ l) s h = (front l s.1 h.0, gathered-renamed p g l s.1 h.1)
  where
    each : (m : List Marked) → Each (λ (b : Marked). IsSameRow p b (g b)) m → Each (λ (c : Marked). in_region p a.cap c.cap ≡ false) m
        → Each (λ (c : Marked). in_region p (g a).cap c.cap ≡ false) (map g m)
    each [] n k = tt
    each (b ∷ m) n k = (same_region p a (g a) b (g b) s.0 n.0 ∙ k.0, each m n.1 k.1)

    front : (m : List Marked) → Each (λ (b : Marked). IsSameRow p b (g b)) m → IsFront p a m → IsFront p (g a) (map g m)
    front [] n k = tt
    front (b ∷ m) n k = ((λ e. each m n.1 (k.0 (sym (same_region p a (g a) b (g b) s.0 n.0) ∙ e))), front m n.1 k.1)

abbrev pub under : (Marked → Marked) → Option Marked → Option Marked
under g None = None
under g (Some a) = Some (g a)

pub led-renamed : (p : ProfileName) (g : Marked → Marked) (before before' : Option Marked) (l : List Marked)
    → ((b b' : Marked) → IsSameRow p b b' → Follows before b → Follows before' b') → Each (λ (a : Marked). IsSameRow p a (g a)) l → IsLed before l → IsLed before' (map g l)
led-renamed p g before before' [] i s h = tt
led-renamed p g before before' (b ∷ l) i s h =
    ((λ z e. i b (g b) s.0 (h.0 (λ y. z (s.0.badge ∙ y)) (sym s.0.first ∙ e))), led-renamed p g (Some b) (Some (g b)) l follow s.1 h.1)
  where
    follow : (c c' : Marked) → IsSameRow p c c' → Follows (Some b) c → Follows (Some (g b)) c'
    follow c c' k f = (same_object_rows p b (g b) c c' s.0 k ∙ f.0, s.0.badge ∙ f.1 ∙ sym k.badge)

pub first-renamed : (p : ProfileName) (g : Marked → Marked) (l : List Marked) → Each (λ (a : Marked). IsSameRow p a (g a)) l → IsNamedFirst l → IsNamedFirst (map g l)
first-renamed p g [] s h = tt
first-renamed p g (a ∷ l) s h = (each l s.1 h.0, first-renamed p g l s.1 h.1)
  where
    each : (m : List Marked) → Each (λ (b : Marked). IsSameRow p b (g b)) m
        → Each (λ (b : Marked). same_object a.cap b.cap ≡ true → b.revocable ≡ true → badge_of b.cap ≢ 0) m
        → Each (λ (b : Marked). same_object (g a).cap b.cap ≡ true → b.revocable ≡ true → badge_of b.cap ≢ 0) (map g m)
    each [] n k = tt
    each (b ∷ m) n k = ((λ e r z. k.0 (sym (same_object_rows p a (g a) b (g b) s.0 n.0) ∙ e) (sym n.0.revocable ∙ r) (sym n.0.badge ∙ z)), each m n.1 k.1)

pub marks-renamed : (p : ProfileName) (g : Marked → Marked) (l : List Marked) → Each (λ (a : Marked). IsSameRow p a (g a)) l → Each HasMarks l → Each HasMarks (map g l)
marks-renamed p g [] s h = tt
marks-renamed p g (a ∷ l) s h = (
  record {
    untyped = λ e. s.0.revocable ∙ h.0.untyped (s.0.names.untyped ∙ e);
    badged = λ z r. s.0.first ∙ h.0.badged (λ y. z (s.0.badge ∙ y)) (sym s.0.revocable ∙ r);
  },
  marks-renamed p g l s.1 h.1,
)
