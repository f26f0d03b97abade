-- Callers that name and fill the same sets get the same verdict, and what is known of each caller tells whether that of a set is settled.
use Rattle.std.proofs.Common.{◌≡◌, ℕ, ◌<◌, Bool, true, false, cond, not, ◌==◌, ◌&&◌, ◌||◌, nat_eq, nat_lt, List, length, map, take, get_or, find, Option, Some, None, option_map, unwrap_or, refl, sym, ap, subst, ◌∙◌, arith}
use Rattle.std.proofs.Math.Path.{fun_ext}
use Rattle.std.specs.List.{list_all, slice_get, position, position_or_len}
use Rattle.std.specs.Cmp.Lexicographic.{pointwise}
use Rattle.std.proofs.lemmas.Bool.{ltb-false}
use Rattle.std.proofs.lemmas.List.{length-map, length-take, get_or-map, get_or-take}
use Rattle.std.proofs.lemmas.List.Folds.{find_at}
use Rattle.std.proofs.lemmas.List.Quantifiers.{position-Some}
use Rattle.std.proofs.lemmas.Option.{slice_get-map, slice_get_past}
use Rattle.std.proofs.lemmas.Slice.Eq.{bytes_eq-Decides}
use Rattle.cap_core.specs.declared.profile.ProfileName.{ProfileName}
use Rattle.kernel_delete.proofs.Members.{both_true}
use Rattle.query_parts.specs.declared.listed.PartMemory.{PartMemory}
use Rattle.query_parts.specs.Listed.{last_in}
use Rattle.query_flow.specs.declared.listed.Standing.{Standing}
use Rattle.query_flow.specs.declared.listed.Standing.TheVariants as standing
use Rattle.query_flow.specs.declared.listed.MayStand.{MayStand}
use Rattle.query_flow.specs.declared.listed.Caller.{Caller}
use Rattle.query_flow.specs.declared.listed.Verdict.{Verdict}
use Rattle.query_flow.specs.Listed.{is_among, set_at, lie_where, lead_to, opened, all_have, has_over, may_have_slots, made_of, makes_what_may_stand, threads_get, is_caller_settled, is_set_settled, caller_of, are_threads_settled, is_settled}
use Rattle.query_flow.specs.Private as private

module _ (p : ProfileName) (memory : List PartMemory) (all : List MayStand) where
  abbrev stand_by : List ℕ → ℕ → Bool
  stand_by nodes set =
      list_all (λ (s : MayStand). not (is_among nodes s.set && may_have_slots s.what) || has_over all set (opened s.what)) all

  threads_same : (one other : Caller) → one.nodes.items ≡ other.nodes.items → (what : Standing) → threads_get memory all one what ≡ threads_get memory all other what
  threads_same one other e (standing.Thread base) = ap (λ (nodes : List ℕ). stand_by nodes (set_at memory base)) e
  threads_same one other e (standing.Region base bits) = ap (λ (nodes : List ℕ). lie_where (stand_by nodes) memory base (last_in base bits)) e
  threads_same one other e (standing.Untyped base bits) = refl
  threads_same one other e (standing.Endpoint base badge rights) = refl
  threads_same one other e (standing.Node base radix takes) = refl

  -- a verdict, by the lists that it looks at
  abbrev by_lists : List ℕ → List ℕ → List ℕ → (Standing → Bool) → Verdict
  by_lists names nodes fills get = record {
    goes_on = lead_to p memory all names names && lead_to p memory all names nodes;
    puts_told =
        lead_to p memory all nodes fills
        && (lead_to p memory all fills fills
        && (list_all (λ (s : MayStand). not (is_among fills s.set) || all_have all fills (opened s.what)) all
        && (list_all (λ (s : MayStand). not (is_among names s.set) || makes_what_may_stand all fills (made_of s.what)) all
        && list_all (λ (s : MayStand). not (is_among names s.set) || get s.what) all)));
  }

  alike_same : (one other : Caller) → private.is_alike one other ≡ true → private.verdict_on p memory all other ≡ private.verdict_on p memory all one
  alike_same one other h =
      let first = both_true (pointwise nat_eq one.names.items other.names.items) _ h in
      let more = both_true (pointwise nat_eq one.nodes.items other.nodes.items) _ first.1 in
      let names : one.names.items ≡ other.names.items = (bytes_eq-Decides one.names.items other.names.items).0 first.0 in
      let nodes : one.nodes.items ≡ other.nodes.items = (bytes_eq-Decides one.nodes.items other.nodes.items).0 more.0 in
      let fills : one.fills.items ≡ other.fills.items = (bytes_eq-Decides one.fills.items other.fills.items).0 more.1 in
      ap (λ (l : List ℕ). by_lists l other.nodes.items other.fills.items (threads_get memory all other)) (sym names)
      ∙ ap (λ (l : List ℕ). by_lists one.names.items l other.fills.items (threads_get memory all other)) (sym nodes)
      ∙ ap (λ (l : List ℕ). by_lists one.names.items one.nodes.items l (threads_get memory all other)) (sym fills)
      ∙ ap (by_lists one.names.items one.nodes.items one.fills.items) (fun_ext (threads_same other one (sym nodes)))

  -- what is known of the first caller that is alike
  pub known_alike : (one : Caller) (callers : List Caller) (n : ℕ) (known : List Verdict) (place : ℕ) (verdict : Verdict) →
      known ≡ map (private.verdict_on p memory all) (take n callers) → position (private.is_alike one) callers ≡ Some place →
      place < length known → verdict ≡ get_or known place verdict → verdict ≡ private.verdict_on p memory all one
  known_alike one callers n known place verdict e found inside is =
      let tells = private.verdict_on p memory all in
      let there = position-Some (private.is_alike one) callers place one found in
      let lt : place < length (map tells (take n callers)) = subst (λ (l : List Verdict). place < length l) e inside in
      let within : place < length (take n callers) = omega (arith, length-map (take n callers) tells) in
      let below : place < n = omega (arith, length-take n callers) in
      is
      ∙ ap (λ (l : List Verdict). get_or l place verdict) e
      ∙ get_or-map tells (take n callers) place one verdict within
      ∙ ap tells (get_or-take n callers place one below)
      ∙ alike_same one (get_or callers place one) there.1

  -- ---- what is known of each caller

  settled_of : (o : Option Caller) → unwrap_or (option_map (is_caller_settled p memory all) o) false ≡ is_set_settled p memory all o
  settled_of None = refl
  settled_of (Some k) = refl

  by_place : (test : Caller → Bool) (callers : List Caller) (b : Bool) → nat_lt (position_or_len test callers) (length callers) ≡ b →
      private.known_at (map (is_caller_settled p memory all) callers) (cond b (Some (position_or_len test callers)) None) ≡ is_set_settled p memory all (find test callers)
  by_place test callers true h =
      ap (λ (o : Option Bool). unwrap_or o false) (slice_get-map (is_caller_settled p memory all) callers (position_or_len test callers))
      ∙ settled_of (slice_get callers (position_or_len test callers))
      ∙ ap (is_set_settled p memory all) (sym (find_at test callers))
  by_place test callers false h =
      ap (is_set_settled p memory all) (sym (find_at test callers ∙ slice_get_past callers (position_or_len test callers) (ltb-false (position_or_len test callers) (length callers) h)))

  module _ (callers : List Caller) (settled : List Bool) (e : settled ≡ map (is_caller_settled p memory all) callers) where
    known_set : (set : ℕ) → private.is_known_settled callers settled set ≡ is_set_settled p memory all (caller_of callers set)
    known_set set =
        let test = λ (k : Caller). k.set == set in
        ap (λ (l : List Bool). private.known_at l (position test callers)) e
        ∙ by_place test callers (nat_lt (position_or_len test callers) (length callers)) refl

    known_threads : (trusted : List ℕ) (what : Standing) → private.are_threads_settled memory callers settled trusted what ≡ are_threads_settled p memory all callers trusted what
    known_threads trusted (standing.Thread base) = ap (λ (b : Bool). is_among trusted base || b) (known_set (set_at memory base))
    known_threads trusted (standing.Region base bits) = ap (λ (test : ℕ → Bool). lie_where test memory base (last_in base bits)) (fun_ext known_set)
    known_threads trusted (standing.Untyped base bits) = refl
    known_threads trusted (standing.Endpoint base badge rights) = refl
    known_threads trusted (standing.Node base radix takes) = refl

    pub known_all : (trusted : List ℕ) → list_all (λ (s : MayStand). private.are_threads_settled memory callers settled trusted s.what) all ≡ is_settled p memory all callers trusted
    known_all trusted = ap (λ (test : MayStand → Bool). list_all test all) (fun_ext (λ (s : MayStand). known_threads trusted s.what))
