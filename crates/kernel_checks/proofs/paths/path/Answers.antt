-- The proof of `path`: the goals that a search leaves open.
use Rattle.std.proofs.Common.{rules, ◌≡◌, ◌==◌, ◌&&◌, not, true, false, ◌++◌, ◌∷◌, [], List, sym, ap, subst, ◌∙◌, IfOk}
use Rattle.kernel_forest.specs.Entries.{cap_at}
use Rattle.slot_core.specs.Places.{address_of}
use Rattle.cspace_core.specs.Bits.{low_bits}
use Rattle.cspace_core.specs.Resolution.{is_cnode}
use Rattle.cspace_core.proofs.Nodes.{lawful_in_words}
use Rattle.kernel_abstract.specs.declared.reason.Held.{Held}
use Rattle.kernel_abstract.specs.Reasons.{held_at}
use Rattle.kernel_checks.proofs.Ways.{path_begins, path_refused, path_ended, path_further}
use Rattle.kernel_checks.proofs.paths.path.Goals as goal

pub choose-requires-clause-lawful : goal.choose-requires-clause-lawful
choose-requires-clause-lawful g c =
    lawful_in_words g.P.Profile.profile _ c.held-here.result.cap c.held-here.ensures.lawful

pub loop-path-init : goal.loop-path-init
loop-path-init g c =
    record {
      within = c.requires.bits;
      value = rw c.new-path.ensures.items (path_begins g.P.Profile.profile (cap_at (g.S.CapStore.forest c.args.store.now)) (address_of g.P.Profile.profile c.args.root) c.args.bits c.args.address);
    }

pub returns-in_default : goal.returns-in_default
returns-in_default g c =
    let here : c.push.new.self.items ≡ c.loop-path.path.items ++ held_at (cap_at (g.S.CapStore.forest c.args.store.now)) (address_of g.P.Profile.profile c.loop-path.at) ∷ [] =
    c.in_ok-push.ensures.items ∙ ap (λ (h : Held). c.loop-path.path.items ++ h ∷ []) c.held-here.ensures.value in
    here ∙ path_refused g.P.Profile.profile (cap_at (g.S.CapStore.forest c.args.store.now)) c.loop-path.left c.loop-path.invariant.value.0 (address_of g.P.Profile.profile c.loop-path.at) (low_bits c.loop-path.left c.args.address) c.args.address
    c.choose.result c.loop-path.path.items _ c.loop-path.invariant.value.1.0 c.loop-path.invariant.value.1.1 (rw c.held-here.ensures.value at c.choose.ensures.is) c.in_default.not-Ok

pub returns-then-not-goes_on : goal.returns-then-not-goes_on
returns-then-not-goes_on g c =
    let here : c.push.new.self.items ≡ c.loop-path.path.items ++ held_at (cap_at (g.S.CapStore.forest c.args.store.now)) (address_of g.P.Profile.profile c.loop-path.at) ∷ [] =
    c.in_ok-push.ensures.items ∙ ap (λ (h : Held). c.loop-path.path.items ++ h ∷ []) c.held-here.ensures.value in
    let ends : is_cnode c.held-last.result.cap && not (c.in-Ok.rest == 0) ≡ false = sym c.goes_on.ensures ∙ c.if-not-goes_on.true in
    subst (λ (items : List Held). IfOk c.with_last.result (λ longer. longer.items ≡ items))
    (ap (λ (h : Held). c.push.new.self.items ++ h ∷ []) c.held-last.ensures.value
    ∙ ap (λ (items : List Held). items ++ held_at (cap_at (g.S.CapStore.forest c.args.store.now)) (address_of g.P.Profile.profile c.in-Ok.slot) ∷ []) here
    ∙ path_ended g.P.Profile.profile (cap_at (g.S.CapStore.forest c.args.store.now)) c.loop-path.left c.loop-path.invariant.value.0 (address_of g.P.Profile.profile c.loop-path.at) (low_bits c.loop-path.left c.args.address)
    (address_of g.P.Profile.profile c.in-Ok.slot) c.in-Ok.rest c.args.address c.loop-path.path.items _ c.loop-path.invariant.value.1.0 c.loop-path.invariant.value.1.1
    (rw c.held-here.ensures.value at c.in-Ok.ensures.is) (rw c.held-last.ensures.value at ends))
    c.with_last.ensures

pub loop-path-preserved : goal.loop-path-preserved
loop-path-preserved g c =
    let here : c.push.new.self.items ≡ c.loop-path.path.items ++ held_at (cap_at (g.S.CapStore.forest c.args.store.now)) (address_of g.P.Profile.profile c.loop-path.at) ∷ [] =
    c.in_ok-push.ensures.items ∙ ap (λ (h : Held). c.loop-path.path.items ++ h ∷ []) c.held-here.ensures.value in
    let goes : is_cnode c.held-last.result.cap && not (c.in-Ok.rest == 0) ≡ true = sym c.goes_on.ensures ∙ c.if-not-goes_on.false in
    record {
      within = search rules;
      value = rw here (path_further g.P.Profile.profile (cap_at (g.S.CapStore.forest c.args.store.now)) c.loop-path.left c.loop-path.invariant.value.0 (address_of g.P.Profile.profile c.loop-path.at) (low_bits c.loop-path.left c.args.address)
          (address_of g.P.Profile.profile c.in-Ok.slot) c.in-Ok.rest c.args.address c.loop-path.path.items _ c.loop-path.invariant.value.1.0 c.loop-path.invariant.value.1.1
          (rw c.held-here.ensures.value at c.in-Ok.ensures.is) c.in-Ok.ensures.less (rw c.held-last.ensures.value at goes));
    }
