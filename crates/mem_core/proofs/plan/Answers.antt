use Rattle.std.proofs.Common.{rules, arith, ◌≡◌, ◌<◌, ◌≤◌, sym, ap, ◌∙◌}
use Rattle.std.proofs.lemmas.Nat.{one_shl}
use Rattle.mem_core.specs.Plans.{IsRegion, start_of, room_of}
use Rattle.mem_core.proofs.Places.{placed-is}
use Rattle.mem_core.proofs.Apart.{lie-apart}
use Rattle.mem_core.proofs.Placing.{placed_from-room}
use Rattle.mem_core.proofs.Lawful.{shape_bits-most}
use Rattle.mem_core.proofs.Computed.{no_region, few_bits, few_region_bits, start_within, no_room, no_plan, size_some, end_fits, first_fits, address_fits, all_fit, free_fits}
use Rattle.mem_core.proofs.plan.Goals as goal
use Rattle.mem_core.proofs.plan.Goals.{then-has_children, else-has_children}

pub returns-clause-plan : goal.returns-clause-plan
returns-clause-plan c =
    let region : IsRegion c.in-Untyped.base c.in-Untyped.bits c.in-Untyped.free = rw c.in-Untyped.is at c.requires.untyped in
    let size = one_shl c.args.shape.bits 64 (omega (arith, shape_bits-most c.args.shape c.requires.shape)) in
    let whole = one_shl c.in-Untyped.bits 64 (omega (arith, region.most)) in
    let start : start_of c.args.has_children c.in-Untyped.free ≡ c.if-has_children.start =
    elim c.if-has_children.branch [ then-has_children w ↦ search rules | else-has_children w ↦ search rules ] in
    let room : c.args.count ≤ room_of c.in-Untyped.bits c.if-has_children.start c.args.shape.bits = rw whole at c.if-room-count.false in
    rw (c.in-Untyped.is, size, start)
    (room, placed-is c.in-Untyped.base c.in-Untyped.bits c.args.shape.bits c.if-has_children.start c.args.count (omega (arith, c.requires.some)) room)

pub returns-clause-objects : goal.returns-clause-objects
returns-clause-objects c =
    let region : IsRegion c.in-Untyped.base c.in-Untyped.bits c.in-Untyped.free = rw c.in-Untyped.is at c.requires.untyped in
    let size = one_shl c.args.shape.bits 64 (omega (arith, shape_bits-most c.args.shape c.requires.shape)) in
    let whole = one_shl c.in-Untyped.bits 64 (omega (arith, region.most)) in
    let start : start_of c.args.has_children c.in-Untyped.free ≡ c.if-has_children.start =
    elim c.if-has_children.branch [ then-has_children w ↦ search rules | else-has_children w ↦ search rules ] in
    let room : c.args.count ≤ room_of c.in-Untyped.bits c.if-has_children.start c.args.shape.bits = rw whole at c.if-room-count.false in
    let some : 0 < c.args.count = omega (arith, c.requires.some) in
    rw (c.in-Untyped.is, size, start)
    (lie-apart c.in-Untyped.base c.in-Untyped.bits c.if-has_children.start c.args.shape.bits c.args.count _ some room
    (placed-is c.in-Untyped.base c.in-Untyped.bits c.args.shape.bits c.if-has_children.start c.args.count some room))

pub returns-clause-value : goal.returns-clause-value
returns-clause-value c =
    let region : IsRegion c.in-Untyped.base c.in-Untyped.bits c.in-Untyped.free = rw c.in-Untyped.is at c.requires.untyped in
    let size = one_shl c.args.shape.bits 64 (omega (arith, shape_bits-most c.args.shape c.requires.shape)) in
    let whole = one_shl c.in-Untyped.bits 64 (omega (arith, region.most)) in
    let start : start_of c.args.has_children c.in-Untyped.free ≡ c.if-has_children.start =
    elim c.if-has_children.branch [ then-has_children w ↦ search rules | else-has_children w ↦ search rules ] in
    let room : c.args.count ≤ room_of c.in-Untyped.bits c.if-has_children.start c.args.shape.bits = rw whole at c.if-room-count.false in
    rw (c.in-Untyped.is, size, start)
    (sym (placed_from-room c.in-Untyped.base c.in-Untyped.bits c.if-has_children.start c.args.shape.bits c.args.count room))

pub unreachable-requires : goal.unreachable-requires
unreachable-requires c = no_region c.args.cap c.in_default.not-Untyped c.requires.untyped

pub overflow_shl-size : goal.overflow_shl-size
overflow_shl-size c = few_bits c.args.shape c.requires.shape

pub overflow_shl-room : goal.overflow_shl-room
overflow_shl-room c = few_region_bits c.args.cap c.in-Untyped.base c.in-Untyped.bits c.in-Untyped.free c.in-Untyped.is c.requires.untyped

pub overflow_sub-room : goal.overflow_sub-room
overflow_sub-room c = start_within c.args.cap c.in-Untyped.base c.in-Untyped.bits c.in-Untyped.free c.in-Untyped.is c.requires.untyped c.args.has_children c.if-has_children.start (elim c.if-has_children.branch [ then-has_children w ↦ ap (λ h. start_of h c.in-Untyped.free) w.if-has_children.true ∙ omega (arith, w.start-is) | else-has_children w ↦ ap (λ h. start_of h c.in-Untyped.free) w.if-has_children.false ∙ omega (arith, w.start-is) ])

pub overflow_shr-room : goal.overflow_shr-room
overflow_shr-room c = few_bits c.args.shape c.requires.shape

pub returns-then-room-count-clause-value : goal.returns-then-room-count-clause-value
returns-then-room-count-clause-value c = sym (no_room c.args.cap c.in-Untyped.base c.in-Untyped.bits c.in-Untyped.free c.in-Untyped.is c.requires.untyped c.args.has_children c.if-has_children.start (elim c.if-has_children.branch [ then-has_children w ↦ ap (λ h. start_of h c.in-Untyped.free) w.if-has_children.true ∙ omega (arith, w.start-is) | else-has_children w ↦ ap (λ h. start_of h c.in-Untyped.free) w.if-has_children.false ∙ omega (arith, w.start-is) ]) c.args.shape c.requires.shape c.args.count c.if-room-count.true)

pub returns-then-room-count-clause-plan : goal.returns-then-room-count-clause-plan
returns-then-room-count-clause-plan c = no_plan c.args.cap c.in-Untyped.base c.in-Untyped.bits c.in-Untyped.free c.in-Untyped.is c.requires.untyped c.args.has_children c.if-has_children.start (elim c.if-has_children.branch [ then-has_children w ↦ ap (λ h. start_of h c.in-Untyped.free) w.if-has_children.true ∙ omega (arith, w.start-is) | else-has_children w ↦ ap (λ h. start_of h c.in-Untyped.free) w.if-has_children.false ∙ omega (arith, w.start-is) ]) c.args.shape c.requires.shape c.args.count c.if-room-count.true

pub returns-then-room-count-clause-objects : goal.returns-then-room-count-clause-objects
returns-then-room-count-clause-objects c = tt

pub overflow_sub-first : goal.overflow_sub-first
overflow_sub-first c = size_some c.args.cap c.in-Untyped.base c.in-Untyped.bits c.in-Untyped.free c.in-Untyped.is c.requires.untyped c.args.has_children c.if-has_children.start (elim c.if-has_children.branch [ then-has_children w ↦ ap (λ h. start_of h c.in-Untyped.free) w.if-has_children.true ∙ omega (arith, w.start-is) | else-has_children w ↦ ap (λ h. start_of h c.in-Untyped.free) w.if-has_children.false ∙ omega (arith, w.start-is) ]) c.args.shape c.requires.shape c.args.count

pub overflow_add-first : goal.overflow_add-first
overflow_add-first c = end_fits c.args.cap c.in-Untyped.base c.in-Untyped.bits c.in-Untyped.free c.in-Untyped.is c.requires.untyped c.args.has_children c.if-has_children.start (elim c.if-has_children.branch [ then-has_children w ↦ ap (λ h. start_of h c.in-Untyped.free) w.if-has_children.true ∙ omega (arith, w.start-is) | else-has_children w ↦ ap (λ h. start_of h c.in-Untyped.free) w.if-has_children.false ∙ omega (arith, w.start-is) ]) c.args.shape c.requires.shape c.args.count

pub nonzero_div-first : goal.nonzero_div-first
nonzero_div-first c = size_some c.args.cap c.in-Untyped.base c.in-Untyped.bits c.in-Untyped.free c.in-Untyped.is c.requires.untyped c.args.has_children c.if-has_children.start (elim c.if-has_children.branch [ then-has_children w ↦ ap (λ h. start_of h c.in-Untyped.free) w.if-has_children.true ∙ omega (arith, w.start-is) | else-has_children w ↦ ap (λ h. start_of h c.in-Untyped.free) w.if-has_children.false ∙ omega (arith, w.start-is) ]) c.args.shape c.requires.shape c.args.count

pub overflow_mul-first : goal.overflow_mul-first
overflow_mul-first c = first_fits c.args.cap c.in-Untyped.base c.in-Untyped.bits c.in-Untyped.free c.in-Untyped.is c.requires.untyped c.args.has_children c.if-has_children.start (elim c.if-has_children.branch [ then-has_children w ↦ ap (λ h. start_of h c.in-Untyped.free) w.if-has_children.true ∙ omega (arith, w.start-is) | else-has_children w ↦ ap (λ h. start_of h c.in-Untyped.free) w.if-has_children.false ∙ omega (arith, w.start-is) ]) c.args.shape c.requires.shape c.args.count c.requires.some c.if-room-count.false

pub overflow_add-result : goal.overflow_add-result
overflow_add-result c = address_fits c.args.cap c.in-Untyped.base c.in-Untyped.bits c.in-Untyped.free c.in-Untyped.is c.requires.untyped c.args.has_children c.if-has_children.start (elim c.if-has_children.branch [ then-has_children w ↦ ap (λ h. start_of h c.in-Untyped.free) w.if-has_children.true ∙ omega (arith, w.start-is) | else-has_children w ↦ ap (λ h. start_of h c.in-Untyped.free) w.if-has_children.false ∙ omega (arith, w.start-is) ]) c.args.shape c.requires.shape c.args.count c.requires.some c.if-room-count.false

pub overflow_mul-result : goal.overflow_mul-result
overflow_mul-result c = all_fit c.args.cap c.in-Untyped.base c.in-Untyped.bits c.in-Untyped.free c.in-Untyped.is c.requires.untyped c.args.has_children c.if-has_children.start (elim c.if-has_children.branch [ then-has_children w ↦ ap (λ h. start_of h c.in-Untyped.free) w.if-has_children.true ∙ omega (arith, w.start-is) | else-has_children w ↦ ap (λ h. start_of h c.in-Untyped.free) w.if-has_children.false ∙ omega (arith, w.start-is) ]) c.args.shape c.requires.shape c.args.count c.requires.some c.if-room-count.false

pub overflow_add-result-2 : goal.overflow_add-result-2
overflow_add-result-2 c = free_fits c.args.cap c.in-Untyped.base c.in-Untyped.bits c.in-Untyped.free c.in-Untyped.is c.requires.untyped c.args.has_children c.if-has_children.start (elim c.if-has_children.branch [ then-has_children w ↦ ap (λ h. start_of h c.in-Untyped.free) w.if-has_children.true ∙ omega (arith, w.start-is) | else-has_children w ↦ ap (λ h. start_of h c.in-Untyped.free) w.if-has_children.false ∙ omega (arith, w.start-is) ]) c.args.shape c.requires.shape c.args.count c.requires.some c.if-room-count.false
