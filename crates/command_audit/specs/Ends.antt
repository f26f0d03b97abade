-- The objects that end from one state to a later one, and their lines.
use Rattle.std.specs.Prelude.{codes, ℕ, ◌==◌, not, cond, Bool, List, [], ◌∷◌, ◌++◌, map, filter, Option, Some, None}
use Rattle.std.specs.List.{filter_map, flat_map, list_any}
use Rattle.std.specs.Fmt.{decimal}
use Rattle.cap_core.specs.declared.capability.Cap.{Cap}
use Rattle.cap_core.specs.declared.capability.Cap.TheVariants.{Untyped, Endpoint, CNode, Tcb}
use Rattle.kernel_forest.specs.Derivation.{names_same}
use Rattle.setup_report.specs.State.{Derived, rising}
use Rattle.setup_report.specs.Report.{terminated}
use Rattle.setup_report.specs.Naming.{Texts}
use Rattle.command_audit.specs.declared.ends.Asked.{Asked}
use Rattle.setup_report.specs.declared.objects.Object.{Object}

-- some full slot names the object, or the untyped region, of a capability
abbrev pub is_object_named : Cap → List Derived → Bool
is_object_named cap list = list_any (λ (d : Derived). names_same d.0.cap cap) list

-- the capabilities of the full slots of a state whose objects no slot of a later one names
abbrev pub ended_capabilities : List Derived → List Derived → List Cap
ended_capabilities old new = filter (λ cap. not (is_object_named cap new)) (map (λ (d : Derived). d.0.cap) old)

-- of one capability
abbrev pub where_ended : Cap → List Derived → List Cap
where_ended cap new = cond (not (is_object_named cap new)) (cap ∷ []) []

-- ---- what capabilities name, each once, in rising order

abbrev pub asked_object : Asked → Cap → Option ℕ
asked_object Asked.Thread (Tcb base) = Some base
asked_object Asked.Endpoint (Endpoint base badge rights) = Some base
asked_object Asked.CNode (CNode base radix guard) = Some base
asked_object Asked.Untyped (Untyped base bits free) = Some base
asked_object (Asked.BitsAt address) (Untyped base bits free) = cond (base == address) (Some bits) None
asked_object asked cap = None

abbrev pub all_asked : Asked → List Cap → List ℕ
all_asked asked caps = filter_map (asked_object asked) caps

-- ---- a line for each object: threads, endpoints, CNodes and untyped regions, each kind by rising address

abbrev pub ended_thread_line : Texts → ℕ → List ℕ
ended_thread_line texts address = terminated (codes "  ends thread " ++ texts.about address)

abbrev pub object_line : Texts → List ℕ → Object → List ℕ
object_line texts kind object = terminated (codes "  ends " ++ (kind ++ (codes " " ++ texts.object object)))

abbrev pub ended_endpoint_line : Texts → ℕ → List ℕ
ended_endpoint_line texts address = object_line texts (codes "endpoint") (Object.Endpoint address)

abbrev pub ended_node_line : Texts → ℕ → List ℕ
ended_node_line texts address = object_line texts (codes "cnode") (Object.CNode address)

abbrev pub region_line : Texts → ℕ → ℕ → List ℕ
region_line texts address bits = terminated (codes "  ends untyped " ++ (texts.object (Object.Region address bits) ++ (codes " bits " ++ decimal bits)))

-- regions in one another may have one address: by rising size
abbrev pub regions_at : Texts → List Cap → ℕ → List ℕ
regions_at texts caps address = flat_map (region_line texts address) (rising (all_asked (Asked.BitsAt address) caps))

abbrev pub ends_lines : Texts → List Cap → List ℕ
ends_lines texts caps =
    flat_map (ended_thread_line texts) (rising (all_asked Asked.Thread caps))
    ++ (flat_map (ended_endpoint_line texts) (rising (all_asked Asked.Endpoint caps))
    ++ (flat_map (ended_node_line texts) (rising (all_asked Asked.CNode caps))
    ++ flat_map (regions_at texts caps) (rising (all_asked Asked.Untyped caps))))
