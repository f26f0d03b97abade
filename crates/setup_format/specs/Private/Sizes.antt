-- The sizes of a boot that the number kinds accept.
use Rattle.kernel_abstract.specs.Plan.{AreSizes}
use Rattle.setup_format.specs.declared.setup.Sizes.{Sizes}

abbrev pub IsSizes : Sizes → Type 0
IsSizes s = AreSizes s.memory_bits s.root_radix s.threads s.endpoints
