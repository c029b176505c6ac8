-- Faults of a grounding, as faults of a translation.
use Rattle.ground.specs.declared.fault.GroundFault.{GroundFault}
use Rattle.ground.specs.declared.fault.GroundFault.TheVariants as ground
use Rattle.translate_vars.specs.declared.fault.TranslateFault.{TranslateFault}
use Rattle.translate_vars.specs.declared.fault.TranslateFault.TheVariants as fault

abbrev pub fault_of_ground : GroundFault → TranslateFault
fault_of_ground ground.OutOfMemory = fault.OutOfMemory
fault_of_ground ground.GroundLimit = fault.GroundLimit
