-- Which failures are of reading a file: it was said why, or that could not be written. Never that memory is wanting.
-- Assumes nothing: these are definitions.
use Rattle.files.specs.declared.failing.Failed.{Failed}
use Rattle.files.specs.declared.failing.Failed.TheVariants.{Said, Memory, Output}

abbrev pub OfReading : Failed → Type 0
OfReading Said = Unit {0}
OfReading Memory = ⊥
OfReading Output = Unit {0}
