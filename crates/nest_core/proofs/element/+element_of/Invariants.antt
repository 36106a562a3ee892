-- A part of a nest is smaller than the nest.
use Rattle.nest_core.specs.declared.nest.Nest.{size-Nest}
use Rattle.nest_core.proofs.element.+element_of.Given as goal

abbrev pub decreases-element_of : goal.decreases-element_of
decreases-element_of g l = size-Nest l.nest.now
