-- How calls have their shapes from those of their arguments.
--   shape_by  the shape of a call by its pattern
use Rattle.std.specs.Prelude.{◌==◌, if◌then◌else◌, List, length, slice_get}
use Rattle.std.specs.Option.{option_map_or}
use Rattle.kind_table.specs.declared.shape_pattern.ShapePattern.{ShapePattern}
use Rattle.kind_table.specs.declared.shape_pattern.ShapePattern.TheVariants.{Scalar, ScalarArguments, Unknown, SecondArgument, UnknownOfThree}
use Rattle.kind_table.specs.declared.static_result.StaticResult.{StaticResult}
use Rattle.kind_table.specs.declared.static_result.StaticResult.TheVariants as static
use Rattle.kind_table.specs.Shape.{as_array, scalar_arguments}

abbrev pub shape_by : ShapePattern → List StaticResult → StaticResult
shape_by Scalar shapes = static.Scalar
shape_by ScalarArguments shapes = scalar_arguments shapes
shape_by Unknown shapes = static.Unknown
shape_by SecondArgument shapes = option_map_or as_array (slice_get shapes 1) static.Scalar
shape_by UnknownOfThree shapes = if (length shapes == 3) then static.Unknown else static.Scalar
