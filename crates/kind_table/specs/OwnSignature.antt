-- How the calls of the own kinds take their arguments.
--   own_patterns   the pattern of each own kind by its number, as the rows of the program's table in src/own_table.rt say
--   own_signature  how a call of an own kind with so many arguments takes the one at a place, from 0
use Rattle.std.specs.Prelude.{ℕ, List, slice_get}
use Rattle.std.specs.Option.{option_map_or}
use Rattle.call_core.specs.FunctionCode.{function_code}
use Rattle.call_core.specs.declared.function.Function.{Function}
use Rattle.kind_table.specs.declared.own_table.TheConstants.{OWN_PATTERNS}
use Rattle.kind_table.specs.declared.pattern.Pattern.{Pattern}
use Rattle.kind_table.specs.declared.signature.Signature.{Signature}
use Rattle.kind_table.specs.declared.signature.Signature.TheVariants.{Error}
use Rattle.kind_table.specs.Pattern.{signature_by}

unfoldable pub own_patterns : List Pattern
own_patterns = OWN_PATTERNS

abbrev pub own_signature : Function → ℕ → ℕ → Signature
own_signature kind count index = option_map_or (λ pattern. signature_by pattern count index) (slice_get own_patterns (function_code kind)) Error
