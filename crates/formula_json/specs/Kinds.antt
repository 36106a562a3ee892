-- The kind of function of a call.
--
-- `has_name`     that a kind of function has a name, and which one
-- `kind_named`   the kind with a name, of all kinds that have one
-- `numbered_in`  the kind that is given by its number, 0 to 65535
-- `kind_at`      the kind whose name or number stands at a place
-- `number_data`  the number of a kind that has no name of its own
-- `kind_data`    what is written of a kind: its name, or its number where no name is known
use Rattle.std.specs.Prelude.{ℕ, pos, ◌^◌, Bool, false, List, slice_get, nat_lt, is_some, if◌then◌else◌, Option, Some, None}
use Rattle.std.specs.List.{find}
use Rattle.std.specs.Option.{option_map_or}
use Rattle.std.specs.Str.{bytes_eq}
use Rattle.serde_json.specs.Data.{Data, null, string}
use Rattle.serde_json.specs.Find.{as_number, as_str, as_u64}
use Rattle.call_core.specs.declared.function.Function.{Function}
use Rattle.call_core.specs.declared.function.Function.TheVariants.{Other}
use Rattle.kind_table.specs.Names.{function_name, in_order}
use Rattle.value_json.specs.Fields.{◌>>=◌}
use Rattle.value_json.specs.Piece.{whole}

abbrev pub has_name : List ℕ → Function → Bool
has_name name kind = option_map_or (bytes_eq name) (function_name kind) false

unfoldable pub kind_named : List ℕ → Option Function
kind_named name = find (has_name name) in_order

unfoldable pub numbered_in : Data → Option Function
numbered_in datum = do
  number ← as_number datum
  whole ← as_u64 number
  if nat_lt whole (2 ^ 16) then Some (Other whole) else None

unfoldable pub kind_at : ℕ → List Data → Option Function
kind_at place places = do
  datum ← slice_get places place
  if is_some (as_str datum) then as_str datum >>= kind_named else numbered_in datum

abbrev pub number_data : Function → Data
number_data (Other number) = whole (pos number)
number_data kind = null

abbrev pub kind_data : Function → Data
kind_data kind = option_map_or string (function_name kind) (number_data kind)
