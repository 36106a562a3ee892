-- Error values by their names.
--
-- `error_named`  the error value that is written so, of the twelve
-- `error_at`     the error value whose name stands at a place
use Rattle.std.specs.Prelude.{ℕ, List, Option}
use Rattle.std.specs.List.{find}
use Rattle.std.specs.Str.{bytes_eq}
use Rattle.serde_json.specs.Data.{Data}
use Rattle.value_core.specs.ErrorName.{error_name}
use Rattle.value_core.specs.declared.error.Error.{Error}
use Rattle.value_json.specs.declared.error_value.TheConstants.{ERRORS}
use Rattle.value_json.specs.Fields.{◌>>=◌, text_at}

abbrev pub error_named : List ℕ → Option Error
error_named name = find (λ error. bytes_eq (error_name error) name) ERRORS

unfoldable pub error_at : ℕ → List Data → Option Error
error_at place places = do
  name ← text_at place places
  error_named name
