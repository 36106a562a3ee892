-- How the error values are written.
--   error_name  the text of an error value
use Rattle.std.specs.Prelude.{ℕ, List, codes}
use Rattle.value_core.specs.declared.error.Error.{Error}
use Rattle.value_core.specs.declared.error.Error.TheVariants.{REF, NAME, VALUE, DIV, NA, NUM, ERROR, NIMPL, SPILL, CALC, CIRC, NULL}

abbrev pub error_name : Error → List ℕ
error_name REF = codes "#REF!"
error_name NAME = codes "#NAME?"
error_name VALUE = codes "#VALUE!"
error_name DIV = codes "#DIV/0!"
error_name NA = codes "#N/A"
error_name NUM = codes "#NUM!"
error_name ERROR = codes "#ERROR!"
error_name NIMPL = codes "#NIMPL!"
error_name SPILL = codes "#SPILL!"
error_name CALC = codes "#CALC!"
error_name CIRC = codes "#CIRC!"
error_name NULL = codes "#NULL!"
