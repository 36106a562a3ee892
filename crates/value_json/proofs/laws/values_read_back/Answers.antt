use Rattle.value_json.proofs.ReadBack.{value_in-value_data, rows_in-rows_data}
use Rattle.value_json.proofs.laws.values_read_back.Goals as goal

pub returns : goal.returns
returns c = record { value = value_in-value_data; rows = rows_in-rows_data }
