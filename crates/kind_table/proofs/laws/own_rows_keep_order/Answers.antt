use Rattle.kind_table.proofs.OwnRows.{own_rows_never_rise, own_rows_are_well_formed}
use Rattle.kind_table.proofs.laws.own_rows_keep_order.Goals as goal

pub returns-clause-never_rise : goal.returns-clause-never_rise
returns-clause-never_rise c = own_rows_never_rise

pub returns-clause-well_formed : goal.returns-clause-well_formed
returns-clause-well_formed c = own_rows_are_well_formed
