-- Keys of rows.
--   one_row    two keys of rows are one key, as a test
--   one_row-laws, one_row-equivalence   the test is an equality
--   row_input  what a key of a row gives to a hasher: the keys of its elements, one after another
--   one_row-alike   keys that are one are fed alike
use Rattle.std.specs.Prelude.{◌≡◌, ℕ, Bool, List, IsTrue}
use Rattle.std.specs.List.{flat_map}
use Rattle.std.specs.Cmp.{IsPartialEquivalence, IsEquivalence}
use Rattle.std.specs.Coded.{Coded, coded_list}
use Rattle.own_items.specs.Sameness.{same, same-laws}
use Rattle.key_core.specs.Equal.{same-equivalence, same-alike}
use Rattle.key_core.specs.Key.{key_input}
use Rattle.key_core.specs.contracts.key.CellKey.{the_row}
use Rattle.key_core.specs.declared.key.CellKey.{CellKey}

abbrev pub coded_row : Coded (List CellKey)
coded_row = coded_list the_row.coded

abbrev pub one_row : List CellKey → List CellKey → Bool
one_row = same coded_row

pub one_row-laws : IsPartialEquivalence one_row
one_row-laws = same-laws coded_row

pub one_row-equivalence : IsEquivalence one_row
one_row-equivalence = same-equivalence coded_row

abbrev pub row_input : List CellKey → List (List ℕ)
row_input key = flat_map key_input key

pub one_row-alike : (x y : List CellKey) → IsTrue (one_row x y) → row_input x ≡ row_input y
one_row-alike = same-alike coded_row row_input
