-- The first bad place of a formula in a cell.
--   bad_place   the cell, where it lies on no sheet; else the least number of a bad node, numbers from 0 in preorder
--   passed      the number after that of the last of some nodes, the first of which has a number, where none of them is bad;
--               else the number of the first bad one
use Rattle.std.specs.Prelude.{ℕ, ◌+◌, Bool, if◌then◌else◌, List, [], ◌∷◌, Option, Some, None, option_map, Result, Ok, Err}
use Rattle.std.specs.List.{position_from}
use Rattle.value_core.specs.declared.position.CellReferenceIndex.{CellReferenceIndex}
use Rattle.kind_table.specs.Table.{Table}
use Rattle.tree_core.specs.Tree.{Tree}
use Rattle.tree_core.specs.Preorder.{nodes}
use Rattle.validity_core.specs.Good.{is_bad, is_on_sheet}
use Rattle.validity_core.specs.declared.place.Place.{Place}
use Rattle.validity_core.specs.declared.place.Place.TheVariants.{Cell, Node}

abbrev pub bad_place : Table → ℕ → CellReferenceIndex → Tree → Option Place
bad_place table sheets cell t = if is_on_sheet sheets cell then option_map Node (position_from (is_bad table sheets) 0 (nodes t)) else Some Cell

abbrev pub passed : (Tree → Bool) → ℕ → List Tree → Result ℕ ℕ
passed bad number [] = Ok number
passed bad number (t ∷ ts) = if bad t then Err number else passed bad (number + 1) ts
