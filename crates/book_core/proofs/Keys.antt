-- Cells as keys.
--   on-err     what holds, holds on an error
--   key-same   two cells have keys of one order exactly where they are one
--   set-cell   what a book holds once an entry was put in for a cell, and set-held, for which cells
--   contents_in, holds_in   the contents of a book, by its sheets and entries, and which cells were set
use Rattle.std.proofs.Common.{◌≡◌, ℕ, Bool, true, false, ◌&&◌, ◌||◌, if◌then◌else◌, List, Option, Some, Result, Ok, Err, OnErr, option_and_then, is_some, refl, ap, ap₂, ◌∙◌}
use Rattle.std.specs.Option.{option_map_or}
use Rattle.std.specs.BTreeMap.{is_at}
use Rattle.std.specs.Ordering.{is_eq, nat_cmp, int_cmp, ordering_then}
use Rattle.std.specs.declared.cmp.Ordering.{Ordering}
use Rattle.std.specs.declared.cmp.Ordering.TheVariants.{Less, Equal, Greater}
use Rattle.value_core.specs.declared.position.CellReferenceIndex.{CellReferenceIndex}
use Rattle.value_core.specs.declared.array.ArrayNode.TheVariants.{Empty}
use Rattle.book_core.specs.Contents.{Contents, IsSetCell, same_cell}
use Rattle.book_core.specs.Held.{Key, held_at, key_of, key_cmp}
use Rattle.book_core.specs.declared.held.Held.{Held}

then-all : (x y z : Ordering) → is_eq (ordering_then x (ordering_then y z)) ≡ (is_eq x && is_eq y && is_eq z)
then-all Less y z = refl
then-all Greater y z = refl
then-all Equal Less z = refl
then-all Equal Equal z = refl
then-all Equal Greater z = refl

pub key-same : (a b : CellReferenceIndex) → is_at (key_cmp (key_of a)) (key_of b) ≡ same_cell a b
key-same a b = then-all (nat_cmp a.sheet b.sheet) (int_cmp a.row b.row) (int_cmp a.column b.column)

abbrev pub Entries : Type 0
Entries = List (Key × Held)

-- an entry put in for a cell, among others
abbrev pub IsPut : Entries → Entries → CellReferenceIndex → Held → Type 0
IsPut old new cell held = (other : CellReferenceIndex) → held_at new other ≡ (if is_at (key_cmp (key_of cell)) (key_of other) then Some held else held_at old other)

value-by : (b : Bool) (x y : Option Held) (held : Held) → x ≡ (if b then Some held else y)
    → option_map_or (λ (held : Held). held.value) x Empty ≡ (if b then held.value else option_map_or (λ (held : Held). held.value) y Empty)
value-by true x y held e = ap (λ o. option_map_or (λ (held : Held). held.value) o Empty) e
value-by false x y held e = ap (λ o. option_map_or (λ (held : Held). held.value) o Empty) e

text-by : (f : Held → Option (List ℕ)) (b : Bool) (x y : Option Held) (held : Held) → x ≡ (if b then Some held else y)
    → option_and_then f x ≡ (if b then f held else option_and_then f y)
text-by f true x y held e = ap (option_and_then f) e
text-by f false x y held e = ap (option_and_then f) e

holds-by : (b : Bool) (x y : Option Held) (held : Held) → x ≡ (if b then Some held else y) → is_some x ≡ (b || is_some y)
holds-by true x y held e = ap is_some e
holds-by false x y held e = ap is_some e

put-same : (old new : Entries) (cell other : CellReferenceIndex) (held : Held) → IsPut old new cell held
    → held_at new other ≡ (if same_cell cell other then Some held else held_at old other)
put-same old new cell other held e = e other ∙ ap (λ b. if b then Some held else held_at old other) (key-same cell other)

abbrev pub holds_in : Entries → CellReferenceIndex → Bool
holds_in entries cell = is_some (held_at entries cell)

abbrev pub contents_in : List (List ℕ) → Entries → Contents
contents_in sheets entries = record {
  value = λ cell. option_map_or (λ (held : Held). held.value) (held_at entries cell) Empty;
  num_fmt = λ cell. option_and_then (λ (held : Held). held.num_fmt) (held_at entries cell);
  formula = λ cell. option_and_then (λ (held : Held). held.formula) (held_at entries cell);
  sheets = sheets;
}

pub set-cell : (sheets : List (List ℕ)) (old new : Entries) (cell : CellReferenceIndex) (held : Held) → IsPut old new cell held
    → IsSetCell (contents_in sheets old) (contents_in sheets new) cell held.value held.num_fmt held.formula
set-cell sheets old new cell held e = record {
  values = λ other. value-by (same_cell cell other) (held_at new other) (held_at old other) held (put-same old new cell other held e);
  formats = λ other. text-by (λ (held : Held). held.num_fmt) (same_cell cell other) (held_at new other) (held_at old other) held (put-same old new cell other held e);
  formulas = λ other. text-by (λ (held : Held). held.formula) (same_cell cell other) (held_at new other) (held_at old other) held (put-same old new cell other held e);
  sheets = refl;
}

pub set-held : (old new : Entries) (cell other : CellReferenceIndex) (held : Held) → IsPut old new cell held → holds_in new other ≡ (same_cell cell other || holds_in old other)
set-held old new cell other held e = holds-by (same_cell cell other) (held_at new other) (held_at old other) held (put-same old new cell other held e)

pub on-err : {T E P : Type 0} (r : Result T E) → P → OnErr r P
on-err (Ok t) p = tt
on-err (Err e) p = p
