-- A book that is filled with the cells of an array, one after another.
--   among                 that a cell lies at a place
--   are_distinct-last, are_distinct-prefix   one more cell; cells of which two lie at one place stay such
--   last_at-last                             the last cell at a place, once one more was put in
--   Has                   a book that holds some cells and no others
--   Filled                the cells so far are the first ones of the array, no two lie at one place, and the book has them
--   filled_first, filled_more, filled_all    at the start, after one more, at the end
--   refused_there, refused_held              what a refusal at one element says of all
--   refused_cell, refused_again              an element that is no cell; a cell that the book holds already
use Rattle.std.proofs.Common.{◌≡◌, ℕ, ◌+◌, ◌<◌, ◌≤◌, Bool, true, false, not, ◌&&◌, ◌||◌, if◌then◌else◌, List, [], ◌∷◌, ◌++◌, length, map, drop, get_or, Option, Some, None, option_and_then, Result, Ok, Err, refl, sym, ap, ap₂, ◌∙◌, inl, inr, append_assoc, append-nil}
use Rattle.std.proofs.lemmas.List.{drop_more, drop_all}
use Rattle.std.proofs.lemmas.Bool.{and_cases, and_left, and_right, or_cases, or_left, or_right, not-false, not_from_true}
use Rattle.std.specs.List.{list_any}
use Rattle.std.specs.Option.{option_map_or, option_or}
use Rattle.serde_json.specs.Data.{Data}
use Rattle.serde_json.specs.View.{view}
use Rattle.serde_json.specs.declared.value.Value.{Value}
use Rattle.value_core.specs.declared.array.ArrayNode.TheVariants.{Empty}
use Rattle.value_core.specs.declared.position.CellReferenceIndex.{CellReferenceIndex}
use Rattle.book_core.specs.Contents.{Contents, IsSetCell, same_cell}
use Rattle.book_core.specs.Held.{contents_of, holds}
use Rattle.book_core.specs.declared.cells.MemoryBook.{MemoryBook}
use Rattle.value_json.specs.Fields.{◌>>=◌, places_in}
use Rattle.value_json.specs.Traverse.{traverse}
use Rattle.value_json.proofs.Traversal.{after, reached-first}
use Rattle.value_json.specs.Reading.{Gives}
use Rattle.value_json.specs.declared.error.FormError.{FormError}
use Rattle.value_json.specs.declared.error.FormError.TheVariants.{Memory, NotOfForm}
use Rattle.request_core.specs.Cells.{AddsCell, FillsBook, are_distinct, book_with, cell_in, cells_in, last_at}
use Rattle.request_core.specs.declared.cell.Cell.{Cell}

abbrev pub among : List Cell → CellReferenceIndex → Bool
among done place = list_any (λ cell. same_cell cell.position place) done

or-false : (b : Bool) → (b || false) ≡ b
or-false true = refl
or-false false = refl

or-assoc : (a b c : Bool) → (a || (b || c)) ≡ ((a || b) || c)
or-assoc true b c = refl
or-assoc false b c = refl

list_any-last : (test : Cell → Bool) (cells : List Cell) (cell : Cell) → list_any test (cells ++ cell ∷ []) ≡ (list_any test cells || test cell)
list_any-last test [] cell = or-false (test cell)
list_any-last test (first ∷ cells) cell = ap (λ later. test first || later) (list_any-last test cells cell) ∙ or-assoc (test first) (list_any test cells) (test cell)

list_any-prefix : (test : Cell → Bool) (cells later : List Cell) → list_any test cells ≡ true → list_any test (cells ++ later) ≡ true
list_any-prefix test [] later any = cc
list_any-prefix test (first ∷ cells) later any = elim (or_cases (test first) (list_any test cells) any) [
  | inl here ↦ or_left (test first) (list_any test (cells ++ later)) here
  | inr there ↦ or_right (test first) (list_any test (cells ++ later)) (list_any-prefix test cells later there)
]

regrouped : (later same distinct among : Bool) → (not (later || same) && (distinct && not among)) ≡ ((not later && distinct) && not (same || among))
regrouped true same distinct among = refl
regrouped false true true among = refl
regrouped false true false among = refl
regrouped false false distinct among = refl

are_distinct-last : (done : List Cell) (cell : Cell) → are_distinct (done ++ cell ∷ []) ≡ (are_distinct done && not (among done cell.position))
are_distinct-last [] cell = refl
are_distinct-last (first ∷ done) cell =
    let test : Cell → Bool = λ other. same_cell first.position other.position in
    ap₂ (λ any distinct. not any && distinct) (list_any-last test done cell) (are_distinct-last done cell)
    ∙ regrouped (list_any test done) (test cell) (are_distinct done) (among done cell.position)

are_distinct-prefix : (cells later : List Cell) → are_distinct cells ≡ false → are_distinct (cells ++ later) ≡ false
are_distinct-prefix [] later twice = cc
are_distinct-prefix (first ∷ cells) later twice =
    let test : Cell → Bool = λ other. same_cell first.position other.position in
    elim (and_cases (not (list_any test cells)) (are_distinct cells) twice) [
      | inl here ↦ and_left (not (list_any test (cells ++ later))) (are_distinct (cells ++ later)) (not_from_true (list_any test (cells ++ later)) (list_any-prefix test cells later (not-false (list_any test cells) here)))
      | inr there ↦ and_right (not (list_any test (cells ++ later))) (are_distinct (cells ++ later)) (are_distinct-prefix cells later there)
    ]

or-comm : (a b : Bool) → (a || b) ≡ (b || a)
or-comm true true = refl
or-comm true false = refl
or-comm false true = refl
or-comm false false = refl

option_or-if : (same : Bool) (cell : Cell) (later earlier : Option Cell) → option_or (if same then Some cell else later) earlier ≡ (if same then Some cell else option_or later earlier)
option_or-if true cell later earlier = refl
option_or-if false cell later earlier = refl

last_at-last : (done : List Cell) (cell : Cell) (place : CellReferenceIndex) → last_at (done ++ cell ∷ []) place ≡ (if same_cell cell.position place then Some cell else last_at done place)
last_at-last [] cell place = refl
last_at-last (first ∷ done) cell place =
    let earlier : Option Cell = if same_cell first.position place then Some first else None in
    ap (λ later. option_or later earlier) (last_at-last done cell place) ∙ option_or-if (same_cell cell.position place) cell (last_at done place) earlier

map_or-if : {A : Type 0} (f : Cell → A) (default : A) (same : Bool) (cell : Cell) (other : Option Cell) → option_map_or f (if same then Some cell else other) default ≡ (if same then f cell else option_map_or f other default)
map_or-if f default true cell other = refl
map_or-if f default false cell other = refl

and_then-if : {A : Type 0} (f : Cell → Option A) (same : Bool) (cell : Cell) (other : Option Cell) → option_and_then f (if same then Some cell else other) ≡ (if same then f cell else option_and_then f other)
and_then-if f true cell other = refl
and_then-if f false cell other = refl

-- the cells, if no two lie at one place
abbrev once : List Cell → Option (List Cell)
once cells = if are_distinct cells then Some cells else None

pub cells_in-is : (count : ℕ) (datum : Data) (places : List Data) → places_in datum ≡ Some places → cells_in count datum ≡ (traverse (cell_in count) places >>= once)
unfolding cells_in
cells_in-is count datum places is = rw is

-- the book holds these cells, and no others
pub record Has (sheets : List (List ℕ)) (book : MemoryBook) (cells : List Cell) : Type 0 where
  pub contents : contents_of book ≡ book_with sheets cells
  pub held : (place : CellReferenceIndex) → holds book place ≡ among cells place

pub record Filled (count : ℕ) (items : List Value) (sheets : List (List ℕ)) (book : MemoryBook) (i : ℕ) : Type 0 where
  pub done : List Cell
  pub first : traverse (cell_in count) (map view items) ≡ after done (traverse (cell_in count) (map view (drop i items)))
  pub distinct : are_distinct done ≡ true
  pub has : Has sheets book done

advance : (done : List Cell) (cell : Cell) (later : Option (List Cell)) → after done (later >>= λ rest. Some (cell ∷ rest)) ≡ after (done ++ cell ∷ []) later
advance done cell None = refl
advance done cell (Some rest) = ap Some (sym (append_assoc done (cell ∷ []) rest))

refused_twice : (cells : List Cell) (later : Option (List Cell)) → are_distinct cells ≡ false → (after cells later >>= once) ≡ None
refused_twice cells None twice = refl
refused_twice cells (Some rest) twice = rw (are_distinct-prefix cells rest twice)

-- contents that agree in each cell are one
pub one_contents : (a b : Contents) → ((place : CellReferenceIndex) → a.value place ≡ b.value place) → ((place : CellReferenceIndex) → a.num_fmt place ≡ b.num_fmt place)
    → ((place : CellReferenceIndex) → a.formula place ≡ b.formula place) → a.sheets ≡ b.sheets → a ≡ b
one_contents a b values formats formulas sheets =
    λ i. record { value = λ place. values place i; num_fmt = λ place. formats place i; formula = λ place. formulas place i; sheets = sheets i }

-- a reader that refuses at one element
pub refused_there : {T : Type 0} (error : FormError) (sheets : List (List ℕ)) (here : Option T) (there : Option (List Cell)) → Gives (Err error) here → (here ≡ None → there ≡ None) → FillsBook (Err error) sheets there
refused_there NotOfForm sheets here there none follows = follows none
refused_there Memory sheets here there none follows = tt

pub refused_held : (error : FormError) (sheets : List (List ℕ)) (old new : MemoryBook) (cell : Cell) (there : Option (List Cell)) → AddsCell (Err error) old new cell → (holds old cell.position ≡ true → there ≡ None)
    → FillsBook (Err error) sheets there
refused_held NotOfForm sheets old new cell there held follows = follows held
refused_held Memory sheets old new cell there held follows = tt

module _ (count : ℕ) (items : List Value) (sheets : List (List ℕ)) where
  abbrev pub all : Option (List Cell)
  all = traverse (cell_in count) (map view items)

  pub filled_first : (book : MemoryBook) → Has sheets book [] → Filled count items sheets book 0
  filled_first book has = record { done = []; first = reached-first (cell_in count) view items [] 0 refl; distinct = refl; has = has }

  pub filled_all : (book : MemoryBook) (i : ℕ) (filled : Filled count items sheets book i) → length items ≤ i → (all >>= once) ≡ Some filled.done
  filled_all book i filled past =
      ap (λ found. found >>= once) (filled.first ∙ ap (λ rest. after filled.done (traverse (cell_in count) (map view rest))) (drop_all i items past) ∙ ap Some (append-nil filled.done))
      ∙ rw filled.distinct

  module _ (book : MemoryBook) (i : ℕ) (filled : Filled count items sheets book i) (item : Value) (inside : i < length items) (here : item ≡ get_or items i item) where
    rest_is : drop i items ≡ item ∷ drop (i + 1) items
    rest_is = drop_more items i item inside ∙ ap (λ x. x ∷ drop (i + 1) items) (sym here)

    found_first : all ≡ after filled.done (traverse (cell_in count) (view item ∷ map view (drop (i + 1) items)))
    found_first = filled.first ∙ ap (λ rest. after filled.done (traverse (cell_in count) (map view rest))) rest_is

    pub refused_cell : cell_in count (view item) ≡ None → (all >>= once) ≡ None
    refused_cell none =
        ap (λ found. found >>= once) (found_first ∙ ap (λ (found : Option Cell). after filled.done (found >>= λ cell. traverse (cell_in count) (map view (drop (i + 1) items)) >>= λ rest. Some (cell ∷ rest))) none)

    found_more : (cell : Cell) → cell_in count (view item) ≡ Some cell → all ≡ after (filled.done ++ cell ∷ []) (traverse (cell_in count) (map view (drop (i + 1) items)))
    found_more cell is =
        found_first ∙ ap (λ (found : Option Cell). after filled.done (found >>= λ cell. traverse (cell_in count) (map view (drop (i + 1) items)) >>= λ rest. Some (cell ∷ rest))) is
        ∙ advance filled.done cell (traverse (cell_in count) (map view (drop (i + 1) items)))

    pub refused_again : (cell : Cell) → cell_in count (view item) ≡ Some cell → holds book cell.position ≡ true → (all >>= once) ≡ None
    refused_again cell is held =
        ap (λ found. found >>= once) (found_more cell is)
        ∙ refused_twice (filled.done ++ cell ∷ []) (traverse (cell_in count) (map view (drop (i + 1) items)))
        (are_distinct-last filled.done cell ∙ and_right (are_distinct filled.done) (not (among filled.done cell.position)) (not_from_true (among filled.done cell.position) (sym (filled.has.held cell.position) ∙ held)))

    pub filled_more : (cell : Cell) (new : MemoryBook) → cell_in count (view item) ≡ Some cell → AddsCell (Ok tt) book new cell → Filled count items sheets new (i + 1)
    filled_more cell new is (absent, sets, holds_more) =
        let same : CellReferenceIndex → Bool = λ place. same_cell cell.position place in
        let old : Contents = book_with sheets filled.done in
        let was : contents_of book ≡ old = filled.has.contents in
        record {
          done = filled.done ++ cell ∷ [];
          first = found_more cell is;
          distinct = are_distinct-last filled.done cell ∙ ap₂ (λ distinct any. distinct && not any) filled.distinct (sym (filled.has.held cell.position) ∙ absent);
          has = record {
            contents = one_contents (contents_of new) (book_with sheets (filled.done ++ cell ∷ []))
                (λ place. sets.values place ∙ ap (λ (book : Contents). if same place then cell.value else book.value place) was ∙ sym (map_or-if (λ (cell : Cell). cell.value) Empty (same place) cell (last_at filled.done place)) ∙ ap (λ last. option_map_or (λ (cell : Cell). cell.value) last Empty) (sym (last_at-last filled.done cell place)))
                (λ place. sets.formats place ∙ ap (λ (book : Contents). if same place then cell.num_fmt else book.num_fmt place) was ∙ sym (and_then-if (λ (cell : Cell). cell.num_fmt) (same place) cell (last_at filled.done place)) ∙ ap (λ last. option_and_then (λ (cell : Cell). cell.num_fmt) last) (sym (last_at-last filled.done cell place)))
                (λ place. sets.formulas place ∙ ap (λ (book : Contents). if same place then cell.formula else book.formula place) was ∙ sym (and_then-if (λ (cell : Cell). cell.formula) (same place) cell (last_at filled.done place)) ∙ ap (λ last. option_and_then (λ (cell : Cell). cell.formula) last) (sym (last_at-last filled.done cell place)))
                (sets.sheets ∙ ap (λ (book : Contents). book.sheets) was);
            held = λ place. holds_more place ∙ ap (λ any. same place || any) (filled.has.held place) ∙ or-comm (same place) (among filled.done place) ∙ sym (list_any-last (λ one. same_cell one.position place) filled.done cell);
          };
        }
