-- What a plain nest is over a book.
--   rows_in   its rectangle
use Rattle.std.specs.Prelude.{List}
use Rattle.value_core.specs.declared.array.ArrayNode.{ArrayNode}
use Rattle.book_core.specs.Contents.{Contents}
use Rattle.nest_core.specs.Shown.{shown}
use Rattle.nest_core.specs.declared.plain_nest.PlainNest.{PlainNest}

abbrev pub rows_in : Contents → PlainNest → List (List ArrayNode)
rows_in book nest = shown book nest.held
