-- The number formats of a request.
--   word_in      what a word says of a format
--   number_in    what an object says of a format of numbers
--   format_in    a text is read as a word, all else as an object
--   entries_of   the members of an object: each key with its value
--   entries_in   those of a parsed object, each value as its data
--   entry_in     a number format, and what is said of it
--   said_by      all that the members of a parsed object say
--   formats_in   all that a JSON object says
--   last_in      what was said last of a format, where anything was
--   parts_with   what was said of each; nothing is known where nothing was
--   AddsFormat   a format was put in with what is said of it; it is refused exactly where nothing is
use Rattle.std.specs.Prelude.{◌≡◌, ℕ, if◌then◌else◌, List, [], ◌∷◌, map, codes, String, string_bytes, Option, Some, None, option_map, unwrap_or, Result, Ok, Err, ⊤}
use Rattle.std.specs.declared.alloc.Global.{Global}
use Rattle.std.specs.Option.{option_map_or, option_or}
use Rattle.std.specs.Str.{bytes_eq}
use Rattle.serde_json.specs.Data.{Data, Members, no_members, member}
use Rattle.serde_json.specs.Find.{as_bool, as_object, as_str}
use Rattle.serde_json.specs.View.{view}
use Rattle.serde_json.specs.declared.value.Value.{Value}
use Rattle.value_json.specs.Fields.{◌>>=◌, u32_in}
use Rattle.value_json.specs.Objects.{has_only}
use Rattle.value_json.specs.Traverse.{traverse}
use Rattle.value_json.specs.declared.error.FormError.{FormError}
use Rattle.value_json.specs.declared.error.FormError.TheVariants.{Memory, NotOfForm}
use Rattle.units_core.specs.Formats.{Sets}
use Rattle.units_core.specs.declared.formats.FirstPart.{FirstPart}
use Rattle.units_core.specs.declared.formats.FirstPart.TheVariants as part
use Rattle.unit_json.specs.Field.{at_key, i32_in}
use Rattle.unit_json.specs.declared.format.TheConstants.{NUMBER_KEYS}

abbrev pub word_in : List ℕ → Option FirstPart
word_in word =
    if bytes_eq word (codes "date") then Some part.Date
    else (if bytes_eq word (codes "general") then Some part.General
    else (if bytes_eq word (codes "error") then Some part.Error
    else None))

abbrev pub kind_in : List ℕ → Option ⊤
kind_in kind = if bytes_eq kind (codes "number") then Some tt else None

unfoldable pub number_in : Data → Option FirstPart
number_in datum = do
  exactly ← has_only (map (λ key. key.now) NUMBER_KEYS) datum
  kind ← at_key as_str (codes "kind") datum >>= kind_in
  percent ← at_key u32_in (codes "percent") datum
  use_thousands ← at_key as_bool (codes "use_thousands") datum
  precision ← at_key i32_in (codes "precision") datum
  Some (part.Number percent use_thousands precision)

abbrev pub format_in : Data → Option FirstPart
format_in datum = option_map_or word_in (as_str datum) (number_in datum)

abbrev pub entries_of : Members → List (List ℕ × Data)
entries_of no_members = []
entries_of (member key datum members) = (key, datum) ∷ entries_of members

abbrev pub entries_in : List (String Global × Value) → List (List ℕ × Data)
entries_in members = map (λ member. (string_bytes member.0, view member.1)) members

abbrev pub entry_in : List ℕ × Data → Option (List ℕ × FirstPart)
entry_in entry = option_map (λ said. (entry.0, said)) (format_in entry.1)

abbrev pub last_in : List (List ℕ × FirstPart) → List ℕ → Option FirstPart
last_in [] num_fmt = None
last_in (said ∷ later) num_fmt = option_or (last_in later num_fmt) (if bytes_eq num_fmt said.0 then Some said.1 else None)

abbrev pub parts_with : List (List ℕ × FirstPart) → List ℕ → FirstPart
parts_with said num_fmt = unwrap_or (last_in said num_fmt) part.None

abbrev pub said_by : List (String Global × Value) → Option (List ℕ → FirstPart)
said_by members = option_map parts_with (traverse entry_in (entries_in members))

abbrev pub formats_in : Data → Option (List ℕ → FirstPart)
formats_in datum = option_map parts_with (as_object datum >>= (λ members. traverse entry_in (entries_of members)))

abbrev pub AddsFormat : Result ⊤ FormError → (old new : List ℕ → FirstPart) → Option (List ℕ × FirstPart) → Type 0
AddsFormat (Ok done) old new there = (said : List ℕ × FirstPart) × (there ≡ Some said) × Sets old new said.0 said.1
AddsFormat (Err NotOfForm) old new there = there ≡ None
AddsFormat (Err Memory) old new there = ⊤
