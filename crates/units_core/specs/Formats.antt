-- What was said of number formats.
--   parts_of  the first part of each format: the one that was set, and none where none was
--   Sets      that a part was put in for one format, and the others kept theirs
use Rattle.std.specs.Prelude.{◌≡◌, ℕ, if◌then◌else◌, List, unwrap_or}
use Rattle.std.specs.Str.{bytes_eq}
use Rattle.std.specs.BTreeMap.{get_by_text}
use Rattle.units_core.specs.declared.formats.FirstPart.{FirstPart}
use Rattle.units_core.specs.declared.formats.FirstPart.TheVariants as part
use Rattle.units_core.specs.declared.formats.MapFormats.{MapFormats}

abbrev pub parts_of : MapFormats → List ℕ → FirstPart
parts_of formats num_fmt = unwrap_or (get_by_text formats.parts num_fmt) part.None

abbrev pub Sets : (old new : List ℕ → FirstPart) → List ℕ → FirstPart → Type 0
Sets old new num_fmt part = (other : List ℕ) → new other ≡ (if bytes_eq other num_fmt then part else old other)
