-- What a drop comes to, computed on the way up.
--   in_context  whether a drop fits in a context
--   some_probe  a probe that fits in some context; none where it fits in neither
--   probe_of    what a drop at a place comes to
--   probe_here  at the node itself
--   fits_above, probe_above  at a node, from what it comes to at its part i, of so many
use Rattle.std.specs.Prelude.{ℕ, Bool, true, false, ◌&&◌, ◌||◌, if◌then◌else◌, Option, Some, None}
use Rattle.kind_table.specs.Table.{Table}
use Rattle.tree_core.specs.Place.{Place}
use Rattle.import_core.specs.declared.rule.ImportRule.{ImportRule}
use Rattle.export_marks.specs.Trial.{allows}
use Rattle.mark_core.specs.declared.mark.Known.{Known}
use Rattle.mark_core.specs.declared.mark.Mark.{Mark}
use Rattle.mark_core.specs.declared.mark.Seen.{Seen}
use Rattle.mark_core.specs.declared.probe.Fits.{Fits}
use Rattle.mark_core.specs.declared.probe.Probe.{Probe}
use Rattle.mark_core.specs.Mark.{known_of, face, seen}
use Rattle.mark_core.specs.Drop.{bared, commit_of, fits_of, shape_with, wants_part}

abbrev pub in_context : Bool → Fits → Bool
in_context wanted fits = if wanted then fits.wanted else fits.unwanted

abbrev pub some_probe : Seen → Fits → Option Probe
some_probe after fits = if fits.unwanted || fits.wanted then Some (record { seen = after; fits = fits }) else None

abbrev pub probe_of : ImportRule → Table → Mark → Place → Option Probe
probe_of which table mark place =
    some_probe (seen (known_of (commit_of table mark place))) (record { unwanted = fits_of which table false mark place; wanted = fits_of which table true mark place })

abbrev pub probe_here : Table → Known → Option Probe
probe_here table known = some_probe (seen (bared table known)) (record { unwanted = false; wanted = known.range_like })

abbrev pub fits_above : ImportRule → Table → Bool → Known → (count i : ℕ) → Known → Probe → Bool
fits_above which table wanted known count i part below =
    allows (wants_part which table known.form wanted count i part.shape) (wants_part which table known.form wanted count i below.seen.shape) part.settles
    && in_context (wants_part which table known.form wanted count i below.seen.shape) below.fits

abbrev pub probe_above : ImportRule → Table → Known → (count i : ℕ) → Known → Probe → Option Probe
probe_above which table known count i part below = some_probe
    (record { shape = shape_with table known i (seen part) below.seen; shows = face known })
    (record { unwanted = fits_above which table false known count i part below; wanted = fits_above which table true known count i part below })
