-- What was read of the format is put in under its name.
use Rattle.std.proofs.Common.{if◌then◌else◌, option_map, ap, ◌∙◌}
use Rattle.std.specs.Str.{bytes_eq}
use Rattle.units_core.specs.Formats.{parts_of}
use Rattle.unit_json.proofs.formats.add_format.Goals as goal

pub returns : goal.returns
returns c = (
  (c.args.num_fmt.now, c.in_ok-part.part),
  ap (λ found. option_map (λ said. (c.args.num_fmt.now, said)) found) c.in_ok-part.ensures,
  λ other. c.in_ok-set.ensures.done other
      ∙ ap (λ name. if bytes_eq other name then c.in_ok-part.part else parts_of c.args.formats.now other) c.in_ok-num_fmt.ensures,
)
