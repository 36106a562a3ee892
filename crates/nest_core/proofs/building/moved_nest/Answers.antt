use Rattle.nest_core.proofs.Builts.{fits-nest, fits-sound, wrong-nest}
use Rattle.nest_core.proofs.building.moved_nest.Goals as goal

pub returns-in-Size-clause-nest : goal.returns-in-Size-clause-nest
returns-in-Size-clause-nest c =
    let call = rw c.as_slice.ensures at c.reshaped_size.ensures in
    fits-nest c.args.asked.reshape c.args.parts.sizes c.args.parts.nests c.args.asked.pad c.args.limit c.reshaped_size.result c.in-Size.size c.in-Size.is call.value call.answer

pub returns-in-Size-clause-sound : goal.returns-in-Size-clause-sound
returns-in-Size-clause-sound c =
    let call = rw c.as_slice.ensures at c.reshaped_size.ensures in
    fits-sound c.args.asked.reshape c.args.parts.sizes c.args.parts.nests c.args.asked.pad c.reshaped_size.result c.in-Size.size c.in-Size.is call.answer call.places
    c.requires.numbers c.args.parts.sound c.requires.some

pub returns-in-Wrong-clause-nest : goal.returns-in-Wrong-clause-nest
returns-in-Wrong-clause-nest c =
    let call = rw c.as_slice.ensures at c.reshaped_size.ensures in
    wrong-nest c.args.asked.reshape c.args.parts.sizes c.args.parts.nests c.args.asked.pad c.args.limit c.reshaped_size.result c.in-Wrong.error c.in-Wrong.is call.value
