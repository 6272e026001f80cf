use Rattle.std.proofs.Common.{sym, ◌∙◌}
use Rattle.rock_disk.proofs.Places.{told_where_found}
use Rattle.rock_disk.proofs.memory.entry.has_file.Goals as goal

pub returns : goal.returns
returns c = c.is_some.ensures ∙ sym (told_where_found c.args.name.now c.args.entries.now c.place_of.result c.place_of.ensures)
