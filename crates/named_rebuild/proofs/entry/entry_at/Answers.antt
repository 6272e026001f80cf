use Rattle.std.proofs.Common.{sym, ◌∙◌}
use Rattle.named_rebuild.proofs.Facts.{blank_begins_none}
use Rattle.named_rebuild.proofs.entry.entry_at.Goals as goal

pub returns-in-Blank : goal.returns-in-Blank
returns-in-Blank c f q here = blank_begins_none c.args.file.now c.args.contents.now c.args.first (sym c.content_at.ensures ∙ c.in-Blank.is) f q here
