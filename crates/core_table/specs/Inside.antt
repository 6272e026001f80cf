-- What does not change while a core is open, as contracts see it.
use Rattle.core_model.specs.Layout.{Setting}
use Rattle.core_table.specs.declared.content.Content.{Content}
use Rattle.core_table.specs.declared.content.Content.TheVariants.{Blank, Offered}
use Rattle.core_table.specs.declared.opening.Opening.{Opening}
use Rattle.core_table.specs.Machine.{opened_from}

abbrev pub setting : Opening → Setting Content
setting o = record { anchors = o.anchors; slots = o.slots; passes = o.passes; words = o.words.items; contents = opened_from 0 o.slots; image = Offered; blank = Blank }
