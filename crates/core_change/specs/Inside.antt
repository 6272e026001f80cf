-- How a core is kept.
use Rattle.core_model.specs.State.{State}
use Rattle.core_table.specs.declared.content.Content.{Content}
use Rattle.core_change.specs.declared.table.Table.{Table}

abbrev pub state : Table → State Content
state t = record { words = t.words.items; places = t.places.items; views = t.views.items; chains = t.chains.items }
