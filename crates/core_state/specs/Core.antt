-- What a core shows of what it keeps, and what it always is.
use Rattle.core_model.specs.Sound.{Sound}
use Rattle.core_state.specs.declared.machine.Core.TheInside.{Inside}
use Rattle.core_table.specs.Machine.{Machine}
use Rattle.core_table.specs.Inside.{setting}
use Rattle.core_change.specs.Inside.{state}

abbrev pub machine_of : Inside → Machine
machine_of c = record {
  anchors = c.opening.anchors;
  slots = c.opening.slots;
  passes = c.opening.passes;
  opening = c.opening.words.items;
  words = c.table.words.items;
  places = c.table.places.items;
  views = c.table.views.items;
  chains = c.table.chains.items;
}

abbrev pub IsSound : Inside → Type 0
IsSound c = Sound (setting c.opening) (state c.table)
