use Rattle.core_room.proofs.Passed.{no_search_passes}
use Rattle.core_room.proofs.laws.no_search_passes_all_slots.Goals as goal

pub returns : goal.returns
returns c start k s capacity i t w place room is_tab at = no_search_passes k capacity s room i t w place is_tab at
