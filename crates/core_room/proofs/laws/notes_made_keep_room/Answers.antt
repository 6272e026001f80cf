use Rattle.core_room.proofs.Renewed.{room_noted_at, room_noted_behind}
use Rattle.core_room.proofs.laws.notes_made_keep_room.Goals as goal

pub returns-clause-behind : goal.returns-clause-behind
returns-clause-behind c start k s capacity i v item room at = room_noted_behind k capacity s room i v at item

pub returns-clause-at : goal.returns-clause-at
returns-clause-at c start k s capacity i v item n room at = room_noted_at k capacity s room i v at item n
