use Rattle.core_room.proofs.Renewed.{room_learned}
use Rattle.core_room.proofs.laws.notes_learned_keep_room.Goals as goal

pub returns : goal.returns
returns c start k s capacity i v item n u room at = room_learned k capacity s room i v at item n u
