use Rattle.rock_writer.proofs.Durable.{so_far_on, whole_on}
use Rattle.rock_writer.proofs.laws.logged_pieces_stay_known.Goals as goal

pub returns-clause-so_far : goal.returns-clause-so_far
returns-clause-so_far g c ground entry before after more h = so_far_on ground entry before after more h

pub returns-clause-whole : goal.returns-clause-whole
returns-clause-whole g c ground entry before after more h = whole_on ground entry before after more h
