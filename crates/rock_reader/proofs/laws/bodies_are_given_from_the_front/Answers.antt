use Rattle.rock_reader.proofs.Prefix.{front_of_body, whole_body}
use Rattle.rock_reader.proofs.laws.bodies_are_given_from_the_front.Goals as goal

pub returns-clause-front : goal.returns-clause-front
returns-clause-front c g anchor offer places url body sized response few = front_of_body g anchor offer url body record { joined = c.pieces_make_the_content.ensures.joined; last = c.pieces_make_the_content.ensures.last } sized response places few

pub returns-clause-whole : goal.returns-clause-whole
returns-clause-whole c g anchor offer url body sized response = whole_body g anchor offer url body record { joined = c.pieces_make_the_content.ensures.joined; last = c.pieces_make_the_content.ensures.last } sized response
