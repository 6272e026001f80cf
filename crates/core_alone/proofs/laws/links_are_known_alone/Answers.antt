use Rattle.core_alone.proofs.LinkSteps.{look_finds, loosen_finds, publish_finds}
use Rattle.core_alone.proofs.laws.links_are_known_alone.Goals as goal

pub returns-clause-published : goal.returns-clause-published
returns-clause-published c start left k s i v t a slot link so alone at may is_at is =
    publish_finds left k s i v so alone at a is may.pass t slot link may is_at

pub returns-clause-loosened : goal.returns-clause-loosened
returns-clause-loosened c start left k s i v t a slot so alone at may is_at is =
    loosen_finds left k s i v so alone at a is may.pass t slot may is_at

pub returns-clause-looked : goal.returns-clause-looked
returns-clause-looked c start left k s i v t a slot so alone at may is_at is =
    look_finds left k s i v so alone at a is may.pass t slot may is_at
