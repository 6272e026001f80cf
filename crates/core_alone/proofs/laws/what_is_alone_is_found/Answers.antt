use Rattle.core_alone.proofs.Finding.{finds_held, finds_link, finds_side, finds_word}
use Rattle.core_alone.proofs.laws.what_is_alone_is_found.Goals as goal

pub returns-clause-word : goal.returns-clause-word
returns-clause-word c start left k s i v m a alone at may lt is on = finds_word left k s i v m alone at may a lt is on

pub returns-clause-side : goal.returns-clause-side
returns-clause-side c start left k s i v m side a alone at may lt is on = finds_side left k s i v m alone at may side a lt is on

pub returns-clause-link : goal.returns-clause-link
returns-clause-link c start left k s i v m a slot alone at may lt is there on = finds_link left k s i v m alone at may a slot lt is there on

pub returns-clause-held : goal.returns-clause-held
returns-clause-held c start left k s i v m t a slot tab alone at may is there is_at holds on =
    finds_held left k s i v m alone at may t a slot tab is there is_at holds on
