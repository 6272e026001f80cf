use Rattle.std.proofs.Common.{[], ap, refl, subst, sym}
use Rattle.script_text.specs.declared.answer.Answer.{Answer}
use Rattle.line_account.specs.Answers.{TellsDoom}
use Rattle.line_account.specs.Lines.{url_at}
use Rattle.line_account.proofs.Alone.{no_hit}
use Rattle.line_account.proofs.examples.no_hit_follows_a_wipe.Goals as goal

pub returns-clause-wiped : goal.returns-clause-wiped
returns-clause-wiped c start r w begin last p h url bytes e y o pq pa gq ga same =
    no_hit r w begin last p h url bytes e y o (ap (url_at []) pq) (subst (λ (z : Answer). TellsDoom z e) (sym pa) refl) gq ga same

pub returns-clause-later : goal.returns-clause-later
returns-clause-later c start r w begin last p h url bytes e y o pq pa gq ga same =
    no_hit r w begin last p h url bytes e y o (ap (url_at []) pq) (subst (λ (z : Answer). TellsDoom z e) (sym pa) refl) gq ga same
