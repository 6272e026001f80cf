use Rattle.line_account.proofs.Unexplained.{never_changed}
use Rattle.line_account.proofs.absurd.no_tab_changes_its_entry.Goals as goal

pub returns : goal.returns
returns c start r script w o m url bytes x e rules is oq oa mq ma differs = differs (never_changed r script w rules o m url bytes x e is oq oa mq ma)
