use Rattle.line_account.proofs.Unexplained.{refused_not_whole}
use Rattle.line_account.proofs.absurd_tabs.nothing_refused_is_given_whole.Goals as goal

pub returns : goal.returns
returns c start r script u w b d o m url bytes body x count rules y us ws bq ba dq da oq oa mq ma = refused_not_whole r script u w rules y b d o m url bytes body x count us ws bq ba dq da oq oa mq ma
