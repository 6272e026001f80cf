use Rattle.line_account.proofs.UnexplainedTabs.{its_body}
use Rattle.line_account.proofs.absurd_tabs.no_tab_gives_another_body.Goals as goal

pub returns : goal.returns
returns c start r script w p o m url bytes body x rules y is pq pa oq oa mq ma ne = ne (its_body r script w rules p o m url body x is pq pa oq oa mq y bytes ma)
