use Rattle.line_account.proofs.UnexplainedTabs.{never_halted}
use Rattle.line_account.proofs.absurd_tabs.nothing_stored_is_halted.Goals as goal

pub returns : goal.returns
returns c start r script w p o m url bytes body x rules is pq pa oq oa mq ma = never_halted r script w rules p o m url body x is pq pa oq oa mq bytes ma
