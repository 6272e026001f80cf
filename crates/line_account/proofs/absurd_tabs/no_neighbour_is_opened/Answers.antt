use Rattle.line_account.proofs.UnexplainedTabs.{opened_key}
use Rattle.line_account.proofs.absurd_tabs.no_neighbour_is_opened.Goals as goal

pub returns : goal.returns
returns c start r script w p s url other body x rules is ne pq pa sq sa = ne (opened_key r script w rules p s url other body x is pq pa sq sa)
