use Rattle.core_slots.proofs.NewsSteps.{among_known, among_news}
use Rattle.core_slots.proofs.news.is_known.Goals as goal

pub returns-then-contains : goal.returns-then-contains
returns-then-contains c piece e = among_news piece c.args.sight.now e c.args.news.now c.args.known.now _ c.contains.ensures.value c.if-contains.true

pub returns-else-contains : goal.returns-else-contains
returns-else-contains c piece e =
    among_known piece c.args.sight.now e c.args.news.now c.args.known.now _ c.as_slice.ensures _ _ c.contains.ensures.value c.if-contains.false c.contains-else-contains.ensures.value
