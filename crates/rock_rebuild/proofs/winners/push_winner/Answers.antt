use Rattle.std.proofs.Common.{◌≡◌, ◌+◌, sym, subst, rules}
use Rattle.std.specs.Prelude.{Some}
use Rattle.rebuild_model.specs.Keeping.{HasNoneAt, IsKept, AreWinners}
use Rattle.rock_rebuild.specs.Best.{found_at}
use Rattle.rock_rebuild.proofs.Options.{at_some}
use Rattle.rock_rebuild.proofs.winners.push_winner.Goals as goal

pub returns-in_ok-push : goal.returns-in_ok-push
returns-in_ok-push c slot images anchors anchor are is =
    let there : found_at c.args.found.now c.args.place ≡ Some c.in-Some.entry.now = search rules in
    let kept : IsKept slot images anchors anchor c.in-Some.entry.now = at_some (HasNoneAt slot images anchors anchor) (IsKept slot images anchors anchor) there is in
    subst (AreWinners slot images anchors (anchor + 1)) (sym c.in_ok-push.ensures.items)
    (c.winners_are_gathered.ensures.more slot images anchors anchor c.args.winners.now.items _ are (subst (IsKept slot images anchors anchor) (sym c.in_ok-copy_of.ensures) kept))
