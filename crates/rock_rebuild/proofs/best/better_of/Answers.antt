use Rattle.std.proofs.Common.{◌≡◌, ◌+◌, drop, ap, sym, refl, subst, arith, rules}
use Rattle.std.specs.Prelude.{Some, None}
use Rattle.std.specs.List.{slice_get}
use Rattle.std.proofs.lemmas.Option.{slice_get_read}
use Rattle.rock_rebuild.specs.Best.{BestOf, IsBestOf, found_at}
use Rattle.rock_rebuild.proofs.Options.{one_of, not_both}
use Rattle.rock_rebuild.proofs.Choosing.{takes, remains}
use Rattle.rock_rebuild.proofs.best.better_of.Goals as goal

pub returns-then-kept-found : goal.returns-then-kept-found
returns-then-kept-found c anchors anchor up at behind =
    let found = c.args.found.now in
    let here : slice_get found c.args.place ≡ Some c.index-found-place.result = slice_get_read found _ c.args.place c.index-found-place.result refl c.requires c.index-found-place.is in
    let kept : found_at found c.args.best ≡ Some c.in-Some.kept.now = search rules in
    let is : IsBestOf anchors anchor (drop (c.args.place + 1) found) c.in-Some.kept.now = subst (BestOf anchors anchor (drop (c.args.place + 1) found)) kept behind in
    subst (BestOf anchors anchor (drop c.args.place found)) (sym kept)
    (remains anchors anchor c.args.place found c.index-found-place.result c.in-Some.kept.now here is (omega (arith, c.if-kept-found.true, ap (λ g. g.version) c.index-found-place.is)))

pub returns-else-kept-found : goal.returns-else-kept-found
returns-else-kept-found c anchors anchor up at behind =
    let found = c.args.found.now in
    let here : slice_get found c.args.place ≡ Some c.index-found-place.result = slice_get_read found _ c.args.place c.index-found-place.result refl c.requires c.index-found-place.is in
    let kept : found_at found c.args.best ≡ Some c.in-Some.kept.now = search rules in
    takes anchors anchor c.args.place found (found_at found c.args.best) up at behind
    (λ b f is there. omega (arith, c.if-kept-found.false, ap (λ g. g.version) c.index-found-place.is, ap (λ g. g.version) (one_of kept is), ap (λ g. g.version) (one_of here there)))

pub returns-in_default : goal.returns-in_default
returns-in_default c anchors anchor up at behind =
    let none : found_at c.args.found.now c.args.best ≡ None = search rules in
    takes anchors anchor c.args.place c.args.found.now (found_at c.args.found.now c.args.best) up at behind
    (λ b f is there. absurd (not_both none is))
