use Rattle.std.proofs.Common.{◌≡◌, Some, ap, sym, ◌∙◌, subst, refl}
use Rattle.std.specs.Prelude.{MatchOption}
use Rattle.std.specs.List.{slice_get}
use Rattle.std.proofs.lemmas.Option.{slice_get_read}
use Rattle.store_key.specs.Anchor.{anchor_of}
use Rattle.rock_rebuild.proofs.Choosing.{one_more}
use Rattle.rock_rebuild.proofs.best.keep.Goals as goal

pub returns-clause-best : goal.returns-clause-best
returns-clause-best c up are =
    let f = c.index-found-place.result in
    let a = c.anchor_of-anchor.result in
    let found = c.args.found.now in
    let at = sym (c.anchor_of-anchor.ensures.value ∙ ap (λ g. anchor_of g.key c.args.anchors) (sym c.index-found-place.is)) in
    let there : slice_get found c.args.place ≡ Some f = slice_get_read found _ c.args.place f refl c.requires.inside c.index-found-place.is in
    let is = c.better_of.ensures c.args.anchors a up (subst (λ o. MatchOption o ⊥ (λ g. anchor_of g.key c.args.anchors ≡ a)) (sym there) at) (are.each a c.anchor_of-anchor.ensures.below) in
    one_more c.args.anchors a c.args.place found c.args.best.now f c.better_of.result are c.anchor_of-anchor.ensures.below there at is
