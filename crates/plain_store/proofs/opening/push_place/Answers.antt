use Rattle.std.proofs.Common.{◌≡◌, sym}
use Rattle.plain_store.proofs.Searching.{places_grow}
use Rattle.plain_store.proofs.opening.push_place.Goals as goal

pub returns : goal.returns
returns c = places_grow c.args.anchors c.args.kept.now c.args.anchor c.args.places.now.items c.push.new.self.items c.in_ok-place.place c.requires.before c.in_ok-push.ensures.items c.in_ok-place.ensures
