use Rattle.std.proofs.Common.{All, ap, arith, length, subst, sym, take, ◌<◌, ◌∙◌}
use Rattle.std.proofs.lemmas.List.Elements.{All-push}
use Rattle.rock_run.specs.Crews.{MayRest}
use Rattle.rock_run.proofs.Fronts.{image_put, next, taken}
use Rattle.rock_run.proofs.crew.dismiss.Goals as goal

pub loop-preserved : goal.loop-preserved
loop-preserved g c =
    let i = c.loop.invariant in let k = c.loop.counter in let x = c.remove.result in
    let lt : k < length c.args.shelves.items = omega arith in
    let more = taken c.args.shelves.items c.loop.shelves.items c.remove.new.self.items k x i.0 lt c.remove.ensures.value c.remove.ensures.by_index.2 in
    let parts = c.into_parts-pass.ensures in (
      next c.args.shelves.items c.loop.shelves.items c.remove.new.self.items k x i.0 lt c.remove.ensures.value c.remove.ensures.by_index.2,
      image_put (λ shelf. shelf.pass) c.loop.passes.items c.push_reserved.new.self.items k c.args.shelves.items x c.into_parts-pass.result.0 more i.1 c.push_reserved.ensures.items (ap (λ z. z.0) parts.parts),
      image_put (λ shelf. shelf.station) c.loop.stations.items c.push_reserved-in-loop.new.self.items k c.args.shelves.items x c.into_parts-pass.result.1 more i.2 c.push_reserved-in-loop.ensures.items (ap (λ z. z.1) parts.parts),
      subst (All (λ shelf. MayRest g.C.Cell.tells g.C.Cell.state g.O.Origin.offers shelf.store shelf.pass)) (sym more)
          (All-push (λ shelf. MayRest g.C.Cell.tells g.C.Cell.state g.O.Origin.offers shelf.store shelf.pass) (take k c.args.shelves.items) x i.3
          (subst (λ p. MayRest g.C.Cell.tells g.C.Cell.state g.O.Origin.offers x.store p) (ap (λ z. z.0) parts.parts) record { own = parts.own; rest = parts.rest; cells = parts.cells })),
      omega arith,
      omega arith,
      c.push_reserved.ensures.capacity ∙ i.6,
      c.push_reserved-in-loop.ensures.capacity ∙ i.7,
    )
