use Rattle.std.proofs.Common.{arith, length, ◌<◌, ◌∙◌}
use Rattle.rock_run.proofs.Fronts.{all_put, next, put_image, taken}
use Rattle.rock_run.proofs.crew.hire.Goals as goal

pub loop-preserved : goal.loop-preserved
loop-preserved g c =
    let i = c.loop.invariant in let k = c.loop.counter in let x = c.with_room.result in
    let lt : k < length c.args.passes.now.items = omega arith in
    let lt1 : k < length c.args.stations.now.items = omega arith in
    let lt2 : k < length c.args.rooms.items = omega arith in
    let pass = taken c.args.passes.now.items c.loop.passes.items c.remove-pass.new.self.items k c.remove-pass.result i.0 lt c.remove-pass.ensures.value c.remove-pass.ensures.by_index.2 in
    let station = taken c.args.stations.now.items c.loop.stations.items c.remove-station.new.self.items k c.remove-station.result i.1 lt1 c.remove-station.ensures.value c.remove-station.ensures.by_index.2 in (
      next c.args.passes.now.items c.loop.passes.items c.remove-pass.new.self.items k c.remove-pass.result i.0 lt c.remove-pass.ensures.value c.remove-pass.ensures.by_index.2,
      next c.args.stations.now.items c.loop.stations.items c.remove-station.new.self.items k c.remove-station.result i.1 lt1 c.remove-station.ensures.value c.remove-station.ensures.by_index.2,
      next c.args.rooms.items c.loop.rooms.items c.remove.new.self.items k c.remove.result i.2 lt2 c.remove.ensures.value c.remove.ensures.by_index.2,
      put_image (λ shelf. shelf.pass) c.loop.shelves.items c.push_reserved.new.self.items k c.args.passes.now.items c.remove-pass.result x pass i.3 c.push_reserved.ensures.items c.with_room.ensures.1,
      put_image (λ shelf. shelf.station) c.loop.shelves.items c.push_reserved.new.self.items k c.args.stations.now.items c.remove-station.result x station i.4 c.push_reserved.ensures.items c.with_room.ensures.2,
      all_put (λ shelf. shelf.store) c.loop.shelves.items c.push_reserved.new.self.items x _ c.push_reserved.ensures.items i.5 c.with_room.ensures.0,
      omega arith,
      c.push_reserved.ensures.capacity ∙ i.7,
      c.remove-pass.ensures.capacity ∙ i.8,
      c.remove-station.ensures.capacity ∙ i.9,
    )
