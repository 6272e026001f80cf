use Rattle.std.proofs.Common.{◌++◌, ◌∙◌, ◌∷◌, Option, Some, [], ap, arith, map, refl, reverse, sym}
use Rattle.std.specs.Option.{option_to_list}
use Rattle.cell_places.proofs.CellLists.{all_full, front_full, moves_on, turned_back}
use Rattle.cell_places.proofs.cells.from_places.Goals as goal

pub loop-place-init : goal.loop-place-init
loop-place-init g c = let e = c.reverse.ensures in let row = c.requires.full in record {
  moved = turned_back _ _ e.items ∙ ap (λ z. map Some z ++ reverse c.reverse.new.self.items) (sym c.requires.empty);
  full = (reverse row.0, e.items ∙ ap reverse row.1 ∙ all_full row.0);
  room = let r = c.requires.room in let l = e.len in let n = c.requires.empty in let z = ap Rattle.std.proofs.Common.length n in omega arith;
}

pub unreachable-requires : goal.unreachable-requires
unreachable-requires g c = let i = c.loop-place.invariant in let p = c.pop.ensures in
    let f = front_full c.pop.new.self.items c.in-Some.place i.full.0 (sym (p.items ∙ ap (λ z. c.pop.new.self.items ++ option_to_list z) c.in-Some.is) ∙ i.full.1) in
    c.in_default-place.not-Some f.2.0 f.2.1

pub loop-place-preserved : goal.loop-place-preserved
loop-place-preserved g c = let i = c.loop-place.invariant in let p = c.pop.ensures in
    let popped = p.items ∙ ap (λ z. c.pop.new.self.items ++ option_to_list z) c.in-Some.is in
    let f = front_full c.pop.new.self.items c.in-Some.place i.full.0 (sym popped ∙ i.full.1) in record {
      moved = moves_on c.loop-place.cells.items c.in-Some-place.cell c.loop-place.places.items c.pop.new.self.items c.in-Some.place _ i.moved popped c.in-Some-place.is
          ∙ ap (λ z. map Some z ++ reverse c.pop.new.self.items) (sym c.in-Ok.ensures.items);
      full = (f.0, f.1);
      room = let a = c.in-Ok.ensures.len in let b = c.in-Ok.ensures.capacity in let d = c.in-Some.ensures.len in let r = i.room in omega arith;
    }
