use Rattle.std.proofs.Common.{All, List, [], ap, arith, length, refl, subst, sym, ◌++◌, ◌∙◌, ◌∷◌, ◌≡◌}
use Rattle.store_rule.specs.declared.store.Pass.{Pass}
use Rattle.store_rule.specs.Closing.{IsResting}
use Rattle.store_rule.specs.Passes.{AreNumbered, IsOf, KeepsRoom, basis}
use Rattle.rock_run.specs.Offered.{offers_of}
use Rattle.test_closings.proofs.Alone.{none_before}
use Rattle.test_closings.proofs.closing.left_by.Goals as goal

pub station-requires : goal.station-requires
station-requires g c t = c.opened_cells_are_the_files.ensures.there _ _ _ _ _ _ _ (c.in-Ok.ensures.opened.out t)

pub serve_all-pass-requires-clause-may : goal.serve_all-pass-requires-clause-may
serve_all-pass-requires-clause-may g c κs within =
    let over = c.in-Ok.ensures.opened.store in
    let store = c.in-Ok.open.store in
    let ps = c.in-Ok.open.passes.items in
    let pass = c.in-Some.pass in
    let front = c.pop.new.self.items in
    let single : length ps ≡ 1 = let long = c.in-Ok.open.passes.ok.0 in let many = over.many in omega arith in
    let none = none_before front pass ps c.in-Some.ensures.items single in
    let one : ps ≡ pass ∷ [] = c.in-Some.ensures.items ∙ ap (λ (xs : List (Pass g.row.V-C.Denot)). xs ++ pass ∷ []) none in
    record {
      own = subst (All (IsOf g.V.C.Cell.tells g.V.C.Cell.state offers_of store)) one (c.new_passes_rest.ensures.own store ps over.new) 0 pass (omega arith);
      rest = subst (All IsResting) one (c.new_passes_rest.ensures.rest store ps over.new) 0 pass (omega arith);
      cells = λ first. subst (KeepsRoom (basis g.V.C.Cell.tells g.V.C.Cell.state offers_of store).setting.slots) one
          (subst (λ n. KeepsRoom n ps) (sym over.slots_are) over.room);
    }

pub serve_all-pass-requires-clause-number : goal.serve_all-pass-requires-clause-number
serve_all-pass-requires-clause-number g c κs within =
    let over = c.in-Ok.ensures.opened.store in
    let ps = c.in-Ok.open.passes.items in
    let pass = c.in-Some.pass in
    let single : length ps ≡ 1 = let long = c.in-Ok.open.passes.ok.0 in let many = over.many in omega arith in
    let none = none_before c.pop.new.self.items pass ps c.in-Some.ensures.items single in
    let one : ps ≡ pass ∷ [] = c.in-Some.ensures.items ∙ ap (λ (xs : List (Pass g.row.V-C.Denot)). xs ++ pass ∷ []) none in
    subst AreNumbered one over.numbered 0 pass refl

pub end_station-requires : goal.end_station-requires
end_station-requires g c =
    let kept = g.met.V.Volume.ended_were_made c.open_store.new.volume in
    let made = c.in-Ok-station.ensures.made in
    let ended = ap length c.station.ensures.ended in
    omega (arith, kept, made, ended)

pub close_counted-requires-clause-room : goal.close_counted-requires-clause-room
close_counted-requires-clause-room g c =
    let over = c.in-Ok.ensures.opened.store in
    let ps = c.in-Ok.open.passes.items in
    let pass = c.in-Some.pass in
    let left = c.serve_all-pass.result.0 in
    let single : length ps ≡ 1 = let long = c.in-Ok.open.passes.ok.0 in let many = over.many in omega arith in
    let none = none_before c.pop.new.self.items pass ps c.in-Some.ensures.items single in
    let one : ps ≡ pass ∷ [] = c.in-Some.ensures.items ∙ ap (λ (xs : List (Pass g.row.V-C.Denot)). xs ++ pass ∷ []) none in
    let again : c.push_reserved.new.self.items ≡ left ∷ [] = c.push_reserved.ensures.items ∙ ap (λ (xs : List (Pass g.row.V-C.Denot)). xs ++ left ∷ []) none in
    subst (KeepsRoom (basis g.V.C.Cell.tells g.V.C.Cell.state offers_of c.in-Ok.open.store).setting.slots) (sym again)
    (c.serve_all-pass.ensures.may.cells (c.serve_all-pass.ensures.number ∙ subst AreNumbered one over.numbered 0 pass refl))
