use Rattle.std.proofs.Common.{All, List, [], ap, arith, length, refl, subst, sym, ◌++◌, ◌∙◌, ◌∷◌, ◌≡◌}
use Rattle.std.proofs.lemmas.List.{length-append}
use Rattle.std.specs.FinMap.{get}
use Rattle.rock_disk.specs.File.{Files}
use Rattle.store_rule.specs.declared.store.Pass.{Pass}
use Rattle.store_rule.specs.Closing.{IsResting}
use Rattle.store_rule.specs.Passes.{AreNumbered, IsOf, KeepsRoom, basis, view}
use Rattle.rock_run.specs.Offered.{offers_of}
use Rattle.test_wiping.proofs.Both.{all_two, none_left, two_are}
use Rattle.test_wiping.proofs.serving.left_by.Goals as goal

pub station-requires : goal.station-requires
station-requires g c t = c.opened_cells_are_the_files.ensures.there _ _ _ _ _ _ _ (c.in-Ok.ensures.opened.out t)

pub station-requires-2 : goal.station-requires-2
station-requires-2 g c t = let there = c.opened_cells_are_the_files.ensures.there _ _ _ _ _ _ _ (c.in-Ok.ensures.opened.out t) in (there.0, ap (λ (files : Files). get files (100 ∷ 98 ∷ [])) c.station.ensures.files ∙ there.1)

pub end_station-requires : goal.end_station-requires
end_station-requires g c =
    let kept = g.met.V.Volume.ended_were_made c.open_store.new.volume in
    let made = c.in-Ok-station.ensures.made in
    let made_again = c.in_default-station-2.ensures.refused in
    let ended = ap length (c.station-2.ensures.ended ∙ c.station.ensures.ended) in
    omega (arith, kept, made, made_again, ended)

pub serve_all-pass-requires-clause-may : goal.serve_all-pass-requires-clause-may
serve_all-pass-requires-clause-may g c κs within =
    let over = c.in-Ok.ensures.opened.store in
    let store = c.in-Ok.open.store in
    let ps = c.in-Ok.open.passes.items in
    let pass = c.in-Some-pop.pass in
    let long : length ps ≡ 2 = let known = c.in-Ok.open.passes.ok.0 in let many = over.many in omega arith in
    let two = two_are c.pop-2.new.self.items c.pop.new.self.items ps pass c.in-Some.second c.in-Some.ensures.items c.in-Some-pop.ensures.items long in
    record {
      own = subst (All (IsOf g.V.C.Cell.tells g.V.C.Cell.state offers_of store)) two (c.new_passes_rest.ensures.own store ps over.new) 0 pass (omega arith);
      rest = subst (All IsResting) two (c.new_passes_rest.ensures.rest store ps over.new) 0 pass (omega arith);
      cells = λ first. subst (KeepsRoom (basis g.V.C.Cell.tells g.V.C.Cell.state offers_of store).setting.slots) two
          (subst (λ n. KeepsRoom n ps) (sym over.slots_are) over.room);
    }

pub serve_all-pass-requires-clause-number : goal.serve_all-pass-requires-clause-number
serve_all-pass-requires-clause-number g c κs within =
    let over = c.in-Ok.ensures.opened.store in
    let ps = c.in-Ok.open.passes.items in
    let pass = c.in-Some-pop.pass in
    let long : length ps ≡ 2 = let known = c.in-Ok.open.passes.ok.0 in let many = over.many in omega arith in
    let two = two_are c.pop-2.new.self.items c.pop.new.self.items ps pass c.in-Some.second c.in-Some.ensures.items c.in-Some-pop.ensures.items long in
    subst AreNumbered two over.numbered 0 pass refl

pub serve_all-pass-requires-clause-second : goal.serve_all-pass-requires-clause-second
serve_all-pass-requires-clause-second g c κs within =
    let over = c.in-Ok.ensures.opened.store in
    let store = c.in-Ok.open.store in
    let ps = c.in-Ok.open.passes.items in
    let second = c.in-Some.second in
    let long : length ps ≡ 2 = let known = c.in-Ok.open.passes.ok.0 in let many = over.many in omega arith in
    let two = two_are c.pop-2.new.self.items c.pop.new.self.items ps c.in-Some-pop.pass second c.in-Some.ensures.items c.in-Some-pop.ensures.items long in
    let number : (view second).pass ≡ 1 = subst AreNumbered two over.numbered 1 second refl in
    record {
      own = subst (All (IsOf g.V.C.Cell.tells g.V.C.Cell.state offers_of store)) two (c.new_passes_rest.ensures.own store ps over.new) 1 second (omega arith);
      rest = subst (All IsResting) two (c.new_passes_rest.ensures.rest store ps over.new) 1 second (omega arith);
      cells = λ first. absurd (omega (arith, first, number));
    }

pub serve_all-pass-requires-clause-second_number : goal.serve_all-pass-requires-clause-second_number
serve_all-pass-requires-clause-second_number g c κs within =
    let over = c.in-Ok.ensures.opened.store in
    let ps = c.in-Ok.open.passes.items in
    let second = c.in-Some.second in
    let long : length ps ≡ 2 = let known = c.in-Ok.open.passes.ok.0 in let many = over.many in omega arith in
    let two = two_are c.pop-2.new.self.items c.pop.new.self.items ps c.in-Some-pop.pass second c.in-Some.ensures.items c.in-Some-pop.ensures.items long in
    subst AreNumbered two over.numbered 1 second refl

pub end_station-requires-2 : goal.end_station-requires-2
end_station-requires-2 g c =
    let kept = g.met.V.Volume.ended_were_made c.open_store.new.volume in
    let made = c.in-Ok-station.ensures.made in
    let made_again = c.in-Ok-station-2.ensures.made in
    let ended = ap length (c.station-2.ensures.ended ∙ c.station.ensures.ended) in
    omega (arith, kept, made, made_again, ended)

pub end_station-requires-3 : goal.end_station-requires-3
end_station-requires-3 g c =
    let kept = g.met.V.Volume.ended_were_made c.open_store.new.volume in
    let made = c.in-Ok-station.ensures.made in
    let made_again = c.end_station-2.ensures.made ∙ c.in-Ok-station-2.ensures.made in
    let before = ap length (c.station-2.ensures.ended ∙ c.station.ensures.ended) in
    let ended = ap length c.end_station-2.ensures.ended ∙ length-append (g.V.Volume.ended c.station-2.new.self) (_ ∷ []) in
    omega (arith, kept, made, made_again, before, ended)

pub close_counted-requires-clause-own : goal.close_counted-requires-clause-own
close_counted-requires-clause-own g c =
    let store = c.in-Ok.open.store in
    let ps = c.in-Ok.open.passes.items in
    let long : length ps ≡ 2 = let known = c.in-Ok.open.passes.ok.0 in let many = c.in-Ok.ensures.opened.store.many in omega arith in
    let none = none_left c.pop-2.new.self.items c.pop.new.self.items ps c.in-Some-pop.pass c.in-Some.second c.in-Some.ensures.items c.in-Some-pop.ensures.items long in
    let left = c.serve_all-pass.result.0 in
    let second = c.serve_all-pass.new.second in
    let again = c.push_reserved-2.ensures.items ∙ ap (λ (xs : List (Pass g.row.V-C.Denot)). xs ++ second ∷ []) (c.push_reserved.ensures.items ∙ ap (λ (xs : List (Pass g.row.V-C.Denot)). xs ++ left ∷ []) none) in
    subst (All (IsOf g.V.C.Cell.tells g.V.C.Cell.state offers_of store)) (sym again)
    (all_two (IsOf g.V.C.Cell.tells g.V.C.Cell.state offers_of store) left second c.serve_all-pass.ensures.may.own c.serve_all-pass.ensures.second.own)

pub close_counted-requires-clause-rest : goal.close_counted-requires-clause-rest
close_counted-requires-clause-rest g c =
    let ps = c.in-Ok.open.passes.items in
    let long : length ps ≡ 2 = let known = c.in-Ok.open.passes.ok.0 in let many = c.in-Ok.ensures.opened.store.many in omega arith in
    let none = none_left c.pop-2.new.self.items c.pop.new.self.items ps c.in-Some-pop.pass c.in-Some.second c.in-Some.ensures.items c.in-Some-pop.ensures.items long in
    let left = c.serve_all-pass.result.0 in
    let second = c.serve_all-pass.new.second in
    let again = c.push_reserved-2.ensures.items ∙ ap (λ (xs : List (Pass g.row.V-C.Denot)). xs ++ second ∷ []) (c.push_reserved.ensures.items ∙ ap (λ (xs : List (Pass g.row.V-C.Denot)). xs ++ left ∷ []) none) in
    subst (All IsResting) (sym again) (all_two IsResting left second c.serve_all-pass.ensures.may.rest c.serve_all-pass.ensures.second.rest)

pub close_counted-requires-clause-room : goal.close_counted-requires-clause-room
close_counted-requires-clause-room g c =
    let over = c.in-Ok.ensures.opened.store in
    let ps = c.in-Ok.open.passes.items in
    let pass = c.in-Some-pop.pass in
    let long : length ps ≡ 2 = let known = c.in-Ok.open.passes.ok.0 in let many = over.many in omega arith in
    let none = none_left c.pop-2.new.self.items c.pop.new.self.items ps pass c.in-Some.second c.in-Some.ensures.items c.in-Some-pop.ensures.items long in
    let two = two_are c.pop-2.new.self.items c.pop.new.self.items ps pass c.in-Some.second c.in-Some.ensures.items c.in-Some-pop.ensures.items long in
    let left = c.serve_all-pass.result.0 in
    let second = c.serve_all-pass.new.second in
    let again = c.push_reserved-2.ensures.items ∙ ap (λ (xs : List (Pass g.row.V-C.Denot)). xs ++ second ∷ []) (c.push_reserved.ensures.items ∙ ap (λ (xs : List (Pass g.row.V-C.Denot)). xs ++ left ∷ []) none) in
    subst (KeepsRoom (basis g.V.C.Cell.tells g.V.C.Cell.state offers_of c.in-Ok.open.store).setting.slots) (sym again)
    (c.serve_all-pass.ensures.may.cells (c.serve_all-pass.ensures.number ∙ subst AreNumbered two over.numbered 0 pass refl))
