use Rattle.std.proofs.Common.{All, List, [], arith, length, refl, subst, sym, true, ap, ◌++◌, ◌∙◌, ◌∷◌, ◌≡◌, ℕ}
use Rattle.rock_disk.specs.declared.memory.cell.MemCell.{MemCell}
use Rattle.mem_cache.specs.declared.cell.PageCell.{PageCell}
use Rattle.mem_cache.specs.Cell.{cell_state}
use Rattle.store_rule.specs.declared.store.Pass.{Pass}
use Rattle.store_rule.specs.Closing.{IsResting}
use Rattle.store_rule.specs.Passes.{AreNumbered, IsOf, KeepsRoom, basis}
use Rattle.rock_run.specs.Offered.{offers_of}
use Rattle.test_closings.proofs.Alone.{none_before}
use Rattle.test_closings.proofs.Closable.{one_may_close}
use Rattle.test_closings.proofs.pages.served_in_pages.Goals as goal

pub serve_all-pass-requires-clause-may : goal.serve_all-pass-requires-clause-may
serve_all-pass-requires-clause-may g c κs within =
    let over = c.in-Ok.ensures.store in
    let store = c.in-Ok.store in
    let ps = c.in-Ok.passes.items in
    let pass = c.in-Some.pass in
    let single : length ps ≡ 1 = let long = c.in-Ok.passes.ok.0 in let many = over.many in omega arith in
    let none = none_before c.pop.new.self.items pass ps c.in-Some.ensures.items single in
    let one : ps ≡ pass ∷ [] = c.in-Some.ensures.items ∙ ap (λ (xs : List (Pass (PageCell MemCell))). xs ++ pass ∷ []) none in
    record {
      own = subst (All (IsOf true cell_state offers_of store)) one (c.new_passes_rest.ensures.own store ps over.new) 0 pass (omega arith);
      rest = subst (All IsResting) one (c.new_passes_rest.ensures.rest store ps over.new) 0 pass (omega arith);
      cells = λ first. subst (KeepsRoom (basis true cell_state offers_of store).setting.slots) one
          (subst (λ (n : ℕ). KeepsRoom n ps) (sym over.slots_are) over.room);
    }

pub serve_all-pass-requires-clause-number : goal.serve_all-pass-requires-clause-number
serve_all-pass-requires-clause-number g c κs within =
    let over = c.in-Ok.ensures.store in
    let ps = c.in-Ok.passes.items in
    let pass = c.in-Some.pass in
    let single : length ps ≡ 1 = let long = c.in-Ok.passes.ok.0 in let many = over.many in omega arith in
    let none = none_before c.pop.new.self.items pass ps c.in-Some.ensures.items single in
    let one : ps ≡ pass ∷ [] = c.in-Some.ensures.items ∙ ap (λ (xs : List (Pass (PageCell MemCell))). xs ++ pass ∷ []) none in
    subst AreNumbered one over.numbered 0 pass refl

pub returns : goal.returns
returns g c =
    let over = c.in-Ok.ensures.store in
    let ps = c.in-Ok.passes.items in
    let pass = c.in-Some.pass in
    let left = c.serve_all-pass.result.0 in
    let single : length ps ≡ 1 = let long = c.in-Ok.passes.ok.0 in let many = over.many in omega arith in
    let none = none_before c.pop.new.self.items pass ps c.in-Some.ensures.items single in
    let one : ps ≡ pass ∷ [] = c.in-Some.ensures.items ∙ ap (λ (xs : List (Pass (PageCell MemCell))). xs ++ pass ∷ []) none in
    let again : c.push_reserved.new.self.items ≡ left ∷ [] = c.push_reserved.ensures.items ∙ ap (λ (xs : List (Pass (PageCell MemCell))). xs ++ left ∷ []) none in
    one_may_close true cell_state offers_of c.in-Ok.store left c.push_reserved.new.self c.serve_all-pass.ensures.may
    (c.serve_all-pass.ensures.number ∙ subst AreNumbered one over.numbered 0 pass refl) over.passes_are again
