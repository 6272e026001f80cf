use Rattle.std.proofs.Common.{Contains, IsErr, IsTrue, ap, arith, length, refl, replicate, subst, sym, ◌<◌, ◌∙◌, ◌≡◌, ℕ}
use Rattle.std.proofs.lemmas.List.{length-replicate}
use Rattle.page_pool.specs.declared.view.View.{View}
use Rattle.page_pool.specs.Ruled.{IsPage}
use Rattle.page_pool.specs.Seats.{key, view}
use Rattle.page_pool.specs.Views.{after_take}
use Rattle.mem_cache.specs.Pages.{pages_left}
use Rattle.mem_cache.proofs.Left.{left_less, left_none}
use Rattle.mem_cache.proofs.Taken.{taken_more}
use Rattle.mem_cache.proofs.Zeros.{new_more}
use Rattle.mem_cache.proofs.opening.take_cells.Goals as goal

pub returns-in_default-clause-all : goal.returns-in_default-clause-all
returns-in_default-clause-all g c lt =
    let i = c.loop-number.invariant in
    let about = key c.args.pool.now in
    let v = view c.loop-number.seat in
    let all = (c.take.ensures.lone i.alone).0 (subst (λ z. IsErr z) (sym c.in_default.is) refl) in
    let none : length (pages_left about v) ≡ 0 = left_none about v all in
    let len = sym c.loop-number.cells.ok.0 ∙ i.count in
    let left = i.left in omega (arith, none, len, left)

pub loop-number-preserved : goal.loop-number-preserved
loop-number-preserved g c =
    let i = c.loop-number.invariant in
    let about = key c.args.pool.now in
    let v = view c.loop-number.seat in
    let w = view c.take.new.seat in
    let page = c.in-Ok.ensures.page in
    let cell = c.new.result in
    let push = c.push_reserved.ensures in
    let number : cell.page.number ≡ c.in-Ok.page.number = c.new.ensures.page in
    let zeros : cell.page.bytes.items ≡ replicate about.size 0 = c.new.ensures.zeros ∙ ap (λ (n : ℕ). replicate n 0) page.size in
    let is_page : IsPage about cell.page.number cell.page = record {
      number = refl;
      within = subst (λ (n : ℕ). n < about.pages) (sym number) page.within;
      size = ap length zeros ∙ length-replicate about.size 0;
    } in
    let free : (Contains v.held cell.page.number → ⊥) = λ h. c.in-Ok.ensures.free (subst (Contains v.held) number h) in
    let took : w ≡ after_take cell.page.number v = c.in-Ok.ensures.took ∙ ap (λ (n : ℕ). after_take n v) (sym number) in
    let len = sym c.loop-number.cells.ok.0 ∙ i.count in
    record {
      to = omega (arith, c.loop-number-test.true);
      own = c.take.ensures.own;
      alone = subst (λ (z : View). IsTrue z.is_alone) (sym took) i.alone;
      count = let long = push.len in let count = i.count in omega (arith, long, count);
      room = let same = push.capacity in let room = i.room in omega (arith, same, room);
      taken = taken_more about (view c.args.seat.now) c.loop-number.cells.items c.push_reserved.new.self.items cell push.items v w i.taken is_page free took;
      new = new_more about.size c.loop-number.cells.items c.push_reserved.new.self.items cell push.items i.new (c.new.ensures.number ∙ sym len) zeros;
      left = let less = left_less about v cell.page.number w is_page.within free took in let left = i.left in omega (arith, less, left);
    }
