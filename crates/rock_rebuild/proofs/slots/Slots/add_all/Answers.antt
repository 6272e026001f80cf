use Rattle.std.proofs.Common.{◌≡◌, ◌≤◌, ◌++◌, ◌∷◌, [], ◌+◌, ◌-◌, ◌*◌, ℕ, length, ap, sym, subst, refl, ◌∙◌, arith, append-nil}
use Rattle.std.proofs.lemmas.List.{length_push}
use Rattle.rock_disk.proofs.Cells.{room_next}
use Rattle.rock_rebuild.specs.Read.{images_in}
use Rattle.rock_rebuild.specs.Slots.{AreRead}
use Rattle.rock_rebuild.proofs.Cells.{image_more, images_done, read_more}
use Rattle.rock_rebuild.proofs.slots.Slots.add_all.Goals as goal

none_passed : (many : ℕ) → many ≡ many - 0
none_passed many = omega arith

pub loop-place-init : goal.loop-place-init
loop-place-init c = record {
  room = subst (λ n. n * c.args.slot ≤ length c.args.images.now) (none_passed c.args.many) c.requires.room;
  done = [];
  cut = ap (λ n. images_in n c.args.slot c.args.images.now) (sym (none_passed c.args.many));
  count = refl;
  read = λ before at was. subst (λ images. AreRead c.args.slots c.args.slot images c.args.self.now) (sym (append-nil before)) was;
  table = omega arith;
  heads = omega arith;
}

pub loop-place-preserved : goal.loop-place-preserved
loop-place-preserved c =
    let a = c.args in
    let so = c.loop-place.invariant in
    let place = c.loop-place.place in
    let image = c.split_at.result.0.now in
    record {
      room = room_next place a.many a.slot _ _ c.loop-place-test.true so.room c.split_at.ensures.back_len;
      done = so.done ++ image ∷ [];
      cut = image_more so.done place a.many a.slot c.loop-place.rest.now c.split_at.result.1.now image _ c.loop-place-test.true c.split_at.ensures.front c.split_at.ensures.back so.cut;
      count = length_push so.done image ∙ ap (λ n. n + 1) so.count;
      read = λ before at was. read_more a.slots a.slot a.first place a.self.now c.loop-place.self c.add.new.self so.done before image so.count so.read c.in_ok-add.ensures.read at was;
      table = omega (arith, c.in_ok-add.ensures.count.0, so.table);
      heads = omega (arith, c.in_ok-add.ensures.count.1, so.heads);
    }

pub returns-clause-read : goal.returns-clause-read
returns-clause-read c before at was =
    let a = c.args in
    let so = c.loop-place.invariant in
    subst (λ images. AreRead a.slots a.slot (before ++ images) c.loop-place.self) (images_done so.done c.loop-place.place a.many a.slot c.loop-place.rest.now _ (omega arith) so.cut) (so.read before at was)
