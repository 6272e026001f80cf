use Rattle.std.proofs.Common.{◌≡◌, ◌++◌, [], ℕ, List, length, take, drop, refl, ap, sym, ◌∙◌, arith, rules, drop-drop, length-append, length-drop, length-take}
use Rattle.rock_rebuild.proofs.Cells.{part_is_wide, some_more}
use Rattle.rock_rebuild.proofs.read.read_slots.Goals as goal

-- a buffer keeps its length, whatever a call has put in front
same_length : (len : ℕ) (new items : List ℕ) → length items ≡ len → length (take len (new ++ drop (length new) items)) ≡ len
same_length len new items e =
    omega (arith, e, length-take len (new ++ drop (length new) items), length-append new (drop (length new) items), length-drop (length new) items)

pub loop-next-init : goal.loop-next-init
loop-next-init g c = (
  record {
    within = omega arith;
    table = c.in_ok-slots.ensures.count.0;
    heads = c.in_ok-slots.ensures.count.1;
    passed = [];
    are = record { count = refl; wide = λ k d within. absurd (omega (arith, within)); told = λ t. refl };
    read = c.in_ok-slots.ensures.none (length c.args.cells.now) c.args.slot;
  },
  refl,
  search rules,
  refl,
)

pub read_part-requires-clause-wide : goal.read_part-requires-clause-wide
read_part-requires-clause-wide g c =
    part_is_wide g.St.C.Cell.state c.args.cells.now c.split_at.result.0.now c.args.slot c.loop-next.next c.min-some.result c.requires.wide
    (c.split_at.ensures.front ∙ ap (take c.min-some.result) c.loop-next.invariant.1)

pub loop-next-preserved : goal.loop-next-preserved
loop-next-preserved g c =
    let so = c.loop-next.invariant in
    let next = c.loop-next.next in
    let some = c.min-some.result in
    let cells = c.args.cells.now in
    let read = c.in_ok-read_part.ensures.read in
    let long : length c.loop-next.images.items ≡ c.loop-next.images.len = sym (ap length c.deref_mut.ensures.value) ∙ c.deref_mut.ensures.len in (
      some_more g.St.C.Cell.state g.St.C.Cell.tells cells c.split_at.result.0.now c.loop-next.slots c.read_part.new.slots c.args.slot next some read.0
          so.0 (omega arith) (c.split_at.ensures.front ∙ ap (take some) so.1) c.split_at.ensures.front_len read.1 read.2 c.in_ok-read_part.ensures.count,
      c.split_at.ensures.back ∙ (ap (drop some) so.1 ∙ drop-drop some next cells),
      same_length c.loop-next.images.len _ c.loop-next.images.items long ∙ (sym long ∙ so.2),
      c.in_ok-read_part.ensures.unfailed (λ e. absurd (cc)) ∙ so.3,
    )
