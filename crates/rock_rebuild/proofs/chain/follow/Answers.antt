use Rattle.std.proofs.Common.{rules, ◌≡◌, ◌+◌, ◌<◌, negsuc, pos, of_z, length, None, ap, sym, refl, subst, ◌∙◌, arith}
use Rattle.std.specs.Prelude.{FitsSigned}
use Rattle.std.proofs.Math.ListN.{length-set}
use Rattle.std.proofs.lemmas.List.{length_push}
use Rattle.std.specs.Int.{w32, cast_signed, cast_unsigned}
use Rattle.std.proofs.lemmas.Int.{to_z-of_z}
use Rattle.rock_rebuild.specs.Left.{AreLeft}
use Rattle.rock_rebuild.proofs.Links.{goes}
use Rattle.rock_rebuild.proofs.Counting.{left_in, one_fewer, few_left}
use Rattle.rock_rebuild.proofs.Following.{Followed, Takes, at_first, one_more, none_left, passed, left_behind, left_after, strays, ended, other_size, not_full}
use Rattle.rock_rebuild.proofs.chain.follow.Goals as goal

pub returns-in_default-clause-followed : goal.returns-in_default-clause-followed
returns-in_default-clause-followed c images file left =
    (passed c.args.slot images c.args.first c.args.table.now left, none_left c.args.slot images c.args.first c.args.table.now left (sym c.header.ensures ∙ c.in_default.is))

pub walk-init : goal.walk-init
walk-init c = (
  λ images file left. subst (λ xs. Followed c.args.slot images c.args.first c.in-Some.head xs c.args.first 0 c.args.table.now) (sym c.clear.ensures.items)
      (at_first c.args.slot images c.args.first c.in-Some.head c.args.table.now left (sym c.header.ensures ∙ c.in-Some.is)),
  omega arith,
  refl,
  omega (arith, ap length c.clear.ensures.items),
)

pub overflow_add-size : goal.overflow_add-size
overflow_add-size c =
    let taken = c.in-Some-take.ensures in
    let fewer = one_fewer c.walk.table c.walk.at c.in-Some-take.header taken.1 in
    let few = few_left c.args.table.now in
    let small : c.in-Some-take.header.payload_size < 4294967296 = search rules in
    omega (arith, c.walk.invariant.1, fewer, few, small)

pub returns-then-header-size-clause-followed : goal.returns-then-header-size-clause-followed
returns-then-header-size-clause-followed c images file left =
    let f = c.walk.invariant.0 images file left in
    let taken = c.in-Some-take.ensures in
    let t : Takes c.args.first c.walk.at c.in-Some.head c.in-Some-take.header c.walk.table c.take.new.self = record { after_is = taken.0; was = taken.1; of = taken.2 } in
    let fits : FitsSigned w32 c.in-Some-take.header.next_slot = search rules in
    let last : c.in-Some-take.header.next_slot ≡ negsuc 0 = sym (to_z-of_z w32 _ fits) ∙ ap (cast_signed w32) c.if-header.true in (
      left_after c.args.slot images c.args.first c.in-Some.head c.walk.chain.items c.walk.at c.walk.size c.walk.table c.take.new.self c.in-Some-take.header f t,
      other_size c.args.slot images c.args.first c.in-Some.head c.walk.chain.items c.walk.at c.walk.size (c.walk.size + c.from-size.result) c.walk.table c.take.new.self c.in-Some-take.header f t
          (ap (λ n. c.walk.size + n) c.from-size.ensures) last c.if-header-size.true,
    )

pub returns-then-header-clause-followed : goal.returns-then-header-clause-followed
returns-then-header-clause-followed c images file left =
    let f = c.walk.invariant.0 images file left in
    let taken = c.in-Some-take.ensures in
    let t : Takes c.args.first c.walk.at c.in-Some.head c.in-Some-take.header c.walk.table c.take.new.self = record { after_is = taken.0; was = taken.1; of = taken.2 } in
    let fits : FitsSigned w32 c.in-Some-take.header.next_slot = search rules in
    let last : c.in-Some-take.header.next_slot ≡ negsuc 0 = sym (to_z-of_z w32 _ fits) ∙ ap (cast_signed w32) c.if-header.true in (
      left_after c.args.slot images c.args.first c.in-Some.head c.walk.chain.items c.walk.at c.walk.size c.walk.table c.take.new.self c.in-Some-take.header f t,
      ended c.args.slot images c.args.first c.in-Some.head c.walk.chain.items c.walk.at c.walk.size c.walk.table c.take.new.self c.in-Some-take.header _ _ f t
          c.in_ok-push.ensures.items (ap (λ n. c.walk.size + n) c.from-size.ensures) last c.if-header-size.false,
    )

pub returns-then-from-clause-followed : goal.returns-then-from-clause-followed
returns-then-from-clause-followed c images file left =
    let f = c.walk.invariant.0 images file left in
    let taken = c.in-Some-take.ensures in
    let t : Takes c.args.first c.walk.at c.in-Some.head c.in-Some-take.header c.walk.table c.take.new.self = record { after_is = taken.0; was = taken.1; of = taken.2 } in
    let told = (f.told c.walk.at c.in-Some-take.header taken.1).1 in (
      left_after c.args.slot images c.args.first c.in-Some.head c.walk.chain.items c.walk.at c.walk.size c.walk.table c.take.new.self c.in-Some-take.header f t,
      not_full c.args.slot images c.args.first c.in-Some.head c.walk.chain.items c.walk.at _ c.walk.size c.walk.table c.take.new.self c.in-Some-take.header f t
          (goes c.in-Some-take.header.next_slot (λ last. c.if-header.false (ap (cast_unsigned w32) last)) told.sane.next_from)
          (λ full. c.if-from.true (ap (λ n. n + 40) c.from.ensures ∙ full ∙ sym c.from-in-Some-take.ensures)),
    )

pub walk-preserved : goal.walk-preserved
walk-preserved c =
    let taken = c.in-Some-take.ensures in
    let fits : FitsSigned w32 c.in-Some-take.header.next_slot = search rules in
    let small : c.in-Some-take.header.payload_size < 4294967296 = search rules in
    let fewer = one_fewer c.walk.table c.walk.at c.in-Some-take.header taken.1 in
    let after : left_in c.take.new.self + 1 ≡ left_in c.walk.table = ap (λ t. left_in t + 1) taken.0 ∙ fewer in
    let more = c.walk.invariant.1 in (
      λ images file left.
          let f = c.walk.invariant.0 images file left in
          let told = (f.told c.walk.at c.in-Some-take.header taken.1).1 in
          one_more c.args.slot images c.args.first c.in-Some.head c.walk.chain.items c.push.new.self.items c.walk.at c.cast_unsigned-at.result c.walk.size (c.walk.size + c.from-size.result) c.walk.table c.take.new.self c.in-Some-take.header
          f record { after_is = taken.0; was = taken.1; of = taken.2 } c.in_ok-push.ensures.items (ap (λ n. c.walk.size + n) c.from-size.ensures)
          (goes c.in-Some-take.header.next_slot (λ last. c.if-header.false (ap (cast_unsigned w32) last)) told.sane.next_from ∙ ap pos (ap (of_z w32) (sym (to_z-of_z w32 _ fits)) ∙ sym c.cast_unsigned-at.ensures))
          (sym (ap (λ n. n + 40) c.from.ensures) ∙ c.if-from.false ∙ c.from-in-Some-take.ensures),
      omega (arith, after, more, small, c.from-size.ensures),
      ap length taken.0 ∙ length-set c.walk.table c.walk.at None ∙ c.walk.invariant.2,
      omega (arith, after, ap length c.in_ok-push.ensures.items, length_push c.walk.chain.items c.walk.at, c.walk.invariant.3),
    )

pub returns-clause-followed : goal.returns-clause-followed
returns-clause-followed c images file left =
    let f = c.walk.invariant.0 images file left in
    let same = c.in_default-take.ensures in
    (subst (AreLeft c.args.slot images (c.args.first + 1)) (sym same.0) (left_behind c.args.slot images c.args.first c.in-Some.head c.walk.chain.items c.walk.at c.walk.size c.walk.table f), strays c.args.slot images c.args.first c.in-Some.head c.walk.chain.items c.walk.at c.walk.size c.walk.table f same.1)

pub returns-then-header-size-clause-few : goal.returns-then-header-size-clause-few
returns-then-header-size-clause-few c =
    omega (arith, ap length c.in_ok-push.ensures.items, length_push c.walk.chain.items c.walk.at, one_fewer c.walk.table c.walk.at c.in-Some-take.header c.in-Some-take.ensures.1, c.walk.invariant.3, few_left c.args.table.now)

pub returns-then-header-clause-few : goal.returns-then-header-clause-few
returns-then-header-clause-few c =
    omega (arith, ap length c.in_ok-push.ensures.items, length_push c.walk.chain.items c.walk.at, one_fewer c.walk.table c.walk.at c.in-Some-take.header c.in-Some-take.ensures.1, c.walk.invariant.3, few_left c.args.table.now)

pub returns-then-from-clause-few : goal.returns-then-from-clause-few
returns-then-from-clause-few c =
    omega (arith, ap length c.in_ok-push.ensures.items, length_push c.walk.chain.items c.walk.at, one_fewer c.walk.table c.walk.at c.in-Some-take.header c.in-Some-take.ensures.1, c.walk.invariant.3, few_left c.args.table.now)

pub returns-clause-few : goal.returns-clause-few
returns-clause-few c = omega (arith, c.walk.invariant.3, few_left c.args.table.now)
