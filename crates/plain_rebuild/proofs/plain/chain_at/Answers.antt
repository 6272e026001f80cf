use Rattle.std.proofs.Common.{vec_len, zero, suc, rules, ◌≡◌, refl, pos, negsuc, ◌+◌, true, nat_eq, ℤ, ◌≤ℤ◌, to_z, of_z, sym, subst, arith, ap, ◌∙◌}
use Rattle.std.specs.Prelude.{FitsSigned}
use Rattle.std.specs.List.{list_any}
use Rattle.std.proofs.lemmas.Bool.{true≢false}
use Rattle.std.proofs.Math.IntN.{nat_abs}
use lib.Dec.{T, is_le}
use Prim.Native.Nat.compare
use lib.Signed.{non_neg}
use Rattle.std.specs.Int.Signed.{pos-nat_abs}
use Rattle.std.specs.Int.{w32, cast_signed, cast_unsigned}
use Rattle.std.proofs.lemmas.Int.{to_z-of_z}
use Rattle.rebuild_model.specs.Image.{BelongsTo}
use Rattle.plain_rebuild.proofs.Walking.{Walked, at_first, one_more, ended, strays, returns_to, shorter}
use Rattle.plain_rebuild.proofs.plain.chain_at.Goals as goal
use Rattle.plain_rebuild.proofs.plain.chain_at.Goals.{then-walk-test+else-not-contains, else-walk-test}

natural : (z : ℤ) → (z ≡ negsuc 0 → ⊥) → negsuc 0 ≤ℤ z → T (non_neg z)
natural (pos n) not from = tt
natural (negsuc zero) not from = absurd (not refl)
natural (negsuc (suc n)) not from = absurd (subst (λ o. T (is_le o)) (compare.suc-zero n) from.le)

-- a link that is not -1 is the number of a slot
goes : (z : ℤ) → FitsSigned w32 z → (z ≡ negsuc 0 → ⊥) → negsuc 0 ≤ℤ z → z ≡ pos (nat_abs (to_z w32 (of_z w32 z)))
goes z fits not from = sym (ap (λ k. pos (nat_abs k)) (to_z-of_z w32 z fits) ∙ pos-nat_abs z (natural z not from))

-- src/plain.rt:74:5
pub walk-init : goal.walk-init
walk-init c = subst (λ xs. Walked c.args.slot c.args.images.now c.args.first xs c.args.first) (sym c.new-chain.ensures.items) (at_first c.args.slot c.args.images.now c.args.first)

-- src/plain.rt:78:13
pub returns-then-next : goal.returns-then-next
returns-then-next c =
    let belongs : BelongsTo c.args.slot c.args.images.now c.args.first c.walk.at = c.walk-test.ensures.0 refl in
    let fits : FitsSigned w32 c.header_of_slot-next.result.next_slot = search rules in
    let last : c.header_of_slot-next.result.next_slot ≡ negsuc 0 = sym (to_z-of_z w32 _ fits) ∙ ap (cast_signed w32) c.if-next.true in
    ended c.args.slot c.args.images.now c.args.first c.walk.chain.items c.push.new.self.items c.walk.at c.walk.invariant c.in_ok-push.ensures.items belongs (search rules) (sym (ap (λ h. h.next_slot) c.header_of_slot-next.ensures) ∙ last)

-- src/plain.rt:74:5
pub walk-smaller : goal.walk-smaller
walk-smaller c =
    let belongs : BelongsTo c.args.slot c.args.images.now c.args.first c.walk.at = c.walk-test.ensures.0 refl in
    let less = shorter c.args.slot c.args.images.now c.args.first c.walk.chain.items c.walk.at c.walk.invariant belongs (search rules) in
    let grown : vec_len c.push.new.self ≡ vec_len c.walk.chain + 1 = c.in_ok-push.ensures.len in
    omega (arith, less, grown)

-- src/plain.rt:74:5
pub walk-preserved : goal.walk-preserved
walk-preserved c =
    let belongs : BelongsTo c.args.slot c.args.images.now c.args.first c.walk.at = c.walk-test.ensures.0 refl in
    let fits : FitsSigned w32 c.header_of_slot-next.result.next_slot = search rules in
    let same = ap (λ h. h.next_slot) c.header_of_slot-next.ensures in
    one_more c.args.slot c.args.images.now c.args.first c.walk.chain.items c.push.new.self.items c.walk.at _ c.walk.invariant c.in_ok-push.ensures.items belongs (search rules)
    (sym same ∙ goes c.header_of_slot-next.result.next_slot fits (λ last. c.if-next.false (ap (cast_unsigned w32) last)) (subst (λ h. negsuc 0 ≤ℤ h.next_slot) (sym c.header_of_slot-next.ensures) belongs.sane.sane.next_from))

-- src/plain.rt:60:1
pub returns : goal.returns
returns c =
    elim c.walk-test.branch [
      | then-walk-test+else-not-contains w ↦
          let there : list_any (λ x. nat_eq x c.walk.at) c.walk.chain.items ≡ true =
          subst (λ xs. list_any (λ x. nat_eq x c.walk.at) xs ≡ true) w.deref.ensures.value (sym w.contains.ensures.value ∙ w.if-not-contains.false) in
          returns_to c.args.slot c.args.images.now c.args.first c.walk.chain.items c.walk.at c.walk.invariant there
      | else-walk-test w ↦ strays c.args.slot c.args.images.now c.args.first c.walk.chain.items c.walk.at c.walk.invariant (λ belongs. true≢false (sym (c.belongs_to.ensures.1 belongs) ∙ w.walk-test.false))
    ]
