use Rattle.std.proofs.Common.{inl, inr, refl, subst, sym, arith}
use Rattle.lock_word.specs.Words.{IsWord}
use Rattle.lock_word.proofs.Parts.{is_word}
use Rattle.lock_word.proofs.Bits.{some_reserved, none_reserved, reserved_is_none, mode_below, stage_below_7, unpacked}
use Rattle.lock_word.proofs.word.unpack.Goals as goal

pub returns-then-bits-ne0-clause-none : goal.returns-then-bits-ne0-clause-none
returns-then-bits-ne0-clause-none c = (λ _. inl (some_reserved c.args.bits c.if-bits-ne0.true), λ _. refl)

pub returns-then-bits-ne0-clause-word : goal.returns-then-bits-ne0-clause-word
returns-then-bits-ne0-clause-word c = (λ no_word. cc, λ is. absurd (reserved_is_none c.args.bits c.if-bits-ne0.true is))

pub returns-then-bits-ne0-clause-packed : goal.returns-then-bits-ne0-clause-packed
returns-then-bits-ne0-clause-packed c word fits is =
    absurd (reserved_is_none c.args.bits c.if-bits-ne0.true (subst IsWord (sym is) (is_word word fits)))

pub returns-clause-none : goal.returns-clause-none
returns-clause-none c = (
  λ some. cc,
  λ cause. elim cause [
    | inl reserved ↦ absurd (none_reserved c.args.bits c.if-bits-ne0.false reserved)
    | inr seven ↦ let below = stage_below_7 c.args.bits c.in_ok-stage.stage c.in_ok-stage.ensures.stage in absurd (omega arith)
  ],
)

pub returns-clause-word : goal.returns-clause-word
returns-clause-word c = (
  λ _. record {
    fits = omega arith;
    mode = mode_below c.args.bits c.if-bits-ne0.false;
    stage = stage_below_7 c.args.bits c.in_ok-stage.stage c.in_ok-stage.ensures.stage;
  },
  λ _. refl,
)

pub returns-clause-number : goal.returns-clause-number
returns-clause-number c =
    unpacked c.args.bits c.in_ok-stage.stage (omega arith) c.if-bits-ne0.false c.in_ok-stage.ensures.stage
