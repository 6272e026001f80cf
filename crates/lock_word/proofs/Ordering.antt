-- The order of epochs is that of their numbers.
use Rattle.std.proofs.Common.{◌≡◌, ℕ, ◌+◌, ◌*◌, ◌<◌, Bool, true, false, arith, sym, subst}
use Rattle.std.proofs.lemmas.Bool.Decides.{nat_tests}
use Rattle.std.proofs.lemmas.Cmp.{nat_cmp_total, on_total}
use Rattle.std.specs.declared.cmp.Ordering.TheVariants.{Less}
use Rattle.std.specs.Cmp.{IsTotalOrder}
use Rattle.std.specs.Ordering.{nat_cmp, bool_cmp, ordering_then, on}
use Rattle.lock_word.specs.declared.epoch.Epoch.{Epoch}
use Rattle.lock_word.specs.Words.{epoch_number, doom_number, stage_number}
use Rattle.lock_word.specs.Order.{epoch_cmp}
use Rattle.lock_word.proofs.Parts.{stage_below}

pub by_number : (e f : Epoch) → epoch_cmp e f ≡ nat_cmp (epoch_number e) (epoch_number f)
by_number e f = parts e.version f.version e.doom f.doom (stage_number e.stage) (stage_number f.stage) (stage_below e.stage) (stage_below f.stage)
  where
    parts : (v w : ℕ) (b c : Bool) (s t : ℕ) → s < 7 → t < 7 → ordering_then (nat_cmp v w) (ordering_then (bool_cmp b c) (nat_cmp s t)) ≡ nat_cmp (65536 * v + 8 * doom_number b + s) (65536 * w + 8 * doom_number c + t)
    parts v w false false s t p q = grind (arith, nat_tests)
    parts v w false true s t p q = grind (arith, nat_tests)
    parts v w true false s t p q = grind (arith, nat_tests)
    parts v w true true s t p q = grind (arith, nat_tests)

pub total : IsTotalOrder epoch_cmp
total =
    let same : on epoch_number nat_cmp ≡ epoch_cmp = λ i e f. sym (by_number e f) i in
    subst IsTotalOrder same (on_total epoch_number nat_cmp_total)

pub less : (x y : ℕ) → (nat_cmp x y ≡ Less → x < y) × (x < y → nat_cmp x y ≡ Less)
less x y = (λ is. grind (arith, nat_tests), λ below. grind (arith, nat_tests))
