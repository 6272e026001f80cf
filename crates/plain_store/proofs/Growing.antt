-- Growing goes on by one publishing.
use Rattle.std.proofs.Common.{◌≡◌, ℕ, suc, ◌+◌, ◌-◌, ◌<◌, ap, arith, Bool, cond, refl, sym, ◌∙◌, subst}
use Rattle.std.specs.Prelude.{Option, Some, None, is_some}
use Rattle.plain_model.specs.declared.store.Setting.{Setting}
use Rattle.plain_model.specs.declared.store.Plain.{Plain}
use Rattle.plain_model.specs.declared.store.Refusal.{Refusal}
use Rattle.plain_model.specs.Slots.{Grown, grown_as, publish, grow}
use Rattle.plain_store.proofs.Turning.{more_left}

-- after a publishing that was not refused
pub grow_on : (s : Setting) (anchor content i n filled : ℕ) (p q : Plain) → i < n → publish s anchor filled p ≡ grown_as q None
    → grow s anchor content (n - i) filled p ≡ grow s anchor content (n - (i + 1)) (filled + 1) q
grow_on s anchor content i n filled p q h e =
    ap (λ m. grow s anchor content m filled p) (more_left i n h)
    ∙ ap (λ g. cond (is_some g.refusal) g (grow s anchor content (n - (i + 1)) (filled + 1) g.store)) e

-- and after one that was
pub grow_refused : (s : Setting) (anchor content i n filled : ℕ) (p q : Plain) (refusal : Refusal) → i < n → publish s anchor filled p ≡ grown_as q (Some refusal)
    → grow s anchor content (n - i) filled p ≡ grown_as q (Some refusal)
grow_refused s anchor content i n filled p q refusal h e =
    ap (λ m. grow s anchor content m filled p) (more_left i n h)
    ∙ ap (λ g. cond (is_some g.refusal) g (grow s anchor content (n - (i + 1)) (filled + 1) g.store)) e
