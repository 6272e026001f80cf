-- Beginning on a free tab, where the URL fits.
use Rattle.std.proofs.Common.{◌≡◌, ℕ, ◌+◌, ◌≤◌, List, length, ap, sym, ◌∙◌, arith, Bool, false, cond}
use Rattle.std.specs.Prelude.{nat_lt}
use Rattle.std.proofs.lemmas.Bool.Decides.{nat_tests}
use Rattle.store_key.specs.Key.{key_of}
use Rattle.store_key.specs.Anchor.{anchor_of}
use Rattle.script_text.specs.declared.answer.Answer.TheVariants as answer
use Rattle.plain_model.specs.declared.entry.Entry.{Entry}
use Rattle.plain_model.specs.declared.store.Setting.{Setting}
use Rattle.plain_model.specs.declared.store.Plain.{Plain}
use Rattle.plain_model.specs.Writing.{Step, step, entry_of, begin_at, begin_free}

fits_test : (room size : ℕ) → size ≤ room → nat_lt room size ≡ false
fits_test room size h = grind (arith, nat_tests)

pub begin_fits : (s : Setting) (tab : ℕ) (url body : List ℕ) (offer : ℕ) (p : Plain) (anchor : ℕ) (e : Entry) (r : Step)
    → 32 + length url ≤ s.room → anchor ≡ anchor_of (key_of url) s.anchors → e ≡ entry_of url body offer → begin_at s tab anchor e p ≡ r
    → begin_free s tab url body offer p ≡ r
begin_fits s tab url body offer p anchor e r fits anchored made begun =
    ap (λ b. cond b (step answer.LongUrl p) (begin_at s tab (anchor_of (key_of url) s.anchors) (entry_of url body offer) p)) (fits_test s.room (32 + length url) fits)
    ∙ sym (ap (λ x. begin_at s tab x (entry_of url body offer) p) anchored)
    ∙ sym (ap (λ x. begin_at s tab anchor x p) made)
    ∙ begun
