-- What the run of a store that was opened over a file says of the entries of the opening.
use Rattle.std.proofs.Common.{List, ap, arith, cond, sym, ⊎_elim, ◌<◌, ◌≡◌, ◌⊎◌, ◌∙◌, Bool, ℕ}
use Rattle.std.specs.Prelude.{nat_lt}
use Rattle.std.proofs.lemmas.Bool.{lt-ltb}
use Rattle.store_key.specs.Anchor.{back_half, front_half}
use Rattle.store_key.specs.Key.{key_of}
use Rattle.lock_word.specs.Words.{stage_of}
use Rattle.core_model.specs.Anchors.{opening_epoch}
use Rattle.store_rule.specs.Ground.{Ground}
use Rattle.line_account.specs.Answers.{Run}
use Rattle.line_account.specs.Printed.{HadEntry, old_offer}
use Rattle.crew_accounts.specs.Openings.{HadKept, HadNone, IsOldEntry}
use Rattle.crew_accounts.specs.Runs.{Past, run_of}

-- where a is below b the first of two is taken
first_taken : (a b : ℕ) (x y : List ℕ) → a < b → cond (nat_lt a b) x y ≡ x
first_taken a b x y lt = ap (λ (t : Bool). cond t x y) (lt-ltb a b lt)

module _ (g : Ground (List ℕ)) (told : Bool) (past : Past) (slot anchors : ℕ) (images : List (List ℕ)) (a : ℕ) where
  abbrev run : Run (List ℕ)
  run = run_of g told past

  -- of the entry that the anchor had, the past has the URL and the body
  abbrev IsToldOf : HadKept g slot anchors images a → Type 0
  IsToldOf h = (past.url h.entry.first ≡ h.entry.url) × (past.body h.entry.first ≡ h.entry.body)

  -- and then the run has them
  old_of : (h : HadKept g slot anchors images a) → IsToldOf h → IsOldEntry run slot images a
  old_of h is =
      let first = h.entry.first in
      let url : run.url (old_offer run a) ≡ h.entry.url = ap run.url h.offer ∙ first_taken first g.setting.slots (past.url first) _ h.below ∙ is.0 in
      let body : run.body (old_offer run a) ≡ h.entry.body = ap run.body h.offer ∙ first_taken first g.setting.slots (past.body first) _ h.below ∙ is.1 in
      let complete = h.winner.complete in
      record {
        stored = record { entry = h.entry; complete = complete; url_is = sym url; body_is = sym body };
        keyed = record {
          front = h.key0 ∙ ap front_half complete.key_of_url ∙ ap (λ (u : List ℕ). front_half (key_of u)) (sym url);
          back = h.key1 ∙ ap back_half complete.key_of_url ∙ ap (λ (u : List ℕ). back_half (key_of u)) (sym url);
        };
      }

  -- one that had none is not at CLOSED
  none_had : HadNone g slot anchors images a → HadEntry run a → ⊥
  none_had h there = let epoch = h.epoch in let none : stage_of (opening_epoch g.setting a) ≡ 0 = ap stage_of epoch in omega arith

  pub old_entry : HadKept g slot anchors images a ⊎ HadNone g slot anchors images a → ((h : HadKept g slot anchors images a) → IsToldOf h)
      → HadEntry run a → IsOldEntry run slot images a
  old_entry either is there = ⊎_elim
      (λ (h : HadKept g slot anchors images a). old_of h (is h))
      (λ (h : HadNone g slot anchors images a). absurd (none_had h there))
      either
