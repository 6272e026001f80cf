-- A request is answered as by the plain store, but for versions, and what it left is shown.
use Rattle.std.proofs.Common.{Bool, ap, subst, sym, ◌∙◌, ◌≡◌, ℕ}
use Rattle.rock_disk.specs.Cell.{CellState}
use Rattle.script_text.specs.declared.answer.Answer.{Answer}
use Rattle.plain_model.specs.Writing.{Step}
use Rattle.plain_laws.specs.Renaming.{renamed}
use Rattle.store_rule.specs.declared.store.Pass.{Pass}
use Rattle.store_rule.specs.declared.store.Store.{Store}
use Rattle.store_rule.specs.Ground.{Offers}
use Rattle.plain_runs.specs.Words.{Lot, whole_lot}
use Rattle.plain_runs.proofs.OwnVersions.{same_answer}
use Rattle.plain_runs.proofs.ShowingOthers.{ShowsOn}

module _ {C O : Type 0} (tells : Bool) (state : C → CellState) (offers : O → Offers) (s : Store C O) where
  -- The answer is that of the plain store's step, and the tab and all that the pass knows is what the step leaves.
  pub record IsAs (a : Answer) (q : Pass C) (t : ℕ) (made : Step) : Type 0 where
    pub answered : a ≡ made.answer
    pub shows : ShowsOn tells state offers s (λ v. v) whole_lot q made.after t

  -- The answer has the versions that stand for those of the plain store's step, which leaves what is shown.
  pub record IsRenamed (rename : ℕ → ℕ) (lot : Lot) (a : Answer) (q : Pass C) (t : ℕ) (made : Step) : Type 0 where
    pub answered : a ≡ renamed rename made.answer
    pub shows : ShowsOn tells state offers s rename lot q made.after t

  -- of a step that is this one
  pub renamed_step : (rename : ℕ → ℕ) (lot : Lot) (a : Answer) (q : Pass C) (t : ℕ) (made step : Step) → made ≡ step → a ≡ renamed rename step.answer → ShowsOn tells state offers s rename lot q step.after t → IsRenamed rename lot a q t made
  renamed_step rename lot a q t made step e answered shows = record {
    answered = answered ∙ ap (λ (z : Step). renamed rename z.answer) (sym e);
    shows = subst (λ (z : Step). ShowsOn tells state offers s rename lot q z.after t) (sym e) shows;
  }

  -- where each version stands for itself
  pub own_step : (a : Answer) (q : Pass C) (t : ℕ) (made : Step) → IsRenamed (λ v. v) whole_lot a q t made → IsAs a q t made
  own_step a q t made h = record { answered = h.answered ∙ same_answer made.answer; shows = h.shows }
