-- Which line the deeds of a call belong to.
use Rattle.std.proofs.Common.{Contains, List, None, Some, ap, arith, false, inl, inr, refl, subst, sym, true, ℕ, ⊎_elim, ◌∙◌, ◌<◌, ◌≡◌, ◌≤◌, ◌⊎◌}
use Rattle.std.specs.Prelude.{IsTrue, ◌↔◌}
use Rattle.lock_word.specs.Words.{doom_of, epoch_number, version_of as version_in}
use Rattle.lock_word.specs.declared.epoch.Epoch.{Epoch}
use Rattle.script_text.specs.declared.answer.Answer.TheVariants as answer
use Rattle.core_model.specs.Trails.{seen_at}
use Rattle.core_model.specs.declared.view.Deed.{Deed}
use Rattle.core_model.specs.declared.view.Sight.{Sight}
use Rattle.core_model.specs.declared.view.View.{View}
use Rattle.line_account.specs.Lines.{Served}
use Rattle.line_account.specs.Deeds.{Begins, ComesTo, Evicts, Finishes, Grows, Halts, IsDeedOf, Purges, WipesInVain}
use Rattle.line_account.specs.Answers.{HasPart, Run}
use Rattle.line_account.specs.Accounts.{Shows, Tells}
use Rattle.line_account.specs.Courses.{Adds}
use Rattle.store_rule.specs.Ground.{Ground, fits}
use Rattle.rock_writer.specs.declared.fault.Ended.{Ended}
use Rattle.rock_writer.specs.declared.fault.Ended.TheVariants.{Doomed, Stored}
use Rattle.rock_writer.specs.Finishing.{is_doomed, version_of}
use Rattle.store_serve.specs.Answers.{answer_to_ended}
use Rattle.store_serve.specs.Acting.{Acted}
use Rattle.store_serve.specs.Deeds.{HasNames, Naming, OfBeginning, OfClosing, OfEnding, OfGivingUp, OfHalting, OfLeaving, OfPublishing, OfPurging, OfPutting, OfPuttingInVain, OfRefusing, OfReserving, OfVisiting}
use Rattle.store_serve.proofs.Grown.{knows_all}
use Rattle.crew_accounts.proofs.DeedLines as deed
use Rattle.crew_accounts.proofs.Shown.{ShowsInTurn}

-- how an entry ended, as its answer tells it
pub finishes : (ended : Ended) (e : ℕ) → version_in e ≡ version_of ended → (is_doomed ended ≡ true ↔ (doom_of e ≡ 1)) → Finishes (answer_to_ended ended) e
finishes (Stored x) e same doom = record {
  stored = λ z. ap answer.Stored (sym same);
  doomed = λ z. absurd (let y : false ≡ true = doom.1 z in cc);
}
finishes (Doomed x) e same doom = record {
  stored = λ z. absurd (let y : doom_of e ≡ 1 = doom.0 refl in omega arith);
  doomed = λ z. ap answer.Doomed (sym same);
}

module _ {X : Type 0} (r : Run X) (v : View X) (earlier : List Served) (s : Served) (d : Deed) where
  pub of_leaving : OfLeaving d → IsDeedOf r v d earlier s
  of_leaving (inl h) = deed.freed r v earlier s d h.kind h.stage h.was_idle
  of_leaving (inr h) = deed.gone r v earlier s d h.kind h.stage

  pub of_visiting : (a : ℕ) → ComesTo r.setting.anchors s.asked.request a → OfVisiting a d → IsDeedOf r v d earlier s
  of_visiting a comes (inl h) = deed.entered r v earlier s d h.kind (subst (ComesTo r.setting.anchors s.asked.request) (sym h.anchor) comes)
  of_visiting a comes (inr h) = of_leaving h

  pub of_purging : (a epoch : ℕ) → ComesTo r.setting.anchors s.asked.request a → Purges r.setting.anchors s a epoch ⊎ WipesInVain r.setting.anchors s a → OfPurging a epoch d → IsDeedOf r v d earlier s
  of_purging a epoch comes purges (inl h) = deed.doomed r v earlier s d h.kind h.doomed (⊎_elim
      (λ (p : Purges r.setting.anchors s a epoch). inl (subst (λ b. Purges r.setting.anchors s b d.epoch) (sym h.anchor) (subst (Purges r.setting.anchors s a) (sym h.epoch_is) p)))
      (λ (p : WipesInVain r.setting.anchors s a). inr (subst (λ b. WipesInVain r.setting.anchors s b) (sym h.anchor) p))
      purges)
  of_purging a epoch comes purges (inr h) = of_visiting a comes h

  pub of_beginning : (a version : ℕ) → Begins r.setting.anchors s a version → OfBeginning a version d → IsDeedOf r v d earlier s
  of_beginning a version begins (inl h) = deed.took r v earlier s d version h.kind h.epoch (subst (λ b. Begins r.setting.anchors s b version) (sym h.anchor) begins)
  of_beginning a version begins (inr h) = deed.gone r v earlier s d h.kind h.stage

  pub of_halting : (a version : ℕ) → Halts r.setting.anchors earlier s a version → OfHalting a version d → IsDeedOf r v d earlier s
  of_halting a version halts (inl h) = deed.halted r v earlier s d version h.kind h.stage_is h.version_is (subst (λ b. Halts r.setting.anchors earlier s b version) (sym h.anchor) halts)
  of_halting a version halts (inr h) = of_leaving h

  -- an entry is evicted in a store that does not fit
  module _ {Y : Type 0} (g : Ground Y) (evicts : fits g ≡ false → Evicts r s) where
    of_reserving : OfReserving g d → IsDeedOf r v d earlier s
    of_reserving (inl h) = deed.evicted r v earlier s d h.kind h.stage (evicts h.unfit)
    of_reserving (inr h) = deed.gone r v earlier s d h.kind h.stage

    pub of_publishing : (n : Naming) (seen : List Sight) → (HasNames n seen → Grows r.setting v earlier s n.anchor n.version) → OfPublishing g n seen d → IsDeedOf r v d earlier s
    of_publishing n seen grows (inl h) = deed.grew r v earlier s d n.version h.raised.kind h.raised.stage_is h.raised.version_is
        (subst (λ b. Grows r.setting v earlier s b n.version) (sym h.raised.anchor) (grows h.names))
    of_publishing n seen grows (inr h) = of_reserving h

    pub of_refusing : (a version : ℕ) → Halts r.setting.anchors earlier s a version → OfRefusing g a version d → IsDeedOf r v d earlier s
    of_refusing a version halts (inl h) = of_reserving h
    of_refusing a version halts (inr h) = of_halting a version halts h

    pub of_closing : (n : Naming) (seen : List Sight) (ended : Ended) → (HasNames n seen → Grows r.setting v earlier s n.anchor n.version) → s.answer ≡ answer_to_ended ended → OfClosing g n seen ended d → IsDeedOf r v d earlier s
    of_closing n seen ended grows answered (inl h) = deed.closed r v earlier s d n.version h.raised.raised.kind h.raised.raised.stage_is h.raised.raised.version_is
        (subst (λ b. Grows r.setting v earlier s b n.version) (sym h.raised.raised.anchor) (grows h.raised.names))
        (subst (λ z. Finishes z d.epoch) (sym answered) (finishes ended d.epoch (h.raised.raised.version_is ∙ sym h.answered) h.doomed))
    of_closing n seen ended grows answered (inr (inl h)) = of_reserving h
    of_closing n seen ended grows answered (inr (inr h)) = of_leaving h

    pub of_ending : (n : Naming) (seen : List Sight) (ended : Ended) → (HasNames n seen → Grows r.setting v earlier s n.anchor n.version) → s.answer ≡ answer_to_ended ended → OfEnding g n seen ended d → IsDeedOf r v d earlier s
    of_ending n seen ended grows answered (inl h) = of_publishing n seen grows h
    of_ending n seen ended grows answered (inr h) = of_closing n seen ended grows answered h

    pub of_giving_up : (n : Naming) (seen : List Sight) → (HasNames n seen → Grows r.setting v earlier s n.anchor n.version) → Halts r.setting.anchors earlier s n.anchor n.version → OfGivingUp g n seen d → IsDeedOf r v d earlier s
    of_giving_up n seen grows halts (inl h) = of_publishing n seen grows h
    of_giving_up n seen grows halts (inr h) = of_refusing n.anchor n.version halts h

    pub of_putting : (n : Naming) (seen : List Sight) (ended : Ended) → Begins r.setting.anchors s n.anchor n.version → (HasNames n seen → Grows r.setting v earlier s n.anchor n.version) → s.answer ≡ answer_to_ended ended → OfPutting g n seen ended d
        → IsDeedOf r v d earlier s
    of_putting n seen ended begins grows answered (inl h) = of_beginning n.anchor n.version begins h
    of_putting n seen ended begins grows answered (inr h) = of_ending n seen ended grows answered h

    pub of_putting_in_vain : (n : Naming) (seen : List Sight) → Begins r.setting.anchors s n.anchor n.version → (HasNames n seen → Grows r.setting v earlier s n.anchor n.version) → Halts r.setting.anchors earlier s n.anchor n.version → OfPuttingInVain g n seen d
        → IsDeedOf r v d earlier s
    of_putting_in_vain n seen begins grows halts (inl h) = of_beginning n.anchor n.version begins h
    of_putting_in_vain n seen begins grows halts (inr h) = of_giving_up n seen grows halts h

-- A line adds what its call drew and did, with what it tells.
module _ {X : Type 0} (r : Run X) (v w : View X) (earlier : List Served) (s : Served) where
  pub adds_drawing : ((a b x : ℕ) → Begins r.setting.anchors s a x → version_in (seen_at b v.seen) < x) → (P : Deed → Type 0) → Acted s.drew P v w → ((d : Deed) → P d → IsDeedOf r w d earlier s)
      → ShowsInTurn r.setting.anchors v w earlier s → Tells r w earlier s
      → (IsTrue r.tells → (e : Epoch) (bytes : List ℕ) → s.answer ≡ answer.Part e bytes → HasPart r v w earlier s (epoch_number e)) → Adds r v earlier s w
  adds_drawing above P acted so shows tells parts = record {
    keeps = knows_all acted.keeps;
    drawn = acted.drawn;
    draws = acted.draws;
    deeds = λ d c. ⊎_elim (λ (o : Contains v.deeds d). inl o) (λ (n : (d.pass ≡ v.pass) × P d). inr (n.0, so d n.1)) (acted.deeds d c);
    fresh = λ a e h. (shows a e h).above;
    stages = λ a d e h seen same. (shows a e h).leads d seen same;
    above = above;
    tells = tells;
    parts = parts;
  }

  -- a line that drew no version began none
  pub adds_by : s.drew ≡ None → (P : Deed → Type 0) → Acted s.drew P v w → ((d : Deed) → P d → IsDeedOf r w d earlier s) → ShowsInTurn r.setting.anchors v w earlier s → Tells r w earlier s
      → (IsTrue r.tells → (e : Epoch) (bytes : List ℕ) → s.answer ≡ answer.Part e bytes → HasPart r v w earlier s (epoch_number e)) → Adds r v earlier s w
  adds_by none P acted so shows tells parts = adds_drawing
      (λ a b x h. let z : None ≡ Some x = sym none ∙ h.drew in absurd (let q : ⊥ = cc in q))
      P acted so shows tells parts
