-- Which line a deed belongs to, by what it did.
use Rattle.std.proofs.Common.{List, arith, false, inl, inr, subst, sym, true, ◌∙◌, ◌≡◌, ◌⊎◌, ℕ}
use Rattle.lock_word.specs.Words.{doom_of, epoch_at, stage_of, version_of}
use Rattle.core_model.specs.declared.view.Deed.{Deed}
use Rattle.core_model.specs.declared.view.Kind.TheVariants.{Changed, Doomed, Entered, Raised}
use Rattle.core_model.specs.declared.view.View.{View}
use Rattle.line_account.specs.Lines.{Served}
use Rattle.line_account.specs.Deeds.{Begins, ComesTo, Evicts, Finishes, Grows, Halts, IsDeedOf, Purges, WipesInVain}
use Rattle.line_account.specs.Answers.{Run}

module _ {X : Type 0} (r : Run X) (v : View X) (earlier : List Served) (s : Served) (d : Deed) where
  pub entered : d.kind ≡ Entered → ComesTo r.setting.anchors s.asked.request d.anchor → IsDeedOf r v d earlier s
  entered e comes = record {
    entered = λ k. comes;
    changed = λ k. absurd (let z : Entered ≡ Changed = sym e ∙ k in cc);
    took = λ k st. absurd (let z : Entered ≡ Changed = sym e ∙ k in cc);
    evicted = λ k st idle. absurd (let z : Entered ≡ Changed = sym e ∙ k in cc);
    grew = λ k st. absurd (let z : Entered ≡ Raised = sym e ∙ k in cc);
    closed = λ k st. absurd (let z : Entered ≡ Raised = sym e ∙ k in cc);
    halted = λ k st. absurd (let z : Entered ≡ Raised = sym e ∙ k in cc);
    doomed = λ k. absurd (let z : Entered ≡ Doomed = sym e ∙ k in cc);
    with_doom = λ k. absurd (let z : Entered ≡ Doomed = sym e ∙ k in cc);
  }

  -- it changed the anchor, to one of two stages
  pub changed : d.kind ≡ Changed → (stage_of d.epoch ≡ 1) ⊎ (stage_of d.epoch ≡ 5) → (stage_of d.epoch ≡ 1 → Begins r.setting.anchors s d.anchor (version_of d.epoch))
      → (stage_of d.epoch ≡ 5 → d.was_idle ≡ true → Evicts r s) → IsDeedOf r v d earlier s
  changed e stage took evicted = record {
    entered = λ k. absurd (let z : Changed ≡ Entered = sym e ∙ k in cc);
    changed = λ k. stage;
    took = λ k st. took st;
    evicted = λ k st idle. evicted st idle;
    grew = λ k st. absurd (let z : Changed ≡ Raised = sym e ∙ k in cc);
    closed = λ k st. absurd (let z : Changed ≡ Raised = sym e ∙ k in cc);
    halted = λ k st. absurd (let z : Changed ≡ Raised = sym e ∙ k in cc);
    doomed = λ k. absurd (let z : Changed ≡ Doomed = sym e ∙ k in cc);
    with_doom = λ k. absurd (let z : Changed ≡ Doomed = sym e ∙ k in cc);
  }

  pub took : (x : ℕ) → d.kind ≡ Changed → d.epoch ≡ epoch_at x 1 → Begins r.setting.anchors s d.anchor x → IsDeedOf r v d earlier s
  took x e is begins = let one : stage_of d.epoch ≡ 1 = omega arith in
      let same : x ≡ version_of d.epoch = omega arith in
      changed e (inl one) (λ st. subst (Begins r.setting.anchors s d.anchor) same begins) (λ st idle. absurd (omega arith))

  pub evicted : d.kind ≡ Changed → stage_of d.epoch ≡ 5 → Evicts r s → IsDeedOf r v d earlier s
  evicted e five evicts = changed e (inr five) (λ st. absurd (omega arith)) (λ st idle. evicts)

  pub freed : d.kind ≡ Changed → stage_of d.epoch ≡ 5 → d.was_idle ≡ false → IsDeedOf r v d earlier s
  freed e five busy = changed e (inr five) (λ st. absurd (omega arith)) (λ st idle. absurd (let z : false ≡ true = sym busy ∙ idle in cc))

  -- it raised the entry to a stage
  pub raised : d.kind ≡ Raised → ((stage_of d.epoch ≡ 2) ⊎ (stage_of d.epoch ≡ 3) → Grows r.setting v earlier s d.anchor (version_of d.epoch)) → (stage_of d.epoch ≡ 3 → Finishes s.answer d.epoch)
      → (stage_of d.epoch ≡ 4 → Halts r.setting.anchors earlier s d.anchor (version_of d.epoch)) → IsDeedOf r v d earlier s
  raised e grew closed halted = record {
    entered = λ k. absurd (let z : Raised ≡ Entered = sym e ∙ k in cc);
    changed = λ k. absurd (let z : Raised ≡ Changed = sym e ∙ k in cc);
    took = λ k st. absurd (let z : Raised ≡ Changed = sym e ∙ k in cc);
    evicted = λ k st idle. absurd (let z : Raised ≡ Changed = sym e ∙ k in cc);
    grew = λ k st. grew st;
    closed = λ k st. closed st;
    halted = λ k st. halted st;
    doomed = λ k. absurd (let z : Raised ≡ Doomed = sym e ∙ k in cc);
    with_doom = λ k. absurd (let z : Raised ≡ Doomed = sym e ∙ k in cc);
  }

  pub gone : d.kind ≡ Raised → stage_of d.epoch ≡ 6 → IsDeedOf r v d earlier s
  gone e six = raised e (λ st. absurd (not_two st)) (λ st. absurd (omega arith)) (λ st. absurd (omega arith))
    where
      not_two : (stage_of d.epoch ≡ 2) ⊎ (stage_of d.epoch ≡ 3) → ⊥
      not_two (inl q) = omega arith
      not_two (inr q) = omega arith

  pub halted : (x : ℕ) → d.kind ≡ Raised → stage_of d.epoch ≡ 4 → version_of d.epoch ≡ x → Halts r.setting.anchors earlier s d.anchor x → IsDeedOf r v d earlier s
  halted x e four same halts = raised e (λ st. absurd (not_two st)) (λ st. absurd (omega arith)) (λ st. subst (Halts r.setting.anchors earlier s d.anchor) (sym same) halts)
    where
      not_two : (stage_of d.epoch ≡ 2) ⊎ (stage_of d.epoch ≡ 3) → ⊥
      not_two (inl q) = omega arith
      not_two (inr q) = omega arith

  pub grew : (x : ℕ) → d.kind ≡ Raised → stage_of d.epoch ≡ 2 → version_of d.epoch ≡ x → Grows r.setting v earlier s d.anchor x → IsDeedOf r v d earlier s
  grew x e two same grows = raised e (λ st. subst (Grows r.setting v earlier s d.anchor) (sym same) grows) (λ st. absurd (omega arith)) (λ st. absurd (omega arith))

  pub closed : (x : ℕ) → d.kind ≡ Raised → stage_of d.epoch ≡ 3 → version_of d.epoch ≡ x → Grows r.setting v earlier s d.anchor x → Finishes s.answer d.epoch → IsDeedOf r v d earlier s
  closed x e three same grows finishes = raised e (λ st. subst (Grows r.setting v earlier s d.anchor) (sym same) grows) (λ st. finishes) (λ st. absurd (omega arith))

  pub doomed : d.kind ≡ Doomed → doom_of d.epoch ≡ 1 → Purges r.setting.anchors s d.anchor d.epoch ⊎ WipesInVain r.setting.anchors s d.anchor → IsDeedOf r v d earlier s
  doomed e one purges = record {
    entered = λ k. absurd (let z : Doomed ≡ Entered = sym e ∙ k in cc);
    changed = λ k. absurd (let z : Doomed ≡ Changed = sym e ∙ k in cc);
    took = λ k st. absurd (let z : Doomed ≡ Changed = sym e ∙ k in cc);
    evicted = λ k st idle. absurd (let z : Doomed ≡ Changed = sym e ∙ k in cc);
    grew = λ k st. absurd (let z : Doomed ≡ Raised = sym e ∙ k in cc);
    closed = λ k st. absurd (let z : Doomed ≡ Raised = sym e ∙ k in cc);
    halted = λ k st. absurd (let z : Doomed ≡ Raised = sym e ∙ k in cc);
    doomed = λ k. purges;
    with_doom = λ k. one;
  }
