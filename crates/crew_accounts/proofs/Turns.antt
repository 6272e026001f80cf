-- What a step found at an anchor is in turn: the stages that the pass had seen of the version lead to the one that stands.
use Rattle.std.proofs.Common.{Bool, Contains, List, Some, ap, arith, inl, inr, subst, sym, ◌+◌, ◌<◌, ◌^◌, ◌∙◌, ◌≡◌, ◌⊎◌, ℕ}
use Rattle.lock_word.specs.Words.{doomed, epoch_number, epoch_of, stage_of, version_of, word_number}
use Rattle.lock_word.specs.declared.epoch.Epoch.{Epoch}
use Rattle.lock_word.specs.declared.word.Word.{Word}
use Rattle.lock_word.proofs.Dooming.{stage_of-doomed, version_of-doomed}
use Rattle.lock_word.proofs.Parts.{epoch_of-word_number}
use Rattle.rock_disk.specs.Cell.{CellState}
use Rattle.core_model.specs.Table.{place}
use Rattle.core_model.specs.Tabs.{anchor_of, tab_at}
use Rattle.core_model.specs.Versions.{Leads}
use Rattle.core_model.specs.declared.moves.Move.{Move}
use Rattle.core_model.specs.declared.moves.Move.TheVariants.{Doom, Enter, Look, Take}
use Rattle.core_model.specs.declared.view.Place.TheVariants.{Anchor}
use Rattle.core_model.specs.declared.view.Sight.TheVariants.{Stood}
use Rattle.core_model.specs.declared.view.View.{View}
use Rattle.store_rule.specs.declared.store.Pass.{Pass}
use Rattle.store_rule.specs.declared.store.Store.{Store}
use Rattle.store_rule.specs.Calls.{IsFresh}
use Rattle.store_rule.specs.Ground.{Ground, Offers, anchor_for}
use Rattle.store_rule.specs.Passes.{view}
use Rattle.store_rule.specs.Told.{Steps}
use Rattle.store_rule.proofs.Moves.{known_of}
use Rattle.rock_reader.specs.Opening.{Came}
use Rattle.rock_reader.specs.Reading.{ReadsAs, Standing, Waits}
use Rattle.rock_writer.specs.Beginning.{AreFresh, InUse, Overtaken}
use Rattle.store_serve.proofs.Anchors.{drew}
use Rattle.store_serve.proofs.Grown.{by_step, on}
use Rattle.store_serve.proofs.Slots.{key_loaded}
use Rattle.crew_accounts.proofs.Doomed.{HasDoomed}
use Rattle.crew_accounts.proofs.Shown.{IsInTurn}

-- the stages that were seen of the version lead to this one
abbrev pub AreLed : {X : Type 0} → (a epoch : ℕ) → View X → Type 0
AreLed a epoch v = (d : ℕ) → Contains v.seen (Stood a d) → version_of d ≡ version_of epoch → Leads (stage_of d) (stage_of epoch)

pub in_turn : {X : Type 0} → {a e : ℕ} {v w : View X} → IsFresh a e v w → AreLed a e v → IsInTurn a e v w
in_turn h leads = record { above = h.above; leads = leads; seen = h.seen }

module _ {X : Type 0} (g : Ground X) where
  pub step_leads : (v : View X) (m : Move) (n : ℕ) (w : View X) (a e : ℕ) → Steps g v m n w → place v m ≡ Some (Anchor a) → epoch_of n ≡ e → AreLed a e v
  step_leads v m n w a e st at is d c same = subst (λ (z : ℕ). Leads (stage_of d) (stage_of z)) is ((known_of g v m n w st).stages a d at c (same ∙ ap version_of (sym is)))

  -- a tab that came to an anchor
  pub came_turn : {t : ℕ} {url : List ℕ} {v entered w : View X} {epoch : Epoch} → Came g t url v epoch entered w → IsInTurn (anchor_for g url) (epoch_number epoch) v w
  came_turn {t} {url} {v} {entered} {w} {epoch} h = in_turn h.fresh (step_leads v (Enter t (anchor_for g url)) h.found entered (anchor_for g url) (epoch_number epoch) h.enter (λ i. Some (Anchor (anchor_for g url))) h.epoch_is)

  -- and the epoch that a purge left there
  pub doomed_turn : {t : ℕ} {url : List ℕ} {v w : View X} {left : Epoch} → HasDoomed g t url v left w → IsInTurn (anchor_for g url) (epoch_number left) v w
  doomed_turn {t} {url} {v} {w} {left} h = in_turn h.fresh led
    where
      there : place h.keyed (Doom t) ≡ Some (Anchor (anchor_for g url))
      there = ap (λ tab. Some (Anchor (anchor_of tab))) h.reads

      led : AreLed (anchor_for g url) (epoch_number left) v
      led d c same =
          let n : ℕ = h.word in
          let seen = (on (by_step h.came.enter) (key_loaded h.key)).seen (Stood (anchor_for g url) d) c in
          let version : version_of d ≡ version_of (epoch_of n) = same ∙ ap version_of h.left_is ∙ version_of-doomed n in
          let leads = step_leads h.keyed (Doom t) n h.after (anchor_for g url) (epoch_of n) h.doom there (λ i. epoch_of n) d seen version in
          subst (λ (s : ℕ). Leads (stage_of d) s) (sym (ap stage_of h.left_is ∙ stage_of-doomed n)) leads

-- a tab that reads on and waits
pub waits_turn : {C O : Type 0} → (tells : Bool) (state : C → CellState) (offers : O → Offers) (s : Store C O) (t : ℕ) (m q : Pass C) (f : Standing) (before after : List ℕ) (epoch : Epoch)
    → ReadsAs tells state offers s m t f → Waits tells state offers s t m f before after q epoch → IsInTurn f.anchor (epoch_number epoch) (view m) (view q)
waits_turn tells state offers s t m q f before after epoch reads k =
    let at : anchor_of (tab_at (view m) t) ≡ f.anchor = ap anchor_of reads.is ∙ reads.anchor_is in
    in_turn k.fresh (subst (λ (a : ℕ). AreLed a (epoch_number epoch) (view m)) at
    (step_leads _ (view m) (Look (anchor_of (tab_at (view m) t))) k.found.word k.found.looked (anchor_of (tab_at (view m) t)) (epoch_number epoch) k.found.look (λ i. Some (Anchor (anchor_of (tab_at (view m) t)))) k.found.epoch_is))

-- The words of a refused begin.
module _ {X : Type 0} (g : Ground X) (t a : ℕ) (v : View X) (looked found : Word) (w : View X) (small : looked.readers < 65536) (low : found.readers < 65536) where
  abbrev How : Type 0
  How = InUse g t a v looked found w ⊎ Overtaken g t a v looked found w

  looked_led : How → AreLed a (epoch_number looked.epoch) v
  looked_led (inl h) = step_leads g v (Look a) (word_number looked) w a (epoch_number looked.epoch) h.looks (λ i. Some (Anchor a)) (epoch_of-word_number looked (omega arith))
  looked_led (inr h) = step_leads g v (Look a) (word_number looked) h.seen a (epoch_number looked.epoch) h.looks (λ i. Some (Anchor a)) (epoch_of-word_number looked (omega arith))

  found_led : How → AreLed a (epoch_number found.epoch) v
  found_led (inl h) = subst (λ (z : Word). AreLed a (epoch_number z.epoch) v) (sym h.same) (looked_led (inl h))
  found_led (inr h) = λ d c same. step_leads g h.drawn (Take t a h.version) (word_number found) w a (epoch_number found.epoch) h.misses (λ i. Some (Anchor a)) (epoch_of-word_number found (omega arith))
      d ((on (by_step h.looks) (drew h.drew)).seen (Stood a d) c) same

  pub looked_turn : How → AreFresh g t a v looked found w → IsInTurn a (epoch_number looked.epoch) v w
  looked_turn how fresh = in_turn fresh.looked_is (looked_led how)

  pub found_turn : How → AreFresh g t a v looked found w → IsInTurn a (epoch_number found.epoch) v w
  found_turn how fresh = in_turn fresh.found_is (found_led how)
