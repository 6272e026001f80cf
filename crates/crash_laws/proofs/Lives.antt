-- Whatever crashes and openings follow, the complete entries of a file are those of the first one and whole responses of offers.
use Rattle.std.proofs.Common.{◌≡◌, ◌⊎◌, inl, inr, ⊎_elim, ℕ, ◌<◌, ◌^◌, List, [], ◌∷◌, length, sym, ap, ◌∙◌, subst, arith}
use Rattle.rebuild_model.specs.Entry.{Entry, IsComplete}
use Rattle.core_model.specs.Layout.{word_in}
use Rattle.core_model.specs.declared.view.Place.TheVariants.{Counter}
use Rattle.core_model.specs.Sound.{Sound}
use Rattle.core_model.proofs.Opened.{opens}
use Rattle.core_model.proofs.SlotsOpened.{opens_slots}
use Rattle.core_model.proofs.CellsOpened.{opens_cells}
use Rattle.core_model.proofs.OffersOpened.{opened_deeds}
use Rattle.core_model.proofs.SightsOpened.{opens_sights}
use Rattle.core_log.specs.Logged.{LogStands}
use Rattle.core_log.proofs.LogRuns.{runs}
use Rattle.core_log.proofs.LogOpened.{no_log}
use Rattle.crash_entries.specs.Parts.{Offers}
use Rattle.crash_entries.proofs.Telling.{Tools}
use Rattle.crash_laws.specs.Crashes.{AreLives, IsLife}
use Rattle.crash_laws.specs.Left.{IsFileOf, IsWholeOffer}
use Rattle.crash_laws.proofs.Crashing.{entries}

module _ (X : Type 0) (t : Tools) (slot : ℕ) (o : Offers) (sized : slot < 2 ^ 32) where
  module _ (before after : List (List ℕ)) (l : IsLife X slot o before after) where
    many : length before ≡ l.setting.slots
    many = l.many

    begins : Sound l.setting l.opened
    begins = record {
      anchors = opens l.setting l.rebuilt l.opened l.is_setting l.is_opened;
      map = l.is_opened.ends;
      slots = opens_slots l.setting l.rebuilt l.opened l.is_setting l.is_opened slot before l.is_rebuilt many;
      cells = opens_cells l.setting l.rebuilt l.opened l.is_setting l.is_opened slot before l.is_rebuilt many;
      deeds_tell = opened_deeds l.setting l.rebuilt l.opened l.is_setting l.is_opened;
      sights = opens_sights l.setting l.rebuilt l.opened l.is_setting l.is_opened;
    }

    ends : Sound l.setting l.state × LogStands l.setting l.state l.log
    ends = runs l.setting l.opened [] l.steps l.state l.log begins (no_log l.setting l.rebuilt l.opened l.is_setting l.is_opened begins (let n = l.few in omega arith)) l.run

    file : IsFileOf slot o l.setting l.bytes before
    file = record {
      many = l.many;
      content = l.contents;
      image = l.image;
      blank = l.blank;
      greatest = λ j sane. let g = l.is_rebuilt.greatest.above j sane in
          let c = ap (λ (ws : List ℕ). word_in l.setting ws Counter) (sym l.is_opened.words) ∙ l.is_opened.counter in omega arith;
    }

    pub one_life : (e : Entry) → IsComplete slot after e → IsComplete slot before e ⊎ IsWholeOffer o (length before) e
    one_life e c = ⊎_elim
        (λ (q : IsComplete slot before e). inl q)
        (λ (q : IsWholeOffer o l.setting.slots e). inr (subst (λ (n : ℕ). IsWholeOffer o n e) (sym many) q))
        (entries t slot o l.setting l.bytes before l.state l.log sized l.few file ends.0 ends.1.cells ends.1.links l.keeps after l.left e c)

    pub same_length : length after ≡ length before
    same_length = l.left.many ∙ sym many

  pub lives : (first : List (List ℕ)) (files : List (List (List ℕ))) (last : List (List ℕ)) (e : Entry) → AreLives X slot o first files last → IsComplete slot last e → IsComplete slot first e ⊎ IsWholeOffer o (length first) e
  lives first [] last e same c = inl (subst (λ (f : List (List ℕ)). IsComplete slot f e) same c)
  lives first (f ∷ fs) last e h c = ⊎_elim
      (λ (q : IsComplete slot f e). one_life first f h.0 e q)
      (λ (q : IsWholeOffer o (length f) e). inr (subst (λ (n : ℕ). IsWholeOffer o n e) (same_length first f h.0) q))
      (lives f fs last e h.1 c)
