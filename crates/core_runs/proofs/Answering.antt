-- Along a list of steps from a core that was opened over a file the chain of each closed entry spells its response.
use Rattle.std.proofs.Common.{◌≡◌, ℕ, ◌<◌, ◌≤◌, List, length, sym, refl, ap, ◌∙◌, subst, arith}
use mathlib.Core.Option.{some}
use lib.ListN.{get_elem?}
use Rattle.lock_word.specs.Words.{epoch_of, stage_of}
use Rattle.db_layout.specs.Layout.{IsSlotSize}
use Rattle.rebuild_model.specs.declared.image.FileImage.{FileImage}
use Rattle.rebuild_model.specs.Entry.{IsComplete}
use Rattle.rebuild_model.specs.Rebuilt.{IsRebuilt}
use Rattle.entry_cut.specs.Content.{Cut}
use Rattle.entry_cut.specs.Standing.{IsWritable, Stand, entry_of}
use Rattle.core_model.specs.Layout.{Setting}
use Rattle.core_model.specs.Offers.{OffersStand}
use Rattle.core_model.specs.Sound.{Sound}
use Rattle.core_model.specs.State.{word}
use Rattle.core_state.specs.declared.act.Step.{Step}
use Rattle.core_table.specs.declared.content.Content.{Content}
use Rattle.core_table.specs.Machine.{Machine, setting_of, state_of}
use Rattle.core_table.specs.New.{IsNew}
use Rattle.core_runs.specs.Responses.{Offers, AreBytes, IsFaithful, SpellsResponse}
use Rattle.core_runs.specs.Offered.{offering_of, AllOffered}
use Rattle.core_runs.specs.Runs.{IsRun, IsSound}
use Rattle.core_model.proofs.OffersOpened.{opened_offers}
use Rattle.core_runs.proofs.Offered.{all_offers, setting_stays, standing_of}
use Rattle.core_runs.proofs.Opened.{opened_old}
use Rattle.core_runs.proofs.Runs.{stays_sound}
use Rattle.core_runs.proofs.Spelled.{closed_spells}
use Rattle.core_runs.proofs.Standing.{Standing}

module _ (file : FileImage) (o : Offers) (anchors passes : ℕ) (from : Machine) (new : IsNew file (length file.slots) anchors passes from) (so : IsSound from) where
  kept : IsRebuilt file.slot file.slots from.anchors new.rebuilt
  kept = subst (λ (n : ℕ). IsRebuilt file.slot file.slots n new.rebuilt) (sym new.anchors_are) new.kept

  -- each entry is the file's
  pub from_offers : AllOffered file o from from
  from_offers = opened_offers (offering_of file o from) (setting_of from) new.rebuilt (state_of from) so.anchors.setting new.opened file.slot file.slots kept (sym new.slots_are) (λ a lt. refl)

  module _ (size : IsSlotSize file.slot) (few : length file.slots ≤ 1048576)
      (placed : (cut : Cut) (images : List (List ℕ)) (chain : List ℕ) → IsWritable cut → length images ≤ 1048576 → Stand cut images chain → IsComplete cut.slot images (entry_of cut chain)) where
    -- in a core of the same store in which each entry is the file's or one of its offer
    pub closed_here : (core : Machine) → IsSound core → setting_of core ≡ setting_of from → AllOffered file o from core → (images : List (List ℕ)) → AreBytes file o core images
        → (a : ℕ) → a < core.anchors → stage_of (epoch_of (word (state_of core) a)) ≡ 3 → SpellsResponse file o core a images
    closed_here core sound same offered images bytes a lt closed =
        let slots : core.slots ≡ length file.slots = ap Setting.slots same ∙ new.slots_are in
        let low : a < from.anchors = (let z = ap Setting.anchors same in omega arith) in
        let stands = standing_of file o from (state_of core) (subst (λ (k : Setting Content). Sound k (state_of core)) same sound)
        (subst (λ (k : Setting Content). OffersStand (offering_of file o from) k (state_of core)) same offered) new.opened.words a low
        (opened_old file o (setting_of from) new.rebuilt (state_of from) new.opened kept (sym new.slots_are) a low) in
        closed_spells file o core sound a lt (sym slots) images bytes (subst (λ (k : Setting Content). Standing file o k (state_of core) a) (sym same) stands) closed (let z = size.to in omega arith) (let z = slots in omega arith) placed

    pub closed_response : (steps : List Step) (cores : List Machine) → IsRun steps cores → get_elem? cores 0 ≡ some from → ((j : ℕ) (core : Machine) → get_elem? cores j ≡ some core → IsFaithful file o core)
        → (i : ℕ) (core : Machine) → get_elem? cores i ≡ some core → (images : List (List ℕ)) → AreBytes file o core images
        → (a : ℕ) → a < core.anchors → stage_of (epoch_of (word (state_of core) a)) ≡ 3 → SpellsResponse file o core a images
    closed_response steps cores run first faithful i core at images bytes a lt closed =
        closed_here core (stays_sound steps cores from run first so i core at)
        (setting_stays file o from steps cores run first so from_offers faithful i core at)
        (all_offers file o from steps cores run first so from_offers faithful i core at) images bytes a lt closed
