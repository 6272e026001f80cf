-- From each opening on: once a slot was wiped no file that a crash leaves has a complete entry of what was wiped.
use Rattle.std.proofs.Common.{◌≡◌, ◌≢◌, ℕ, ◌<◌, ◌^◌, List, [], sym, ap, ◌∙◌, arith}
use Rattle.rebuild_model.specs.Entry.{Entry, IsComplete}
use Rattle.core_model.specs.declared.view.Place.TheVariants.{Counter}
use Rattle.core_model.specs.Anchors.{opening_counter}
use Rattle.core_model.specs.Layout.{word_in}
use Rattle.core_model.specs.Sound.{Sound}
use Rattle.core_model.proofs.CellsOpened.{opens_cells}
use Rattle.core_model.proofs.OffersOpened.{opened_deeds}
use Rattle.core_model.proofs.Opened.{opens}
use Rattle.core_model.proofs.SightsOpened.{opens_sights}
use Rattle.core_model.proofs.SlotsOpened.{opens_slots}
use Rattle.core_log.specs.Logged.{LogStands}
use Rattle.core_log.proofs.LogOpened.{no_log}
use Rattle.core_log.proofs.LogRuns.{runs}
use Rattle.core_wiped.specs.Wipes.{IsSeenWiped, WipesStand}
use Rattle.core_wiped.proofs.WipesKept.{runs_kept}
use Rattle.core_wiped.proofs.Opening.{no_wipes}
use Rattle.crash_entries.specs.Parts.{Offers}
use Rattle.crash_entries.proofs.Telling.{Tools}
use Rattle.crash_laws.specs.Crashes.{IsLife}
use Rattle.crash_laws.specs.Left.{IsFileOf}
use Rattle.wiped_entries.specs.Now.{IsLeftNow}
use Rattle.wiped_entries.proofs.Gone.{begun, new_gone}

module _ (X : Type 0) (t : Tools) (slot : ℕ) (o : Offers) (sized : slot < 2 ^ 32) (before after : List (List ℕ))
    (l : IsLife X slot o before after) where
  begins : Sound l.setting l.opened
  begins = record {
    anchors = opens l.setting l.rebuilt l.opened l.is_setting l.is_opened;
    map = l.is_opened.ends;
    slots = opens_slots l.setting l.rebuilt l.opened l.is_setting l.is_opened slot before l.is_rebuilt l.many;
    cells = opens_cells l.setting l.rebuilt l.opened l.is_setting l.is_opened slot before l.is_rebuilt l.many;
    deeds_tell = opened_deeds l.setting l.rebuilt l.opened l.is_setting l.is_opened;
    sights = opens_sights l.setting l.rebuilt l.opened l.is_setting l.is_opened;
  }

  nothing : LogStands l.setting l.opened []
  nothing = no_log l.setting l.rebuilt l.opened l.is_setting l.is_opened begins (let n = l.few in omega arith)

  ends : Sound l.setting l.state × LogStands l.setting l.state l.log
  ends = runs l.setting l.opened [] l.steps l.state l.log begins nothing l.run

  wipes : WipesStand l.setting l.state l.log
  wipes = runs_kept l.setting l.opened [] l.steps l.state l.log begins nothing
      (no_wipes l.setting l.rebuilt l.opened l.is_setting l.is_opened) l.run

  file : IsFileOf slot o l.setting l.bytes before
  file = record {
    many = l.many;
    content = l.contents;
    image = l.image;
    blank = l.blank;
    greatest = λ j sane. let g = l.is_rebuilt.greatest.above j sane in
        let c = ap (λ (ws : List ℕ). word_in l.setting ws Counter) (sym l.is_opened.words) ∙ l.is_opened.counter in omega arith;
  }

  module _ (left : IsLeftNow l.setting l.bytes l.state after) (a version wiped : ℕ) (seen : IsSeenWiped l.state a version wiped) (e : Entry)
      (c : IsComplete slot after e) where
    pub life_begun : e.first ≡ wiped → e.version ≢ version
    life_begun = begun t slot o l.setting l.bytes before l.state l.log sized l.few file ends.0 ends.1 l.keeps wipes after left a version
        wiped seen e c

    pub life_new : opening_counter l.setting < version → e.version ≢ version
    life_new = new_gone t slot o l.setting l.bytes before l.state l.log sized l.few file ends.0 ends.1 l.keeps wipes after left a version
        wiped seen e c
