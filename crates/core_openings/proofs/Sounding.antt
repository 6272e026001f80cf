-- A store that was just opened with what a rebuild kept is sound.
use Rattle.rebuild_model.specs.declared.rebuilt.Rebuilt.{Rebuilt}
use Rattle.core_model.specs.Layout.{Setting}
use Rattle.core_model.specs.Opening.{IsOpened}
use Rattle.core_model.specs.Sound.{Sound}
use Rattle.core_model.specs.State.{State}
use Rattle.core_model.proofs.Opened.{opens}
use Rattle.core_model.proofs.OffersOpened.{opened_deeds}
use Rattle.core_model.proofs.SightsOpened.{opens_sights}
use Rattle.core_openings.specs.KeptSo.{IsKeptSo}
use Rattle.core_openings.proofs.Cells.{opens_cells}
use Rattle.core_openings.proofs.Settings.{opened_setting}
use Rattle.core_openings.proofs.Slots.{opens_slots}

pub opens_sound : {X : Type 0} (k : Setting X) (r : Rebuilt) (s : State X) → IsOpened k r s → IsKeptSo k.anchors k.slots r → Sound k s
opens_sound k r s opened b = let is = opened_setting k r s opened b in record {
  anchors = opens k r s is opened;
  slots = opens_slots k r s is opened b;
  map = opened.ends;
  cells = opens_cells k r s is opened b;
  deeds_tell = opened_deeds k r s is opened;
  sights = opens_sights k r s is opened;
}
