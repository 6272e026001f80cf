-- The first slot of the chain that the inner tab frees is wiped: no word that the pass knows changes.
use Rattle.std.proofs.Common.{Bool, List, ap, get_or, length, refl, subst, sym, true, ◌∙◌, ◌≡◌, ℕ}
use Rattle.core_model.specs.Tabs.{anchor_of, inner, tab_at}
use Rattle.core_model.specs.declared.moves.Move.TheVariants.{EndTurn, LoadSide, TryTurn}
use Rattle.core_model.specs.declared.moves.Side.TheVariants.{Start}
use Rattle.core_model.specs.declared.tab.Freer.{Freer}
use Rattle.core_model.specs.declared.tab.Tab.{Tab}
use Rattle.core_model.specs.declared.tab.Tab.TheVariants.{Free, Freeing, Last, Reading, Retreating, Writing}
use Rattle.core_model.specs.declared.tab.Cell.{Cell}
use Rattle.core_model.specs.declared.view.Place.TheVariants.{Anchor}
use Rattle.core_model.specs.declared.view.View.{View}
use Rattle.plain_model.specs.declared.store.Plain.{Plain}
use Rattle.store_rule.specs.Ground.{Ground}
use Rattle.store_rule.specs.Turns.{IsReturned}
use Rattle.slice_chain.specs.Wiping.{WipedFirst, WipedSlot, after_wiping}
use Rattle.plain_runs.specs.Words.{Lot}
use Rattle.plain_runs.proofs.Freeing.{EvictedAt, but_moved, same_else}
use Rattle.plain_runs.proofs.OwnAnchors.{OwnsAnchor, OwnsLot, pass_stays}
use Rattle.plain_runs.proofs.Published.{returned_has}
use Rattle.plain_runs.proofs.QuietSteps.{Quiet, ended_quiet, load_quiet, quiet_on, try_quiet}

module _ (g : Ground (List ℕ)) where
  slot_quiet : (slot : ℕ) (v w : View (List ℕ)) (done : Bool) → WipedSlot g slot v done w → Quiet g v w
  slot_quiet slot v w done h = quiet_on g v h.middle w (try_quiet g v h.middle inner slot 0 h.tried)
      (quiet_on g h.middle h.from w (record { same = λ q known here none. returned_has g (tab_at h.middle inner) inner slot h.cell h.middle h.from h.returned q })
      (ended_quiet g h.from w inner slot 1 (after_wiping done) h.ended))

  -- at an anchor that is the pass's own
  pub wiped_quiet : (v w : View (List ℕ)) (done : Bool) → OwnsAnchor g v.pass (anchor_of (tab_at v inner)) → WipedFirst g v done w → Quiet g v w
  wiped_quiet v w done own h = quiet_on g v h.started w
      (load_quiet g v.pass (anchor_of (tab_at v inner)) own inner h.start Start v h.started refl refl h.loads)
      (slot_quiet h.slot h.started w done h.wiped)

  -- a cell that is put back leaves the pass its number
  returned_pass : (tab : Tab (List ℕ)) (t slot : ℕ) (c : Cell (List ℕ)) (v u : View (List ℕ)) → IsReturned g.setting tab t slot c v u → u.pass ≡ v.pass
  returned_pass (Writing w) t slot c v u h = ap View.pass h.2
  returned_pass Free t slot c v u h = ap View.pass h
  returned_pass (Retreating a) t slot c v u h = ap View.pass h
  returned_pass (Reading r) t slot c v u h = ap View.pass h
  returned_pass (Last a) t slot c v u h = ap View.pass h
  returned_pass (Freeing f) t slot c v u h = ap View.pass h

  pub wiped_pass : (v w : View (List ℕ)) (done : Bool) → WipedFirst g v done w → w.pass ≡ v.pass
  wiped_pass v w done h =
      let x = h.wiped in
      pass_stays g x.from w (EndTurn inner h.slot (after_wiping done)) 1 x.ended
      ∙ returned_pass (tab_at x.middle inner) inner h.slot x.cell x.middle x.from x.returned
      ∙ pass_stays g h.started x.middle (TryTurn inner h.slot) 0 x.tried
      ∙ pass_stays g v h.started (LoadSide inner Start) h.start h.loads

module _ (g : Ground (List ℕ)) (rename : ℕ → ℕ) where
  pub evicted_wiped : {lot : Lot} (u w : View (List ℕ)) (a : ℕ) (p : Plain) (guests : ℕ → ℕ) (done : Bool) → OwnsLot g lot u.pass → lot.anchors a ≡ true → WipedFirst g u done w
      → EvictedAt g rename lot u a p guests → EvictedAt g rename lot w a p guests
  evicted_wiped u w a p guests done owns ours h e =
      let at : anchor_of (tab_at u inner) ≡ a = ap anchor_of e.is ∙ e.anchor_is in
      let own : OwnsAnchor g u.pass (anchor_of (tab_at u inner)) = subst (OwnsAnchor g u.pass) (sym at) (owns a e.inside ours) in
      let quiet = wiped_quiet g u w done own h in record {
        inside = e.inside;
        nine = ap (λ (xs : List (Tab (List ℕ))). length xs) h.tabs ∙ e.nine;
        freer = e.freer;
        is = ap (λ (xs : List (Tab (List ℕ))). get_or xs inner Free) h.tabs ∙ e.is;
        anchor_is = e.anchor_is;
        freeing = e.freeing;
        others = but_moved g rename u w (λ q. ⊥) p p guests a quiet (same_else p a) (λ c. c)
            (λ b lt own ne. record { word = λ c. c; sides = λ side c. c; links = λ x there chain j k c. c }) e.others;
        drawn = e.drawn;
        word = quiet.same (Anchor a) tt e.inside (λ c. c) ∙ e.word;
      }
