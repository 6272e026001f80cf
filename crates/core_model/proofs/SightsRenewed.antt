-- Where passes come to have seen more, and notes come and go, stages lead on as before, and names that were seen are of shown entries.
use Rattle.std.proofs.Common.{ℕ, ◌<◌, List, sym, subst, Contains}
use Rattle.lock_word.specs.Words.{epoch_of, version_of}
use Rattle.core_model.specs.declared.view.Sight.TheVariants.{Stood, Named, Published}
use Rattle.core_model.specs.declared.view.View.{View}
use Rattle.core_model.specs.Layout.{Setting}
use Rattle.core_model.specs.State.{State}
use Rattle.core_model.proofs.Lists.{contains_none}
use Rattle.core_model.proofs.NotesFrame.{Renews, each_now, was_seen, still_seen}
use Rattle.core_model.specs.Versions.{IsShown, SightsLead}
use Rattle.core_model.specs.Trails.{find_before}
use Rattle.core_model.specs.TableForms.{renewed}

module _ {X : Type 0} (k : Setting X) (s : State X) (views : List (View X)) (r : Renews k s views) where
  abbrev s' : State X
  s' = renewed s views

  still_shown : (a version : ℕ) → IsShown s a version → IsShown s' a version
  still_shown a version h = let q = still_seen k s views r (Published a version h.many) record { i = h.i; view = h.view; at = h.at; seen = h.seen } in
      record { i = q.i; view = q.view; at = q.at; many = h.many; seen = q.seen; some_slot = h.some_slot }

  pub renews_sights : SightsLead k s → SightsLead k s'
  renews_sights so = record {
    stages = λ j w at a e lt h. let q = was_seen k s views r j w at (Stood a e) h in so.stages q.i q.view q.at a e lt q.seen;
    shown = λ j w at a version side value h new. let q = was_seen k s views r j w at (Named a version side value) h in still_shown a version (so.shown q.i q.view q.at a version side value q.seen new);
    old = λ j w at a version side value h low. let q = was_seen k s views r j w at (Named a version side value) h in so.old q.i q.view q.at a version side value q.seen low;
    before = each_now k s views r (λ j w. (a version : ℕ) → a < k.anchors → Contains w.held version → version_of (epoch_of (find_before version a w.trail)) < version)
        (λ j u w at g a version lt h. subst (λ (z : ℕ). version_of (epoch_of z) < version) (sym (g.before version a)) (so.before j u at a version lt (subst (λ (z : List ℕ). Contains z version) g.held h)))
        (λ j n a version lt h. absurd (contains_none version h));
  }
