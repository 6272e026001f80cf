-- In a store that was just opened nothing is wiped.
use Rattle.std.proofs.Common.{◌≡◌, ℕ, List, [], ap, arith, get_or, sym, subst, Contains}
use Rattle.rebuild_model.specs.declared.rebuilt.Rebuilt.{Rebuilt}
use Rattle.lock_word.specs.Words.{doom_of, epoch_of}
use Rattle.core_model.specs.declared.tab.Tab.{Tab}
use Rattle.core_model.specs.declared.tab.Tab.TheVariants.{Free, Writing}
use Rattle.core_model.specs.declared.tab.Writer.{Writer}
use Rattle.core_model.specs.declared.view.Sight.TheVariants.{Stood, Wiped}
use Rattle.core_model.specs.declared.view.View.{View}
use Rattle.core_model.specs.Anchors.{IsSetting, opening_epoch}
use Rattle.core_model.specs.Holders.{IsTab}
use Rattle.core_model.specs.Layout.{Setting, anchor_index}
use Rattle.core_model.specs.Opening.{IsOpened}
use Rattle.core_model.specs.State.{State}
use Rattle.core_model.proofs.CellsOpened.{tab_free}
use Rattle.core_model.proofs.Lists.{contains_none}
use Rattle.core_model.proofs.Opened.{at_new, sight_is}
use Rattle.core_wiped.specs.Wipes.{IsSeenWiped, WipesStand}

not_stood : (a version slot b e : ℕ) → Wiped a version slot ≡ Stood b e → ⊥
not_stood a version slot b e h = cc

module _ {X : Type 0} (k : Setting X) (r : Rebuilt) (s : State X) (is : IsSetting k) (o : IsOpened k r s) where
  none_wipeed : (a version slot : ℕ) → IsSeenWiped s a version slot → ⊥
  none_wipeed a version slot h = let q = sight_is k k.anchors (Wiped a version slot)
      (subst (λ (w : View X). Contains w.seen (Wiped a version slot)) (at_new k r s is o h.i h.view h.at).0 h.seen) in
      not_stood a version slot q.0 (opening_epoch k q.0) q.2

  no_writer : (i t : ℕ) (w : Writer X) → IsTab s i t (Writing w) → ⊥
  no_writer i t w h = not_free (sym (tab_free k r s is o i h.view h.at t (Writing w) h.there))
    where
      not_free : ◌≡◌ {A = Tab X} Free (Writing w) → ⊥
      not_free e = cc

  pub no_wipes : WipesStand k s []
  no_wipes = record {
    each = λ a version slot h. absurd (none_wipeed a version slot h);
    starts = λ l c. absurd (contains_none l c);
    deeds = λ i v at d c. absurd (contains_none d (subst (λ (w : View X). Contains w.deeds d) (at_new k r s is o i v at).0 c));
    choices = λ i t w p h. absurd (no_writer i t w h);
    filled = λ a lt doom low. absurd (let z = ap (λ (ws : List ℕ). doom_of (epoch_of (get_or ws (anchor_index a) 0))) o.words in
        let y = is.undoomed a lt in omega arith);
  }
