-- In a store that was just opened nothing is logged.
use Rattle.std.proofs.Common.{◌≡◌, inl, inr, ⊎_elim, ℕ, zero, suc, get_or, ◌-◌, ◌<◌, ◌≤◌, List, [], ◌∷◌, length, sym, refl, ap, ◌∙◌, subst, arith, Option, None, Contains, ◌^◌}
use mathlib.Core.Option.{some}
use mathlib.Core.Logic.{dite}
use native.Mathlib.Decide.{ℕ_discrete}
use lib.ListN.{get_elem?}
use Rattle.rebuild_model.specs.declared.rebuilt.Rebuilt.{Rebuilt}
use Rattle.core_model.specs.declared.view.LoggedPiece.{LoggedPiece}
use Rattle.core_model.specs.declared.tab.Cell.{Cell}
use Rattle.core_model.specs.declared.tab.Hold.{Hold}
use Rattle.core_model.specs.declared.tab.Tab.{Tab}
use Rattle.core_model.specs.declared.tab.Tab.TheVariants.{Free, Writing}
use Rattle.core_model.specs.declared.tab.Turn.{Turn}
use Rattle.core_model.specs.declared.tab.Turn.TheVariants.{Has, NoTurn}
use Rattle.core_model.specs.declared.tab.Writer.{Writer}
use Rattle.core_model.specs.Layout.{Setting}
use Rattle.core_model.specs.State.{State}
use Rattle.core_model.specs.Tabs.{turn_of}
use Rattle.core_model.specs.Anchors.{IsSetting, opening_epoch}
use Rattle.core_model.specs.Cells.{IsCell, IsContent}
use Rattle.core_model.specs.Holders.{IsTab}
use Rattle.core_model.specs.Opening.{IsOpened}
use Rattle.core_model.specs.Sound.{Sound}
use Rattle.core_model.proofs.CellsOpened.{tab_free}
use Rattle.core_model.proofs.Lists.{contains_none, cons_contains}
use Rattle.core_log.specs.Logged.{LogStands}
use Rattle.core_log.proofs.Kept.{some_cell, no_cell}
use Rattle.core_model.specs.declared.view.Sight.TheVariants.{Logged, Stood}
use Rattle.core_model.proofs.Opened.{at_new, sight_is}
use Rattle.core_log.specs.Seen.{IsSeen}
use Rattle.core_model.specs.declared.view.View.{View}

item_at : {A : Type 0} (xs : List A) (n : ℕ) → n < length xs → (x : A) × (get_elem? xs n ≡ some x)
item_at [] n lt = absurd (omega arith)
item_at (x ∷ xs) zero lt = (x, refl)
item_at (x ∷ xs) (suc n) lt = item_at xs n (omega arith)

past : {A : Type 0} (xs : List (Option A)) (n : ℕ) → length xs ≤ n → get_or xs n None ≡ None
past [] n le = refl
past (x ∷ xs) zero le = absurd (omega arith)
past (x ∷ xs) (suc n) le = past xs n (omega arith)

module _ {X : Type 0} (k : Setting X) (r : Rebuilt) (s : State X) (is : IsSetting k) (o : IsOpened k r s) (so : Sound k s) (few : k.slots < 2 ^ 32) where
  no_writer : (i t : ℕ) (w : Writer X) → IsTab s i t (Writing w) → ⊥
  no_writer i t w h = not_free (sym (tab_free k r s is o i h.view h.at t (Writing w) h.there))
    where
      not_free : ◌≡◌ {A = Tab X} Free (Writing w) → ⊥
      not_free e = cc

  no_hold : (h : Hold X) → ◌≡◌ {A = Turn X} NoTurn (Has h) → ⊥
  no_hold h e = cc

  -- each content that a crash may leave is the one that the slot has
  pub record IsAlone (slot : ℕ) (c : Cell X) (x : X) : Type 0 where
    pub content : get_elem? k.contents slot ≡ some x
    pub now : c.now ≡ x

  alone : (slot : ℕ) (c : Cell X) (x : X) → IsCell s slot c → Contains c.possible x → IsAlone slot c x
  alone slot c x (inl h) q = dite (ℕ_discrete (k.slots - slot) 0)
      (λ e. absurd (no_cell c (sym (past s.places slot (let n = o.places in omega arith)) ∙ h)))
      (λ ne. let y = item_at k.contents slot (let n = o.contents in omega arith) in let e = some_cell c record { now = y.0; possible = y.0 ∷ [] } (sym h ∙ o.cells slot (omega arith) y.0 y.1) in
      let same : y.0 ≡ x = one y.0 (subst (λ (d : Cell X). Contains d.possible x) e q) in
      record { content = y.1 ∙ ap some same; now = ap Cell.now e ∙ same })
    where
      one : (y : X) → Contains (y ∷ []) x → y ≡ x
      one y h = ⊎_elim (λ (z : y ≡ x). z) (λ (z : Contains [] x). absurd (contains_none x z)) (cons_contains y x [] h)
  alone slot c x (inr h) q = absurd (no_hold h.hold (subst (λ (z : Tab X). turn_of z ≡ Has h.hold) (tab_free k r s is o h.i h.view h.at h.t h.tab h.there) h.turn))

  -- a view has seen where anchors stood, and no piece
  none_seen : (l : LoggedPiece) → IsSeen s.views (Logged l) → ⊥
  none_seen l h = let q = sight_is k k.anchors (Logged l) (subst (λ (w : View X). Contains w.seen (Logged l)) (at_new k r s is o h.i h.view h.at).0 h.seen) in absurd (not_stood l q.0 (opening_epoch k q.0) q.2)
    where
      not_stood : (l : LoggedPiece) (b e : ℕ) → Logged l ≡ Stood b e → ⊥
      not_stood l b e h = cc

  pub no_log : LogStands k s []
  no_log = record {
    of = record { seen = λ l c. absurd (contains_none l c); all = λ l h. absurd (none_seen l h) };
    cells = record {
      possible = λ slot c x cell q. inl (alone slot c x cell q).content;
      chosen = λ i t w p h. absurd (no_writer i t w h);
      turn = λ i t w hold h. absurd (no_writer i t w h);
    };
    links = record {
      new = λ l c. absurd (contains_none l c);
      stood = λ l c. absurd (contains_none l c);
      begins = λ l c. absurd (contains_none l c);
      agree = λ l m c. absurd (contains_none l c);
      writers = λ i t w h. absurd (no_writer i t w h);
    };
    numbers = record {
      few = few;
      inside = λ l c. absurd (contains_none l c);
      below = λ l c. absurd (contains_none l c);
      once = λ l m c. absurd (contains_none l c);
      each = λ n lt. absurd (let z = o.log in omega arith);
    };
    settled = λ a place slot c x lt there cell q fast. subst (IsContent k s a place slot) (alone slot c x cell q).now (so.cells.contents.published a place slot c lt there cell);
  }
