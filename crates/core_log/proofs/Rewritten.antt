-- A writing tab that has a cell in its hands comes to have another one, by no step, of which a crash may leave no more than what it might leave
-- before, and the piece that the tab chose: what holds of the log stays.
use Rattle.std.proofs.Common.{◌≡◌, ◌≢◌, ◌⊎◌, inl, inr, ⊎_elim, ℕ, ◌<◌, List, ◌∷◌, sym, refl, ap, ◌∙◌, subst, arith, Some, Contains}
use mathlib.Core.Option.{some, some-injective}
use mathlib.Core.Logic.{dite}
use native.Mathlib.Decide.{ℕ_discrete}
use lib.ListN.{get_elem?}
use Rattle.core_model.specs.declared.view.LoggedPiece.{LoggedPiece}
use Rattle.core_model.specs.declared.tab.Cell.{Cell}
use Rattle.core_model.specs.declared.tab.Hold.{Hold}
use Rattle.core_model.specs.declared.tab.Tab.{Tab}
use Rattle.core_model.specs.declared.tab.Tab.TheVariants.{Writing}
use Rattle.core_model.specs.declared.tab.Turn.TheVariants.{Has}
use Rattle.core_model.specs.declared.tab.Writer.{Writer}
use Rattle.core_model.specs.declared.view.View.{View}
use Rattle.core_model.specs.Layout.{Setting}
use Rattle.core_model.specs.State.{State, chain_of}
use Rattle.core_model.specs.Chains.{rest_of, times}
use Rattle.core_model.specs.Tabs.{turn_of}
use Rattle.core_model.specs.Cells.{IsCell, IsHeldCell}
use Rattle.core_model.specs.Holders.{IsTab}
use Rattle.core_model.specs.Sound.{Sound}
use Rattle.core_model.specs.TableForms.{MayRewrite, with_held, with_hold}
use Rattle.core_model.specs.Versions.{IsSighted}
use Rattle.core_model.proofs.Lists.{at_length, at_set, set_else, set_here}
use Rattle.core_model.proofs.CellsTab.{written_unpublished}
use Rattle.core_model.proofs.FollowsKept.{at_times}
use Rattle.core_model.proofs.Spelling.{one_same}
use Rattle.core_log.specs.Logged.{CellsLogged, ChoseLogged, HasLogged, IsFast, IsKnown, IsOfWriter, LinksStand, LogStands, SettledStand}
use Rattle.core_model.specs.declared.view.Sight.{Sight}
use Rattle.core_model.specs.declared.view.Sight.TheVariants.{Logged}
use Rattle.core_log.specs.Seen.{IsSeen}
use Rattle.core_log.proofs.Kept.{chosen_some, one_slot}
use Rattle.core_model.specs.CellMoves.{map_some}

module _ {X : Type 0} (k : Setting X) (s : State X) (log : List LoggedPiece) (i t : ℕ) (v : View X) (w : Writer X) (old new : Hold X) (so : Sound k s) (st : LogStands k s log) (at : get_elem? s.views i ≡ some v)
    (may : MayRewrite k v t w old new) where
  abbrev s' : State X
  s' = with_held s i v t w new

  abbrev x : Writer X
  x = record w { turn = Has new }

  one_hold : (g h : Hold X) → Has g ≡ Has h → g ≡ h
  one_hold g h e = cc

  same_writer : (y : Writer X) → ◌≡◌ {A = Tab X} (Writing x) (Writing y) → x ≡ y
  same_writer y e = ap as_writer e
    where
      as_writer : Tab X → Writer X
      as_writer (Writing z) = z
      as_writer _ = x

  mine : IsTab s i t (Writing w)
  mine = record { view = v; at = at; there = may.writes }

  -- a tab is as it was, or is this one
  tab_was : (j u : ℕ) (y : Tab X) → IsTab s' j u y → IsTab s j u y ⊎ ((j ≡ i) × (u ≡ t) × (Writing x ≡ y))
  tab_was j u y h = ⊎_elim
      (λ (q : (j ≡ i) × (with_hold v t w new ≡ h.view)). ⊎_elim
      (λ (r : (u ≡ t) × (Writing x ≡ y)). inr (q.0, r.0, r.1))
      (λ (r : (u ≢ t) × (get_elem? v.tabs u ≡ some y)). inl (subst (λ (n : ℕ). IsTab s n u y) (sym q.0) record { view = v; at = at; there = r.1 }))
      (at_set v.tabs t u (Writing x) y (subst (λ (z : View X). get_elem? z.tabs u ≡ some y) (sym q.1) h.there)))
      (λ (q : (j ≢ i) × (get_elem? s.views j ≡ some h.view)). inl record { view = h.view; at = q.1; there = h.there })
      (at_set s.views i j (with_hold v t w new) h.view h.at)

  held_old : IsHeldCell s old.slot old.cell
  held_old = record { i = i; view = v; at = at; t = t; tab = Writing w; there = may.writes; hold = old; turn = may.turn; slot_is = refl; cell_is = refl }

  fits : (old.slot < k.slots) × (w.reserved ≡ old.slot ∷ rest_of w.reserved)
  fits = so.cells.turns i v at t (Writing w) may.writes old may.turn

  -- what a crash may leave of the new one
  new_known : (y : X) → Contains new.cell.possible y → IsKnown k log old.slot y
  new_known y c = ⊎_elim
      (λ (q : Contains old.cell.possible y). st.cells.possible old.slot old.cell y (inr held_old) q)
      (λ (q : map_some k.image w.chosen ≡ Some y). let z = chosen_some k w y q in let f = st.cells.chosen i t w z.0 mine z.1 in
      inr (inl (z.0, subst (λ (n : ℕ). HasLogged log n z.0) (one_slot f.0 old.slot (sym f.1.slot_is ∙ st.cells.turn i t w old mine may.turn)) f.1.logged, z.2)))
      (may.within y c)

  -- a cell is one of before, or the new one
  cell_was : (slot : ℕ) (c : Cell X) → IsCell s' slot c → IsCell s slot c ⊎ ((old.slot ≡ slot) × (new.cell ≡ c))
  cell_was slot c (inl e) = inl (inl e)
  cell_was slot c (inr h) = ⊎_elim
      (λ (q : IsTab s h.i h.t h.tab). inl (inr record { i = h.i; view = q.view; at = q.at; t = h.t; tab = h.tab; there = q.there; hold = h.hold; turn = h.turn; slot_is = h.slot_is; cell_is = h.cell_is }))
      (λ (q : (h.i ≡ i) × (h.t ≡ t) × (Writing x ≡ h.tab)). let same = one_hold new h.hold (ap turn_of q.2 ∙ h.turn) in inr (sym may.slot_is ∙ ap Hold.slot same ∙ h.slot_is, ap Hold.cell same ∙ h.cell_is))
      (tab_was h.i h.t h.tab record { view = h.view; at = h.at; there = h.there })

  unpublished : (a : ℕ) → times old.slot (chain_of s a).slots ≡ 0
  unpublished a = written_unpublished k s i v so at t w may.writes old.slot (let c : times old.slot w.reserved ≡ times old.slot (old.slot ∷ rest_of w.reserved) = ap (times old.slot) fits.1 in let o = one_same old.slot in omega arith) a

  sighted : (a u : ℕ) → IsSighted s a u → IsSighted s' a u
  sighted a u h = dite (ℕ_discrete h.i i)
      (λ e. record { i = i; view = with_hold v t w new; at = set_here s.views i (with_hold v t w new) (at_length s.views i v at); sight = h.sight; seen = subst (λ (y : View X). Contains y.seen h.sight) (some-injective h.view v (sym h.at ∙ ap (get_elem? s.views) e ∙ at)) h.seen; anchor = h.anchor; version_is = h.version_is })
      (λ ne. record { i = h.i; view = h.view; at = set_else s.views i h.i (with_hold v t w new) ne ∙ h.at; sight = h.sight; seen = h.seen; anchor = h.anchor; version_is = h.version_is })

  -- the writer was one, with the same chain and the same choice
  writers_stay : (P : Writer X → Type 0) → (P w → P x) → (j u : ℕ) (y : Writer X) → IsTab s' j u (Writing y) → ((z : Writer X) → IsTab s j u (Writing z) → P z) → P y
  writers_stay P on j u y h was = ⊎_elim
      (λ (q : IsTab s j u (Writing y)). was y q)
      (λ (q : (j ≡ i) × (u ≡ t) × (Writing x ≡ Writing y)). subst P (same_writer y q.2) (on (was w (subst (λ (n : ℕ). IsTab s n u (Writing w)) (sym q.0) (subst (λ (n : ℕ). IsTab s i n (Writing w)) (sym q.1) mine)))))
      (tab_was j u (Writing y) h)

  cells_stay : CellsLogged k s' log
  cells_stay = record {
    possible = λ slot c y is q. ⊎_elim
        (λ (z : IsCell s slot c). st.cells.possible slot c y z q)
        (λ (z : (old.slot ≡ slot) × (new.cell ≡ c)). subst (λ (n : ℕ). IsKnown k log n y) z.0 (new_known y (subst (λ (d : Cell X). Contains d.possible y) (sym z.1) q)))
        (cell_was slot c is);
    chosen = λ j u y p h. writers_stay (λ z. z.chosen ≡ Some p → (n : ℕ) × ChoseLogged log n p z.logged_in) (λ f. f) j u y h (λ z is e. st.cells.chosen j u z p is e);
    turn = λ j u y hold h turn. ⊎_elim
        (λ (q : IsTab s j u (Writing y)). st.cells.turn j u y hold q turn)
        (λ (q : (j ≡ i) × (u ≡ t) × (Writing x ≡ Writing y)). let same = same_writer y q.2 in
        sym (ap Writer.logged_in same) ∙ st.cells.turn i t w old mine may.turn ∙ ap Some (sym may.slot_is) ∙ ap (λ (z : Hold X). Some z.slot) (one_hold new hold (ap Writer.turn same ∙ turn)))
        (tab_was j u (Writing y) h);
  }

  links_stay : LinksStand k s' log
  links_stay = record {
    new = st.links.new;
    stood = λ l c. sighted l.anchor l.piece.version (st.links.stood l c);
    begins = st.links.begins;
    agree = st.links.agree;
    writers = λ j u y h l c. writers_stay (λ z. l.piece.version ≡ z.version → IsOfWriter z l)
        (λ f e. let q = f e in record {
          anchor = q.anchor;
          key0 = q.key0;
          key1 = q.key1;
          offer = q.offer;
          first = q.first;
          stands = ⊎_elim (λ z. inl record { place = z.place; next = z.next }) (λ z. inr record { chosen = z.chosen; slot_is = z.slot_is; durable = z.durable; place = z.place; first = z.first }) q.stands;
        }) j u y h (λ z is e. st.links.writers j u z is l c e);
  }

  settled_stay : SettledStand k s' log
  settled_stay a place slot c y lt there is q fast = ⊎_elim
      (λ (z : IsCell s slot c). st.settled a place slot c y lt there z q (still fast))
      (λ (z : (old.slot ≡ slot) × (new.cell ≡ c)). absurd (let u = unpublished a in let p = at_times (chain_of s a).slots place old.slot (there ∙ ap some (sym z.0)) in omega arith))
      (cell_was slot c is)
    where
      still : IsFast k s' log a place → IsFast k s log a place
      still (inl low) = inl low
      still (inr d) = inr record { link = d.link; among = d.among; durable = d.durable; anchor_is = d.anchor_is; version_is = d.version_is; place_is = d.place_is }

  -- what was seen is
  seen_before : (y : Sight) → IsSeen s'.views y → IsSeen s.views y
  seen_before y h = ⊎_elim
      (λ (q : (h.i ≡ i) × (with_hold v t w new ≡ h.view)). record { i = i; view = v; at = at; seen = subst (λ (z : View X). Contains z.seen y) (sym q.1) h.seen })
      (λ (q : (h.i ≢ i) × (get_elem? s.views h.i ≡ some h.view)). record { i = h.i; view = h.view; at = q.1; seen = h.seen })
      (at_set s.views i h.i (with_hold v t w new) h.view h.at)

  seen_after : (y : Sight) → IsSeen s.views y → IsSeen s'.views y
  seen_after y h = dite (ℕ_discrete h.i i)
      (λ e. record { i = i; view = with_hold v t w new; at = set_here s.views i (with_hold v t w new) (at_length s.views i v at); seen = subst (λ (z : View X). Contains z.seen y) (some-injective h.view v (sym h.at ∙ ap (get_elem? s.views) e ∙ at)) h.seen })
      (λ ne. record { i = h.i; view = h.view; at = set_else s.views i h.i (with_hold v t w new) ne ∙ h.at; seen = h.seen })

  pub rewritten : LogStands k s' log
  rewritten = record { of = record { seen = λ l c. seen_after (Logged l) (st.of.seen l c); all = λ l h. st.of.all l (seen_before (Logged l) h) }; cells = cells_stay; links = links_stay; numbers = record { few = st.numbers.few; inside = st.numbers.inside; below = st.numbers.below; once = st.numbers.once; each = st.numbers.each }; settled = settled_stay }
