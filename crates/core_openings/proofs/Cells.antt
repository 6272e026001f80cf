-- In a store that was just opened with what a rebuild kept each cell is home, and each slot of an entry has the opening's content.
use Rattle.std.proofs.Common.{◌≡◌, inl, inr, ⊎_elim, ℕ, zero, suc, ◌-◌, ◌<◌, List, [], ◌∷◌, length, get_or, sym, refl, ap, ◌∙◌, subst, arith, Some, None, Contains}
use Rattle.std.proofs.lemmas.List.{get_or_past}
use mathlib.Core.Option.{some, some-ne-none}
use mathlib.Core.Logic.{dite}
use native.Mathlib.Decide.{ℕ_discrete}
use lib.ListN.{get_elem?}
use Rattle.store_key.specs.Anchor.{anchor_of}
use Rattle.rebuild_model.specs.declared.found.Found.{Found}
use Rattle.rebuild_model.specs.declared.rebuilt.Rebuilt.{Rebuilt}
use Rattle.core_model.specs.declared.moves.Side.TheVariants.{Offer}
use Rattle.core_model.specs.declared.tab.Cell.{Cell}
use Rattle.core_model.specs.declared.tab.Hold.{Hold}
use Rattle.core_model.specs.declared.tab.Turn.{Turn}
use Rattle.core_model.specs.declared.tab.Turn.TheVariants.{NoTurn, Has}
use Rattle.core_model.specs.declared.tab.Tab.{Tab}
use Rattle.core_model.specs.declared.view.Place.TheVariants.{Beside}
use Rattle.core_model.specs.declared.chain.Chain.{Chain}
use Rattle.core_model.specs.Layout.{Setting, index}
use Rattle.core_model.specs.State.{State, chain_of, side_word}
use Rattle.core_model.specs.Tabs.{turn_of, count}
use Rattle.core_model.specs.Anchors.{IsSetting}
use Rattle.core_model.specs.Opening.{IsOpened}
use Rattle.core_model.specs.Cells.{holds_at, TurnFits, IsHeldCell, IsCell, TabPiece, CellsSound}
use Rattle.core_model.proofs.Opened.{no_sum}
use Rattle.core_model.proofs.CellsOpened.{numbered, tab_free, old_version}
use Rattle.core_openings.specs.KeptSo.{IsKeptSo}

item_at : {A : Type 0} (xs : List A) (i : ℕ) → i < length xs → (x : A) × (get_elem? xs i ≡ some x)
item_at [] i lt = absurd (omega arith)
item_at (x ∷ xs) zero lt = (x, refl)
item_at (x ∷ xs) (suc i) lt = item_at xs i (omega arith)

module _ {X : Type 0} where
  no_hold : (h : Hold X) → ◌≡◌ {A = Turn X} NoTurn (Has h) → ⊥
  no_hold h e = cc

  one_cell : (c d : Cell X) → Some c ≡ Some d → c ≡ d
  one_cell c d e = cc

  no_cell : (c : Cell X) → None ≡ Some c → ⊥
  no_cell c e = cc

  abbrev cell_of : X → Cell X
  cell_of x = record { now = x; possible = x ∷ [] }

module _ {X : Type 0} (k : Setting X) (r : Rebuilt) (s : State X) (is : IsSetting k) (o : IsOpened k r s) (b : IsKeptSo k.anchors k.slots r) where
  none_held : (slot : ℕ) (c : Cell X) → IsHeldCell s slot c → ⊥
  none_held slot c h = no_hold h.hold (subst (λ (z : Tab X). turn_of z ≡ Has h.hold) (tab_free k r s is o h.i h.view h.at h.t h.tab h.there) h.turn)

  -- each cell is home, with the content at the opening and no other
  record Opens (slot : ℕ) : Type 0 where
    content : X
    at : get_elem? k.contents slot ≡ some content
    home : get_or s.places slot None ≡ Some (cell_of content)

  opens_cell : (slot : ℕ) → slot < k.slots → Opens slot
  opens_cell slot lt = let x = item_at k.contents slot (let n = o.contents in omega arith) in record { content = x.0; at = x.1; home = o.cells slot lt x.0 x.1 }

  record Told (slot : ℕ) (c : Cell X) : Type 0 where
    content : X
    at : get_elem? k.contents slot ≡ some content
    cell_is : c ≡ cell_of content

  told : (slot : ℕ) (c : Cell X) → IsCell s slot c → Told slot c
  told slot c (inl h) = dite (ℕ_discrete (k.slots - slot) 0)
      (λ e. absurd (no_cell c (sym (get_or_past s.places slot None (let n = o.places in omega arith)) ∙ h)))
      (λ ne. let x = opens_cell slot (omega arith) in record { content = x.content; at = x.at; cell_is = one_cell c (cell_of x.content) (sym h ∙ x.home) })
  told slot c (inr h) = absurd (none_held slot c h)

  -- an entry that was kept begins at a slot of the store
  begins_inside : (f : Found) → Contains r.winners f → f.first < k.slots
  begins_inside f h = b.within f h f.first (subst (λ (xs : List ℕ). Contains xs f.first) (sym (b.begins f h).1) (0, omega arith, refl))

  old_offer : (a place j : ℕ) → a < k.anchors → get_elem? (chain_of s a).slots place ≡ some j → side_word k s Offer a < k.slots
  old_offer a place j lt at = ⊎_elim
      (λ (q : (f : Found) × Contains r.winners f × (anchor_of f.key k.anchors ≡ a)). subst (λ (z : ℕ). side_word k s Offer z < k.slots) q.2 (let e = (o.kept q.0 q.1).offer in let z = begins_inside q.0 q.1 in omega arith))
      (λ (q : (f : Found) → Contains r.winners f → anchor_of f.key k.anchors ≡ a → ⊥). absurd (none_in (subst (λ (c : Chain). get_elem? c.slots place ≡ some j) (o.empty a lt q).chain at)))
      (numbered (λ (f : Found). anchor_of f.key k.anchors) a r.winners)
    where
      none_in : get_elem? [] place ≡ some j → ⊥
      none_in e = some-ne-none j (sym e)

  pub opens_cells : CellsSound k s
  opens_cells = record {
    holders = record {
      turns = λ j lt. o.turns j lt ∙ sym (no_sum k r s is o (count (holds_at j)) (λ p. refl));
      few = λ j lt. let e = o.turns j lt in omega arith;
      home = λ j lt e. let x = opens_cell j lt in (cell_of x.content, x.home);
      away = λ j lt e. absurd (let z = o.turns j lt in omega arith);
    };
    turns = λ i v e t tab h. subst (TurnFits k s) (sym (tab_free k r s is o i v e t tab h)) tt;
    contents = record {
      published = λ a place j c lt at h. let x = told j c h in inl (old_offer a place j lt at, subst (λ (z : Cell X). get_elem? k.contents j ≡ some z.now) (sym x.cell_is) x.at);
      possible = λ j c h. let x = told j c h in subst (λ (z : Cell X). Contains z.possible z.now) (sym x.cell_is) (0, omega arith, refl);
    };
    writers = λ i v e t tab h. subst (TabPiece k s) (sym (tab_free k r s is o i v e t tab h)) tt;
    names = record {
      old = λ a side lt ne st some_slot old. ap (λ (ws : List ℕ). get_or ws (index k (Beside side a)) 0) o.words;
      new = λ a side lt ne st some_slot new. absurd (old_version k r s is o a lt new);
      offers = λ a lt some_slot new. absurd (old_version k r s is o a lt new);
    };
  }
