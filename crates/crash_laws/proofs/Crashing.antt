-- A file that a crash may leave has in each slot what it had at the opening, or a piece that was logged for it, or the slot is not sane.
use Rattle.std.proofs.Common.{◌≡◌, ◌⊎◌, inl, inr, ⊎_elim, ℕ, ◌+◌, ◌<◌, ◌≤◌, ◌^◌, ◌==◌, List, length, sym, refl, ap, ◌∙◌, subst, arith, cond, Contains}
use mathlib.Core.Option.{some}
use mathlib.Core.Logic.{dite}
use native.Mathlib.Decide.{ℕ_discrete}
use lib.ListN.{get_elem?}
use Rattle.lock_word.specs.Words.{epoch_of, version_of}
use Rattle.link_word.specs.declared.link.Link.TheVariants.{Next}
use Rattle.store_key.specs.Anchor.{anchor_of}
use Rattle.rebuild_model.specs.Image.{image_at, IsSaneAt}
use Rattle.rebuild_model.specs.Entry.{Entry, IsComplete}
use Rattle.rebuild_model.specs.Rebuilt.{IsWinner}
use Rattle.core_model.specs.declared.view.LoggedPiece.{LoggedPiece}
use Rattle.core_model.specs.declared.tab.Cell.{Cell}
use Rattle.core_model.specs.declared.tab.Piece.{Piece}
use Rattle.core_model.specs.declared.tab.Tab.{Tab}
use Rattle.core_model.specs.declared.tab.Turn.{Turn}
use Rattle.core_model.specs.declared.tab.Turn.TheVariants.{Has, NoTurn}
use Rattle.core_model.specs.declared.view.View.{View}
use Rattle.core_model.specs.Layout.{Setting}
use Rattle.core_model.specs.State.{State, turn_word, word}
use Rattle.core_model.specs.Tabs.{turn_of}
use Rattle.core_model.specs.Tabs.{count as count_tabs}
use Rattle.core_model.specs.Cells.{IsCell, holds_at, turn_at}
use Rattle.core_model.specs.Sound.{Sound}
use Rattle.core_model.specs.Trails.{sight_anchor, sight_version}
use Rattle.core_model.proofs.Lists.{by_eq, sum_some}
use Rattle.core_log.specs.Logged.{Agree, CellsLogged, HasLogged, IsKnown, LinksStand}
use Rattle.crash_entries.specs.Parts.{HasPart, IsMixed, IsOfPart, KeepsTo, Offers, Part, PartsStand}
use Rattle.crash_entries.proofs.Mixed.{known_entry, wins}
use Rattle.crash_entries.proofs.Telling.{Tools}
use Rattle.crash_laws.specs.Left.{IsFileOf, IsLeftWhile, IsWholeOffer, LogKeeps, logged_part}
use Rattle.core_log.specs.Within.{IsPossible, IsWriting, IsWiping}

-- a part of a file that was logged
pub record IsPart (log : List LoggedPiece) (p : Part) : Type 0 where
  pub link : LoggedPiece
  pub among : Contains log link
  pub is : p ≡ logged_part link

module _ {X : Type 0} (t : Tools) (slot : ℕ) (o : Offers) (k : Setting X) (b : X → List ℕ) (was : List (List ℕ)) (s : State X) (log : List LoggedPiece) (sized : slot < 2 ^ 32) (few : k.slots ≤ 1048576) (file : IsFileOf slot o k b was) (so : Sound k s)
    (cells : CellsLogged k s log) (links : LinksStand k s log) (keeps : LogKeeps slot o k log) where
  -- a slot's cell: at home, or at the tab that holds its turn
  pub a_cell : (j : ℕ) → j < k.slots → (c : Cell X) × IsCell s j c
  a_cell j lt = dite (ℕ_discrete (turn_word k s j) 0)
      (λ e. let h = so.cells.holders.home j lt e in (h.0, inl h.1))
      (λ ne. let v = sum_some (count_tabs (holds_at j)) s.views (let t = so.cells.holders.turns j lt in omega arith) in let x = sum_some (holds_at j) v.item.tabs v.some_ in
      of_turn v.i v.item v.at x.i x.item x.at (turn_of x.item) refl x.some_)
    where
      of_turn : (i : ℕ) (v : View X) → get_elem? s.views i ≡ some v → (p : ℕ) (tab : Tab X) → get_elem? v.tabs p ≡ some tab → (turn : Turn X) → turn_of tab ≡ turn → 0 < turn_at j turn → (c : Cell X) × IsCell s j c
      of_turn i v at p tab there NoTurn e h = absurd (omega arith)
      of_turn i v at p tab there (Has hold) e h = (hold.cell, inr record { i = i; view = v; at = at; t = p; tab = tab; there = there; hold = hold; turn = e; slot_is = same hold.slot h; cell_is = refl })
        where
          same : (n : ℕ) → 0 < cond (n == j) 1 0 → n ≡ j
          same n = by_eq (λ z. 0 < cond z 1 0 → n ≡ j) n j (λ q _. q) (λ _ h. absurd (omega arith))

  agree : (p q : Part) (a : IsPart log p) (b : IsPart log q) → p.version ≡ q.version → Agree a.link b.link
  agree p q a b e = links.agree a.link b.link a.among b.among (sym (ap Part.version a.is) ∙ e ∙ ap Part.version b.is)

  parts : PartsStand slot k.anchors o was (IsPart log)
  parts = record {
    keeps = λ p a. subst (λ (n : ℕ). KeepsTo slot k.anchors n o p) (sym file.many) (subst (KeepsTo slot k.anchors k.slots o) (sym a.is) (keeps a.link a.among).0);
    offer = λ p q a b e. ap Part.offer a.is ∙ (agree p q a b e).offer ∙ sym (ap Part.offer b.is);
    first = λ p q a b e. ap Part.first a.is ∙ (agree p q a b e).first ∙ sym (ap Part.first b.is);
    begins = λ p a e. ap Part.place a.is ∙ links.begins a.link a.among (sym (ap Part.first a.is) ∙ e ∙ ap Part.slot a.is);
    behind = λ p q a b e next. ap Part.place b.is ∙ (agree p q a b e).behind (sym (ap Part.next a.is) ∙ next ∙ ap Next (ap Part.slot b.is)) ∙ ap (λ (n : ℕ). n + 1) (sym (ap Part.place a.is));
    new = λ p a j sane. let g = file.greatest j sane in let n = links.new a.link a.among in let e = ap Part.version a.is in omega arith;
  }

  module _ (images : List (List ℕ)) (left : IsLeftWhile k b s log images) where
    a_part : (j : ℕ) (p : Piece) → HasLogged log j p → (bytes : List ℕ) → bytes ≡ b (k.image p) → HasPart slot o (IsPart log) bytes j
    a_part j p h bytes is = record { part = logged_part h.link; logged = record { link = h.link; among = h.among; is = refl }; slot_is = h.slot_is; bytes = is ∙ ap (λ (q : Piece). b (k.image q)) (sym h.piece_is) ∙ file.image h.link.slot h.link.anchor h.link.piece }

    pub mixed : IsMixed slot o was (IsPart log) images
    mixed = record { count = left.many ∙ sym file.many; each = λ j lt. each j (let m = left.many in omega arith) }
      where
        known : (j : ℕ) (x : X) → IsKnown k log j x → image_at images j ≡ b x → (image_at images j ≡ image_at was j) ⊎ (HasPart slot o (IsPart log) (image_at images j) j ⊎ ¬ IsSaneAt slot images j)
        known j x (inl e) is = inl (is ∙ sym (file.content j x e))
        known j x (inr (inl q)) is = inr (inl (a_part j q.0 q.1 (image_at images j) (is ∙ ap b q.2)))
        known j x (inr (inr e)) is = inr (inr (file.blank images j (is ∙ ap b e)))

        each : (j : ℕ) → j < k.slots → (image_at images j ≡ image_at was j) ⊎ (HasPart slot o (IsPart log) (image_at images j) j ⊎ ¬ IsSaneAt slot images j)
        each j lt = let c = a_cell j lt in ⊎_elim
            (λ (q : IsPossible b c.0 (image_at images j)). known j q.0 (cells.possible j c.0 q.0 c.1 q.1) q.2)
            (⊎_elim
            (λ (q : IsWriting k b s log j (image_at images j)). inr (inl (a_part j q.piece q.logged (image_at images j) q.bytes_are)))
            (λ (q : IsWiping k b s j (image_at images j)). inr (inr (file.blank images j q.bytes_are))))
            (left.each j c.0 lt c.1)

    pub low : length was ≤ 1048576
    low = let m = file.many in omega arith

    pub entries : (e : Entry) → IsComplete slot images e → IsComplete slot was e ⊎ IsWholeOffer o k.slots e
    entries e c = ⊎_elim
        (λ (q : IsComplete slot was e). inl q)
        (λ (q : IsOfPart slot o (IsPart log) e). let a = q.logged in inr record { offer = q.part.offer; new = (let z = (keeps a.link a.among).1 in let y = ap Part.offer a.is in omega arith); url = ap Entry.url q.entry; body = ap Entry.body q.entry })
        (known_entry t slot k.anchors o was (IsPart log) parts sized low images mixed e c)

    -- no piece of an anchor has a greater version than stands there
    above : (a : ℕ) → a < k.anchors → (l : LoggedPiece) → Contains log l → l.anchor ≡ a → l.piece.version ≤ version_of (epoch_of (word s a))
    above a lt l c e =
        let h = links.stood l c in
        let known = so.anchors.seen.known h.i h.view h.at h.sight h.seen in
        let seen = so.anchors.seen.epochs h.i h.view h.at a lt in
        let at_a : sight_anchor h.sight ≡ a = h.anchor ∙ e in
        let v = h.version_is in
        let up = subst (λ (b : ℕ). sight_version h.sight ≤ version_of (Rattle.core_model.specs.Trails.seen_at b h.view.seen)) at_a known in
        omega arith

    pub kept : (e : Entry) → IsComplete slot images e → (a : ℕ) → a < k.anchors → anchor_of e.key k.anchors ≡ a → e.version ≡ version_of (epoch_of (word s a))
        → ((f : Entry) → IsComplete slot was f → anchor_of f.key k.anchors ≡ a → (f.version < e.version) ⊎ ((f.version ≡ e.version) × (e.first ≤ f.first))) → IsWinner slot images k.anchors a e
    kept e c a lt at v old = wins t slot k.anchors o was (IsPart log) parts sized low images mixed e c a at
        (λ p h here. let z = above a lt h.link h.among (sym (ap Part.anchor h.is) ∙ here) in let y = ap Part.version h.is in omega arith) old
