-- Of an entry that was wiped no file that a crash may leave has its first slot.
use Rattle.std.proofs.Common.{◌≡◌, ◌≢◌, ◌⊎◌, inl, inr, ⊎_elim, ℕ, ◌<◌, ◌≤◌, ◌^◌, List, length, Option, Some, None, sym, refl, ap, ◌∙◌}
use Rattle.std.proofs.Common.{subst, arith, Contains}
use Rattle.std.specs.Prelude.{ℤ, pos}
use Rattle.std.proofs.lemmas.List.Elements.{All-contains}
use mathlib.Core.Option.{some}
use Rattle.slot_cell.specs.Header.{IsSane}
use Rattle.slot_cell.specs.Header.{header_of}
use Rattle.rebuild_model.specs.Entry.{Entry, IsComplete}
use Rattle.rebuild_model.specs.Image.{BelongsTo, IsSaneAt, header_at, image_at}
use Rattle.core_model.specs.declared.tab.Cell.{Cell}
use Rattle.core_model.specs.declared.tab.Freer.{Freer}
use Rattle.core_model.specs.declared.tab.Piece.{Piece}
use Rattle.core_model.specs.declared.tab.Reader.{Reader}
use Rattle.core_model.specs.declared.tab.Tab.TheVariants.{Freeing, Reading, Writing}
use Rattle.core_model.specs.declared.tab.Turn.TheVariants.{Has}
use Rattle.core_model.specs.declared.tab.Writer.{Writer}
use Rattle.core_model.specs.declared.view.LoggedPiece.{LoggedPiece}
use Rattle.core_model.specs.Anchors.{opening_counter}
use Rattle.core_model.specs.CellMoves.{chosen_content}
use Rattle.core_model.specs.Chains.{times}
use Rattle.core_model.specs.Layout.{Setting}
use Rattle.core_model.specs.Sound.{Sound}
use Rattle.core_model.specs.State.{State}
use Rattle.core_model.proofs.CellsTab.{reserves_first, turn_tab}
use Rattle.core_model.proofs.Spelling.{one_same}
use Rattle.core_log.specs.Logged.{CellsLogged, HasLogged, LogStands}
use Rattle.core_log.proofs.Kept.{chosen_some}
use Rattle.core_wiped.specs.Wipes.{BeginsElsewhere, IsLeftOf, IsSeenWiped, IsOfOther, IsWiped, WipesStand}
use Rattle.core_wiped.proofs.Following.{begins_nowhere}
use Rattle.core_wiped.proofs.Left.{IsChosenAt, WasLeft, chosen_logged, written_by}
use Rattle.core_wiped.proofs.WipesKept.{chosen_other}
use Rattle.crash_entries.specs.Parts.{Offers}
use Rattle.crash_entries.proofs.Telling.{Tools, tells}
use Rattle.crash_laws.specs.Left.{IsFileOf, IsLeftWhile, LogKeeps, logged_part}
use Rattle.core_log.specs.Within.{IsPossible, IsWiping, IsWriting}
use Rattle.crash_laws.proofs.Crashing.{a_cell}
use Rattle.wiped_entries.specs.Now.{IsLeftNow, IsWrittenNow}

same_pos : {z : ℤ} {m n : ℕ} → z ≡ pos m → z ≡ pos n → m ≡ n
same_pos e f = cc

-- What is left now is left while pieces that were logged are written.
module _ {X : Type 0} (k : Setting X) (b : X → List ℕ) (s : State X) (log : List LoggedPiece) (so : Sound k s) (cells : CellsLogged k s log)
    (images : List (List ℕ)) (left : IsLeftNow k b s images) where
  none : (x : X) → ◌≡◌ {A = Option X} None (Some x) → ⊥
  none x e = cc

  one_content : (x y : X) → Some y ≡ Some x → x ≡ y
  one_content x y e = cc

  written : (j : ℕ) (bytes : List ℕ) → IsWrittenNow k b s j bytes → IsWriting k b s log j bytes ⊎ IsWiping k b s j bytes
  written j bytes w = of_tab (turn_tab w.tab w.hold w.turn)
    where
      of_tab : ((r : Reader X) × (w.tab ≡ Reading r) × (r.turn ≡ Has w.hold))
          ⊎ ((y : Writer X) × (w.tab ≡ Writing y) × (y.turn ≡ Has w.hold)) ⊎ ((f : Freer X) × (w.tab ≡ Freeing f) × (f.turn ≡ Has w.hold))
          → IsWriting k b s log j bytes ⊎ IsWiping k b s j bytes
      of_tab (inl r) = absurd (none w.content (sym (ap (chosen_content k) r.1) ∙ w.writes))
      of_tab (inr (inl y)) = let there = w.is_tab.there ∙ ap some y.1 in
          let c = chosen_some k y.0 w.content (sym (ap (chosen_content k) y.1) ∙ w.writes) in
          let at : IsChosenAt k s j w.content = record {
            i = w.i;
            t = w.t;
            writer = y.0;
            tab = record { view = w.is_tab.view; at = w.is_tab.at; there = there };
            hold =
                w.hold;
            turn = y.2;
            slot_is = w.slot_is;
            piece = c.0;
            chosen = c.1;
            is = c.2;
          } in
          let first = reserves_first y.0 w.hold.slot (so.cells.turns w.i w.is_tab.view w.is_tab.at w.t (Writing y.0) there w.hold y.2).1 in
          inl record {
            piece = c.0;
            logged = chosen_logged k s log cells j w.content at;
            bytes_are = w.bytes_are ∙ ap b c.2;
            i = w.i;
            view = w.is_tab.view;
            at = w.is_tab.at;
            t = w.t;
            writer = y.0;
            writes = there;
            reserved = subst (λ (n : ℕ). 0 < times n y.0.reserved) w.slot_is (omega arith);
          }
      of_tab (inr (inr f)) = let there = w.is_tab.there ∙ ap some f.1 in
          let first = ap (times w.hold.slot) (so.cells.turns w.i w.is_tab.view w.is_tab.at w.t (Freeing f.0) there w.hold f.2).1.front in
          let one = one_same w.hold.slot in
          inr record {
            bytes_are = w.bytes_are ∙ ap b (one_content w.content k.blank (sym (ap (chosen_content k) f.1) ∙ w.writes));
            i = w.i;
            view = w.is_tab.view;
            at = w.is_tab.at;
            t = w.t;
            freer = f.0;
            frees = there;
            rests = subst (λ (n : ℕ). 0 < times n f.0.rest) w.slot_is (omega arith);
          }

  pub left_while : IsLeftWhile k b s log images
  left_while = record {
    many = left.many;
    each = λ j c lt is. ⊎_elim (λ (q : IsPossible b c (image_at images j)). inl q)
        (λ (q : IsWrittenNow k b s j (image_at images j)). inr (written j (image_at images j) q)) (left.each j c lt is);
  }

module _ {X : Type 0} (t : Tools) (slot : ℕ) (o : Offers) (k : Setting X) (b : X → List ℕ) (was : List (List ℕ)) (s : State X)
    (log : List LoggedPiece) (sized : slot < 2 ^ 32) (few : k.slots ≤ 1048576) (file : IsFileOf slot o k b was) (so : Sound k s)
    (st : LogStands k s log) (keeps : LogKeeps slot o k log) (ws : WipesStand k s log) (images : List (List ℕ))
    (left : IsLeftNow k b s images) (a version wiped : ℕ) (seen : IsSeenWiped s a version wiped) where
  abbrev is : IsWiped k s log a version wiped
  is = ws.each a version wiped seen

  -- the bytes of a slot are those of a content, which is told of by what holds of its cell, or of what a tab writes
  told : (P : X → Type 0) (j : ℕ) → j < k.slots
      → ((c : Cell X) (x : X) → Rattle.core_model.specs.Cells.IsCell s j c → Contains c.possible x → P x)
      → ((x : X) → IsOfOther k log version j x → P x) → (x : X) × P x × (image_at images j ≡ b x)
  told P j lt of_cell of_other = let c = a_cell t slot o k b was s log sized few file so st.cells st.links keeps j lt in ⊎_elim
      (λ (q : IsPossible b c.0 (image_at images j)). (q.0, of_cell c.0 q.0 c.1 q.1, q.2))
      (λ (q : IsWrittenNow k b s j (image_at images j)).
      (q.content, writing q (written_by k s q.i q.t j q.tab q.hold q.content q.is_tab q.turn q.slot_is q.writes), q.bytes_are))
      (left.each j c.0 lt c.1)
    where
      writing : (q : IsWrittenNow k b s j (image_at images j)) → WasLeft k s j q.content → P q.content
      writing q (inl p) = of_cell p.cell q.content p.is p.possible
      writing q (inr (inl c)) = of_other q.content (chosen_other k s log so st ws a version wiped j q.content is c)
      writing q (inr (inr e)) = of_other q.content (inl e)

  -- what the header of a slot with the image of a logged piece says
  says : (j : ℕ) (p : Piece) (h : HasLogged log j p) → image_at images j ≡ b (k.image p)
      → ((header_at images j).version ≡ p.version) × ((header_at images j).first_slot ≡ pos p.first)
  says j p h e = let told = tells t slot k.anchors k.slots o (logged_part h.link) (keeps h.link h.among).0 sized few in
      let bytes = e ∙ ap (λ (q : Piece). b (k.image q)) (sym h.piece_is) ∙ file.image h.link.slot h.link.anchor h.link.piece in (
        ap (λ (i : List ℕ). (header_of i).version) bytes ∙ told.version ∙ ap Piece.version h.piece_is,
        ap (λ (i : List ℕ). (header_of i).first_slot) bytes ∙ told.first ∙ ap (λ (q : Piece). pos q.first) h.piece_is,
      )

  pub wiped_slot : IsSaneAt slot images wiped → (header_at images wiped).version ≢ version
  wiped_slot sane e = of_content (told (IsOfOther k log version wiped) wiped is.inside is.left (λ x q. q))
    where
      of_content : (x : X) × IsOfOther k log version wiped x × (image_at images wiped ≡ b x) → ⊥
      of_content (x, inl q, bytes) = file.blank images wiped (bytes ∙ ap b q) sane
      of_content (x, inr q, bytes) = q.2 (sym (says wiped q.0 q.1 (bytes ∙ ap b q.3)).0 ∙ e)

  module _ (e : Entry) (c : IsComplete slot images e) where
    belongs : BelongsTo slot images e.first e.first
    belongs = All-contains (BelongsTo slot images e.first) e.chain e.first c.chain.belong
        (subst (λ (xs : List ℕ). Contains xs e.first) (sym c.chain.begins) (0, omega arith, refl))

    pub begun : e.first ≡ wiped → e.version ≢ version
    begun same v = wiped_slot (subst (IsSaneAt slot images) same belongs.sane)
        (ap (λ (j : ℕ). (header_at images j).version) (sym same) ∙ sym c.version ∙ v)

    other_left : (x : X) → IsOfOther k log version e.first x → IsLeftOf k log version wiped e.first x
    other_left x (inl q) = inr (inr q)
    other_left x (inr q) = inr (inl (q.0, q.1, inl q.2, q.3))

    pub new_gone : opening_counter k < version → e.version ≢ version
    new_gone new v = of_content (told (IsLeftOf k log version wiped e.first) e.first (let z = belongs.sane.within in let m = left.many in
        omega arith)
        (λ d x cell q. begins_nowhere k s log a version wiped e.first d x st ws seen cell q) other_left)
      where
        of_piece : (p : Piece) (h : HasLogged log e.first p) → image_at images e.first ≡ b (k.image p)
            → BeginsElsewhere version wiped e.first p → ⊥
        of_piece p h bytes (inl other) = other (sym (says e.first p h bytes).0 ∙ sym c.version ∙ v)
        of_piece p h bytes (inr q) = q.1 (sym (same_pos (says e.first p h bytes).1 belongs.first) ∙ q.0)

        of_content : (x : X) × IsLeftOf k log version wiped e.first x × (image_at images e.first ≡ b x) → ⊥
        of_content (x, inl q, bytes) = let same = bytes ∙ sym (file.content e.first x q) in
            let m : length images ≡ length was = left.many ∙ sym file.many in
            let sane : IsSaneAt slot was e.first = record {
              within = (let z = belongs.sane.within in omega arith);
              sane = subst (λ (n : ℕ). IsSane (header_at was e.first) n slot) m
                  (subst (λ (i : List ℕ). IsSane (header_of i) (length images) slot) same belongs.sane.sane);
            } in
            let low = file.greatest e.first sane in let told = ap (λ (i : List ℕ). (header_of i).version) same in let w = c.version in
            omega arith
        of_content (x, inr (inl q), bytes) = of_piece q.0 q.1 (bytes ∙ ap b q.3) q.2
        of_content (x, inr (inr q), bytes) = file.blank images e.first (bytes ∙ ap b q) belongs.sane
