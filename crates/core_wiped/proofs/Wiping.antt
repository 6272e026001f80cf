-- A turn that ends with the slot wiped: what holds of a wiped slot holds of it.
use Rattle.std.proofs.Common.{◌≡◌, inl, inr, ⊎_elim, ℕ, ◌+◌, ◌<◌, List, ◌∷◌, ◌++◌, get_or, Bool, None, refl, sym, ap, ◌∙◌, subst, arith}
use Rattle.std.proofs.Common.{Contains}
use mathlib.Core.Option.{some, some-injective}
use lib.ListN.{get_elem?}
use Rattle.lock_word.specs.Words.{doom_number, doom_of, epoch_of, stage_of, version_of}
use Rattle.core_model.specs.declared.moves.Move.{Move}
use Rattle.core_model.specs.declared.moves.Move.TheVariants.{EndTurn, LogPiece}
use Rattle.core_model.specs.declared.moves.Side.TheVariants.{Start}
use Rattle.core_model.specs.declared.moves.Then.TheVariants.{Wiped as WipedThen}
use Rattle.core_model.specs.declared.tab.Cell.{Cell}
use Rattle.core_model.specs.declared.tab.Freer.{Freer}
use Rattle.core_model.specs.declared.tab.Hold.{Hold}
use Rattle.core_model.specs.declared.tab.Tab.{Tab}
use Rattle.core_model.specs.declared.tab.Tab.TheVariants.{Freeing, Writing}
use Rattle.core_model.specs.declared.tab.Turn.{Turn}
use Rattle.core_model.specs.declared.tab.Turn.TheVariants.{Has}
use Rattle.core_model.specs.declared.tab.Writer.{Writer}
use Rattle.core_model.specs.declared.view.LoggedPiece.{LoggedPiece}
use Rattle.core_model.specs.declared.view.Sight.TheVariants.{Stood, Wiped}
use Rattle.core_model.specs.declared.view.View.{View}
use Rattle.core_model.specs.Anchors.{opening_epoch}
use Rattle.core_model.specs.CellMoves.{HasWiped, MayWipe, wiped_by}
use Rattle.core_model.specs.Cells.{IsCell}
use Rattle.core_model.specs.Chains.{rest_of, start_number}
use Rattle.core_model.specs.Deeds.{IsDone, LeftEpoch}
use Rattle.core_model.specs.Holders.{IsTab}
use Rattle.core_model.specs.Layout.{Setting}
use Rattle.core_model.specs.Sound.{Sound}
use Rattle.core_model.specs.State.{State, side_word, word}
use Rattle.core_model.specs.Steps.{after, finding, view_after}
use Rattle.core_model.specs.Table.{Allowed, MayStep}
use Rattle.core_model.specs.Tabs.{IsPass, OfFreer, tab_at, turn_of}
use Rattle.core_model.proofs.Lists.{at_length, set_here}
use Rattle.core_model.proofs.ReservesKept.{of_freer}
use Rattle.std.proofs.lemmas.List.Elements.{Contains-append_left}
use Rattle.core_model.proofs.Holders.{is_away, one_holder}
use Rattle.core_model.proofs.Matching.{matches_freed, matches_freer}
use Rattle.core_model.proofs.Telling.{told_in}
use Rattle.core_log.specs.Logged.{LogStands, logged_now}
use Rattle.core_log.specs.Seen.{IsSeen}
use Rattle.core_log.proofs.Kept.{no_cell, there_at}
use Rattle.core_log.proofs.KnownStays.{stays_seen}
use Rattle.core_log.proofs.LinksKept.{new_is, one_of, split}
use Rattle.core_wiped.specs.Wipes.{IsWiped, LeavesWiped, WipesStand}
use Rattle.core_wiped.proofs.Left.{IsChosenAt, IsPossible, was_left}
use Rattle.core_wiped.proofs.WipedSeen.{EndsWiped}

module _ {X : Type 0} where
  one_hold : (g h : Hold X) → ◌≡◌ {A = Turn X} (Has g) (Has h) → g ≡ h
  one_hold g h e = cc

  writes_or_frees : (w : Writer X) (f : Freer X) → ◌≡◌ {A = Tab X} (Writing w) (Freeing f) → ⊥
  writes_or_frees w f e = cc

not_logging : (t u j slot : ℕ) (is_durable : Bool) → LogPiece u j is_durable ≡ EndTurn t slot WipedThen → ⊥
not_logging t u j slot is_durable e = cc

module _ {X : Type 0} (k : Setting X) (s : State X) (log : List LoggedPiece) (i : ℕ) (v : View X) (m : Move) (so : Sound k s)
    (st : LogStands k s log) (at : get_elem? s.views i ≡ some v) (may : Allowed k s v m)
    (a version slot : ℕ) (e : EndsWiped m v a version slot) where
  abbrev f : Freer X
  f = e.freer

  allowed : Allowed k s v (EndTurn e.t slot WipedThen)
  allowed = subst (Allowed k s v) e.is may

  wiped : HasWiped k f
  wiped = subst (OfFreer (HasWiped k)) e.tab allowed.2

  there : get_elem? v.tabs e.t ≡ some (Freeing f)
  there = there_at v.tabs e.t wiped.hold (ap turn_of e.tab ∙ wiped.turn) ∙ ap some e.tab

  tab : IsTab s i e.t (Freeing f)
  tab = record { view = v; at = at; there = there }

  slot_is : wiped.hold.slot ≡ slot
  slot_is = let h = allowed.1 in ap Hold.slot (one_hold wiped.hold h.0 (sym wiped.turn ∙ sym (ap turn_of e.tab) ∙ h.1)) ∙ h.2

  fits : (wiped.hold.slot < k.slots) × MayWipe wiped.hold.slot f
  fits = so.cells.turns i v at e.t (Freeing f) there wiped.hold wiped.turn

  pub front : f.rest ≡ slot ∷ rest_of f.rest
  front = subst (λ (n : ℕ). f.rest ≡ n ∷ rest_of f.rest) slot_is fits.1.front

  lt : f.anchor < k.anchors
  lt = (so.anchors.tabs i v at e.t (Freeing f) there).0

  abbrev epoch : ℕ
  epoch = epoch_of (word s f.anchor)

  stage_is : stage_of epoch ≡ 5
  stage_is = matches_freer k s so.anchors i e.t f tab fits.1.freeing

  version_is : version_of epoch ≡ version
  version_is = (matches_freed k s so.anchors i e.t f tab fits.1.freeing).version_is ∙ e.version_is

  doom_is : doom_of epoch ≡ 1
  doom_is = (matches_freed k s so.anchors i e.t f tab fits.1.freeing).doom_is ∙ ap doom_number fits.1.doomed

  -- a crash left the slot blank and nothing else
  held_alone : (c : Cell X) (x : X) → IsCell s slot c → Contains c.possible x → x ≡ k.blank
  held_alone c x (inl home) q = let away = is_away k s so i e.t (Freeing f) wiped.hold tab wiped.turn in
      absurd (no_cell c (sym away.1.empty ∙ ap (λ (n : ℕ). get_or s.places n None) slot_is ∙ home))
  held_alone c x (inr h) q = let one = one_holder k s so h.i i h.t e.t h.tab
      (Freeing f) h.hold wiped.hold record { view = h.view; at = h.at; there = h.there } tab h.turn wiped.turn (h.slot_is ∙ sym slot_is) in
      let view : h.view ≡ v = some-injective h.view v (sym h.at ∙ ap (get_elem? s.views) one.0 ∙ at) in
      let same : h.tab ≡ Freeing f = some-injective h.tab (Freeing f)
      (sym h.there ∙ ap (λ (u : View X). get_elem? u.tabs h.t) view ∙ ap (get_elem? v.tabs) one.1 ∙ there) in
      let hold : h.hold ≡ wiped.hold = one_hold h.hold wiped.hold (sym h.turn ∙ ap turn_of same ∙ wiped.turn) in
      sym (one_of k.blank x (subst (λ (xs : _). Contains xs x)
      (sym (ap (λ (d : Cell X). d.possible) h.cell_is) ∙ ap (λ (d : Hold X). d.cell.possible) hold ∙ wiped.alone) q))

  -- and so it does afterwards
  pub only_blank : (c : Cell X) (x : X) → IsCell (after k s i v m) slot c → Contains c.possible x → x ≡ k.blank
  only_blank c x is q = ⊎_elim
      (λ (z : IsPossible k s slot x). held_alone z.cell x z.is z.possible)
      (⊎_elim
      (λ (z : IsChosenAt k s slot x). absurd (let one = one_holder k s so z.i i z.t e.t (Writing z.writer)
      (Freeing f) z.hold wiped.hold z.tab tab z.turn wiped.turn (z.slot_is ∙ sym slot_is) in
      let view : z.tab.view ≡ v = some-injective z.tab.view v (sym z.tab.at ∙ ap (get_elem? s.views) one.0 ∙ at) in
      writes_or_frees z.writer f (some-injective (Writing z.writer) (Freeing f)
      (sym z.tab.there ∙ ap (λ (u : View X). get_elem? u.tabs z.t) view ∙ ap (get_elem? v.tabs) one.1 ∙ there))))
      (λ (z : x ≡ k.blank). z))
      (was_left k s log i v so st.cells at m may slot c x is q)

  module _ (ws : WipesStand k s log) (pass : IsPass v) where
    -- a deed left the epoch, and so it was seen
    was_seen : IsSeen s.views (Stood a epoch)
    was_seen = ⊎_elim
        (λ (q : epoch ≡ opening_epoch k f.anchor). absurd (let z = ap stage_of q in let y = stage_is in
        ⊎_elim (λ (w : stage_of (opening_epoch k f.anchor) ≡ 0). omega arith)
        (λ (w : stage_of (opening_epoch k f.anchor) ≡ 3). omega arith) (so.anchors.setting.stage f.anchor lt)))
        (λ (q : IsDone s (LeftEpoch f.anchor epoch)). subst
        (λ (n : ℕ). IsSeen s.views (Stood n epoch)) (q.so.0.0 ∙ e.anchor_is)
        (subst (λ (n : ℕ). IsSeen s.views (Stood q.deed.anchor n)) q.so.1 (ws.deeds q.i q.view q.at q.deed q.done (refl, q.so.0.1))))
        (so.anchors.deeds.left f.anchor epoch (inl (lt, refl)))

    -- each piece of the version names the first slot of the chain
    names_slot : (l : LoggedPiece) → Contains log l → l.piece.version ≡ version → l.piece.first ≡ slot
    names_slot l c same = let new = st.links.new l c in
        let here : l.anchor ≡ f.anchor = so.anchors.held.one_anchor l.anchor f.anchor l.piece.version new (inr (st.links.stood l c))
        (inl (lt, version_is ∙ sym same)) in
        let word_same = ap (λ (n : ℕ). epoch_of (word s n)) here in
        let stands : version_of (epoch_of (word s l.anchor)) ≡ l.piece.version = ap version_of word_same ∙ version_is ∙ sym same in
        let late = ap stage_of word_same ∙ stage_is in
        let start : side_word k s Start l.anchor ≡ wiped.hold.slot + 1 = ap (side_word k s Start) here
        ∙ sym (told_in k.anchors f.anchor (side_word k s Start f.anchor) lt)
        ∙ (so.slots.tabs i v at e.t (Freeing f) there).starts fits.1.whole ∙ ap start_number fits.1.front in
        let j = slot_is in ⊎_elim
        (λ (q : side_word k s Start l.anchor ≡ 0). absurd (omega arith))
        (λ (q : side_word k s Start l.anchor ≡ l.piece.first + 1). omega arith)
        (ws.starts l c stands (omega arith))

    pub new_wipe : IsWiped k (after k s i v m) (logged_now k s v m ++ log) a version slot
    new_wipe = record {
      freed = record {
        epoch = epoch;
        seen = stays_seen k s i v at pass m may (Stood a epoch) was_seen;
        version_is = version_is;
        stage_is =
            stage_is;
        doom_is = doom_is;
      };
      inside = let z = fits.0 in let y = slot_is in omega arith;
      first = λ l c same. ⊎_elim
          (λ (q : Contains (logged_now k s v m) l). let n = new_is k s log i v so st.links at m may l q in
          absurd (not_logging e.t n.t n.slot slot n.is_durable (sym n.logs_it ∙ e.is)))
          (λ (q : Contains log l). names_slot l q same)
          (split (logged_now k s v m) log l c);
      left = λ c x is q. inl (only_blank c x is q);
    }

-- the end of a turn by which a slot is wiped
pub leaves_wiped : {X : Type 0} → (k : Setting X) (s : State X) (log : List LoggedPiece) (i : ℕ) (v : View X) (t slot : ℕ) → Sound k s
    → LogStands k s log → get_elem? s.views i ≡ some v → MayStep k s v (EndTurn t slot WipedThen)
    → LeavesWiped k (after k s i v (EndTurn t slot WipedThen)) v t slot
leaves_wiped {X} k s log i v t slot so st at may = let q = of_freer (HasWiped k) (tab_at v t) may.allowed.2 in
    let e : EndsWiped (EndTurn t slot WipedThen) v q.0.anchor q.0.version slot =
    record { t = t; is = refl; freer = q.0; tab = q.1; anchor_is = refl; version_is = refl } in
    let h = may.allowed.1 in
    record {
      freer = q.0;
      tab = q.1;
      seen = record {
        i = i;
        view = view_after v (EndTurn t slot WipedThen) (finding k s v (EndTurn t slot WipedThen));
        at = set_here s.views i (view_after v (EndTurn t slot WipedThen) (finding k s v (EndTurn t slot WipedThen)))
            (at_length s.views i v at);
        seen = Contains-append_left (wiped_by (tab_at v t) slot WipedThen) v.seen (Wiped q.0.anchor q.0.version slot)
            (subst (λ (y : Tab X). Contains (wiped_by y slot WipedThen) (Wiped q.0.anchor q.0.version slot)) (sym q.1)
            (0, omega arith, refl));
      };
      first = front k s log i v (EndTurn t slot WipedThen) so st at may.allowed q.0.anchor q.0.version slot e;
      blank = only_blank k s log i v (EndTurn t slot WipedThen) so st at may.allowed q.0.anchor q.0.version slot e;
    }
