-- Each logged piece keeps to its offer, where each that a tab logs does.
use Rattle.std.proofs.Common.{◌≡◌, ◌≢◌, ⊎_elim, ℕ, ◌+◌, ◌<◌, List, ◌++◌, length, sym, refl, ap, ◌∙◌, subst, arith, Some, None, Option, Contains, ◌↔◌}
use Rattle.std.specs.Prelude.{unwrap_or}
use mathlib.Core.Option.{some}
use mathlib.Core.Logic.{dite}
use native.Mathlib.Decide.{ℕ_discrete}
use lib.ListN.{get_elem?}
use Rattle.link_word.specs.declared.link.Link.{Link}
use Rattle.link_word.specs.declared.link.Link.TheVariants.{Last as LastLink}
use Rattle.core_model.specs.declared.chain.Chain.{Chain}
use Rattle.core_model.specs.declared.moves.Move.{Move}
use Rattle.core_model.specs.declared.moves.Side.TheVariants.{Offer}
use Rattle.core_model.specs.declared.tab.Piece.{Piece}
use Rattle.core_model.specs.declared.tab.Tab.TheVariants.{Writing}
use Rattle.core_model.specs.declared.tab.Writer.{Writer}
use Rattle.core_model.specs.declared.view.LoggedPiece.{LoggedPiece}
use Rattle.core_model.specs.declared.view.View.{View}
use Rattle.core_model.specs.Layout.{Setting}
use Rattle.core_model.specs.State.{State, chain_of, side_word}
use Rattle.core_model.specs.Chains.{Tied}
use Rattle.core_model.specs.CellMoves.{piece_of}
use Rattle.core_model.specs.Offers.{ChoosesRight, KeepsTo, Offering, OffersStand}
use Rattle.core_model.specs.Slots.{WriterHolds, slot_words}
use Rattle.core_model.specs.Sound.{Sound}
use Rattle.core_model.specs.Table.{Allowed}
use Rattle.core_model.proofs.Matching.{matches_writer}
use Rattle.core_model.proofs.OffersKept.{fits_as}
use Rattle.core_model.proofs.Telling.{told_in}
use Rattle.core_log.specs.Keeps.{KeepsToOffer, LogKeepsTo}
use Rattle.core_log.specs.Logged.{LinksStand, logged_now}
use Rattle.core_log.proofs.LinksKept.{IsNew, my_tab, new_is, split}

module _ {X : Type 0} (o : Offering) (k : Setting X) (s : State X) (log : List LoggedPiece) (i : ℕ) (v : View X) (so : Sound k s) (st : OffersStand o k s) (links : LinksStand k s log) (keeps : LogKeepsTo o log)
    (at : get_elem? s.views i ≡ some v) (m : Move) (may : Allowed k s v m) (right : ChoosesRight o v m) where
  abbrev New : LoggedPiece → Type 0
  New l = IsNew k s log i v so links at m may l

  module _ (l : LoggedPiece) (n : New l) where
    abbrev w : Writer X
    w = n.writer

    -- what the tab may log keeps to its offer
    chosen : KeepsTo o w (piece_of w)
    chosen = subst (ChoosesRight o v) n.logs_it right w n.is n.may_log.none

    holds : WriterHolds ((slot_words k s.words).beside w.anchor) (chain_of s w.anchor) w
    holds = let t = my_tab k s log i v so links at n.t w n.is in so.slots.tabs i t.view t.at n.t (Writing w) t.there

    -- a tab that reserves a slot has not published the last one
    goes_on : w.end ≢ LastLink
    goes_on e = absurd (let z = ap length (subst (λ (x : Link). Tied x w.published w.reserved) e holds.tied) in let y = ap length n.may_log.first in omega arith)

    long : length (chain_of s w.anchor).slots ≡ length w.published
    long = ap (λ (c : Chain). length c.slots) holds.chain

    -- not all of its offer is published
    room : length w.published < o.pieces (unwrap_or w.offer 0)
    room = dite (ℕ_discrete (length w.published) 0)
        (λ e. let z = chosen.some in omega arith)
        (λ ne. let t = my_tab k s log i v so links at n.t w n.is in let mw = matches_writer k s so.anchors i n.t w t in let piece = so.cells.writers i t.view t.at n.t (Writing w) t.there in
        let new = st.new w.anchor mw.0 (let z = long in omega arith) (let z = mw.1.version_is in let y = piece.drawn in omega arith) in
        let same = ap o.pieces (offer_is mw.0) in let z = new.inside in let y = long in
        dite (ℕ_discrete (length w.published) (o.pieces (unwrap_or w.offer 0)))
        (λ e. absurd (goes_on (sym (ap Chain.end holds.chain) ∙ new.last.1 (long ∙ e ∙ sym same))))
        (λ off. omega arith))
      where
        stored : (x : Option ℕ) → x ≢ None → x ≡ Some (unwrap_or x 0)
        stored None ne = absurd (ne refl)
        stored (Some y) ne = refl

        offer_is : w.anchor < k.anchors → side_word k s Offer w.anchor ≡ unwrap_or w.offer 0
        offer_is lt = sym (told_in k.anchors w.anchor (side_word k s Offer w.anchor) lt) ∙ holds.names_are.offer (unwrap_or w.offer 0) (stored w.offer n.may_log.offer)

    of_offer : KeepsToOffer o l
    of_offer = record {
      fits = fits_as o l.anchor (unwrap_or w.offer 0) l.piece.offer chosen.key0 l.key0 chosen.key1 l.key1 (ap Piece.offer n.piece_is)
          (n.key0_is ∙ ap (λ z. unwrap_or z 0) chosen.key0_is) (n.key1_is ∙ ap (λ z. unwrap_or z 0) chosen.key1_is)
          (subst (λ (a : ℕ). o.Fits (unwrap_or w.offer 0) a chosen.key0 chosen.key1) (sym n.anchor_is) chosen.fits);
      inside = let a = ap Piece.place n.piece_is in let b = ap o.pieces (ap Piece.offer n.piece_is) in let c = room in omega arith;
      last = subst (λ (p : Piece). (p.next ≡ LastLink) ↔ (p.place + 1 ≡ o.pieces p.offer)) (sym n.piece_is) chosen.last;
    }

  pub log_keeps_to : LogKeepsTo o (logged_now k s v m ++ log)
  log_keeps_to = record {
    each = λ l c. ⊎_elim (λ (q : Contains (logged_now k s v m) l). of_offer l (new_is k s log i v so links at m may l q)) (λ (q : Contains log l). keeps.each l q) (split (logged_now k s v m) log l c);
  }
