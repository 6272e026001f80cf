-- A piece that a tab logs agrees with those of its version that were logged before, and one that was chosen is published in its place.
use Rattle.std.proofs.Common.{◌≡◌, ◌≢◌, ◌⊎◌, inl, inr, ⊎_elim, ℕ, zero, suc, ◌+◌, ◌<◌, ◌≤◌, List, [], ◌∷◌, ◌++◌, length, drop, sym, refl, ap, ◌∙◌, subst, arith, false, Option, Some, None, unwrap_or}
use mathlib.Core.Option.{some, some-ne-none}
use mathlib.Core.Logic.{dite}
use native.Mathlib.Decide.{ℕ_discrete}
use lib.ListN.{get_elem?}
use Rattle.link_word.specs.declared.link.Link.{Link}
use Rattle.link_word.specs.declared.link.Link.TheVariants.{Last as LastLink, Next, NotWritten}
use Rattle.core_model.specs.declared.view.LoggedPiece.{LoggedPiece}
use Rattle.core_model.specs.declared.chain.Chain.{Chain}
use Rattle.core_model.specs.declared.tab.Piece.{Piece}
use Rattle.core_model.specs.declared.tab.Writer.{Writer}
use Rattle.core_model.specs.declared.tab.Tab.TheVariants.{Writing}
use Rattle.core_model.specs.declared.view.View.{View}
use Rattle.core_model.specs.Layout.{Setting}
use Rattle.core_model.specs.State.{State, chain_of}
use Rattle.core_model.specs.Chains.{Tied, first_of, link_to, rest_of, times}
use Rattle.core_model.specs.CellMoves.{piece_of}
use Rattle.core_model.specs.Slots.{WriterHolds, slot_words}
use Rattle.core_model.specs.Sound.{Sound}
use Rattle.core_model.proofs.Lists.{at_length}
use Rattle.core_model.proofs.Spelling.{one_same, suc_is}
use Rattle.core_model.proofs.FollowsKept.{at_times}
use Rattle.core_model.proofs.CellsTab.{written_unpublished}
use Rattle.core_log.specs.Logged.{Agree, IsChosen, IsOfWriter, IsPublished}

pub first_front : (xs ys : List ℕ) → 0 < length xs → first_of (xs ++ ys) ≡ first_of xs
first_front [] ys h = absurd (omega arith)
first_front (x ∷ xs) ys h = refl

first_times : (xs : List ℕ) (a : ℕ) → 0 < length xs → first_of xs ≡ a → 0 < times a xs
first_times [] a h e = absurd (omega arith)
first_times (x ∷ xs) a h e = at_times (x ∷ xs) 0 a (ap some e)

-- the slot that a link into the rest of a list names
link_end : (n : ℕ) (xs : List ℕ) (e : Link) → n ≡ length xs → link_to (drop n xs) e ≡ e
link_end n [] e h = ap (λ (m : ℕ). link_to (drop m []) e) h
link_end zero (x ∷ xs) e h = absurd (omega arith)
link_end (suc n) (x ∷ xs) e h = link_end n xs e (omega arith)

next_there : (n : ℕ) (xs : List ℕ) (end : Link) (a : ℕ) → link_to (drop n xs) end ≡ Next a → n < length xs → get_elem? xs n ≡ some a
next_there n [] end a e h = absurd (omega arith)
next_there zero (x ∷ xs) end a e h = ap some (same e)
  where
    same : Next x ≡ Next a → x ≡ a
    same e = cc
next_there (suc n) (x ∷ xs) end a e h = next_there n xs end a e (omega arith)

same_next : (a b : ℕ) → Next a ≡ Next b → a ≡ b
same_next a b e = cc

no_choice : (p : Piece) → None ≡ Some p → ⊥
no_choice p e = cc

pub one_offer : (o : Option ℕ) (n : ℕ) → o ≡ Some n → unwrap_or o 0 ≡ n
one_offer o n e = ap (λ z. unwrap_or z 0) e

module _ {X : Type 0} (k : Setting X) (s : State X) (i : ℕ) (v : View X) (so : Sound k s) (at : get_elem? s.views i ≡ some v) (t : ℕ) (w : Writer X) (was : get_elem? v.tabs t ≡ some (Writing w))
    (slot : ℕ) (first : w.reserved ≡ slot ∷ rest_of w.reserved) where
  holds : WriterHolds ((slot_words k s.words).beside w.anchor) (chain_of s w.anchor) w
  holds = so.slots.tabs i v at t (Writing w) was

  -- a slot that the tab reserves it has not published
  apart : (a : ℕ) → 0 < times a w.reserved → times a w.published ≡ 0
  apart a h = sym (ap (λ (c : Chain). times a c.slots) holds.chain) ∙ written_unpublished k s i v so at t w was a h w.anchor

  reserves_first : 0 < times slot w.reserved
  reserves_first = let c : times slot w.reserved ≡ times slot (slot ∷ rest_of w.reserved) = ap (times slot) first in let o = one_same slot in omega arith

  -- where slots are published the last one names this slot
  names_it : 0 < length w.published → w.end ≡ Next slot
  names_it h = of_end w.end refl holds.tied
    where
      of_end : (e : Link) → w.end ≡ e → Tied e w.published w.reserved → w.end ≡ Next slot
      of_end NotWritten q tied = absurd (let z = ap length tied in omega arith)
      of_end LastLink q tied = absurd (let z = ap length (sym first ∙ tied) in omega arith)
      of_end (Next a) q tied = q ∙ ap Next (head a slot (rest_of w.reserved) (sym tied ∙ first))
        where
          head : (a b : ℕ) (xs : List ℕ) → a ∷ xs ≡ b ∷ xs → a ≡ b
          head a b xs e = cc

  -- The piece that it logs.
  module _ (none : w.chosen ≡ None) (l : LoggedPiece) (slot_is : l.slot ≡ slot) (piece_is : l.piece ≡ piece_of w) (anchor_is : l.anchor ≡ w.anchor) (key0_is : l.key0 ≡ unwrap_or w.key0 0) (key1_is : l.key1 ≡ unwrap_or w.key1 0) where
    place_is : l.piece.place ≡ length w.published
    place_is = ap Piece.place piece_is

    -- one that names itself first is at the front
    pub begins : l.piece.first ≡ l.slot → l.piece.place ≡ 0
    begins e = dite (ℕ_discrete (length w.published) 0)
        (λ z. place_is ∙ z)
        (λ ne. absurd (let z = apart slot reserves_first in let y = first_times w.published slot (omega arith) (sym (first_front w.published w.reserved (omega arith)) ∙ sym (ap Piece.first piece_is) ∙ e ∙ slot_is) in omega arith))

    module _ (m : LoggedPiece) (is : IsOfWriter w m) where
      published : IsPublished w m
      published = ⊎_elim (λ (q : IsPublished w m). q) (λ (q : IsChosen w m). absurd (no_choice m.piece (sym none ∙ q.chosen))) is.stands

      below : m.piece.place < length w.published
      below = at_length w.published m.piece.place m.slot published.place

      there : 0 < times m.slot w.published
      there = at_times w.published m.piece.place m.slot published.place

      not_it : m.slot ≢ slot
      not_it e = absurd (let z = apart slot reserves_first in let y = subst (λ (n : ℕ). 0 < times n w.published) e there in omega arith)

      -- the slot behind it is none that was published
      not_next : link_to (rest_of w.reserved) LastLink ≡ Next m.slot → ⊥
      not_next e = of_rest (rest_of w.reserved) refl e
        where
          no_last : LastLink ≡ Next m.slot → ⊥
          no_last e = cc

          of_rest : (xs : List ℕ) → rest_of w.reserved ≡ xs → link_to xs LastLink ≡ Next m.slot → ⊥
          of_rest [] q e = no_last e
          of_rest (x ∷ xs) q e = let same : x ≡ m.slot = same_next x m.slot e in
              let c : times m.slot w.reserved ≡ times m.slot (slot ∷ x ∷ xs) = ap (times m.slot) (first ∙ ap (λ (z : List ℕ). slot ∷ z) q) in
              let d : times m.slot (slot ∷ x ∷ xs) ≡ times m.slot (slot ∷ m.slot ∷ xs) = ap (λ (n : ℕ). times m.slot (slot ∷ n ∷ xs)) same in
              let o = one_same m.slot in let z = apart m.slot (omega arith) in let y = there in omega arith

      -- and the one before it is the last that was
      is_before : m.piece.next ≡ Next slot → l.piece.place ≡ m.piece.place + 1
      is_before e = dite (ℕ_discrete (length w.published) (m.piece.place + 1))
          (λ q. place_is ∙ q)
          (λ ne. absurd (let z = apart slot reserves_first in let b = below in let y = at_times w.published (m.piece.place + 1) slot (next_there (m.piece.place + 1) w.published w.end slot (sym published.next ∙ e) (omega arith)) in omega arith))

      pub agrees : Agree l m
      agrees = record {
        anchor = anchor_is ∙ sym is.anchor;
        key0 = key0_is ∙ one_offer w.key0 m.key0 is.key0;
        key1 = key1_is ∙ one_offer w.key1 m.key1 is.key1;
        offer = ap Piece.offer piece_is ∙ one_offer w.offer m.piece.offer is.offer;
        first = ap Piece.first piece_is ∙ first_front w.published w.reserved (let z = below in omega arith) ∙ sym (first_front w.published (m.slot ∷ []) (let z = below in omega arith)) ∙ sym is.first;
        place = λ e. absurd (let z = below in let y = place_is in omega arith);
        slot = λ e. absurd (not_it (sym e ∙ slot_is));
        behind = λ e. absurd (not_next (sym (ap Piece.next piece_is) ∙ e));
        before = λ e. is_before (e ∙ ap Next slot_is);
        follows = λ e. absurd (let z = below in let y = place_is in omega arith);
        followed = λ e. published.next ∙ link_end (m.piece.place + 1) w.published w.end (let y = place_is in omega arith) ∙ names_it (let z = below in omega arith) ∙ ap Next (sym slot_is);
      }

  -- The tab publishes the slot, with the link of the piece that it chose.
  module _ (goes_on : w.is_ending ≡ false) (piece : Piece) (chosen : w.chosen ≡ Some piece) (link : Link) (link_is : piece.next ≡ link) where
    abbrev x : Writer X
    x = record w { reserved = rest_of w.reserved; chosen = None; logged_in = None; is_durable = false; is_written = false; is_settled = false; published = w.published ++ slot ∷ []; end = link }

    at_front : (xs ys : List ℕ) (p a : ℕ) → get_elem? xs p ≡ some a → get_elem? (xs ++ ys) p ≡ some a
    at_front [] ys p a e = absurd (some-ne-none a (sym e))
    at_front (y ∷ xs) ys zero a e = e
    at_front (y ∷ xs) ys (suc p) a e = at_front xs ys p a e

    at_end : (xs : List ℕ) (a : ℕ) → get_elem? (xs ++ a ∷ []) (length xs) ≡ some a
    at_end [] a = refl
    at_end (y ∷ xs) a = at_end xs a

    -- the link at a place below, where one more slot is published
    link_below : (n : ℕ) (xs : List ℕ) (end : Link) → (n ≡ length xs → end ≡ Next slot) → n ≤ length xs → link_to (drop n xs) end ≡ link_to (drop n (xs ++ slot ∷ [])) link
    link_below zero [] end tied le = tied refl
    link_below (suc n) [] end tied le = absurd (omega arith)
    link_below zero (y ∷ xs) end tied le = refl
    link_below (suc n) (y ∷ xs) end tied le = link_below n xs end (λ e. tied (ap suc e)) (omega arith)

    one_piece : (p q : Piece) → Some p ≡ Some q → p ≡ q
    one_piece p q e = cc

    drop_all : (xs : List ℕ) (a : ℕ) (end : Link) → link_to (drop (suc (length xs)) (xs ++ a ∷ [])) end ≡ end
    drop_all [] a end = refl
    drop_all (y ∷ xs) a end = drop_all xs a end

    drop_end : (xs : List ℕ) (a : ℕ) (end : Link) → link_to (drop (length xs + 1) (xs ++ a ∷ [])) end ≡ end
    drop_end xs a end = ap (λ (n : ℕ). link_to (drop n (xs ++ a ∷ [])) end) (sym (suc_is (length xs))) ∙ drop_all xs a end

    pub published_stays : (l : LoggedPiece) → IsOfWriter w l → IsOfWriter x l
    published_stays l is = record { anchor = is.anchor; key0 = is.key0; key1 = is.key1; offer = is.offer; first = is.first ∙ first_after is.stands; stands = inl (place_after is.stands) }
      where
        slot_of : IsChosen w l → l.slot ≡ slot
        slot_of q = head l.slot slot (rest_of w.reserved) (sym (q.first goes_on) ∙ first)
          where
            head : (a b : ℕ) (xs : List ℕ) → a ∷ xs ≡ b ∷ xs → a ≡ b
            head a b xs e = cc

        first_after : IsPublished w l ⊎ IsChosen w l → first_of (w.published ++ l.slot ∷ []) ≡ first_of ((w.published ++ slot ∷ []) ++ l.slot ∷ [])
        first_after (inl q) = let lt = at_length w.published l.piece.place l.slot q.place in front w.published (omega arith)
          where
            front : (xs : List ℕ) → 0 < length xs → first_of (xs ++ l.slot ∷ []) ≡ first_of ((xs ++ slot ∷ []) ++ l.slot ∷ [])
            front [] h = absurd (omega arith)
            front (y ∷ xs) h = refl
        first_after (inr q) = both w.published
          where
            both : (xs : List ℕ) → first_of (xs ++ l.slot ∷ []) ≡ first_of ((xs ++ slot ∷ []) ++ l.slot ∷ [])
            both [] = slot_of q
            both (y ∷ xs) = refl

        place_after : IsPublished w l ⊎ IsChosen w l → IsPublished x l
        place_after (inl q) = let lt = at_length w.published l.piece.place l.slot q.place in record {
          place = at_front w.published (slot ∷ []) l.piece.place l.slot q.place;
          next = q.next ∙ link_below (l.piece.place + 1) w.published w.end (λ e. names_it (omega arith)) (omega arith);
        }
        place_after (inr q) = record {
          place = ap (get_elem? (w.published ++ slot ∷ [])) q.place ∙ at_end w.published slot ∙ ap some (sym (slot_of q));
          next = ap Piece.next (one_piece l.piece piece (sym q.chosen ∙ chosen)) ∙ link_is ∙ sym (ap (λ (n : ℕ). link_to (drop (n + 1) (w.published ++ slot ∷ [])) link) q.place ∙ drop_end w.published slot link);
        }
