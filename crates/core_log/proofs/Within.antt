-- A piece that a tab logs is of an offer, its link is written, and the slots that it names are those of the table.
use Rattle.std.proofs.Common.{◌≡◌, ◌≢◌, ℕ, ◌<◌, List, [], ◌∷◌, ◌++◌, sym, refl, ap, ◌∙◌, subst, arith, Some, None, Option, Contains}
use Rattle.std.specs.Prelude.{unwrap_or}
use mathlib.Core.Option.{some}
use lib.ListN.{get_elem?}
use Rattle.link_word.specs.declared.link.Link.TheVariants.{Last as LastLink, Next, NotWritten}
use Rattle.core_model.specs.declared.chain.Chain.{Chain}
use Rattle.core_model.specs.declared.moves.Move.{Move}
use Rattle.core_model.specs.declared.tab.Tab.TheVariants.{Writing}
use Rattle.core_model.specs.declared.tab.Writer.{Writer}
use Rattle.core_model.specs.declared.view.LoggedPiece.{LoggedPiece}
use Rattle.core_model.specs.declared.view.View.{View}
use Rattle.core_model.specs.Layout.{Setting}
use Rattle.core_model.specs.State.{State, chain_of}
use Rattle.core_model.specs.Chains.{first_of, link_to, rest_of}
use Rattle.core_model.specs.Slots.{WriterHolds, slot_words}
use Rattle.core_model.specs.Sound.{Sound}
use Rattle.core_model.specs.Table.{Allowed}
use Rattle.core_model.specs.Tabs.{IsPass}
use Rattle.core_model.proofs.ReservesKept.{held_slot, in_table}
use Rattle.core_model.proofs.SlotFrame.{used_few}
use Rattle.core_model.proofs.SlotsLoosened.{standing_few}
use Rattle.core_model.proofs.Tabs.{contains_times}
use Rattle.core_log.specs.Keeps.{IsWithin}
use Rattle.core_log.specs.Logged.{LinksStand}
use Rattle.core_log.proofs.LinksKept.{IsNew, writes_at}

stored : (x : Option ℕ) → x ≢ None → x ≡ Some (unwrap_or x 0)
stored None ne = absurd (ne refl)
stored (Some y) ne = refl

-- the second slot is the one that the link names
second : (xs : List ℕ) (slot : ℕ) → link_to (rest_of xs) LastLink ≡ Next slot → Contains xs slot
second [] slot e = cc
second (x ∷ []) slot e = cc
second (x ∷ y ∷ ys) slot e = (1, omega arith, the e)
  where
    the : Next y ≡ Next slot → y ≡ slot
    the q = cc

is_written : (xs : List ℕ) → link_to xs LastLink ≢ NotWritten
is_written [] e = cc
is_written (x ∷ xs) e = cc

module _ {X : Type 0} (k : Setting X) (s : State X) (log : List LoggedPiece) (i : ℕ) (v : View X) (so : Sound k s) (links : LinksStand k s log) (at : get_elem? s.views i ≡ some v) (pass : IsPass v)
    (m : Move) (may : Allowed k s v m) (l : LoggedPiece) (n : IsNew k s log i v so links at m may l) where
  abbrev w : Writer X
  w = n.writer

  was : get_elem? v.tabs n.t ≡ some (Writing w)
  was = writes_at v.tabs n.t w n.is

  holds : WriterHolds ((slot_words k s.words).beside w.anchor) (chain_of s w.anchor) w
  holds = so.slots.tabs i v at n.t (Writing w) was

  reserved_low : (slot : ℕ) → Contains w.reserved slot → slot < k.slots
  reserved_low slot c = held_slot k s i v so.anchors so.slots at pass slot n.t (Writing w) was (let z = contains_times slot w.reserved c in omega arith)

  first_low : (xs : List ℕ) → xs ≡ w.published → first_of (xs ++ w.reserved) < k.slots
  first_low [] e = let f = ap first_of n.may_log.first in reserved_low (first_of w.reserved) (subst (λ (z : List ℕ). Contains z (first_of z)) (sym n.may_log.first) (0, omega arith, refl))
  first_low (x ∷ xs) e = chained_low x (subst (λ (z : List ℕ). Contains z x) (e ∙ sym (ap Chain.slots holds.chain)) (0, omega arith, refl))
    where
      chained_low : (slot : ℕ) → Contains (chain_of s w.anchor).slots slot → slot < k.slots
      chained_low slot c = in_table k s i v so.anchors so.slots at pass slot (let z = contains_times slot (chain_of s w.anchor).slots c in
          let p = so.slots.places.taken slot in let f = standing_few slot s.chains w.anchor in let u = used_few ((slot_words k s.words).taken slot) in omega arith)

  pub new_within : IsWithin k l.piece
  new_within = subst (IsWithin k) (sym n.piece_is) record {
    offer = (so.cells.writers i v at n.t (Writing w) was).offer (unwrap_or w.offer 0) (stored w.offer n.may_log.offer);
    linked = is_written (rest_of w.reserved);
    first = first_low w.published refl;
    next = λ slot e. reserved_low slot (second w.reserved slot e);
  }
