-- An offered content that a crash may leave was logged for its slot.
use Rattle.std.proofs.Common.{◌≡◌, inl, inr, ℕ, zero, suc, ◌+◌, sym, ◌∙◌}
use mathlib.Core.Option.{some, some-injective, some-ne-none}
use lib.ListN.{get_elem?}
use Rattle.core_model.specs.declared.tab.Piece.{Piece}
use Rattle.core_model.specs.declared.view.LoggedPiece.{LoggedPiece}
use Rattle.core_log.specs.Logged.{IsKnown}
use Rattle.core_lives.specs.Lived.{HasOrderedLog}
use Rattle.core_table.specs.declared.content.Content.TheVariants.{Blank, Offered, Opened}
use Rattle.core_table.specs.Machine.{Machine, opened_from, setting_of}
use Rattle.core_lives.specs.Crash.{IsLoggedFor, IsPickedAs}
use Rattle.core_lives.proofs.Seeking.{contains_at}

not_opened : (p : Piece) (s : ℕ) → Offered p ≡ Opened s → ⊥
not_opened p s e = cc

not_blank : (p : Piece) → Offered p ≡ Blank → ⊥
not_blank p e = cc

one_piece : (p q : Piece) → Offered p ≡ Offered q → p ≡ q
one_piece p q e = cc

-- at the opening slots hold what they held
none_offered : (from n i : ℕ) (p : Piece) → get_elem? (opened_from from n) i ≡ some (Offered p) → ⊥
none_offered from zero i p e = some-ne-none (Offered p) (sym e)
none_offered from (suc n) zero p e = not_opened p from (sym (some-injective (Opened from) (Offered p) e))
none_offered from (suc n) (suc i) p e = none_offered (from + 1) n i p e

pub logged_for : (m : Machine) → HasOrderedLog m → (slot number : ℕ) (p : Piece) → IsPickedAs m slot number (Offered p) → (l : LoggedPiece) × IsLoggedFor m.views slot p l
logged_for m logs slot number p h = of_known (logs.stands.cells.possible slot h.cell (Offered p) h.is_cell (contains_at h.cell.possible number (Offered p) h.at))
  where
    of_known : IsKnown (setting_of m) logs.log slot (Offered p) → (l : LoggedPiece) × IsLoggedFor m.views slot p l
    of_known (inl e) = absurd (none_offered 0 m.slots slot p e)
    of_known (inr (inl q)) = let seen = logs.stands.of.seen q.1.link q.1.among in (
      q.1.link,
      record {
        view = seen.view;
        among = contains_at m.views seen.i seen.view seen.at;
        seen = seen.seen;
        slot_is = q.1.slot_is;
        piece_is = q.1.piece_is ∙ sym (one_piece p q.0 q.2);
      },
    )
    of_known (inr (inr e)) = absurd (not_blank p e)
