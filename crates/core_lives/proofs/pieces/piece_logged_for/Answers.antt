use Rattle.std.proofs.Common.{◌≡◌, rules, List, Contains, subst, sym}
use Rattle.core_model.specs.declared.view.LoggedPiece.{LoggedPiece}
use Rattle.core_model.specs.declared.view.Sight.{Sight}
use Rattle.core_model.specs.declared.view.Sight.TheVariants.{Logged}
use Rattle.core_model.specs.declared.view.View.{View}
use Rattle.core_table.specs.declared.content.Content.{Content}
use Rattle.core_lives.proofs.Seeking.{next_in, none_has, none_of, of_reverse, seeks_on, some_of, to_reverse}
use Rattle.core_lives.proofs.pieces.piece_logged_for.Goals as goal

pub returns-in-Some-piece_of_sights : goal.returns-in-Some-piece_of_sights
returns-in-Some-piece_of_sights c =
    let found = some_of ((l : LoggedPiece) → Contains c.as_slice.result.now (Logged l) → l.slot ≡ c.args.slot → l.piece ≡ c.args.piece.now → ⊥)
    (λ l. Contains c.as_slice.result.now (Logged l) × (l.slot ≡ c.args.slot) × (l.piece ≡ c.args.piece.now)) c.in-Some-piece_of_sights.is c.piece_of_sights.ensures in
    record {
      view = c.in-Some.view.now;
      among = next_in (λ (view : View Content). (l : LoggedPiece) × Contains view.seen (Logged l) × (l.slot ≡ c.args.slot) × (l.piece ≡ c.args.piece.now)) c.args.views.now c.views.left.now c.in-Some.rest.now c.in-Some.view.now c.views.invariant (search rules);
      seen = subst (λ (xs : List Sight). Contains xs (Logged c.in-Some-piece_of_sights.logged)) c.as_slice.ensures (to_reverse c.as_slice.result.now (Logged c.in-Some-piece_of_sights.logged) found.0);
      slot_is = found.1;
      piece_is = found.2;
    }

pub views-preserved : goal.views-preserved
views-preserved c = seeks_on (λ (view : View Content). (l : LoggedPiece) × Contains view.seen (Logged l) × (l.slot ≡ c.args.slot) × (l.piece ≡ c.args.piece.now)) c.args.views.now c.views.left.now c.in-Some.rest.now c.in-Some.view.now c.views.invariant (search rules)
    (λ has. none_of ((l : LoggedPiece) → Contains c.as_slice.result.now (Logged l) → l.slot ≡ c.args.slot → l.piece ≡ c.args.piece.now → ⊥)
    (λ l. Contains c.as_slice.result.now (Logged l) × (l.slot ≡ c.args.slot) × (l.piece ≡ c.args.piece.now)) c.in_default-piece_of_sights.is c.piece_of_sights.ensures has.0
    (of_reverse c.as_slice.result.now (Logged has.0) (subst (λ (xs : List Sight). Contains xs (Logged has.0)) (sym c.as_slice.ensures) has.1)) has.2 has.3)

pub returns : goal.returns
returns c l h = none_has (λ (view : View Content). (m : LoggedPiece) × Contains view.seen (Logged m) × (m.slot ≡ c.args.slot) × (m.piece ≡ c.args.piece.now)) c.args.views.now c.views.left.now c.views.invariant c.in_default.ensures.cases h.view h.among
    (l, h.seen, h.slot_is, h.piece_is)
