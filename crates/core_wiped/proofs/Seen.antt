-- Each epoch that a deed left was seen, and a step keeps that.
use Rattle.std.proofs.Common.{◌≡◌, ◌⊎◌, inl, inr, ⊎_elim, ℕ, ◌==◌, List, [], ◌∷◌, Bool, true, false, cond, refl, sym, ap, ◌∙◌, subst}
use Rattle.std.proofs.Common.{arith, Contains, set}
use mathlib.Core.Option.{some}
use lib.ListN.{get_elem?}
use Rattle.std.proofs.lemmas.List.Elements.{Contains-append_left, Contains-append_cases}
use Rattle.lock_word.specs.Words.{epoch_of, evicted, word_at}
use Rattle.core_model.specs.declared.moves.Move.{Move}
use Rattle.core_model.specs.declared.moves.Move.TheVariants.{Look, Enter, Leave, Count, Draw, Take, Evict, Raise, Doom, LoadSide}
use Rattle.core_model.specs.declared.moves.Move.TheVariants.{StoreSide, Own, Disown, Publish, Loosen, GetLink, TryTurn, EndTurn, CellOut}
use Rattle.core_model.specs.declared.moves.Move.TheVariants.{CellIn, Note, Learn, Write, Sync, LookMap, LogPiece}
use Rattle.core_model.specs.declared.view.Deed.{Deed}
use Rattle.core_model.specs.declared.view.Kind.{Kind}
use Rattle.core_model.specs.declared.view.Kind.TheVariants.{Changed, Doomed, Entered, Raised}
use Rattle.core_model.specs.declared.view.Sight.{Sight}
use Rattle.core_model.specs.declared.view.Sight.TheVariants.{Stood}
use Rattle.core_model.specs.declared.view.View.{View}
use Rattle.core_model.specs.Layout.{Setting}
use Rattle.core_model.specs.State.{State}
use Rattle.core_model.specs.Tabs.{IsPass}
use Rattle.core_model.specs.CellMoves.{note_of}
use Rattle.core_model.specs.Deeds.{Changes}
use Rattle.core_model.specs.Steps.{after, finding, number_found, view_after}
use Rattle.core_model.specs.Table.{Allowed, deeds_of, left_by, sights_of}
use Rattle.core_model.specs.Trails.{last_find}
use Rattle.core_model.proofs.Choices.{view_was}
use Rattle.core_model.proofs.Lists.{at_length, contains_none, set_here}
use Rattle.core_log.specs.Seen.{IsSeen}
use Rattle.core_log.proofs.KnownStays.{stays_seen}
use Rattle.core_log.proofs.LinksKept.{one_of}
use Rattle.core_wiped.specs.Wipes.{DeedsSeen}

module _ {X : Type 0} (k : Setting X) (s : State X) (i : ℕ) (v : View X) (at : get_elem? s.views i ≡ some v) where
  abbrev next : Move → View X
  next m = view_after v m (finding k s v m)

  -- what the pass sees by a step that changes its own view alone
  now_seen : (m : Move) → (after k s i v m).views ≡ set s.views i (next m) → (x : Sight) → Contains (sights_of v m (finding k s v m)) x
      → IsSeen (after k s i v m).views x
  now_seen m views x c = record {
    i = i;
    view = next m;
    at = ap (λ (vs : List (View X)). get_elem? vs i) views ∙ set_here s.views i (next m) (at_length s.views i v at);
    seen = Contains-append_left (sights_of v m (finding k s v m)) v.seen x c;
  }

  -- the deed of a step that may change an anchor, where it does
  tried : (hit : Bool) (a new n : ℕ) (deed d : Deed) → deed.anchor ≡ a → deed.epoch ≡ epoch_of new → Contains (cond hit (deed ∷ []) []) d
      → Contains (Stood a (epoch_of (cond hit new n)) ∷ []) (Stood d.anchor d.epoch)
  tried true a new n deed d e f c = let q = one_of deed d c in
      (0, omega arith, ap (λ (z : ℕ). Stood z (epoch_of new)) (sym e ∙ ap Deed.anchor q) ∙ ap (Stood d.anchor) (sym f ∙ ap Deed.epoch q))
  tried false a new n deed d e f c = absurd (contains_none d c)

  done : (a new : ℕ) (deed d : Deed) → deed.anchor ≡ a → deed.epoch ≡ epoch_of new → Contains (deed ∷ []) d
      → Contains (Stood a (epoch_of new) ∷ []) (Stood d.anchor d.epoch)
  done a new deed d e f c = tried true a new 0 deed d e f c

  entered_not : (deed d : Deed) → deed.kind ≡ Entered → Contains (deed ∷ []) d → Changes d.anchor d → ⊥
  entered_not deed d e c h = not_one d.kind (sym e ∙ ap Deed.kind (one_of deed d c)) h.1
    where
      not_one : (z : Kind) → Entered ≡ z → (z ≡ Changed) ⊎ (z ≡ Raised) ⊎ (z ≡ Doomed) → ⊥
      not_one z e (inl q) = cc
      not_one z e (inr (inl q)) = cc
      not_one z e (inr (inr q)) = cc

  -- the deed of a step leaves an epoch that the step sees
  new_seen : (m : Move) (d : Deed) → Contains (deeds_of v m (number_found k s v m)) d → Changes d.anchor d
      → IsSeen (after k s i v m).views (Stood d.anchor d.epoch)
  new_seen (Look b) d c h = absurd (contains_none d c)
  new_seen (Enter t b) d c h = absurd (entered_not _ d refl c h)
  new_seen (Leave t) d c h = absurd (contains_none d c)
  new_seen Count d c h = absurd (contains_none d c)
  new_seen Draw d c h = absurd (contains_none d c)
  new_seen (Take t b u) d c h = now_seen (Take t b u) refl (Stood d.anchor d.epoch)
      (tried (number_found k s v (Take t b u) == last_find b v.trail) b (word_at u 1) (number_found k s v (Take t b u)) _ d refl refl c)
  new_seen (Evict t b) d c h = let n = number_found k s v (Evict t b) in
      now_seen (Evict t b) refl (Stood d.anchor d.epoch) (tried (n == last_find b v.trail) b (evicted n) n _ d refl refl c)
  new_seen (Raise t to) d c h = now_seen (Raise t to) refl (Stood d.anchor d.epoch)
      (done _ (left_by v (Raise t to) (number_found k s v (Raise t to))) _ d refl refl c)
  new_seen (Doom t) d c h = now_seen (Doom t) refl (Stood d.anchor d.epoch)
      (done _ (left_by v (Doom t) (number_found k s v (Doom t))) _ d refl refl c)
  new_seen (LoadSide t side) d c h = absurd (contains_none d c)
  new_seen (StoreSide t side value) d c h = absurd (contains_none d c)
  new_seen (LookMap t word) d c h = absurd (contains_none d c)
  new_seen (Own t slot) d c h = absurd (contains_none d c)
  new_seen (Disown t slot) d c h = absurd (contains_none d c)
  new_seen (LogPiece t slot is_durable) d c h = absurd (contains_none d c)
  new_seen (Publish t slot link) d c h = absurd (contains_none d c)
  new_seen (Loosen t slot) d c h = absurd (contains_none d c)
  new_seen (GetLink t slot) d c h = absurd (contains_none d c)
  new_seen (TryTurn t slot) d c h = absurd (contains_none d c)
  new_seen (EndTurn t slot then) d c h = absurd (contains_none d c)
  new_seen (CellOut t slot) d c h = absurd (contains_none d c)
  new_seen (CellIn t slot) d c h = absurd (contains_none d c)
  new_seen Note d c h = absurd (contains_none d c)
  new_seen (Learn note) d c h = absurd (contains_none d c)
  new_seen (Write t slot outcome) d c h = absurd (contains_none d c)
  new_seen (Sync t slot kept) d c h = absurd (contains_none d c)

  pub deeds_seen : IsPass v → DeedsSeen s → (m : Move) → Allowed k s v m → DeedsSeen (after k s i v m)
  deeds_seen pass st m may j w there d c h = ⊎_elim
      (λ (q : (j ≡ i) × (w ≡ next m)). ⊎_elim
      (λ (z : Contains (deeds_of v m (number_found k s v m)) d). new_seen m d z h)
      (λ (z : Contains v.deeds d). still (st i v at d z h))
      (Contains-append_cases (deeds_of v m (number_found k s v m)) v.deeds d (subst (λ (u : View X). Contains u.deeds d) q.1 c)))
      (λ (q : (get_elem? s.views j ≡ some w) ⊎ (w ≡ note_of w)). ⊎_elim
      (λ (z : get_elem? s.views j ≡ some w). still (st j w z d c h))
      (λ (z : w ≡ note_of w). absurd (contains_none d (subst (λ (u : View X). Contains u.deeds d) z c)))
      q)
      (view_was k s i v m j w there)
    where
      still : IsSeen s.views (Stood d.anchor d.epoch) → IsSeen (after k s i v m).views (Stood d.anchor d.epoch)
      still = stays_seen k s i v at pass m may (Stood d.anchor d.epoch)
