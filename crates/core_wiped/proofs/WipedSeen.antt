-- A step that sees a slot as wiped ends the turn of a tab that frees, which says so; or some pass or note had seen it.
use Rattle.std.proofs.Common.{◌≡◌, ◌⊎◌, inl, inr, ⊎_elim, ℕ, ◌+◌, ◌==◌, List, [], ◌∷◌, Bool, true, false, cond, refl, ap, subst, Contains}
use Rattle.std.proofs.Common.{Option}
use mathlib.Core.Option.{some}
use lib.ListN.{get_elem?}
use Rattle.core_model.specs.declared.moves.Move.{Move}
use Rattle.core_model.specs.declared.moves.Move.TheVariants.{Look, Enter, Leave, Count, Draw, Take, Evict, Raise, Doom, LoadSide}
use Rattle.core_model.specs.declared.moves.Move.TheVariants.{StoreSide, Own, Disown, Publish, Loosen, GetLink, TryTurn, EndTurn, CellOut}
use Rattle.core_model.specs.declared.moves.Move.TheVariants.{CellIn, Note, Learn, Write, Sync, LookMap, LogPiece}
use Rattle.core_model.specs.declared.moves.Side.{Side}
use Rattle.core_model.specs.declared.moves.Side.TheVariants.{Key0, Key1, Offer, Start}
use Rattle.core_model.specs.declared.moves.Then.{Then}
use Rattle.core_model.specs.declared.moves.Then.TheVariants.{GoesOn, Stays, Wiped as WipedThen}
use Rattle.core_model.specs.declared.tab.Freer.{Freer}
use Rattle.core_model.specs.declared.tab.Tab.{Tab}
use Rattle.core_model.specs.declared.tab.Tab.TheVariants.{Free, Retreating, Reading, Writing, Last, Freeing}
use Rattle.core_model.specs.declared.view.LoggedPiece.{LoggedPiece}
use Rattle.core_model.specs.declared.view.Place.TheVariants.{LogCounter}
use Rattle.core_model.specs.declared.view.Sight.{Sight}
use Rattle.core_model.specs.declared.view.Sight.TheVariants.{Logged, Published, Wiped}
use Rattle.core_model.specs.declared.view.View.{View}
use Rattle.core_model.specs.Layout.{Setting, word_in}
use Rattle.core_model.specs.State.{State, turn_word}
use Rattle.core_model.specs.Tabs.{tab_at}
use Rattle.core_model.specs.SlotMoves.{loads, shows, follows}
use Rattle.core_model.specs.CellMoves.{logged_by, seen_in, wiped_by}
use Rattle.core_model.specs.Steps.{finding}
use Rattle.core_model.specs.Table.{Allowed, sights_of}
use Rattle.core_model.proofs.Lists.{contains_none, cons_contains}
use Rattle.core_model.proofs.TurnsBring.{brought}
use Rattle.core_log.specs.Seen.{IsSeen}
use Rattle.core_log.proofs.KnownStays.{at_get}

-- a sight of another sort
abbrev Other : Sight → Type 0
Other (Wiped a version slot) = ⊥
Other _ = Unit {0}

-- all of these are
abbrev Others : List Sight → Type 0
Others [] = Unit {0}
Others (x ∷ xs) = Other x × Others xs

others_not : (xs : List Sight) → Others xs → (a version slot : ℕ) → Contains xs (Wiped a version slot) → ⊥
others_not [] h a version slot c = contains_none (Wiped a version slot) c
others_not (x ∷ xs) h a version slot c = ⊎_elim (λ (e : x ≡ Wiped a version slot). subst Other e h.0)
    (λ (q : Contains xs (Wiped a version slot)). others_not xs h.1 a version slot q) (cons_contains x (Wiped a version slot) xs c)

cond_others : (b : Bool) (xs : List Sight) → Others xs → Others (cond b [] xs)
cond_others true xs h = tt
cond_others false xs h = h

module _ {X : Type 0} where
  loads_others : (x : Tab X) (side : Side) (n : ℕ) → Others (loads x side n)
  loads_others (Reading r) Key0 n = (tt, tt)
  loads_others (Reading r) Key1 n = (tt, tt)
  loads_others (Reading r) Offer n = (tt, tt)
  loads_others (Reading r) Start n = tt
  loads_others Free side n = tt
  loads_others (Retreating b) side n = tt
  loads_others (Writing w) side n = tt
  loads_others (Last b) side n = tt
  loads_others (Freeing f) side n = tt

  shows_others : (x : Tab X) → Others (shows x)
  shows_others (Writing w) = (tt, (tt, (tt, (tt, tt))))
  shows_others Free = tt
  shows_others (Retreating b) = tt
  shows_others (Reading r) = tt
  shows_others (Last b) = tt
  shows_others (Freeing f) = tt

  follows_others : (x : Tab X) (n : ℕ) → Others (follows x n)
  follows_others (Reading r) n = cond_others (n == 0) (Published r.anchor r.version (r.place + 1) ∷ []) (tt, tt)
  follows_others Free n = tt
  follows_others (Retreating b) n = tt
  follows_others (Writing w) n = tt
  follows_others (Last b) n = tt
  follows_others (Freeing f) n = tt

  logs_others : (x : Tab X) (slot : ℕ) (is_durable : Bool) (n : ℕ) → Others (logged_by x slot is_durable n)
  logs_others (Writing w) slot is_durable n = (tt, tt)
  logs_others Free slot is_durable n = tt
  logs_others (Retreating b) slot is_durable n = tt
  logs_others (Reading r) slot is_durable n = tt
  logs_others (Last b) slot is_durable n = tt
  logs_others (Freeing f) slot is_durable n = tt

  -- the tab t frees, and its turn ends with the slot wiped
  pub record EndsWiped (m : Move) (v : View X) (a version slot : ℕ) : Type 0 where
    pub t : ℕ
    pub is : m ≡ EndTurn t slot WipedThen
    pub freer : Freer X
    pub tab : tab_at v t ≡ Freeing freer
    pub anchor_is : freer.anchor ≡ a
    pub version_is : freer.version ≡ version

module _ {X : Type 0} (k : Setting X) (s : State X) (i : ℕ) (v : View X) (at : get_elem? s.views i ≡ some v) (a version slot : ℕ) where
  abbrev Sees : Move → Type 0
  Sees m = EndsWiped m v a version slot ⊎ IsSeen s.views (Wiped a version slot)

  none : (m : Move) → Others (sights_of v m (finding k s v m)) → Contains (sights_of v m (finding k s v m)) (Wiped a version slot) → Sees m
  none m h c = absurd (others_not (sights_of v m (finding k s v m)) h a version slot c)

  not_logged : (l : LoggedPiece) → Wiped a version slot ≡ Logged l → ⊥
  not_logged l e = cc

  one_wipe : (b u j : ℕ) → Wiped b u j ≡ Wiped a version slot → (b ≡ a) × (u ≡ version) × (j ≡ slot)
  one_wipe b u j e = let p : b ≡ a = cc in let q : u ≡ version = cc in let r : j ≡ slot = cc in (p, q, r)

  ended : (t j : ℕ) (then : Then) (x : Tab X) → tab_at v t ≡ x → Contains (wiped_by x j then) (Wiped a version slot)
      → Sees (EndTurn t j then)
  ended t j WipedThen (Freeing f) e c = ⊎_elim
      (λ (q : Wiped f.anchor f.version j ≡ Wiped a version slot). let z = one_wipe f.anchor f.version j q in
      inl record { t = t; is = ap (λ (n : ℕ). EndTurn t n WipedThen) z.2; freer = f; tab = e; anchor_is = z.0; version_is = z.1 })
      (λ (q : Contains [] (Wiped a version slot)). absurd (contains_none (Wiped a version slot) q))
      (cons_contains (Wiped f.anchor f.version j) (Wiped a version slot) [] c)
  ended t j Stays (Freeing f) e c = absurd (contains_none (Wiped a version slot) c)
  ended t j GoesOn (Freeing f) e c = absurd (contains_none (Wiped a version slot) c)
  ended t j then Free e c = absurd (contains_none (Wiped a version slot) c)
  ended t j then (Retreating b) e c = absurd (contains_none (Wiped a version slot) c)
  ended t j then (Reading r) e c = absurd (contains_none (Wiped a version slot) c)
  ended t j then (Writing w) e c = absurd (contains_none (Wiped a version slot) c)
  ended t j then (Last b) e c = absurd (contains_none (Wiped a version slot) c)

  pub wipe_seen : (m : Move) → Allowed k s v m → Contains (sights_of v m (finding k s v m)) (Wiped a version slot) → Sees m
  wipe_seen (Look b) may c = none (Look b) (tt, tt) c
  wipe_seen (Enter t b) may c = none (Enter t b) (tt, tt) c
  wipe_seen (Leave t) may c = none (Leave t) (tt, tt) c
  wipe_seen Count may c = none Count tt c
  wipe_seen Draw may c = none Draw tt c
  wipe_seen (Take t b u) may c = none (Take t b u) (tt, tt) c
  wipe_seen (Evict t b) may c = none (Evict t b) (tt, tt) c
  wipe_seen (Raise t to) may c = none (Raise t to) (tt, tt) c
  wipe_seen (Doom t) may c = none (Doom t) (tt, tt) c
  wipe_seen (LoadSide t side) may c = none (LoadSide t side) (loads_others (tab_at v t) side _) c
  wipe_seen (StoreSide t side value) may c = none (StoreSide t side value) tt c
  wipe_seen (LookMap t word) may c = none (LookMap t word) tt c
  wipe_seen (Own t j) may c = none (Own t j) tt c
  wipe_seen (Disown t j) may c = none (Disown t j) tt c
  wipe_seen (LogPiece t j is_durable) may c = none (LogPiece t j is_durable)
      (logs_others (tab_at v t) j is_durable (word_in k s.words LogCounter)) c
  wipe_seen (Publish t j link) may c = none (Publish t j link) (shows_others (tab_at v t)) c
  wipe_seen (Loosen t j) may c = none (Loosen t j) tt c
  wipe_seen (GetLink t j) may c = none (GetLink t j) (follows_others (tab_at v t) _) c
  wipe_seen (TryTurn t j) may c = let q = brought j v.seen s.views (turn_word k s j == 0) (Wiped a version slot) c in
      absurd (not_logged _ q.is)
  wipe_seen (EndTurn t j then) may c = ended t j then (tab_at v t) refl c
  wipe_seen (CellOut t j) may c = none (CellOut t j) tt c
  wipe_seen (CellIn t j) may c = none (CellIn t j) tt c
  wipe_seen Note may c = none Note tt c
  wipe_seen (Learn note) may c = inr record {
    i = k.passes + note;
    view = may.0;
    at = may.1;
    seen = subst
        (λ (o : Option (View X)). Contains (seen_in o) (Wiped a version slot)) (at_get s.views (k.passes + note) may.0 may.1) c;
  }
  wipe_seen (Write t j outcome) may c = none (Write t j outcome) tt c
  wipe_seen (Sync t j kept) may c = none (Sync t j kept) tt c
