-- A step keeps all that holds of the log, which gains what the step logs.
use Rattle.std.proofs.Common.{◌≡◌, ◌⊎◌, ⊎_elim, ℕ, List, [], ◌++◌, subst, Contains, ◌∷◌, Bool, ◌+◌, ◌==◌, true, false, cond, inl, inr, arith, ap, Option}
use mathlib.Core.Option.{some}
use lib.ListN.{get_elem?}
use Rattle.core_model.specs.declared.moves.Then.TheVariants.{GoesOn, Stays, Wiped}
use Rattle.core_model.specs.declared.moves.Then.{Then}
use Rattle.core_model.specs.declared.moves.Move.{Move}
use Rattle.core_model.specs.declared.view.LoggedPiece.{LoggedPiece}
use Rattle.core_model.specs.declared.view.Sight.{Sight}
use Rattle.core_model.specs.declared.view.Sight.TheVariants.{Logged, Published}
use Rattle.core_model.specs.declared.view.View.{View}
use Rattle.core_model.specs.Layout.{Setting, word_in}
use Rattle.core_model.specs.State.{State, turn_word}
use Rattle.core_model.specs.Sound.{Sound}
use Rattle.core_model.specs.Table.{MayStep, sights_of, Allowed}
use Rattle.core_model.specs.Steps.{after, finding, view_after}
use Rattle.core_model.proofs.AllKept.{keeps_sound}
use Rattle.core_model.proofs.TurnsBring.{brought}
use Rattle.core_log.specs.Logged.{IsLogOf, LogStands, logged_now, logged_with, piece_logged}
use Rattle.core_log.specs.Seen.{IsSeen}
use Rattle.core_log.proofs.Kept.{cells_logged}
use Rattle.core_log.proofs.KnownStays.{stays_seen, was_seen, at_get}
use Rattle.core_log.proofs.LinksKept.{links_stand, one_of, split}
use Rattle.core_log.proofs.SettledKept.{settled_stand}
use Rattle.core_log.proofs.Numbers.{numbers_kept}
use Rattle.core_model.specs.declared.tab.Tab.{Tab}
use Rattle.core_model.specs.declared.tab.Tab.TheVariants.{Free, Retreating, Reading, Writing, Last, Freeing}
use Rattle.core_model.specs.declared.moves.Side.{Side}
use Rattle.core_model.specs.declared.moves.Side.TheVariants.{Key0, Key1, Offer, Start}
use Rattle.core_model.specs.declared.moves.Move.TheVariants.{Look, Enter, Leave, Count, Draw, Take, Evict, Raise, Doom, LoadSide, StoreSide, Own, Disown, Publish, Loosen, GetLink, TryTurn, EndTurn, CellOut, CellIn, Note, Learn, Write, Sync, LookMap, LogPiece}
use Rattle.core_model.specs.declared.view.Place.TheVariants.{LogCounter}
use Rattle.core_model.specs.SlotMoves.{loads, shows, follows}
use Rattle.core_model.specs.CellMoves.{logged_by, seen_in, wiped_by}
use Rattle.core_model.specs.Tabs.{tab_at, IsPass}
use Rattle.core_model.proofs.Lists.{contains_none, cons_contains, set_here, at_length}
use Rattle.std.proofs.lemmas.List.Elements.{Contains-append_left, Contains-append_right}

-- a sight of another sort
abbrev Other : Sight → Type 0
Other (Logged l) = ⊥
Other _ = Unit {0}

-- all of these are
abbrev Others : List Sight → Type 0
Others [] = Unit {0}
Others (x ∷ xs) = Other x × Others xs

others_not : (xs : List Sight) → Others xs → (l : LoggedPiece) → Contains xs (Logged l) → ⊥
others_not [] h l c = contains_none (Logged l) c
others_not (x ∷ xs) h l c = ⊎_elim (λ (e : x ≡ Logged l). subst Other e h.0) (λ (q : Contains xs (Logged l)). others_not xs h.1 l q) (cons_contains x (Logged l) xs c)

cond_others : (b : Bool) (xs : List Sight) → Others xs → Others (cond b [] xs)
cond_others true xs h = tt
cond_others false xs h = h

module _ {X : Type 0} where
  loads_others : (x : Tab X) (side : Side) (n : ℕ) → Others (loads x side n)
  loads_others (Reading r) Key0 n = (tt, tt)
  loads_others (Reading r) Key1 n = (tt, tt)
  loads_others (Reading r) Offer n = (tt, tt)
  loads_others (Reading r) Start n = tt
  loads_others Free side n = tt
  loads_others (Retreating b) side n = tt
  loads_others (Writing w) side n = tt
  loads_others (Last b) side n = tt
  loads_others (Freeing f) side n = tt

  shows_others : (x : Tab X) → Others (shows x)
  shows_others (Writing w) = (tt, (tt, (tt, (tt, tt))))
  shows_others Free = tt
  shows_others (Retreating b) = tt
  shows_others (Reading r) = tt
  shows_others (Last b) = tt
  shows_others (Freeing f) = tt

  follows_others : (x : Tab X) (n : ℕ) → Others (follows x n)
  follows_others (Reading r) n = cond_others (n == 0) (Published r.anchor r.version (r.place + 1) ∷ []) (tt, tt)
  follows_others Free n = tt
  follows_others (Retreating b) n = tt
  follows_others (Writing w) n = tt
  follows_others (Last b) n = tt
  follows_others (Freeing f) n = tt

  wipes_others : (x : Tab X) (slot : ℕ) (then : Then) → Others (wiped_by x slot then)
  wipes_others (Freeing f) slot Stays = tt
  wipes_others (Freeing f) slot GoesOn = tt
  wipes_others (Freeing f) slot Wiped = (tt, tt)
  wipes_others Free slot then = tt
  wipes_others (Retreating b) slot then = tt
  wipes_others (Reading r) slot then = tt
  wipes_others (Writing w) slot then = tt
  wipes_others (Last b) slot then = tt

  -- what a tab logs it sees, and no other piece
  logs_seen : (slot : ℕ) (is_durable : Bool) (n : ℕ) (x : Tab X) (l : LoggedPiece) → Contains (logged_with slot is_durable n x) l → Contains (logged_by x slot is_durable n) (Logged l)
  logs_seen slot is_durable n (Writing w) l c = (0, omega arith, ap Logged (one_of _ l c))
  logs_seen slot is_durable n Free l c = absurd (contains_none l c)
  logs_seen slot is_durable n (Retreating b) l c = absurd (contains_none l c)
  logs_seen slot is_durable n (Reading r) l c = absurd (contains_none l c)
  logs_seen slot is_durable n (Last b) l c = absurd (contains_none l c)
  logs_seen slot is_durable n (Freeing f) l c = absurd (contains_none l c)

  seen_logs : (slot : ℕ) (is_durable : Bool) (n : ℕ) (x : Tab X) (l : LoggedPiece) → Contains (logged_by x slot is_durable n) (Logged l) → Contains (logged_with slot is_durable n x) l
  seen_logs slot is_durable n (Writing w) l c = (0, omega arith, same (one_of _ (Logged l) c))
    where
      same : Logged (piece_logged slot is_durable n w) ≡ Logged l → piece_logged slot is_durable n w ≡ l
      same e = cc
  seen_logs slot is_durable n Free l c = absurd (contains_none (Logged l) c)
  seen_logs slot is_durable n (Retreating b) l c = absurd (contains_none (Logged l) c)
  seen_logs slot is_durable n (Reading r) l c = absurd (contains_none (Logged l) c)
  seen_logs slot is_durable n (Last b) l c = absurd (contains_none (Logged l) c)
  seen_logs slot is_durable n (Freeing f) l c = absurd (contains_none (Logged l) c)

module _ {X : Type 0} (k : Setting X) (s : State X) (i : ℕ) (v : View X) (at : get_elem? s.views i ≡ some v) where
  abbrev Sees : Move → LoggedPiece → Type 0
  Sees m l = Contains (logged_now k s v m) l ⊎ IsSeen s.views (Logged l)

  none : (m : Move) → Others (sights_of v m (finding k s v m)) → (l : LoggedPiece) → Contains (sights_of v m (finding k s v m)) (Logged l) → Sees m l
  none m h l c = absurd (others_not (sights_of v m (finding k s v m)) h l c)

  -- a piece that the step sees as logged is logged by it, or a note has seen it
  pub piece_seen : (m : Move) → Allowed k s v m → (l : LoggedPiece) → Contains (sights_of v m (finding k s v m)) (Logged l) → Sees m l
  piece_seen (Look a) may l c = none (Look a) (tt, tt) l c
  piece_seen (Enter t a) may l c = none (Enter t a) (tt, tt) l c
  piece_seen (Leave t) may l c = none (Leave t) (tt, tt) l c
  piece_seen Count may l c = none Count tt l c
  piece_seen Draw may l c = none Draw tt l c
  piece_seen (Take t a u) may l c = none (Take t a u) (tt, tt) l c
  piece_seen (Evict t a) may l c = none (Evict t a) (tt, tt) l c
  piece_seen (Raise t to) may l c = none (Raise t to) (tt, tt) l c
  piece_seen (Doom t) may l c = none (Doom t) (tt, tt) l c
  piece_seen (LoadSide t side) may l c = none (LoadSide t side) (loads_others (tab_at v t) side _) l c
  piece_seen (StoreSide t side value) may l c = none (StoreSide t side value) tt l c
  piece_seen (LookMap t word) may l c = none (LookMap t word) tt l c
  piece_seen (Own t slot) may l c = none (Own t slot) tt l c
  piece_seen (Disown t slot) may l c = none (Disown t slot) tt l c
  piece_seen (LogPiece t slot is_durable) may l c = inl (seen_logs slot is_durable (word_in k s.words LogCounter) (tab_at v t) l c)
  piece_seen (Publish t slot link) may l c = none (Publish t slot link) (shows_others (tab_at v t)) l c
  piece_seen (Loosen t slot) may l c = none (Loosen t slot) tt l c
  piece_seen (GetLink t slot) may l c = none (GetLink t slot) (follows_others (tab_at v t) _) l c
  piece_seen (TryTurn t slot) may l c = let q = brought slot v.seen s.views (turn_word k s slot == 0) (Logged l) c in inr record { i = q.i; view = q.view; at = q.at; seen = q.seen }
  piece_seen (EndTurn t slot then) may l c = none (EndTurn t slot then) (wipes_others (tab_at v t) slot then) l c
  piece_seen (CellOut t slot) may l c = none (CellOut t slot) tt l c
  piece_seen (CellIn t slot) may l c = none (CellIn t slot) tt l c
  piece_seen Note may l c = none Note tt l c
  piece_seen (Learn note) may l c = inr record { i = k.passes + note; view = may.0; at = may.1; seen = subst (λ (o : Option (View X)). Contains (seen_in o) (Logged l)) (at_get s.views (k.passes + note) may.0 may.1) c }
  piece_seen (Write t slot outcome) may l c = none (Write t slot outcome) tt l c
  piece_seen (Sync t slot kept) may l c = none (Sync t slot kept) tt l c

  -- what it logs it sees
  pub sees_piece : (m : Move) (l : LoggedPiece) → Contains (logged_now k s v m) l → IsSeen (after k s i v m).views (Logged l)
  sees_piece (LogPiece t slot is_durable) l c = let w : View X = view_after v (LogPiece t slot is_durable) (finding k s v (LogPiece t slot is_durable)) in
      record { i = i; view = w; at = set_here s.views i w (at_length s.views i v at); seen = Contains-append_left (logged_by (tab_at v t) slot is_durable (word_in k s.words LogCounter)) v.seen (Logged l) (logs_seen slot is_durable (word_in k s.words LogCounter) (tab_at v t) l c) }
  sees_piece (Look a) l c = absurd (contains_none l c)
  sees_piece (Enter t a) l c = absurd (contains_none l c)
  sees_piece (Leave t) l c = absurd (contains_none l c)
  sees_piece Count l c = absurd (contains_none l c)
  sees_piece Draw l c = absurd (contains_none l c)
  sees_piece (Take t a u) l c = absurd (contains_none l c)
  sees_piece (Evict t a) l c = absurd (contains_none l c)
  sees_piece (Raise t to) l c = absurd (contains_none l c)
  sees_piece (Doom t) l c = absurd (contains_none l c)
  sees_piece (LoadSide t side) l c = absurd (contains_none l c)
  sees_piece (StoreSide t side value) l c = absurd (contains_none l c)
  sees_piece (LookMap t word) l c = absurd (contains_none l c)
  sees_piece (Own t slot) l c = absurd (contains_none l c)
  sees_piece (Disown t slot) l c = absurd (contains_none l c)
  sees_piece (Publish t slot link) l c = absurd (contains_none l c)
  sees_piece (Loosen t slot) l c = absurd (contains_none l c)
  sees_piece (GetLink t slot) l c = absurd (contains_none l c)
  sees_piece (TryTurn t slot) l c = absurd (contains_none l c)
  sees_piece (EndTurn t slot then) l c = absurd (contains_none l c)
  sees_piece (CellOut t slot) l c = absurd (contains_none l c)
  sees_piece (CellIn t slot) l c = absurd (contains_none l c)
  sees_piece Note l c = absurd (contains_none l c)
  sees_piece (Learn note) l c = absurd (contains_none l c)
  sees_piece (Write t slot outcome) l c = absurd (contains_none l c)
  sees_piece (Sync t slot kept) l c = absurd (contains_none l c)

  log_grows : (log : List LoggedPiece) → IsLogOf s.views log → IsPass v → (m : Move) → Allowed k s v m → IsLogOf (after k s i v m).views (logged_now k s v m ++ log)
  log_grows log of pass m may = record {
    seen = λ l c. ⊎_elim (λ (q : Contains (logged_now k s v m) l). sees_piece m l q) (λ (q : Contains log l). stays_seen k s i v at pass m may (Logged l) (of.seen l q)) (split (logged_now k s v m) log l c);
    all = λ l h. ⊎_elim
        (λ (q : IsSeen s.views (Logged l)). old l (of.all l q))
        (λ (q : Contains (sights_of v m (finding k s v m)) (Logged l)). ⊎_elim (λ (z : Contains (logged_now k s v m) l). Contains-append_left (logged_now k s v m) log l z) (λ (z : IsSeen s.views (Logged l)). old l (of.all l z)) (piece_seen m may l q))
        (was_seen k s i v at pass m (Logged l) h);
  }
    where
      old : (l : LoggedPiece) → Contains log l → Contains (logged_now k s v m ++ log) l
      old l c = Contains-append_right (logged_now k s v m) log l c

pub logs_kept : {X : Type 0} → (k : Setting X) (s : State X) (log : List LoggedPiece) (i : ℕ) (v : View X) (m : Move) → Sound k s → LogStands k s log → get_elem? s.views i ≡ some v → MayStep k s v m
    → LogStands k (after k s i v m) (logged_now k s v m ++ log)
logs_kept k s log i v m so st at may = record {
  of = log_grows k s i v at log st.of may.pass m may.allowed;
  cells = cells_logged k s log i v so st.cells at m may.allowed (keeps_sound k s i v m so at may);
  links = links_stand k s log i v so st.links at m may.allowed may.pass;
  numbers = numbers_kept k s log i v so st.links st.numbers at may.pass m may.allowed;
  settled = settled_stand k s log i v so st.cells st.links st.settled at m may;
}
