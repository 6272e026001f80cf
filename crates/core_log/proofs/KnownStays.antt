-- What some pass or note had seen, some still has, and what one has seen afterwards one had, or the step sees it.
use Rattle.std.proofs.Common.{◌≡◌, ◌≢◌, ◌⊎◌, inl, inr, ⊎_elim, ℕ, zero, suc, ◌+◌, ◌<◌, List, [], ◌∷◌, ◌++◌, length, set, drop, sym, refl, ap, ◌∙◌, subst, arith, Bool, true, false, cond, ltb, Option, Some, length-set, length-drop, Contains}
use Rattle.std.specs.Prelude.{slice_get}
use Rattle.std.proofs.lemmas.Bool.{ltb-true}
use Rattle.std.proofs.lemmas.List.Elements.{Contains-append_cases, Contains-append_left, Contains-append_right}
use mathlib.Core.Option.{some, some-injective, some-ne-none}
use mathlib.Core.Logic.{dite}
use native.Mathlib.Decide.{ℕ_discrete}
use lib.ListN.{get_elem?}
use Rattle.core_model.specs.declared.moves.Move.{Move}
use Rattle.core_model.specs.declared.moves.Move.TheVariants.{Look, Enter, Leave, Count, Draw, Take, Evict, Raise, Doom, LoadSide, StoreSide, Own, Disown, Publish, Loosen, GetLink, TryTurn, EndTurn, CellOut, CellIn, Note, Learn, Write, Sync, LookMap, LogPiece}
use Rattle.core_model.specs.declared.view.Sight.{Sight}
use Rattle.core_model.specs.declared.view.View.{View}
use Rattle.core_model.specs.Layout.{Setting}
use Rattle.core_model.specs.State.{State}
use Rattle.core_model.specs.Steps.{after, finding, view_after}
use Rattle.core_model.specs.Table.{Allowed, sights_of}
use Rattle.core_model.specs.Tabs.{IsPass}
use Rattle.core_model.specs.CellMoves.{free_note, is_spent, note_of, seen_in, spent}
use Rattle.core_model.proofs.Lists.{at_length, at_set, set_else, set_here, contains_none}
use Rattle.core_log.specs.Seen.{IsSeen}
use Rattle.core_model.proofs.NotesKept.{SpentAt, both_none}

at_front : {A : Type 0} → (xs ys : List A) (j : ℕ) (z : A) → get_elem? xs j ≡ some z → get_elem? (xs ++ ys) j ≡ some z
at_front [] ys j z e = absurd (some-ne-none z (sym e))
at_front (x ∷ xs) ys zero z e = e
at_front (x ∷ xs) ys (suc j) z e = at_front xs ys j z e

at_end : {A : Type 0} → (xs : List A) (y : A) (j : ℕ) (z : A) → get_elem? (xs ++ y ∷ []) j ≡ some z → (get_elem? xs j ≡ some z) ⊎ (y ≡ z)
at_end [] y zero z e = inr (some-injective y z e)
at_end [] y (suc j) z e = absurd (some-ne-none z (sym e))
at_end (x ∷ xs) y zero z e = inl e
at_end (x ∷ xs) y (suc j) z e = at_end xs y j z e

module _ {X : Type 0} where
  -- the place of a note that is spent
  free_next : (v : View X) (vs : List (View X)) → (free_note vs < length vs → SpentAt vs (free_note vs)) → (b : Bool) → is_spent v ≡ b
      → cond b 0 (free_note vs + 1) < length (v ∷ vs) → SpentAt (v ∷ vs) (cond b 0 (free_note vs + 1))
  free_next v vs r true e h = (v, refl, e)
  free_next v vs r false e h = let q = r (omega arith) in let z : suc (free_note vs) ≡ free_note vs + 1 = omega arith in
      (q.0, subst (λ (n : ℕ). get_elem? (v ∷ vs) n ≡ some q.0) z q.1, q.2)

  free_there : (vs : List (View X)) → free_note vs < length vs → SpentAt vs (free_note vs)
  free_there [] h = absurd (omega arith)
  free_there (v ∷ vs) h = free_next v vs (free_there vs) (is_spent v) refl h

  dropped_at : (p n : ℕ) (vs : List (View X)) (u : View X) → get_elem? (drop p vs) n ≡ some u → get_elem? vs (p + n) ≡ some u
  dropped_at zero n vs u h = let z : n ≡ zero + n = omega arith in subst (λ (m : ℕ). get_elem? vs m ≡ some u) z h
  dropped_at (suc p) n [] u h = absurd (some-ne-none u (sym h))
  dropped_at (suc p) n (x ∷ xs) u h = let z : suc (p + n) ≡ suc p + n = omega arith in subst (λ (m : ℕ). get_elem? (x ∷ xs) m ≡ some u) z (dropped_at p n xs u h)

  free_spent : (vs : List (View X)) (p : ℕ) → p + free_note (drop p vs) < length vs → SpentAt vs (p + free_note (drop p vs))
  free_spent vs p lt = let l = length-drop p vs in let q = free_there (drop p vs) (omega arith) in (q.0, dropped_at p (free_note (drop p vs)) vs q.0 q.1, q.2)

  pub at_get : (vs : List (View X)) (n : ℕ) (u : View X) → get_elem? vs n ≡ some u → slice_get vs n ≡ Some u
  at_get [] n u h = absurd (some-ne-none u (sym h))
  at_get (x ∷ xs) zero u h = ap Some (some-injective x u h)
  at_get (x ∷ xs) (suc n) u h = at_get xs n u h

module _ {X : Type 0} (k : Setting X) (s : State X) (i : ℕ) (v : View X) (at : get_elem? s.views i ≡ some v) (pass : IsPass v) where
  abbrev Keeps : View X → Type 0
  Keeps w = (x : Sight) → Contains v.seen x → Contains w.seen x

  -- the pass has seen more
  set_seen : (w : View X) → Keeps w → (x : Sight) → IsSeen s.views x → IsSeen (set s.views i w) x
  set_seen w keeps x h = dite (ℕ_discrete h.i i)
      (λ e. record { i = i; view = w; at = set_here s.views i w (at_length s.views i v at); seen = keeps x (subst (λ (y : View X). Contains y.seen x) (some-injective h.view v (sym h.at ∙ ap (get_elem? s.views) e ∙ at)) h.seen) })
      (λ ne. record { i = h.i; view = h.view; at = set_else s.views i h.i w ne ∙ h.at; seen = h.seen })

  -- a view without tabs is not the pass's
  elsewhere : (n : ℕ) (u : View X) → get_elem? s.views n ≡ some u → u.tabs ≡ [] → n ≢ i
  elsewhere n u there none e = let same : v ≡ u = some-injective v u (sym at ∙ subst (λ (z : ℕ). get_elem? s.views z ≡ some u) e there) in
      absurd (let l = pass in let z = ap length (ap View.tabs same ∙ none) in omega arith)

  -- a view whose sights others have is put away
  over_seen : (w y u : View X) (n : ℕ) → Keeps w → get_elem? s.views n ≡ some u → u.tabs ≡ [] → ((x : Sight) → Contains u.seen x → Contains w.seen x) → (x : Sight) → IsSeen s.views x → IsSeen (set (set s.views i w) n y) x
  over_seen w y u n keeps there none learned x h = let q = set_seen w keeps x h in dite (ℕ_discrete q.i n)
      (λ e. let same : u ≡ q.view = some-injective u q.view (sym (set_else s.views i n w (elsewhere n u there none) ∙ there) ∙ subst (λ (z : ℕ). get_elem? (set s.views i w) z ≡ some q.view) e q.at) in
      record { i = i; view = w; at = set_else (set s.views i w) n i y (λ z. elsewhere n u there none (sym z)) ∙ set_here s.views i w (at_length s.views i v at); seen = learned x (subst (λ (z : View X). Contains z.seen x) (sym same) q.seen) })
      (λ ne. record { i = q.i; view = q.view; at = set_else (set s.views i w) n q.i y ne ∙ q.at; seen = q.seen })

  abbrev next : Move → View X
  next m = view_after v m (finding k s v m)

  keeps_next : (m : Move) → Keeps (next m)
  keeps_next m x c = Contains-append_right (sights_of v m (finding k s v m)) v.seen x c

  note_seen : (b : Bool) → ltb (k.passes + free_note (drop k.passes s.views)) (length (set s.views i (next Note))) ≡ b → (x : Sight) → IsSeen s.views x
      → IsSeen (cond b (set (set s.views i (next Note)) (k.passes + free_note (drop k.passes s.views)) (note_of v)) (set s.views i (next Note) ++ note_of v ∷ [])) x
  note_seen true e x h = let lt = ltb-true (k.passes + free_note (drop k.passes s.views)) (length (set s.views i (next Note))) e in let l = length-set s.views i (next Note) in
      let q = free_spent s.views k.passes (omega arith) in let none = both_none q.0.tabs q.0.seen q.2 in
      over_seen (next Note) (note_of v) q.0 (k.passes + free_note (drop k.passes s.views)) (keeps_next Note) q.1 none.0 (λ y c. absurd (contains_none y (subst (λ (z : List Sight). Contains z y) none.1 c))) x h
  note_seen false e x h = let q = set_seen (next Note) (keeps_next Note) x h in record { i = q.i; view = q.view; at = at_front (set s.views i (next Note)) (note_of v ∷ []) q.i q.view q.at; seen = q.seen }

  learn_seen : (note : ℕ) → Allowed k s v (Learn note) → (x : Sight) → IsSeen s.views x → IsSeen (set (set s.views i (next (Learn note))) (k.passes + note) spent) x
  learn_seen note may x h = over_seen (next (Learn note)) spent may.0 (k.passes + note) (keeps_next (Learn note)) may.1 may.2.0
      (λ y c. Contains-append_left (seen_in (slice_get s.views (k.passes + note))) v.seen y (subst (λ (o : Option (View X)). Contains (seen_in o) y) (sym (at_get s.views (k.passes + note) may.0 may.1)) c)) x h

  -- what was seen, by the kind of the step
  pub stays_seen : (m : Move) → Allowed k s v m → (x : Sight) → IsSeen s.views x → IsSeen (after k s i v m).views x
  stays_seen (Look a) may = set_seen (next (Look a)) (keeps_next (Look a))
  stays_seen (Enter t a) may = set_seen (next (Enter t a)) (keeps_next (Enter t a))
  stays_seen (Leave t) may = set_seen (next (Leave t)) (keeps_next (Leave t))
  stays_seen Count may = set_seen (next Count) (keeps_next Count)
  stays_seen Draw may = set_seen (next Draw) (keeps_next Draw)
  stays_seen (Take t a u) may = set_seen (next (Take t a u)) (keeps_next (Take t a u))
  stays_seen (Evict t a) may = set_seen (next (Evict t a)) (keeps_next (Evict t a))
  stays_seen (Raise t to) may = set_seen (next (Raise t to)) (keeps_next (Raise t to))
  stays_seen (Doom t) may = set_seen (next (Doom t)) (keeps_next (Doom t))
  stays_seen (LoadSide t side) may = set_seen (next (LoadSide t side)) (keeps_next (LoadSide t side))
  stays_seen (StoreSide t side value) may = set_seen (next (StoreSide t side value)) (keeps_next (StoreSide t side value))
  stays_seen (Own t slot) may = set_seen (next (Own t slot)) (keeps_next (Own t slot))
  stays_seen (Disown t slot) may = set_seen (next (Disown t slot)) (keeps_next (Disown t slot))
  stays_seen (LookMap t word) may = set_seen (next (LookMap t word)) (keeps_next (LookMap t word))
  stays_seen (LogPiece t slot is_durable) may = set_seen (next (LogPiece t slot is_durable)) (keeps_next (LogPiece t slot is_durable))
  stays_seen (Publish t slot link) may = set_seen (next (Publish t slot link)) (keeps_next (Publish t slot link))
  stays_seen (Loosen t slot) may = set_seen (next (Loosen t slot)) (keeps_next (Loosen t slot))
  stays_seen (GetLink t slot) may = set_seen (next (GetLink t slot)) (keeps_next (GetLink t slot))
  stays_seen (TryTurn t slot) may = set_seen (next (TryTurn t slot)) (keeps_next (TryTurn t slot))
  stays_seen (EndTurn t slot then) may = set_seen (next (EndTurn t slot then)) (keeps_next (EndTurn t slot then))
  stays_seen (CellOut t slot) may = set_seen (next (CellOut t slot)) (keeps_next (CellOut t slot))
  stays_seen (CellIn t slot) may = set_seen (next (CellIn t slot)) (keeps_next (CellIn t slot))
  stays_seen (Write t slot outcome) may = set_seen (next (Write t slot outcome)) (keeps_next (Write t slot outcome))
  stays_seen (Sync t slot kept) may = set_seen (next (Sync t slot kept)) (keeps_next (Sync t slot kept))
  stays_seen Note may = note_seen (ltb (k.passes + free_note (drop k.passes s.views)) (length (set s.views i (next Note)))) refl
  stays_seen (Learn note) may = learn_seen note may

  -- What one has seen afterwards.

  abbrev Was : Move → Sight → Type 0
  Was m x = IsSeen s.views x ⊎ Contains (sights_of v m (finding k s v m)) x

  next_was : (m : Move) (x : Sight) → Contains (next m).seen x → Was m x
  next_was m x c = ⊎_elim (λ (q : Contains (sights_of v m (finding k s v m)) x). inr q) (λ (q : Contains v.seen x). inl record { i = i; view = v; at = at; seen = q }) (Contains-append_cases (sights_of v m (finding k s v m)) v.seen x c)

  set_was : (m : Move) (x : Sight) → IsSeen (set s.views i (next m)) x → Was m x
  set_was m x h = ⊎_elim
      (λ (q : (h.i ≡ i) × (next m ≡ h.view)). next_was m x (subst (λ (z : View X). Contains z.seen x) (sym q.1) h.seen))
      (λ (q : (h.i ≢ i) × (get_elem? s.views h.i ≡ some h.view)). inl record { i = h.i; view = h.view; at = q.1; seen = h.seen })
      (at_set s.views i h.i (next m) h.view h.at)

  over_was : (m : Move) (y : View X) (n : ℕ) → ((x : Sight) → Contains y.seen x → Was m x) → (x : Sight) → IsSeen (set (set s.views i (next m)) n y) x → Was m x
  over_was m y n new x h = ⊎_elim
      (λ (q : (h.i ≡ n) × (y ≡ h.view)). new x (subst (λ (z : View X). Contains z.seen x) (sym q.1) h.seen))
      (λ (q : (h.i ≢ n) × (get_elem? (set s.views i (next m)) h.i ≡ some h.view)). set_was m x record { i = h.i; view = h.view; at = q.1; seen = h.seen })
      (at_set (set s.views i (next m)) n h.i y h.view h.at)

  note_mine : (x : Sight) → Contains v.seen x → Was Note x
  note_mine x c = inl record { i = i; view = v; at = at; seen = c }

  note_was : (b : Bool) (n : ℕ) (x : Sight) → IsSeen (cond b (set (set s.views i (next Note)) n (note_of v)) (set s.views i (next Note) ++ note_of v ∷ [])) x → Was Note x
  note_was true n x h = over_was Note (note_of v) n note_mine x h
  note_was false n x h = ⊎_elim
      (λ (q : get_elem? (set s.views i (next Note)) h.i ≡ some h.view). set_was Note x record { i = h.i; view = h.view; at = q; seen = h.seen })
      (λ (q : note_of v ≡ h.view). note_mine x (subst (λ (z : View X). Contains z.seen x) (sym q) h.seen))
      (at_end (set s.views i (next Note)) (note_of v) h.i h.view h.at)

  pub was_seen : (m : Move) (x : Sight) → IsSeen (after k s i v m).views x → Was m x
  was_seen (Look a) = set_was (Look a)
  was_seen (Enter t a) = set_was (Enter t a)
  was_seen (Leave t) = set_was (Leave t)
  was_seen Count = set_was Count
  was_seen Draw = set_was Draw
  was_seen (Take t a u) = set_was (Take t a u)
  was_seen (Evict t a) = set_was (Evict t a)
  was_seen (Raise t to) = set_was (Raise t to)
  was_seen (Doom t) = set_was (Doom t)
  was_seen (LoadSide t side) = set_was (LoadSide t side)
  was_seen (StoreSide t side value) = set_was (StoreSide t side value)
  was_seen (Own t slot) = set_was (Own t slot)
  was_seen (Disown t slot) = set_was (Disown t slot)
  was_seen (LookMap t word) = set_was (LookMap t word)
  was_seen (LogPiece t slot is_durable) = set_was (LogPiece t slot is_durable)
  was_seen (Publish t slot link) = set_was (Publish t slot link)
  was_seen (Loosen t slot) = set_was (Loosen t slot)
  was_seen (GetLink t slot) = set_was (GetLink t slot)
  was_seen (TryTurn t slot) = set_was (TryTurn t slot)
  was_seen (EndTurn t slot then) = set_was (EndTurn t slot then)
  was_seen (CellOut t slot) = set_was (CellOut t slot)
  was_seen (CellIn t slot) = set_was (CellIn t slot)
  was_seen (Write t slot outcome) = set_was (Write t slot outcome)
  was_seen (Sync t slot kept) = set_was (Sync t slot kept)
  was_seen Note = note_was (ltb (k.passes + free_note (drop k.passes s.views)) (length (set s.views i (next Note)))) (k.passes + free_note (drop k.passes s.views))
  was_seen (Learn note) = over_was (Learn note) spent (k.passes + note) (λ x c. absurd (contains_none x c))
