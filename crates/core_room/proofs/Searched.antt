-- A look at the map and a try for a slot keep room.
use Rattle.std.proofs.Common.{Bool, List, None, Option, Some, [], ap, arith, cond, eq-eqb, false, get_or, length, ne_eqb, refl, set, subst, sum_by, sym, true, ⊎_elim, ◌*◌, ◌++◌, ◌+◌, ◌/◌, ◌<◌, ◌==◌, ◌∙◌, ◌∷◌, ◌≡◌, ◌≢◌, ◌≤◌, ℕ}
use Rattle.std.specs.List.{range_with_len}
use Rattle.std.proofs.lemmas.Bool.{leb-true}
use mathlib.Core.Option.{some}
use mathlib.Core.Logic.{dite}
use native.Mathlib.Decide.{ℕ_discrete}
use lib.ListN.{get_elem?}
use Rattle.link_word.specs.Map.{next_free, taken_in}
use Rattle.link_word.proofs.Mapped.{few}
use Rattle.core_model.specs.declared.moves.Move.TheVariants.{LookMap, Own}
use Rattle.core_model.specs.declared.tab.Tab.{Tab}
use Rattle.core_model.specs.declared.tab.Tab.TheVariants.{Free, Writing}
use Rattle.core_model.specs.declared.tab.Writer.{Writer}
use Rattle.core_model.specs.declared.view.View.{View}
use Rattle.core_model.specs.Layout.{Setting, map_index}
use Rattle.core_model.specs.State.{State, chain_of}
use Rattle.core_model.specs.Spots.{slots_chained}
use Rattle.core_model.specs.Sound.{Sound}
use Rattle.core_model.specs.Steps.{after, finding, number_found, view_after}
use Rattle.core_model.specs.Tabs.{InnerIsFree, IsPass, OfWriter, count, inner, tab_at}
use Rattle.core_model.specs.SlotMoves.{begun_at, goes_past, misses, reserves, searches}
use Rattle.core_model.specs.Table.{MayStep, tabs_after}
use Rattle.core_model.proofs.AllKept.{keeps_sound}
use Rattle.core_model.proofs.ReservesKept.{of_writer}
use Rattle.core_model.proofs.Tabs.{tab_there}
use Rattle.core_room.specs.Fitting.{capacity, fits}
use Rattle.core_room.specs.Room.{Room, holds_at, past, past_in, running, taken_at, taken_from}
use Rattle.core_room.specs.Conditions.{HasCome, KeepsRoom, MayBegin}
use Rattle.core_room.proofs.Searching.{Places, begins, fewer, fewer_from, past_at, takes}
use Rattle.core_room.proofs.Tabs.{if_at}
use Rattle.core_room.proofs.Held.{writer_else, writer_here}
use Rattle.core_room.proofs.Anchors.{chain_is}
use Rattle.core_room.proofs.Words.{look_same, try_else, try_here}
use Rattle.core_room.proofs.Counted.{all_told}
use Rattle.core_room.proofs.Sole.{none_else}
use Rattle.core_room.proofs.Looks.{Comes, apart_by, begins_at, far, goes_on_at, others_by, others_fall, others_past, with_by}

module _ {X : Type 0} (k : Setting X) (s : State X) (need : ℕ → ℕ) (chain : ℕ → List ℕ) (i : ℕ) (v : View X)
    (fit : fits k.anchors k.slots need chain ≡ true)
    (so : Sound k s) (room : Room k (capacity k.slots need chain) s) (at : get_elem? s.views i ≡ some v) (pass : IsPass v) where
  abbrev most : ℕ → ℕ
  most = capacity k.slots need chain

  all_fit : sum_by (capacity k.slots need chain) (range_with_len 0 k.anchors) ≤ k.slots
  all_fit = leb-true (sum_by (capacity k.slots need chain) (range_with_len 0 k.anchors)) k.slots fit

  module _ (t : ℕ) (w : Writer X) (is : tab_at v t ≡ Writing w) (le : t ≤ 8) where
    there : get_elem? v.tabs t ≡ some (Writing w)
    there = tab_there v t (Writing w) (let p = pass in omega arith) is

    -- what the other tabs count, and how far a search of this tab may have come
    abbrev others : (f : Tab X → ℕ) → f Free ≡ 0 → ℕ
    others f none = others_by f none s i v at t (Writing w) there

    abbrev Come : Option ℕ → Type 0
    Come claim = Comes k s i v t claim

    was : Come w.claim
    was slot n e = let r = room.places slot n e in let a = apart_by (past_in slot) refl s i v at t (Writing w) there in omega arith

    -- A tab whose search runs on has no more slots.
    as_many : (y : Writer X) (a p q : ℕ) → y.anchor ≡ w.anchor → y.reserved ≡ w.reserved → y.claim ≡ Some p → w.claim ≡ Some q
        → holds_at {X = X} a (Writing y) ≤ holds_at a (Writing w)
    as_many y a p q same kept now old =
        let b = ap length kept in
        let c = ap running now in
        let d = ap running old in
        let e = ap (λ (z : ℕ). cond (z == a) (length y.reserved + running y.claim) 0) same in
        let l = if_at (w.anchor == a) (length y.reserved + running y.claim) (length w.reserved + running w.claim) (omega arith) in
        omega arith

    module _ (word : ℕ) (may : MayStep k s v (LookMap t word)) (begun : begun_at w.claim word ≡ Some (64 * word)) where
      abbrev looked : State X
      looked = after k s i v (LookMap t word)

      abbrev seen : ℕ
      seen = number_found k s v (LookMap t word)

      abbrev seeker : Writer X
      seeker = record w { claim = goes_past (begun_at w.claim word) (64 * word) seen }

      claim_is : seeker.claim ≡ Some (next_free seen (64 * word))
      claim_is = goes_on_at (begun_at w.claim word) (64 * word) seen begun

      sums : (f : Tab X → ℕ) → (none : f Free ≡ 0) → sum_by (count f) looked.views ≡ others f none + f (Writing seeker)
      sums f none =
          with_by f none s i v at t (Writing w) there (view_after v (LookMap t word) (finding k s v (LookMap t word))) (Writing seeker)
          (ap (λ (z : Tab X). set v.tabs t (searches z word seen)) is)

      same : (j : ℕ) → taken_at k looked j ≡ taken_at k s j
      same j = look_same k s i v so at pass t word j

      looks_on : Come (Some (64 * word)) → Places k.slots (taken_at k looked) (λ slot. sum_by (count (past_in slot)) looked.views)
      looks_on come = fewer k.slots (taken_at k s) (taken_at k looked)
          (λ slot. others_past k s i v t slot + past slot seeker.claim)
          (λ slot. sum_by (count (past_in slot)) looked.views)
          (λ j lt. let e = same j in omega arith)
          (λ j. let e = sums (past_in j) refl in omega arith)
          (subst Come (sym claim_is) (far k s i v t (64 * word) seen at_word come))
        where
          at_word : seen ≡ get_or s.words (map_index k (64 * word / 64)) 0
          at_word = ap (λ (z : ℕ). get_or s.words (map_index k z) 0) (omega arith)

      -- It goes on, at its place,
      goes_on : w.claim ≡ Some (64 * word) → Room k most looked
      goes_on come = record {
        places = looks_on (subst Come come was);
        anchors = λ a lt.
            let r = room.anchors a lt in
            let e = sums (holds_at a) refl in
            let b = apart_by (holds_at a) refl s i v at t (Writing w) there in
            let l = as_many seeker a (next_free seen (64 * word)) (64 * word) refl refl claim_is come in
            omega arith;
      }

      -- or it begins, where the anchor has room for one slot more.
      module _ (first : word ≡ 0) (free : InnerIsFree v) (one_more : MayBegin k need w) where
        anchors_begun : (a : ℕ) → a < k.anchors → slots_chained (chain_of s a) + sum_by (count (holds_at a)) looked.views ≤ most a
        anchors_begun a lt = dite (ℕ_discrete w.anchor a) here else
          where
            here : w.anchor ≡ a → slots_chained (chain_of s a) + sum_by (count (holds_at a)) looked.views ≤ most a
            here q =
                let e = sums (holds_at w.anchor) refl in
                let n = none_else k s i v so at t w there free in
                let h = writer_here w.anchor seeker refl in
                let u = ap running claim_is in
                let c = ap slots_chained (chain_is k s i v so at pass need t w le is) in
                let m = one_more.within in
                subst (λ (z : ℕ). slots_chained (chain_of s z) + sum_by (count (holds_at z)) looked.views ≤ most z) q (omega arith)

            else : w.anchor ≢ a → slots_chained (chain_of s a) + sum_by (count (holds_at a)) looked.views ≤ most a
            else ne =
                let e = sums (holds_at a) refl in
                let r = room.anchors a lt in
                let b = apart_by (holds_at a) refl s i v at t (Writing w) there in
                let h = writer_else a seeker ne in
                omega arith

        one_fits : taken_from (taken_at k s) 0 k.slots + (others_past k s i v t 0 + 1) ≤ k.slots
        one_fits =
            let a = all_told k looked (keeps_sound k s i v (LookMap t word) so at may) most all_fit anchors_begun in
            let b = fewer_from (taken_at k looked) (taken_at k s) k.slots (λ j lt. let e = same j in omega arith) 0 k.slots (omega arith) in
            let c = sums (past_in 0) refl in
            let d = ap (past 0) claim_is in
            let e = past_at 0 (next_free seen (64 * word)) (omega arith) in
            omega arith

        search_begins : Room k most looked
        search_begins = record {
          places = looks_on (subst (λ (z : ℕ). Come (Some z)) (omega arith)
              (begins k.slots (taken_at k s) (others_past k s i v t) (others_fall k s i v t) w.claim one_fits was));
          anchors = anchors_begun;
        }

    -- A try for the slot at its place.
    module _ (slot : ℕ) (low : slot < k.slots) (come : w.claim ≡ Some slot) where
      abbrev tried : State X
      tried = after k s i v (Own t slot)

      abbrev bits : ℕ
      bits = number_found k s v (Own t slot)

      abbrev TriedPlaces : Type 0
      TriedPlaces = Places k.slots (taken_at k tried) (λ j. sum_by (count (past_in j)) tried.views)

      abbrev tabs_now : List (Tab X)
      tabs_now = tabs_after v (Own t slot) (finding k s v (Own t slot))

      abbrev tabs_if : Bool → List (Tab X)
      tabs_if b = set v.tabs t (cond b (reserves (Writing w) slot) (misses (Writing w) slot bits))

      tabs_are : (b : Bool) → (taken_in bits slot == 0) ≡ b → tabs_now ≡ tabs_if b
      tabs_are b e =
          ap (λ (z : Tab X). set v.tabs t (cond (taken_in bits slot == 0) (reserves z slot) (misses z slot bits))) is ∙ ap tabs_if e

      sums_now : (y : Writer X) → tabs_now ≡ set v.tabs t (Writing y)
          → (f : Tab X → ℕ) → (none : f Free ≡ 0) → sum_by (count f) tried.views ≡ others f none + f (Writing y)
      sums_now y e f none =
          with_by f none s i v at t (Writing w) there (view_after v (Own t slot) (finding k s v (Own t slot))) (Writing y) e

      here_now : taken_at k tried slot ≡ 1
      here_now = try_here k s i v so at pass t slot low

      else_same : (j : ℕ) → j ≢ slot → taken_at k tried j ≡ taken_at k s j
      else_same j ne = try_else k s i v so at pass t slot low j ne

      at_slot : Come (Some slot)
      at_slot = subst Come come was

      winner : Writer X
      winner = record w { claim = None; reserved = w.reserved ++ slot ∷ [] }

      hit : taken_in bits slot ≡ 0 → TriedPlaces
      unfolding winner
      hit e = fewer k.slots (taken_at k tried) (taken_at k tried)
          (λ j. others_past k s i v t j + past j None)
          (λ j. sum_by (count (past_in j)) tried.views)
          (λ j lt. omega arith)
          (λ j. let q = sums_now winner (tabs_are true (eq-eqb (taken_in bits slot) 0 e)) (past_in j) refl in omega arith)
          (takes k.slots (taken_at k s) (others_past k s i v t) (others_fall k s i v t) (taken_at k tried) slot e here_now
          (λ j lt. else_same j) at_slot)

      miss : taken_in bits slot ≢ 0 → TriedPlaces
      miss ne = fewer k.slots (taken_at k s) (taken_at k tried)
          (λ j. others_past k s i v t j + past j (goes_past w.claim slot bits))
          (λ j. sum_by (count (past_in j)) tried.views)
          (λ j lt. no_more j)
          (λ j. let q = sums_now (record w { claim = goes_past w.claim slot bits }) missed (past_in j) refl in omega arith)
          (subst Come (sym (goes_on_at w.claim slot bits come)) (far k s i v t slot bits refl at_slot))
        where
          missed : tabs_now ≡ tabs_if false
          missed = tabs_are false (ne_eqb (taken_in bits slot) 0 ne)

          no_more : (j : ℕ) → taken_at k tried j ≤ taken_at k s j
          no_more j = dite (ℕ_discrete j slot)
              (λ e. let h = here_now in let a = ap (taken_at k tried) e in let b = ap (taken_at k s) e in let c = few bits slot in
              omega arith)
              (λ other. let h = else_same j other in omega arith)

      try_places : TriedPlaces
      try_places = dite (ℕ_discrete (taken_in bits slot) 0) hit miss

  -- So a look keeps room,
  pub look_keeps : (t word : ℕ) → MayStep k s v (LookMap t word) → KeepsRoom k need v (LookMap t word)
      → Room k (capacity k.slots need chain) (after k s i v (LookMap t word))
  look_keeps t word may keeps = ⊎_elim begins_here goes_on_here keeps
    where
      first_word : (w : Writer X) → word ≡ 0 → begun_at w.claim word ≡ Some (64 * word)
      first_word w e = ap (begun_at w.claim) e ∙ ap (λ (z : ℕ). Some (64 * z)) (sym e)

      begins_here : (word ≡ 0) × (t < inner) × InnerIsFree v × OfWriter (MayBegin k need) (tab_at v t)
          → Room k (capacity k.slots need chain) (after k s i v (LookMap t word))
      begins_here h = let q = of_writer (MayBegin k need) (tab_at v t) h.3 in
          search_begins t q.0 q.1 may.allowed.0 word may (first_word q.0 h.0) h.0 h.2 q.2

      goes_on_here : OfWriter (HasCome (64 * word)) (tab_at v t) → Room k (capacity k.slots need chain) (after k s i v (LookMap t word))
      goes_on_here h = let q = of_writer (HasCome (64 * word)) (tab_at v t) h in
          goes_on t q.0 q.1 may.allowed.0 word may (begins_at q.0.claim word q.2) q.2

  -- and a try lets searches be in their places.
  pub try_keeps : (t slot : ℕ) → MayStep k s v (Own t slot) → OfWriter (HasCome slot) (tab_at v t)
      → Places k.slots (taken_at k (after k s i v (Own t slot))) (λ j. sum_by (count (past_in j)) (after k s i v (Own t slot)).views)
  try_keeps t slot may keeps = let q = of_writer (HasCome slot) (tab_at v t) keeps in
      try_places t q.0 q.1 (let z = may.allowed.0 in omega arith) slot may.allowed.1 q.2
