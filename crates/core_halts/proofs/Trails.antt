-- What a pass found it has found after later steps too.
use Rattle.std.proofs.Common.{◌≡◌, inl, inr, List, [], ◌∷◌, ◌++◌, refl, arith, ℕ}
use Rattle.std.proofs.lemmas.List.Elements.{Contains-append_right}
use Rattle.core_model.specs.declared.moves.Move.{Move}
use Rattle.core_model.specs.declared.moves.Move.TheVariants.{GetLink, Look}
use Rattle.core_model.specs.declared.view.Item.{Item}
use Rattle.core_model.specs.declared.view.View.{View}
use Rattle.core_model.specs.State.{Finding}
use Rattle.core_model.specs.Steps.{view_after}
use Rattle.core_model.specs.Table.{item_of}
use Rattle.core_halts.specs.Halts.{FoundEnd, HasEnd, HasHalted, SaysHalted}

module _ (a version : ℕ) where
  -- of a trail with later steps
  pub halted_behind : (ys xs : List Item) → HasHalted a version xs → HasHalted a version (ys ++ xs)
  halted_behind ys xs h = record { item = h.item; there = Contains-append_right ys xs h.item h.there; saw = h.saw }

  pub end_behind : (slot : ℕ) (ys xs : List Item) → HasEnd a version slot xs → HasEnd a version slot (ys ++ xs)
  end_behind slot [] xs h = h
  end_behind slot (y ∷ ys) xs h = inr (end_behind slot ys xs h)

  -- who found an end had found the entry given up
  pub end_halted : (slot : ℕ) (xs : List Item) → HasEnd a version slot xs → HasHalted a version xs
  end_halted slot [] h = absurd h
  end_halted slot (x ∷ xs) (inl h) = halted_behind (x ∷ []) xs h.1
  end_halted slot (x ∷ xs) (inr h) = halted_behind (x ∷ []) xs (end_halted slot xs h)

  module _ {X : Type 0} (v : View X) (x : Finding X) where
    -- a look at the anchor
    pub look_found : SaysHalted version x.word → HasHalted a version (view_after v (Look a) x).trail
    look_found h = record {
      item = item_of v (Look a) x.word;
      there = (0, omega arith, refl);
      saw = record { kind = refl; at = refl; halted = h };
    }

    -- a look at a link behind it
    pub link_found : (t slot : ℕ) → HasHalted a version v.trail → x.word ≡ 0 → FoundEnd (view_after v (GetLink t slot) x) a version slot
    link_found t slot h none = inl (record { kind = refl; at = refl; found = none }, h)

    -- and any later step
    pub halted_after : (m : Move) → HasHalted a version v.trail → HasHalted a version (view_after v m x).trail
    halted_after m h = halted_behind (item_of v m x.word ∷ []) v.trail h

    pub end_after : (m : Move) (slot : ℕ) → FoundEnd v a version slot → FoundEnd (view_after v m x) a version slot
    end_after m slot h = inr h
