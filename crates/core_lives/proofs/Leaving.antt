-- What is left of slots, gathered slot by slot.
use Rattle.std.proofs.Common.{◌≡◌, ℕ, ◌+◌, ◌<◌, ◌≤◌, List, [], ◌∷◌, ◌++◌, None, Some, length, get_or, refl, sym, ap, ◌∙◌, subst, arith, inl, inr}
use lib.ListN.{get_elem?}
use Rattle.std.specs.Prelude.{slice_index}
use Rattle.std.proofs.lemmas.Bool.{cases_lt}
use Rattle.std.proofs.lemmas.List.{length_push, get_or_append_left, get_or_push}
use Rattle.core_model.specs.declared.tab.Cell.{Cell}
use Rattle.core_model.specs.Sound.{Sound}
use Rattle.core_table.specs.declared.content.Content.{Content}
use Rattle.core_table.specs.Machine.{Machine, setting_of, state_of}
use Rattle.named_rebuild.specs.declared.contents.FirstContent.{FirstContent}
use Rattle.named_rebuild.specs.declared.contents.FirstContent.TheVariants.{Blank}
use Rattle.named_rebuild.specs.Contents.{content_at}
use Rattle.core_model.specs.Cells.{IsCell}
use Rattle.core_model.proofs.Lists.{at_index, at_length}
use Rattle.core_table.proofs.Lists.{same_default}
use Rattle.core_lives.specs.Crash.{ArePicked, IsLeft, IsPick, IsPickedAs}
use Rattle.core_lives.specs.Happening.{IsCrashed}
use Rattle.core_lives.specs.Lived.{Lived}
use Rattle.core_lives.proofs.OneCell.{one_cell}

module _ (m : Machine) (first : List FirstContent) (picks : List ℕ) where
  pub record LeftBelow (bound : ℕ) (left : List FirstContent) : Type 0 where
    pub many : length left ≡ bound
    pub few : bound ≤ length picks
    pub each : (slot : ℕ) → slot < bound → IsLeft m first slot (slice_index picks slot) (content_at left slot)

  pub none_yet : (left : List FirstContent) → left ≡ [] → LeftBelow 0 left
  none_yet left none = record { many = ap length none; few = omega arith; each = λ slot low. absurd (omega arith) }

  pub one_more : (bound : ℕ) (left grown : List FirstContent) (x : FirstContent) → LeftBelow bound left → bound < length picks → IsLeft m first bound (slice_index picks bound) x → grown ≡ left ++ x ∷ [] → LeftBelow (bound + 1) grown
  one_more bound left grown x l lt is grows = subst (LeftBelow (bound + 1)) (sym grows) record {
    many = let n = length_push left x in let many = l.many in omega arith;
    few = omega arith;
    each = λ slot low. elim (cases_lt slot bound) as (λ _. IsLeft m first slot (slice_index picks slot) (content_at (left ++ x ∷ []) slot)) [
      | inl less ↦ subst (IsLeft m first slot (slice_index picks slot)) (sym (get_or_append_left left (x ∷ []) Blank slot (let many = l.many in omega (arith, less, many)))) (l.each slot less)
      | inr more ↦ let here : bound ≡ slot = omega (arith, low, more) in
          subst (λ (s : ℕ). IsLeft m first s (slice_index picks s) (content_at (left ++ x ∷ []) s)) here (subst (IsLeft m first bound (slice_index picks bound)) (sym (get_or_push left x Blank bound l.many)) is)
    ];
  }

  pub all_picked : length picks ≡ m.slots → (bound : ℕ) (left : List FirstContent) → LeftBelow bound left → length picks ≤ bound → ArePicked m first picks left
  all_picked many bound left l all = record {
    many = let n = l.many in let few = l.few in omega arith;
    each = λ slot low. l.each slot (omega arith);
  }

-- a number that is none of its cell's contents is no pick
pub no_pick : (m : Machine) → Sound (setting_of m) (state_of m) → (slot number : ℕ) (c : Cell Content) → IsCell (state_of m) slot c → length c.possible ≤ number → IsPick m slot number → ⊥
no_pick m so slot number c is high p = let same = ap (λ (d : Cell Content). length d.possible) (one_cell m so slot p.cell c p.is_cell is) in let lt = p.within in omega arith

-- the content of a number that its cell has is picked by it
pub picked_as : (m : Machine) (slot number : ℕ) (c : Cell Content) (xs : List Content) (x : Content) → IsCell (state_of m) slot c → xs ≡ c.possible → number < length xs → x ≡ get_or xs number x → IsPickedAs m slot number x
picked_as m slot number c xs x is same lt here = record { cell = c; is_cell = is; at = ap (λ (ys : List Content). get_elem? ys number) (sym same) ∙ at_index xs number x x lt (sym here) }

pub picked_at : (m : Machine) (slot number : ℕ) (c : Cell Content) (xs : List Content) (d : Content) → IsCell (state_of m) slot c → xs ≡ c.possible → number < length xs → IsPickedAs m slot number (get_or xs number d)
picked_at m slot number c xs d is same lt = picked_as m slot number c xs (get_or xs number d) is same lt (same_default xs number d (get_or xs number d) lt)

-- a crash has come
pub has_crashed : (l : Lived) (picks : List ℕ) (left : List FirstContent) → l.left ≡ None → length picks ≡ l.core.slots → ArePicked l.core l.first picks left
    → IsCrashed l picks record { core = l.core; file = l.file; first = l.first; left = Some left }
has_crashed l picks left runs many p = record {
  may = record {
    runs = runs;
    many = many;
    each = λ slot low. let q = p.each slot low in record { cell = q.picked.cell; is_cell = q.picked.is_cell; within = at_length q.picked.cell.possible (slice_index picks slot) q.content q.picked.at };
  };
  core = refl;
  first = refl;
  contents = left;
  left = refl;
  picked = p;
}
