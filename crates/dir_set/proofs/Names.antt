-- Names of files, and a file that is put among others.
use Rattle.std.proofs.Common.{Bool, List, Some, cond, false, inl, inr, refl, sym, true, ◌≡◌, ◌≢◌, ◌⊎◌, ◌∙◌, ℕ}
use Rattle.std.proofs.lemmas.Cmp.{nat_list_cmp_total}
use Rattle.std.proofs.lemmas.Map.Text.{is_eq-slice_cmp}
use Rattle.std.proofs.lemmas.Slice.Eq.{bytes_eq-Decides}
use Rattle.std.specs.Cmp.Lexicographic.{slice_cmp}
use Rattle.std.specs.FinMap.{get, get-insert, insert}
use Rattle.std.specs.Ordering.{eq_by_cmp, nat_cmp}
use Rattle.rock_disk.specs.File.{File, Files}

abbrev same_bytes : List ℕ → List ℕ → Bool
same_bytes = eq_by_cmp (slice_cmp nat_cmp)

true_false : true ≡ false → ⊥
true_false e = cc

-- two names are one, or not
pub name_or_not : (a b : List ℕ) → (a ≡ b) ⊎ (a ≢ b)
name_or_not a b = pick (same_bytes a b) refl
  where
    pick : (x : Bool) → same_bytes a b ≡ x → (a ≡ b) ⊎ (a ≢ b)
    pick true e = inl ((bytes_eq-Decides a b).0 (sym (is_eq-slice_cmp a b) ∙ e))
    pick false e = inr (λ same. true_false (sym (is_eq-slice_cmp a b ∙ (bytes_eq-Decides a b).1 same) ∙ e))

-- a file that is put among others leaves those of other names
pub others_inserted : (files : Files) (name : List ℕ) (f : File) (other : List ℕ) → other ≢ name → get (insert files name f) other ≡ get files other
others_inserted files name f other apart = get-insert nat_list_cmp_total files name f other ∙ pick (same_bytes other name) refl
  where
    pick : (x : Bool) → same_bytes other name ≡ x → cond x (Some f) (get files other) ≡ get files other
    pick true e = absurd (apart ((bytes_eq-Decides other name).0 (sym (is_eq-slice_cmp other name) ∙ e)))
    pick false e = refl
