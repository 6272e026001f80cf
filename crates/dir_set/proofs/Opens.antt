-- An entry was found in one file, and those before it refused.
use Rattle.std.proofs.Common.{Bool, List, None, Option, [], ap, arith, get_or, inl, inr, refl, replicate, set, subst, suc, sym, zero, ◌∷◌, ◌<◌, ◌≡◌, ◌≢◌, ◌⊎◌, ◌∙◌, ℕ}
use Rattle.std.proofs.lemmas.List.{get_or-set_other}
use Rattle.std.specs.Prelude.{slice_get}
use Rattle.lock_word.specs.declared.cause.Cause.{Cause}
use Rattle.rock_disk.specs.Cell.{CellState}
use Rattle.store_rule.specs.Ground.{Offers}
use Rattle.dir_set.specs.declared.dirs.DirPass.{DirPass}
use Rattle.dir_set.specs.declared.dirs.Dirs.{Dirs}
use Rattle.dir_set.specs.Answers.{OpenedBy, OpensAt, RefusedBy}
use Rattle.dir_set.specs.Dirs.{AtDir, IsDirPass, NoneBehind, OnlyDir, dir_count}
use Rattle.dir_set.proofs.OneFile.{is_or_not, same_some}
use Rattle.dir_set.proofs.Range.{Ranges}
use Rattle.dir_set.proofs.Said.{Said}

pub missed_none : {T : Type 0} (k n : ℕ) → NoneBehind {T = T} n (replicate k None)
missed_none zero n d le = refl
missed_none (suc k) n zero le = refl
missed_none {T} (suc k) n (suc d) le = missed_none {T = T} k 0 d (omega arith)

-- what stands at a place that something was put at, if there is one
put_or : (xs : List ℕ) (t d : ℕ) → (get_or (set xs t d) t 0 ≡ d) ⊎ (get_or (set xs t d) t 0 ≡ get_or xs t 0)
put_or [] t d = inr refl
put_or (x ∷ xs) zero d = inl refl
put_or (x ∷ xs) (suc t) d = put_or xs t d

module _ {C O : Type 0} (tells : Bool) (state : C → CellState) (offers : O → Offers) where
  -- a tab is at a file
  pub tab_own : (dirs : Dirs C O) (a : DirPass C) (t d hand : ℕ) → IsDirPass tells state offers dirs a → hand < dir_count dirs → d < dir_count dirs → IsDirPass tells state offers dirs (record a { tab_dirs = set a.tab_dirs t d; hand = hand })
  tab_own dirs a t d hand own below lt = record { many = own.many; own = own.own; hand = below; tabs = λ j less. each j less (is_or_not j t) }
    where
      within : t < 8 → (get_or (set a.tab_dirs t d) t 0 ≡ d) ⊎ (get_or (set a.tab_dirs t d) t 0 ≡ get_or a.tab_dirs t 0) → get_or (set a.tab_dirs t d) t 0 < dir_count dirs
      within less (inl e) = subst (λ (n : ℕ). n < dir_count dirs) (sym e) lt
      within less (inr e) = subst (λ (n : ℕ). n < dir_count dirs) (sym e) (own.tabs t less)

      each : (j : ℕ) → j < 8 → ((j ≡ t) ⊎ (j ≢ t)) → get_or (set a.tab_dirs t d) j 0 < dir_count dirs
      each j less (inl e) = subst (λ (n : ℕ). get_or (set a.tab_dirs t d) n 0 < dir_count dirs) (sym e) (within (subst (λ (n : ℕ). n < 8) e less) (put_or a.tab_dirs t d))
      each j less (inr ne) = subst (λ (n : ℕ). n < dir_count dirs) (sym (get_or-set_other a.tab_dirs t j d 0 ne)) (own.tabs j less)

  module _ (t : ℕ) (url : List ℕ) (dirs : Dirs C O) (a b c : DirPass C) (causes : List (Option Cause)) (dir version : ℕ) where
    pub opens_at : Ranges dirs a b (Said dirs (λ (cause : Cause) s p q. RefusedBy tells state offers t url s p q cause) causes) 0 dir → OnlyDir dir b c → AtDir dirs b c dir (λ s p q. OpenedBy tells state offers t url s p q version)
        → (d : ℕ) → AtDir dirs a c d (OpensAt tells state offers t url dir version d)
    opens_at r only at d s p q es ep eq = record {
      before = λ lt. let h = r.done d (omega arith) lt s p q es ep (sym (only.others d (omega arith)) ∙ eq) in (h.0, h.2);
      here = λ e. at s p q (ap (λ (n : ℕ). slice_get dirs.stores.items n) (sym e) ∙ es) (r.else dir (inr (omega arith)) ∙ ap (λ (n : ℕ). slice_get a.passes.items n) (sym e) ∙ ep) (ap (λ (n : ℕ). slice_get c.passes.items n) (sym e) ∙ eq);
      behind = λ lt. same_some (slice_get a.passes.items d) q p (sym (r.else d (inr (omega arith))) ∙ sym (only.others d (omega arith)) ∙ eq) ep;
    }
