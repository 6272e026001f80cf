-- An entry was begun in one of some files, and those before it refused; or all of them did.
use Rattle.std.proofs.Common.{Bool, List, Option, ap, arith, inl, inr, set, sym, ◌+◌, ◌<◌, ◌≡◌, ◌≤◌, ◌⊎◌, ◌∙◌, ℕ}
use Rattle.std.specs.Prelude.{slice_get}
use Rattle.rock_disk.specs.Cell.{CellState}
use Rattle.rock_writer.specs.declared.fault.BeginFault.{BeginFault}
use Rattle.store_rule.specs.declared.store.Pass.{Pass}
use Rattle.store_rule.specs.declared.store.Store.{Store}
use Rattle.store_rule.specs.Ground.{Offers}
use Rattle.dir_set.specs.declared.dirs.DirPass.{DirPass}
use Rattle.dir_set.specs.declared.dirs.Dirs.{Dirs}
use Rattle.dir_set.specs.Beginning.{BeginsAmong, BegunBy, RefusedBegin, RefusesAmong}
use Rattle.dir_set.specs.Dirs.{AtDir, OnlyDir, answer_at}
use Rattle.dir_set.proofs.OneFile.{same_some}
use Rattle.dir_set.proofs.Range.{Ranges}
use Rattle.dir_set.proofs.Said.{Said, answer_beside}

pub beside_on : {T : Type 0} (old xs : List (Option T)) (from n : ℕ) (x : Option T) → from ≤ n → ((d : ℕ) → (d < from) ⊎ (n ≤ d) → answer_at xs d ≡ answer_at old d) → (d : ℕ) → (d < from) ⊎ (n + 1 ≤ d) → answer_at (set xs n x) d ≡ answer_at old d
beside_on old xs from n x le beside d (inl lt) = answer_beside xs n x d (omega arith) ∙ beside d (inl lt)
beside_on old xs from n x le beside d (inr lt) = answer_beside xs n x d (omega arith) ∙ beside d (inr (omega arith))

module _ {C O : Type 0} (tells : Bool) (state : C → CellState) (offers : O → Offers) (t line : ℕ) (url : List ℕ) (is_durable : Bool) (dirs : Dirs C O) where
  abbrev Refusals : List (Option BeginFault) → ℕ → Store C O → (p q : Pass C) → Type 0
  Refusals = Said dirs (λ (fault : BeginFault) s p q. RefusedBegin tells state offers t line url is_durable s p q fault)

  pub among_at : (a b c : DirPass C) (faults : List (Option BeginFault)) (from dir version : ℕ) → from ≤ dir → Ranges dirs a b (Refusals faults) from dir → OnlyDir dir b c
      → AtDir dirs b c dir (λ s p q. BegunBy tells state offers t line url is_durable s p q version) → (d : ℕ) → AtDir dirs a c d (BeginsAmong tells state offers t line url is_durable from dir version d)
  among_at a b c faults from dir version le r only at d s p q es ep eq = record {
    before = λ above lt. let h = r.done d above lt s p q es ep (sym (only.others d (omega arith)) ∙ eq) in (h.0, h.2);
    here = λ e. at s p q (ap (λ (n : ℕ). slice_get dirs.stores.items n) (sym e) ∙ es) (r.else dir (inr (omega arith)) ∙ ap (λ (n : ℕ). slice_get a.passes.items n) (sym e) ∙ ep) (ap (λ (n : ℕ). slice_get c.passes.items n) (sym e) ∙ eq);
    else = λ out. same out;
  }
    where
      same : (d < from) ⊎ (dir < d) → q ≡ p
      same (inl lt) = same_some (slice_get a.passes.items d) q p (sym (r.else d (inl lt)) ∙ sym (only.others d (omega arith)) ∙ eq) ep
      same (inr lt) = same_some (slice_get a.passes.items d) q p (sym (r.else d (inr (omega arith))) ∙ sym (only.others d (omega arith)) ∙ eq) ep

  pub among_none : (a b : DirPass C) (faults : List (Option BeginFault)) (from to dir : ℕ) → to ≤ dir → dir ≤ to → Ranges dirs a b (Refusals faults) from dir → (d : ℕ) → AtDir dirs a b d (RefusesAmong tells state offers t line url is_durable from to faults d)
  among_none a b faults from to dir past le r d s p q es ep eq = record {
    here = λ above lt. r.done d above (omega arith) s p q es ep eq;
    else = λ out. same out;
  }
    where
      same : (d < from) ⊎ (to ≤ d) → q ≡ p
      same (inl lt) = same_some (slice_get a.passes.items d) q p (sym (r.else d (inl lt)) ∙ eq) ep
      same (inr lt) = same_some (slice_get a.passes.items d) q p (sym (r.else d (inr (omega arith))) ∙ eq) ep
