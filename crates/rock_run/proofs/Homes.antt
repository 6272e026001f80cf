-- No file is out after a run, where none was before.
use Rattle.std.proofs.Common.{List, Some, ap, cond, false, inl, inr, subst, sym, true, ◌∙◌, ◌≡◌, ◌⊎◌, ℕ}
use Rattle.std.specs.Ordering.{eq_by_cmp, nat_cmp}
use Rattle.std.specs.Cmp.Lexicographic.{slice_cmp}
use Rattle.std.proofs.lemmas.Cmp.{nat_list_cmp_total}
use Rattle.std.specs.FinMap.{get, get-insert, insert}
use Rattle.rock_disk.specs.File.{File, Files, IsNotAway, NoneAway}
use Rattle.rock_open.specs.declared.fault.OpenStoreFault.{OpenStoreFault}
use Rattle.rock_open.specs.declared.fault.OpenStoreFault.TheVariants.{BadGeometry, Failed, Memory, Missing, Small}
use Rattle.rock_run.specs.Device.{ServingEnds}
use Rattle.rock_run.specs.Runs.{RefusalLeaves}

-- a file that was taken out and put in again is in, and the others are as they were
pub home_again : (before middle after : Files) (name : List ℕ) (out file : File) → IsNotAway (Some file) → middle ≡ insert before name out → after ≡ insert middle name file → NoneAway before → NoneAway after
home_again before middle after name out file is opened back home q =
    let at_first : get middle q ≡ cond (eq_by_cmp (slice_cmp nat_cmp) q name) (Some out) (get before q) = ap (λ m. get m q) opened ∙ get-insert nat_list_cmp_total before name out q in
    let at_last : get after q ≡ cond (eq_by_cmp (slice_cmp nat_cmp) q name) (Some file) (get middle q) = ap (λ m. get m q) back ∙ get-insert nat_list_cmp_total middle name file q in
    subst IsNotAway (sym (at_last ∙ ap (cond (eq_by_cmp (slice_cmp nat_cmp) q name) (Some file)) at_first))
    (elim (eq_by_cmp (slice_cmp nat_cmp) q name) as (λ b. IsNotAway (cond b (Some file) (cond b (Some out) (get before q)))) [ true ↦ is | false ↦ home q ])

-- at any refusal the files may be kept
pub leaves_kept : (Kept Closed : Type 0) (fault : OpenStoreFault) → Kept → RefusalLeaves Kept Closed fault
leaves_kept Kept Closed (BadGeometry field) kept = kept
leaves_kept Kept Closed Missing kept = kept
leaves_kept Kept Closed (Small bytes) kept = kept
leaves_kept Kept Closed Failed kept = inl kept
leaves_kept Kept Closed Memory kept = inl kept

-- where serving was refused, the store was closed
pub leaves_closed : (Kept Closed : Type 0) (before after : ℕ) (fault : OpenStoreFault) → ServingEnds before after fault → Closed → RefusalLeaves Kept Closed fault
leaves_closed Kept Closed before after (BadGeometry field) h closed = absurd h
leaves_closed Kept Closed before after Missing h closed = absurd h
leaves_closed Kept Closed before after (Small bytes) h closed = absurd h
leaves_closed Kept Closed before after Failed h closed = inr closed
leaves_closed Kept Closed before after Memory h closed = inr closed
