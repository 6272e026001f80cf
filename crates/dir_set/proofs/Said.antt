-- The answers of files that were asked one after the other, each at its place in a list.
use Rattle.std.proofs.Common.{Bool, List, None, Option, Some, [], arith, length, refl, set, subst, suc, sym, zero, ◌∷◌, ◌+◌, ◌<◌, ◌≡◌, ◌≢◌, ◌≤◌, ◌∙◌, ℕ}
use Rattle.std.proofs.lemmas.List.{get_or-set_other, get_or-set_same}
use Rattle.store_rule.specs.declared.store.Pass.{Pass}
use Rattle.store_rule.specs.declared.store.Store.{Store}
use Rattle.core_model.specs.Tabs.{inner}
use Rattle.lock_word.specs.declared.cause.Cause.{Cause}
use Rattle.lock_word.specs.declared.epoch.Epoch.{Epoch}
use Rattle.rock_disk.specs.Cell.{CellState}
use Rattle.store_rule.specs.Ground.{Offers}
use Rattle.dir_set.specs.Answers.{PurgeSays, PurgedBy, RefusedBy}
use Rattle.dir_set.specs.declared.dirs.DirPass.{DirPass}
use Rattle.dir_set.specs.declared.dirs.Dirs.{Dirs}
use Rattle.dir_set.specs.Dirs.{AtDir, OnlyDir, NoneBehind, answer_at}
use Rattle.dir_set.proofs.Range.{Ranges, also, one_more_dir}

module _ {T : Type 0} (xs : List (Option T)) (d : ℕ) (x : Option T) where
  pub answer_here : d < length xs → answer_at (set xs d x) d ≡ x
  answer_here lt = get_or-set_same xs d x None lt

  pub answer_beside : (j : ℕ) → j ≢ d → answer_at (set xs d x) j ≡ answer_at xs j
  answer_beside j ne = get_or-set_other xs d j x None ne

  pub none_behind : (n : ℕ) → d < n → NoneBehind n xs → NoneBehind n (set xs d x)
  none_behind n lt none j le = answer_beside j (omega arith) ∙ none j le

pub answer_past : {T : Type 0} (xs : List (Option T)) (d : ℕ) → length xs ≤ d → answer_at xs d ≡ None
answer_past [] d le = refl
answer_past (x ∷ xs) zero le = absurd (omega arith)
answer_past (x ∷ xs) (suc d) le = answer_past xs d (omega arith)

module _ {C O T : Type 0} (dirs : Dirs C O) (B : T → Store C O → (p q : Pass C) → Type 0) where
  abbrev pub Said : List (Option T) → ℕ → Store C O → (p q : Pass C) → Type 0
  Said xs d s p q = (x : T) × (answer_at xs d ≡ Some x) × B x s p q

  pub said_on : (from n : ℕ) → from ≤ n → (a b c : DirPass C) (xs : List (Option T)) (x : T) → n < length xs → Ranges dirs a b (Said xs) from n → OnlyDir n b c → AtDir dirs b c n (B x) → Ranges dirs a c (Said (set xs n (Some x))) from (n + 1)
  said_on from n le a b c xs x lt r only at = one_more_dir dirs (Said (set xs n (Some x))) from a b n le
      (also dirs a b from n (Said xs) (Said (set xs n (Some x))) r (λ d above below s p q h. (h.0, answer_beside xs n (Some x) d (omega arith) ∙ h.1, h.2))) c only
      (λ s p q es ep eq. (x, answer_here xs n (Some x) lt, at s p q es ep eq))

module _ {C O : Type 0} (tells : Bool) (state : C → CellState) (offers : O → Offers) (url : List ℕ) where
  -- what a purge answered, put at its place
  module _ (s : Store C O) (p q : Pass C) (left : List (Option Epoch)) (causes : List (Option Cause)) (d : ℕ) where
    pub says_left : (e : Epoch) → d < length left → answer_at causes d ≡ None → PurgedBy tells state offers url s p q e → PurgeSays tells state offers url s p q (answer_at (set left d (Some e)) d) (answer_at causes d)
    says_left e lt none h = subst (λ (x : Option Epoch). PurgeSays tells state offers url s p q x (answer_at causes d)) (sym (answer_here left d (Some e) lt))
        (subst (λ (y : Option Cause). PurgeSays tells state offers url s p q (Some e) y) (sym none) h)

    pub says_cause : (cause : Cause) → d < length causes → answer_at left d ≡ None → RefusedBy tells state offers inner url s p q cause → PurgeSays tells state offers url s p q (answer_at left d) (answer_at (set causes d (Some cause)) d)
    says_cause cause lt none h = subst (λ (y : Option Cause). PurgeSays tells state offers url s p q (answer_at left d) y) (sym (answer_here causes d (Some cause) lt))
        (subst (λ (x : Option Epoch). PurgeSays tells state offers url s p q x (Some cause)) (sym none) h)

  abbrev pub Purges : List (Option Epoch) → List (Option Cause) → ℕ → Store C O → (p q : Pass C) → Type 0
  Purges left causes d s p q = PurgeSays tells state offers url s p q (answer_at left d) (answer_at causes d)

  pub purges_on : (dirs : Dirs C O) (a b c : DirPass C) (n : ℕ) (left later : List (Option Epoch)) (causes others : List (Option Cause)) → Ranges dirs a b (Purges left causes) 0 n
      → ((d : ℕ) → d ≢ n → (answer_at later d ≡ answer_at left d) × (answer_at others d ≡ answer_at causes d)) → OnlyDir n b c → AtDir dirs b c n (Purges later others n) → Ranges dirs a c (Purges later others) 0 (n + 1)
  purges_on dirs a b c n left later causes others r beside only at = one_more_dir dirs (Purges later others) 0 a b n (omega arith)
      (also dirs a b 0 n (Purges left causes) (Purges later others) r (λ d above below s p q h. let e = beside d (omega arith) in
      subst (λ (x : Option Epoch). PurgeSays tells state offers url s p q x (answer_at others d)) (sym e.0)
      (subst (λ (y : Option Cause). PurgeSays tells state offers url s p q (answer_at left d) y) (sym e.1) h))) c only at
