-- Calls on the passes of some files, one file after the other.
use Rattle.std.proofs.Common.{arith, inl, inr, refl, subst, sym, ◌+◌, ◌<◌, ◌≡◌, ◌≢◌, ◌≤◌, ◌⊎◌, ◌∙◌, ℕ}
use Rattle.std.proofs.lemmas.Option.{slice_get_within}
use Rattle.std.specs.Prelude.{slice_get}
use Rattle.store_rule.specs.declared.store.Pass.{Pass}
use Rattle.store_rule.specs.declared.store.Store.{Store}
use Rattle.dir_set.specs.declared.dirs.DirPass.{DirPass}
use Rattle.dir_set.specs.declared.dirs.Dirs.{Dirs}
use Rattle.dir_set.proofs.OneFile.{is_or_not}
use Rattle.dir_set.specs.Dirs.{AtDir, AtPass, OnlyDir, PassesMove, dir_count}

-- of the files from one number up to another this holds, and the pass of each other one is as it was
pub record Ranges {C O : Type 0} (dirs : Dirs C O) (a b : DirPass C) (R : ℕ → Store C O → (p q : Pass C) → Type 0) (from to : ℕ) : Type 0 where
  pub moves : PassesMove a b
  pub done : (d : ℕ) → from ≤ d → d < to → AtDir dirs a b d (R d)
  pub else : (d : ℕ) → (d < from) ⊎ (to ≤ d) → slice_get b.passes.items d ≡ slice_get a.passes.items d

module _ {C O : Type 0} (dirs : Dirs C O) (R : ℕ → Store C O → (p q : Pass C) → Type 0) (from : ℕ) (a : DirPass C) where
  pub none_yet : Ranges dirs a a R from from
  none_yet = record {
    moves = record { many = refl; hand = refl; tabs = refl };
    done = λ d le lt. absurd (omega arith);
    else = λ d out. refl;
  }

  module _ (b : DirPass C) (n : ℕ) (le : from ≤ n) (r : Ranges dirs a b R from n) (c : DirPass C) (only : OnlyDir n b c) (at : AtDir dirs b c n (R n)) where
    each : (d : ℕ) → from ≤ d → d < n + 1 → ((d ≡ n) ⊎ (d ≢ n)) → AtDir dirs a c d (R d)
    each d above below (inl e) = subst (λ (k : ℕ). AtDir dirs a c k (R k)) (sym e) (λ s p q es ep eq. at s p q es (r.else n (inr (omega arith)) ∙ ep) eq)
    each d above below (inr ne) = λ s p q es ep eq. r.done d above (omega arith) s p q es ep (sym (only.others d ne) ∙ eq)

    pub one_more_dir : Ranges dirs a c R from (n + 1)
    one_more_dir = record {
      moves = record { many = only.moves.many ∙ r.moves.many; hand = only.moves.hand ∙ r.moves.hand; tabs = only.moves.tabs ∙ r.moves.tabs };
      done = λ d above below. each d above below (is_or_not d n);
      else = λ d out. only.others d (apart d out) ∙ r.else d (still d out);
    }
      where
        apart : (d : ℕ) → (d < from) ⊎ (n + 1 ≤ d) → d ≢ n
        apart d (inl lt) = omega arith
        apart d (inr lt) = omega arith

        still : (d : ℕ) → (d < from) ⊎ (n + 1 ≤ d) → (d < from) ⊎ (n ≤ d)
        still d (inl lt) = inl lt
        still d (inr lt) = inr (omega arith)

module _ {C O : Type 0} (dirs : Dirs C O) (a b : DirPass C) (from to : ℕ) where
  pub also : (R Q : ℕ → Store C O → (p q : Pass C) → Type 0) → Ranges dirs a b R from to → ((d : ℕ) → from ≤ d → d < to → (s : Store C O) (p q : Pass C) → R d s p q → Q d s p q) → Ranges dirs a b Q from to
  also R Q r so = record { moves = r.moves; done = λ d above below s p q es ep eq. so d above below s p q (r.done d above below s p q es ep eq); else = r.else }

  -- where they are all files
  pub all_dirs : (R : ℕ → Store C O → (p q : Pass C) → Type 0) → Ranges dirs a b R 0 to → dir_count dirs ≤ to → (d : ℕ) → AtDir dirs a b d (R d)
  all_dirs R r le d s p q es ep eq = r.done d (omega arith) (let lt = slice_get_within dirs.stores.items d s es in omega arith) s p q es ep eq

-- what holds of a file that was not asked yet
pub untouched : {C O : Type 0} (dirs : Dirs C O) (a b : DirPass C) (R : ℕ → Store C O → (p q : Pass C) → Type 0) (from n : ℕ) → Ranges dirs a b R from n → (M : Store C O → Pass C → Type 0) → AtPass dirs a n M → AtPass dirs b n M
untouched dirs a b R from n r M h s p es ep = h s p es (sym (r.else n (inr (omega arith))) ∙ ep)

-- eight calls, one for each file that there may be
module _ {C O : Type 0} (dirs : Dirs C O) (R : ℕ → Store C O → (p q : Pass C) → Type 0) where
  abbrev pub Call : (d : ℕ) (a b : DirPass C) → Type 0
  Call d a b = OnlyDir d a b × AtDir dirs a b d (R d)

  pub eight_dirs : (p0 p1 p2 p3 p4 p5 p6 p7 p8 : DirPass C) → Call 0 p0 p1 → Call 1 p1 p2 → Call 2 p2 p3 → Call 3 p3 p4 → Call 4 p4 p5 → Call 5 p5 p6 → Call 6 p6 p7 → Call 7 p7 p8 → Ranges dirs p0 p8 R 0 8
  eight_dirs p0 p1 p2 p3 p4 p5 p6 p7 p8 c0 c1 c2 c3 c4 c5 c6 c7 =
      let r1 = one_more_dir dirs R 0 p0 p0 0 (omega arith) (none_yet dirs R 0 p0) p1 c0.0 c0.1 in
      let r2 = one_more_dir dirs R 0 p0 p1 1 (omega arith) r1 p2 c1.0 c1.1 in
      let r3 = one_more_dir dirs R 0 p0 p2 2 (omega arith) r2 p3 c2.0 c2.1 in
      let r4 = one_more_dir dirs R 0 p0 p3 3 (omega arith) r3 p4 c3.0 c3.1 in
      let r5 = one_more_dir dirs R 0 p0 p4 4 (omega arith) r4 p5 c4.0 c4.1 in
      let r6 = one_more_dir dirs R 0 p0 p5 5 (omega arith) r5 p6 c5.0 c5.1 in
      let r7 = one_more_dir dirs R 0 p0 p6 6 (omega arith) r6 p7 c6.0 c6.1 in
      one_more_dir dirs R 0 p0 p7 7 (omega arith) r7 p8 c7.0 c7.1
