-- The stations of a benchmark, where its file was made, and where it was not.
use Rattle.std.proofs.Common.{List, [], ap, arith, inl, inr, length, length-append, refl, sym, ◌++◌, ◌∙◌, ◌∷◌, ◌≡◌, ℕ}
use Rattle.rock_disk.specs.Counts.{Counts, EachEnded, NoneFailed}
use Rattle.rock_run.specs.Device.{RunEnded, RunUnfailed}
use Rattle.bench_command.specs.Stations.{BenchUnfailed, made_counts}

-- a list that grew is not as it was
grew : (before : List ℕ) (count : ℕ) (others : List ℕ) → before ≡ before ++ count ∷ others → ⊥
grew before count others e =
    let longer : length before ≡ length (before ++ count ∷ others) = ap length e in
    omega (arith, longer, length-append before (count ∷ others))

-- what stands behind a list is one
behind : (before one other : List ℕ) → before ++ one ≡ before ++ other → one ≡ other
behind [] one other e = e
behind (x ∷ before) one other e = let rest : before ++ one ≡ before ++ other = cc in behind before one other rest

append_of_more : (before : List ℕ) (a : ℕ) (more : List ℕ) → (before ++ a ∷ []) ++ more ≡ before ++ a ∷ more
append_of_more [] a more = refl
append_of_more (x ∷ before) a more = ap (λ (l : List ℕ). x ∷ l) (append_of_more before a more)

first_of : {a b : ℕ} {more others : List ℕ} → a ∷ more ≡ b ∷ others → b ≡ a
first_of e = cc

-- where the file was not made, and neither the volume nor the station of the header area failed
pub header_kept : (before after : Counts) → EachEnded before after → NoneFailed before after → BenchUnfailed before after
header_kept before after (inl none) kept = record {
  faults = kept.faults;
  header = λ count others is. absurd (grew before.ended count others (sym none.ended ∙ is));
  rebuild = record {
    faults = kept.faults;
    station = λ rebuild workers ended. let made = ended.made in let same = none.made in absurd (omega (arith, made, same));
  };
}
header_kept before after (inr one) kept = record {
  faults = kept.faults;
  header = λ count others is. first_of (behind before.ended (one.0 ∷ []) (count ∷ others) (sym one.1.ended ∙ is)) ∙ kept.station one.0 one.1;
  rebuild = record {
    faults = kept.faults;
    station = λ rebuild workers ended. let made = ended.made in let first = one.1.made in absurd (omega (arith, made, first));
  };
}

first_none : (before after : Counts) → RunEnded (made_counts before) after → (count : ℕ) (others : List ℕ) → after.ended ≡ before.ended ++ count ∷ others → count ≡ 0
first_none before after (inl none) count others is = first_of (behind before.ended (0 ∷ []) (count ∷ others) (sym none.ended ∙ is))
first_none before after (inr ended) count others is =
    first_of (behind before.ended (0 ∷ ended.0 ∷ ended.1) (count ∷ others) (sym (append_of_more before.ended 0 (ended.0 ∷ ended.1)) ∙ (sym ended.2.ended ∙ is)))

-- where the run did not
pub run_kept : (before after : Counts) → RunEnded (made_counts before) after → RunUnfailed (made_counts before) after → BenchUnfailed before after
run_kept before after ended none = record { faults = none.faults; header = first_none before after ended; rebuild = none }
