-- Each answer is of one kind.
use Rattle.std.proofs.Common.{◌≡◌, ℕ, ◌+◌, List, [], ◌∷◌, length, arith, refl, cond, Bool}
use Rattle.std.proofs.lemmas.List.Sums.{sum_by-cons}
use Rattle.script_text.specs.declared.answer.Answer.{Answer}
use Rattle.workload.specs.declared.kind.Kind.{Kind}
use Rattle.workload.specs.declared.kind.Kind.TheVariants.{Hit, Miss, Stored, Purged, NoEntry, Other}
use Rattle.workload.specs.Kinds.{kind_of, is_same, is_of}
use Rattle.workload.specs.Counts.{count_of}

one : Bool → ℕ
one b = cond b 1 0

cons_counts : (kind : Kind) (x : Answer) (xs : List Answer) → count_of kind (x ∷ xs) ≡ one (is_same (kind_of x) kind) + count_of kind xs
unfolding one
cons_counts kind x xs = sum_by-cons (λ a. cond (is_of kind a) 1 0) x xs

each_one : (k : Kind) → one (is_same k Hit) + one (is_same k Miss) + one (is_same k Stored) + one (is_same k Purged) + one (is_same k NoEntry) + one (is_same k Other) ≡ 1
unfolding one
each_one Hit = refl
each_one Miss = refl
each_one Stored = refl
each_one Purged = refl
each_one NoEntry = refl
each_one Other = refl

pub whole : (xs : List Answer) → length xs ≡ count_of Hit xs + count_of Miss xs + count_of Stored xs + count_of Purged xs + count_of NoEntry xs + count_of Other xs
whole [] = refl
whole (x ∷ xs) =
    let rest = whole xs in
    omega (arith, rest, each_one (kind_of x), cons_counts Hit x xs, cons_counts Miss x xs, cons_counts Stored x xs, cons_counts Purged x xs, cons_counts NoEntry x xs, cons_counts Other x xs)
