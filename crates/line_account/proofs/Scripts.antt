-- Workers offer no more bodies than the lines of their script do.
use Rattle.std.proofs.Common.{◌≡◌, ℕ, ◌+◌, ◌<◌, ◌≤◌, suc, List, [], ◌∷◌, sym, refl, ap, ◌∙◌, arith, Bool, true, false, cond, sum_by}
use Rattle.std.specs.Prelude.{count_by, nat_lt, ◌&&◌, ◌==◌}
use Rattle.std.specs.List.{filter}
use Rattle.std.proofs.lemmas.Bool.Decides.{nat_tests}
use Rattle.std.proofs.lemmas.List.Sums.{sum_by-cons, sum_by_push}
use mathlib.Core.Option.{some}
use lib.ListN.{get_elem?}
use Rattle.script_text.specs.declared.line.Line.{Line}
use Rattle.line_account.specs.Lines.{Served, offers}
use Rattle.line_account.specs.Courses.{one_if}
use Rattle.line_account.specs.Closing.{BegunIn, Closed, LineIn, Worker, offered, offered_by}
use Rattle.line_account.specs.Answers.{Run}
use Rattle.line_account.proofs.Versions.{bounded}
use Rattle.line_account.proofs.Printing.{spent_bounds}
use Rattle.core_model.specs.Anchors.{opening_counter}
use Rattle.script_text.specs.declared.answer.Answer.TheVariants as answer
use Rattle.line_account.specs.Scripts.{ServesScript, in_order, offering}

abbrev offer_of : Line → Bool
offer_of l = offers l.request

count_first : {A : Type 0} → (p : A → Bool) (x : A) (xs : List A) → count_by p (x ∷ xs) ≡ one_if (p x) + count_by p xs
count_first p x xs = sum_by-cons (λ y. one_if (p y)) x xs

-- lines and served lines offer alike
served_offer : (served : List Served) → count_by offer_of (in_order served) ≡ count_by (λ (s : Served). offers s.asked.request) served
served_offer [] = refl
served_offer (s ∷ earlier) =
    let a = sum_by_push (λ (l : Line). one_if (offer_of l)) (in_order earlier) s.asked in
    let b = count_first (λ (z : Served). offers z.asked.request) s earlier in
    let h = served_offer earlier in
    omega arith

count_filtered : (q p : Line → Bool) (lines : List Line) → count_by p (filter q lines) ≡ count_by (λ l. q l && p l) lines
count_filtered q p [] = refl
count_filtered q p (l ∷ lines) = by_test (q l) refl (count_filtered q p lines)
  where
    by_test : (b : Bool) → b ≡ q l → count_by p (filter q lines) ≡ count_by (λ x. q x && p x) lines → count_by p (cond b (l ∷ filter q lines) (filter q lines)) ≡ count_by (λ x. q x && p x) (l ∷ lines)
    by_test true e h = let c = count_first (λ (x : Line). q x && p x) l lines in let d = count_first p l (filter q lines) in let k : one_if (q l && p l) ≡ one_if (p l) = ap (λ z. one_if (z && p l)) (sym e) in omega arith
    by_test false e h = let c = count_first (λ (x : Line). q x && p x) l lines in let k : one_if (q l && p l) ≡ 0 = ap (λ z. one_if (z && p l)) (sym e) in omega arith

-- the lines of worker k that offer a body, and those of later workers
abbrev at : ℕ → Line → Bool
at k l = (l.worker == k) && offer_of l

abbrev above : ℕ → Line → Bool
above k l = nat_lt k l.worker && offer_of l

one_line : (w k : ℕ) (o : Bool) → one_if ((w == k + 1) && o) + one_if (nat_lt (k + 1) w && o) ≡ one_if (nat_lt k w && o)
one_line w k true = grind (arith, nat_tests)
one_line w k false = grind (arith, nat_tests)

one_worker : (k : ℕ) (lines : List Line) → count_by (at (k + 1)) lines + count_by (above (k + 1)) lines ≡ count_by (above k) lines
one_worker k [] = omega arith
one_worker k (l ∷ lines) =
    let a = count_first (at (k + 1)) l lines in
    let b = count_first (above (k + 1)) l lines in
    let c = count_first (above k) l lines in
    let h = one_worker k lines in
    let e = one_line l.worker k (offer_of l) in
    omega arith

least_one : (w k : ℕ) (o : Bool) → one_if (nat_lt k w && o) ≤ one_if o
least_one w k true = grind (arith, nat_tests)
least_one w k false = grind (arith, nat_tests)

all_of : (k : ℕ) (lines : List Line) → count_by (above k) lines ≤ count_by offer_of lines
all_of k [] = omega arith
all_of k (l ∷ lines) =
    let a = count_first (above k) l lines in
    let b = count_first offer_of l lines in
    let h = all_of k lines in
    let e = least_one l.worker k (offer_of l) in
    omega arith

module _ (lines : List Line) where
  from : (k : ℕ) (ws : List Worker) → ((i : ℕ) (w : Worker) → get_elem? ws i ≡ some w → in_order w.served ≡ filter (λ l. l.worker == k + i + 1) lines) → sum_by offered_by ws ≤ count_by (above k) lines
  from k [] h = omega arith
  from k (w ∷ ws) h =
      let c = sum_by-cons offered_by w ws in
      let mine : offered_by w ≡ count_by (at (k + 0 + 1)) lines = sym (served_offer w.served) ∙ ap (count_by offer_of) (h 0 w refl) ∙ count_filtered (λ l. l.worker == k + 0 + 1) offer_of lines in
      let here : count_by (at (k + 0 + 1)) lines ≡ count_by (at (k + 1)) lines = ap (λ n. count_by (at n) lines) (omega arith) in
      let r = from (k + 1) ws (λ i x e. h (suc i) x e ∙ ap (λ n. filter (λ l. l.worker == n) lines) (omega arith)) in
      let split = one_worker k lines in
      omega arith

  pub offered_within : (crew : List Worker) → ServesScript lines crew → offered crew ≤ offering lines
  offered_within crew h =
      let f = from 0 crew (λ i w e. h i w e ∙ ap (λ n. filter (λ l. l.worker == n) lines) (omega arith)) in
      let a = all_of 0 lines in
      omega arith

module _ {X : Type 0} (r : Run X) (lines : List Line) (crew : List Worker) (c : Closed r crew) (h : ServesScript lines crew) where
  pub version_within : (a x : ℕ) → BegunIn r crew a x → x ≤ opening_counter r.setting + offering lines
  version_within a x p = let b = bounded r crew c a x p in let m = b.1 in let o = offered_within lines crew h in omega arith

  pub spent_within : (n : ℕ) → LineIn crew (λ earlier s. s.answer ≡ answer.Spent n) → n < opening_counter r.setting + offering lines
  spent_within n p = let b = spent_bounds r crew c n p in let m = b.1 in let o = offered_within lines crew h in omega arith
