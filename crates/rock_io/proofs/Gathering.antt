-- Lines that are gathered one behind the other, and what a sink has taken of them.
use Rattle.std.proofs.Common.{List, [], ap, append_assoc, arith, length, length-append, subst, sym, take, ◌+◌, ◌++◌, ◌-◌, ◌≡◌, ◌∙◌, ℕ}
use Rattle.std.proofs.Math.Seq.{take-append-add}
use Rattle.std.proofs.lemmas.List.{append-nil, take-append-le}
use Rattle.std.specs.Prelude.{Err, Ok, OnErr, Result}
use Rattle.rock_io.specs.Sink.{TakesPrefix}
use Rattle.rock_io.specs.LineBuffer.{Puts, Stops}

-- no text was put yet
pub puts_none : (taken held : List ℕ) → Puts [] taken held taken held
puts_none taken held = record { all = sym (append-nil (taken ++ held)); grows = omega arith }

puts_then : (a b taken held taken1 held1 taken2 held2 : List ℕ) → Puts a taken held taken1 held1 → Puts b taken1 held1 taken2 held2 → Puts (a ++ b) taken held taken2 held2
puts_then a b taken held taken1 held1 taken2 held2 p q = record {
  all = q.all ∙ ap (λ z. z ++ b) p.all ∙ append_assoc (taken ++ held) a b;
  grows = omega (arith, p.grows, q.grows);
}

-- a text was put behind what is held
pub puts_held : (text taken held taken1 held1 held2 : List ℕ) → Puts [] taken held taken1 held1 → held2 ≡ held1 ++ text → Puts text taken held taken1 held2
puts_held text taken held taken1 held1 held2 p e = record {
  all = ap (λ z. taken1 ++ z) e ∙ sym (append_assoc taken1 held1 text) ∙ ap (λ z. z ++ text) (p.all ∙ append-nil (taken ++ held));
  grows = p.grows;
}

-- a first part of what comes behind a text that was put makes a first part of both
pub stops_behind : (a b taken held taken1 held1 taken2 : List ℕ) → Puts a taken held taken1 held1 → Stops b taken1 held1 taken2 → Stops (a ++ b) taken held taken2
stops_behind a b taken held taken1 held1 taken2 p t =
    let n = t.0 in
    let k = (length taken1 + n) - length taken in
    let seam : length taken1 + n ≡ length taken + k = omega (arith, p.grows) in
    let whole : taken1 ++ (held1 ++ b) ≡ taken ++ (held ++ (a ++ b)) =
    sym (append_assoc taken1 held1 b) ∙ ap (λ z. z ++ b) p.all ∙ append_assoc (taken ++ held) a b ∙ append_assoc taken held (a ++ b) in
    let lengths = ap length whole in
    let left = length-append taken1 (held1 ++ b) in
    let right = length-append taken (held ++ (a ++ b)) in (
      k,
      omega (arith, t.1, lengths, left, right, p.grows),
      t.2 ∙ sym (take-append-add taken1 (held1 ++ b) n) ∙ ap (take (length taken1 + n)) whole ∙ ap (λ m. take m (taken ++ (held ++ (a ++ b)))) seam ∙ take-append-add taken (held ++ (a ++ b)) k,
    )

-- a first part of what was held is one of that and of what comes behind it
pub stops_held : (text taken held taken1 : List ℕ) → TakesPrefix taken taken1 held → Stops text taken held taken1
stops_held text taken held taken1 t = (t.0, let l = length-append held text in omega (arith, t.1, l), t.2 ∙ ap (λ z. taken ++ z) (sym (take-append-le t.0 held text t.1)))

stops_first : (a b taken held taken1 : List ℕ) → Stops a taken held taken1 → Stops (a ++ b) taken held taken1
stops_first a b taken held taken1 t = (
  t.0,
  let l = length-append (held ++ a) b in let m = append_assoc held a b in let e = ap length m in omega (arith, t.1, l, e),
  t.2 ∙ ap (λ z. taken ++ z) (sym (take-append-le t.0 (held ++ a) b t.1) ∙ ap (take t.0) (append_assoc held a b)),
)

-- what was put so far is a first part of all
pub stops_here : (a b taken held taken1 held1 : List ℕ) → Puts a taken held taken1 held1 → Stops (a ++ b) taken held taken1
stops_here a b taken held taken1 held1 p = stops_behind a b taken held taken1 held1 taken1 p (stops_held b taken1 held1 taken1 (0, omega arith, sym (append-nil taken1)))

-- what an outcome tells
pub at_err : {T E A : Type 0} (r : Result T E) → A → OnErr r A
at_err (Ok x) told = tt
at_err (Err e) told = told

-- Of a text the first part was put, and what comes behind it, or a first part of that.
module _ (text done line rest taken held taken1 held1 : List ℕ) (whole : text ≡ done ++ (line ++ rest)) (put : Puts done taken held taken1 held1) where
  pub put_next : (taken2 held2 : List ℕ) → Puts line taken1 held1 taken2 held2 → Puts (done ++ line) taken held taken2 held2
  put_next taken2 held2 q = puts_then done line taken held taken1 held1 taken2 held2 put q

  pub put_short : (taken2 : List ℕ) → Stops line taken1 held1 taken2 → Stops text taken held taken2
  put_short taken2 q = subst (λ (z : List ℕ). Stops z taken held taken2) (sym whole) (stops_behind done (line ++ rest) taken held taken1 held1 taken2 put (stops_first line rest taken1 held1 taken2 q))

-- All was put, and what was held is written, or a first part of it.
pub written_first : (text taken held taken1 held1 taken2 : List ℕ) → held ≡ [] → Puts text taken held taken1 held1 → TakesPrefix taken1 taken2 held1 → TakesPrefix taken taken2 text
written_first text taken held taken1 held1 taken2 none p t =
    subst (λ (z : List ℕ). TakesPrefix taken taken2 z) (ap (λ z. z ++ (text ++ [])) none ∙ append-nil text)
    (stops_behind text [] taken held taken1 held1 taken2 p (subst (λ (z : List ℕ). TakesPrefix taken1 taken2 z) (sym (append-nil held1)) t))

pub written_all : (text taken held taken1 held1 taken2 : List ℕ) → held ≡ [] → Puts text taken held taken1 held1 → taken2 ≡ taken1 ++ held1 → taken2 ≡ taken ++ text
written_all text taken held taken1 held1 taken2 none p e = e ∙ p.all ∙ ap (λ z. (taken ++ z) ++ text) none ∙ ap (λ z. z ++ text) (append-nil taken)
