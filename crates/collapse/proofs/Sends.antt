-- What a sink took, piece by piece.
use Rattle.std.proofs.Common.{Bool, List, [], ap, arith, length, length-append, sym, take, ◌++◌, ◌+◌, ◌≡◌, ◌≤◌, ◌∙◌, ℕ}
use Rattle.std.proofs.Math.Seq.{take-append-add}
use Rattle.std.proofs.lemmas.List.{append-nil, append_assoc, take-append-le}
use Rattle.collapse.specs.Sending.{Sends, SendsAtLeast, SendsFront}

module _ (tells : Bool) where
  pub sends_none : (old : List ℕ) → Sends tells old old []
  sends_none old told = sym (append-nil old)

  pub sends_on : (a b c bytes more : List ℕ) → Sends tells a b bytes → Sends tells b c more → Sends tells a c (bytes ++ more)
  sends_on a b c bytes more h k told = k told ∙ ap (λ z. z ++ more) (h told) ∙ append_assoc a bytes more

  -- what was sent is all that there was
  pub sends_all : (a b bytes left rest : List ℕ) → Sends tells a b bytes → rest ≡ bytes ++ left → left ≡ [] → Sends tells a b rest
  sends_all a b bytes left rest h is none told = h told ∙ ap (λ z. a ++ z) (sym (is ∙ ap (λ z. bytes ++ z) none ∙ append-nil bytes))

  -- a first part of a piece was taken behind others
  pub front_on : (a b c bytes piece left rest : List ℕ) → Sends tells a b bytes → SendsFront tells b c piece → rest ≡ bytes ++ (piece ++ left) → SendsFront tells a c rest
  front_on a b c bytes piece left rest h k is told = let n = (k told).0 in let fits = (k told).1 in let more = (k told).2 in (
    length bytes + n,
    let l = ap length is in let m = length-append bytes (piece ++ left) in let o = length-append piece left in omega (arith, fits, l, m, o),
    more ∙ ap (λ z. z ++ take n piece) (h told) ∙ append_assoc a bytes (take n piece)
        ∙ ap (λ z. a ++ z) (sym (ap (take (length bytes + n)) is ∙ take-append-add bytes (piece ++ left) n ∙ ap (λ z. bytes ++ z) (take-append-le n piece left fits))),
  )

  pub front_none : (b : List ℕ) → SendsFront tells b b []
  front_none b told = (0, omega arith, sym (append-nil b))

  -- what was sent is a first part of all
  pub front_here : (a b bytes left rest : List ℕ) → Sends tells a b bytes → rest ≡ bytes ++ left → SendsFront tells a b rest
  front_here a b bytes left rest h is = front_on a b b bytes [] left rest h (front_none b) is

  pub front_all : (a b bytes : List ℕ) → Sends tells a b bytes → SendsFront tells a b bytes
  front_all a b bytes h = front_here a b bytes [] bytes h (sym (append-nil bytes))

  -- a first part of the last piece was
  pub front_piece : (a b c bytes piece : List ℕ) → Sends tells a b bytes → SendsFront tells b c piece → SendsFront tells a c (bytes ++ piece)
  front_piece a b c bytes piece h k = front_on a b c bytes piece [] (bytes ++ piece) h k (ap (λ z. bytes ++ z) (sym (append-nil piece)))

  -- a first part has all that was sent before
  pub least_on : (a b c bytes piece left rest : List ℕ) → Sends tells a b bytes → SendsFront tells b c piece → rest ≡ bytes ++ (piece ++ left) → SendsAtLeast tells a c rest (length bytes)
  unfolding front_on
  least_on a b c bytes piece left rest h k is told = (length bytes + (k told).0, omega arith, (front_on a b c bytes piece left rest h k is told).1, (front_on a b c bytes piece left rest h k is told).2)

  pub least_here : (a b bytes left rest : List ℕ) → Sends tells a b bytes → rest ≡ bytes ++ left → SendsAtLeast tells a b rest (length bytes)
  least_here a b bytes left rest h is = least_on a b b bytes [] left rest h (front_none b) is

  pub front_of : (a b bytes : List ℕ) (least : ℕ) → SendsAtLeast tells a b bytes least → SendsFront tells a b bytes
  front_of a b bytes least h told = ((h told).0, (h told).2, (h told).3)
