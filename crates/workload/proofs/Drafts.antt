-- A draft, one turn further.
use Rattle.std.proofs.Common.{◌≡◌, ℕ, suc, ◌+◌, ◌*◌, ◌/◌, ◌^◌, List, [], ◌∷◌, ◌++◌, map, length, refl, arith, sym, ap, ◌∙◌, subst}
use Rattle.std.specs.List.{enumerate_from}
use Rattle.std.proofs.lemmas.List.{map-append, length_push, length-map}
use Rattle.std.proofs.lemmas.List.FromFn.{length-enumerate_from}
use Rattle.script_text.specs.declared.line.Line.{Line}
use Rattle.script_text.specs.declared.request.Request.{Request}
use Rattle.workload.specs.declared.shares.Share.{Share}
use Rattle.workload.specs.declared.script.Draft.{Draft}
use Rattle.workload.specs.Numbers.{next, number_at, drawn}
use Rattle.workload.specs.Requests.{request_of}
use Rattle.workload.specs.Script.{line_of, lines_of, IsDraft}
use Rattle.workload.proofs.Drawing.{number_more, half_drawn}

abbrev placed : Share → ℕ → List (ℕ × Share)
placed share n = (n, share) ∷ []

abbrev behind : ℕ → Share → List (ℕ × Share) → List (ℕ × Share)
behind n share rest = (n, share) ∷ rest

enumerate_push : (n : ℕ) (xs : List Share) (x : Share) → enumerate_from n (xs ++ x ∷ []) ≡ enumerate_from n xs ++ placed x (n + length xs)
enumerate_push n [] x =
    let e : n ≡ n + 0 = omega arith in
    ap (placed x) e
enumerate_push n (y ∷ ys) x =
    let e : n + 1 + length ys ≡ n + suc (length ys) = omega arith in
    ap (behind n y) (enumerate_push (n + 1) ys x ∙ ap (λ (k : ℕ). enumerate_from (n + 1) ys ++ placed x k) e)

lines_more : (seed : ℕ) (turns : List Share) (share : Share) → lines_of seed (turns ++ share ∷ []) ≡ lines_of seed turns ++ line_of seed (length turns) share ∷ []
unfolding lines_of
lines_more seed turns share =
    let e : 0 + length turns ≡ length turns = omega arith in
    ap (map (λ (turn : ℕ × Share). line_of seed turn.0 turn.1)) (enumerate_push 0 turns share ∙ ap (λ (k : ℕ). enumerate_from 0 turns ++ placed share k) e)
    ∙ map-append (λ (turn : ℕ × Share). line_of seed turn.0 turn.1) (enumerate_from 0 turns) (placed share (length turns))

pub length_lines : (seed : ℕ) (turns : List Share) → length (lines_of seed turns) ≡ length turns
unfolding lines_of
length_lines seed turns = length-map (enumerate_from 0 turns) (λ (turn : ℕ × Share). line_of seed turn.0 turn.1) ∙ length-enumerate_from 0 turns

abbrev pub line_with : (worker number : ℕ) → Request → Line
line_with worker number request = record { worker = worker; number = number; request = request }

-- the numbers behind the last one, and the halves of them that were drawn
pub record Draws (last : ℕ) (x y z a b c : ℕ) : Type 0 where
  pub first : x ≡ next last
  pub second : y ≡ next x
  pub third : z ≡ next y
  pub first_half : a ≡ x / 2 ^ 32
  pub second_half : b ≡ y / 2 ^ 32
  pub third_half : c ≡ z / 2 ^ 32

line_drawn : (seed place last x y z a b c : ℕ) (share : Share) → last ≡ number_at seed (3 * place) → Draws last x y z a b c
    → (line_with share.worker (place + 1) (request_of share.urls a b c) ≡ line_of seed place share) × (z ≡ number_at seed (3 * place + 3))
unfolding line_of
line_drawn seed place last x y z a b c share e d =
    let p : x ≡ number_at seed (3 * place + 1) = d.first ∙ number_more seed (3 * place) (3 * place + 1) last refl e in
    let q : y ≡ number_at seed (3 * place + 2) = d.second ∙ number_more seed (3 * place + 1) (3 * place + 2) x (omega arith) p in
    let r : z ≡ number_at seed (3 * place + 3) = d.third ∙ number_more seed (3 * place + 2) (3 * place + 3) y (omega arith) q in
    let u : a ≡ drawn seed (3 * place + 1) = d.first_half ∙ half_drawn seed (3 * place + 1) x p in
    let v : b ≡ drawn seed (3 * place + 2) = d.second_half ∙ half_drawn seed (3 * place + 2) y q in
    let w : c ≡ drawn seed (3 * place + 3) = d.third_half ∙ half_drawn seed (3 * place + 3) z r in (
      ap (λ (n : ℕ). line_with share.worker (place + 1) (request_of share.urls n b c)) u
          ∙ ap (λ (n : ℕ). line_with share.worker (place + 1) (request_of share.urls (drawn seed (3 * place + 1)) n c)) v
          ∙ ap (λ (n : ℕ). line_with share.worker (place + 1) (request_of share.urls (drawn seed (3 * place + 1)) (drawn seed (3 * place + 2)) n)) w,
      r,
    )

pub draft_more : (seed : ℕ) (draft grown : Draft) (turns : List Share) (share : Share) (number x y z a b c : ℕ) (request : Request) → IsDraft seed draft turns
    → Draws draft.last x y z a b c → number ≡ length draft.lines.items + 1 → request ≡ request_of share.urls a b c
    → grown.last ≡ z → grown.lines.items ≡ draft.lines.items ++ line_with share.worker number request ∷ []
    → IsDraft seed grown (turns ++ share ∷ [])
draft_more seed draft grown turns share number x y z a b c request is d n r l m =
    let made = line_drawn seed (length turns) draft.last x y z a b c share is.last d in
    let counted : number ≡ length turns + 1 = n ∙ ap (λ (k : ℕ). k + 1) (ap length is.lines ∙ length_lines seed turns) in
    let place : 3 * length turns + 3 ≡ 3 * length (turns ++ share ∷ []) = omega (arith, length_push turns share) in
    let line : line_with share.worker number request ≡ line_of seed (length turns) share =
    ap (λ (k : ℕ). line_with share.worker k request) counted ∙ ap (λ (k : Request). line_with share.worker (length turns + 1) k) r ∙ made.0 in
    record {
      last = l ∙ made.1 ∙ ap (number_at seed) place;
      lines = m ∙ ap (λ (k : Line). draft.lines.items ++ k ∷ []) line ∙ ap (λ (k : List Line). k ++ line_of seed (length turns) share ∷ []) is.lines
          ∙ sym (lines_more seed turns share);
    }

pub draft_of_same : (seed : ℕ) (draft : Draft) (turns others : List Share) → turns ≡ others → IsDraft seed draft turns → IsDraft seed draft others
draft_of_same seed draft turns others e is = subst (λ (k : List Share). IsDraft seed draft k) e is
