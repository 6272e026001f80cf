-- Cells one after another, and slots that are cut off the front of a file's bytes.
use Rattle.std.proofs.Common.{◌≡◌, ◌+◌, ◌*◌, ◌-◌, ◌<◌, ◌≤◌, ◌++◌, ◌∷◌, [], ℕ, zero, suc, List, length, map, take, drop, get_or, arith, ap, sym, ◌∙◌, length-append}
use Rattle.std.proofs.lemmas.List.{length-map, map-append, get_or-map, append_assoc}
use Rattle.std.proofs.Math.Seq.{take-length}
use Rattle.std.proofs.Math.Nat.{suc-mul}
use Rattle.std.proofs.lemmas.Grind.{common_steps}
use Rattle.rock_disk.specs.Cell.{CellState, joined, settled}
use Rattle.rock_disk.specs.File.{slots_from}

pub joined-take : (cells : List CellState) (i : ℕ) (d : CellState) → i < length cells → joined (take (i + 1) cells) ≡ joined (take i cells) ++ (get_or cells i d).now
joined-take [] i d h = absurd (omega arith)
joined-take (c ∷ cells) zero d h = grind (arith, common_steps)
joined-take (c ∷ cells) (suc i) d h =
    let rest : joined (take (i + 1) cells) ≡ joined (take i cells) ++ (get_or cells i d).now = joined-take cells i d (omega arith) in
    grind (arith, common_steps, rest)

pub joined_step : {C : Type 0} (state : C → CellState) (cells : List C) (i : ℕ) (d : C) → i < length cells
    → joined (take (i + 1) (map state cells)) ≡ joined (take i (map state cells)) ++ (state (get_or cells i d)).now
joined_step state cells i d h =
    let within : i < length (map state cells) = rw (length-map cells state) h in
    joined-take (map state cells) i (state d) within ∙ ap (λ c. joined (take i (map state cells)) ++ c.now) (get_or-map state cells i d (state d) h)

-- one more slot is cut off the front
pub slots_step : (made : List CellState) (number count slot : ℕ) (rest : List ℕ) (all : List CellState) → number < count
    → made ++ slots_from number (count - number) slot rest ≡ all
    → (made ++ settled number slot (take slot rest) ∷ []) ++ slots_from (number + 1) (count - (number + 1)) slot (drop slot rest) ≡ all
slots_step made number count slot rest all h e =
    let k : ℕ = count - (number + 1) in
    let one : count - number ≡ suc k = omega arith in
    append_assoc made (settled number slot (take slot rest) ∷ []) (slots_from (number + 1) k slot (drop slot rest))
    ∙ (ap (λ n. made ++ slots_from number n slot rest) (sym one) ∙ e)

pub length_step : {C : Type 0} (state : C → CellState) (cells : List C) (i : ℕ) (d : C) → i < length cells
    → length (joined (take (i + 1) (map state cells))) ≡ length (joined (take i (map state cells))) + length (state (get_or cells i d)).now
length_step state cells i d h = ap length (joined_step state cells i d h) ∙ length-append _ _

pub joined_all : {C : Type 0} (state : C → CellState) (cells : List C) (i : ℕ) → length cells ≤ i → i ≤ length cells → joined (take i (map state cells)) ≡ joined (map state cells)
joined_all state cells i below above =
    let all : i ≡ length (map state cells) = rw (length-map cells state) (omega arith) in
    ap (λ k. joined (take k (map state cells))) all ∙ ap joined (take-length (map state cells))

pub slots_pushed : {C : Type 0} (state : C → CellState) (made new : List C) (c : C) (number count slot : ℕ) (front rest rest_after : List ℕ) (all : List CellState)
    → new ≡ made ++ c ∷ [] → state c ≡ settled number (length front) front → length front ≡ slot → front ≡ take slot rest → rest_after ≡ drop slot rest → number < count
    → map state made ++ slots_from number (count - number) slot rest ≡ all
    → map state new ++ slots_from (number + 1) (count - (number + 1)) slot rest_after ≡ all
slots_pushed state made new c number count slot front rest rest_after all pushed is wide at after h e =
    let cell : state c ≡ settled number slot (take slot rest) = is ∙ (ap (λ w. settled number w front) wide ∙ ap (settled number slot) at) in
    let states : map state new ≡ map state made ++ settled number slot (take slot rest) ∷ [] = ap (map state) pushed ∙ (map-append state made (c ∷ []) ∙ ap (λ x. map state made ++ x ∷ []) cell) in
    ap (λ s. s ++ slots_from (number + 1) (count - (number + 1)) slot rest_after) states
    ∙ (ap (λ r. (map state made ++ settled number slot (take slot rest) ∷ []) ++ slots_from (number + 1) (count - (number + 1)) slot r) after
    ∙ slots_step (map state made) number count slot rest all h e)

pub length_whole : (header : CellState) (cells : List CellState) (rest : List ℕ) → length (header.now ++ (joined cells ++ rest)) ≡ length header.now + (length (joined cells) + length rest)
length_whole header cells rest = simp length-append

-- one more cell, as a loop over the cells has it
pub joined_next : {C : Type 0} (state : C → CellState) (cells : List C) (i : ℕ) (d : C) (now : List ℕ) → i < length cells → d ≡ get_or cells i d → now ≡ (state d).now
    → joined (take (i + 1) (map state cells)) ≡ joined (take i (map state cells)) ++ now
joined_next state cells i d now h is here =
    joined_step state cells i d h ∙ ap (λ s. joined (take i (map state cells)) ++ s) (ap (λ c. (state c).now) (sym is) ∙ sym here)

pub length_next : {C : Type 0} (state : C → CellState) (cells : List C) (i : ℕ) (d : C) (now : List ℕ) → i < length cells → d ≡ get_or cells i d → now ≡ (state d).now
    → length (joined (take (i + 1) (map state cells))) ≡ length (joined (take i (map state cells))) + length now
length_next state cells i d now h is here = ap length (joined_next state cells i d now h is here) ∙ length-append _ _

pub joined_grows : {C : Type 0} (state : C → CellState) (cells : List C) (i : ℕ) (d : C) (now start bytes grown : List ℕ) → i < length cells → d ≡ get_or cells i d → now ≡ (state d).now
    → bytes ≡ start ++ joined (take i (map state cells)) → grown ≡ bytes ++ now → grown ≡ start ++ joined (take (i + 1) (map state cells))
joined_grows state cells i d now start bytes grown h is here so_far grows =
    grows ∙ (ap (λ s. s ++ now) so_far ∙ (append_assoc start (joined (take i (map state cells))) now ∙ ap (λ s. start ++ s) (sym (joined_next state cells i d now h is here))))

pub room_next : (number count slot before after : ℕ) → number < count → (count - number) * slot ≤ before → after + slot ≡ before → (count - (number + 1)) * slot ≤ after
room_next number count slot before after h room split =
    let k : ℕ = count - (number + 1) in
    let one : count - number ≡ suc k = omega arith in
    let more : suc k * slot ≡ k * slot + slot = suc-mul k slot in
    let wide : (count - number) * slot ≡ suc k * slot = ap (λ n. n * slot) one in
    omega arith
