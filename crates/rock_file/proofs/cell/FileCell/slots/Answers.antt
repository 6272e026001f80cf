use Rattle.std.proofs.Common.{◌≡◌, ◌+◌, ◌++◌, ◌∷◌, [], ℕ, zero, suc, map, arith, ap}
use Rattle.std.proofs.lemmas.List.{map-append}
use Rattle.rock_disk.specs.Cell.{shape}
use Rattle.rock_disk.specs.File.{shapes_from}
use Rattle.rock_file.specs.Cell.{cell_state}
use Rattle.rock_file.proofs.cell.FileCell.slots.Goals as goal

-- the last of these slots comes after the others
shapes_from-suc : (number n slot last : ℕ) → last ≡ number + n → shapes_from number (suc n) slot ≡ shapes_from number n slot ++ (last, slot) ∷ []
shapes_from-suc number zero slot last e =
    let same : number ≡ last = omega arith in
    ap (λ k. (k, slot) ∷ []) same
shapes_from-suc number (suc n) slot last e =
    ap (λ slots. (number, slot) ∷ slots) (shapes_from-suc (number + 1) n slot last (omega arith))

pub loop-number-preserved : goal.loop-number-preserved
loop-number-preserved c =
    let pushed = ap (λ cells. map shape (map cell_state cells)) c.in_ok-push.ensures.items in
    let apart = simp map-append at pushed in
    let more = shapes_from-suc 0 c.loop-number.number c.args.width c.loop-number.number (omega arith) in
    let next : c.loop-number.number + 1 ≡ suc c.loop-number.number = omega arith in
    cc
