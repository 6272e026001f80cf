-- What a crash leaves of cells.
use Rattle.std.proofs.Common.{◌≡◌, ◌<◌, ◌∷◌, [], ℕ, zero, suc, List, length, map, get_or, arith, refl, ap, sym, subst, ◌∙◌}
use Rattle.std.specs.Prelude.{Contains, All}
use Rattle.std.proofs.lemmas.List.{length-map}
use Rattle.std.proofs.lemmas.List.Elements.{All-head, All-tail, All-cons, All-nil}
use Rattle.rock_disk.specs.Cell.{CellState, settle}
use Rattle.rock_disk.specs.Crash.{IsCrashImage, IsSettled, NowMayStay}

now_at_each : (cells : List CellState) → All NowMayStay cells → (place : ℕ) → place < length cells
    → Contains (get_or (map (λ c. c.possible) cells) place []) (get_or (map (λ c. c.now) cells) place [])
now_at_each [] all place h = absurd (omega arith)
now_at_each (c ∷ cells) all zero h = All-head NowMayStay c cells all
now_at_each (c ∷ cells) all (suc place) h = now_at_each cells (All-tail NowMayStay c cells all) place (omega arith)

pub now_is_an_image : (cells : List CellState) → All NowMayStay cells → IsCrashImage cells (map (λ c. c.now) cells)
now_is_an_image cells all = record { count = length-map cells (λ c. c.now); each = now_at_each cells all }

only : (x y : List ℕ) → Contains (x ∷ []) y → y ≡ x
only x y (zero, within, is) = sym is
only x y (suc k, within, is) = absurd (omega arith)

later : {c : CellState} {cells : List CellState} {content : List ℕ} {image : List (List ℕ)} → IsCrashImage (c ∷ cells) (content ∷ image) → IsCrashImage cells image
later crash = record { count = omega (arith, crash.count); each = λ place h. crash.each (suc place) (omega arith) }

pub one_image : (cells : List CellState) (image : List (List ℕ)) → All IsSettled cells → IsCrashImage cells image → image ≡ map (λ c. c.now) cells
one_image [] [] all crash = refl
one_image [] (content ∷ image) all crash = absurd (omega (arith, crash.count))
one_image (c ∷ cells) [] all crash = absurd (omega (arith, crash.count))
one_image (c ∷ cells) (content ∷ image) all crash =
    let first : Contains c.possible content = crash.each 0 (omega arith) in
    let alone : Contains (c.now ∷ []) content = subst (λ (possible : List (List ℕ)). Contains possible content) (All-head IsSettled c cells all) first in
    let here : content ≡ c.now = only c.now content alone in
    let rest : image ≡ map (λ c. c.now) cells = one_image cells image (All-tail IsSettled c cells all) (later crash) in
    cc

-- a crash after a sync leaves what was written before it
pub image_when_synced : (after was : CellState) (bytes : List ℕ) (image : List (List ℕ)) → after ≡ settle was → was.now ≡ bytes → IsCrashImage (after ∷ []) image → image ≡ bytes ∷ []
image_when_synced after was bytes image synced now crash =
    let alone : IsSettled after = ap (λ c. c.possible) synced ∙ ap (λ c. c.now ∷ []) (sym synced) in
    one_image (after ∷ []) image (All-cons IsSettled after [] alone (All-nil IsSettled)) crash ∙ ap (λ n. n ∷ []) (ap (λ c. c.now) synced ∙ now)
