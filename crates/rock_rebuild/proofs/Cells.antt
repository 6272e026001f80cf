-- Reading cells, some by each call.
use Rattle.std.proofs.Common.{◌≡◌, ℕ, zero, suc, ◌+◌, ◌*◌, ◌<◌, ◌≤◌, ◌-◌, List, [], ◌∷◌, ◌++◌, length, map, take, drop, Bool, arith, ap, sym, refl, subst, ◌∙◌, append_assoc, append-nil, length-append, length-drop, suc-mul, take-add}
use Rattle.std.specs.Prelude.{All}
use Rattle.std.proofs.lemmas.List.{length-map, map-append, take-append-le, take-map, drop-map, take_at, drop_at, take_all, length-take-le}
use Rattle.std.proofs.lemmas.List.Elements.{All-append, All-cons, All-drop, All-head, All-nil, All-tail, All-take}
use Rattle.std.proofs.Math.Seq.{take-length}
use Rattle.rock_disk.specs.Cell.{CellState, joined}
use Rattle.rock_rebuild.specs.Read.{AreImagesOf, images_in}
use Rattle.rock_rebuild.specs.Slots.{AreRead}
use Rattle.rock_rebuild.specs.declared.slots.Slots.{Slots}

-- what reads of these cells give
abbrev pub images : List CellState → List (List ℕ)
images cells = map (λ c. c.now) cells

-- what a loop over the cells keeps
pub record SoFar {C : Type 0} (state : C → CellState) (tells : Bool) (cells : List C) (slots : Slots) (slot i : ℕ) : Type 0 where
  pub within : i ≤ length cells
  pub table : length slots.table ≡ i
  pub heads : length slots.heads.items ≡ i
  pub passed : List (List ℕ)
  pub are : AreImagesOf tells slot (take i (map state cells)) passed
  pub read : AreRead (length cells) slot passed slots

pub length_of_images : (n slot : ℕ) (bytes : List ℕ) → length (images_in n slot bytes) ≡ n
length_of_images zero slot bytes = refl
length_of_images (suc n) slot bytes = ap suc (length_of_images n slot (drop slot bytes))

pub images_are_wide : (n slot : ℕ) (bytes : List ℕ) → n * slot ≤ length bytes → All (λ image. length image ≡ slot) (images_in n slot bytes)
images_are_wide zero slot bytes room = All-nil (λ image. length image ≡ slot)
images_are_wide (suc n) slot bytes room =
    let more : suc n * slot ≡ n * slot + slot = suc-mul n slot in
    let first : length (take slot bytes) ≡ slot = length-take-le slot bytes (omega (arith, room, more)) in
    All-cons (λ image. length image ≡ slot) (take slot bytes) (images_in n slot (drop slot bytes)) first (images_are_wide n slot (drop slot bytes) (omega (arith, room, more, length-drop slot bytes)))

-- the images of cells that stand one behind the other are what the cells hold
pub images_of_joined : {C : Type 0} (state : C → CellState) (cells : List C) (slot : ℕ) → ((c : C) → length (state c).now ≡ (state c).width) → All (λ (c : CellState). c.width ≡ slot) (map state cells)
    → images_in (length cells) slot (joined (map state cells)) ≡ images (map state cells)
images_of_joined state [] slot as_wide wide = refl
images_of_joined state (c ∷ cells) slot as_wide wide =
    let first : length (state c).now ≡ slot = as_wide c ∙ All-head (λ (c : CellState). c.width ≡ slot) (state c) (map state cells) wide in
    let rest : List ℕ = joined (map state cells) in
    ap (λ image. image ∷ images_in (length cells) slot (drop slot ((state c).now ++ rest))) (take_at (state c).now rest slot first)
    ∙ (ap (λ bytes. (state c).now ∷ images_in (length cells) slot bytes) (drop_at (state c).now rest slot first)
    ∙ ap (λ others. (state c).now ∷ others) (images_of_joined state cells slot as_wide (All-tail (λ (c : CellState). c.width ≡ slot) (state c) (map state cells) wide)))

-- one image more was cut off the front
pub image_more : (done : List (List ℕ)) (place many slot : ℕ) (rest behind image : List ℕ) (all : List (List ℕ)) → place < many → image ≡ take slot rest → behind ≡ drop slot rest
    → done ++ images_in (many - place) slot rest ≡ all
    → (done ++ image ∷ []) ++ images_in (many - (place + 1)) slot behind ≡ all
image_more done place many slot rest behind image all h front back e =
    let k : ℕ = many - (place + 1) in
    let one : suc k ≡ many - place = omega arith in
    append_assoc done (image ∷ []) (images_in k slot behind)
    ∙ (ap (λ i. done ++ i ∷ images_in k slot behind) front
    ∙ (ap (λ b. done ++ take slot rest ∷ images_in k slot b) back
    ∙ (ap (λ n. done ++ images_in n slot rest) one ∙ e)))

-- where all were cut off, none is left
pub images_done : (done : List (List ℕ)) (place many slot : ℕ) (rest : List ℕ) (all : List (List ℕ)) → many ≤ place → done ++ images_in (many - place) slot rest ≡ all → done ≡ all
images_done done place many slot rest all h e =
    let none : 0 ≡ many - place = omega arith in
    sym (append-nil done) ∙ (ap (λ n. done ++ images_in n slot rest) none ∙ e)

-- one image more was taken in
pub read_more : (count slot first place : ℕ) (old now after : Slots) (done before : List (List ℕ)) (image : List ℕ) → length done ≡ place
    → ((before : List (List ℕ)) → length before ≡ first → AreRead count slot before old → AreRead count slot (before ++ done) now)
    → ((images : List (List ℕ)) → length images ≡ first + place → AreRead count slot images now → AreRead count slot (images ++ image ∷ []) after)
    → length before ≡ first → AreRead count slot before old → AreRead count slot (before ++ (done ++ image ∷ [])) after
read_more count slot first place old now after done before image long so_far adds at was =
    let behind : length (before ++ done) ≡ first + place = omega (arith, length-append before done, at, long) in
    subst (λ images. AreRead count slot images after) (append_assoc before done (image ∷ [])) (adds (before ++ done) behind (so_far before at was))

-- images of some cells, and of those behind them
images_of_both : (tells : Bool) (slot : ℕ) (front back : List CellState) (some more : List (List ℕ)) → AreImagesOf tells slot front some → AreImagesOf tells slot back more
    → AreImagesOf tells slot (front ++ back) (some ++ more)
images_of_both tells slot front back some more a b = record {
  count = omega (arith, length-append some more, length-append front back, a.count, b.count);
  wide = All-append (λ image. length image ≡ slot) some more a.wide b.wide;
  told = λ t.
      ap (λ x. x ++ more) (a.told t) ∙ (ap (λ y. images front ++ y) (b.told t) ∙ sym (map-append (λ (c : CellState). c.now) front back));
}

-- these cells of all
pub states_of_part : {C : Type 0} (state : C → CellState) (cells part : List C) (i n : ℕ) → part ≡ take n (drop i cells) → map state part ≡ take n (drop i (map state cells))
states_of_part state cells part i n is =
    ap (map state) is ∙ (sym (take-map state n (drop i cells)) ∙ ap (take n) (sym (drop-map state i cells)))

-- they are as wide as a slot too
pub part_is_wide : {C : Type 0} (state : C → CellState) (cells part : List C) (slot i n : ℕ) → All (λ (c : CellState). c.width ≡ slot) (map state cells) → part ≡ take n (drop i cells)
    → All (λ (c : CellState). c.width ≡ slot) (map state part)
part_is_wide state cells part slot i n wide is =
    subst (All (λ (c : CellState). c.width ≡ slot)) (sym (states_of_part state cells part i n is))
    (All-take (λ (c : CellState). c.width ≡ slot) n (drop i (map state cells)) (All-drop (λ (c : CellState). c.width ≡ slot) i (map state cells) wide))

-- some more cells were read
pub some_more : {C : Type 0} (state : C → CellState) (tells : Bool) (cells part : List C) (slots after : Slots) (slot i n : ℕ) (more : List (List ℕ))
    → SoFar state tells cells slots slot i → i + n ≤ length cells → part ≡ take n (drop i cells) → length part ≡ n → AreImagesOf tells slot (map state part) more
    → ((before : List (List ℕ)) → length before ≡ i → AreRead (length cells) slot before slots → AreRead (length cells) slot (before ++ more) after)
    → (length after.table ≡ length slots.table + length part) × (length after.heads.items ≡ length slots.heads.items + length part)
    → SoFar state tells cells after slot (i + n)
some_more state tells cells part slots after slot i n more so fits is long are adds counts =
    let states : take (i + n) (map state cells) ≡ take i (map state cells) ++ map state part = take-add i n (map state cells) ∙ ap (λ r. take i (map state cells) ++ r) (sym (states_of_part state cells part i n is)) in
    let at : length so.passed ≡ i = so.are.count ∙ length-take-le i (map state cells) (omega (arith, so.within, length-map cells state)) in
    record {
      within = fits;
      table = omega (arith, counts.0, so.table, long);
      heads = omega (arith, counts.1, so.heads, long);
      passed = so.passed ++ more;
      are = subst (λ c. AreImagesOf tells slot c (so.passed ++ more)) (sym states) (images_of_both tells slot (take i (map state cells)) (map state part) so.passed more so.are are);
      read = adds so.passed at so.read;
    }

-- where all were read, they are the images of the cells
pub all_read : {C : Type 0} (state : C → CellState) (tells : Bool) (cells : List C) (slots : Slots) (slot i : ℕ) → (so : SoFar state tells cells slots slot i) → length cells ≤ i
    → AreImagesOf tells slot (map state cells) so.passed
all_read state tells cells slots slot i so all =
    subst (λ c. AreImagesOf tells slot c so.passed) (take_all i (map state cells) (omega (arith, all, length-map cells state))) so.are

-- a slice that a call has filled is the whole of the buffer
pub filled : {A : Type 0} (new old : List A) (n : ℕ) → length new ≡ n → take n (new ++ old) ≡ new
filled new old n e = take-append-le n new old (omega arith) ∙ (ap (λ k. take k new) (sym e) ∙ take-length new)
