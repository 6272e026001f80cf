-- A store that is opened on a file holds no more slots than the file has.
use Rattle.std.proofs.Common.{◌≡◌, ◌∙◌, ℕ, zero, suc, ◌+◌, ◌-◌, ◌*◌, ◌<◌, ◌≤◌, List, [], ◌∷◌, ◌++◌, length, map, get_or, sum_by, refl, sym, ap, subst, arith, Bool, true, false}
use Rattle.std.specs.Prelude.{Option, Some, None, ◌==◌, nat_eq, slice_index, drop, find, All, Contains}
use Rattle.std.specs.List.{range_with_len, flat_map, IsDistinct, AllByRecursion, list_any}
use Rattle.std.specs.List.Sorted.{IsStrictlyIncreasing}
use Rattle.std.proofs.lemmas.Bool.Decides.{nat_tests}
use Rattle.std.proofs.lemmas.List.Concat.{flat_map-cons, length-flat_map}
use Rattle.std.proofs.lemmas.List.Elements.{All-nil, All-cons, All-head, All-tail, All-append, All-map, All-weaker, All-contains_itself}
use Rattle.std.proofs.lemmas.List.Sums.{sum_by-cons, sum_by-le}
use Rattle.std.proofs.lemmas.List.{length-take}
use Rattle.std.proofs.lemmas.Map.Keys.{IsDistinct-head, IsDistinct-tail, IsDistinct-cons}
use Rattle.std.proofs.lemmas.Map.Steps.{length-le_from_distinct_below}
use Rattle.std.proofs.Math.Nat.{div-lt_iff_lt-mul}
use Rattle.store_key.specs.Anchor.{anchor_of}
use Rattle.slot_cell.specs.declared.header.TheConstants.{HEADER_SIZE}
use Rattle.rebuild_model.specs.Image.{image_at, header_at, payload_at, BelongsTo}
use Rattle.rebuild_model.specs.Entry.{Entry as FileEntry, IsComplete, content_of}
use Rattle.rebuild_model.specs.Rebuilt.{IsRebuilt}
use Rattle.rebuild_model.specs.declared.rebuilt.Rebuilt.{Rebuilt}
use Rattle.plain_model.specs.declared.entry.Place.{Place}
use Rattle.plain_model.specs.declared.kept.Kept.{Kept}
use Rattle.plain_model.specs.declared.store.Setting.{Setting}
use Rattle.plain_model.specs.declared.store.Plain.{Plain}
use Rattle.plain_model.specs.Place.{nothing}
use Rattle.plain_model.specs.Store.{published}
use Rattle.plain_model.specs.Slots.{held_by, held}
use Rattle.plain_model.specs.Opening.{kept_of, entry_kept, place_kept, kept_at, opened, IsOpened}
use Rattle.plain_model.specs.Serving.{fresh}
use Rattle.plain_laws.specs.Fitting.{IsAtRest}
use Rattle.plain_laws.specs.Holding.{HoldsItsSlots, slots_held}
use Rattle.plain_laws.specs.Opened.{FitsFile}
use Rattle.plain_laws.specs.Renaming.{CountsVersions}
use Rattle.plain_laws.proofs.Resting.{fresh_rests, opened_rests}

-- each place has what is kept at its anchor: the sum over the places is within that over the entries
abbrev pub weight : ℕ → Kept → ℕ
weight room k = held_by room (Some (entry_kept k))

abbrev places_of : ℕ → List Kept → (i n : ℕ) → List Place
places_of anchors kept i n = map (λ a. place_kept (kept_at anchors kept a)) (range_with_len i n)

-- an entry at an anchor further down has no part in these places
past : (room anchors : ℕ) (k : Kept) (kept : List Kept) (i n : ℕ) → anchor_of k.key anchors < i → sum_by (held room) (places_of anchors (k ∷ kept) i n) ≡ sum_by (held room) (places_of anchors kept i n)
past room anchors k kept i zero low = refl
past room anchors k kept i (suc n) low =
    let other : (anchor_of k.key anchors == i) ≡ false = grind (arith, nat_tests) in
    let here : kept_at anchors (k ∷ kept) i ≡ kept_at anchors kept i = rw other refl in
    sum_by-cons (held room) (place_kept (kept_at anchors (k ∷ kept) i)) (places_of anchors (k ∷ kept) (i + 1) n)
    ∙ ap (λ (o : Option Kept). held room (place_kept o) + sum_by (held room) (places_of anchors (k ∷ kept) (i + 1) n)) here
    ∙ ap (λ (m : ℕ). held room (place_kept (kept_at anchors kept i)) + m) (past room anchors k kept (i + 1) n (omega arith))
    ∙ sym (sum_by-cons (held room) (place_kept (kept_at anchors kept i)) (places_of anchors kept (i + 1) n))

one_more : (room anchors : ℕ) (k : Kept) (kept : List Kept) (i n : ℕ) → sum_by (held room) (places_of anchors (k ∷ kept) i n) ≤ weight room k + sum_by (held room) (places_of anchors kept i n)
one_more room anchors k kept i zero = omega arith
one_more room anchors k kept i (suc n) = by_test (anchor_of k.key anchors == i) refl (one_more room anchors k kept (i + 1) n)
  where
    first : sum_by (held room) (places_of anchors (k ∷ kept) i (suc n)) ≡ held room (place_kept (kept_at anchors (k ∷ kept) i)) + sum_by (held room) (places_of anchors (k ∷ kept) (i + 1) n)
    first = sum_by-cons (held room) (place_kept (kept_at anchors (k ∷ kept) i)) (places_of anchors (k ∷ kept) (i + 1) n)

    second : sum_by (held room) (places_of anchors kept i (suc n)) ≡ held room (place_kept (kept_at anchors kept i)) + sum_by (held room) (places_of anchors kept (i + 1) n)
    second = sum_by-cons (held room) (place_kept (kept_at anchors kept i)) (places_of anchors kept (i + 1) n)

    by_test : (b : Bool) → (anchor_of k.key anchors == i) ≡ b → sum_by (held room) (places_of anchors (k ∷ kept) (i + 1) n) ≤ weight room k + sum_by (held room) (places_of anchors kept (i + 1) n)
        → sum_by (held room) (places_of anchors (k ∷ kept) i (suc n)) ≤ weight room k + sum_by (held room) (places_of anchors kept i (suc n))
    by_test true t more =
        let at : anchor_of k.key anchors ≡ i = grind (arith, nat_tests) in
        let here : held room (place_kept (kept_at anchors (k ∷ kept) i)) ≡ weight room k = rw t refl in
        let rest : sum_by (held room) (places_of anchors (k ∷ kept) (i + 1) n) ≡ sum_by (held room) (places_of anchors kept (i + 1) n) = past room anchors k kept (i + 1) n (omega arith) in
        omega (arith, first, second, here, rest)
    by_test false t more =
        let here : held room (place_kept (kept_at anchors (k ∷ kept) i)) ≡ held room (place_kept (kept_at anchors kept i)) = rw t refl in
        omega (arith, first, second, here, more)

no_weight : (room anchors i n : ℕ) → sum_by (held room) (places_of anchors [] i n) ≡ 0
no_weight room anchors i zero = refl
no_weight room anchors i (suc n) = let rest = no_weight room anchors (i + 1) n in omega (arith, rest, sum_by-cons (held room) nothing (places_of anchors [] (i + 1) n))

kept_weigh : (room anchors : ℕ) (kept : List Kept) (n : ℕ) → sum_by (held room) (places_of anchors kept 0 n) ≤ sum_by (weight room) kept
kept_weigh room anchors [] n = omega (arith, no_weight room anchors 0 n)
kept_weigh room anchors (k ∷ kept) n = omega (arith, one_more room anchors k kept 0 n, kept_weigh room anchors kept n, sum_by-cons (weight room) k kept)

-- what stands at an anchor has a version that was given out
pub found_all : (P : Kept → Type 0) (test : Kept → Bool) (kept : List Kept) (k : Kept) → All P kept → find test kept ≡ Some k → P k
found_all P test [] k all e = let no_one : None ≡ Some k = e in cc
found_all P test (x ∷ kept) k all e = by_test (test x) refl (found_all P test kept k (All-tail P x kept all))
  where
    by_test : (b : Bool) → test x ≡ b → (find test kept ≡ Some k → P k) → P k
    by_test true t later = let h : Some x ≡ Some k = rw t at e in let same : x ≡ k = cc in subst (λ (y : Kept). P y) same (All-head P x kept all)
    by_test false t later = later (rw t at e)

place_counted : (anchors : ℕ) (kept : List Kept) (greatest a : ℕ) → All (λ k. k.version ≤ greatest) kept → (o : Option Kept) → kept_at anchors kept a ≡ o → (place_kept o).version ≤ greatest
place_counted anchors kept greatest a all None e = omega arith
place_counted anchors kept greatest a all (Some k) e = found_all (λ k. k.version ≤ greatest) (λ k. anchor_of k.key anchors == a) kept k all e

places_counted : (f : ℕ → Place) (greatest : ℕ) → ((a : ℕ) → (f a).version ≤ greatest) → (i n a : ℕ) → (get_or (map f (range_with_len i n)) a nothing).version ≤ greatest
places_counted f greatest h i zero a = omega arith
places_counted f greatest h i (suc n) zero = h i
places_counted f greatest h i (suc n) (suc a) = places_counted f greatest h (i + 1) n a

pub fits_holds : (s : Setting) (kept : List Kept) (greatest : ℕ) → FitsFile s kept greatest → HoldsItsSlots s (opened s.anchors kept greatest) × CountsVersions (opened s.anchors kept greatest)
fits_holds s kept greatest h =
    let all : sum_by (held s.room) (places_of s.anchors kept 0 s.anchors) ≤ sum_by (weight s.room) kept = kept_weigh s.room s.anchors kept s.anchors in
    let fits : sum_by (weight s.room) kept ≤ s.slots = h.slots in
    let within : slots_held s (opened s.anchors kept greatest) ≤ s.slots = omega (arith, all, fits) in (
      (opened_rests s kept greatest).2 within,
      places_counted (λ a. place_kept (kept_at s.anchors kept a)) greatest (λ a. place_counted s.anchors kept greatest a h.versions (kept_at s.anchors kept a) refl) 0 s.anchors,
    )

-- numbers that rise are above the first
rest_up : (x : ℕ) (xs : List ℕ) → IsStrictlyIncreasing (x ∷ xs) → IsStrictlyIncreasing xs
rest_up x xs up k lt =
    let next : suc k + 1 ≡ suc (k + 1) = omega arith in
    subst (λ (i : ℕ). slice_index xs k < slice_index (x ∷ xs) i) next (up (suc k) (omega arith))

above : {Y : Type 0} (place : Y → ℕ) (x : ℕ) (ys : List Y) → IsStrictlyIncreasing (x ∷ map place ys) → All (λ y. x < place y) ys
above place x [] up = All-nil (λ y. x < place y)
above place x (y ∷ ys) up =
    let first : x < place y = up 0 (omega arith) in
    All-cons (λ z. x < place z) y ys first
    (All-weaker (λ z. place y < place z) (λ z. x < place z) (λ z lt. omega arith) ys (above place (place y) ys (rest_up x (place y ∷ map place ys) up)))

-- lists whose numbers belong to others have none in common
recursion_append : (P : ℕ → Type 0) (xs ys : List ℕ) → AllByRecursion P xs → AllByRecursion P ys → AllByRecursion P (xs ++ ys)
recursion_append P [] ys h k = k
recursion_append P (x ∷ xs) ys h k = (h.0, recursion_append P xs ys h.1 k)

differ : (owner : ℕ → ℕ) (o x y : ℕ) → owner x ≡ o → o < owner y → nat_eq x y ≡ false
differ owner o x y is other = by_test (nat_eq x y) refl
  where
    by_test : (b : Bool) → nat_eq x y ≡ b → nat_eq x y ≡ false
    by_test false e = e
    by_test true e =
        let same : x ≡ y = grind (arith, nat_tests) in
        let owners : owner x ≡ owner y = ap owner same in absurd (omega arith)

all_differ : (owner : ℕ → ℕ) (o x : ℕ) (ys : List ℕ) → owner x ≡ o → All (λ s. o < owner s) ys → AllByRecursion (λ y. nat_eq x y ≡ false) ys
all_differ owner o x [] is others = tt
all_differ owner o x (y ∷ ys) is others = (differ owner o x y is (All-head (λ s. o < owner s) y ys others), all_differ owner o x ys is (All-tail (λ s. o < owner s) y ys others))

distinct_append : (owner : ℕ → ℕ) (o : ℕ) (xs ys : List ℕ) → IsDistinct nat_eq xs → IsDistinct nat_eq ys → All (λ s. owner s ≡ o) xs → All (λ s. o < owner s) ys → IsDistinct nat_eq (xs ++ ys)
distinct_append owner o [] ys once more own others = more
distinct_append owner o (x ∷ xs) ys once more own others =
    IsDistinct-cons nat_eq x (xs ++ ys)
    (recursion_append (λ y. nat_eq x y ≡ false) xs ys (IsDistinct-head nat_eq x xs once) (all_differ owner o x ys (All-head (λ s. owner s ≡ o) x xs own) others))
    (distinct_append owner o xs ys (IsDistinct-tail nat_eq x xs once) more (All-tail (λ s. owner s ≡ o) x xs own) others)

-- entries of which each has slots of its own
pub record Owned (anchors : ℕ) (owner : ℕ → ℕ) (e : FileEntry) : Type 0 where
  pub once : IsDistinct nat_eq e.chain
  pub own : All (λ s. owner s ≡ anchor_of e.key anchors + 1) e.chain

abbrev slots_of_all : List FileEntry → List ℕ
slots_of_all es = flat_map (λ e. e.chain) es

others_own : (anchors : ℕ) (owner : ℕ → ℕ) (n : ℕ) (es : List FileEntry) → All (Owned anchors owner) es → All (λ e. n < anchor_of e.key anchors) es → All (λ s. n + 1 < owner s) (slots_of_all es)
others_own anchors owner n [] all up = All-nil (λ s. n + 1 < owner s)
others_own anchors owner n (e ∷ es) all up =
    let first : n < anchor_of e.key anchors = All-head (λ f. n < anchor_of f.key anchors) e es up in
    subst (λ (xs : List ℕ). All (λ s. n + 1 < owner s) xs) (sym (flat_map-cons (λ (f : FileEntry). f.chain) e es))
    (All-append (λ s. n + 1 < owner s) e.chain (slots_of_all es)
    (All-weaker (λ s. owner s ≡ anchor_of e.key anchors + 1) (λ s. n + 1 < owner s) (λ s is. omega arith) e.chain (All-head (Owned anchors owner) e es all).own)
    (others_own anchors owner n es (All-tail (Owned anchors owner) e es all) (All-tail (λ f. n < anchor_of f.key anchors) e es up)))

all_distinct : (anchors : ℕ) (owner : ℕ → ℕ) (es : List FileEntry) → All (Owned anchors owner) es → IsStrictlyIncreasing (map (λ e. anchor_of e.key anchors) es) → IsDistinct nat_eq (slots_of_all es)
unfolding IsDistinct
all_distinct anchors owner [] all up = tt
all_distinct anchors owner (e ∷ es) all up =
    let first = All-head (Owned anchors owner) e es all in
    let rest = All-tail (Owned anchors owner) e es all in
    subst (λ (xs : List ℕ). IsDistinct nat_eq xs) (sym (flat_map-cons (λ (f : FileEntry). f.chain) e es))
    (distinct_append owner (anchor_of e.key anchors + 1) e.chain (slots_of_all es) first.once
    (all_distinct anchors owner es rest (rest_up (anchor_of e.key anchors) (map (λ f. anchor_of f.key anchors) es) up)) first.own
    (others_own anchors owner (anchor_of e.key anchors) es rest (above (λ (f : FileEntry). anchor_of f.key anchors) (anchor_of e.key anchors) es up)))

all_below : (n : ℕ) (es : List FileEntry) → All (λ e. All (λ s. s < n) e.chain) es → All (λ s. s < n) (slots_of_all es)
all_below n [] h = All-nil (λ s. s < n)
all_below n (e ∷ es) h =
    subst (λ (xs : List ℕ). All (λ s. s < n) xs) (sym (flat_map-cons (λ (f : FileEntry). f.chain) e es))
    (All-append (λ s. s < n) e.chain (slots_of_all es) (All-head (λ f. All (λ s. s < n) f.chain) e es h) (all_below n es (All-tail (λ f. All (λ s. s < n) f.chain) e es h)))

any_below : (n : ℕ) (xs : List ℕ) (q : ℕ) → All (λ s. s < n) xs → list_any (nat_eq q) xs ≡ true → q < n
any_below n [] q all there = absurd (let k : false ≡ true = there in cc)
any_below n (x ∷ xs) q all there = by_test (nat_eq q x) refl (any_below n xs q (All-tail (λ s. s < n) x xs all))
  where
    by_test : (b : Bool) → nat_eq q x ≡ b → (list_any (nat_eq q) xs ≡ true → q < n) → q < n
    by_test true e later = let same : q ≡ x = grind (arith, nat_tests) in let low : x < n = All-head (λ s. s < n) x xs all in omega arith
    by_test false e later = later (rw e at there)

few_slots : (anchors n : ℕ) (owner : ℕ → ℕ) (es : List FileEntry) → All (Owned anchors owner) es → IsStrictlyIncreasing (map (λ e. anchor_of e.key anchors) es) → All (λ e. All (λ s. s < n) e.chain) es
    → sum_by (λ e. length e.chain) es ≤ n
few_slots anchors n owner es all up within =
    let few : length (slots_of_all es) ≤ n = length-le_from_distinct_below (slots_of_all es) n (all_distinct anchors owner es all up) (λ q there. any_below n (slots_of_all es) q (all_below n es within) there) in
    let is : length (slots_of_all es) ≡ sum_by (λ e. length e.chain) es = length-flat_map (λ (e : FileEntry). e.chain) es in
    omega (arith, few, is)

-- a whole entry holds no more slots than its chain has
payload_fits : (room slot : ℕ) (images : List (List ℕ)) (first t : ℕ) → slot ≡ room + HEADER_SIZE → BelongsTo slot images first t → length (payload_at images t) ≤ room
payload_fits room slot images first t is b =
    let most = b.sane.sane.payload_to in
    let long : length (payload_at images t) ≤ (header_at images t).payload_size = omega (arith, length-take (header_at images t).payload_size (drop HEADER_SIZE (image_at images t))) in
    omega arith

some_room : (room slot : ℕ) (images : List (List ℕ)) (first t : ℕ) → slot ≡ room + HEADER_SIZE → BelongsTo slot images first t → 0 < room
some_room room slot images first t is b = let most = b.sane.sane.payload_to in let least = b.sane.sane.payload_from in omega arith

few_published : (room m c : ℕ) → 0 < room → c ≤ (m + 1) * room → published room c + 1 ≤ m + 1
few_published room m c some le =
    let split : (m + 1) * room ≡ m * room + room = omega arith in
    let below : c - 1 < (m + 1) * room = omega arith in
    let few : published room c < m + 1 = (div-lt_iff_lt-mul some).1 below in
    omega arith

pub entry_holds : (room slot : ℕ) (images : List (List ℕ)) (e : FileEntry) → slot ≡ room + HEADER_SIZE → IsComplete slot images e → weight room (kept_of images e) ≤ length e.chain
entry_holds room slot images e is h =
    let belong = h.chain.belong in
    let first : BelongsTo slot images e.first e.first = All-head (BelongsTo slot images e.first) e.first h.chain.behind (subst (All (BelongsTo slot images e.first)) h.chain.begins belong) in
    let size : length (content_of images e.chain) ≡ sum_by (λ t. length (payload_at images t)) e.chain = length-flat_map (payload_at images) e.chain in
    let most : sum_by (λ t. length (payload_at images t)) e.chain ≤ length e.chain * room =
    sum_by-le (λ t. length (payload_at images t)) room e.chain (All-weaker (BelongsTo slot images e.first) (λ t. length (payload_at images t) ≤ room) (λ t b. payload_fits room slot images e.first t is b) e.chain belong) in
    let long : length e.chain ≡ length h.chain.behind + 1 = ap length h.chain.begins ∙ (omega arith) in
    let le : length (content_of images e.chain) ≤ (length h.chain.behind + 1) * room = subst (λ (n : ℕ). length (content_of images e.chain) ≤ n * room) long (omega (arith, size, most)) in
    let few : published room (length (content_of images e.chain)) + 1 ≤ length h.chain.behind + 1 = few_published room (length h.chain.behind) (length (content_of images e.chain)) (some_room room slot images e.first e.first is first) le in
    omega (arith, few, long)

entries_hold : (room : ℕ) (images : List (List ℕ)) (es : List FileEntry) → All (λ e. weight room (kept_of images e) ≤ length e.chain) es → sum_by (weight room) (map (kept_of images) es) ≤ sum_by (λ e. length e.chain) es
entries_hold room images [] h = omega arith
entries_hold room images (e ∷ es) h =
    let first : weight room (kept_of images e) ≤ length e.chain = All-head (λ f. weight room (kept_of images f) ≤ length f.chain) e es h in
    let rest = entries_hold room images es (All-tail (λ f. weight room (kept_of images f) ≤ length f.chain) e es h) in
    omega (arith, first, rest, sum_by-cons (weight room) (kept_of images e) (map (kept_of images) es), sum_by-cons (λ (f : FileEntry). length f.chain) e es)

-- what a rebuild keeps fits
module _ (s : Setting) (images : List (List ℕ)) (rebuilt : Rebuilt) (is : IsRebuilt (s.room + HEADER_SIZE) images s.anchors rebuilt) where
  complete : (e : FileEntry) → Contains is.entries e → IsComplete (s.room + HEADER_SIZE) images e
  complete e h = (is.won e h).complete

  of_all : (P : FileEntry → Type 0) → ((e : FileEntry) → Contains is.entries e → P e) → All P is.entries
  of_all P h = All-weaker (Contains is.entries) P h is.entries (All-contains_itself is.entries)

  owned : (e : FileEntry) → Contains is.entries e → Owned s.anchors (λ t. slice_index rebuilt.owner t) e
  owned e h = record {
    once = (complete e h).chain.once;
    own = All-weaker (Contains e.chain) (λ t. slice_index rebuilt.owner t ≡ anchor_of e.key s.anchors + 1) (λ t k. is.owned e t h k) e.chain (All-contains_itself e.chain);
  }

  inside : (e : FileEntry) → Contains is.entries e → All (λ t. t < length images) e.chain
  inside e h = All-weaker (BelongsTo (s.room + HEADER_SIZE) images e.first) (λ t. t < length images) (λ t b. b.sane.within) e.chain (complete e h).chain.belong

  version_to : (e : FileEntry) → Contains is.entries e → (kept_of images e).version ≤ rebuilt.greatest
  version_to e h =
      let whole = complete e h in
      let first : BelongsTo (s.room + HEADER_SIZE) images e.first e.first = All-head (BelongsTo (s.room + HEADER_SIZE) images e.first) e.first whole.chain.behind (subst (All (BelongsTo (s.room + HEADER_SIZE) images e.first)) whole.chain.begins whole.chain.belong) in
      let most = is.greatest.above e.first first.sane in
      let version = whole.version in
      omega arith

  pub rebuilt_fits : s.slots ≡ length images → FitsFile s (map (kept_of images) is.entries) rebuilt.greatest
  rebuilt_fits as_many = record {
    slots = (let few : sum_by (λ e. length e.chain) is.entries ≤ length images = few_slots s.anchors (length images) (λ t. slice_index rebuilt.owner t) is.entries
        (of_all (Owned s.anchors (λ t. slice_index rebuilt.owner t)) owned) is.ordered (of_all (λ e. All (λ t. t < length images) e.chain) inside) in
        let hold : sum_by (weight s.room) (map (kept_of images) is.entries) ≤ sum_by (λ e. length e.chain) is.entries = entries_hold s.room images is.entries
        (of_all (λ e. weight s.room (kept_of images e) ≤ length e.chain) (λ e h. entry_holds s.room (s.room + HEADER_SIZE) images e refl (complete e h))) in
        omega (arith, few, hold, as_many));
    versions = All-map (λ (k : Kept). k.version ≤ rebuilt.greatest) (kept_of images) is.entries (of_all (λ e. (kept_of images e).version ≤ rebuilt.greatest) version_to);
  }

-- the store that is opened on the file
abbrev pub OpensWell : Setting → Plain → Type 0
OpensWell s p = IsAtRest p × HoldsItsSlots s p × (length p.places ≡ s.anchors) × CountsVersions p

pub file_opens : (s : Setting) (images : List (List ℕ)) (p : Plain) → s.slots ≡ length images → IsOpened (s.room + HEADER_SIZE) images s.anchors p → OpensWell s p
file_opens s images p as_many o =
    let kept : List Kept = map (kept_of images) o.is.entries in
    let rests = opened_rests s kept o.rebuilt.greatest in
    let holds = fits_holds s kept o.rebuilt.greatest (rebuilt_fits s images o.rebuilt o.is as_many) in
    subst (λ (q : Plain). OpensWell s q) (sym o.store) (rests.0, holds.0, rests.1, holds.1)

-- and one that was never written
pub fresh_opens : (s : Setting) → OpensWell s (fresh s.anchors)
fresh_opens s = let rests = fresh_rests s in (rests.0, rests.1, rests.2, places_counted (λ a. nothing) 0 (λ a. omega arith) 0 s.anchors)
