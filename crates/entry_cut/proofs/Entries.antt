-- Pieces in the slots of a file make an entry.
use Rattle.std.proofs.Common.{rules, ◌≡◌, ◌+◌, ◌*◌, ◌-◌, ◌<◌, ◌≤◌, ◌^◌, ◌==◌, ℕ, suc, List, [], ◌∷◌, ◌++◌, length, take, drop, cond, true, false, inl, inr, ◌⊎◌, arith, refl, ap, sym, ◌∙◌, subst}
use Rattle.std.specs.Prelude.{ℤ, pos, negsuc, FitsSigned, ◌≤ℤ◌, ◌<ℤ◌, sum_by, nat_eq, ◌||◌}
use Rattle.std.specs.List.{flat_map, IsDistinct, AllByRecursion, list_any}
use Rattle.std.specs.Int.{w32}
use Rattle.std.proofs.Math.Nat.{zero-mul, suc-mul, mul-le-mul}
use Rattle.std.proofs.Math.Seq.{drop-append_seam}
use Rattle.std.proofs.Math.Numerals.{suc-eq-add-one}
use Rattle.std.proofs.lemmas.List.{append_assoc, append-nil, take_all, take-take, length-take}
use Rattle.std.proofs.lemmas.Bool.{false≢true}
use Rattle.std.proofs.lemmas.List.Sums.{sum_by-append}
use Rattle.std.proofs.lemmas.Bool.Decides.{nat_tests}
use Rattle.std.proofs.lemmas.List.Elements.{recursion_from_All, All-from_recursion}
use Rattle.std.proofs.lemmas.Map.Steps.{length-le_from_distinct_below}
use Rattle.slot_cell.specs.declared.header.Header.{Header}
use Rattle.slot_cell.specs.Header.{header_of, payload_of, slot_image, IsInRange, IsSane}
use Rattle.store_key.specs.Key.{key_of}
use Rattle.swap_meta.specs.Meta.{Spells, meta_bytes}
use Rattle.rebuild_model.specs.Image.{image_at, header_at, key_at, payload_at, BelongsTo, Links}
use Rattle.rebuild_model.specs.Entry.{AllButLast, OfLast, IsComplete}
use Rattle.entry_cut.specs.Content.{Cut, content, count, payload, header, image, room_of}
use Rattle.entry_cut.specs.Standing.{IsWritable, StandFrom, Stand, entry_of}
use Rattle.entry_cut.proofs.Images.{IsBytes, key_of_image, header_in_range}

-- what slot s says of the piece at place k
pub record Says (c : Cut) (images : List (List ℕ)) (k s : ℕ) (next : ℤ) : Type 0 where
  pub header : header_at images s ≡ header c k next
  pub payload : payload_at images s ≡ payload c k
  pub key : key_at images s ≡ key_of c.url

-- what the slots of a chain say, from place k on
abbrev pub SayFrom : Cut → List (List ℕ) → ℕ → List ℕ → Type 0
SayFrom c images k [] = ⊥
SayFrom c images k (s ∷ []) = Says c images k s (negsuc 0) × (k + 1 ≡ count c)
SayFrom c images k (s ∷ t ∷ rest) = Says c images k s (pos t) × SayFrom c images (k + 1) (t ∷ rest)

-- how the pieces of a content fit their slots
pub record Fit (c : Cut) : Type 0 where
  pub full : (k : ℕ) → k + 1 < count c → length (payload c k) ≡ room_of c.slot
  pub last : (k : ℕ) → k + 1 ≡ count c → (0 < length (payload c k)) × (length (content c) ≡ k * room_of c.slot + length (payload c k))
  pub joined : (k : ℕ) → take ((k + 1) * room_of c.slot) (content c) ≡ take (k * room_of c.slot) (content c) ++ payload c k
  pub room : 40 < c.slot

more_rooms : (k room : ℕ) → (k + 1) * room ≡ k * room + room
more_rooms k room = ap (λ n. n * room) (sym (suc-eq-add-one k)) ∙ suc-mul k room

-- a place in the chain is one of the content
places_left : (c : Cut) (images : List (List ℕ)) (k : ℕ) (chain : List ℕ) → SayFrom c images k chain → k + length chain ≡ count c
places_left c images k [] say = absurd say
places_left c images k (s ∷ []) say = say.1
places_left c images k (s ∷ t ∷ rest) say = let more = places_left c images (k + 1) (t ∷ rest) say.1 in omega (arith, more)

short_piece : (c : Cut) (k : ℕ) → length (payload c k) ≤ room_of c.slot
short_piece c k = let exact = length-take (room_of c.slot) (drop (k * room_of c.slot) (content c)) in omega (arith, exact)

-- the payloads, joined behind the bytes before place k, are the content
joined_from : (c : Cut) (images : List (List ℕ)) (k : ℕ) (chain : List ℕ) → Fit c → SayFrom c images k chain → take (k * room_of c.slot) (content c) ++ flat_map (payload_at images) chain ≡ content c
joined_from c images k [] fit say = absurd say
joined_from c images k (s ∷ []) fit say =
    let last = fit.last k say.1 in
    let short = short_piece c k in
    ap (λ l. take (k * room_of c.slot) (content c) ++ l) (append-nil (payload_at images s) ∙ say.0.payload)
    ∙ (sym (fit.joined k) ∙ take_all ((k + 1) * room_of c.slot) (content c) (omega (arith, more_rooms k (room_of c.slot), last.1, short)))
joined_from c images k (s ∷ t ∷ rest) fit say =
    ap (λ l. take (k * room_of c.slot) (content c) ++ (l ++ flat_map (payload_at images) (t ∷ rest))) say.0.payload
    ∙ (sym (append_assoc (take (k * room_of c.slot) (content c)) (payload c k) (flat_map (payload_at images) (t ∷ rest)))
    ∙ (ap (λ l. l ++ flat_map (payload_at images) (t ∷ rest)) (sym (fit.joined k)) ∙ joined_from c images (k + 1) (t ∷ rest) fit say.1))

size_at : (c : Cut) (images : List (List ℕ)) (k s : ℕ) (next : ℤ) → Says c images k s next → (header_at images s).payload_size ≡ length (payload c k)
size_at c images k s next says = ap (λ h. h.payload_size) says.header

sum_more : {X : Type 0} (f : X → ℕ) (x : X) (xs : List X) → sum_by f (x ∷ xs) ≡ f x + sum_by f xs
sum_more f x xs = sum_by-append f (x ∷ []) xs ∙ omega arith

-- and so are their sizes
sizes_from : (c : Cut) (images : List (List ℕ)) (k : ℕ) (chain : List ℕ) → Fit c → SayFrom c images k chain → k * room_of c.slot + sum_by (λ t. (header_at images t).payload_size) chain ≡ length (content c)
sizes_from c images k [] fit say = absurd say
sizes_from c images k (s ∷ []) fit say =
    let last = fit.last k say.1 in
    let size = size_at c images k s (negsuc 0) say.0 in
    omega (arith, last.1, size, sum_more (λ t. (header_at images t).payload_size) s [])
sizes_from c images k (s ∷ t ∷ rest) fit say =
    let below = places_left c images (k + 1) (t ∷ rest) say.1 in
    let size = size_at c images k s (pos t) say.0 in
    let full = fit.full k (omega (arith, below)) in
    let more = sizes_from c images (k + 1) (t ∷ rest) fit say.1 in
    omega (arith, more, full, size, more_rooms k (room_of c.slot), sum_more (λ t. (header_at images t).payload_size) s (t ∷ rest))

full_from : (c : Cut) (images : List (List ℕ)) (k : ℕ) (chain : List ℕ) → Fit c → SayFrom c images k chain → AllButLast (λ s. (header_at images s).payload_size + 40 ≡ c.slot) chain
full_from c images k [] fit say = absurd say
full_from c images k (s ∷ []) fit say = tt
full_from c images k (s ∷ t ∷ rest) fit say =
    let below = places_left c images (k + 1) (t ∷ rest) say.1 in
    let size = size_at c images k s (pos t) say.0 in
    let full = fit.full k (omega (arith, below)) in
    (omega (arith, size, full, fit.room), full_from c images (k + 1) (t ∷ rest) fit say.1)

last_says_all : (k n size : ℕ) → k + 1 ≡ n → cond (k + 1 == n) size 0 ≡ size
last_says_all k n size e = ap (λ m. cond (k + 1 == m) size 0) (sym e) ∙ search rules

whole_from : (c : Cut) (images : List (List ℕ)) (k : ℕ) (chain : List ℕ) (sum : ℕ) → sum ≡ length (content c) → SayFrom c images k chain → OfLast (λ s. (header_at images s).entry_size ≡ sum) chain
whole_from c images k [] sum is say = absurd say
whole_from c images k (s ∷ []) sum is say = ap (λ h. h.entry_size) say.0.header ∙ (last_says_all k (count c) (length (content c)) say.1 ∙ sym is)
whole_from c images k (s ∷ t ∷ rest) sum is say = whole_from c images (k + 1) (t ∷ rest) sum is say.1

links_from : (c : Cut) (images : List (List ℕ)) (k : ℕ) (chain : List ℕ) → SayFrom c images k chain → Links images chain
links_from c images k [] say = absurd say
links_from c images k (s ∷ []) say = ap (λ h. h.next_slot) say.0.header
links_from c images k (s ∷ t ∷ rest) say = (ap (λ h. h.next_slot) say.0.header, links_from c images (k + 1) (t ∷ rest) say.1)

-- ---- each slot belongs to the first

le_cases : (a b : ℕ) → a ≤ b → (a < b) ⊎ (a ≡ b)
le_cases a b le = search rules

positive_piece : (c : Cut) (k : ℕ) → Fit c → k < count c → 0 < length (payload c k)
positive_piece c k fit below = elim (le_cases (k + 1) (count c) (omega (arith, below))) [
  | inl less ↦ let full = fit.full k less in omega (arith, full, fit.room)
  | inr last ↦ (fit.last k last).0
]

-- what is known of the whole file
pub record Known (c : Cut) (images : List (List ℕ)) : Type 0 where
  pub fit : Fit c
  pub first : c.first < length images
  pub version_from : 0 < c.version
  pub version_to : c.version ≤ 4294901760
  pub key : key_at images c.first ≡ key_of c.url
  pub version : (header_at images c.first).version ≡ c.version

sane : (c : Cut) (images : List (List ℕ)) (k : ℕ) (next : ℤ) → Known c images → k < count c → negsuc 0 ≤ℤ next → next <ℤ pos (length images) → IsSane (header c k next) (length images) c.slot
sane c images k next known place from below =
    let short = short_piece c k in
    record {
      first_from = search rules;
      first_below = search rules;
      next_from = from;
      next_below = below;
      version_from = known.version_from;
      version_to = known.version_to;
      payload_from = positive_piece c k known.fit place;
      payload_to = omega (arith, short, known.fit.room);
    }

belongs : (c : Cut) (images : List (List ℕ)) (k t : ℕ) (next : ℤ) → Known c images → Says c images k t next → t < length images → k < count c → negsuc 0 ≤ℤ next → next <ℤ pos (length images) → BelongsTo c.slot images c.first t
belongs c images k t next known says within place from below = record {
  sane = record { within = within; sane = subst (λ h. IsSane h (length images) c.slot) (sym says.header) (sane c images k next known place from below) };
  key = says.key ∙ sym known.key;
  version = ap (λ h. h.version) says.header ∙ sym known.version;
  first = ap (λ h. h.first_slot) says.header;
}

belong_from : (c : Cut) (images : List (List ℕ)) (k : ℕ) (chain : List ℕ) → Known c images → SayFrom c images k chain → AllByRecursion (λ s. s < length images) chain → AllByRecursion (BelongsTo c.slot images c.first) chain
belong_from c images k [] known say within = tt
belong_from c images k (s ∷ []) known say within = (belongs c images k s (negsuc 0) known say.0 within.0 (omega (arith, say.1)) (search rules) (search rules), tt)
belong_from c images k (s ∷ t ∷ rest) known say within =
    let left = places_left c images (k + 1) (t ∷ rest) say.1 in
    (belongs c images k s (pos t) known say.0 within.0 (omega (arith, left)) (search rules) (search rules), belong_from c images (k + 1) (t ∷ rest) known say.1 within.1)

-- ---- what stands in the slots is what they say

stand_count : (c : Cut) (images : List (List ℕ)) (k : ℕ) (chain : List ℕ) → StandFrom c images k chain → k + length chain ≡ count c
stand_count c images k [] stand = absurd stand
stand_count c images k (s ∷ []) stand = stand.1
stand_count c images k (s ∷ t ∷ rest) stand = let more = stand_count c images (k + 1) (t ∷ rest) stand.1 in omega (arith, more)

any_below : (n : ℕ) (xs : List ℕ) (q : ℕ) → AllByRecursion (λ s. s < n) xs → list_any (nat_eq q) xs ≡ true → q < n
any_below n [] q all there = absurd (false≢true there)
any_below n (x ∷ xs) q all there =
    elim (nat_eq q x) as (λ b. nat_eq q x ≡ b → (b || list_any (nat_eq q) xs) ≡ true → q < n) [
      | true ↦ λ same t. let is : q ≡ x = grind (arith, nat_tests) in omega (arith, is, all.0)
      | false ↦ λ differ t. any_below n xs q all.1 t
    ] refl there

few_slots : (n : ℕ) (chain : List ℕ) → IsDistinct nat_eq chain → AllByRecursion (λ s. s < n) chain → length chain ≤ n
few_slots n chain once all = length-le_from_distinct_below chain n once (λ q there. any_below n chain q all there)

-- headers and payloads are read as they were built
pub record Reads : Type 0 where
  pub header : (h : Header) (part : List ℕ) (slot : ℕ) → IsInRange h → header_of (slot_image h part slot) ≡ h
  pub payload : (h : Header) (part : List ℕ) (slot : ℕ) → IsInRange h → length part ≡ h.payload_size → payload_of (slot_image h part slot) ≡ part

pub record Ranged (c : Cut) : Type 0 where
  pub small : IsBytes (key_of c.url)
  pub long : length (key_of c.url) ≡ 16
  pub size : length (content c) < 2 ^ 64
  pub slot : c.slot < 2 ^ 32
  pub version : c.version < 2 ^ 32
  pub first : c.first < 2 ^ 31

says : (c : Cut) (images : List (List ℕ)) (k s : ℕ) (next : ℤ) → Reads → Ranged c → FitsSigned w32 next → image_at images s ≡ image c k next → Says c images k s next
says c images k s next reads ranged fits is =
    let short = short_piece c k in
    let range = header_in_range c k next ranged.small ranged.size (omega (arith, short, ranged.slot)) ranged.version ranged.first fits in
    record {
      header = ap header_of is ∙ reads.header (header c k next) (payload c k) c.slot range;
      payload = ap payload_of is ∙ reads.payload (header c k next) (payload c k) c.slot range refl;
      key = ap (take 16) is ∙ key_of_image c k next ranged.small ranged.long;
    }

say_from : (c : Cut) (images : List (List ℕ)) (k : ℕ) (chain : List ℕ) → Reads → Ranged c → length images ≤ 1048576 → AllByRecursion (λ s. s < length images) chain → StandFrom c images k chain → SayFrom c images k chain
say_from c images k [] reads ranged few within stand = absurd stand
say_from c images k (s ∷ []) reads ranged few within stand = (says c images k s (negsuc 0) reads ranged (search rules) stand.0, stand.1)
say_from c images k (s ∷ t ∷ rest) reads ranged few within stand =
    let below : t < length images = within.1.0 in
    (says c images k s (pos t) reads ranged (search rules) stand.0, say_from c images (k + 1) (t ∷ rest) reads ranged few within.1 stand.1)

-- ---- the whole

-- what the first slot says
pub record FirstSays (c : Cut) (images : List (List ℕ)) : Type 0 where
  pub key : key_at images c.first ≡ key_of c.url
  pub version : (header_at images c.first).version ≡ c.version
  pub payload : payload_at images c.first ≡ payload c 0

first_says : (c : Cut) (images : List (List ℕ)) (behind : List ℕ) → SayFrom c images 0 (c.first ∷ behind) → FirstSays c images
first_says c images [] say = record { key = say.0.key; version = ap (λ h. h.version) say.0.header; payload = say.0.payload }
first_says c images (t ∷ behind) say = record { key = say.0.key; version = ap (λ h. h.version) say.0.header; payload = say.0.payload }

-- what is known of metadata that was written
pub record Writes : Type 0 where
  pub size : (key url : List ℕ) → length key ≡ 16 → length (meta_bytes key url) ≡ 32 + length url
  pub spelled : (key url more : List ℕ) → length key ≡ 16 → 32 + length url < 2 ^ 32 → Spells (take (32 + length url) (meta_bytes key url ++ more)) key url (32 + length url)

last_place : (n m : ℕ) → 0 < m → 0 + m ≡ n → (n - 1) + 1 ≡ n
last_place n m some is = omega arith

small_content : (c : Cut) (slots : ℕ) → Fit c → (count c - 1) + 1 ≡ count c → count c ≤ slots → slots ≤ 1048576 → c.slot < 2 ^ 32 → length (content c) < 2 ^ 64
small_content c slots fit place few most sized =
    let last = fit.last (count c - 1) place in
    let short = short_piece c (count c - 1) in
    let rooms : (count c - 1) * room_of c.slot ≤ 1048576 * 4294967296 = mul-le-mul {n₂ = 1048576} {m₂ = 4294967296} (omega (arith, few, most)) (omega (arith, sized)) in
    omega (arith, last.1, short, rooms, sized)

first_payload : (c : Cut) → payload c 0 ≡ take (room_of c.slot) (content c)
first_payload c = ap (λ n. take (room_of c.slot) (drop n (content c))) (zero-mul (room_of c.slot))

pub entry_stands : (c : Cut) (images : List (List ℕ)) (chain : List ℕ) → Reads → Writes → Fit c → IsBytes (key_of c.url) → length (key_of c.url) ≡ 16 → IsWritable c → length images ≤ 1048576 → Stand c images chain
    → IsComplete c.slot images (entry_of c chain)
entry_stands c images chain reads writes fit small long may few stand =
    let within = recursion_from_All (λ s. s < length images) chain stand.within in
    let places = stand_count c images 0 chain stand.pieces in
    let some : length chain ≡ suc (length stand.behind) = ap length stand.begins in
    let fewer = few_slots (length images) chain stand.once within in
    let place = last_place (count c) (length chain) (omega (arith, some)) places in
    let first : c.first < length images = (subst (AllByRecursion (λ s. s < length images)) stand.begins within).0 in
    let ranged : Ranged c = record {
      small = small;
      long = long;
      size = small_content c (length images) fit place (omega (arith, fewer, places)) few may.sized;
      slot = may.sized;
      version = omega (arith, may.version_to);
      first = omega (arith, first, few);
    } in
    let say = say_from c images 0 chain reads ranged few within stand.pieces in
    let front = first_says c images stand.behind (subst (SayFrom c images 0) stand.begins say) in
    let known : Known c images = record {
      fit = fit;
      first = first;
      version_from = may.version_from;
      version_to = may.version_to;
      key = front.key;
      version = front.version;
    } in
    let meta = meta_bytes (key_of c.url) c.url in
    let size = 32 + length c.url in
    let sum = sizes_from c images 0 chain fit say in
    let sizes : sum_by (λ t. (header_at images t).payload_size) chain ≡ length (content c) = omega (arith, sum, zero-mul (room_of c.slot)) in
    let joined : flat_map (payload_at images) chain ≡ content c = ap (λ n. take n (content c) ++ flat_map (payload_at images) chain) (sym (zero-mul (room_of c.slot))) ∙ joined_from c images 0 chain fit say in
    record {
      chain = record {
        behind = stand.behind;
        begins = stand.begins;
        belong = All-from_recursion (BelongsTo c.slot images c.first) chain (belong_from c images 0 chain known say within);
        linked = links_from c images 0 chain say;
        once = stand.once;
      };
      full = full_from c images 0 chain fit say;
      whole = whole_from c images 0 chain (sum_by (λ t. (header_at images t).payload_size) chain) sizes say;
      size = size;
      meta =
          subst (λ bytes. Spells bytes (key_of c.url) c.url size)
          (sym (ap (take size) (front.payload ∙ first_payload c) ∙ take-take size (room_of c.slot) (content c) (omega (arith, may.short))))
          (writes.spelled (key_of c.url) c.url c.body long (omega (arith, may.short, may.sized)));
      key = sym front.key;
      key_of_url = refl;
      url = may.url;
      version = sym front.version;
      body = sym (ap (drop size) joined ∙ (ap (λ n. drop n (content c)) (sym (writes.size (key_of c.url) c.url long)) ∙ drop-append_seam meta c.body));
    }
