-- What is written is metadata, and no metadata is a prefix of other metadata.
use Rattle.std.proofs.Common.{◌≡◌, ℕ, ◌+◌, ◌-◌, ◌^◌, ◌<◌, ◌≤◌, List, [], ◌∷◌, ◌++◌, length, take, drop, refl, sym, ap, subst, ◌∙◌, arith}
use Rattle.std.specs.Int.{w32, to_le_bytes}
use Rattle.std.proofs.lemmas.List.{append-nil, drop-drop, length-append, take_at, take_all}
use Rattle.swap_meta.specs.Meta.{Item, item_bytes, Spells, meta_bytes}
use Rattle.swap_meta.proofs.Walk.{length-item_bytes}
use Rattle.swap_meta.proofs.OneOutcome.{spelled_once}

-- what is the same from a place on is the same from a later place on
pub same_later : (xs ys : List ℕ) (m n : ℕ) → m ≤ n → drop m xs ≡ drop m ys → drop n xs ≡ drop n ys
same_later xs ys m n later same =
    let at : n ≡ m + (n - m) = omega arith in
    ap (λ (k : ℕ). drop k xs) at ∙ sym (drop-drop (n - m) m xs) ∙ ap (drop (n - m)) same ∙ drop-drop (n - m) m ys ∙ ap (λ (k : ℕ). drop k ys) (sym at)

-- how many bytes are written
pub length-meta_bytes : (key url : List ℕ) → length key ≡ 16 → length (meta_bytes key url) ≡ 32 + length url
length-meta_bytes key url sixteen =
    let value = url ++ 0 ∷ [] in
    let url_item : Item = record { kind = 4; value = value } in
    let key_item : Item = record { kind = 3; value = key } in
    omega (arith, length-item_bytes key_item (item_bytes url_item), length-item_bytes url_item [], ap length (append-nil (item_bytes url_item)), length-append url (0 ∷ []))

-- what is written is metadata
pub meta_spelled : (key url : List ℕ) → length key ≡ 16 → 32 + length url < 2 ^ 32 → Spells (meta_bytes key url) key url (32 + length url)
meta_spelled key url sixteen fits =
    let url_item : Item = record { kind = 4; value = url ++ 0 ∷ [] } in
    let key_item : Item = record { kind = 3; value = key } in
    record {
      items = key_item ∷ url_item ∷ [];
      size = length-meta_bytes key url sixteen;
      fits = fits;
      spelled = ap (λ (last : List ℕ). 3 ∷ (to_le_bytes w32 (32 + length url) ++ (item_bytes key_item ++ last))) (sym (append-nil (item_bytes url_item)));
      one_key = refl;
      sixteen = sixteen;
      one_url = refl;
    }

-- the same of bytes that were found to be these
pub written_spelled : (bytes key url : List ℕ) (n : ℕ) → length key ≡ 16 → 32 + length url < 2 ^ 32 → n ≡ 32 + length url → bytes ≡ meta_bytes key url → Spells bytes key url n
written_spelled bytes key url n sixteen fits size written =
    subst (λ (m : ℕ). Spells bytes key url m) (sym size) (subst (λ (front : List ℕ). Spells front key url (32 + length url)) (sym written) (meta_spelled key url sixteen fits))

-- and of what is written, with bytes behind it
pub front_spelled : (key url more : List ℕ) → length key ≡ 16 → 32 + length url < 2 ^ 32 → Spells (take (32 + length url) (meta_bytes key url ++ more)) key url (32 + length url)
front_spelled key url more sixteen fits =
    written_spelled (take (32 + length url) (meta_bytes key url ++ more)) key url (32 + length url) sixteen fits refl
    (take_at (meta_bytes key url) more (32 + length url) (length-meta_bytes key url sixteen))

-- metadata that begins with other metadata says the same
pub prefix_same : (bytes more key url key2 url2 : List ℕ) (n n2 : ℕ) → Spells bytes key url n → Spells (bytes ++ more) key2 url2 n2 → (key ≡ key2) × (url ≡ url2) × (n ≡ n2)
prefix_same bytes more key url key2 url2 n n2 short long =
    let whole : length (bytes ++ more) ≤ n2 = omega (arith, long.size) in
    let front : Spells (take n (bytes ++ more)) key url n = subst (λ (xs : List ℕ). Spells xs key url n) (sym (take_at bytes more n short.size)) short in
    let all : Spells (take n2 (bytes ++ more)) key2 url2 n2 = subst (λ (xs : List ℕ). Spells xs key2 url2 n2) (sym (take_all n2 (bytes ++ more) whole)) long in
    spelled_once (bytes ++ more) key url key2 url2 n n2 front all
