-- One slot more that was read.
use Rattle.std.proofs.Common.{◌≡◌, inl, inr, ℕ, ◌+◌, ◌<◌, ◌≤◌, max, List, [], ◌∷◌, ◌++◌, length, take, drop, get_or, ap, sym, refl, ◌∙◌, subst, arith}
use Rattle.std.specs.Prelude.{Option, Some, None, MatchOption}
use Rattle.std.proofs.lemmas.Bool.{cases_lt}
use Rattle.std.proofs.lemmas.List.{get_or_append_left, get_or_push, length_push, length-drop, length-append, drop-append-le, take-append-le}
use Rattle.std.proofs.Math.Seq.{drop-append_seam, take-length}
use Rattle.slot_cell.specs.declared.header.Header.{Header}
use Rattle.slot_cell.specs.Header.{header_of, IsSane}
use Rattle.rebuild_model.specs.Image.{image_at}
use Rattle.rock_rebuild.specs.Kept.{IsHeaderOf, TellsHeader, SaysHead, TellsHead, AreHeaders, AreHeads, IsGreatestOf, url_in}
use Rattle.rock_rebuild.specs.declared.entry_head.Head.{Head}

-- what holds at each place of two lists, and of one more element of each, holds at each place of the longer lists
each_more : {X Y : Type 0} (P : ℕ → X → Y → Type 0) (d : X) (e : Y) (xs : List X) (ys : List Y) (x : X) (y : Y) → length ys ≡ length xs
    → ((k : ℕ) → k < length xs → P k (get_or xs k d) (get_or ys k e)) → P (length xs) x y
    → (k : ℕ) → k < length (xs ++ x ∷ []) → P k (get_or (xs ++ x ∷ []) k d) (get_or (ys ++ y ∷ []) k e)
each_more P d e xs ys x y same each here k within =
    elim (cases_lt k (length xs)) as (λ _. P k (get_or (xs ++ x ∷ []) k d) (get_or (ys ++ y ∷ []) k e)) [
      | inl below ↦
          let left = sym (get_or_append_left xs (x ∷ []) d k below) in
          let right = sym (get_or_append_left ys (y ∷ []) e k (omega arith)) in
          subst (λ a. P k a (get_or (ys ++ y ∷ []) k e)) left (subst (λ b. P k (get_or xs k d) b) right (each k below))
      | inr above ↦
          let last : length xs ≡ k = omega (arith, length_push xs x) in
          let left = sym (get_or_push xs x d k last) in
          let right = sym (get_or_push ys y e k (same ∙ last)) in
          subst (λ a. P k a (get_or (ys ++ y ∷ []) k e)) left (subst (λ b. P k x b) right (subst (λ j. P j x y) last here))
    ]

pub headers_more : (slots slot : ℕ) (images : List (List ℕ)) (image : List ℕ) (headers : List (Option Header)) (header : Option Header) → AreHeaders slots slot images headers → TellsHeader slots slot image header
    → AreHeaders slots slot (images ++ image ∷ []) (headers ++ header ∷ [])
headers_more slots slot images image headers header are tells = record {
  count = length_push headers header ∙ ap (λ n. n + 1) are.count ∙ sym (length_push images image);
  each = each_more (λ k i h. TellsHeader slots slot i h) [] None images headers image header are.count are.each tells;
}

-- a URL in the buffer stays where more come behind it
url_still : (urls more : List ℕ) (head : Head) → head.from + head.size ≤ length urls → url_in (urls ++ more) head ≡ url_in urls head
url_still urls more head within =
    let behind = length-drop head.from urls in
    ap (take head.size) (drop-append-le head.from urls more (omega (arith, within))) ∙ take-append-le head.size (drop head.from urls) more (omega (arith, within, behind))

tells_still : (slots slot number : ℕ) (image urls more : List ℕ) (head : Option Head) → TellsHead slots slot number image urls head → TellsHead slots slot number image (urls ++ more) head
tells_still slots slot number image urls more None none = none
tells_still slots slot number image urls more (Some head) is = record {
  within = omega (arith, is.within, length-append urls more);
  says = subst (λ u. SaysHead number image u head.length) (sym (url_still urls more head is.within)) is.says;
}

pub heads_more : (slots slot number : ℕ) (images : List (List ℕ)) (image : List ℕ) (heads : List (Option Head)) (head : Option Head) (urls more after : List ℕ) → length images ≡ number → after ≡ urls ++ more → AreHeads slots slot images urls heads
    → TellsHead slots slot number image after head → AreHeads slots slot (images ++ image ∷ []) after (heads ++ head ∷ [])
heads_more slots slot number images image heads head urls more after last grown are tells = record {
  count = length_push heads head ∙ ap (λ n. n + 1) are.count ∙ sym (length_push images image);
  each = each_more (λ k i h. TellsHead slots slot k i after h) [] None images heads image head are.count
      (λ k within. subst (λ u. TellsHead slots slot k (image_at images k) u (get_or heads k None)) (sym grown) (tells_still slots slot k (image_at images k) urls more (get_or heads k None) (are.each k within)))
      (subst (λ n. TellsHead slots slot n image after head) (sym last) tells);
}

-- the URL that was put behind the others is where it is said to lie
pub put_is : (urls url after : List ℕ) (from size : ℕ) → after ≡ urls ++ url → from ≡ length urls → size ≡ length url → take size (drop from after) ≡ url
put_is urls url after from size grown starts long =
    ap (λ l. take size (drop from l)) grown ∙ ap (λ n. take size (drop n (urls ++ url))) starts ∙ ap (take size) (drop-append_seam urls url) ∙ ap (λ n. take n url) long ∙ take-length url

-- the version of a sane one of these slots is at most this
abbrev AtMost : ℕ → ℕ → ℕ → List ℕ → Type 0
AtMost slots slot greatest image = IsSane (header_of image) slots slot → (header_of image).version ≤ greatest

above_more : (slots slot : ℕ) (images : List (List ℕ)) (image : List ℕ) (greatest : ℕ) → ((k : ℕ) → k < length images → AtMost slots slot greatest (image_at images k)) → AtMost slots slot greatest image
    → (k : ℕ) → k < length (images ++ image ∷ []) → AtMost slots slot greatest (image_at (images ++ image ∷ []) k)
above_more slots slot images image greatest above here k within =
    each_more (λ k i _. AtMost slots slot greatest i) [] [] images images image image refl above here k within

-- a sane slot with this version
abbrev IsThere : ℕ → ℕ → List (List ℕ) → ℕ → Type 0
IsThere slots slot images version = (k : ℕ) × (k < length images) × IsSane (header_of (image_at images k)) slots slot × ((header_of (image_at images k)).version ≡ version)

there_still : (slots slot : ℕ) (images : List (List ℕ)) (image : List ℕ) (version : ℕ) → IsThere slots slot images version → IsThere slots slot (images ++ image ∷ []) version
there_still slots slot images image version there =
    let same = sym (get_or_append_left images (image ∷ []) [] there.0 there.1) in
    (there.0, omega (arith, there.1, length_push images image), subst (λ i. IsSane (header_of i) slots slot) same there.2, subst (λ i. (header_of i).version ≡ version) same there.3)

there_now : (slots slot : ℕ) (images : List (List ℕ)) (image : List ℕ) (h : Header) → IsHeaderOf slots slot image h → IsThere slots slot (images ++ image ∷ []) h.version
there_now slots slot images image h is =
    let same = sym (get_or_push images image [] (length images) refl) in (
      length images,
      omega (arith, length_push images image),
      subst (λ i. IsSane (header_of i) slots slot) same (subst (λ u. IsSane u slots slot) is.is is.sane),
      subst (λ i. (header_of i).version ≡ h.version) same (ap (λ u. u.version) (sym is.is)),
    )

pub greatest_more : (slots slot : ℕ) (images : List (List ℕ)) (image : List ℕ) (header : Option Header) (greatest after : ℕ) → IsGreatestOf slots slot images greatest → TellsHeader slots slot image header
    → MatchOption header (after ≡ greatest) (λ h. after ≡ max greatest h.version) → IsGreatestOf slots slot (images ++ image ∷ []) after
greatest_more slots slot images image None greatest after g not same = subst (IsGreatestOf slots slot (images ++ image ∷ [])) (sym same) record {
  above = above_more slots slot images image greatest g.above (λ sane. absurd (not sane));
  there = λ some. there_still slots slot images image greatest (g.there some);
}
greatest_more slots slot images image (Some h) greatest after g is grows = record {
  above = above_more slots slot images image after (λ k within sane. let old = g.above k within sane in omega (arith, grows, old)) (λ sane. let same : h.version ≡ (header_of image).version = ap (λ u. u.version) is.is in omega (arith, grows, same));
  there = λ some. elim (cases_lt greatest h.version) as (λ _. IsThere slots slot (images ++ image ∷ []) after) [
    | inl less ↦
        let now : h.version ≡ after = omega (arith, grows, less) in
        subst (IsThere slots slot (images ++ image ∷ [])) now (there_now slots slot images image h is)
    | inr more ↦
        let still : greatest ≡ after = omega (arith, grows, more) in
        subst (IsThere slots slot (images ++ image ∷ [])) still (there_still slots slot images image greatest (g.there (omega (arith, some, still))))
  ];
}
