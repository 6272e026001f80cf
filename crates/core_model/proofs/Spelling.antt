-- Lists of slots, and link words that spell them.
use Rattle.std.proofs.Common.{◌≡◌, ◌≢◌, ℕ, zero, suc, drop, ◌+◌, ◌<◌, ◌≤◌, List, [], ◌∷◌, ◌++◌, length, sym, refl, ap, ◌∙◌, subst, arith, false, cond, ◌==◌, eq-eqb, ne_eqb}
use Rattle.std.specs.Prelude.{nat_eq}
use Rattle.std.specs.List.{IsDistinct, AllByRecursion}
use mathlib.Core.Option.{some, some-ne-none}
use lib.ListN.{get_elem?}
use Rattle.link_word.specs.declared.link.Link.{Link}
use Rattle.link_word.specs.declared.link.Link.TheVariants.{NotWritten, Last, Next}
use Rattle.link_word.specs.Words.{link_number}
use Rattle.core_model.specs.Chains.{link_to, Spells, start_number, one, times, behind_of, Fits, Tied, slots_of_link, without}
use Rattle.core_model.proofs.Lists.{by_eq}

-- one value of a function is set
abbrev pub upd : (ℕ → ℕ) → ℕ → ℕ → ℕ → ℕ
upd f p n j = cond (j == p) n (f j)

pub upd_same : (f : ℕ → ℕ) (p n : ℕ) → upd f p n p ≡ n
upd_same f p n = rw (eq-eqb p p refl) refl

pub upd_other : (f : ℕ → ℕ) (p n j : ℕ) → j ≢ p → upd f p n j ≡ f j
upd_other f p n j ne = rw (ne_eqb j p ne) refl

pub one_same : (j : ℕ) → one j j ≡ 1
one_same j = rw (eq-eqb j j refl) refl

pub times_append : (j : ℕ) (xs ys : List ℕ) → times j (xs ++ ys) ≡ times j xs + times j ys
times_append j [] ys = omega arith
times_append j (x ∷ xs) ys = let h = times_append j xs ys in omega arith

pub append_none : (xs : List ℕ) → xs ++ [] ≡ xs
append_none [] = refl
append_none (x ∷ xs) = ap (λ z. x ∷ z) (append_none xs)

pub no_items : {x : ℕ} {xs : List ℕ} → x ∷ xs ≢ []
no_items e = let h = ap length e in omega arith

abbrev first_or : ℕ → List ℕ → ℕ
first_or d [] = d
first_or d (x ∷ xs) = x

pub firsts : {x y : ℕ} {xs ys : List ℕ} → x ∷ xs ≡ y ∷ ys → x ≡ y
firsts e = ap (first_or 0) e

pub last_is_written : Last ≢ NotWritten
last_is_written e = let h = ap link_number e in omega arith

pub next_is_written : (j : ℕ) → Next j ≢ NotWritten
next_is_written j e = let h = ap link_number e in omega arith

pub next_is_not_last : (j : ℕ) → Next j ≢ Last
next_is_not_last j e = let h = ap link_number e in omega arith

-- the slot that the last link names goes behind
pub spells_more : (f : ℕ → ℕ) (xs : List ℕ) (j : ℕ) (e : Link) → Spells f xs (Next j) → f j ≡ link_number e → Spells f (xs ++ j ∷ []) e
spells_more f [] j e h is = (is, tt)
spells_more f (x ∷ []) j e h is = (h.0, (is, tt))
spells_more f (x ∷ y ∷ ys) j e h is = (h.0, spells_more f (y ∷ ys) j e h.1 is)

-- a chain with its tail, which is not written
pub spells_all : (f : ℕ → ℕ) (xs : List ℕ) (e : Link) → Fits xs e → ((t : ℕ) → e ≡ Next t → f t ≡ 0) → Spells f xs e → Spells f (xs ++ slots_of_link e) (behind_of e)
spells_all f [] NotWritten h none s = tt
spells_all f (x ∷ xs) NotWritten h none s = absurd h
spells_all f xs Last h none s = subst (λ (z : List ℕ). Spells f z Last) (sym (append_none xs)) s
spells_all f xs (Next t) h none s = spells_more f xs t NotWritten s (none t refl)

pub start_all : (xs : List ℕ) (e : Link) → Fits xs e → start_number (xs ++ slots_of_link e) ≡ start_number xs
start_all [] NotWritten h = refl
start_all [] Last h = refl
start_all [] (Next t) h = absurd h
start_all (x ∷ xs) e h = refl

-- where a link is written there is a slot
pub some_fits : (xs : List ℕ) (e : Link) → Fits xs e → e ≢ NotWritten → 0 < length xs
some_fits [] NotWritten h ne = absurd (ne refl)
some_fits [] Last h ne = absurd h
some_fits [] (Next t) h ne = absurd h
some_fits (x ∷ xs) e h ne = omega arith

pub start_some : (xs : List ℕ) → 0 < length xs → 0 < start_number xs
start_some [] h = absurd (omega arith)
start_some (x ∷ xs) h = omega arith

-- a slot that stands nowhere here can be linked anew
pub spells_else : (f : ℕ → ℕ) (p n : ℕ) (xs : List ℕ) (e : Link) → times p xs ≡ 0 → Spells f xs e → Spells (upd f p n) xs e
spells_else f p n [] e none h = tt
spells_else f p n (x ∷ xs) e none h = (upd_other f p n x (λ q. let o : one p x ≡ 1 = subst (λ (z : ℕ). one p z ≡ 1) (sym q) (one_same p) in omega arith) ∙ h.0, spells_else f p n xs e (omega arith) h.1)

-- a further reserved slot
pub tied_more : (e : Link) (xs ys : List ℕ) (p : ℕ) → e ≢ Last → Tied e xs ys → Tied e xs (ys ++ p ∷ [])
tied_more NotWritten xs ys p ne h = h
tied_more Last xs ys p ne h = absurd (ne refl)
tied_more (Next t) xs [] p ne h = absurd (no_items (sym h))
tied_more (Next t) xs (y ∷ ys) p ne h = ap (λ z. z ∷ (ys ++ p ∷ [])) (firsts h)

-- what is reserved where all of it is linked
pub tied_all : (e : Link) (xs ys : List ℕ) → Tied e xs ys → e ≡ Last → ys ≡ slots_of_link e
tied_all NotWritten xs ys h e = absurd (last_is_written (sym e))
tied_all Last xs ys h e = h
tied_all (Next t) xs ys h e = absurd (next_is_not_last t e)

pub length_more : (xs : List ℕ) (p : ℕ) → length (xs ++ p ∷ []) ≡ length xs + 1
length_more [] p = refl
length_more (x ∷ xs) p = let h = length_more xs p in omega arith

pub fewer : (p : ℕ) (xs : List ℕ) → length (without p xs) ≤ length xs
fewer p [] = omega arith
fewer p (x ∷ xs) = by_eq (λ z. length (cond z (without p xs) (x ∷ without p xs)) ≤ length (x ∷ xs)) x p (λ _. let h = fewer p xs in omega arith) (λ _. let h = fewer p xs in omega arith)

-- a reserved slot that is not linked leaves
pub tied_without : (e : Link) (xs ys : List ℕ) (p : ℕ) → e ≢ Next p → Tied e xs ys → Tied e xs (without p ys)
tied_without NotWritten xs ys p ne h = h
tied_without Last xs ys p ne h = ap (without p) h
tied_without (Next t) xs [] p ne h = absurd (no_items (sym h))
tied_without (Next t) xs (y ∷ ys) p ne h = let off = ne_eqb y p (λ q. ne (ap Next (sym (firsts h) ∙ q))) in rw off (ap (λ z. z ∷ without p ys) (firsts h))

pub one_other : (j x : ℕ) → x ≢ j → one j x ≡ 0
one_other j x ne = rw (ne_eqb x j ne) refl

-- What is published more.

-- what is published is spelled up to the first reserved slot
pub spells_next : (f : ℕ → ℕ) (e : Link) (xs : List ℕ) (j : ℕ) (rs : List ℕ) → Tied e xs (j ∷ rs) → Spells f xs e → Spells f xs (Next j)
spells_next f NotWritten xs j rs t h = subst (λ (z : List ℕ). Spells f z (Next j)) (sym t) tt
spells_next f Last xs j rs t h = absurd (no_items t)
spells_next f (Next i) xs j rs t h = subst (λ (z : ℕ). Spells f xs (Next z)) (sym (firsts t)) h

-- the last link of what is published names it
pub tied_end : (e : Link) (xs : List ℕ) (j : ℕ) (rs : List ℕ) → Fits xs e → 0 < length xs → Tied e xs (j ∷ rs) → e ≡ Next j
tied_end NotWritten [] j rs h some_slot t = absurd (omega arith)
tied_end NotWritten (x ∷ xs) j rs h some_slot t = absurd h
tied_end Last xs j rs h some_slot t = absurd (no_items t)
tied_end (Next i) xs j rs h some_slot t = ap Next (sym (firsts t))

pub tied_to : (xs rs : List ℕ) → Tied (link_to rs Last) xs rs
tied_to xs [] = refl
tied_to xs (t ∷ ts) = refl

pub fits_more : (xs : List ℕ) (j : ℕ) (rs : List ℕ) → Fits (xs ++ j ∷ []) (link_to rs Last)
fits_more [] j [] = tt
fits_more [] j (t ∷ ts) = tt
fits_more (x ∷ xs) j [] = tt
fits_more (x ∷ xs) j (t ∷ ts) = tt

pub to_is_written : (rs : List ℕ) → link_to rs Last ≢ NotWritten
to_is_written [] e = last_is_written e
to_is_written (t ∷ ts) e = next_is_written t e

pub start_more : (xs : List ℕ) (j : ℕ) → 0 < length xs → start_number (xs ++ j ∷ []) ≡ start_number xs
start_more [] j h = absurd (omega arith)
start_more (x ∷ xs) j h = refl

-- the link at a place below stays
pub link_below : (xs : List ℕ) (j : ℕ) (e : Link) (p : ℕ) → p < length xs → link_to (drop (suc p) (xs ++ j ∷ [])) e ≡ link_to (drop (suc p) xs) (Next j)
link_below [] j e p lt = absurd (omega arith)
link_below (x ∷ []) j e zero lt = refl
link_below (x ∷ y ∷ ys) j e zero lt = refl
link_below (x ∷ xs) j e (suc p) lt = link_below xs j e p (omega arith)

pub suc_is : (p : ℕ) → suc p ≡ p + 1
suc_is p = omega arith

-- what stands at a place stands there in a longer list
pub at_longer : (xs ys : List ℕ) (p slot : ℕ) → get_elem? xs p ≡ some slot → get_elem? (xs ++ ys) p ≡ some slot
at_longer [] ys p slot e = absurd (some-ne-none slot (sym e))
at_longer (x ∷ xs) ys zero slot e = e
at_longer (x ∷ xs) ys (suc p) slot e = at_longer xs ys p slot e

-- slots of which none comes twice are different ones
pub distinct : (xs : List ℕ) → ((j : ℕ) → times j xs ≤ 1) → IsDistinct nat_eq xs
unfolding IsDistinct
distinct [] h = tt
distinct (x ∷ xs) h = (others xs (let here = h x in let same = one_same x in omega arith), distinct xs (λ j. let here = h j in omega arith))
  where
    others : (ys : List ℕ) → times x ys ≡ 0 → AllByRecursion (λ y. nat_eq x y ≡ false) ys
    others [] none = tt
    others (y ∷ ys) none = (
      ne_eqb x y (λ e. let one_ : one x y ≡ 1 = ap (λ b. one x b) (sym e) ∙ one_same x in absurd (omega (arith, one_, none))),
      others ys (omega (arith, none)),
    )
