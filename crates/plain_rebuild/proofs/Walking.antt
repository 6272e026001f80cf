-- A chain that is walked from its first slot.
use Rattle.std.proofs.Common.{◌≡◌, ℕ, ◌<◌, ◌≤◌, Bool, true, false, List, [], ◌∷◌, ◌++◌, length, refl, ap, sym, ◌∙◌, subst, arith, append_assoc}
use Rattle.std.specs.Prelude.{pos, negsuc, Contains, All, nat_eq, ◌||◌}
use Rattle.std.specs.List.{IsDistinct, AllByRecursion, list_any}
use Rattle.std.proofs.lemmas.Bool.{false≢true}
use Rattle.std.proofs.lemmas.Bool.Decides.{nat_tests}
use Rattle.std.proofs.lemmas.List.{length_push}
use Rattle.std.proofs.lemmas.List.Elements.{All-contains, Contains-append_right, recursion_from_All, All-from_recursion}
use Rattle.std.proofs.lemmas.Map.Steps.{length-le_from_distinct_below}
use Rattle.rebuild_model.specs.Image.{header_at, BelongsTo, Links}
use Rattle.rebuild_model.specs.Entry.{IsChain}
use Rattle.rebuild_model.proofs.Chains.{ends_not, same_next}

-- so far the walk came over `chain` and is at a slot, and every chain that begins there goes the same way
pub record Walked (slot : ℕ) (images : List (List ℕ)) (first : ℕ) (chain : List ℕ) (at : ℕ) : Type 0 where
  pub belong : All (BelongsTo slot images first) chain
  pub once : IsDistinct nat_eq chain
  pub begins : (tail : List ℕ) → (behind : List ℕ) × (chain ++ at ∷ tail ≡ first ∷ behind)
  pub linked : (tail : List ℕ) → Links images (at ∷ tail) → Links images (chain ++ at ∷ tail)
  pub every : (whole : List ℕ) → IsChain slot images first whole → (rest : List ℕ) × (whole ≡ chain ++ at ∷ rest)

pub at_first : (slot : ℕ) (images : List (List ℕ)) (first : ℕ) → Walked slot images first [] first
unfolding IsDistinct
at_first slot images first = record {
  belong = λ k d within. absurd (omega arith);
  once = tt;
  begins = λ tail. (tail, refl);
  linked = λ tail l. l;
  every = λ whole c. (c.behind, c.begins);
}

pub parts : (a b : Bool) → (a || b) ≡ false → (a ≡ false) × (b ≡ false)
parts false b e = (refl, e)
parts true b e = absurd (false≢true (sym e))

push_all : (P : ℕ → Type 0) (xs : List ℕ) (y : ℕ) → AllByRecursion P xs → P y → AllByRecursion P (xs ++ y ∷ [])
push_all P [] y all here = (here, tt)
push_all P (x ∷ xs) y all here = (all.0, push_all P xs y all.1 here)

pub push_once : (xs : List ℕ) (y : ℕ) → IsDistinct nat_eq xs → list_any (λ x. nat_eq x y) xs ≡ false → IsDistinct nat_eq (xs ++ y ∷ [])
unfolding IsDistinct
push_once [] y once new = (tt, tt)
push_once (x ∷ xs) y once new =
    let both = parts (nat_eq x y) (list_any (λ x. nat_eq x y) xs) new in
    (push_all (λ w. nat_eq x w ≡ false) xs y once.0 both.0, push_once xs y once.1 both.1)

all_at : (P : ℕ → Type 0) (xs zs : List ℕ) (y : ℕ) → AllByRecursion P (xs ++ y ∷ zs) → P y
all_at P [] zs y all = all.0
all_at P (x ∷ xs) zs y all = all_at P xs zs y all.1

-- a slot that came before is not in a chain again
pub came_twice : (xs zs : List ℕ) (y : ℕ) → list_any (λ x. nat_eq x y) xs ≡ true → IsDistinct nat_eq (xs ++ y ∷ zs) → ⊥
unfolding IsDistinct
came_twice [] zs y there once = false≢true there
came_twice (x ∷ xs) zs y there once =
    let apart : nat_eq x y ≡ false = all_at (λ w. nat_eq x w ≡ false) xs zs y once.0 in
    came_twice xs zs y (sym (ap (λ b. b || list_any (λ x. nat_eq x y) xs) apart) ∙ there) once.1

links_behind : (images : List (List ℕ)) (xs zs : List ℕ) (y : ℕ) → Links images (xs ++ y ∷ zs) → Links images (y ∷ zs)
links_behind images [] zs y l = l
links_behind images (x ∷ []) zs y l = l.1
links_behind images (x ∷ w ∷ xs) zs y l = links_behind images (w ∷ xs) zs y l.1

goes_on : (images : List (List ℕ)) (at next : ℕ) (rest : List ℕ) → (header_at images at).next_slot ≡ pos next → Links images (at ∷ rest) → (behind : List ℕ) × (rest ≡ next ∷ behind)
goes_on images at next [] goes l = absurd (ends_not l goes)
goes_on images at next (u ∷ rest) goes l = (rest, ap (λ v. v ∷ rest) (same_next l.0 goes))

-- the walk goes on
pub one_more : (slot : ℕ) (images : List (List ℕ)) (first : ℕ) (chain grown : List ℕ) (at next : ℕ) → Walked slot images first chain at → grown ≡ chain ++ at ∷ []
    → BelongsTo slot images first at → list_any (λ x. nat_eq x at) chain ≡ false → (header_at images at).next_slot ≡ pos next → Walked slot images first grown next
one_more slot images first chain grown at next w grows belongs new goes =
    subst (λ g. Walked slot images first g next) (sym grows) record {
      belong = All-from_recursion (BelongsTo slot images first) (chain ++ at ∷ []) (push_all (BelongsTo slot images first) chain at (recursion_from_All (BelongsTo slot images first) chain w.belong) belongs);
      once = push_once chain at w.once new;
      begins = λ tail. let b = w.begins (next ∷ tail) in (b.0, append_assoc chain (at ∷ []) (next ∷ tail) ∙ b.1);
      linked = λ tail l. subst (Links images) (sym (append_assoc chain (at ∷ []) (next ∷ tail))) (w.linked (next ∷ tail) (goes, l));
      every = λ whole c.
          let rest = w.every whole c in
          let behind = goes_on images at next rest.0 goes (links_behind images chain rest.0 at (subst (Links images) rest.1 c.linked)) in
          (behind.0, rest.1 ∙ ap (λ r. chain ++ at ∷ r) behind.1 ∙ sym (append_assoc chain (at ∷ []) (next ∷ behind.0)));
    }

-- the walk ends, and is the chain
pub ended : (slot : ℕ) (images : List (List ℕ)) (first : ℕ) (chain grown : List ℕ) (at : ℕ) → Walked slot images first chain at → grown ≡ chain ++ at ∷ []
    → BelongsTo slot images first at → list_any (λ x. nat_eq x at) chain ≡ false → (header_at images at).next_slot ≡ negsuc 0 → IsChain slot images first grown
ended slot images first chain grown at w grows belongs new ends =
    let b = w.begins [] in
    subst (IsChain slot images first) (sym grows) record {
      behind = b.0;
      begins = b.1;
      belong = All-from_recursion (BelongsTo slot images first) (chain ++ at ∷ []) (push_all (BelongsTo slot images first) chain at (recursion_from_All (BelongsTo slot images first) chain w.belong) belongs);
      linked = w.linked [] ends;
      once = push_once chain at w.once new;
    }

stands : (xs zs : List ℕ) (y : ℕ) → Contains (xs ++ y ∷ zs) y
stands xs zs y = Contains-append_right xs (y ∷ zs) y (0, omega arith, refl)

-- there is no chain where the walk comes to a slot that does not belong to it
pub strays : (slot : ℕ) (images : List (List ℕ)) (first : ℕ) (chain : List ℕ) (at : ℕ) → Walked slot images first chain at → (BelongsTo slot images first at → ⊥)
    → (whole : List ℕ) → IsChain slot images first whole → ⊥
strays slot images first chain at w not whole c =
    let rest = w.every whole c in
    not (All-contains (BelongsTo slot images first) whole at c.belong (subst (λ l. Contains l at) (sym rest.1) (stands chain rest.0 at)))

-- or to a slot again
pub returns_to : (slot : ℕ) (images : List (List ℕ)) (first : ℕ) (chain : List ℕ) (at : ℕ) → Walked slot images first chain at → list_any (λ x. nat_eq x at) chain ≡ true
    → (whole : List ℕ) → IsChain slot images first whole → ⊥
returns_to slot images first chain at w there whole c =
    let rest = w.every whole c in
    came_twice chain rest.0 at there (subst (IsDistinct nat_eq) rest.1 c.once)

all_below : (slot : ℕ) (images : List (List ℕ)) (first : ℕ) (xs : List ℕ) (q : ℕ) → AllByRecursion (BelongsTo slot images first) xs → list_any (nat_eq q) xs ≡ true → q < length images
all_below slot images first [] q all there = absurd (false≢true there)
all_below slot images first (x ∷ xs) q all there =
    elim (nat_eq q x) as (λ b. nat_eq q x ≡ b → (b || list_any (nat_eq q) xs) ≡ true → q < length images) [
      | true ↦ λ same t. let is : q ≡ x = grind (arith, nat_tests) in omega (arith, is, all.0.sane.within)
      | false ↦ λ differ t. all_below slot images first xs q all.1 t
    ] refl there

-- the walk is shorter than the file
pub shorter : (slot : ℕ) (images : List (List ℕ)) (first : ℕ) (chain : List ℕ) (at : ℕ) → Walked slot images first chain at → BelongsTo slot images first at
    → list_any (λ x. nat_eq x at) chain ≡ false → length chain < length images
shorter slot images first chain at w belongs new =
    let all = push_all (BelongsTo slot images first) chain at (recursion_from_All (BelongsTo slot images first) chain w.belong) belongs in
    let most = length-le_from_distinct_below (chain ++ at ∷ []) (length images) (push_once chain at w.once new) (λ q there. all_below slot images first (chain ++ at ∷ []) q all there) in
    omega (arith, most, length_push chain at)

-- a chain has at most as many slots as the file
pub chain_below : (slot : ℕ) (images : List (List ℕ)) (first : ℕ) (chain : List ℕ) → IsDistinct nat_eq chain → AllByRecursion (BelongsTo slot images first) chain → length chain ≤ length images
chain_below slot images first chain once all = length-le_from_distinct_below chain (length images) once (λ q there. all_below slot images first chain q all there)
