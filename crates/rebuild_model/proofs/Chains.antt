-- Chains of slots.
use Rattle.std.proofs.Common.{◌≡◌, ℕ, List, [], ◌∷◌, refl, ap, sym, ◌∙◌, subst, arith}
use Rattle.std.specs.Prelude.{ℤ, pos, negsuc, Contains}
use Rattle.std.proofs.lemmas.List.Elements.{All-contains}
use Rattle.rebuild_model.specs.Image.{header_at, BelongsTo, Links}
use Rattle.rebuild_model.specs.Entry.{IsChain}

pub ends_not : {z : ℤ} {t : ℕ} → z ≡ negsuc 0 → z ≡ pos t → ⊥
ends_not e k = cc

pub same_next : {z : ℤ} {t u : ℕ} → z ≡ pos t → z ≡ pos u → t ≡ u
same_next e k = cc

-- what goes on behind one slot goes on in one way
same_behind : (images : List (List ℕ)) (s : ℕ) (xs ys : List ℕ) → Links images (s ∷ xs) → Links images (s ∷ ys) → xs ≡ ys
same_behind images s [] [] p q = refl
same_behind images s [] (u ∷ ys) p q = absurd (ends_not p q.0)
same_behind images s (t ∷ xs) [] p q = absurd (ends_not q p.0)
same_behind images s (t ∷ xs) (u ∷ ys) p q =
    let same : t ≡ u = same_next p.0 q.0 in
    let rest : xs ≡ ys = same_behind images t xs ys p.1 (subst (λ v. Links images (v ∷ ys)) (sym same) q.1) in
    ap (λ v. v ∷ xs) same ∙ ap (λ v. u ∷ v) rest

-- one chain begins at a slot
pub one_chain : (slot : ℕ) (images : List (List ℕ)) (s : ℕ) (xs ys : List ℕ) → IsChain slot images s xs → IsChain slot images s ys → xs ≡ ys
one_chain slot images s xs ys p q =
    p.begins
    ∙ ap (λ v. s ∷ v) (same_behind images s p.behind q.behind (subst (Links images) p.begins p.linked) (subst (Links images) q.begins q.linked))
    ∙ sym q.begins

-- each slot of a chain names the chain's first
pub names_first : (slot : ℕ) (images : List (List ℕ)) (s : ℕ) (chain : List ℕ) (t : ℕ) → IsChain slot images s chain → Contains chain t → (header_at images t).first_slot ≡ pos s
names_first slot images s chain t c there = let belongs = All-contains (BelongsTo slot images s) chain t c.belong there in belongs.first

same_pos : {z : ℤ} {a b : ℕ} → z ≡ pos a → z ≡ pos b → a ≡ b
same_pos e k = cc

-- chains that share a slot begin at one slot
pub same_first : (slot : ℕ) (images : List (List ℕ)) (s t : ℕ) (xs ys : List ℕ) (shared : ℕ) → IsChain slot images s xs → IsChain slot images t ys → Contains xs shared → Contains ys shared → s ≡ t
same_first slot images s t xs ys shared p q here there = same_pos (names_first slot images s xs shared p here) (names_first slot images t ys shared q there)

first_there : (s : ℕ) (chain behind : List ℕ) → chain ≡ s ∷ behind → Contains chain s
first_there s chain behind e = subst (λ c. Contains c s) (sym e) (0, omega arith, refl)

-- the first slot of a chain belongs to itself
pub first_belongs : (slot : ℕ) (images : List (List ℕ)) (s : ℕ) (chain : List ℕ) → IsChain slot images s chain → BelongsTo slot images s s
first_belongs slot images s chain c = All-contains (BelongsTo slot images s) chain s c.belong (first_there s chain c.behind c.begins)
