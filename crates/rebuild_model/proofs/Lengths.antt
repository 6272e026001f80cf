-- How many bytes the content of a chain has.
use Rattle.std.proofs.Common.{◌≡◌, ℕ, ◌+◌, ◌≤◌, List, [], ◌∷◌, length, drop, refl, ap, ◌∙◌, arith}
use Rattle.std.specs.Prelude.{sum_by}
use Rattle.std.specs.List.{AllByRecursion}
use Rattle.std.proofs.lemmas.List.{length-take, length-drop, length-append}
use Rattle.std.proofs.lemmas.List.Elements.{recursion_from_All}
use Rattle.std.proofs.lemmas.List.Sums.{sum_by-cons}
use Rattle.rebuild_model.specs.Image.{IsFile, IsSaneAt, image_at, payload_at, BelongsTo}
use Rattle.rebuild_model.specs.Entry.{IsChain, content_of}
use Rattle.rebuild_model.specs.Plain.{size_at}
use Rattle.rebuild_model.proofs.Chains.{first_belongs}

-- a payload has as many bytes as its header says
payload_length : (slot : ℕ) (images : List (List ℕ)) (s : ℕ) → IsFile slot images → IsSaneAt slot images s → length (payload_at images s) ≡ size_at images s
payload_length slot images s f sane =
    let wide : length (image_at images s) ≡ slot = f.wide s [] sane.within in
    let behind = length-drop 40 (image_at images s) in
    let taken = length-take (size_at images s) (drop 40 (image_at images s)) in
    omega (arith, wide, behind, taken, sane.sane.payload_to)

lengths : (slot : ℕ) (images : List (List ℕ)) (s : ℕ) (xs : List ℕ) → IsFile slot images → AllByRecursion (BelongsTo slot images s) xs → length (content_of images xs) ≡ sum_by (size_at images) xs
lengths slot images s [] f all = refl
lengths slot images s (x ∷ xs) f all =
    let here = payload_length slot images x f all.0.sane in
    let rest = lengths slot images s xs f all.1 in
    let joined : length (content_of images (x ∷ xs)) ≡ length (payload_at images x) + length (content_of images xs) = length-append (payload_at images x) (content_of images xs) in
    omega (arith, here, rest, joined, sum_by-cons (size_at images) x xs)

-- so an entry's content has as many bytes as the headers say
pub content_length : (slot : ℕ) (images : List (List ℕ)) (s : ℕ) (chain : List ℕ) → IsFile slot images → IsChain slot images s chain → length (content_of images chain) ≡ sum_by (size_at images) chain
content_length slot images s chain f c = lengths slot images s chain f (recursion_from_All (BelongsTo slot images s) chain c.belong)

-- and the first payload is a part of it
pub first_size : (slot : ℕ) (images : List (List ℕ)) (s : ℕ) (chain : List ℕ) → IsFile slot images → IsChain slot images s chain → length (payload_at images s) ≤ sum_by (size_at images) chain
first_size slot images s chain f c =
    let first = payload_length slot images s f (first_belongs slot images s chain c).sane in
    let all : sum_by (size_at images) chain ≡ size_at images s + sum_by (size_at images) c.behind = ap (sum_by (size_at images)) c.begins ∙ sum_by-cons (size_at images) s c.behind in
    omega (arith, first, all)
