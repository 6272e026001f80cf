-- From a chain to a complete entry.
use Rattle.std.proofs.Common.{◌≡◌, ℕ, ◌<◌, ◌≤◌, List, [], ◌∷◌, length, take, drop, refl, ap, ◌∙◌, subst}
use Rattle.std.specs.Prelude.{Option, None, Some, MatchOption, All}
use Rattle.std.specs.List.{AllByRecursion}
use Rattle.std.proofs.lemmas.List.Elements.{recursion_from_All, All-from_recursion}
use Rattle.swap_meta.specs.Meta.{Spells}
use Rattle.rebuild_model.specs.Image.{header_at, key_at, image_at, payload_at, BelongsTo}
use Rattle.rebuild_model.specs.Entry.{Entry, IsChain, IsComplete, content_of}
use Rattle.rebuild_model.specs.Plain.{IsWhole, IsNamed}
use Rattle.rebuild_model.proofs.Chains.{one_chain}
use Rattle.plain_rebuild.proofs.Walking.{chain_below}

-- what is told of an option that is there, and of one that is not
pub at_some : {X : Type 0} (A : Type 0) (B : X → Type 0) {o : Option X} {x : X} → o ≡ Some x → MatchOption o A B → B x
at_some A B is told = subst (λ o. MatchOption o A B) is told

pub at_none : {X : Type 0} (A : Type 0) (B : X → Type 0) {o : Option X} → o ≡ None → MatchOption o A B → A
at_none A B is told = subst (λ o. MatchOption o A B) is told

-- what is told of an image and a payload is told of the same
pub retold : {image image2 payload payload2 : List ℕ} (key url : List ℕ) (size : ℕ) → image ≡ image2 → payload ≡ payload2 → IsNamed image payload key url size → IsNamed image2 payload2 key url size
retold key url size images payloads named = record {
  meta = subst (λ p. Spells (take size p) key url size) payloads named.meta;
  slot_key = named.slot_key ∙ ap (take 16) images;
  key_of_url = named.key_of_url;
  checked = named.checked;
}

within_all : (slot : ℕ) (images : List (List ℕ)) (s : ℕ) (xs : List ℕ) → AllByRecursion (BelongsTo slot images s) xs → AllByRecursion (λ t. t < length images) xs
within_all slot images s [] all = tt
within_all slot images s (x ∷ xs) all = (all.0.sane.within, within_all slot images s xs all.1)

-- the slots of a chain are slots of the file
pub there : (slot : ℕ) (images : List (List ℕ)) (s : ℕ) (chain : List ℕ) → IsChain slot images s chain → All (λ t. t < length images) chain
there slot images s chain c = All-from_recursion (λ t. t < length images) chain (within_all slot images s chain (recursion_from_All (BelongsTo slot images s) chain c.belong))

-- and no more than those
pub few : (slot : ℕ) (images : List (List ℕ)) (s : ℕ) (chain : List ℕ) → IsChain slot images s chain → length chain ≤ length images
few slot images s chain c = chain_below slot images s chain c.once (recursion_from_All (BelongsTo slot images s) chain c.belong)

-- an entry at this slot has this chain
pub its_chain : (slot : ℕ) (images : List (List ℕ)) (s : ℕ) (e : Entry) → IsComplete slot images e → e.first ≡ s → IsChain slot images s e.chain
its_chain slot images s e c same = subst (λ t. IsChain slot images t e.chain) same c.chain

-- its slots are full
pub is_whole : (slot : ℕ) (images : List (List ℕ)) (s : ℕ) (chain : List ℕ) (e : Entry) → IsChain slot images s chain → IsComplete slot images e → e.first ≡ s → IsWhole slot images chain
is_whole slot images s chain e here c same =
    subst (IsWhole slot images) (one_chain slot images s e.chain chain (its_chain slot images s e c same) here) record { full = c.full; size = c.whole }

-- and it is named
pub is_named : (slot : ℕ) (images : List (List ℕ)) (s : ℕ) (e : Entry) → (c : IsComplete slot images e) → e.first ≡ s → IsNamed (image_at images s) (payload_at images s) e.key e.url c.size
is_named slot images s e c same = record {
  meta = subst (λ t. Spells (take c.size (payload_at images t)) e.key e.url c.size) same c.meta;
  slot_key = subst (λ t. e.key ≡ key_at images t) same c.key;
  key_of_url = c.key_of_url;
  checked = c.url;
}

-- the entry of a chain whose first slot is named so
abbrev pub entry_of : List (List ℕ) → ℕ → List ℕ → List ℕ → List ℕ → ℕ → Entry
entry_of images s chain key url size = record {
  first = s;
  version = (header_at images s).version;
  key = key;
  url = url;
  chain = chain;
  body = drop size (content_of images chain);
}

-- is complete
pub complete : (slot : ℕ) (images : List (List ℕ)) (s : ℕ) (chain key url : List ℕ) (size : ℕ) → IsChain slot images s chain → IsWhole slot images chain
    → IsNamed (image_at images s) (payload_at images s) key url size → IsComplete slot images (entry_of images s chain key url size)
complete slot images s chain key url size c w n = record {
  chain = c;
  full = w.full;
  whole = w.size;
  size = size;
  meta = n.meta;
  key = n.slot_key;
  key_of_url = n.key_of_url;
  url = n.checked;
  version = refl;
  body = refl;
}
