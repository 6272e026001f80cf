-- From a chain and what its first slot says to a complete entry.
use Rattle.std.proofs.Common.{◌≡◌, ℕ, ◌+◌, ◌-◌, List, [], ◌∷◌, length, take, drop, refl, ap, sym, ◌∙◌, subst, arith}
use Rattle.std.specs.Prelude.{Contains, Option, None, sum_by, slice_index_or}
use Rattle.std.specs.List.{AllByRecursion}
use Rattle.std.proofs.lemmas.List.{length-take, length-drop, length-append, take-take}
use Rattle.std.proofs.lemmas.List.Elements.{All-contains, recursion_from_All}
use Rattle.std.proofs.lemmas.List.Sums.{sum_by-cons}
use Rattle.swap_meta.specs.Meta.{Spells}
use Rattle.slot_cell.specs.declared.header.Header.{Header}
use Rattle.slot_cell.specs.Header.{header_of, header_bytes, IsSane}
use Rattle.rebuild_model.specs.Image.{IsFile, IsSaneAt, key_at, image_at, payload_at, BelongsTo, header_at}
use Rattle.rebuild_model.specs.Entry.{Entry, IsChain, IsComplete, content_of}
use Rattle.rebuild_model.specs.Plain.{IsFound, HasNoEntry, size_at}
use Rattle.rebuild_model.specs.declared.found.Found.{Found}
use Rattle.store_key.specs.Key.{key_of}
use Rattle.rock_rebuild.specs.Kept.{IsHeaderOf, SaysHead, HasNoHead}
use Rattle.rock_rebuild.specs.Left.{AreLeft, HasNoChain, IsChainAt}
use Rattle.rock_rebuild.specs.Gathered.{found_with}
use Rattle.rock_rebuild.proofs.Options.{not_both}

-- the first slot of a chain belongs to itself
pub first_belongs : (slot : ℕ) (images : List (List ℕ)) (s : ℕ) (chain : List ℕ) → IsChain slot images s chain → BelongsTo slot images s s
first_belongs slot images s chain c = All-contains (BelongsTo slot images s) chain s c.belong (subst (λ l. Contains l s) (sym c.begins) (0, omega arith, refl))

-- where the slot says nothing of an entry, none begins
pub no_head : (slot : ℕ) (images : List (List ℕ)) (first : ℕ) → (IsSane (header_of (image_at images first)) (length images) slot → HasNoHead first (image_at images first)) → HasNoEntry slot images first
no_head slot images first none e c same =
    let belongs : BelongsTo slot images first first = subst (λ s. BelongsTo slot images s s) same (first_belongs slot images e.first e.chain c.chain) in
    none belongs.sane.sane e.key e.url c.size belongs.first record {
      meta = subst (λ s. Spells (take c.size (payload_at images s)) e.key e.url c.size) same c.meta;
      slot_key = subst (λ s. e.key ≡ key_at images s) same c.key;
      checked = c.url;
    }

-- and where the slot's header is not left
pub no_header : (slot : ℕ) (images : List (List ℕ)) (first : ℕ) (headers : List (Option Header)) → AreLeft slot images first headers → slice_index_or headers first None ≡ None → HasNoEntry slot images first
no_header slot images first headers left none e c same =
    let belongs : BelongsTo slot images first first = subst (λ s. BelongsTo slot images s s) same (first_belongs slot images e.first e.chain c.chain) in
    not_both none (left.all first first (omega arith) belongs)

-- the key of the slot, by its header
pub key_is : (slots slot : ℕ) (image key : List ℕ) (h : Header) → IsHeaderOf slots slot image h → key ≡ take 16 (header_bytes h) → key ≡ take 16 image
key_is slots slot image key h is spelled = spelled ∙ ap (take 16) is.spelled ∙ take-take 16 40 image (omega arith)

-- and where no chain begins
pub no_chain : (slot : ℕ) (images : List (List ℕ)) (first : ℕ) → HasNoChain slot images first → HasNoEntry slot images first
no_chain slot images first none e c same = none e.chain (subst (λ s. IsChain slot images s e.chain) same c.chain) record { full = c.full; size = c.whole }

-- or where the metadata has the key of another URL
pub other_key : (slot : ℕ) (images : List (List ℕ)) (first : ℕ) (key url : List ℕ) (length : ℕ) → key ≡ key_at images first → SaysHead first (image_at images first) url length → (key ≡ key_of url → ⊥) → HasNoEntry slot images first
other_key slot images first key url length is says not e c same =
    let read = says.alone.only e.key e.url c.size (subst (λ s. Spells (take c.size (payload_at images s)) e.key e.url c.size) same c.meta) in
    not (is ∙ sym read.0 ∙ c.key_of_url ∙ ap key_of read.1)

-- a payload has as many bytes as its header says
payload_length : (slot : ℕ) (images : List (List ℕ)) (s : ℕ) → IsFile slot images → IsSaneAt slot images s → length (payload_at images s) ≡ size_at images s
payload_length slot images s f sane =
    let wide : length (image_at images s) ≡ slot = f.wide s [] sane.within in
    let behind = length-drop 40 (image_at images s) in
    let taken = length-take (size_at images s) (drop 40 (image_at images s)) in
    omega (arith, wide, behind, taken, sane.sane.payload_to)

lengths : (slot : ℕ) (images : List (List ℕ)) (s : ℕ) (xs : List ℕ) → IsFile slot images → AllByRecursion (BelongsTo slot images s) xs → length (content_of images xs) ≡ sum_by (size_at images) xs
lengths slot images s [] f all = refl
lengths slot images s (x ∷ xs) f all =
    let here = payload_length slot images x f all.0.sane in
    let rest = lengths slot images s xs f all.1 in
    let joined : length (content_of images (x ∷ xs)) ≡ length (payload_at images x) + length (content_of images xs) = length-append (payload_at images x) (content_of images xs) in
    omega (arith, here, rest, joined, sum_by-cons (size_at images) x xs)

-- the entry
abbrev pub entry_of : List (List ℕ) → ℕ → (url : List ℕ) → ℕ → List ℕ → Entry
entry_of images first url size chain = record {
  first = first;
  version = (header_at images first).version;
  key = key_at images first;
  url = url;
  chain = chain;
  body = drop size (content_of images chain);
}

pub body_length : (slot : ℕ) (images : List (List ℕ)) (first meta : ℕ) (chain : List ℕ) (size : ℕ) → IsFile slot images → IsChainAt slot images first chain size
    → size - meta ≡ length (drop meta (content_of images chain))
body_length slot images first meta chain size file is =
    let bytes = lengths slot images first chain file (recursion_from_All (BelongsTo slot images first) chain is.is.belong) in
    ap (λ n. n - meta) (is.sum ∙ sym bytes) ∙ sym (length-drop meta (content_of images chain))

pub complete : (slot : ℕ) (images : List (List ℕ)) (first : ℕ) (url : List ℕ) (meta : ℕ) (chain : List ℕ) (size : ℕ) → IsChainAt slot images first chain size → SaysHead first (image_at images first) url meta → key_at images first ≡ key_of url
    → IsComplete slot images (entry_of images first url meta chain)
complete slot images first url meta chain size is says of_url = record {
  chain = is.is;
  full = is.whole.full;
  whole = is.whole.size;
  size = meta;
  meta = says.alone.own.meta;
  key = refl;
  key_of_url = of_url;
  url = says.alone.own.checked;
  version = refl;
  body = refl;
}

-- what is told of an entry is the same where its parts are
pub same_found : (first : ℕ) {version other : ℕ} {key same url told : List ℕ} {chain more : List ℕ} {n m : ℕ} → version ≡ other → key ≡ same → url ≡ told → n ≡ m → chain ≡ more
    → found_with first version key url n chain ≡ found_with first other same told m more
same_found first v k u length chain = cc

pub found : (slot : ℕ) (images : List (List ℕ)) (first : ℕ) (version : ℕ) (key url : List ℕ) (meta : ℕ) (chain : List ℕ) (size : ℕ) (f : Found) → IsFile slot images → IsChainAt slot images first chain size
    → SaysHead first (image_at images first) url meta → version ≡ (header_at images first).version → key ≡ key_at images first → key ≡ key_of url → f ≡ found_with first version key url (size - meta) chain → IsFound slot images first f
found slot images first version key url meta chain size f file is says of_version of_key of_url same = record {
  entry = entry_of images first url meta chain;
  complete = complete slot images first url meta chain size is says (sym of_key ∙ of_url);
  begins = refl;
  told = same ∙ same_found first of_version of_key refl (body_length slot images first meta chain size file is) refl;
}
