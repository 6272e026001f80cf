-- Bytes have one outcome: metadata stands in front of them in one way, or one thing is wrong with them first.
use Rattle.std.proofs.Common.{◌≡◌, ℕ, ◌^◌, ◌<◌, List, [], ◌∷◌, ◌++◌, length, take, refl, sym, ap, subst, ◌∙◌, inl, inr, arith}
use Rattle.std.specs.List.{flat_map}
use Rattle.std.proofs.lemmas.List.{length-take, append_cancel_right, append-nil}
use Rattle.swap_meta.specs.declared.fault.MetaFault.{MetaFault}
use Rattle.swap_meta.specs.declared.fault.MetaFault.TheVariants.{BadMark, BadLength, NoKey, NoUrl, Repeated}
use Rattle.swap_meta.specs.Meta.{Item, item_bytes, values_of, Spells, Frames, AtMostOne, IsKey, IsUrl, IsInOrder, IsRepeated, Stops, ItemsFail, Refuses}
use Rattle.swap_meta.proofs.OneWalk.{nothing_ends, stops_end, one_walk}
use Rattle.swap_meta.proofs.OneFault.{length_not_at_end, next_not_at_end, left_fits, fails_once}
use Rattle.swap_meta.proofs.OneFrame.{one_frame, frame_holds, one_frame_fault, framed_fits}

-- one thing is wrong first
pub refused_once : (bytes : List ℕ) (f g : MetaFault) → Refuses bytes f → Refuses bytes g → f ≡ g
refused_once bytes f g (inl p) (inl q) = one_frame_fault bytes f g p q
refused_once bytes f g (inl p) (inr q) = absurd (frame_holds bytes q.inside q.size f q.frames p)
refused_once bytes f g (inr p) (inl q) = absurd (frame_holds bytes p.inside p.size g p.frames q)
refused_once bytes f g (inr p) (inr q) =
    let same = one_frame bytes p.inside q.inside p.size q.size p.frames q.frames in
    fails_once p.inside f g (framed_fits bytes p.inside p.size p.frames) p.fails (subst (λ (inside : List ℕ). ItemsFail inside g) (sym same.1) q.fails)

-- metadata has a right mark and a right whole length
spells_frames : (bytes key url : List ℕ) (n : ℕ) (spells : Spells (take n bytes) key url n) → Frames bytes (flat_map item_bytes spells.items) n
spells_frames bytes key url n spells = record { within = omega (arith, spells.size, length-take n bytes); fits = spells.fits; spelled = spells.spelled }

-- its items are in order
spells_in_order : (bytes key url : List ℕ) (n : ℕ) (spells : Spells bytes key url n) → IsInOrder spells.items
spells_in_order bytes key url n spells = record {
  keys = subst (AtMostOne IsKey) (sym spells.one_key) spells.sixteen;
  urls = subst (AtMostOne IsUrl) (sym spells.one_url) (url, refl);
}

-- where the items have one key and one URL, nothing is wrong at their end
spelled_stops : (key : List ℕ) (items : List Item) (url : List ℕ) (fault : MetaFault) → values_of 3 items ≡ key ∷ [] → values_of 4 items ≡ url ∷ [] → Stops items [] fault → ⊥
spelled_stops key items url BadMark one_key one_url stops = stops
spelled_stops key items url BadLength one_key one_url stops = length_not_at_end items [] stops refl
spelled_stops key items url NoKey one_key one_url stops = let none = stops.1 in absurd cc
spelled_stops key items url NoUrl one_key one_url stops = let none = stops.2 in absurd cc
spelled_stops key items url Repeated one_key one_url stops = next_not_at_end (IsRepeated items) [] stops refl

-- metadata is not refused
pub spelled_or_refused : (bytes key url : List ℕ) (n : ℕ) (fault : MetaFault) → Spells (take n bytes) key url n → Refuses bytes fault → ⊥
spelled_or_refused bytes key url n fault spells (inl fails) = frame_holds bytes (flat_map item_bytes spells.items) n fault (spells_frames bytes key url n spells) fails
spelled_or_refused bytes key url n fault spells (inr refused) =
    let frames = spells_frames bytes key url n spells in
    let same = one_frame bytes (flat_map item_bytes spells.items) refused.inside n refused.size frames refused.frames in
    let fails = refused.fails in
    let parts : flat_map item_bytes spells.items ++ [] ≡ flat_map item_bytes fails.items ++ fails.left = append-nil (flat_map item_bytes spells.items) ∙ same.1 ∙ fails.parts in
    let inside-fits = framed_fits bytes (flat_map item_bytes spells.items) n frames in
    let fits : length (flat_map item_bytes spells.items ++ []) < 2 ^ 32 = rw append-nil inside-fits in
    let left-fits = left_fits fails.items fails.left refused.inside fails.parts (framed_fits bytes refused.inside refused.size refused.frames) in
    let walk = one_walk IsInOrder spells.items fails.items [] fails.left fits parts (spells_in_order (take n bytes) key url n spells) fails.in_order (nothing_ends IsInOrder spells.items [] refl) (stops_end fails.items fails.left fault left-fits fails.stops) in
    let stops : Stops spells.items [] fault = subst (λ (left : List ℕ). Stops spells.items left fault) (sym walk.1) (subst (λ (items : List Item). Stops items fails.left fault) (sym walk.0) fails.stops) in
    spelled_stops key spells.items (url ++ 0 ∷ []) fault spells.one_key spells.one_url stops

one_value : (x y : List ℕ) → x ∷ [] ≡ y ∷ [] → x ≡ y
one_value x y e = cc

-- bytes are metadata in one way
pub spelled_once : (bytes key url key' url' : List ℕ) (n n' : ℕ) → Spells (take n bytes) key url n → Spells (take n' bytes) key' url' n' → (key ≡ key') × (url ≡ url') × (n ≡ n')
spelled_once bytes key url key' url' n n' p q =
    let p-frames = spells_frames bytes key url n p in
    let q-frames = spells_frames bytes key' url' n' q in
    let same = one_frame bytes (flat_map item_bytes p.items) (flat_map item_bytes q.items) n n' p-frames q-frames in
    let parts : flat_map item_bytes p.items ++ [] ≡ flat_map item_bytes q.items ++ [] = ap (λ (xs : List ℕ). xs ++ []) same.1 in
    let p-fits = framed_fits bytes (flat_map item_bytes p.items) n p-frames in
    let fits : length (flat_map item_bytes p.items ++ []) < 2 ^ 32 = rw append-nil p-fits in
    let walk = one_walk IsInOrder p.items q.items [] [] fits parts (spells_in_order (take n bytes) key url n p) (spells_in_order (take n' bytes) key' url' n' q) (nothing_ends IsInOrder p.items [] refl) (nothing_ends IsInOrder q.items [] refl) in
    let keys : key ∷ [] ≡ key' ∷ [] = sym p.one_key ∙ ap (values_of 3) walk.0 ∙ q.one_key in
    let urls : (url ++ 0 ∷ []) ∷ [] ≡ (url' ++ 0 ∷ []) ∷ [] = sym p.one_url ∙ ap (values_of 4) walk.0 ∙ q.one_url in
    (one_value key key' keys, append_cancel_right url url' (0 ∷ []) (one_value (url ++ 0 ∷ []) (url' ++ 0 ∷ []) urls), same.0)
