use Rattle.std.proofs.Common.{◌≡◌, ◌+◌, ◌-◌, ℕ, pos, List, take, drop, ap, sym, subst, arith, rules}
use Rattle.std.specs.Prelude.{Option, None, Some, MatchOption}
use Rattle.slot_cell.specs.declared.header.Header.{Header}
use Rattle.slot_cell.specs.Header.{header_of, payload_of}
use Rattle.rock_rebuild.specs.Kept.{IsOwn, IsOwnAlone, SaysHead, HasNoHead}
use Rattle.rock_rebuild.proofs.entry_head.head_of.Goals as goal

-- the bytes that are read as metadata are the slot's payload
payload_is : (image : List ℕ) (header : Header) → header ≡ header_of image → take ((40 + header.payload_size) - 40) (drop 40 image) ≡ payload_of image
payload_is image header read =
    let size : (40 + header.payload_size) - 40 ≡ (header_of image).payload_size = omega (arith, ap (λ h. h.payload_size) read) in
    ap (λ n. take n (drop 40 image)) size

-- metadata of the payload is what the slot says
told : {M : Type 0} (o : Option M) (key url : M → List ℕ) (size : M → ℕ) (number : ℕ) (image payload : List ℕ) → payload ≡ payload_of image → (header_of image).first_slot ≡ pos number
    → MatchOption o ((k u : List ℕ) (n : ℕ) → IsOwn image payload k u n → ⊥) (λ m. IsOwnAlone image payload (key m) (url m) (size m))
    → MatchOption o (HasNoHead number image) (λ m. SaysHead number image (url m) (size m))
told None key url size number image payload is starts none = λ k u n names own. none k u n (subst (λ p. IsOwn image p k u n) (sym is) own)
told (Some m) key url size number image payload is starts alone =
    let here = subst (λ p. IsOwnAlone image p (key m) (url m) (size m)) is alone in
    record { starts = starts; alone = subst (λ k. IsOwnAlone image (payload_of image) k (url m) (size m)) here.own.slot_key here }

pub returns : goal.returns
returns c = told c.own_meta.result (λ m. m.key) (λ m. m.url.now) (λ m. m.length) c.args.number c.args.image.now _ (payload_is c.args.image.now c.args.header.now c.requires.read) (search rules) c.own_meta.ensures
