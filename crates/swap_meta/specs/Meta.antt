-- What metadata is, and what is wrong with bytes that are none.
use Rattle.std.specs.Prelude.{◌≡◌, ◌≢◌, ℕ, ◌<◌, ◌≤◌, ◌+◌, ◌^◌, ◌⊎◌, ◌==◌, List, [], ◌∷◌, ◌++◌, length, take, drop, map, filter}
use Rattle.std.specs.Int.{w32, to_le_bytes, from_le_bytes}
use Rattle.std.specs.List.{flat_map}
use Rattle.swap_meta.specs.declared.fault.MetaFault.{MetaFault}
use Rattle.swap_meta.specs.declared.fault.MetaFault.TheVariants.{BadMark, BadLength, NoKey, NoUrl, Repeated}

-- an item's type and its value
pub record Item : Type 0 where
  pub kind : ℕ
  pub value : List ℕ

-- how an item is written: its type, the length of its value in four bytes, and its value
abbrev pub item_bytes : Item → List ℕ
item_bytes i = i.kind ∷ (to_le_bytes w32 (length i.value) ++ i.value)

-- the values of the items of one type, in order
abbrev pub values_of : ℕ → List Item → List (List ℕ)
values_of kind items = map (λ i. i.value) (filter (λ i. i.kind == kind) items)

-- these bytes, of which there are `L`, are metadata with this key and this URL
pub record Spells (bytes key url : List ℕ) (L : ℕ) : Type 0 where
  pub items : List Item
  pub size : length bytes ≡ L
  pub fits : L < 2 ^ 32
  pub spelled : bytes ≡ 3 ∷ (to_le_bytes w32 L ++ flat_map item_bytes items)
  pub one_key : values_of 3 items ≡ key ∷ []
  pub sixteen : length key ≡ 16
  pub one_url : values_of 4 items ≡ (url ++ 0 ∷ []) ∷ []

-- how metadata with this key and this URL is written: the key first, then the URL, and no other item
abbrev pub meta_bytes : List ℕ → List ℕ → List ℕ
meta_bytes key url =
    3 ∷ (to_le_bytes w32 (32 + length url)
    ++ (item_bytes (record { kind = 3; value = key }) ++ item_bytes (record { kind = 4; value = url ++ 0 ∷ [] })))

-- ---- what is wrong

-- what the four bytes behind the mark say of the whole length
abbrev pub whole_length : List ℕ → ℕ
whole_length bytes = from_le_bytes w32 (take 4 (drop 1 bytes))

-- the bytes begin with the mark and the whole length `L`, and there are as many; `inside` is what stands between these and `L`
pub record Frames (bytes inside : List ℕ) (L : ℕ) : Type 0 where
  pub within : L ≤ length bytes
  pub fits : L < 2 ^ 32
  pub spelled : take L bytes ≡ 3 ∷ (to_le_bytes w32 L ++ inside)

-- there is one value at most, and it is of this kind
abbrev pub AtMostOne : (List ℕ → Type 0) → List (List ℕ) → Type 0
AtMostOne P [] = Unit {0}
AtMostOne P (value ∷ []) = P value
AtMostOne P (value ∷ another ∷ values) = ⊥

-- a key's value
abbrev pub IsKey : List ℕ → Type 0
IsKey value = length value ≡ 16

-- a URL's value: the URL, and a zero byte
abbrev pub IsUrl : List ℕ → Type 0
IsUrl value = (url : List ℕ) × (value ≡ url ++ 0 ∷ [])

-- neither of the two types came twice, and each value is right for its type
pub record IsInOrder (items : List Item) : Type 0 where
  pub keys : AtMostOne IsKey (values_of 3 items)
  pub urls : AtMostOne IsUrl (values_of 4 items)

-- an item of one of the two types, of which there is one among `items` already
abbrev pub IsRepeated : List Item → Item → Type 0
IsRepeated items i = ((i.kind ≡ 3) ⊎ (i.kind ≡ 4)) × (values_of i.kind items ≢ [])

-- the first item of its type, with a value that is wrong for it
abbrev pub IsWrong : List Item → Item → Type 0
IsWrong items i = (((i.kind ≡ 3) × ¬ IsKey i.value) ⊎ ((i.kind ≡ 4) × ¬ IsUrl i.value)) × (values_of i.kind items ≡ [])

-- something is left, and no whole item stands at its front
abbrev pub IsCut : List ℕ → Type 0
IsCut left = (left ≢ []) × ((i : Item) (more : List ℕ) → left ≢ item_bytes i ++ more)

-- behind `items` comes an item of this kind
abbrev pub NextIs : (Item → Type 0) → List ℕ → Type 0
NextIs P left = (i : Item) × (more : List ℕ) × (left ≡ item_bytes i ++ more) × P i

-- what is wrong where `left` is left behind `items`, which are in order
abbrev pub Stops : List Item → List ℕ → MetaFault → Type 0
Stops items left BadMark = ⊥
Stops items left BadLength = IsCut left ⊎ NextIs (IsWrong items) left
Stops items left NoKey = (left ≡ []) × (values_of 3 items ≡ [])
Stops items left NoUrl = (left ≡ []) × (values_of 3 items ≢ []) × (values_of 4 items ≡ [])
Stops items left Repeated = NextIs (IsRepeated items) left

-- what is wrong with the items in these bytes
pub record ItemsFail (inside : List ℕ) (fault : MetaFault) : Type 0 where
  pub items : List Item
  pub left : List ℕ
  pub in_order : IsInOrder items
  pub parts : inside ≡ flat_map item_bytes items ++ left
  pub stops : Stops items left fault

-- what is wrong with the mark or the whole length
abbrev pub FrameFails : List ℕ → MetaFault → Type 0
FrameFails bytes BadMark = (behind : List ℕ) → bytes ≢ 3 ∷ behind
FrameFails bytes BadLength = (behind : List ℕ) × (bytes ≡ 3 ∷ behind) × ((length bytes < 5) ⊎ ((whole_length bytes < 5) ⊎ (length bytes < whole_length bytes)))
FrameFails bytes NoKey = ⊥
FrameFails bytes NoUrl = ⊥
FrameFails bytes Repeated = ⊥

-- behind a right mark and whole length, the items fail
pub record InsideFails (bytes : List ℕ) (fault : MetaFault) : Type 0 where
  pub inside : List ℕ
  pub size : ℕ
  pub frames : Frames bytes inside size
  pub fails : ItemsFail inside fault

-- the first thing that is wrong with bytes that are no metadata
abbrev pub Refuses : List ℕ → MetaFault → Type 0
Refuses bytes fault = FrameFails bytes fault ⊎ InsideFails bytes fault
