-- What a reader knows of the items that it has seen.
use Rattle.std.specs.Prelude.{◌≡◌, ℕ, List, [], ◌∷◌, ◌++◌, Option, Some, None}
use Rattle.std.specs.List.{flat_map}
use Rattle.std.specs.Borrow.{Bor}
use Rattle.swap_meta.specs.declared.fault.MetaFault.{MetaFault}
use Rattle.swap_meta.specs.declared.fault.MetaFault.TheVariants.{BadMark, BadLength, NoKey, NoUrl, Repeated}
use Rattle.swap_meta.specs.declared.items.Seen.{Seen}
use Rattle.swap_meta.specs.Meta.{Item, item_bytes, values_of, IsKey, IsRepeated, IsWrong}

-- an item from its parts
abbrev pub item_of : ℕ → List ℕ → Item
item_of kind value = record { kind = kind; value = value }

-- the values of type 3 are those that a reader holds as its key
abbrev pub HoldsKey : Option (List ℕ) → List (List ℕ) → Type 0
HoldsKey None values = values ≡ []
HoldsKey (Some key) values = (values ≡ key ∷ []) × IsKey key

-- the values of type 4 are those that a reader holds as its URL
abbrev pub HoldsUrl : Option (Bor (List ℕ)) → List (List ℕ) → Type 0
HoldsUrl None values = values ≡ []
HoldsUrl (Some url) values = values ≡ (url.now ++ 0 ∷ []) ∷ []

-- this is what the items say
pub record IsSeen (items : List Item) (seen : Seen) : Type 0 where
  pub key : HoldsKey seen.key (values_of 3 items)
  pub url : HoldsUrl seen.url (values_of 4 items)

-- the bytes are items, and this is what they say
pub record HoldsItems (inside : List ℕ) (seen : Seen) : Type 0 where
  pub items : List Item
  pub whole : inside ≡ flat_map item_bytes items
  pub says : IsSeen items seen

-- what is wrong with one more item
abbrev pub AddFails : List Item → Item → MetaFault → Type 0
AddFails items i BadMark = ⊥
AddFails items i BadLength = IsWrong items i
AddFails items i NoKey = ⊥
AddFails items i NoUrl = ⊥
AddFails items i Repeated = IsRepeated items i
