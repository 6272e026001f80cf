-- The steps of a walk over the items.
use Rattle.std.proofs.Common.{◌≡◌, ℕ, ◌+◌, ◌≤◌, List, [], ◌∷◌, ◌++◌, length, Option, Some, None, Bor, refl, sym, ap, subst, ◌∙◌, append_assoc, inr, arith}
use Rattle.std.specs.List.{flat_map}
use Rattle.std.proofs.lemmas.List.{flat_map_more, length-append}
use Rattle.swap_meta.specs.declared.fault.MetaFault.{MetaFault}
use Rattle.swap_meta.specs.declared.fault.MetaFault.TheVariants.{BadMark, BadLength, NoKey, NoUrl, Repeated}
use Rattle.swap_meta.specs.declared.items.Seen.{Seen}
use Rattle.swap_meta.specs.Meta.{Item, item_bytes, values_of, AtMostOne, IsKey, IsUrl, IsInOrder, ItemsFail}
use Rattle.swap_meta.specs.Seen.{HoldsKey, HoldsUrl, IsSeen, AddFails}

-- how many bytes an item takes
pub length-item_bytes : (i : Item) (more : List ℕ) → length (item_bytes i ++ more) ≡ 5 + (length i.value + length more)
length-item_bytes i more = omega (arith, length-append i.value more)

-- what is left behind an item
pub next_shorter : (left more : List ℕ) (i : Item) → left ≡ item_bytes i ++ more → length more + 5 ≤ length left
next_shorter left more i next = let long : length left ≡ length (item_bytes i ++ more) = ap length next in omega (arith, long, length-item_bytes i more)

-- one more item, and what is left behind it
pub item_more : (inside left more : List ℕ) (items : List Item) (i : Item) → inside ≡ flat_map item_bytes items ++ left → left ≡ item_bytes i ++ more → inside ≡ flat_map item_bytes (items ++ i ∷ []) ++ more
item_more inside left more items i parts next =
    parts ∙ ap (λ (r : List ℕ). flat_map item_bytes items ++ r) next
    ∙ sym (append_assoc (flat_map item_bytes items) (item_bytes i) more)
    ∙ ap (λ (front : List ℕ). front ++ more) (flat_map_more item_bytes [] items i)

-- a key that is held is in order
keys_in_order : (key : Option (List ℕ)) (values : List (List ℕ)) → HoldsKey key values → AtMostOne IsKey values
keys_in_order None values held = subst (AtMostOne IsKey) (sym held) tt
keys_in_order (Some key) values held = subst (AtMostOne IsKey) (sym held.0) held.1

-- and so is a URL
urls_in_order : (url : Option (Bor (List ℕ))) (values : List (List ℕ)) → HoldsUrl url values → AtMostOne IsUrl values
urls_in_order None values held = subst (AtMostOne IsUrl) (sym held) tt
urls_in_order (Some url) values held = subst (AtMostOne IsUrl) (sym held) (url.now, refl)

-- items that were seen are in order
pub seen_in_order : (items : List Item) (seen : Seen) → IsSeen items seen → IsInOrder items
seen_in_order items seen says = record {
  keys = keys_in_order seen.key (values_of 3 items) says.key;
  urls = urls_in_order seen.url (values_of 4 items) says.url;
}

-- what is wrong with the next item is wrong with the items
pub add_fails : (inside left more : List ℕ) (items : List Item) (i : Item) (fault : MetaFault) → IsInOrder items → inside ≡ flat_map item_bytes items ++ left → left ≡ item_bytes i ++ more → AddFails items i fault → ItemsFail inside fault
add_fails inside left more items i BadMark in_order parts next fails = absurd fails
add_fails inside left more items i BadLength in_order parts next fails = record { items = items; left = left; in_order = in_order; parts = parts; stops = inr (i, more, next, fails) }
add_fails inside left more items i NoKey in_order parts next fails = absurd fails
add_fails inside left more items i NoUrl in_order parts next fails = absurd fails
add_fails inside left more items i Repeated in_order parts next fails = record { items = items; left = left; in_order = in_order; parts = parts; stops = (i, more, next, fails) }
