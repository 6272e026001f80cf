use Rattle.std.proofs.Common.{◌≡◌, List, ◌++◌, ◌≤◌, length}
use Rattle.std.specs.List.{flat_map}
use Rattle.swap_meta.specs.Meta.{Item, item_bytes}
use Rattle.swap_meta.specs.Seen.{IsSeen}
use Rattle.swap_meta.proofs.items.read_items.Given as goal

-- the bytes are items that were seen, and the rest
abbrev pub invariant-loop-rest : goal.invariant-loop-rest
invariant-loop-rest l = record {
  within : length l.rest ≤ length l.inside;
  seen : (items : List Item) × (l.inside ≡ flat_map item_bytes items ++ l.rest) × IsSeen items l.seen;
}

abbrev pub decreases-loop-rest : goal.decreases-loop-rest
decreases-loop-rest l = length l.rest
