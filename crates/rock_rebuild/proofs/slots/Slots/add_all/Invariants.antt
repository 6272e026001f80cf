use Rattle.std.proofs.Common.{◌≡◌, ◌+◌, ◌*◌, ◌-◌, ◌≤◌, ◌++◌, List, ℕ, length}
use Rattle.rock_rebuild.specs.Slots.{AreRead}
use Rattle.rock_rebuild.specs.Read.{images_in}
use Rattle.rock_rebuild.proofs.slots.Slots.add_all.Given as goal

abbrev pub invariant-loop-place : goal.invariant-loop-place
invariant-loop-place l = record {
  room : (l.many - l.place) * l.slot ≤ length l.rest;
  done : List (List ℕ);
  cut : done ++ images_in (l.many - l.place) l.slot l.rest ≡ images_in l.many l.slot l.initial.rest;
  count : length done ≡ l.place;
  read : (before : List (List ℕ)) → length before ≡ l.first → AreRead l.slots l.slot before l.initial.self → AreRead l.slots l.slot (before ++ done) l.self;
  table : length l.self.table ≡ length l.initial.self.table + l.place;
  heads : length l.self.heads.items ≡ length l.initial.self.heads.items + l.place;
}
