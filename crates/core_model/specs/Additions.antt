-- What a step adds to the records of its pass, as the running core does it.
use Rattle.std.specs.Option.{option_to_list}
use Rattle.std.specs.Prelude.{◌++◌, ◌∷◌, List, None, Option, Some, [], unwrap_or}
use Rattle.core_model.specs.declared.moves.Side.TheVariants.{Key0, Key1, Offer}
use Rattle.core_model.specs.declared.view.Sight.{Sight}
use Rattle.core_model.specs.declared.view.Sight.TheVariants.{Named}
use Rattle.core_model.specs.declared.view.View.{View}
use Rattle.core_model.specs.declared.adding.Addition.{Addition}
use Rattle.core_model.specs.declared.adding.Names.{Names}

-- the key and the offer of an entry
abbrev pub names_seen : Option Names → List Sight
names_seen None = []
names_seen (Some n) = Named n.anchor n.version Key0 n.key0 ∷ Named n.anchor n.version Key1 n.key1 ∷ Named n.anchor n.version Offer n.offer ∷ []

-- what a note has seen
abbrev pub sights_learned : Option (List Sight) → List Sight
sights_learned learned = unwrap_or learned []

abbrev pub added : {X : Type 0} → View X → Addition → View X
added v a = record v {
  held = option_to_list a.drawn ++ v.held;
  seen = option_to_list a.sight ++ (names_seen a.names ++ (sights_learned a.learned ++ v.seen));
  trail = a.item ∷ v.trail;
  mirror = option_to_list a.trace ++ v.mirror;
  deeds = option_to_list a.deed ++ v.deeds;
  met = option_to_list a.met ++ v.met;
}
