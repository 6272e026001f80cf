-- What the writer of an entry has seen of it itself.
use Rattle.std.specs.Prelude.{Contains, List, ◌<◌}
use Rattle.core_model.specs.declared.view.Sight.{Sight}
use Rattle.core_model.specs.declared.view.Sight.TheVariants.{Published}
use Rattle.store_rule.specs.Ground.{Ground}
use Rattle.rock_writer.specs.Appending.{place_of}
use Rattle.rock_writer.specs.Entries.{Entry}
use Rattle.store_serve.specs.Deeds.{HasNames, name_of}

-- where slots of the entry are published, it has seen how many, and the entry's key and offer
abbrev pub HasShown : {X : Type 0} → Ground X → Entry → List Sight → Type 0
HasShown g e seen = 0 < place_of g e → Contains seen (Published e.anchor e.version (place_of g e)) × HasNames (name_of g e) seen
