-- Which deeds the calls do.
use Rattle.std.specs.Prelude.{Contains, List, false, true, ◌≡◌, ◌⊎◌, ◌↔◌, ℕ}
use Rattle.lock_word.specs.Words.{doom_of, epoch_at, stage_of, version_of as version_in}
use Rattle.core_model.specs.declared.moves.Side.TheVariants.{Key0, Key1, Offer}
use Rattle.core_model.specs.declared.view.Deed.{Deed}
use Rattle.core_model.specs.declared.view.Kind.TheVariants.{Changed, Doomed, Entered, Raised}
use Rattle.core_model.specs.declared.view.Sight.{Sight}
use Rattle.core_model.specs.declared.view.Sight.TheVariants.{Named}
use Rattle.store_key.specs.Anchor.{back_half, front_half}
use Rattle.store_key.specs.Key.{key_of}
use Rattle.store_rule.specs.Ground.{Ground, fits}
use Rattle.rock_writer.specs.declared.fault.Ended.{Ended}
use Rattle.rock_writer.specs.Entries.{Entry, url_in}
use Rattle.rock_writer.specs.Finishing.{is_doomed, version_of}

-- an entry as the words of its anchor and beside it tell it: where, of which version, with which key and offer
pub record Naming : Type 0 where
  pub anchor : ℕ
  pub version : ℕ
  pub key0 : ℕ
  pub key1 : ℕ
  pub offer : ℕ

-- that of an entry that a tab writes
abbrev pub name_of : {X : Type 0} → Ground X → Entry → Naming
name_of g e = record {
  anchor = e.anchor;
  version = e.version;
  key0 = front_half (key_of (url_in g e));
  key1 = back_half (key_of (url_in g e));
  offer = e.offer;
}

-- the pass has seen its key and its offer
pub record HasNames (n : Naming) (seen : List Sight) : Type 0 where
  pub key0 : Contains seen (Named n.anchor n.version Key0 n.key0)
  pub key1 : Contains seen (Named n.anchor n.version Key1 n.key1)
  pub offer : Contains seen (Named n.anchor n.version Offer n.offer)

-- no deed
abbrev pub NoDeed : Deed → Type 0
NoDeed d = ⊥

-- a tab was counted at the anchor
pub record Enters (a : ℕ) (d : Deed) : Type 0 where
  pub kind : d.kind ≡ Entered
  pub anchor : d.anchor ≡ a

-- the anchor was taken for a new entry of this version
pub record Takes (a version : ℕ) (d : Deed) : Type 0 where
  pub kind : d.kind ≡ Changed
  pub anchor : d.anchor ≡ a
  pub epoch : d.epoch ≡ epoch_at version 1

-- the entry of this version was raised to this stage
pub record RaisesTo (stage a version : ℕ) (d : Deed) : Type 0 where
  pub kind : d.kind ≡ Raised
  pub anchor : d.anchor ≡ a
  pub stage_is : stage_of d.epoch ≡ stage
  pub version_is : version_in d.epoch ≡ version

-- slots of it were published before that, and the pass has seen its key and its offer
pub record RaisesPublished (stage : ℕ) (n : Naming) (seen : List Sight) (d : Deed) : Type 0 where
  pub raised : RaisesTo stage n.anchor n.version d
  pub names : HasNames n seen

-- it was closed, which left it doomed exactly where the answer says so
pub record Closes (n : Naming) (seen : List Sight) (ended : Ended) (d : Deed) : Type 0 where
  pub raised : RaisesPublished 3 n seen d
  pub answered : version_of ended ≡ n.version
  pub doomed : is_doomed ended ≡ true ↔ (doom_of d.epoch ≡ 1)

-- the entry at the anchor was doomed, which left this epoch
pub record Dooms (a epoch : ℕ) (d : Deed) : Type 0 where
  pub kind : d.kind ≡ Doomed
  pub anchor : d.anchor ≡ a
  pub epoch_is : d.epoch ≡ epoch
  pub doomed : doom_of d.epoch ≡ 1

-- an idle entry began to be freed, for a slot that was wanting, in a store that does not fit
pub record Evicts {X : Type 0} (g : Ground X) (d : Deed) : Type 0 where
  pub kind : d.kind ≡ Changed
  pub stage : stage_of d.epoch ≡ 5
  pub was_idle : d.was_idle ≡ true
  pub unfit : fits g ≡ false

-- an entry began to be freed that its last user left over
pub record FreesLeftOver (d : Deed) : Type 0 where
  pub kind : d.kind ≡ Changed
  pub stage : stage_of d.epoch ≡ 5
  pub was_idle : d.was_idle ≡ false

-- every slot of an entry was given back, and its anchor is at GONE
pub record IsGone (d : Deed) : Type 0 where
  pub kind : d.kind ≡ Raised
  pub stage : stage_of d.epoch ≡ 6

-- what may come of reserving a slot, and of leaving an entry
abbrev pub OfReserving : {X : Type 0} → Ground X → Deed → Type 0
OfReserving g d = Evicts g d ⊎ IsGone d

abbrev pub OfLeaving : Deed → Type 0
OfLeaving d = FreesLeftOver d ⊎ IsGone d

-- of beginning an entry
abbrev pub OfBeginning : (a version : ℕ) → Deed → Type 0
OfBeginning a version d = Takes a version d ⊎ IsGone d

-- of publishing its slots, which lets it be read from the first one on
abbrev pub OfPublishing : {X : Type 0} → Ground X → Naming → List Sight → Deed → Type 0
OfPublishing g n seen d = RaisesPublished 2 n seen d ⊎ OfReserving g d

-- of giving it up
abbrev pub OfHalting : (a version : ℕ) → Deed → Type 0
OfHalting a version d = RaisesTo 4 a version d ⊎ OfLeaving d

-- where a slot of it could not be published
abbrev pub OfRefusing : {X : Type 0} → Ground X → (a version : ℕ) → Deed → Type 0
OfRefusing g a version d = OfReserving g d ⊎ OfHalting a version d

-- of writing its last slot and closing it
abbrev pub OfClosing : {X : Type 0} → Ground X → Naming → List Sight → Ended → Deed → Type 0
OfClosing g n seen ended d = Closes n seen ended d ⊎ OfReserving g d ⊎ OfLeaving d

-- of coming to an entry at the anchor and leaving it
abbrev pub OfVisiting : (a : ℕ) → Deed → Type 0
OfVisiting a d = Enters a d ⊎ OfLeaving d

-- of purging it
abbrev pub OfPurging : (a epoch : ℕ) → Deed → Type 0
OfPurging a epoch d = Dooms a epoch d ⊎ OfVisiting a d

-- Of several calls, one behind the other: bytes were appended, and the entry was given up then, or closed;
abbrev pub OfGivingUp : {X : Type 0} → Ground X → Naming → List Sight → Deed → Type 0
OfGivingUp g n seen d = OfPublishing g n seen d ⊎ OfRefusing g n.anchor n.version d

abbrev pub OfEnding : {X : Type 0} → Ground X → Naming → List Sight → Ended → Deed → Type 0
OfEnding g n seen ended d = OfPublishing g n seen d ⊎ OfClosing g n seen ended d

-- and it was begun before that.
abbrev pub OfPutting : {X : Type 0} → Ground X → Naming → List Sight → Ended → Deed → Type 0
OfPutting g n seen ended d = OfBeginning n.anchor n.version d ⊎ OfEnding g n seen ended d

abbrev pub OfPuttingInVain : {X : Type 0} → Ground X → Naming → List Sight → Deed → Type 0
OfPuttingInVain g n seen d = OfBeginning n.anchor n.version d ⊎ OfGivingUp g n seen d
