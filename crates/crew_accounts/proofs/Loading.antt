-- What a reading tab has seen once it loaded a name of its entry.
use Rattle.std.proofs.Common.{Contains, List, [], ap, arith, refl, subst, sym, ◌++◌, ◌∙◌, ◌∷◌, ◌<◌, ◌≡◌, ◌≤◌, ℕ}
use Rattle.std.specs.Prelude.{◌≢◌}
use Rattle.store_key.specs.Anchor.{back_half, front_half}
use Rattle.core_model.specs.Anchors.{opening_counter}
use Rattle.core_model.specs.Layout.{Setting, word_in}
use Rattle.core_model.specs.SlotMoves.{loads}
use Rattle.core_model.specs.State.{State}
use Rattle.core_model.specs.Tabs.{tab_at}
use Rattle.core_model.specs.Told.{IsNameFound, NameFound}
use Rattle.core_model.specs.declared.moves.Move.TheVariants.{LoadSide}
use Rattle.core_model.specs.declared.moves.Side.{Side}
use Rattle.core_model.specs.declared.moves.Side.TheVariants.{Key0, Key1, Offer, Start}
use Rattle.core_model.specs.declared.tab.Reader.{Reader}
use Rattle.core_model.specs.declared.tab.Tab.{Tab}
use Rattle.core_model.specs.declared.tab.Tab.TheVariants.{Free, Reading}
use Rattle.core_model.specs.declared.view.Place.TheVariants.{Beside}
use Rattle.core_model.specs.declared.view.Sight.{Sight}
use Rattle.core_model.specs.declared.view.Sight.TheVariants.{Named}
use Rattle.core_model.specs.declared.view.View.{View}
use Rattle.store_rule.specs.Ground.{Ground}
use Rattle.store_rule.specs.Told.{Steps}
use Rattle.store_rule.proofs.Moves.{known_of}
use Rattle.slice_chain.specs.Names.{KeyLoaded}
use Rattle.rock_reader.proofs.Coming.{load_tabs, step_sees}
use Rattle.std.proofs.Common.{get_or}

-- the name was seen, and that of a version of the opening is the opening's; the offer of a new one is no slot's number
pub record HasLoaded {X : Type 0} (k : Setting X) (r : Reader X) (side : Side) (n : ℕ) (seen : List Sight) : Type 0 where
  pub named : Contains seen (Named r.anchor r.version side n)
  pub old : r.version ≤ opening_counter k → n ≡ word_in k k.words (Beside side r.anchor)
  pub new : side ≡ Offer → opening_counter k < r.version → k.slots ≤ n

module _ {X : Type 0} where
  loads_named : (r : Reader X) (side : Side) (n : ℕ) → side ≢ Start → loads (Reading r) side n ≡ Named r.anchor r.version side n ∷ []
  loads_named r Key0 n ne = refl
  loads_named r Key1 n ne = refl
  loads_named r Offer n ne = refl
  loads_named r Start n ne = absurd (ne refl)

  name_found : (k : Setting X) (s : State X) (v : View X) (r : Reader X) (side : Side) (n : ℕ) → side ≢ Start → NameFound k s v (Reading r) side n → IsNameFound k v r side n
  name_found k s v r Key0 n ne h = h
  name_found k s v r Key1 n ne h = h
  name_found k s v r Offer n ne h = h
  name_found k s v r Start n ne h = absurd (ne refl)

key0_start : Key0 ≢ Start
key0_start e = cc

key1_start : Key1 ≢ Start
key1_start e = cc

pub offer_start : Offer ≢ Start
offer_start e = cc

module _ {X : Type 0} (g : Ground X) (v w : View X) (t : ℕ) (r : Reader X) (is : tab_at v t ≡ Reading r) where
  pub side_loaded : (side : Side) (n : ℕ) → side ≢ Start → Steps g v (LoadSide t side) n w → HasLoaded g.setting r side n w.seen
  side_loaded side n ne st = record {
    named = subst (λ (z : List Sight). Contains z (Named r.anchor r.version side n)) (sym (ap View.seen st.leaves ∙ ap (λ (x : Tab X). loads x side n ++ v.seen) is ∙ ap (λ (z : List Sight). z ++ v.seen) (loads_named r side n ne))) (0, omega arith, refl);
    new = (name_found g.setting st.state v r side n ne (subst (λ (x : Tab X). NameFound g.setting st.state v x side n) is (known_of g v (LoadSide t side) n w st).names)).new;
    old = (name_found g.setting st.state v r side n ne (subst (λ (x : Tab X). NameFound g.setting st.state v x side n) is (known_of g v (LoadSide t side) n w st).names)).old;
  }

  pub still_reads : (side : Side) (n : ℕ) → side ≢ Start → Steps g v (LoadSide t side) n w → tab_at w t ≡ Reading r
  still_reads side n ne st = ap (λ (xs : List (Tab X)). get_or xs t Free) (load_tabs g v w t n side ne st) ∙ is

-- and both halves of its key
module _ {X : Type 0} (g : Ground X) (v w : View X) (t : ℕ) (r : Reader X) (is : tab_at v t ≡ Reading r) (key : List ℕ) (h : KeyLoaded g t v key w) where
  pub front_loaded : HasLoaded g.setting r Key0 (front_half key) w.seen
  front_loaded = let first = side_loaded g v h.middle t r is Key0 (front_half key) key0_start h.front in
      record { named = step_sees g h.middle w _ _ _ h.back first.named; old = first.old; new = first.new }

  pub back_loaded : HasLoaded g.setting r Key1 (back_half key) w.seen
  back_loaded = side_loaded g h.middle w t r (still_reads g v h.middle t r is Key0 (front_half key) key0_start h.front) Key1 (back_half key) key1_start h.back

  pub keyed_reads : tab_at w t ≡ Reading r
  keyed_reads = still_reads g h.middle w t r (still_reads g v h.middle t r is Key0 (front_half key) key0_start h.front) Key1 (back_half key) key1_start h.back
