-- The entry of a tab that writes, while the tab goes on.
use Rattle.std.proofs.Common.{Bool, Contains, List, None, Option, Some, ap, arith, cond, false, get_or, get_or-set_same, inl, inr, length, length-set, refl, subst, sym, true, unwrap_or, ◌+◌, ◌-◌, ◌++◌, ◌<◌, ◌≡◌, ◌≤◌, ◌∙◌, ℕ}
use Rattle.link_word.specs.declared.link.Link.{Link}
use Rattle.lock_word.specs.declared.stage.Stage.{Stage}
use Rattle.lock_word.specs.declared.stage.Stage.TheVariants.{Appending}
use Rattle.lock_word.specs.Words.{epoch_of, raised, stage_number, stage_of, version_of}
use Rattle.lock_word.proofs.Raising.{stage_of-raised, version_of-raised}
use Rattle.core_model.specs.AnchorMoves.{deed_of, raised_tab}
use Rattle.core_model.specs.SlotMoves.{gives_back, publishes, reserves, shows, stores}
use Rattle.core_model.specs.Table.{left_by}
use Rattle.core_model.specs.Tabs.{IsPass, OfWriter, anchor_of, inner, stage_held, stage_written, tab_at, with_tab}
use Rattle.core_model.specs.Told.{HasVersion, Tells}
use Rattle.core_model.specs.declared.moves.Move.TheVariants.{Disown, Publish, Raise, StoreSide}
use Rattle.core_model.specs.declared.moves.Side.TheVariants.{Key0, Key1, Offer, Start}
use Rattle.core_model.specs.declared.tab.Tab.{Tab}
use Rattle.core_model.specs.declared.tab.Tab.TheVariants.{Writing}
use Rattle.core_model.specs.declared.tab.Writer.{Writer}
use Rattle.core_model.specs.declared.view.Deed.{Deed}
use Rattle.core_model.specs.declared.view.Kind.TheVariants.{Raised}
use Rattle.core_model.specs.declared.view.Sight.{Sight}
use Rattle.core_model.specs.declared.view.Sight.TheVariants.{Named}
use Rattle.core_model.specs.declared.view.View.{View}
use Rattle.core_model.proofs.Tells.{tells as steps_tell}
use Rattle.store_rule.specs.Ground.{Ground}
use Rattle.store_rule.specs.Told.{Steps}
use Rattle.free_set.specs.Claims.{searched_to}
use Rattle.slice_chain.specs.Writes.{WroteSlot, chose}
use Rattle.slice_chain.specs.Links.{Published}
use Rattle.store_serve.specs.Acting.{Acted}
use Rattle.store_serve.specs.Deeds.{HasNames, Naming, RaisesTo}
use Rattle.store_serve.proofs.Grown.{by_step}
use Rattle.store_serve.proofs.AddingUp.{deed_step}

-- the tab writes this entry
abbrev pub IsWriterOf : {X : Type 0} → Naming → Writer X → Type 0
IsWriterOf n w = (w.anchor ≡ n.anchor) × (w.version ≡ n.version) × (w.key0 ≡ Some n.key0) × (w.key1 ≡ Some n.key1) × (w.offer ≡ Some n.offer)

abbrev pub IsEntryOf : {X : Type 0} → Naming → Tab X → Type 0
IsEntryOf n tab = OfWriter (IsWriterOf n) tab

pub record HasEntry {X : Type 0} (t : ℕ) (n : Naming) (v : View X) : Type 0 where
  pub pass : IsPass v
  pub below : t < inner
  pub writes : IsEntryOf n (tab_at v t)

module _ {X : Type 0} (n : Naming) where
  reserves_is : (tab : Tab X) (slot : ℕ) → IsEntryOf n tab → IsEntryOf n (reserves tab slot)
  reserves_is (Writing w) slot h = h
  reserves_is Tab.Free slot h = absurd h
  reserves_is (Tab.Retreating b) slot h = absurd h
  reserves_is (Tab.Reading r) slot h = absurd h
  reserves_is (Tab.Last b) slot h = absurd h
  reserves_is (Tab.Freeing f) slot h = absurd h

  searched_is : (tab : Tab X) (claim : Option ℕ) → IsEntryOf n tab → IsEntryOf n (searched_to tab claim)
  searched_is (Writing w) claim h = h
  searched_is Tab.Free claim h = absurd h
  searched_is (Tab.Retreating b) claim h = absurd h
  searched_is (Tab.Reading r) claim h = absurd h
  searched_is (Tab.Last b) claim h = absurd h
  searched_is (Tab.Freeing f) claim h = absurd h

  publishes_is : (tab : Tab X) (slot : ℕ) (link : Link) → IsEntryOf n tab → IsEntryOf n (publishes tab slot link)
  publishes_is (Writing w) slot link h = h
  publishes_is Tab.Free slot link h = absurd h
  publishes_is (Tab.Retreating b) slot link h = absurd h
  publishes_is (Tab.Reading r) slot link h = absurd h
  publishes_is (Tab.Last b) slot link h = absurd h
  publishes_is (Tab.Freeing f) slot link h = absurd h

  gives_back_is : (tab : Tab X) (slot : ℕ) → IsEntryOf n tab → IsEntryOf n (gives_back tab slot)
  gives_back_is (Writing w) slot h = h
  gives_back_is Tab.Free slot h = absurd h
  gives_back_is (Tab.Retreating b) slot h = absurd h
  gives_back_is (Tab.Reading r) slot h = absurd h
  gives_back_is (Tab.Last b) slot h = absurd h
  gives_back_is (Tab.Freeing f) slot h = absurd h

  starts_is : (tab : Tab X) (value : ℕ) → IsEntryOf n tab → IsEntryOf n (stores tab Start value)
  starts_is (Writing w) value h = h
  starts_is Tab.Free value h = absurd h
  starts_is (Tab.Retreating b) value h = absurd h
  starts_is (Tab.Reading r) value h = absurd h
  starts_is (Tab.Last b) value h = absurd h
  starts_is (Tab.Freeing f) value h = absurd h

  raised_is : (tab : Tab X) (word : ℕ) → IsEntryOf n tab → IsEntryOf n (raised_tab tab Appending word)
  raised_is (Writing w) word h = h
  raised_is Tab.Free word h = absurd h
  raised_is (Tab.Retreating b) word h = absurd h
  raised_is (Tab.Reading r) word h = absurd h
  raised_is (Tab.Last b) word h = absurd h
  raised_is (Tab.Freeing f) word h = absurd h

  -- once a slot is published the pass has seen the names
  shows_names : (tab : Tab X) (seen all : List Sight) → IsEntryOf n tab → all ≡ shows tab ++ seen → HasNames n all
  shows_names (Writing w) seen all h e = record {
    key0 = subst (λ (z : List Sight). Contains z (Named n.anchor n.version Key0 n.key0)) (sym e) (1, omega arith, λ i. Named (h.0 i) (h.1 i) Key0 (unwrap_or (h.2 i) 0));
    key1 = subst (λ (z : List Sight). Contains z (Named n.anchor n.version Key1 n.key1)) (sym e) (2, omega arith, λ i. Named (h.0 i) (h.1 i) Key1 (unwrap_or (h.3 i) 0));
    offer = subst (λ (z : List Sight). Contains z (Named n.anchor n.version Offer n.offer)) (sym e) (3, omega arith, λ i. Named (h.0 i) (h.1 i) Offer (unwrap_or (h.4 i) 0));
  }
  shows_names Tab.Free seen all h e = absurd h
  shows_names (Tab.Retreating b) seen all h e = absurd h
  shows_names (Tab.Reading r) seen all h e = absurd h
  shows_names (Tab.Last b) seen all h e = absurd h
  shows_names (Tab.Freeing f) seen all h e = absurd h

pub names_on : {name : Naming} {seen all : List Sight} → HasNames name seen → ((x : Sight) → Contains seen x → Contains all x) → HasNames name all
names_on {name} {seen} {all} h f = record { key0 = f _ h.key0; key1 = f _ h.key1; offer = f _ h.offer }

module _ {X : Type 0} {t : ℕ} {name : Naming} where
  -- the tab is another one, of the same entry
  pub becomes : {v w : View X} (tab : Tab X) → HasEntry t name v → w.tabs ≡ with_tab v t tab → IsEntryOf name tab → HasEntry t name w
  becomes {v} {w} tab h tabs is = record {
    pass = ap length tabs ∙ length-set v.tabs t tab ∙ h.pass;
    below = h.below;
    writes = subst (IsEntryOf name) (sym (ap (λ (xs : List (Tab X)). get_or xs t Tab.Free) tabs ∙ get_or-set_same v.tabs t tab Tab.Free (let n = h.pass in let l = h.below in omega arith))) is;
  }

  pub same_tabs : {v w : View X} → HasEntry t name v → w.tabs ≡ v.tabs → HasEntry t name w
  same_tabs {v} {w} h tabs = record {
    pass = ap length tabs ∙ h.pass;
    below = h.below;
    writes = subst (λ (xs : List (Tab X)). IsEntryOf name (get_or xs t Tab.Free)) (sym tabs) h.writes;
  }

  pub same_view : {v w : View X} → HasEntry t name v → w ≡ v → HasEntry t name w
  same_view h e = same_tabs h (ap View.tabs e)

  pub reserved_tab : {v w : View X} (slot : ℕ) → HasEntry t name v → w.tabs ≡ with_tab v t (reserves (tab_at v t) slot) → HasEntry t name w
  reserved_tab {v} {w} slot h tabs = becomes (reserves (tab_at v t) slot) h tabs (reserves_is name (tab_at v t) slot h.writes)

  pub searched_tab : {v w : View X} (claim : Option ℕ) → HasEntry t name v → w.tabs ≡ with_tab v t (searched_to (tab_at v t) claim) → HasEntry t name w
  searched_tab {v} {w} claim h tabs = becomes (searched_to (tab_at v t) claim) h tabs (searched_is name (tab_at v t) claim h.writes)

  module _ {g : Ground X} where
    pub gave_tab : {v w : View X} {slot n : ℕ} → HasEntry t name v → Steps g v (Disown t slot) n w → HasEntry t name w
    gave_tab {v} {w} {slot} {n} h st = becomes (gives_back (tab_at v t) slot) h (ap View.tabs st.leaves) (gives_back_is name (tab_at v t) slot h.writes)

    pub publish_tab : {v w : View X} {slot n : ℕ} {link : Link} → HasEntry t name v → Steps g v (Publish t slot link) n w → HasEntry t name w
    publish_tab {v} {w} {slot} {n} {link} h st = becomes (publishes (tab_at v t) slot link) h (ap View.tabs st.leaves) (publishes_is name (tab_at v t) slot link h.writes)

    start_tab : {v w : View X} {value n : ℕ} → HasEntry t name v → Steps g v (StoreSide t Start value) n w → HasEntry t name w
    start_tab {v} {w} {value} {n} h st = becomes (stores (tab_at v t) Start value) h (ap View.tabs st.leaves) (starts_is name (tab_at v t) value h.writes)

    publish_names : {v w : View X} {slot n : ℕ} {link : Link} → HasEntry t name v → Steps g v (Publish t slot link) n w → HasNames name w.seen
    publish_names {v} {w} {slot} {n} {link} h st = shows_names name (tab_at v t) v.seen w.seen h.writes (ap View.seen st.leaves)

    pub published_names : (slot : ℕ) (next : Option ℕ) (v w : View X) → HasEntry t name v → Published g t slot next v w → HasNames name w.seen
    published_names slot next v w h (inl p) = names_on (publish_names h p.linked) (by_step p.started).seen
    published_names slot next v w h (inr p) = publish_names h p.linked

    pub appending_tab : {v w : View X} {n : ℕ} → HasEntry t name v → Steps g v (Raise t Appending) n w → HasEntry t name w
    appending_tab {v} {w} {n} h st = becomes (raised_tab (tab_at v t) Appending (left_by v (Raise t Appending) n)) h (ap View.tabs st.leaves) (raised_is name (tab_at v t) (left_by v (Raise t Appending) n) h.writes)

    pub published_tab : (slot : ℕ) (next : Option ℕ) (v w : View X) → HasEntry t name v → Published g t slot next v w → HasEntry t name w
    published_tab slot next v w h (inl p) = start_tab (publish_tab h p.linked) p.started
    published_tab slot next v w h (inr p) = publish_tab h p.linked

    pub wrote_tab : {durable done : Bool} {v w : View X} → HasEntry t name v → WroteSlot g t v durable done w → HasEntry t name w
    wrote_tab {durable} {done} {v} {w} h k = becomes (Writing (chose k.writer k.slot durable k.written k.settled)) h k.tabs (subst (IsEntryOf name) k.was h.writes)

-- The stage that such a tab raises its anchor to.

held_below : {X : Type 0} (w : Writer X) → stage_written w ≤ 2
held_below w = by_bool w.is_appending
  where
    by_bool : (b : Bool) → cond b 2 1 ≤ 2
    by_bool true = omega arith
    by_bool false = omega arith

module _ {X : Type 0} (name : Naming) where
  raises_word : (tab : Tab X) (to n : ℕ) → IsEntryOf name tab → 2 ≤ to → to < 7 → stage_of (epoch_of n) ≡ stage_held tab → HasVersion tab n
      → (stage_of (epoch_of (raised n (to - stage_held tab))) ≡ to) × (version_of (epoch_of (raised n (to - stage_held tab))) ≡ name.version) × (anchor_of tab ≡ name.anchor)
  raises_word (Writing w) to n h from below stage same = let le = held_below w in
      let few : stage_of (epoch_of n) + (to - stage_written w) < 7 = omega arith in
      (stage_of-raised n (to - stage_written w) few ∙ (omega arith), version_of-raised n (to - stage_written w) few ∙ same ∙ h.1, h.0)
  raises_word Tab.Free to n h from below stage same = absurd h
  raises_word (Tab.Retreating b) to n h from below stage same = absurd h
  raises_word (Tab.Reading r) to n h from below stage same = absurd h
  raises_word (Tab.Last b) to n h from below stage same = absurd h
  raises_word (Tab.Freeing f) to n h from below stage same = absurd h

module _ {X : Type 0} {g : Ground X} {t : ℕ} {name : Naming} where
  module _ {v w : View X} {n : ℕ} (to : Stage) (h : HasEntry t name v) (st : Steps g v (Raise t to) n w) (from : 2 ≤ stage_number to) (below : stage_number to < 7) where
    told : Tells g.setting st.state v (Raise t to) n
    told = subst (Tells g.setting st.state v (Raise t to)) (sym st.found) (steps_tell g.setting st.state st.index v (Raise t to) st.rule.sound st.at st.may)

    pub raises : RaisesTo (stage_number to) name.anchor name.version (deed_of v Raised (anchor_of (tab_at v t)) (left_by v (Raise t to) n) false)
    raises = let r = raises_word name (tab_at v t) (stage_number to) n h.writes from below told.anchors.1 told.anchors.2 in
        record { kind = refl; anchor = r.2; stage_is = r.0; version_is = r.1 }

    pub raise_acted : {P : Deed → Type 0} → P (deed_of v Raised (anchor_of (tab_at v t)) (left_by v (Raise t to) n) false) → Acted None P v w
    raise_acted so = deed_step (deed_of v Raised (anchor_of (tab_at v t)) (left_by v (Raise t to) n) false) st refl refl refl so
