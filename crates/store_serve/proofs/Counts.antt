-- A writer has seen how many slots of its entry are published.
use Rattle.std.proofs.Common.{Bool, Contains, List, Option, Some, [], ap, arith, get_or, get_or-set_same, inl, inr, length, length-append, refl, subst, sym, ◌*◌, ◌+◌, ◌++◌, ◌-◌, ◌/◌, ◌<◌, ◌≡◌, ◌≤◌, ◌⊎◌, ◌∙◌, ◌∷◌, ℕ}
use Rattle.std.proofs.lemmas.Nat.{div-mul-add}
use Rattle.link_word.specs.declared.link.Link.{Link}
use Rattle.lock_word.specs.declared.stage.Stage.TheVariants.{Appending}
use Rattle.rock_disk.specs.Cell.{CellState}
use Rattle.entry_cut.specs.Content.{room_of}
use Rattle.core_model.specs.AnchorMoves.{raised_tab}
use Rattle.core_model.specs.SlotMoves.{publishes, shows, stores}
use Rattle.core_model.specs.Table.{left_by}
use Rattle.core_model.specs.Tabs.{tab_at, with_tab}
use Rattle.core_model.specs.declared.moves.Move.TheVariants.{Publish, Raise}
use Rattle.core_model.specs.declared.moves.Side.TheVariants.{Start}
use Rattle.core_model.specs.declared.tab.Tab.{Tab}
use Rattle.core_model.specs.declared.tab.Tab.TheVariants.{Writing}
use Rattle.core_model.specs.declared.view.Sight.{Sight}
use Rattle.core_model.specs.declared.view.Sight.TheVariants.{Published as SlotsSeen}
use Rattle.core_model.specs.declared.view.View.{View}
use Rattle.store_rule.specs.declared.store.Pass.{Pass}
use Rattle.store_rule.specs.declared.store.Store.{Store}
use Rattle.tab_states.specs.Desks.{draft_at}
use Rattle.store_rule.specs.Ground.{Ground, Offers}
use Rattle.store_rule.specs.Passes.{basis, view}
use Rattle.store_rule.specs.Told.{Steps}
use Rattle.slice_chain.specs.Links.{Published}
use Rattle.rock_writer.specs.Appending.{Appended, TookBehind, TookHere, TookNone, place_of}
use Rattle.rock_writer.specs.Beginning.{Began, begun}
use Rattle.rock_writer.specs.Entries.{Entry, WritesAs, url_in, with_taken}
use Rattle.rock_writer.specs.Flushing.{Flushed, RaisedBefore, RaisedFirst}
use Rattle.store_serve.specs.Adding.{Added, Call, Took, taken_on}
use Rattle.store_serve.specs.Deeds.{HasNames, Naming, OfReserving, name_of}
use Rattle.store_serve.specs.Showing.{HasShown}
use Rattle.store_serve.proofs.EntryTabs.{HasEntry, IsEntryOf, names_on, published_names, published_tab}
use Rattle.store_serve.proofs.Grown.{by_step}
use Rattle.store_serve.proofs.WriterDeeds.{entry_of, has_both, wrote_one}

-- how many slots the tab has published
abbrev pub slots_of : {X : Type 0} → Tab X → ℕ
slots_of (Writing w) = length w.published
slots_of tab = 0

module _ {X : Type 0} where
  stored_slots : (tab : Tab X) (value : ℕ) → slots_of (stores tab Start value) ≡ slots_of tab
  stored_slots (Writing w) value = refl
  stored_slots Tab.Free value = refl
  stored_slots (Tab.Retreating b) value = refl
  stored_slots (Tab.Reading r) value = refl
  stored_slots (Tab.Last b) value = refl
  stored_slots (Tab.Freeing f) value = refl

  raised_slots : (n : Naming) (tab : Tab X) (word : ℕ) → IsEntryOf n tab → slots_of (raised_tab tab Appending word) ≡ slots_of tab
  raised_slots n (Writing w) word h = refl
  raised_slots n Tab.Free word h = absurd h
  raised_slots n (Tab.Retreating b) word h = absurd h
  raised_slots n (Tab.Reading r) word h = absurd h
  raised_slots n (Tab.Last b) word h = absurd h
  raised_slots n (Tab.Freeing f) word h = absurd h

  shows_slots : (n : Naming) (tab : Tab X) (slot : ℕ) (link : Link) (seen all : List Sight) → IsEntryOf n tab → all ≡ shows tab ++ seen → Contains all (SlotsSeen n.anchor n.version (slots_of (publishes tab slot link)))
  shows_slots n (Writing w) slot link seen all h e = subst (λ (z : List Sight). Contains z (SlotsSeen n.anchor n.version (length (w.published ++ slot ∷ [])))) (sym e)
      (0, omega arith, λ i. SlotsSeen (h.0 i) (h.1 i) (sym (length-append w.published (slot ∷ [])) i))
  shows_slots n Tab.Free slot link seen all h e = absurd h
  shows_slots n (Tab.Retreating b) slot link seen all h e = absurd h
  shows_slots n (Tab.Reading r) slot link seen all h e = absurd h
  shows_slots n (Tab.Last b) slot link seen all h e = absurd h
  shows_slots n (Tab.Freeing f) slot link seen all h e = absurd h

-- the pass has seen how many slots its tab has published
abbrev Counts : {X : Type 0} → (t : ℕ) → Naming → View X → Type 0
Counts t n v = Contains v.seen (SlotsSeen n.anchor n.version (slots_of (tab_at v t)))

tab_now : {X : Type 0} {t : ℕ} {n : Naming} {v : View X} (w : View X) (tab : Tab X) → HasEntry t n v → w.tabs ≡ with_tab v t tab → tab_at w t ≡ tab
tab_now {X} {t} {n} {v} w tab h tabs = ap (λ (xs : List (Tab X)). get_or xs t Tab.Free) tabs ∙ get_or-set_same v.tabs t tab Tab.Free (let m = h.pass in let l = h.below in omega arith)

kept : {X : Type 0} (t : ℕ) (n : Naming) (v w : View X) → slots_of (tab_at w t) ≡ slots_of (tab_at v t) → ((x : Sight) → Contains v.seen x → Contains w.seen x) → Counts t n v → Counts t n w
kept t n v w same f c = f (SlotsSeen n.anchor n.version (slots_of (tab_at w t))) (subst (λ (k : ℕ). Contains v.seen (SlotsSeen n.anchor n.version k)) (sym same) c)

module _ {X : Type 0} {g : Ground X} {t : ℕ} {n : Naming} where
  publish_counts : {v w : View X} {slot m : ℕ} {link : Link} → HasEntry t n v → Steps g v (Publish t slot link) m w → Counts t n w
  publish_counts {v} {w} {slot} {m} {link} h st = subst (λ (z : Tab X). Contains w.seen (SlotsSeen n.anchor n.version (slots_of z))) (sym (tab_now w (publishes (tab_at v t) slot link) h (ap View.tabs st.leaves)))
      (shows_slots n (tab_at v t) slot link v.seen w.seen h.writes (ap View.seen st.leaves))

  published_counts : (slot : ℕ) (next : Option ℕ) (v w : View X) → HasEntry t n v → Published g t slot next v w → Counts t n w
  published_counts slot next v w h (inl p) = kept t n p.middle w (ap slots_of (tab_now w (stores (tab_at p.middle t) Start (slot + 1)) (Rattle.store_serve.proofs.EntryTabs.publish_tab h p.linked) (ap View.tabs p.started.leaves)) ∙ stored_slots (tab_at p.middle t) (slot + 1)) (by_step p.started).seen (publish_counts h p.linked)
  published_counts slot next v w h (inr p) = publish_counts h p.linked

  raised_counts : (v linked w : View X) → HasEntry t n linked → Counts t n linked → RaisedFirst g t v linked w ⊎ RaisedBefore g t v linked w → Counts t n w
  raised_counts v linked w h c (inl k) = kept t n linked w (ap slots_of (tab_now w (raised_tab (tab_at linked t) Appending (left_by linked (Raise t Appending) k.word)) h (ap View.tabs k.raises.leaves)) ∙ raised_slots n (tab_at linked t) (left_by linked (Raise t Appending) k.word) h.writes) (by_step k.raises).seen c
  raised_counts v linked w h c (inr k) = subst (λ (z : View X). Counts t n z) (sym k.same) c

  raised_names : (v linked w : View X) → HasNames n linked.seen → RaisedFirst g t v linked w ⊎ RaisedBefore g t v linked w → HasNames n w.seen
  raised_names v linked w names (inl k) = names_on names (by_step k.raises).seen
  raised_names v linked w names (inr k) = subst (λ (z : View X). HasNames n z.seen) (sym k.same) names

  flushed_counts : {hand after : ℕ} {durable : Bool} {v w : View X} → HasEntry t n v → Flushed g t hand durable v w after → Counts t n w × HasNames n w.seen
  flushed_counts {hand} {after} {durable} {v} {w} h k = let first = has_both g t n h k.both in let second = wrote_one g t n {P = OfReserving g} first.entry k.wrote.wrote in
      let entry = published_tab k.slot (Some k.next) k.wrote.written k.linked second.entry k.wrote.publishes in (
        raised_counts v k.linked w entry (published_counts k.slot (Some k.next) k.wrote.written k.linked second.entry k.wrote.publishes) k.raised,
        raised_names v k.linked w (published_names k.slot (Some k.next) k.wrote.written k.linked second.entry k.wrote.publishes) k.raised,
      )

place_is : (k h r : ℕ) → 1 ≤ h → h ≤ r → (k * r + h - 1) / r ≡ k
place_is k h r some within = ap (λ (n : ℕ). n / r) split ∙ div-mul-add k r (h - 1) (omega arith)
  where
    split : k * r + h - 1 ≡ k * r + (h - 1)
    split = omega arith

-- of a content that has room in one slot none is published
none_yet : (url slot : ℕ) → url + 72 ≤ slot → (32 + url + 0 - 1) / (slot - 40) ≡ 0
none_yet url slot le = ap (λ (n : ℕ). n / (slot - 40)) split ∙ place_is 0 (32 + url) (slot - 40) (omega arith) (omega arith)
  where
    split : 32 + url + 0 - 1 ≡ 0 * (slot - 40) + (32 + url) - 1
    split = omega arith

none_above : {n : ℕ} → n ≡ 0 → 0 < n → ⊥
none_above e lt = omega arith

module _ {C O : Type 0} (tells : Bool) (state : C → CellState) (offers : O → Offers) (s : Store C O) (t : ℕ) where
  place_at : (e : Entry) (p : Pass C) → WritesAs tells state offers s p t e → place_of (basis tells state offers s) e ≡ slots_of (tab_at (view p) t)
  place_at e p h = ap (λ (z : ℕ). (z - 1) / room_of (basis tells state offers s).slot) h.drafts.count
      ∙ place_is (length h.published) (draft_at p.desks t).held (room_of (basis tells state offers s).slot) h.drafts.least h.drafts.within
      ∙ sym (ap slots_of h.rests.is)

  -- as the tab has it
  shown : (e : Entry) (p : Pass C) → WritesAs tells state offers s p t e → (0 < slots_of (tab_at (view p) t) → Counts t (name_of (basis tells state offers s) e) (view p) × HasNames (name_of (basis tells state offers s) e) (view p).seen)
      → HasShown (basis tells state offers s) e (view p).seen
  shown e p h f = subst (λ (k : ℕ). 0 < k → Contains (view p).seen (SlotsSeen e.anchor e.version k) × HasNames (name_of (basis tells state offers s) e) (view p).seen) (sym (place_at e p h)) f

  had : (e : Entry) (p : Pass C) → WritesAs tells state offers s p t e → HasShown (basis tells state offers s) e (view p).seen
      → 0 < slots_of (tab_at (view p) t) → Counts t (name_of (basis tells state offers s) e) (view p) × HasNames (name_of (basis tells state offers s) e) (view p).seen
  had e p h f = subst (λ (k : ℕ). 0 < k → Contains (view p).seen (SlotsSeen e.anchor e.version k) × HasNames (name_of (basis tells state offers s) e) (view p).seen) (place_at e p h) f

  how : (e : Entry) (bytes : List ℕ) (p q : Pass C) (count : ℕ) → WritesAs tells state offers s p t e → HasShown (basis tells state offers s) e (view p).seen
      → TookNone tells state offers s t e bytes p q count ⊎ TookHere tells state offers s t e bytes p q count ⊎ TookBehind tells state offers s t e bytes p q count
      → 0 < slots_of (tab_at (view q) t) → Counts t (name_of (basis tells state offers s) e) (view q) × HasNames (name_of (basis tells state offers s) e) (view q).seen
  how e bytes p q count writes before (inl k) = subst (λ (v : View (List ℕ)). 0 < slots_of (tab_at v t) → Counts t (name_of (basis tells state offers s) e) v × HasNames (name_of (basis tells state offers s) e) v.seen) (sym k.same) (had e p writes before)
  how e bytes p q count writes before (inr (inl k)) = subst (λ (v : View (List ℕ)). 0 < slots_of (tab_at v t) → Counts t (name_of (basis tells state offers s) e) v × HasNames (name_of (basis tells state offers s) e) v.seen) (sym k.same) (had e p writes before)
  how e bytes p q count writes before (inr (inr k)) = λ some. flushed_counts (entry_of tells state offers s t e writes) k.flushed

  pub appended : (e : Entry) (bytes : List ℕ) (p q : Pass C) (count : ℕ) → WritesAs tells state offers s p t e → HasShown (basis tells state offers s) e (view p).seen
      → Appended tells state offers s t e bytes p q count → HasShown (basis tells state offers s) (with_taken e (e.taken + count)) (view q).seen
  appended e bytes p q count writes before k = shown (with_taken e (e.taken + count)) q k.writes (how e bytes p q count writes before k.how)

  -- an entry of which no byte was taken has no slot
  pub began : (offer : ℕ) (url : List ℕ) (durable : Bool) (p q : Pass C) (version : ℕ) → Began tells state offers s t offer url durable p q version
      → HasShown (basis tells state offers s) (begun tells state offers s t offer url durable p q version) (view q).seen
  began offer url durable p q version h some = absurd (let none = none_yet (length (url_in (basis tells state offers s) (begun tells state offers s t offer url durable p q version))) (basis tells state offers s).slot h.writes.rests.fits.short in none_above none some)

  -- so many bytes of the body of this entry were taken, and the tab writes it still
  record Holds (e : Entry) (taken : ℕ) (q : Pass C) : Type 0 where
    writes : WritesAs tells state offers s q t (with_taken e taken)
    shows : HasShown (basis tells state offers s) (with_taken e taken) (view q).seen

  took : (e : Entry) (p : Pass C) (calls : List (Call C)) (q : Pass C) (total : ℕ) → Holds e e.taken p → Took tells state offers s t e p calls q total → Holds e (e.taken + total) q
  took e p [] q total h k = subst (λ (n : ℕ). Holds e n q) none (subst (λ (z : Pass C). Holds e e.taken z) (sym k.0) h)
    where
      none : e.taken ≡ e.taken + total
      none = let z = k.1 in omega arith
  took e p (c ∷ earlier) q total h k = let first = took e p earlier k.0 k.1 h k.2 in
      let sums : e.taken + k.1 + c.count ≡ e.taken + total = (let z = k.5 in omega arith) in
      subst (λ (n : ℕ). Holds e n q) sums (subst (λ (z : Pass C). Holds e (e.taken + k.1 + c.count) z) (sym k.4)
      (record { writes = k.3.writes; shows = appended (taken_on e k.1) c.bytes k.0 c.after c.count first.writes first.shows k.3 }))

  pub added : (e : Entry) (p q : Pass C) (total : ℕ) → WritesAs tells state offers s p t e → HasShown (basis tells state offers s) e (view p).seen
      → Added tells state offers s t e p q total → HasShown (basis tells state offers s) (taken_on e total) (view q).seen
  added e p q total writes before k = (took e p k.calls q total (record { writes = writes; shows = before }) k.took).shows
