-- A tab that writes publishes a full slot, and so does the plain store.
use Rattle.std.proofs.Common.{Bool, Contains, List, None, Option, Some, [], ap, arith, false, inl, inr, length, refl, subst, suc, sym, true, ◌*◌, ◌++◌, ◌+◌, ◌-◌, ◌<◌, ◌∙◌, ◌≡◌, ◌≢◌, ◌≤◌, ◌⊎◌, ◌∷◌, ℕ}
use Rattle.link_word.specs.declared.link.Link.{Link as LinkOf}
use Rattle.link_word.specs.declared.link.Link.TheVariants.{Next, NotWritten}
use Rattle.lock_word.specs.declared.stage.Stage.TheVariants as stage
use Rattle.entry_cut.specs.Content.{room_of}
use Rattle.core_model.specs.Chains.{slots_of_link}
use Rattle.core_model.specs.Tabs.{IsPass, inner, tab_at}
use Rattle.core_model.specs.declared.tab.Tab.{Tab}
use Rattle.core_model.specs.declared.tab.Tab.TheVariants.{Writing}
use Rattle.core_model.specs.declared.tab.Writer.{Writer}
use Rattle.core_model.specs.declared.view.View.{View}
use Rattle.plain_model.specs.declared.entry.Entry.{Entry}
use Rattle.plain_model.specs.declared.entry.Life.TheVariants.{Growing}
use Rattle.plain_model.specs.declared.store.Plain.{Plain}
use Rattle.plain_model.specs.declared.store.Refusal.{Refusal}
use Rattle.plain_model.specs.declared.store.Refusal.TheVariants.{Full, Large}
use Rattle.plain_model.specs.declared.store.Setting.{Setting}
use Rattle.plain_model.specs.Slots.{Grown, claim, claim_two, grown_as, held, held_by, limit, publish}
use Rattle.plain_model.specs.Store.{entry_at, meta_size, place_at, published}
use Rattle.plain_laws.proofs.Alone.{published_le}
use Rattle.plain_laws.proofs.Sums.{full_slots, held_unfinished, hold}
use Rattle.store_rule.specs.Calls.{Others}
use Rattle.free_set.specs.Claims.{searched_to}
use Rattle.rock_writer.specs.Entries.{Entry as Writing_, GoesOn, not_empty, writer_as}
use Rattle.rock_writer.specs.Flushing.{HasBoth, HasSlot, LacksNext, LacksSlot, NeedsSlot, RanShort, SlotFor}
use Rattle.slice_chain.specs.Writes.{reserved_first}
use Rattle.store_rule.specs.Ground.{Ground}
use Rattle.store_rule.proofs.OtherTabs.{others_go_on}
use Rattle.plain_runs.specs.Words.{Lot, setting_of}
use Rattle.plain_runs.proofs.Growth.{grown_done, grown_not, grown_of, publish_first, publish_later, published_is, two_done, two_not}
use Rattle.plain_runs.proofs.Reserving.{ClaimStays, HasClaimed, HasRunOut, IsAmple, IsReadied, never_runs_out, reserves_right, runs_out}

some_none : {A : Type 0} {x : A} → Some x ≡ None → ⊥
some_none e = cc

some_same : {x y : ℕ} → Some x ≡ Some y → x ≡ y
some_same e = cc

pub stays_none : (p : Plain) (a : ℕ) → ClaimStays p p a
stays_none p a = record { tabs = refl; place = refl }

pub stays_on : (p q r : Plain) (a : ℕ) → ClaimStays p q a → ClaimStays q r a → ClaimStays p r a
stays_on p q r a h k = record { tabs = k.tabs ∙ h.tabs; place = k.place ∙ h.place }

others_none : {X : Type 0} (t : ℕ) (v u : View X) → u ≡ v → Others t v u
others_none t v u e j ne far = ap (λ z. tab_at z j) e

module _ (g : Ground (List ℕ)) (lot : Lot) (rename : ℕ → ℕ) (t : ℕ) (below : t < inner) (e : Writing_) where
  abbrev s : Setting
  s = setting_of g

  abbrev W : List ℕ → LinkOf → List ℕ → Tab (List ℕ)
  W ps end rs = Writing (writer_as g e ps end rs)

  -- The plain store has published as the tab has, and goes on with the store q, and the tab has reserved these slots.
  pub record HasGrown (v u : View (List ℕ)) (p : Plain) (ps : List ℕ) (end : LinkOf) (rs : List ℕ) (hand : ℕ) (q : Plain) : Type 0 where
    pub readied : IsReadied g lot rename t e.anchor u q hand
    pub tab : tab_at u t ≡ W ps end rs
    pub others : Others t v u
    pub stays : ClaimStays p q e.anchor

  -- The plain store goes on with the store q and finds no slot, as the tab did, which has reserved these.
  pub record HasRunShort (v u : View (List ℕ)) (p : Plain) (ps : List ℕ) (end : LinkOf) (rs : List ℕ) (hand : ℕ) (q : Plain) : Type 0 where
    pub readied : IsReadied g lot rename t e.anchor u q hand
    pub claim : Option ℕ
    pub tab : tab_at u t ≡ searched_to (W ps end rs) claim
    pub others : Others t v u
    pub stays : ClaimStays p q e.anchor

  -- A slot for the first piece, where nothing is published, and for a later one.
  module _ (v : View (List ℕ)) (p : Plain) (hand : ℕ) (h : IsReadied g lot rename t e.anchor v p hand) (x : Entry) (there : entry_at p e.anchor ≡ Some x) (grows : x.life ≡ Growing) where
    pub first_claimed : (slot hand_after : ℕ) (u : View (List ℕ)) → ((m : IsAmple g e.anchor p) → held s.room (place_at p e.anchor) + 0 < m.cap) → tab_at v t ≡ W [] NotWritten [] → SlotFor g t hand v slot u hand_after → HasClaimed g lot rename t 0 e.anchor v u p hand_after slot
    first_claimed slot after u more is (inl has) = absurd (some_none (sym (ap reserved_first (sym is) ∙ has.first)))
    first_claimed slot after u more is (inr needs) = reserves_right g lot rename t e.anchor v p hand h below (writer_as g e [] NotWritten []) is (λ z. refl) 0 refl u slot after x there grows more needs.reserved

    claimed_there : (n slot hand_after : ℕ) (u : View (List ℕ)) → HasClaimed g lot rename t n e.anchor v u p hand_after slot → entry_at (claim s n p).store e.anchor ≡ Some x
    claimed_there n slot hand_after u c = ap (λ y. y.entry) c.stays.place ∙ there

    module _ (filled : ℕ) (content : x.content ≡ filled * s.room) (small : filled < limit s) where
      -- Where more bytes are to come a store that fits has room for the slot that is full and for the one behind it.
      module _ (behind : x.content < meta_size x.url + length x.body) where
        same_entry : (q : Plain) → entry_at q e.anchor ≡ Some x → (m : IsAmple g e.anchor q) → m.entry ≡ x
        same_entry q is m = let k : Some m.entry ≡ Some x = sym m.there ∙ is in cc

        cap_is : (q : Plain) → entry_at q e.anchor ≡ Some x → (m : IsAmple g e.anchor q) → filled + 1 ≤ m.cap
        cap_is q is m = let enough = m.enough in let same = same_entry q is m in
            let total : published s.room (meta_size m.entry.url + length m.entry.body) ≡ published s.room (meta_size x.url + length x.body) = ap (λ (z : Entry). published s.room (meta_size z.url + length z.body)) same in
            let one : published s.room (x.content + 1) ≡ filled = published_is s.room filled (x.content + 1) (let c = content in omega arith) (let c = content in let r = m.filling in omega arith) in
            let le = published_le s.room (x.content + 1) (meta_size x.url + length x.body) m.filling (omega arith) in
            omega arith

        holds : (q : Plain) (k : ℕ) → entry_at q e.anchor ≡ Some x → filled ≡ k + 1 → (m : IsAmple g e.anchor q) → held s.room (place_at q e.anchor) ≡ hold k
        holds q k is many m = ap (held_by s.room) is ∙ (held_unfinished s.room x Growing grows (inl refl) ∙ ap hold (ap (published s.room) content ∙ full_slots s.room filled k m.filling many))

        more_first : (q : Plain) (n : ℕ) → n ≤ 1 → entry_at q e.anchor ≡ Some x → filled ≡ 1 → (m : IsAmple g e.anchor q) → held s.room (place_at q e.anchor) + n < m.cap
        more_first q n most is one m = let c = cap_is q is m in let h = holds q 0 is one m in omega arith

        more_later : (k : ℕ) → filled ≡ suc k + 1 → (m : IsAmple g e.anchor p) → held s.room (place_at p e.anchor) + 0 < m.cap
        more_later k many m = let c = cap_is p there m in let h = holds p (suc k) there many m in omega arith

      first_both : (slot next hand_after : ℕ) (u : View (List ℕ)) → x.content < meta_size x.url + length x.body → tab_at v t ≡ W [] NotWritten [] → filled ≡ 1 → HasBoth g t hand v slot next u hand_after
          → (q : Plain) × (publish s e.anchor filled p ≡ grown_as q None) × HasGrown v u p [] NotWritten (slot ∷ next ∷ []) hand_after q
      first_both slot next hand_after u behind is one both = (
        (claim s 1 (claim s 0 p).store).store,
        publish_first s e.anchor filled p x there content small one ∙ (ap grown_of (two_done s p c1.done) ∙ grown_done (claim s 1 (claim s 0 p).store) c2.done),
        record {
          readied = c2.readied;
          tab = c2.tab ∙ ap (λ z. Rattle.core_model.specs.SlotMoves.reserves z next) at;
          others = others_go_on v both.middle u t c1.others c2.others;
          stays = stays_on p (claim s 0 p).store (claim s 1 (claim s 0 p).store).store e.anchor c1.stays c2.stays;
        },
      )
        where
          c1 : HasClaimed g lot rename t 0 e.anchor v both.middle p both.hand_between slot
          c1 = first_claimed slot both.hand_between both.middle (more_first behind p 0 (omega arith) there one) is both.for_piece

          at : tab_at both.middle t ≡ W [] NotWritten (slot ∷ [])
          at = c1.tab ∙ ap (λ z. Rattle.core_model.specs.SlotMoves.reserves z slot) is

          c2 : HasClaimed g lot rename t 1 e.anchor both.middle u (claim s 0 p).store hand_after next
          c2 = reserves_right g lot rename t e.anchor both.middle (claim s 0 p).store both.hand_between c1.readied below (writer_as g e [] NotWritten (slot ∷ [])) at (λ z. refl) 1 refl u next hand_after x
              (claimed_there 0 slot both.hand_between both.middle c1) grows (more_first behind (claim s 0 p).store 1 (omega arith) (claimed_there 0 slot both.hand_between both.middle c1) one) both.behind

      later_both : (y : ℕ) (ys : List ℕ) (nx slot next hand_after : ℕ) (u : View (List ℕ)) → x.content < meta_size x.url + length x.body → filled ≡ length (y ∷ ys) + 1 → tab_at v t ≡ W (y ∷ ys) (Next nx) (nx ∷ []) → filled ≢ 1 → HasBoth g t hand v slot next u hand_after
          → (q : Plain) × (publish s e.anchor filled p ≡ grown_as q None) × HasGrown v u p (y ∷ ys) (Next nx) (slot ∷ next ∷ []) hand_after q
      later_both y ys nx slot next hand_after u behind many is more both = of_slot both.for_piece
        where
          of_slot : SlotFor g t hand v slot both.middle both.hand_between → (q : Plain) × (publish s e.anchor filled p ≡ grown_as q None) × HasGrown v u p (y ∷ ys) (Next nx) (slot ∷ next ∷ []) hand_after q
          of_slot (inr needs) = absurd (some_none (ap reserved_first (sym is) ∙ needs.none))
          of_slot (inl has) = (
            (claim s 0 p).store,
            publish_later s e.anchor filled p x there content small more ∙ grown_done (claim s 0 p) c.done,
            record {
              readied = c.readied;
              tab = c.tab ∙ ap (λ z. Rattle.core_model.specs.SlotMoves.reserves z next) is ∙ ap (λ (z : ℕ). W (y ∷ ys) (Next nx) (z ∷ next ∷ [])) same;
              others = c.others;
              stays = c.stays;
            },
          )
            where
              same : nx ≡ slot
              same = some_same (ap reserved_first (sym is) ∙ has.first)

              c : HasClaimed g lot rename t 0 e.anchor v u p hand_after next
              c = reserves_right g lot rename t e.anchor v p hand h below (writer_as g e (y ∷ ys) (Next nx) (nx ∷ [])) is (λ z. cc) 0 refl u next hand_after x there grows
                  (more_later behind (length ys) (let z = many in omega arith)) (moved has.same has.stays both.behind)
                where
                  moved : {m : View (List ℕ)} {n : ℕ} → m ≡ v → n ≡ hand → Rattle.rock_writer.specs.Reserving.Reserved g t n m next u hand_after → Rattle.rock_writer.specs.Reserving.Reserved g t hand v next u hand_after
                  moved a b r = subst (λ z. z) (λ i. Rattle.rock_writer.specs.Reserving.Reserved g t (b i) (a i) next u hand_after) r

      -- A full slot and one more behind it: the plain store grows.
      pub both_right : (ps : List ℕ) (end : LinkOf) (slot next hand_after : ℕ) (u : View (List ℕ)) → x.content < meta_size x.url + length x.body → GoesOn ps end → tab_at v t ≡ W ps end (slots_of_link end) → filled ≡ length ps + 1 → HasBoth g t hand v slot next u hand_after
          → (q : Plain) × (publish s e.anchor filled p ≡ grown_as q None) × HasGrown v u p ps end (slot ∷ next ∷ []) hand_after q
      both_right [] end slot next hand_after u behind goes is many both = subst (λ (z : LinkOf). (q : Plain) × (publish s e.anchor filled p ≡ grown_as q None) × HasGrown v u p [] z (slot ∷ next ∷ []) hand_after q) (sym goes)
          (first_both slot next hand_after u behind (is ∙ ap (λ (z : LinkOf). W [] z (slots_of_link z)) goes) (many ∙ (omega arith)) both)
      both_right (y ∷ ys) end slot next hand_after u behind goes is many both = subst (λ (z : LinkOf). (q : Plain) × (publish s e.anchor filled p ≡ grown_as q None) × HasGrown v u p (y ∷ ys) z (slot ∷ next ∷ []) hand_after q) (sym goes.1)
          (later_both y ys goes.0 slot next hand_after u behind many (is ∙ ap (λ (z : LinkOf). W (y ∷ ys) z (slots_of_link z)) goes.1) (λ one. let z = many in omega arith) both)

      -- The slot that is lacked is one that the plain store lacks.
      abbrev IsShort : (u : View (List ℕ)) (ps : List ℕ) (end : LinkOf) (hand_after : ℕ) → Type 0
      IsShort u ps end hand_after = (q : Plain) × (publish s e.anchor filled p ≡ grown_as q (Some Full)) × (rs : List ℕ) × HasRunShort v u p ps end rs hand_after q

      first_short : (hand_after : ℕ) (u : View (List ℕ)) → tab_at v t ≡ W [] NotWritten [] → filled ≡ 1 → RanShort g t hand v u hand_after → IsShort u [] NotWritten hand_after
      first_short hand_after u is one (inl (stays, lacks)) = subst (IsShort u [] NotWritten) (sym stays) (
        p,
        publish_first s e.anchor filled p x there content small one ∙ (ap grown_of (two_not s p r.none) ∙ (grown_not (claim s 0 p) r.none ∙ ap (λ q. grown_as q (Some Full)) r.same)),
        [],
        record { readied = r.readied; claim = r.claim; tab = r.tab ∙ ap (λ z. searched_to z r.claim) is; others = r.others; stays = stays_none p e.anchor },
      )
        where
          r : HasRunOut g lot rename t 0 e.anchor v u p hand
          r = runs_out g lot rename t e.anchor v p hand h below (writer_as g e [] NotWritten []) is (λ z. refl) 0 refl u lacks.out
      first_short hand_after u is one (inr lacks) = (
        (claim s 0 p).store,
        publish_first s e.anchor filled p x there content small one ∙ (ap grown_of (two_done s p c1.done) ∙ (grown_not (claim s 1 (claim s 0 p).store) r.none ∙ ap (λ q. grown_as q (Some Full)) r.same)),
        lacks.slot ∷ [],
        record { readied = r.readied; claim = r.claim; tab = r.tab ∙ ap (λ z. searched_to z r.claim) at; others = others_go_on v lacks.middle u t c1.others r.others; stays = c1.stays },
      )
        where
          c1 : HasClaimed g lot rename t 0 e.anchor v lacks.middle p hand_after lacks.slot
          c1 = first_claimed lacks.slot hand_after lacks.middle (λ m. absurd (never_runs_out g lot rename m lacks.out)) is lacks.for_piece

          at : tab_at lacks.middle t ≡ W [] NotWritten (lacks.slot ∷ [])
          at = c1.tab ∙ ap (λ z. Rattle.core_model.specs.SlotMoves.reserves z lacks.slot) is

          r : HasRunOut g lot rename t 1 e.anchor lacks.middle u (claim s 0 p).store hand_after
          r = runs_out g lot rename t e.anchor lacks.middle (claim s 0 p).store hand_after c1.readied below (writer_as g e [] NotWritten (lacks.slot ∷ [])) at (λ z. refl) 1 refl u lacks.out

      later_short : (y : ℕ) (ys : List ℕ) (nx hand_after : ℕ) (u : View (List ℕ)) → tab_at v t ≡ W (y ∷ ys) (Next nx) (nx ∷ []) → filled ≢ 1 → RanShort g t hand v u hand_after → IsShort u (y ∷ ys) (Next nx) hand_after
      later_short y ys nx hand_after u is more (inl (stays, lacks)) = absurd (some_none (ap reserved_first (sym is) ∙ lacks.none))
      later_short y ys nx hand_after u is more (inr lacks) = of_slot lacks.for_piece
        where
          of_slot : SlotFor g t hand v lacks.slot lacks.middle hand_after → IsShort u (y ∷ ys) (Next nx) hand_after
          of_slot (inr needs) = absurd (some_none (ap reserved_first (sym is) ∙ needs.none))
          of_slot (inl has) = subst (IsShort u (y ∷ ys) (Next nx)) (sym has.stays) (
            p,
            publish_later s e.anchor filled p x there content small more ∙ (grown_not (claim s 0 p) r.none ∙ ap (λ q. grown_as q (Some Full)) r.same),
            nx ∷ [],
            record { readied = r.readied; claim = r.claim; tab = r.tab ∙ ap (λ z. searched_to z r.claim) is; others = r.others; stays = stays_none p e.anchor },
          )
            where
              moved : {m : View (List ℕ)} {n : ℕ} → m ≡ v → n ≡ hand → Rattle.rock_writer.specs.Reserving.RanOut g t n m u → Rattle.rock_writer.specs.Reserving.RanOut g t hand v u
              moved a b r = subst (λ z. z) (λ i. Rattle.rock_writer.specs.Reserving.RanOut g t (b i) (a i) u) r

              r : HasRunOut g lot rename t 0 e.anchor v u p hand
              r = runs_out g lot rename t e.anchor v p hand h below (writer_as g e (y ∷ ys) (Next nx) (nx ∷ [])) is (λ z. cc) 0 refl u (moved has.same has.stays lacks.out)

      pub short_right : (ps : List ℕ) (end : LinkOf) (hand_after : ℕ) (u : View (List ℕ)) → GoesOn ps end → tab_at v t ≡ W ps end (slots_of_link end) → filled ≡ length ps + 1 → RanShort g t hand v u hand_after → IsShort u ps end hand_after
      short_right [] end hand_after u goes is many out = subst (λ (z : LinkOf). IsShort u [] z hand_after) (sym goes) (first_short hand_after u (is ∙ ap (λ (z : LinkOf). W [] z (slots_of_link z)) goes) (many ∙ (omega arith)) out)
      short_right (y ∷ ys) end hand_after u goes is many out = subst (λ (z : LinkOf). IsShort u (y ∷ ys) z hand_after) (sym goes.1)
          (later_short y ys goes.0 hand_after u (is ∙ ap (λ (z : LinkOf). W (y ∷ ys) z (slots_of_link z)) goes.1) (λ one. let z = many in omega arith) out)
