-- Words that steps leave alone, and what of the plain store they leave with them.
use Rattle.std.proofs.Common.{Contains, List, None, Option, Some, [], ap, arith, inl, inr, ne_eqb, refl, subst, sym, ◌++◌, ◌+◌, ◌-◌, ◌<◌, ◌∙◌, ◌≡◌, ◌≢◌, ◌⊎◌, ◌∷◌, ℕ}
use mathlib.Core.Logic.{dite}
use native.Mathlib.Decide.{ℕ_discrete}
use Rattle.core_model.specs.Chains.{IsSpelled, Spells, EndsUnwritten, slots_of_link}
use Rattle.core_model.specs.Layout.{IsPlace, index}
use Rattle.core_model.specs.declared.moves.Move.{Move}
use Rattle.core_model.specs.declared.moves.Side.{Side}
use Rattle.core_model.specs.declared.moves.Side.TheVariants.{Key0, Key1, Offer, Start}
use Rattle.core_model.specs.declared.view.Place.{Place}
use Rattle.core_model.specs.declared.view.Place.TheVariants.{Anchor, Beside, Counter, Link, Map, Turn, LogCounter}
use Rattle.core_model.specs.declared.view.View.{View}
use Rattle.core_alone.specs.Touched.{touched_by}
use Rattle.core_model.proofs.Lists.{contains_none}
use Rattle.core_model.proofs.Places.{apart}
use Rattle.link_word.specs.declared.link.Link.{Link as LinkOf}
use Rattle.link_word.specs.declared.link.Link.TheVariants.{Last, Next, NotWritten}
use Rattle.plain_model.specs.declared.entry.Entry.{Entry}
use Rattle.plain_model.specs.declared.store.Plain.{Plain}
use Rattle.lock_word.specs.Words.{word_number}
use Rattle.plain_model.specs.declared.entry.Place.{Place as PlaceOf}
use Rattle.plain_model.specs.Store.{entry_at, epoch_of, place_at, readers}
use Rattle.plain_laws.specs.Renaming.{renamed_word}
use Rattle.core_model.proofs.Telling.{told_in, told_out}
use Rattle.std.proofs.lemmas.List.Elements.{Contains-append_left, Contains-append_right}
use Rattle.store_rule.specs.Ground.{Ground}
use Rattle.store_rule.specs.Told.{Steps}
use Rattle.store_rule.specs.Runs.{Added, IsFollowed, Went}
use Rattle.store_rule.specs.Words.{has}
use Rattle.plain_runs.specs.Words.{HasChain, HasNames, IsLone, KnowsLot, Lot, ShowsAt, ShowsEntry, ShowsEntryIf, link_known, setting_of}
use Rattle.store_rule.proofs.AddingUp.{has_else, has_other}
use Rattle.plain_runs.proofs.OwnAnchors.{mine_lone}

-- the words of which `Knows` speaks: those of turns, of the map of taken slots and of the counter of logged pieces are left out
abbrev pub IsKnown : Place → Type 0
IsKnown (Turn slot) = ⊥
IsKnown (Map word) = ⊥
IsKnown LogCounter = ⊥
IsKnown q = Unit {0}

known_followed : (q : Place) → IsKnown q → IsFollowed q
known_followed (Anchor a) h = tt
known_followed (Beside side a) h = tt
known_followed (Link slot) h = tt
known_followed (Turn slot) h = absurd h
known_followed (Map word) h = absurd h
known_followed Counter h = tt
known_followed LogCounter h = absurd h

module _ (g : Ground (List ℕ)) where
  -- each such word is in w as it is in v, but for these
  pub record SameBut (v w : View (List ℕ)) (Changed : Place → Type 0) : Type 0 where
    pub same : (q : Place) → IsKnown q → IsPlace g.setting q → (Changed q → ⊥) → has g w q ≡ has g v q

  pub same_none : (v : View (List ℕ)) (Changed : Place → Type 0) → SameBut v v Changed
  same_none v Changed = record { same = λ q known here ne. refl }

  pub same_on : (v u w : View (List ℕ)) (A B : Place → Type 0) → SameBut v u A → SameBut u w B → SameBut v w (λ q. A q ⊎ B q)
  same_on v u w A B first second = record { same = λ q known here ne. second.same q known here (λ b. ne (inr b)) ∙ first.same q known here (λ a. ne (inl a)) }

  pub same_weaker : (v w : View (List ℕ)) (A B : Place → Type 0) → ((q : Place) → A q → B q) → SameBut v w A → SameBut v w B
  same_weaker v w A B h s = record { same = λ q known here ne. s.same q known here (λ a. ne (h q a)) }

  -- of steps that may have changed these places of the table
  pub went_same : IsLone g → (v w : View (List ℕ)) (d : Added) → Went g v d w → ((q : Place) → Contains d.changed q → IsPlace g.setting q) → SameBut v w (Contains d.changed)
  went_same lone v w d went there = record { same = λ q known here ne. went.steady q (known_followed q known) here (mine_lone g lone v q) (λ r c e. ne (subst (Contains d.changed) (apart g.setting r q (there r c) here e) c)) }

  -- of steps that touched no other places of the table, also where others change words
  pub went_touched : (v w : View (List ℕ)) (d : Added) → Went g v d w → ((q : Place) → Contains d.touched q → IsPlace g.setting q) → SameBut v w (Contains d.touched)
  went_touched v w d went there = record { same = λ q known here ne. went.apart q (known_followed q known) here (λ r c e. ne (subst (Contains d.touched) (apart g.setting r q (there r c) here e) c)) }

  pub went_none : IsLone g → (v w : View (List ℕ)) (d : Added) → Went g v d w → d.changed ≡ [] → SameBut v w (λ q. ⊥)
  went_none lone v w d went none = record { same = λ q known here ne. went.steady q (known_followed q known) here (mine_lone g lone v q) (λ r c e. nothing_in r (subst (λ (z : List Place). Contains z r) none c)) }
    where
      nothing_in : (r : Place) → Contains [] r → ⊥
      nothing_in r c = contains_none r c

  -- Of one step: on this place, on none, on a word of the map, on a turn word, and on the counter of logged pieces.
  pub step_same : (v w : View (List ℕ)) (m : Move) (n : ℕ) (r : Place) → Steps g v m n w → touched_by v m n ≡ r ∷ [] → IsPlace g.setting r → SameBut v w (λ q. q ≡ r)
  step_same v w m n r st is there = record { same = λ q known here ne. has_other g v w m n r q st is (λ e. ne (sym (apart g.setting r q there here e))) }

  pub step_same_none : (v w : View (List ℕ)) (m : Move) (n : ℕ) → Steps g v m n w → touched_by v m n ≡ [] → SameBut v w (λ q. ⊥)
  step_same_none v w m n st is = record { same = λ q known here ne. has_else g v w m n q st (λ r c. absurd (contains_none r (subst (λ (z : List Place). Contains z r) is c))) }

  pub step_same_map : (v w : View (List ℕ)) (m : Move) (n word : ℕ) → Steps g v m n w → touched_by v m n ≡ Map word ∷ [] → IsPlace g.setting (Map word) → SameBut v w (λ q. ⊥)
  step_same_map v w m n word st is there = record { same = λ q known here ne. (step_same v w m n (Map word) st is there).same q known here (λ e. subst IsKnown e known) }

  pub step_same_turn : (v w : View (List ℕ)) (m : Move) (n slot : ℕ) → Steps g v m n w → touched_by v m n ≡ Turn slot ∷ [] → IsPlace g.setting (Turn slot) → SameBut v w (λ q. ⊥)
  step_same_turn v w m n slot st is there = record { same = λ q known here ne. (step_same v w m n (Turn slot) st is there).same q known here (λ e. subst IsKnown e known) }

  pub step_same_log : (v w : View (List ℕ)) (m : Move) (n : ℕ) → Steps g v m n w → touched_by v m n ≡ LogCounter ∷ [] → SameBut v w (λ q. ⊥)
  step_same_log v w m n st is = record { same = λ q known here ne. (step_same v w m n LogCounter st is tt).same q known here (λ e. subst IsKnown e known) }

  -- What is shown at an anchor stays, where its words and the links of its chain do.
  pub names_same : (v w : View (List ℕ)) (Changed : Place → Type 0) (b : ℕ) (e : Entry) → b < g.setting.anchors → SameBut v w Changed → ((side : Side) → Changed (Beside side b) → ⊥) → HasNames g v b e → HasNames g w b e
  names_same v w Changed b e lt s ne h = record {
    key0 = s.same (Beside Key0 b) tt lt (ne Key0) ∙ h.key0;
    key1 = s.same (Beside Key1 b) tt lt (ne Key1) ∙ h.key1;
    offer = s.same (Beside Offer b) tt lt (ne Offer) ∙ h.offer;
  }

  spells_same : (old new : ℕ → ℕ) (xs : List ℕ) (end : LinkOf) → ((j : ℕ) → Contains xs j → new j ≡ old j) → Spells old xs end → Spells new xs end
  spells_same old new [] end same h = tt
  spells_same old new (x ∷ rest) end same h = (same x (0, omega arith, refl) ∙ h.0, spells_same old new rest end (λ j c. same j (Contains-append_right (x ∷ []) rest j c)) h.1)

  ends_same : (old new : ℕ → ℕ) (end : LinkOf) → ((j : ℕ) → Contains (slots_of_link end) j → new j ≡ old j) → EndsUnwritten old end → EndsUnwritten new end
  ends_same old new NotWritten same h = tt
  ends_same old new Last same h = tt
  ends_same old new (Next slot) same h = same slot (0, omega arith, refl) ∙ h

  -- words that spell slots spell them where the start and their links, and that of a slot that the last one names, are the same
  pub spelled_same : (start other : ℕ) (old new : ℕ → ℕ) (xs : List ℕ) (end : LinkOf) → other ≡ start → ((j : ℕ) → Contains (xs ++ slots_of_link end) j → new j ≡ old j)
      → IsSpelled start old xs end → IsSpelled other new xs end
  spelled_same start other old new xs end is same h = record {
    starts = is ∙ h.starts;
    spelled = spells_same old new xs end (λ j c. same j (Contains-append_left xs (slots_of_link end) j c)) h.spelled;
    fits = h.fits;
    ends = ends_same old new end (λ j c. same j (Contains-append_right xs (slots_of_link end) j c)) h.ends;
  }

  pub link_same : (v w : View (List ℕ)) (Changed : Place → Type 0) (j : ℕ) → SameBut v w Changed → (Changed (Link j) → ⊥) → link_known g w j ≡ link_known g v j
  link_same v w Changed j s ne = dite (ℕ_discrete (g.setting.slots - j) 0)
      (λ e. told_out g.setting.slots j _ (omega arith) ∙ sym (told_out g.setting.slots j _ (omega arith)))
      (λ less. told_in g.setting.slots j _ (omega arith) ∙ s.same (Link j) tt (omega arith) ne ∙ sym (told_in g.setting.slots j _ (omega arith)))

  pub chain_same : (v w : View (List ℕ)) (Changed : Place → Type 0) (b : ℕ) (e : Entry) → b < g.setting.anchors → SameBut v w Changed → (Changed (Beside Start b) → ⊥)
      → (h : HasChain g v b e) → ((j : ℕ) → Contains (h.slots ++ slots_of_link h.end) j → Changed (Link j) → ⊥) → HasChain g w b e
  chain_same v w Changed b e lt s start h ne = record {
    slots = h.slots;
    end = h.end;
    spelled = spelled_same (has g v (Beside Start b)) (has g w (Beside Start b)) (link_known g v) (link_known g w) h.slots h.end (s.same (Beside Start b) tt lt start)
        (λ j c. link_same v w Changed j s (ne j c)) h.spelled;
    many = h.many;
    ends = h.ends;
  }

  -- What leaves an anchor alone: its words, and the links of the chain of the entry there.
  pub record LeavesAlone (v : View (List ℕ)) (Changed : Place → Type 0) (b : ℕ) (e : Option Entry) : Type 0 where
    pub word : Changed (Anchor b) → ⊥
    pub sides : (side : Side) → Changed (Beside side b) → ⊥
    pub links : (x : Entry) → e ≡ Some x → (h : HasChain g v b x) → (j : ℕ) → Contains (h.slots ++ slots_of_link h.end) j → Changed (Link j) → ⊥

  pub entry_same : (v w : View (List ℕ)) (Changed : Place → Type 0) (b version : ℕ) (e : Option Entry) → b < g.setting.anchors → SameBut v w Changed → LeavesAlone v Changed b e
      → ShowsEntryIf g v b version e → ShowsEntryIf g w b version e
  entry_same v w Changed b version None lt s alone h = tt
  entry_same v w Changed b version (Some e) lt s alone h = record {
    names = names_same v w Changed b e lt s alone.sides h.names;
    chain = chain_same v w Changed b e lt s (alone.sides Start) h.chain (alone.links e refl h.chain);
    offer = h.offer;
    drawn = h.drawn;
  }

  module _ (rename : ℕ → ℕ) where
    pub shows_elsewhere : (v w : View (List ℕ)) (Changed : Place → Type 0) (p q : Plain) (n b : ℕ) → b < g.setting.anchors → ShowsAt g rename v p n b
        → place_at q b ≡ place_at p b → readers q b ≡ readers p b → SameBut v w Changed → LeavesAlone v Changed b (entry_at p b) → ShowsAt g rename w q n b
    shows_elsewhere v w Changed p q n b lt h there counted s alone = record {
      word = s.same (Anchor b) tt lt alone.word ∙ h.word ∙ ap (λ z. word_number (renamed_word rename z) + n) (λ i. record { epoch = epoch_of (setting_of g).room (sym there i); readers = sym counted i });
      entry = moved (sym there) (entry_same v w Changed b (place_at p b).version (entry_at p b) lt s alone h.entry);
    }
      where
        moved : {x y : PlaceOf} → x ≡ y → ShowsEntryIf g w b x.version x.entry → ShowsEntryIf g w b y.version y.entry
        moved e k = subst (λ (z : PlaceOf). ShowsEntryIf g w b z.version z.entry) e k

    pub knows_same : {lot : Lot} (v w : View (List ℕ)) (p : Plain) (guests : ℕ → ℕ) → KnowsLot g rename lot v p guests → SameBut v w (λ q. ⊥) → KnowsLot g rename lot w p guests
    knows_same v w p guests h s = record {
      counter = λ own. s.same Counter tt tt (λ none. none) ∙ h.counter own;
      many = h.many;
      each = λ a lt own. shows_elsewhere v w (λ q. ⊥) p p (guests a) a lt (h.each a lt own) refl refl s record { word = λ none. none; sides = λ side none. none; links = λ x e k j c none. none };
    }
