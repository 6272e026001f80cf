-- A new pass of a store that was opened on what a rebuild kept shows the plain store that is opened on it.
use Rattle.std.proofs.Common.{Contains, List, [], ap, arith, cond, length, map, refl, subst, sym, zero, suc, ⊎_elim, ◌*◌, ◌+◌, ◌<◌, ◌∙◌, ◌∷◌, ◌≡◌, ◌≤◌, Bool, ℕ}
use Rattle.std.specs.Prelude.{All, Some, count_by, replicate}
use Rattle.std.proofs.lemmas.Bool.{lt-ltb}
use Rattle.std.proofs.lemmas.List.Elements.{All-contains, All-head}
use Rattle.std.proofs.lemmas.List.FromFn.{length-map-range_with_len}
use Rattle.std.proofs.lemmas.List.Sums.{sum_by-cons}
use Rattle.link_word.specs.declared.link.Link.{Link}
use Rattle.link_word.specs.declared.link.Link.TheVariants.{Last}
use Rattle.lock_word.specs.Words.{epoch_number}
use Rattle.store_key.specs.Anchor.{anchor_of}
use Rattle.rebuild_model.specs.declared.found.Found.{Found}
use Rattle.rebuild_model.specs.declared.rebuilt.Rebuilt.{Rebuilt}
use Rattle.rebuild_model.specs.Entry.{Entry as FileEntry, IsComplete, content_of, found_of}
use Rattle.rebuild_model.specs.Image.{BelongsTo, IsFile, IsGreatest, header_at}
use Rattle.rebuild_model.specs.Rebuilt.{IsRebuilt, IsWinner}
use Rattle.core_model.specs.declared.chain.Chain.{Chain}
use Rattle.core_model.specs.declared.view.Place.TheVariants as place
use Rattle.core_model.specs.declared.view.View.{View}
use Rattle.core_model.specs.Chains.{Fits, Spells, start_number}
use Rattle.core_model.specs.Layout.{word_in}
use Rattle.core_model.specs.Opening.{IsEmptyAt, IsKeptAt, new_view}
use Rattle.core_model.specs.Slots.{told}
use Rattle.core_model.proofs.Spelling.{firsts, no_items}
use Rattle.core_model.proofs.SlotsOpened.{contains_map, map_contains}
use Rattle.core_model.proofs.Telling.{told_in}
use Rattle.entry_cut.specs.Content.{count, room_of}
use Rattle.plain_model.specs.declared.entry.Entry.{Entry}
use Rattle.plain_model.specs.declared.entry.Place.{Place}
use Rattle.plain_model.specs.declared.kept.Kept.{Kept}
use Rattle.plain_model.specs.declared.store.Plain.{Plain}
use Rattle.plain_model.specs.declared.store.Tab.TheVariants.{Free}
use Rattle.plain_model.specs.Opening.{entry_kept, kept_at, kept_of, opened, place_kept}
use Rattle.plain_model.specs.Place.{nothing}
use Rattle.plain_model.specs.Store.{epoch_of, place_at, published, readers, reads_at}
use Rattle.store_rule.specs.Ground.{Ground, cut_of}
use Rattle.store_rule.specs.Rebuilding.{IsOpenedWith, opened_state}
use Rattle.plain_runs.specs.Words.{HasChain, HasNames, IsOfOffer, Knows, ShowsAt, ShowsEntry, ShowsEntryIf, no_guests}
use Rattle.plain_runs.specs.Ends.{HasVersions}
use Rattle.plain_runs.proofs.Filled.{slots_filled}
use Rattle.plain_runs.proofs.Kept.{HasNone, HasOne, one_kept, opened_place}

-- words that are told of the slots of a table spell what they spelled
spells_told : (n : ℕ) (links : ℕ → ℕ) (slots : List ℕ) (end : Link) → ((s : ℕ) → Contains slots s → s < n) → Spells links slots end → Spells (λ s. told n s (links s)) slots end
spells_told n links [] end within h = tt
spells_told n links (s ∷ rest) end within h = (
  told_in n s (links s) (within s (0, omega arith, refl)) ∙ h.0,
  spells_told n links rest end (λ t c. within t (suc c.0, (let z = c.1 in omega arith), c.2)) h.1,
)

-- nobody reads where all tabs are free
nobody_reads : (a n : ℕ) → count_by (reads_at a) (replicate n Free) ≡ 0
nobody_reads a zero = refl
nobody_reads a (suc n) = let h = sum_by-cons (λ t. cond (reads_at a t) 1 0) Free (replicate n Free) in let r = nobody_reads a n in omega arith

-- the law that one entry is kept at an anchor
abbrev pub OneKept : Type 0
OneKept = (slot : ℕ) (images : List (List ℕ)) (anchors anchor : ℕ) (e f : FileEntry) → IsWinner slot images anchors anchor e → IsWinner slot images anchors anchor f → e ≡ f

-- a file has one greatest version
no_greater : (slot : ℕ) (images : List (List ℕ)) (m n : ℕ) → IsGreatest slot images m → IsGreatest slot images n → m ≤ n
no_greater slot images zero n g h = omega arith
no_greater slot images (suc m) n g h = let s = g.there (omega arith) in let le = h.above s.0 s.1 in let is = s.2 in omega arith

one_greatest : (slot : ℕ) (images : List (List ℕ)) (m n : ℕ) → IsGreatest slot images m → IsGreatest slot images n → m ≡ n
one_greatest slot images m n g h = let a = no_greater slot images m n g h in let b = no_greater slot images n m h g in omega arith

module _ (g : Ground (List ℕ)) (images : List (List ℕ)) (r : Rebuilt) (b : IsRebuilt g.slot images g.setting.anchors r) (o : IsOpenedWith g r) (many : length images ≡ g.setting.slots)
    (contents_are : g.setting.contents ≡ images) (file : IsFile g.slot images) (pass : ℕ)
    (one : OneKept) (l : Rebuilt) (d : IsRebuilt g.slot images g.setting.anchors l) where
  abbrev kept : List Kept
  kept = map (kept_of images) d.entries

  abbrev plain : Plain
  plain = opened g.setting.anchors kept l.greatest

  abbrev fresh : View (List ℕ)
  fresh = new_view g.setting pass

  abbrev anchor : FileEntry → ℕ
  anchor e = anchor_of e.key g.setting.anchors

  -- what one rebuild of the file keeps, each does
  both_have : (e : FileEntry) → IsWinner g.slot images g.setting.anchors (anchor e) e → Contains b.entries e
  both_have e won =
      let f = contains_map anchor b.entries (anchor e) (b.every e won.complete) in
      subst (Contains b.entries) (one g.slot images g.setting.anchors (anchor e) f.0 e (subst (λ (n : ℕ). IsWinner g.slot images g.setting.anchors n f.0) f.2 (b.won f.0 f.1)) won) f.1

  -- an entry that is kept has its anchor
  module _ (e : FileEntry) (among : Contains d.entries e) (a : ℕ) (at : anchor e ≡ a) (lt : a < g.setting.anchors) where
    whole : IsComplete g.slot images e
    whole = (d.won e among).complete

    pub kept_there : IsKeptAt g.setting (opened_state g.setting r.winners) a (found_of e)
    kept_there = subst (λ (n : ℕ). IsKeptAt g.setting (opened_state g.setting r.winners) n (found_of e)) at
        (o.opened.kept (found_of e) (subst (λ (fs : List Found). Contains fs (found_of e)) (sym b.told) (map_contains found_of b.entries e (both_have e (d.won e among)))))

    -- its slots are those of the anchor
    pub chain_there : g.chain a ≡ e.chain
    chain_there = ap (λ (f : ℕ → List ℕ). f a) o.chain ∙ ap Chain.slots kept_there.chain

    belong : All (BelongsTo g.slot images e.first) e.chain
    belong = whole.chain.belong

    first : BelongsTo g.slot images e.first e.first
    first = All-head (BelongsTo g.slot images e.first) e.first whole.chain.behind (subst (All (BelongsTo g.slot images e.first)) whole.chain.begins belong)

    within : (s : ℕ) → Contains e.chain s → s < g.setting.slots
    within s c = let z = (All-contains (BelongsTo g.slot images e.first) e.chain s belong c).sane.within in let n = many in omega arith

    first_below : e.first < g.setting.slots
    first_below = let z = first.sane.within in let n = many in omega arith

    filled : length e.chain ≡ published (room_of g.slot) (length (content_of images e.chain)) + 1
    filled = slots_filled (room_of g.slot) g.slot images (let z = file.sized in omega arith) e file whole

    abbrev entry : Entry
    entry = entry_kept (kept_of images e)

    has_names : HasNames g fresh a entry
    has_names = record { key0 = kept_there.key0; key1 = kept_there.key1; offer = kept_there.offer }

    has_chain : HasChain g fresh a entry
    has_chain = record {
      slots = e.chain;
      end = Last;
      spelled = record {
        starts = kept_there.start ∙ ap start_number (sym whole.chain.begins);
        spelled = spells_told g.setting.slots (λ s. word_in g.setting g.setting.words (place.Link s)) e.chain Last within kept_there.links;
        fits = subst (λ (xs : List ℕ). Fits xs Last) (sym whole.chain.begins) tt;
        ends = tt;
      };
      many = filled;
      ends = refl;
    }

    of_offer : IsOfOffer g a entry
    of_offer = record {
      response = record {
        old = λ low. record { entry = e; complete = subst (λ (xs : List (List ℕ)). IsComplete g.slot xs e) (sym contents_are) whole; chain_is = sym chain_there; url_is = refl; body_is = refl };
        new = λ high. absurd (let l = first_below in omega arith);
      };
      key = whole.key_of_url;
      at = ap (λ (key : List ℕ). anchor_of key g.setting.anchors) (sym whole.key_of_url) ∙ at;
      old = λ low. refl;
      more = λ high. absurd (let l = first_below in omega arith);
      most = λ high. absurd (let l = first_below in omega arith);
      whole = λ is. ap (λ (t : Bool). cond t (length (g.chain a)) (count (cut_of g e.first 0 0))) (lt-ltb e.first g.setting.slots first_below) ∙ ap length chain_there ∙ filled;
      all = λ high. absurd (let l = first_below in omega arith);
    }

    shows_entry : ShowsEntry g fresh a e.version entry
    shows_entry = record {
      names = has_names;
      chain = has_chain;
      offer = of_offer;
      drawn = (let z = first.sane.sane.version_from in let v = whole.version in omega arith);
    }

    kept_place : kept_at g.setting.anchors kept a ≡ Some (kept_of images e) → place_at plain a ≡ place_kept (Some (kept_of images e))
    kept_place is = opened_place g.setting.anchors kept l.greatest a lt ∙ ap place_kept is

    pub shows_one : kept_at g.setting.anchors kept a ≡ Some (kept_of images e) → ShowsAt g (λ v. v) fresh plain 0 a
    shows_one is = record {
      word = kept_there.word_is ∙ (let none : readers plain a ≡ 0 = nobody_reads a 8 in omega arith)
          ∙ ap (λ (q : Place). 65536 * epoch_number (epoch_of (room_of g.slot) q) + readers plain a + 0) (sym (kept_place is));
      entry = subst (λ (q : Place). ShowsEntryIf g fresh a q.version q.entry) (sym (kept_place is)) shows_entry;
    }

  -- an anchor that none has is empty
  empty_there : (a : ℕ) → a < g.setting.anchors → HasNone images g.setting.anchors a d.entries → IsEmptyAt g.setting (opened_state g.setting r.winners) a
  empty_there a lt h = o.opened.empty a lt (λ f c at.
      let e = contains_map found_of b.entries f (subst (λ (fs : List Found). Contains fs f) b.told c) in
      let f = contains_map anchor d.entries (anchor e.0) (d.every e.0 (b.won e.0 e.1).complete) in
      h.none f.0 f.1 (f.2 ∙ ap (λ (x : Found). anchor_of x.key g.setting.anchors) e.2 ∙ at))

  shows_none : (a : ℕ) → a < g.setting.anchors → HasNone images g.setting.anchors a d.entries → ShowsAt g (λ v. v) fresh plain 0 a
  shows_none a lt h = record {
    word = (empty_there a lt h).word_is ∙ (let none : readers plain a ≡ 0 = nobody_reads a 8 in omega arith)
        ∙ ap (λ (q : Place). 65536 * epoch_number (epoch_of (room_of g.slot) q) + readers plain a + 0) (sym is);
    entry = subst (λ (q : Place). ShowsEntryIf g fresh a q.version q.entry) (sym is) tt;
  }
    where
      is : place_at plain a ≡ nothing
      is = opened_place g.setting.anchors kept l.greatest a lt ∙ ap place_kept h.is

  shows_each : (a : ℕ) → a < g.setting.anchors → ShowsAt g (λ v. v) fresh plain 0 a
  shows_each a lt = ⊎_elim
      (λ (h : HasOne images g.setting.anchors a d.entries). shows_one h.entry h.among a h.at lt h.is)
      (λ (h : HasNone images g.setting.anchors a d.entries). shows_none a lt h)
      (one_kept images g.setting.anchors a d.entries)

  pub knows_opened : Knows g (λ v. v) fresh plain no_guests
  knows_opened = record {
    counter = λ own. o.opened.counter ∙ one_greatest g.slot images r.greatest l.greatest b.greatest d.greatest;
    many = length-map-range_with_len (λ (a : ℕ). place_kept (kept_at g.setting.anchors kept a)) 0 g.setting.anchors;
    each = λ a lt own. shows_each a lt;
  }

  -- An entry of the file that an anchor had at the opening has the version that the anchor had.
  same_first : (e f : FileEntry) → IsComplete g.slot images e → IsComplete g.slot images f → e.chain ≡ f.chain → e.version ≡ f.version
  same_first e f p q same =
      let is : e.first ≡ f.first = firsts (sym p.chain.begins ∙ same ∙ q.chain.begins) in
      p.version ∙ ap (λ (n : ℕ). (header_at images n).version) is ∙ sym q.version

  pub versions_there : HasVersions g
  versions_there a e lt complete chain_is = ⊎_elim
      (λ (h : HasOne images g.setting.anchors a d.entries).
      let whole : IsComplete g.slot images e = subst (λ (xs : List (List ℕ)). IsComplete g.slot xs e) contents_are complete in
      let same = same_first e h.entry whole (d.won h.entry h.among).complete (chain_is ∙ chain_there h.entry h.among a h.at lt) in
      let word = (kept_there h.entry h.among a h.at lt).word_is in
      omega arith)
      (λ (h : HasNone images g.setting.anchors a d.entries).
      let none = ap (λ (f : ℕ → List ℕ). f a) o.chain ∙ ap Chain.slots (empty_there a lt h).chain in
      absurd (no_items (sym complete.chain.begins ∙ chain_is ∙ none)))
      (one_kept images g.setting.anchors a d.entries)
