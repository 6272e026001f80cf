-- A tab that reads on stays at its entry, and its pass has seen as many slots as it was given.
use Rattle.std.proofs.Common.{Bool, Contains, List, [], ap, arith, cond, get_or, get_or-set_same, inl, inr, refl, subst, sym, true, ◌+◌, ◌++◌, ◌<◌, ◌∙◌, ◌∷◌, ◌≡◌, ◌≤◌, ne_eqb, ℕ}
use Rattle.std.specs.Prelude.{◌≢◌}
use Rattle.lock_word.specs.declared.epoch.Epoch.{Epoch}
use Rattle.link_word.specs.Words.{link_number}
use Rattle.link_word.specs.declared.link.Link.{Link}
use Rattle.link_word.specs.declared.link.Link.TheVariants.{Last, Next, NotWritten}
use Rattle.rock_disk.specs.Cell.{CellState}
use Rattle.core_model.specs.SlotMoves.{follows, loaded}
use Rattle.core_model.specs.Tabs.{OfReader, tab_at}
use Rattle.core_model.specs.declared.moves.Side.TheVariants.{Start}
use Rattle.core_model.specs.declared.tab.Tab.{Tab}
use Rattle.core_model.specs.declared.tab.Tab.TheVariants as tab
use Rattle.core_model.specs.declared.view.Sight.{Sight}
use Rattle.core_model.specs.declared.view.Sight.TheVariants.{Published}
use Rattle.core_model.specs.declared.view.View.{View}
use Rattle.store_serve.specs.Growing.{GrowsTo}
use Rattle.store_rule.specs.declared.store.Pass.{Pass}
use Rattle.store_rule.specs.declared.store.Store.{Store}
use Rattle.store_rule.specs.Ground.{Ground, Offers}
use Rattle.store_rule.specs.Passes.{basis, view}
use Rattle.slice_chain.specs.Links.{Linked, Located}
use Rattle.rock_reader.specs.Reading.{HasTried, LookedAt, ReadsAs, Standing, onward}
use Rattle.rock_reader.specs.declared.answer.More.TheVariants.{Piece}
use Rattle.store_serve.specs.Following.{Given, Gives}
use Rattle.store_serve.proofs.Grown.{on, same}
use Rattle.store_serve.proofs.Readers.{gave}
use Rattle.store_serve.proofs.Slots.{read_slot}

-- the same entry, read from the same URL
pub record IsSameEntry (e f : Standing) : Type 0 where
  pub anchor : f.anchor ≡ e.anchor
  pub version : f.version ≡ e.version
  pub offer : f.offer ≡ e.offer
  pub url : f.url ≡ e.url

-- A link that is written was seen with its slot.

module _ {X : Type 0} where
  -- the tab reads this version there, with so many slots given
  abbrev IsReaderOf : (a version place : ℕ) → Tab X → Type 0
  IsReaderOf a version place x = OfReader (λ r. (r.anchor ≡ a) × (r.version ≡ version) × (r.place ≡ place)) x

  start_loaded : (a version place n : ℕ) (x : Tab X) → IsReaderOf a version place x → IsReaderOf a version place (loaded x Start n)
  start_loaded a version place n (tab.Reading r) h = h
  start_loaded a version place n tab.Free h = absurd h
  start_loaded a version place n (tab.Retreating b) h = absurd h
  start_loaded a version place n (tab.Writing w) h = absurd h
  start_loaded a version place n (tab.Last b) h = absurd h
  start_loaded a version place n (tab.Freeing f) h = absurd h

  followed : (a version place n : ℕ) (x : Tab X) (seen all : List Sight) → n ≢ 0 → IsReaderOf a version place x → all ≡ follows x n ++ seen → Contains all (Published a version (place + 1))
  followed a version place n (tab.Reading r) seen all ne h is =
      let some : all ≡ Published r.anchor r.version (r.place + 1) ∷ seen = is ∙ ap (λ (b : Bool). cond b [] (Published r.anchor r.version (r.place + 1) ∷ []) ++ seen) (ne_eqb n 0 ne) in
      subst (λ (z : List Sight). Contains z (Published a version (place + 1))) (sym some) (0, omega arith, λ i. Published (h.0 i) (h.1 i) (h.2 i + 1))
  followed a version place n tab.Free seen all ne h is = absurd h
  followed a version place n (tab.Retreating b) seen all ne h is = absurd h
  followed a version place n (tab.Writing w) seen all ne h is = absurd h
  followed a version place n (tab.Last b) seen all ne h is = absurd h
  followed a version place n (tab.Freeing f) seen all ne h is = absurd h

is_written : (link : Link) → link ≢ NotWritten → link_number link ≢ 0
is_written NotWritten ne e = ne refl
is_written Last ne e = omega arith
is_written (Next slot) ne e = omega arith

module _ {X : Type 0} (g : Ground X) (t a version place : ℕ) where
  in_tabs : (v w : View X) → w.tabs ≡ v.tabs → IsReaderOf a version place (tab_at v t) → IsReaderOf a version place (tab_at w t)
  in_tabs v w same h = subst (λ (xs : List (Tab X)). IsReaderOf a version place (get_or xs t tab.Free)) (sym same) h

  located_reader : (slot : ℕ) (v w : View X) → IsReaderOf a version place (tab_at v t) → Located g t slot v w → IsReaderOf a version place (tab_at w t)
  located_reader slot v w h (inl k) = in_tabs v w (ap View.tabs k.stays) h
  located_reader slot v w h (inr k) = subst (IsReaderOf a version place)
      (sym (ap (λ (xs : List (Tab X)). get_or xs t tab.Free) (ap View.tabs k.start.leaves) ∙ get_or-set_same v.tabs t (loaded (tab_at v t) Start (slot + 1)) tab.Free (let nine = k.start.may.pass in let low = k.start.may.allowed.0 in omega arith)))
      (start_loaded a version place (slot + 1) (tab_at v t) h)

  linked_seen : (link : Link) (v w : View X) → link ≢ NotWritten → IsReaderOf a version place (tab_at v t) → Linked g t link v w → Contains w.seen (Published a version (place + 1))
  linked_seen link v w ne h k = followed a version place (link_number link) (tab_at k.middle t) k.middle.seen w.seen (is_written link ne) (located_reader k.slot v k.middle h k.located) (ap View.seen k.step.leaves)

  looked_seen : (epoch : Epoch) (link : Link) (v w : View X) → link ≢ NotWritten → IsReaderOf a version place (tab_at v t) → LookedAt g t epoch link v w → Contains w.seen (Published a version (place + 1))
  looked_seen epoch link v w ne h k = linked_seen link k.looked w ne (in_tabs v k.looked (ap View.tabs k.look.leaves) h) k.linked

module _ {C O : Type 0} (tells : Bool) (state : C → CellState) (offers : O → Offers) (s : Store C O) (t : ℕ) where
  reader_of : (p : Pass C) (e : Standing) → ReadsAs tells state offers s p t e → IsReaderOf e.anchor e.version e.place (tab_at (view p) t)
  reader_of p e h = subst (IsReaderOf e.anchor e.version e.place) (sym h.is) (h.anchor_is, h.version_is, h.place_is)

  -- where the slot at its place was read or tried, the pass has seen it published
  pub tried_seen : (e : Standing) (p q : Pass C) (before after : List ℕ) (done : Bool) → ReadsAs tells state offers s p t e → HasTried tells state offers s t p e before after q done
      → Contains (view q).seen (Published e.anchor e.version (e.place + 1))
  tried_seen e p q before after done h k = (read_slot (basis tells state offers s) t k.read).seen _
      (looked_seen (basis tells state offers s) t e.anchor e.version e.place k.epoch k.link (view p) k.middle k.written (reader_of p e h) k.found)

  -- Pieces, one behind the other.

  -- what a tab that reads so has seen of its slots
  abbrev pub HasSeen : Standing → Pass C → Type 0
  HasSeen e p = 0 < e.place → Contains (view p).seen (Published e.anchor e.version e.place)

  -- between two passes the tab read on, from a standing to another
  pub record ReadOn (e : Standing) (p : Pass C) (f : Standing) (q : Pass C) : Type 0 where
    pub entry : IsSameEntry e f
    pub other : f.is_other ≡ e.is_other
    pub onward : e.place ≤ f.place
    pub reads : ReadsAs tells state offers s q t f
    pub keeps : GrowsTo (view p) (view q)
    pub seen : HasSeen e p → HasSeen f q

  pub gives_on : (e : Standing) (p : Pass C) (calls : List (Given C)) (f : Standing) (q : Pass C) (bytes : List ℕ) → ReadsAs tells state offers s p t e → Gives tells state offers s t e p calls f q bytes → ReadOn e p f q
  gives_on e p [] f q bytes h k = record {
    entry = record { anchor = ap Standing.anchor k.0; version = ap Standing.version k.0; offer = ap Standing.offer k.0; url = ap Standing.url k.0 };
    other = ap Standing.is_other k.0;
    onward = let z = ap Standing.place k.0 in omega arith;
    reads = subst (λ (z : Standing). ReadsAs tells state offers s q t z) (sym k.0) (subst (λ (z : Pass C). ReadsAs tells state offers s z t e) (sym k.1) h);
    keeps = same (ap view k.1);
    seen = λ so. subst (λ (z : Standing). HasSeen z q) (sym k.0) (subst (λ (z : Pass C). HasSeen e z) (sym k.1) so);
  }
  gives_on e p (c ∷ earlier) f q bytes h k =
      let first = gives_on e p earlier k.0 k.1 k.2 h k.3 in
      record {
        entry = record {
          anchor = ap Standing.anchor k.5 ∙ first.entry.anchor;
          version = ap Standing.version k.5 ∙ first.entry.version;
          offer = ap Standing.offer k.5 ∙ first.entry.offer;
          url = ap Standing.url k.5 ∙ first.entry.url;
        };
        other = ap Standing.is_other k.5 ∙ first.other;
        onward = let z = ap Standing.place k.5 in let l = first.onward in omega arith;
        reads = subst (λ (z : Standing). ReadsAs tells state offers s q t z) (sym k.5) (subst (λ (z : Pass C). ReadsAs tells state offers s z t (onward k.0)) (sym k.6) k.4.reads);
        keeps = on first.keeps (on (gave tells state offers s t k.0 k.1 c.before c.after c.left (Piece c.count) k.4) (same (ap view k.6)));
        seen = λ so. subst (λ (z : Standing). HasSeen z q) (sym k.5) (subst (λ (z : Pass C). HasSeen (onward k.0) z) (sym k.6)
            (λ some. tried_seen k.0 k.1 c.left c.before c.after true first.reads k.4.tried));
      }
