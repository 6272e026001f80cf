-- An entry that a tab gives up, in the store and in the plain store.
use Rattle.std.proofs.Common.{Contains, List, None, Option, Some, ap, arith, cond, get_or-set_other, get_or-set_same, inl, inr, length, length-set, refl, set, subst, sym, true, ◌-◌, ◌/◌, ◌<◌, ◌==◌, ◌∙◌, ◌≡◌, ◌≤◌, ◌⊎◌, ℕ}
use Rattle.lock_word.specs.Words.{epoch_of as epoch_in, raised, stage_number, stage_of as stage_in, word_number}
use Rattle.lock_word.specs.declared.stage.Stage.{Stage}
use Rattle.lock_word.specs.declared.stage.Stage.TheVariants as stage
use Rattle.core_model.specs.SlotMoves.{MayGiveBack}
use Rattle.core_model.specs.Table.{left_by, place}
use Rattle.core_model.specs.Tabs.{InnerIsFree, IsPass, OfFreer, OfWriter, anchor_of, inner, tab_at}
use Rattle.core_model.specs.declared.moves.Move.TheVariants.{Disown, Raise}
use Rattle.core_model.specs.declared.tab.Freer.{Freer}
use Rattle.core_model.specs.declared.tab.Tab.{Tab}
use Rattle.core_model.specs.declared.tab.Tab.TheVariants.{Free, Writing}
use Rattle.core_model.specs.declared.tab.Writer.{Writer}
use Rattle.core_model.specs.declared.view.Place.TheVariants.{Anchor}
use Rattle.core_model.specs.declared.view.View.{View}
use Rattle.link_word.specs.Map.{map_words}
use Rattle.link_word.proofs.Mapped.{word_within}
use Rattle.entry_cut.specs.Content.{room_of}
use Rattle.plain_model.specs.declared.entry.Entry.{Entry}
use Rattle.plain_model.specs.declared.entry.Life.{Life}
use Rattle.plain_model.specs.declared.entry.Life.TheVariants.{GivenUp, Growing, Whole}
use Rattle.plain_model.specs.declared.entry.Place.{Place as PlaceOf}
use Rattle.plain_model.specs.declared.store.Plain.{Plain}
use Rattle.plain_model.specs.declared.store.Tab.{Tab as PlainTab}
use Rattle.plain_model.specs.declared.store.Tab.TheVariants as plain
use Rattle.plain_model.specs.Place.{ended, nothing}
use Rattle.plain_model.specs.Store.{entry_at, epoch_of, place_at, published, readers, reads_at, stage_of_entry, tab_at as plain_tab}
use Rattle.plain_model.specs.Writing.{close_writer}
use Rattle.store_rule.specs.Calls.{Others}
use Rattle.store_rule.specs.Words.{Mine, has}
use Rattle.store_rule.proofs.OtherTabs.{others_go_on, others_stay}
use Rattle.rock_writer.specs.Halting.{GaveBack, GaveUnlinked, Halts, Parted, first_of, second_of}
use Rattle.rock_writer.proofs.GivingBack.{gave_nine, gave_tab, given}
use Rattle.store_rule.specs.Ground.{Ground}
use Rattle.store_rule.specs.Told.{Stands, Steps}
use Rattle.plain_runs.specs.Words.{EndsSo, KnowsLot, Lot, ShowsAt, ShowsEntry, ShowsEntryIf, no_guests, slots_published}
use Rattle.plain_laws.specs.Renaming.{renamed_word}
use Rattle.plain_laws.proofs.Choosing.{either}
use Rattle.plain_laws.proofs.Sums.{inside}
use Rattle.plain_runs.proofs.Flushing.{entry_shown, staged, staged_raised, word_staged}
use Rattle.plain_runs.proofs.Frames.{SameBut, knows_same, same_none, same_on, same_weaker, step_same, step_same_map}
use Rattle.core_alone.specs.Touched.{places_in}
use Rattle.plain_runs.proofs.Freeing.{KnowsLotBut, SameElse, but_step, knows_all, knows_but}
use Rattle.plain_runs.proofs.LeftTabs.{entry_kept, raised_parts_right}
use Rattle.plain_runs.proofs.OwnAnchors.{OwnsLot, lot_stays, pass_stays, stands_before}
use Rattle.plain_runs.proofs.PlainWords.{readers_fit, readers_put, stage_counted}
use Rattle.plain_runs.proofs.Published.{anchor_there, raise_left, reserved_there}
use Rattle.plain_runs.proofs.Reserving.{IsReady}

module _ (g : Ground (List ℕ)) (t : ℕ) (below : t < inner) where
  -- What giving a slot back leaves, if there is one.
  record GaveSo (v w : View (List ℕ)) (x : Writer (List ℕ)) : Type 0 where
    same : SameBut g v w (λ q. ⊥)
    writer : Writer (List ℕ)
    tab : tab_at w t ≡ Writing writer
    anchor : writer.anchor ≡ x.anchor
    inner_free : InnerIsFree w
    pass : IsPass w
    number : w.pass ≡ v.pass
    others : Others t v w

  gave_so : (o : Option ℕ) (v w : View (List ℕ)) (x : Writer (List ℕ)) → IsPass v → tab_at v t ≡ Writing x → InnerIsFree v → GaveBack g t o v w → GaveSo v w x
  gave_so None v w x pass is free gave = record {
    same = subst (λ (z : View (List ℕ)). SameBut g v z (λ q. ⊥)) (sym gave) (same_none g v (λ q. ⊥));
    writer = x;
    tab = (gave_tab g t below None v w x pass is free gave).0;
    anchor = refl;
    inner_free = (gave_tab g t below None v w x pass is free gave).1;
    pass = gave_nine g t None v w pass gave;
    number = ap View.pass gave;
    others = λ j ne far. ap (λ (z : View (List ℕ)). tab_at z j) gave;
  }
  gave_so (Some slot) v w x pass is free gave = record {
    same = step_same_map g v w (Disown t slot) gave.found (slot / 64) gave.step refl (mapped (subst (λ (z : Tab (List ℕ)). OfWriter (MayGiveBack slot) z ⊎ OfFreer (λ (f : Freer (List ℕ)). Contains f.loose slot) z) is gave.step.may.allowed.1));
    writer = given (Some slot) x;
    tab = (gave_tab g t below (Some slot) v w x pass is free gave).0;
    anchor = refl;
    inner_free = (gave_tab g t below (Some slot) v w x pass is free gave).1;
    pass = gave_nine g t (Some slot) v w pass gave;
    number = pass_stays g v w (Disown t slot) gave.found gave.step;
    others = others_stay g v w (Disown t slot) gave.found t gave.step (λ z k. acts k);
  }
    where
      mapped : MayGiveBack slot x ⊎ ⊥ → slot / 64 < map_words g.setting.slots
      mapped (inl m) = word_within g.setting.slots slot (reserved_there g v t slot x (stands_before gave.step) pass below is m.0)
      mapped (inr none) = absurd none

      acts : {y z : ℕ} → Some y ≡ Some z → z ≡ y
      acts e = cc

  gave_unlinked : (v w : View (List ℕ)) (x : Writer (List ℕ)) → IsPass v → tab_at v t ≡ Writing x → InnerIsFree v → GaveUnlinked g t v w → GaveSo v w x
  gave_unlinked v w x pass is free gave = both (gave_so (second_of (tab_at v t)) v gave.middle x pass is free gave.second)
    where
      first_given : GaveBack g t (first_of (tab_at v t)) gave.middle w
      first_given = gave.first

      both : GaveSo v gave.middle x → GaveSo v w x
      both a = let b = gave_so (first_of (tab_at v t)) gave.middle w a.writer a.pass a.tab a.inner_free first_given in record {
        same = same_weaker g v w (λ q. ⊥ ⊎ ⊥) (λ q. ⊥) (λ q k. neither k) (same_on g v gave.middle w (λ q. ⊥) (λ q. ⊥) a.same b.same);
        writer = b.writer;
        tab = b.tab;
        anchor = b.anchor ∙ a.anchor;
        inner_free = b.inner_free;
        pass = b.pass;
        number = b.number ∙ a.number;
        others = others_go_on v gave.middle w t a.others b.others;
      }
        where
          neither : ⊥ ⊎ ⊥ → ⊥
          neither (inl k) = k
          neither (inr k) = k

-- The plain store where the entry at the anchor ended so, and its tab is free.
abbrev pub ended_with : Life → ℕ → ℕ → Plain → Plain
ended_with life t a p = record p { tabs = set p.tabs t plain.Free; places = set p.places a (ended life (place_at p a)) }

pub ended_at : (life : Life) (t a : ℕ) (p : Plain) (x : Entry) → entry_at p a ≡ Some x → place_at (ended_with life t a p) a ≡ record (place_at p a) { entry = Some (record x { life = life }) }
ended_at life t a p x there = get_or-set_same p.places a (ended life (place_at p a)) nothing (inside p.places a x there)
    ∙ ap (λ (o : Option Entry). record (place_at p a) { entry = Rattle.plain_model.specs.Place.changed (λ d. record d { life = life }) o }) there

-- A tab that writes is no reader.
ended_readers : (life : Life) (t a b : ℕ) (p : Plain) → t < length p.tabs → plain_tab p t ≡ plain.Writing a → readers (ended_with life t a p) b ≡ readers p b
ended_readers life t a b p lt is = let n = readers_put p t b plain.Free lt in let r = counted (plain_tab p t) is in omega arith
  where
    counted : (k : PlainTab) → k ≡ plain.Writing a → cond {A = ℕ} (reads_at b k) 1 0 ≡ 0
    counted k e = ap (λ (z : PlainTab). cond {A = ℕ} (reads_at b z) 1 0) e

ended_else : (life : Life) (t a : ℕ) (p : Plain) → t < length p.tabs → plain_tab p t ≡ plain.Writing a → SameElse p (ended_with life t a p) a
ended_else life t a p lt is = record {
  counter = refl;
  many = length-set p.places a (ended life (place_at p a));
  places = λ b ne. get_or-set_other p.places a b (ended life (place_at p a)) nothing ne;
  readers = λ b ne. ended_readers life t a b p lt is;
}

-- an entry ends whole at CLOSED, and given up at HALTED
abbrev pub EndsAs : Life → Stage → Type 0
EndsAs Growing to = ⊥
EndsAs Whole to = to ≡ stage.Closed
EndsAs GivenUp to = to ≡ stage.Halted

ends_stage : (life : Life) (to : Stage) (room content : ℕ) → EndsAs life to → stage_of_entry room life content ≡ to
ends_stage Growing to room content h = absurd h
ends_stage Whole to room content h = sym h
ends_stage GivenUp to room content h = sym h

ends_either : (life : Life) (to : Stage) → EndsAs life to → (to ≡ stage.Closed) ⊎ (to ≡ stage.Halted)
ends_either Growing to h = absurd h
ends_either Whole to h = inl h
ends_either GivenUp to h = inr h

pub growing_stage : (room content : ℕ) → stage_number (stage_of_entry room Growing content) ≤ 2
growing_stage room content = either (λ (k : Stage). stage_number k ≤ 2) (published room content == 0) stage.Taken stage.Appending (λ z. omega arith) (λ z. omega arith)

module _ (g : Ground (List ℕ)) (rename : ℕ → ℕ) (t : ℕ) (below : t < inner) where
  -- The tab raises the word of its anchor to this stage.
  pub raised_so : (from to : Stage) (u v : View (List ℕ)) (p : Plain) (y : Writer (List ℕ)) (a n : ℕ) → Mine g u (Anchor y.anchor) → stage_number from ≤ stage_number to → y.anchor ≡ a → tab_at u t ≡ Writing y → length p.tabs ≡ 8
      → has g u (Anchor a) ≡ staged rename p a from
      → Steps g u (Raise t to) n v → (has g v (Anchor a) ≡ staged rename p a to) × (left_by u (Raise t to) n ≡ staged rename p a to)
  raised_so from to u v p y a n mine le same is eight word raises = (left.1 ∙ raises_to, left.2 ∙ raises_to)
    where
      left : (n ≡ has g u (Anchor a)) × (has g v (Anchor a) ≡ raised n (stage_number to - stage_in (epoch_in n))) × (left_by u (Raise t to) n ≡ raised n (stage_number to - stage_in (epoch_in n)))
      left = subst (λ (z : ℕ). (n ≡ has g u (Anchor z)) × (has g v (Anchor z) ≡ raised n (stage_number to - stage_in (epoch_in n))) × (left_by u (Raise t to) n ≡ raised n (stage_number to - stage_in (epoch_in n)))) same
          (raise_left g u v t n to y mine is raises)

      found : n ≡ staged rename p a from
      found = left.0 ∙ word

      stage_is : stage_in (epoch_in (staged rename p a from)) ≡ stage_number from
      stage_is = stage_counted (renamed_word rename record { epoch = record { version = (place_at p a).version; doom = (place_at p a).doom; stage = from }; readers = readers p a })
          0 (staged rename p a from) (omega arith) (readers_fit p a 0 eight (omega arith))

      raises_to : raised n (stage_number to - stage_in (epoch_in n)) ≡ staged rename p a to
      raises_to = ap (λ (z : ℕ). raised z (stage_number to - stage_in (epoch_in z))) found ∙ (ap (λ (k : ℕ). raised (staged rename p a from) (stage_number to - k)) stage_is ∙ staged_raised rename p a from to le)

module _ (g : Ground (List ℕ)) (rename : ℕ → ℕ) (lot : Lot) (t : ℕ) (below : t < inner) where
  -- The tab ends its entry and parts from it.
  pub ended_right : (life : Life) (from to : Stage) (u v w : View (List ℕ)) (p : Plain) (x : Entry) (y : Writer (List ℕ)) (a n : ℕ) → OwnsLot g lot u.pass → lot.anchors a ≡ true → y.anchor ≡ a → EndsAs life to → stage_number from ≤ stage_number to → IsPass u → Stands g u → tab_at u t ≡ Writing y
      → length p.tabs ≡ 8 → plain_tab p t ≡ plain.Writing a → entry_at p a ≡ Some x → KnowsLotBut g rename lot u p no_guests a → has g u (Anchor a) ≡ staged rename p a from
      → ShowsEntry g u a (place_at p a).version (record x { life = life }) → Steps g u (Raise t to) n v → Parted g t v w → KnowsLot g rename lot w (close_writer life t a p) no_guests
  ended_right life from to u v w p x y a n owns ours same ends le pass stands is eight plain_is there but word entry raises parted =
      raised_parts_right g rename u v w t a n to y (ended_with life t a p) (lot_stays g lot u v (pass_stays g u v (Raise t to) n raises) owns) (length-set p.tabs t plain.Free ∙ eight) raises (ends_either life to ends) is same lt ours knows parted
    where
      few_tabs : t < length p.tabs
      few_tabs = let b = below in omega arith

      lt : a < g.setting.anchors
      lt = subst (λ (z : ℕ). z < g.setting.anchors) same (anchor_there g u t y stands pass below is)

      here : place u (Raise t to) ≡ Some (Anchor a)
      here = ap (λ (z : Tab (List ℕ)). Some (Anchor (anchor_of z))) is ∙ ap (λ (z : ℕ). Some (Anchor z)) same

      word_after : has g v (Anchor a) ≡ staged rename p a to
      word_after = (raised_so g rename t below from to u v p y a n ((owns a lt ours).words u (Anchor y.anchor) refl same) le same is eight word raises).0

      at_place : place_at (ended_with life t a p) a ≡ record (place_at p a) { entry = Some (record x { life = life }) } → ShowsAt g rename v (ended_with life t a p) 0 a
      at_place now = record {
        word = word_after ∙ (let k = ap (staged rename p a) (sym (ends_stage life to (room_of g.slot) x.content ends)) in let r = ended_readers life t a a p few_tabs plain_is in
            let m = ap (λ (o : PlaceOf). word_number (renamed_word rename record { epoch = epoch_of (room_of g.slot) o; readers = readers p a })) (sym now) in
            let q = ap (λ (c : ℕ). word_number (renamed_word rename record { epoch = epoch_of (room_of g.slot) (place_at (ended_with life t a p) a); readers = c })) (sym r) in omega arith);
        entry = subst (λ (o : PlaceOf). ShowsEntryIf g v a o.version o.entry) (sym now)
            (entry_kept g rename u v a (place_at p a).version (Some (record x { life = life })) lt (step_same g u v (Raise t to) n (Anchor a) raises (ap places_in here) lt) entry);
      }

      knows : KnowsLot g rename lot v (ended_with life t a p) no_guests
      knows = knows_all g rename v (ended_with life t a p) no_guests a
          (but_step g rename u v (Raise t to) n p (ended_with life t a p) no_guests a raises (ap places_in here) lt (ended_else life t a p few_tabs plain_is) but)
          (λ k own. at_place (ended_at life t a p x there))

  -- an entry that grows, given up
  given_up : (v : View (List ℕ)) (a version : ℕ) (x : Entry) → ShowsEntry g v a version x → x.life ≡ Growing → ShowsEntry g v a version (record x { life = GivenUp })
  given_up v a version x h grows = record {
    names = record { key0 = h.names.key0; key1 = h.names.key1; offer = h.names.offer };
    chain = record {
      slots = h.chain.slots;
      end = h.chain.end;
      spelled = h.chain.spelled;
      many = h.chain.many ∙ ap (λ (l : Life). slots_published (room_of g.slot) l x.content) grows;
      ends = subst (λ (l : Life). EndsSo l h.chain.end) grows h.chain.ends;
    };
    offer = record {
      response = h.offer.response;
      key = h.offer.key;
      at = h.offer.at;
      old = λ lt. absurd (growing_whole (sym grows ∙ h.offer.old lt));
      more = h.offer.more;
      most = h.offer.most;
      whole = λ w. absurd (given_whole w);
      all = λ le w. absurd (given_whole w);
    };
    drawn = h.drawn;
  }
    where
      growing_whole : Growing ≡ Whole → ⊥
      growing_whole e = cc

      given_whole : GivenUp ≡ Whole → ⊥
      given_whole e = cc

  -- What halting leaves: the plain store gave the entry up.
  pub record HasHalted (v w : View (List ℕ)) (a : ℕ) (p : Plain) : Type 0 where
    pub knows : KnowsLot g rename lot w (close_writer GivenUp t a p) no_guests
    pub free : tab_at w t ≡ Free
    pub inner_free : InnerIsFree w

  pub halts_right : (v w : View (List ℕ)) (p : Plain) (x : Entry) (y : Writer (List ℕ)) → IsReady g rename lot v p → lot.anchors y.anchor ≡ true → tab_at v t ≡ Writing y → plain_tab p t ≡ plain.Writing y.anchor
      → entry_at p y.anchor ≡ Some x → x.life ≡ Growing → Halts g t v w → HasHalted v w y.anchor p
  halts_right v w p x y ready ours is plain_is there grows h = record {
    knows = ended_right GivenUp (stage_of_entry (room_of g.slot) Growing x.content) stage.Halted h.middle h.raised w p x gave.writer y.anchor h.word (lot_stays g lot v h.middle gave.number ready.owns) ours gave.anchor refl
        (let k = growing_stage (room_of g.slot) x.content in omega arith) gave.pass (stands_before h.raises) gave.tab ready.eight plain_is there (knows_but g rename h.middle p no_guests y.anchor knows)
        (word_staged g rename h.middle p y.anchor (knows.each y.anchor lt ours) x there (stage_of_entry (room_of g.slot) Growing x.content) (ap (λ (l : Life). stage_of_entry (room_of g.slot) l x.content) grows))
        (given_up h.middle y.anchor (place_at p y.anchor).version x (entry_shown g rename h.middle p y.anchor (knows.each y.anchor lt ours) x there) grows) h.raises h.parted;
    free = h.parted.free;
    inner_free = h.parted.inner_free;
  }
    where
      gave : GaveSo g t below v h.middle y
      gave = gave_unlinked g t below v h.middle y ready.pass is ready.inner_free h.gave

      lt : y.anchor < g.setting.anchors
      lt = anchor_there g v t y ready.stands ready.pass below is

      knows : KnowsLot g rename lot h.middle p no_guests
      knows = knows_same g rename v h.middle p no_guests ready.knows gave.same
