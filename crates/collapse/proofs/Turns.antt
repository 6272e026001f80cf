-- A tab follows its entry, turn by turn.
use Rattle.std.proofs.Common.{Bool, IsTrue, List, [], false, true, ap, add-one, arith, inl, inr, length, refl, subst, sym, take, ◌++◌, ◌+◌, ◌<◌, ◌∷◌, ◌≡◌, ◌∙◌, ◌⊎◌, ℕ}
use Rattle.std.specs.Prelude.{◌≢◌}
use Rattle.std.proofs.lemmas.List.{append-nil, length-take}
use Rattle.lock_word.specs.declared.epoch.Epoch.{Epoch}
use Rattle.rock_disk.specs.Cell.{CellState}
use Rattle.store_rule.specs.declared.store.Pass.{Pass}
use Rattle.store_rule.specs.declared.store.Store.{Store}
use Rattle.store_rule.specs.Ground.{Offers}
use Rattle.store_rule.specs.Passes.{basis}
use Rattle.rock_reader.specs.declared.answer.More.{More}
use Rattle.rock_reader.specs.declared.answer.More.TheVariants.{End, Fault, Halted, NotYet, OtherUrl, Piece}
use Rattle.rock_reader.specs.Reading.{Gave, ReadsAs, Standing, onward}
use Rattle.rock_reader.specs.Responses.{HoldsFile, body_at, body_below}
use Rattle.collapse.specs.Following.{EndsWith, FindsOther, Follows, GoesOn, LooksOnly, LosesSink, Turn, given_by, standing_by}
use Rattle.collapse.specs.Sending.{Sends, SendsFront}
use Rattle.collapse.proofs.Sends.{front_piece, sends_none, sends_on}

-- a list with something in it is not empty
some_left : {A : Type 0} (xs ys : List A) → xs ≢ [] → xs ++ ys ≢ []
some_left [] ys some same = some refl
some_left (x ∷ xs) ys some same = cc

some_right : {A : Type 0} (xs ys : List A) → ys ≢ [] → xs ++ ys ≢ []
some_right [] ys some same = some same
some_right (x ∷ xs) ys some same = cc

takes_some : (n : ℕ) (xs : List ℕ) → 0 < n → 0 < length xs → take n xs ≢ []
takes_some n xs more there same = absurd (let l = ap length same in let m = length-take n xs in omega (arith, l, m))

module _ {C O : Type 0} (tells : Bool) (state : C → CellState) (offers : O → Offers) (s : Store C O) (t : ℕ) where
  reads_by : (p q : Pass C) (e : Standing) (before after : List ℕ) (answer : More) → GoesOn answer → Gave tells state offers s t p e before after q answer → ReadsAs tells state offers s q t (standing_by e answer)
  reads_by p q e before after (Piece count) goes gave = gave.reads
  reads_by p q e before after (NotYet epoch) goes gave = gave.stays
  reads_by p q e before after End goes gave = absurd goes
  reads_by p q e before after Halted goes gave = absurd goes
  reads_by p q e before after OtherUrl goes gave = absurd goes
  reads_by p q e before after Fault goes gave = absurd goes

  -- a tab that follows its entry reads it still
  pub reads_along : (e : Standing) (p : Pass C) (turns : List (Turn C)) (f : Standing) (q : Pass C) (bytes : List ℕ) (looks : ℕ) → ReadsAs tells state offers s p t e → Follows tells state offers s t e p turns f q bytes looks → ReadsAs tells state offers s q t f
  reads_along e p [] f q bytes looks reads (f_is, q_is, _, _) = subst (λ (z : Standing). ReadsAs tells state offers s q t z) (sym f_is) (subst (λ (z : Pass C). ReadsAs tells state offers s z t e) (sym q_is) reads)
  reads_along e p (c ∷ earlier) f q bytes looks reads (standing, middle, front, before, h, goes, gave, f_is, q_is, _, _) =
      subst (λ (z : Standing). ReadsAs tells state offers s q t z) (sym f_is) (subst (λ (z : Pass C). ReadsAs tells state offers s z t (standing_by standing c.answer)) (sym q_is) (reads_by middle c.left standing c.before c.after c.answer goes gave))

  -- The tab has followed the entry e so far, what it was given went to the sink, and it looked in vain `now` times, of which `looks` were before.
  pub record HasFollowed (e : Standing) (p q : Pass C) (sink_tells : Bool) (old new : List ℕ) (looks now : ℕ) (is_late : Bool) : Type 0 where
    pub turns : List (Turn C)
    pub standing : Standing
    pub bytes : List ℕ
    pub waits : ℕ
    pub follows : Follows tells state offers s t e p turns standing q bytes waits
    pub reads : ReadsAs tells state offers s q t standing
    pub sent : Sends sink_tells old new bytes
    pub now_is : now ≡ looks + waits
    pub early : is_late ≡ false → bytes ≡ []
    pub late : is_late ≡ true → bytes ≢ []

  pub followed_none : (e : Standing) (p : Pass C) (sink_tells : Bool) (old : List ℕ) (looks : ℕ) → ReadsAs tells state offers s p t e → HasFollowed e p p sink_tells old old looks looks false
  followed_none e p sink_tells old looks reads = record {
    turns = [];
    standing = e;
    bytes = [];
    waits = 0;
    follows = (refl, refl, refl, refl);
    reads = reads;
    sent = sends_none sink_tells old;
    now_is = omega arith;
    early = λ is. refl;
    late = λ is. absurd (cc);
  }

  -- a piece was given
  pub followed_piece : (e : Standing) (p u q : Pass C) (sink_tells : Bool) (old mid new before after : List ℕ) (looks now count : ℕ) (is_late later : Bool) (h : HasFollowed e p u sink_tells old mid looks now is_late)
      → Gave tells state offers s t u h.standing before after q (Piece count) → length after ≡ length before → Sends sink_tells mid new (take count after)
      → (later ≡ false → (is_late ≡ false) × (count ≡ 0)) → (later ≡ true → (is_late ≡ true) ⊎ (0 < count))
      → HasFollowed e p q sink_tells old new looks now later
  followed_piece e p u q sink_tells old mid new before after looks now count is_late later h gave long sent none some = record {
    turns = record { before = before; after = after; answer = Piece count; left = q } ∷ h.turns;
    standing = onward h.standing;
    bytes = h.bytes ++ take count after;
    waits = h.waits + 0;
    follows = (h.standing, u, h.bytes, h.waits, h.follows, tt, gave, refl, refl, refl, refl);
    reads = gave.reads;
    sent = sends_on sink_tells old mid new h.bytes (take count after) h.sent sent;
    now_is = let n = h.now_is in omega arith;
    early = λ is. let x = none is in ap (λ z. z ++ take count after) (h.early x.0) ∙ ap (λ n. take n after) x.1;
    late = λ is. late_of (some is);
  }
    where
      late_of : (is_late ≡ true) ⊎ (0 < count) → h.bytes ++ take count after ≢ []
      late_of (inl is) = some_left h.bytes (take count after) (h.late is)
      late_of (inr more) = some_right h.bytes (take count after) (takes_some count after more (let w = gave.within in omega arith))

  -- there was nothing to give yet
  pub followed_wait : (e : Standing) (p u q : Pass C) (sink_tells : Bool) (old new before after : List ℕ) (looks now : ℕ) (epoch : Epoch) (is_late : Bool) (h : HasFollowed e p u sink_tells old new looks now is_late)
      → Gave tells state offers s t u h.standing before after q (NotYet epoch)
      → HasFollowed e p q sink_tells old new looks (now + 1) is_late
  followed_wait e p u q sink_tells old new before after looks now epoch is_late h gave = record {
    turns = record { before = before; after = after; answer = NotYet epoch; left = q } ∷ h.turns;
    standing = h.standing;
    bytes = h.bytes ++ [];
    waits = h.waits + 1;
    follows = (h.standing, u, h.bytes, h.waits, h.follows, tt, gave, refl, refl, refl, refl);
    reads = gave.stays;
    sent = λ told. h.sent told ∙ ap (λ z. old ++ z) (sym (append-nil h.bytes));
    now_is = let n = h.now_is in omega arith;
    early = λ is. append-nil h.bytes ∙ h.early is;
    late = λ is. some_left h.bytes [] (h.late is);
  }

  -- there was no more to give
  pub ends_with : (e : Standing) (p u q : Pass C) (sink_tells : Bool) (old new before after : List ℕ) (looks now most : ℕ) (is_late : Bool) (answer : More) (h : HasFollowed e p u sink_tells old new looks now is_late) → now < most
      → Gave tells state offers s t u h.standing before after q answer → EndsWith tells state offers s t e p q sink_tells old new looks most answer
  ends_with e p u q sink_tells old new before after looks now most is_late answer h few gave = record {
    bytes = h.bytes;
    waits = h.waits;
    few = let n = h.now_is in omega (arith, few, n);
    went = record { middle = u; turns = h.turns; standing = h.standing; follows = h.follows; before = before; after = after; ends = gave };
    sent = h.sent;
  }

  pub finds_other : (e : Standing) (p u q : Pass C) (sink_tells : Bool) (old new before after : List ℕ) (looks now most : ℕ) (is_late : Bool) (h : HasFollowed e p u sink_tells old new looks now is_late) → now < most
      → Gave tells state offers s t u h.standing before after q OtherUrl → FindsOther tells state offers s t e p q sink_tells old new looks most is_late
  unfolding ends_with
  finds_other e p u q sink_tells old new before after looks now most is_late h few gave = record {
    ends = ends_with e p u q sink_tells old new before after looks now most is_late OtherUrl h few gave;
    early = h.early;
    late = h.late;
  }

  pub looks_only : (e : Standing) (p q : Pass C) (sink_tells : Bool) (old new : List ℕ) (looks now most : ℕ) (is_late : Bool) (h : HasFollowed e p q sink_tells old new looks now is_late) → now ≡ most
      → LooksOnly tells state offers s t e p q sink_tells old new looks most now
  looks_only e p q sink_tells old new looks now most is_late h all = record {
    bytes = h.bytes;
    waits = h.waits;
    some = record { turns = h.turns; standing = h.standing; follows = h.follows };
    sent = h.sent;
    times_are = h.now_is;
    all = all;
  }

  -- a piece was given, of which the sink took a first part
  pub loses_sink : (e : Standing) (p u q : Pass C) (sink_tells : Bool) (old mid new before after : List ℕ) (looks now most count : ℕ) (is_late : Bool) (h : HasFollowed e p u sink_tells old mid looks now is_late) → now < most
      → Gave tells state offers s t u h.standing before after q (Piece count) → SendsFront sink_tells mid new (take count after)
      → LosesSink tells state offers s t e p q sink_tells old new looks most
  loses_sink e p u q sink_tells old mid new before after looks now most count is_late h few gave sent = record {
    bytes = h.bytes ++ take count after;
    waits = h.waits + 0;
    few = let n = h.now_is in omega (arith, few, n);
    some = record {
      turns = record { before = before; after = after; answer = Piece count; left = q } ∷ h.turns;
      standing = onward h.standing;
      follows = (h.standing, u, h.bytes, h.waits, h.follows, tt, gave, refl, refl, refl, refl);
    };
    sent = front_piece sink_tells old mid new h.bytes (take count after) h.sent sent;
  }

  -- whatever else the answer is, the tab reads still
  pub reads_after : (e : Standing) (p q : Pass C) (before after : List ℕ) (answer : More) → ReadsAs tells state offers s p t e → Gave tells state offers s t p e before after q answer
      → (f : Standing) × ReadsAs tells state offers s q t f
  reads_after e p q before after (Piece count) reads gave = (_, gave.reads)
  reads_after e p q before after (NotYet epoch) reads gave = (e, gave.stays)
  reads_after e p q before after End reads gave = (e, subst (λ (z : Pass C). ReadsAs tells state offers s z t e) (sym gave.still) reads)
  reads_after e p q before after Halted reads gave = (_, gave.stays)
  reads_after e p q before after OtherUrl reads (inl stays) = (e, subst (λ (z : Pass C). ReadsAs tells state offers s z t e) (sym stays.still) reads)
  reads_after e p q before after OtherUrl reads (inr turns) = (_, turns.reads)
  reads_after e p q before after Fault reads gave = (e, gave.stays)

  -- What it was given so far is what the first slots of the offer's response add, where cells tell.
  pub record IsGiven (e f : Standing) (bytes : List ℕ) : Type 0 where
    pub anchor : f.anchor ≡ e.anchor
    pub offer : f.offer ≡ e.offer
    pub url : f.url ≡ e.url
    pub is_other : f.is_other ≡ e.is_other
    pub bytes_are : IsTrue tells → HoldsFile (basis tells state offers s) → bytes ≡ body_below (basis tells state offers s) e.anchor e.offer f.place

  given_on : (e standing : Standing) (middle left : Pass C) (front before after : List ℕ) (answer : More) → GoesOn answer → Gave tells state offers s t middle standing before after left answer → IsGiven e standing front
      → IsGiven e (standing_by standing answer) (front ++ given_by after answer)
  given_on e standing middle left front before after (Piece count) goes gave h = record {
    anchor = h.anchor;
    offer = h.offer;
    url = h.url;
    is_other = h.is_other;
    bytes_are = λ told holds. ap (λ z. z ++ take count after) (h.bytes_are told holds)
        ∙ ap (λ z. body_below (basis tells state offers s) e.anchor e.offer standing.place ++ z) (gave.bytes told holds ∙ ap (λ a. body_at (basis tells state offers s) a standing.offer standing.place) h.anchor ∙ ap (λ o. body_at (basis tells state offers s) e.anchor o standing.place) h.offer)
        ∙ sym (ap (body_below (basis tells state offers s) e.anchor e.offer) (add-one standing.place));
  }
  given_on e standing middle left front before after (NotYet epoch) goes gave h = record {
    anchor = h.anchor;
    offer = h.offer;
    url = h.url;
    is_other = h.is_other;
    bytes_are = λ told holds. append-nil front ∙ h.bytes_are told holds;
  }
  given_on e standing middle left front before after End goes gave h = absurd goes
  given_on e standing middle left front before after Halted goes gave h = absurd goes
  given_on e standing middle left front before after OtherUrl goes gave h = absurd goes
  given_on e standing middle left front before after Fault goes gave h = absurd goes

  pub given_along : (e : Standing) (p : Pass C) (turns : List (Turn C)) (f : Standing) (q : Pass C) (bytes : List ℕ) (looks : ℕ) → e.place ≡ 0 → Follows tells state offers s t e p turns f q bytes looks → IsGiven e f bytes
  given_along e p [] f q bytes looks first (f_is, _, bytes_is, _) = subst (λ (z : Standing). IsGiven e z bytes) (sym f_is) record {
    anchor = refl;
    offer = refl;
    url = refl;
    is_other = refl;
    bytes_are = λ told holds. bytes_is ∙ sym (ap (body_below (basis tells state offers s) e.anchor e.offer) first);
  }
  given_along e p (c ∷ earlier) f q bytes looks first (standing, middle, front, before, h, goes, gave, f_is, _, bytes_is, _) =
      subst (λ (z : Standing). IsGiven e z bytes) (sym f_is) (subst (λ (z : List ℕ). IsGiven e (standing_by standing c.answer) z) (sym bytes_is)
      (given_on e standing middle c.left front c.before c.after c.answer goes gave (given_along e p earlier standing middle front before first h)))
