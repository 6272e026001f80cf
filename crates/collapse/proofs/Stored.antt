-- What a sink took of a response that is stored.
use Rattle.std.proofs.Common.{Bool, IsTrue, List, [], ap, arith, inl, inr, length, length-append, refl, subst, sym, take, zero, suc, ◌++◌, ◌≡◌, ◌≤◌, ◌∙◌, ◌⊎◌, ℕ}
use Rattle.std.proofs.Math.Seq.{take-append_seam}
use Rattle.std.proofs.lemmas.List.{append-nil, take-append-le}
use Rattle.rock_disk.specs.Cell.{CellState}
use Rattle.rock_io.specs.Sink.{TakesPrefix}
use Rattle.store_rule.specs.declared.store.Pass.{Pass}
use Rattle.store_rule.specs.declared.store.Store.{Store}
use Rattle.store_rule.specs.Ground.{Ground, Offers, anchor_for}
use Rattle.store_rule.specs.Passes.{basis}
use Rattle.rock_reader.specs.declared.answer.More.{More}
use Rattle.rock_reader.specs.declared.answer.More.TheVariants as more
use Rattle.rock_reader.specs.Reading.{ReadsAs, Standing, newly}
use Rattle.rock_reader.specs.Responses.{HoldsFile, IsResponse, body_below, pieces_of}
use Rattle.collapse.specs.Following.{Follows, Turn}
use Rattle.collapse.specs.Forwarding.{AsksOnly, Forwards, ReadSome, ReadTo, ReadsOnly, SentFront, SentStored, SentWhole, TurnedOutLate}
use Rattle.collapse.specs.declared.answer.Forwarded.{Forwarded}
use Rattle.collapse.specs.declared.answer.Forwarded.TheVariants.{Direct, Fault, FetchFault, Fetched, Halted, Hit, SinkFault, Waited}
use Rattle.collapse.proofs.Turns.{IsGiven, given_along, reads_along}

-- what the first slots add to a body is its front
abbrev pub FrontLaw : Ground (List ℕ) → Type 0
FrontLaw g = (anchor offer places : ℕ) (url body : List ℕ) → IsResponse g anchor offer url body → places ≤ pieces_of g anchor offer → (rest : List ℕ) × (body ≡ body_below g anchor offer places ++ rest)

abbrev pub WholeLaw : Ground (List ℕ) → Type 0
WholeLaw g = (anchor offer : ℕ) (url body : List ℕ) → IsResponse g anchor offer url body → body ≡ body_below g anchor offer (pieces_of g anchor offer)

-- a first part of what was sent is a first part of a body that it is the front of
front_of : (old new bytes rest body : List ℕ) → TakesPrefix old new bytes → body ≡ bytes ++ rest → TakesPrefix old new body
front_of old new bytes rest body (n, fits, is) whole = (
  n,
  let l = ap length whole in let m = length-append bytes rest in omega (arith, fits, l, m),
  is ∙ ap (λ z. old ++ z) (sym (ap (take n) whole ∙ take-append-le n bytes rest fits)),
)

all_of : (old new bytes : List ℕ) → new ≡ old ++ bytes → TakesPrefix old new bytes
all_of old new bytes is = (length bytes, omega arith, is ∙ ap (λ z. old ++ z) (sym (ap (take (length bytes)) (sym (append-nil bytes)) ∙ take-append_seam bytes [])))

take_none : (n : ℕ) → ◌≡◌ {A = List ℕ} (take n []) []
take_none zero = refl
take_none (suc n) = refl

none_of : (old new bytes : List ℕ) → bytes ≡ [] → TakesPrefix old new bytes → new ≡ old
none_of old new bytes none (n, fits, is) = is ∙ ap (λ (z : List ℕ). old ++ z) (ap (take n) none ∙ take_none n) ∙ append-nil old

module _ {C O : Type 0} (tells : Bool) (state : C → CellState) (offers : O → Offers) (s : Store C O) (t offer : ℕ) (url : List ℕ) (most : ℕ) (told : IsTrue tells) (holds : HoldsFile (basis tells state offers s)) where
  -- The tab was opened at the entry of the URL and followed it. What it was given is the front of a response, or nothing.
  front_so_far : (version o : ℕ) (p : Pass C) (turns : List (Turn C)) (f : Standing) (q : Pass C) (bytes : List ℕ) (looks : ℕ) → FrontLaw (basis tells state offers s)
      → ReadsAs tells state offers s p t (newly (anchor_for (basis tells state offers s) url) version o url)
      → Follows tells state offers s t (newly (anchor_for (basis tells state offers s) url) version o url) p turns f q bytes looks
      → (old new : List ℕ) → TakesPrefix old new bytes → (new ≡ old) ⊎ SentFront (basis tells state offers s) (anchor_for (basis tells state offers s) url) url old new
  front_so_far version o p turns f q bytes looks law reads follows old new sent = by_place f.place refl
    where
      still : ReadsAs tells state offers s q t f
      still = reads_along tells state offers s t _ p turns f q bytes looks reads follows

      given : IsGiven tells state offers s t (newly (anchor_for (basis tells state offers s) url) version o url) f bytes
      given = given_along tells state offers s t _ p turns f q bytes looks refl follows

      by_place : (n : ℕ) → f.place ≡ n → (new ≡ old) ⊎ SentFront (basis tells state offers s) (anchor_for (basis tells state offers s) url) url old new
      by_place zero is = inl (none_of old new bytes (given.bytes_are told holds ∙ ap (body_below (basis tells state offers s) (anchor_for (basis tells state offers s) url) o) is) sent)
      by_place (suc n) is = let response = (still.given given.is_other (omega (arith, is))).1 told holds in
          let right : IsResponse (basis tells state offers s) (anchor_for (basis tells state offers s) url) o url response.0 =
          subst (λ (z : ℕ). IsResponse (basis tells state offers s) z o url response.0) given.anchor
          (subst (λ (z : ℕ). IsResponse (basis tells state offers s) f.anchor z url response.0) given.offer
          (subst (λ (z : List ℕ). IsResponse (basis tells state offers s) f.anchor f.offer z response.0) given.url response.1)) in
          let inside : f.place ≤ pieces_of (basis tells state offers s) (anchor_for (basis tells state offers s) url) o =
          subst (λ (z : ℕ). f.place ≤ pieces_of (basis tells state offers s) z o) given.anchor (subst (λ (z : ℕ). f.place ≤ pieces_of (basis tells state offers s) f.anchor z) given.offer still.inside) in
          let front = law _ o f.place url response.0 right inside in
          inr record { offer = o; body = response.0; response = right; front = front_of old new bytes front.0 response.0 sent (front.1 ∙ ap (λ z. z ++ front.0) (sym (given.bytes_are told holds))) }

  read_to : (p q : Pass C) (version : ℕ) (bytes : List ℕ) (answer : More) → FrontLaw (basis tells state offers s) → ReadTo tells state offers s t offer url most p q version bytes answer → (old new : List ℕ) → TakesPrefix old new bytes
      → (new ≡ old) ⊎ SentFront (basis tells state offers s) (anchor_for (basis tells state offers s) url) url old new
  read_to p q version bytes answer law h old new sent = front_so_far version h.opens.last.offer_of h.opened h.went.turns h.went.standing h.went.middle bytes h.looks law h.opens.last.reads h.went.follows old new sent

  read_some : (p q : Pass C) (version : ℕ) (bytes : List ℕ) (times : ℕ) → FrontLaw (basis tells state offers s) → ReadSome tells state offers s t offer url most p q version bytes times → (old new : List ℕ) → TakesPrefix old new bytes
      → (new ≡ old) ⊎ SentFront (basis tells state offers s) (anchor_for (basis tells state offers s) url) url old new
  read_some p q version bytes times law h old new sent = front_so_far version h.opens.last.offer_of h.opened h.went.turns h.went.standing h.read bytes h.looks law h.opens.last.reads h.went.follows old new sent

  -- At the end it was given the whole body.
  read_whole : (p q : Pass C) (version : ℕ) (bytes : List ℕ) → WholeLaw (basis tells state offers s) → ReadTo tells state offers s t offer url most p q version bytes more.End → (old new : List ℕ) → new ≡ old ++ bytes
      → SentWhole (basis tells state offers s) (anchor_for (basis tells state offers s) url) url old new
  read_whole p q version bytes law h old new sent =
      let f = h.went.standing in let o = h.opens.last.offer_of in
      let still : ReadsAs tells state offers s h.went.middle t f = reads_along tells state offers s t _ h.opened h.went.turns f h.went.middle bytes h.looks h.opens.last.reads h.went.follows in
      let given : IsGiven tells state offers s t (newly (anchor_for (basis tells state offers s) url) version o url) f bytes = given_along tells state offers s t _ h.opened h.went.turns f h.went.middle bytes h.looks refl h.went.follows in
      let response = (still.given given.is_other h.went.ends.some).1 told holds in
      let right : IsResponse (basis tells state offers s) (anchor_for (basis tells state offers s) url) o url response.0 =
      subst (λ (z : ℕ). IsResponse (basis tells state offers s) z o url response.0) given.anchor
      (subst (λ (z : ℕ). IsResponse (basis tells state offers s) f.anchor z url response.0) given.offer
      (subst (λ (z : List ℕ). IsResponse (basis tells state offers s) f.anchor f.offer z response.0) given.url response.1)) in
      let all : f.place ≡ pieces_of (basis tells state offers s) (anchor_for (basis tells state offers s) url) o =
      h.went.ends.all ∙ ap (λ z. pieces_of (basis tells state offers s) z f.offer) given.anchor ∙ ap (λ z. pieces_of (basis tells state offers s) (anchor_for (basis tells state offers s) url) z) given.offer in
      record {
        offer = o;
        body = response.0;
        response = right;
        whole = sent ∙ ap (λ z. old ++ z) (given.bytes_are told holds ∙ ap (body_below (basis tells state offers s) (anchor_for (basis tells state offers s) url) o) all ∙ sym (law _ o url response.0 right));
      }

  module _ (p q : Pass C) (body : List ℕ) (sink_tells : Bool) (shown : IsTrue sink_tells) (old new : List ℕ) (starts started : ℕ) (front : FrontLaw (basis tells state offers s)) (whole : WholeLaw (basis tells state offers s)) where
    -- what the sink took, by the answer
    pub stored_of : (r : Forwarded) → Forwards tells state offers s t offer url most p q body sink_tells old new starts started r
        → SentStored (basis tells state offers s) (anchor_for (basis tells state offers s) url) url body old new r
    stored_of (Hit version) h = read_whole p q version h.bytes whole h.read old new (h.sent shown)
    stored_of (Fetched version) h = tt
    stored_of (Direct why) h = tt
    stored_of Halted h = halted h.how
      where
        halted : ReadTo tells state offers s t offer url most p q h.version h.bytes more.Halted ⊎ TurnedOutLate tells state offers s t offer url most p q h.version h.bytes → (new ≡ old) ⊎ SentFront (basis tells state offers s) (anchor_for (basis tells state offers s) url) url old new
        halted (inl k) = read_to p q h.version h.bytes more.Halted front k old new (all_of old new h.bytes (h.sent shown))
        halted (inr k) = absurd (k.untold told holds)
    stored_of Fault h = read_to p q h.version h.bytes more.Fault front h.read old new (all_of old new h.bytes (h.sent shown))
    stored_of (Waited looks) h = waited h.how
      where
        waited : AsksOnly tells state offers s t offer url most p q body sink_tells old new starts started looks ⊎ ReadsOnly tells state offers s t offer url most p q body sink_tells old new starts started looks → (new ≡ old) ⊎ SentFront (basis tells state offers s) (anchor_for (basis tells state offers s) url) url old new
        waited (inl k) = inl k.sent
        waited (inr k) = read_some p q k.version k.bytes looks front k.read old new (all_of old new k.bytes (k.sent shown))
    stored_of FetchFault h = tt
    stored_of SinkFault (inl h) = inl (h.sent shown)
    stored_of SinkFault (inr h) = either (read_some p q h.version h.bytes h.times front h.read old new (h.sent shown))
      where
        either : (new ≡ old) ⊎ SentFront (basis tells state offers s) (anchor_for (basis tells state offers s) url) url old new → TakesPrefix old new body ⊎ SentFront (basis tells state offers s) (anchor_for (basis tells state offers s) url) url old new
        either (inl same) = inl (0, omega arith, same ∙ sym (append-nil old))
        either (inr sent) = inr sent
