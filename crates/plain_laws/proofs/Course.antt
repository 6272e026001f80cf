-- What holds along the lines.
use Rattle.std.proofs.Common.{◌≡◌, ◌⊎◌, inl, inr, ◌∙◌, ℕ, ◌+◌, ◌<◌, ◌≤◌, List, [], ◌∷◌, ◌++◌, refl, sym, ap, subst, arith, length, suc, Contains, false}
use Rattle.std.specs.Prelude.{Option, Some, None}
use Rattle.store_key.specs.Key.{key_of}
use Rattle.store_key.specs.Anchor.{anchor_of}
use Rattle.script_text.specs.Requests.{OffersBody}
use Rattle.script_text.specs.declared.answer.Answer.{Answer}
use Rattle.script_text.specs.declared.body.Body.{Body}
use Rattle.script_text.specs.declared.line.Line.{Line}
use Rattle.plain_model.specs.declared.entry.Entry.{Entry}
use Rattle.plain_model.specs.declared.entry.Place.{Place}
use Rattle.plain_model.specs.declared.store.Setting.{Setting}
use Rattle.plain_model.specs.declared.store.Plain.{Plain}
use Rattle.plain_model.specs.Place.{nothing}
use Rattle.plain_model.specs.Store.{entry_at}
use Rattle.plain_model.specs.Writing.{Step, taken_by, entry_of}
use Rattle.plain_model.specs.Serving.{bytes_of, serve, answers, after}
use Rattle.plain_laws.specs.Kept.{SameOffer, IsLeft, Keeps}
use Rattle.plain_laws.specs.Offered.{IsOffered, IsOfStore, HasOrigin}
use Rattle.plain_laws.specs.Begun.{begun_by, begun, RiseAbove}
use Rattle.plain_laws.proofs.Keeping.{same_offer}
use Rattle.plain_laws.proofs.Beginning.{set_there}
use Rattle.plain_laws.proofs.Serving.{Effect, effect}

pub weaken : (a b : ℕ) (xs : List ℕ) → a ≤ b → RiseAbove b xs → RiseAbove a xs
weaken a b [] h r = tt
weaken a b (x ∷ xs) h r = let k : b < x = r.0 in (omega arith, r.1)

pub rise_told : (c d : ℕ) (told more : List ℕ) → (told ≡ []) ⊎ (told ≡ (c + 1) ∷ []) → d ≡ c + 1 → RiseAbove d more → RiseAbove c (told ++ more)
rise_told c d told more (inl e) at r = rw e (weaken c d more (omega arith) r)
rise_told c d told more (inr e) at r = rw e (let k : c < c + 1 = omega arith in (k, weaken (c + 1) d more (omega arith) r))

rise_by : (line : Line) (lines : List Line) (s : Setting) (p : Plain) (r : Step) (given : List Answer) → Effect s line p r → RiseAbove r.after.counter (begun lines given)
    → RiseAbove p.counter (begun (line ∷ lines) (r.answer ∷ given))
rise_by line lines s p r given (Effect.kept k told) more = rw told (subst (λ (c : ℕ). RiseAbove c (begun lines given)) k.counter more)
rise_by line lines s p r given (Effect.began tab url made offers b told) more = rise_told p.counter r.after.counter (begun_by line.request r.answer) (begun lines given) told b.counter more

pub versions_rise : (s : Setting) (script lines : List Line) (p : Plain) → RiseAbove p.counter (begun lines (answers s script lines p))
versions_rise s script [] p = tt
versions_rise s script (line ∷ lines) p = rise_by line lines s p (serve s script line p) (answers s script lines (serve s script line p).after) (effect s script line p) (versions_rise s script lines (serve s script line p).after)

-- the entry of a later store is one of an earlier one
left_there : (o : Option Entry) (e : Entry) → IsLeft o (Some e) → (d : Entry) × (o ≡ Some d) × SameOffer d e
left_there None e h = absurd h
left_there (Some d) e h = (d, refl, h)

came_from : (p q : Plain) (anchor : ℕ) (e : Entry) → Keeps p q → entry_at q anchor ≡ Some e → (d : Entry) × (entry_at p anchor ≡ Some d) × SameOffer d e
came_from p q anchor e k is = left_there (entry_at p anchor) e (subst (λ (o : Option Entry). IsLeft (entry_at p anchor) o) is (k.places anchor).entry)

same_on : (a b c : Entry) → SameOffer a b → SameOffer b c → SameOffer a c
same_on a b c h k = record { url = k.url ∙ h.url; key = k.key ∙ h.key; body = k.body ∙ h.body; offer = k.offer ∙ h.offer }

-- what is at an anchor once an entry was begun
begun_or_old : (tab a anchor : ℕ) (e d : Entry) (p : Plain) → entry_at (taken_by tab a e p) anchor ≡ Some d → ((anchor ≡ a) × (e ≡ d)) ⊎ (entry_at p anchor ≡ Some d)
begun_or_old tab a anchor e d p is =
    elim (set_there p.places a anchor (record { version = p.counter + 1; doom = false; entry = Some e }) nothing) [
      | inl h ↦ (let k : Some e ≡ Some d = sym (ap (λ (x : Place). x.entry) h.1) ∙ is in inl (h.0, (cc)))
      | inr h ↦ inr (sym (ap (λ (x : Place). x.entry) h) ∙ is)
    ]

offered_by : (s : Setting) (line : Line) (url : List ℕ) (made : Body) (anchor : ℕ) (d e : Entry) → OffersBody line.request url made → anchor ≡ anchor_of (key_of url) s.anchors
    → entry_of url (bytes_of made) (s.slots + line.number) ≡ d → SameOffer d e → IsOffered s anchor line e
offered_by s line url made anchor d e offers at is same =
    let u : e.url ≡ url = same.url ∙ sym (ap (λ (x : Entry). x.url) is) in
    let k : e.key ≡ key_of url = same.key ∙ sym (ap (λ (x : Entry). x.key) is) in
    record {
      made = made;
      offers = subst (λ (x : List ℕ). OffersBody line.request x made) (sym u) offers;
      body = same.body ∙ sym (ap (λ (x : Entry). x.body) is);
      key = k ∙ sym (ap key_of u);
      at = at ∙ sym (ap (λ (x : List ℕ). anchor_of x s.anchors) k);
      offer = same.offer ∙ sym (ap (λ (x : Entry). x.offer) is);
    }

-- an entry that a line leaves is its own, or stood there before
left_by_line : (s : Setting) (line : Line) (p : Plain) (r : Step) (anchor : ℕ) (e : Entry) → Effect s line p r → entry_at r.after anchor ≡ Some e → IsOffered s anchor line e ⊎ IsOfStore p anchor e
left_by_line s line p r anchor e (Effect.kept k told) is =
    let old = came_from p r.after anchor e k is in inr (record { old = old.0; there = old.1; same = old.2 })
left_by_line s line p r anchor e (Effect.began tab url made offers b told) is =
    let mid = came_from (taken_by tab (anchor_of (key_of url) s.anchors) (entry_of url (bytes_of made) (s.slots + line.number)) p) r.after anchor e b is in
    elim (begun_or_old tab (anchor_of (key_of url) s.anchors) anchor (entry_of url (bytes_of made) (s.slots + line.number)) mid.0 p mid.1) [
      | inl h ↦ inl (offered_by s line url made anchor mid.0 e offers h.0 h.1 mid.2)
      | inr h ↦ inr (record { old = mid.0; there = h; same = mid.2 })
    ]

pub first : (line : Line) (lines : List Line) → Contains (line ∷ lines) line
first line lines = let k : 0 < suc (length lines) = omega arith in (0, k, refl)

pub further : (line found : Line) (lines : List Line) → Contains lines found → Contains (line ∷ lines) found
further line found lines h = let i : h.0 < length lines = h.1 in let k : suc h.0 < suc (length lines) = omega arith in (suc h.0, k, h.2)

later : (s : Setting) (line : Line) (p q : Plain) (anchor : ℕ) (e : Entry) (lines : List Line)
    → ((d : Entry) → entry_at q anchor ≡ Some d → IsOffered s anchor line d ⊎ IsOfStore p anchor d) → HasOrigin s lines q anchor e → HasOrigin s (line ∷ lines) p anchor e
later s line p q anchor e lines step (inl h) = inl (record { line = h.line; among = further line h.line lines h.among; offered = h.offered })
later s line p q anchor e lines step (inr h) =
    elim (step h.old h.there) [
      | inl o ↦ inl (record {
        line = line;
        among = first line lines;
        offered = record {
          made = o.made;
          offers = subst (λ (x : List ℕ). OffersBody line.request x o.made) (sym h.same.url) o.offers;
          body = h.same.body ∙ o.body;
          key = h.same.key ∙ (o.key ∙ ap key_of (sym h.same.url));
          at = o.at ∙ ap (λ (x : List ℕ). anchor_of x s.anchors) (sym h.same.key);
          offer = h.same.offer ∙ o.offer;
        };
      })
      | inr o ↦ inr (record { old = o.old; there = o.there; same = same_on o.old h.old e o.same h.same })
    ]

pub origins : (s : Setting) (script lines : List Line) (p : Plain) (anchor : ℕ) (e : Entry) → entry_at (after s script lines p) anchor ≡ Some e → HasOrigin s lines p anchor e
origins s script [] p anchor e is = inr (record { old = e; there = is; same = same_offer e })
origins s script (line ∷ lines) p anchor e is =
    later s line p (serve s script line p).after anchor e lines (λ d at. left_by_line s line p (serve s script line p) anchor d (effect s script line p) at)
    (origins s script lines (serve s script line p).after anchor e is)
