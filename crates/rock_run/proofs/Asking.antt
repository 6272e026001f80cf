-- What may be asked of a store that is offered what the lines of a script offer.
use Rattle.std.proofs.Common.{◌∙◌, ◌+◌, ◌-◌, ◌==◌, ◌∷◌, ◌≡◌, ◌≢◌, ◌≤◌, Bool, Contains, List, [], ap, arith, eq-eqb, false, length, min, refl, sym, true, ℕ}
use Rattle.std.specs.Prelude.{None, Option, Some, nat_le, option_and_then}
use Rattle.std.proofs.lemmas.Bool.{le-leb}
use Rattle.std.specs.Option.{option_map_or}
use Rattle.rock_disk.specs.Cell.{CellState}
use Rattle.store_key.specs.Url.{IsUrl}
use Rattle.script_text.specs.Lines.{AreLines}
use Rattle.script_text.specs.Requests.{SpellsRequest, url_in}
use Rattle.script_text.specs.declared.body.Body.{Body}
use Rattle.script_text.specs.declared.line.Line.{Line}
use Rattle.script_text.specs.declared.request.Request.{Request}
use Rattle.script_text.specs.declared.request.Request.TheVariants.{Await, Begin, Get, Mark, OpenTab, Purge, Put, Save, Wipe}
use Rattle.script_text.specs.declared.verb.Verb.{Verb}
use Rattle.plain_model.specs.Serving.{bytes_of}
use Rattle.store_key.specs.Anchor.{anchor_of}
use Rattle.store_key.specs.Key.{key_of}
use Rattle.entry_cut.specs.Content.{LeavesRoom, content_of, count, front_size, slots_needed}
use Rattle.store_rule.specs.Ground.{Offers, anchor_for, cut_of, need_of, url_of}
use Rattle.store_rule.specs.Passes.{basis, view}
use Rattle.store_rule.specs.declared.store.Pass.{Pass}
use Rattle.store_rule.specs.declared.store.Store.{Store}
use Rattle.worker_shelf.specs.Taking.{IsOffered, MayAsk, MayGo, offer_of}
use Rattle.rock_run.specs.Asked.{IsAsked, IsFound}
use Rattle.rock_run.specs.Leaving.{leaves_to}
use Rattle.rock_run.specs.Offered.{OffersLines, Response, most_taken, offered_by, offered_in, offers_of, taken_at}
use Rattle.rock_run.proofs.Found.{found, spelled}
use Rattle.rock_run.proofs.Leaving.{found_among, left_to_worker}

-- a request that is spelled by words of a script names a tab and a URL of one
asked_by_words : (request : Request) (name : Verb) (words : List (List ℕ)) → SpellsRequest request name words → IsAsked request
asked_by_words (Begin tab url body) name words h = (h.1.0, h.1.1)
asked_by_words (OpenTab tab url) name words h = (h.1.0, h.1.1)
asked_by_words (Mark mark) name words h = tt
asked_by_words (Await mark) name words h = tt
asked_by_words _ name words h = h.1.0

url_offered : (lines : List Line) (number : ℕ) (url : List ℕ) (body : Body) → offered_by lines number ≡ Some record { url = url; body = body } → (offers_of lines).url number ≡ url
unfolding offers_of
url_offered lines number url body e = ap (λ (o : Option Response). option_map_or (λ (r : Response). r.url) o []) e

body_offered : (lines : List Line) (number : ℕ) (url : List ℕ) (body : Body) → offered_by lines number ≡ Some record { url = url; body = body } → (offers_of lines).body number ≡ bytes_of body
unfolding offers_of
body_offered lines number url body e = ap (λ (o : Option Response). option_map_or (λ (r : Response). bytes_of r.body) o []) e

left_offered : (lines : List Line) (anchors a : ℕ) → (offers_of lines).alone anchors a ≡ leaves_to anchors a lines
unfolding offers_of
left_offered lines anchors a = refl

need_offered : (lines : List Line) (anchors slot a : ℕ) → (offers_of lines).need anchors slot a ≡ most_taken anchors slot a lines
unfolding offers_of
need_offered lines anchors slot a = refl

-- what the line of a number offers takes at most what the lines together do
most_offered : (anchors slot a : ℕ) (lines : List Line) (number : ℕ) (r : Response) → offered_by lines number ≡ Some r → taken_at anchors slot a r ≤ most_taken anchors slot a lines
most_offered anchors slot a [] number r e = absurd (none_some e)
  where
    none_some : None ≡ Some r → ⊥
    none_some z = cc
most_offered anchors slot a (x ∷ xs) number r e = by_case (x.number == number) refl (most_offered anchors slot a xs number r)
  where
    by_case : (b : Bool) → (x.number == number) ≡ b → (offered_by xs number ≡ Some r → taken_at anchors slot a r ≤ most_taken anchors slot a xs)
        → taken_at anchors slot a r ≤ most_taken anchors slot a (x ∷ xs)
    by_case true q rest =
        let this : offered_by (x ∷ xs) number ≡ offered_in x.request = rw q refl in
        let takes = ap (λ (o : Option Response). option_map_or (taken_at anchors slot a) o 0) (sym this ∙ e) in omega arith
    by_case false q rest =
        let other : offered_by (x ∷ xs) number ≡ offered_by xs number = rw q refl in
        let h = rest (sym other ∙ e) in omega arith

-- at its own anchor it takes as many slots as its content needs, and at most 4,096
takes_here : (anchors slot : ℕ) (url : List ℕ) (body : Body) → LeavesRoom slot url
    → taken_at anchors slot (anchor_of (key_of url) anchors) record { url = url; body = body } ≡ min (slots_needed (length (content_of url (bytes_of body))) slot) 4096
takes_here anchors slot url body short =
    let same = eq-eqb (anchor_of (key_of url) anchors) (anchor_of (key_of url) anchors) refl in
    let room = le-leb (length url + front_size) slot short in rw (same, room) refl

behind : (slots number : ℕ) → (slots + number) - slots ≡ number
behind slots number = omega arith

module _ {C O : Type 0} (tells : Bool) (state : C → CellState) (offers : O → Offers) (s : Store C O) (lines : List Line) (given : OffersLines lines (basis tells state offers s).offers) where
  url_there : (number : ℕ) (url : List ℕ) (body : Body) → offered_by lines number ≡ Some record { url = url; body = body }
      → url_of (basis tells state offers s) (offer_of tells state offers s number) ≡ url
  url_there number url body e = ap (basis tells state offers s).offers.url (behind (basis tells state offers s).setting.slots number)
      ∙ (ap (λ (f : ℕ → List ℕ). f number) given.url ∙ url_offered lines number url body e)

  body_there : (number : ℕ) (url : List ℕ) (body : Body) → offered_by lines number ≡ Some record { url = url; body = body }
      → (basis tells state offers s).offers.body (offer_of tells state offers s number - (basis tells state offers s).setting.slots) ≡ bytes_of body
  body_there number url body e = ap (basis tells state offers s).offers.body (behind (basis tells state offers s).setting.slots number)
      ∙ (ap (λ (f : ℕ → List ℕ). f number) given.body ∙ body_offered lines number url body e)

  is_offered : (number : ℕ) (url : List ℕ) (body : Body) → IsUrl url → offered_by lines number ≡ Some record { url = url; body = body }
      → IsOffered tells state offers s (offer_of tells state offers s number) url body
  is_offered number url body good e = record {
    from = omega arith;
    url_is = url_there number url body e;
    body_is = body_there number url body e;
    good = good;
    needed = λ short fitting.
        let g = basis tells state offers s in
        let a : ℕ = anchor_for g url in
        let n : need_of g a ≡ most_taken g.setting.anchors g.slot a lines = ap (λ (f : ℕ → ℕ → ℕ → ℕ). f g.setting.anchors g.slot a) given.need ∙ need_offered lines g.setting.anchors g.slot a in
        let m = most_offered g.setting.anchors g.slot a lines number record { url = url; body = body } e in
        let t = takes_here g.setting.anchors g.slot url body short in
        let c : count (cut_of g (offer_of tells state offers s number) 0 0) ≡ slots_needed (length (content_of url (bytes_of body))) g.slot =
        (λ i. slots_needed (length (content_of (url_there number url body e i) (body_there number url body e i))) g.slot) in omega arith;
  }

  may_ask : (number : ℕ) (request : Request) → IsAsked request → offered_by lines number ≡ offered_in request
      → ((mark : ℕ) → request ≢ Mark mark) → ((mark : ℕ) → request ≢ Await mark) → MayAsk tells state offers s number request
  may_ask number (Put url body) h e marks awaits = is_offered number url body h e
  may_ask number (Save url body) h e marks awaits = is_offered number url body h e
  may_ask number (Get url) h e marks awaits = h
  may_ask number (Purge url) h e marks awaits = h
  may_ask number (Wipe url) h e marks awaits = h
  may_ask number (Begin tab url body) h e marks awaits = let le = h.0 in (omega arith, is_offered number url body h.1 e)
  may_ask number (OpenTab tab url) h e marks awaits = let le = h.0 in (omega arith, h.1)
  may_ask number (Mark mark) h e marks awaits = marks mark refl
  may_ask number (Await mark) h e marks awaits = awaits mark refl
  may_ask number _ h e marks awaits = omega arith

  -- a line that is the first of its number may ask for what it asks
  pub asks : (line : Line) → IsFound lines line → IsAsked line.request
      → ((mark : ℕ) → line.request ≢ Mark mark) → ((mark : ℕ) → line.request ≢ Await mark) → MayAsk tells state offers s line.number line.request
  asks line found asked marks awaits =
      may_ask line.number line.request asked (ap (option_and_then (λ (l : Line). offered_in l.request)) found) marks awaits

module _ {C O : Type 0} (tells : Bool) (state : C → CellState) (offers : O → Offers) (s : Store C O) (lines : List Line) (given : (basis tells state offers s).offers ≡ offers_of lines) where
  pub lines_offered : OffersLines lines (basis tells state offers s).offers
  lines_offered = record { url = ap Offers.url given; body = ap Offers.body given; need = ap Offers.need given }

  -- the pass of a line's worker may go to the URL that the line names
  pub goes : (line : Line) (p : Pass C) (url : List ℕ) → IsFound lines line → line.worker ≡ (view p).pass + 1 → url_in line.request ≡ Some url → MayGo tells state offers s p url
  goes line p url first mine named pass e =
      let anchors : ℕ = (basis tells state offers s).setting.anchors in
      let a : ℕ = anchor_for (basis tells state offers s) url in
      let left : leaves_to anchors a lines ≡ Some pass = sym (ap (λ (o : Offers). o.alone anchors a) given ∙ left_offered lines anchors a) ∙ e in
      let its : pass ≡ line.worker - 1 = left_to_worker anchors lines line url (found_among (λ other. other.number == line.number) lines line first) named pass left in
      omega (arith, its, mine)

-- each line of a script that was read is the first of its number, and asks for what one may ask
pub read : {workers : ℕ} {texts : List (List ℕ)} {lines : List Line} → AreLines workers texts lines → (line : Line) → Contains lines line → IsFound lines line × IsAsked line.request
read are line among = let is = spelled are line among in (found are line among, asked_by_words line.request is.name is.words is.spells)
