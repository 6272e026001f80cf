-- Where a tab reads an entry whose offer has no response under the URL that it wants, the offer has another URL with the same key.
use Rattle.std.proofs.Common.{Bool, Contains, List, [], ap, arith, cond, length, refl, subst, sym, ⊎_elim, ◌-◌, ◌<◌, ◌∙◌, ◌∷◌, ◌≡◌, ◌≤◌, ℕ}
use Rattle.std.specs.Prelude.{IsTrue, ◌≢◌}
use Rattle.std.proofs.lemmas.Bool.{cases_lt, lt-ltb}
use Rattle.rock_disk.specs.Cell.{CellState}
use Rattle.store_key.specs.Anchor.{back_half, front_half}
use Rattle.store_key.specs.Key.{key_of}
use Rattle.store_key.specs.Url.{IsUrl}
use Rattle.core_model.specs.Anchors.{opening_counter}
use Rattle.core_model.specs.Layout.{word_in}
use Rattle.core_model.specs.declared.moves.Side.{Side}
use Rattle.core_model.specs.declared.moves.Side.TheVariants.{Key0, Key1, Offer, Start}
use Rattle.core_model.specs.declared.view.Place.TheVariants.{Beside}
use Rattle.core_model.specs.declared.view.Sight.{Sight}
use Rattle.core_model.specs.declared.view.Sight.TheVariants.{Named}
use Rattle.core_model.specs.declared.view.View.{View}
use Rattle.line_account.specs.Answers.{IsEntryAt, Run}
use Rattle.lock_word.specs.Words.{version_of}
use Rattle.store_rule.specs.declared.store.Pass.{Pass}
use Rattle.store_rule.specs.declared.store.Store.{Store}
use Rattle.store_rule.specs.Ground.{Ground, IsOfferFor, Offers, url_of}
use Rattle.store_rule.specs.Passes.{basis, view}
use Rattle.store_rule.proofs.Passing.{pass_of}
use Rattle.rock_reader.specs.Reading.{ReadsAs, Standing}
use Rattle.rock_reader.specs.Responses.{IsOffered, IsOpened, IsResponse}
use Rattle.crew_accounts.specs.Runs.{IsTold, Past, run_of}
use Rattle.crew_accounts.specs.Tracks.{IsOtherUrl}
use Rattle.crew_accounts.proofs.OneKey.{one_key}
use Rattle.crew_accounts.proofs.ReadNames.{inside, new_offer, offered_for, old_name, old_offer, old_slots}
use Rattle.crew_accounts.proofs.Running.{new_url}

-- a name that was seen, of the same anchor and version
named_there : (a b x y n : ℕ) (side : Side) (seen : List Sight) → a ≡ b → x ≡ y → Contains seen (Named a x side n) → Contains seen (Named b y side n)
named_there a b x y n side seen same version h = subst (λ (c : ℕ). Contains seen (Named c y side n)) same (subst (λ (z : ℕ). Contains seen (Named a z side n)) version h)

-- what a pass has seen of the key of an entry that a tab reads
pub record HasKey (v : View (List ℕ)) (e : Standing) : Type 0 where
  pub front : Contains v.seen (Named e.anchor e.version Key0 (front_half (key_of e.url)))
  pub back : Contains v.seen (Named e.anchor e.version Key1 (back_half (key_of e.url)))

some_slots : (xs : List ℕ) → 0 < length xs → xs ≢ []
some_slots [] some e = absurd (omega arith)
some_slots (x ∷ xs) some e = cc

module _ {C O : Type 0} (tells : Bool) (state : C → CellState) (offers : O → Offers) (s : Store C O) (told : Bool) (past : Past) (so : IsTold (basis tells state offers s) told past tells) (y : IsTrue told)
    (t : ℕ) (p : Pass C) (e : Standing) (h : ReadsAs tells state offers s p t e) (key : HasKey (view p) e) where
  abbrev g : Ground (List ℕ)
  g = basis tells state offers s

  abbrev r : Run (List ℕ)
  r = run_of (basis tells state offers s) told past

  -- as the tab's reader has it
  read_name : (side : Side) (n : ℕ) → Contains (view p).seen (Named e.anchor e.version side n) → Contains (view p).seen (Named h.reader.anchor h.reader.version side n)
  read_name side n seen = named_there e.anchor h.reader.anchor e.version h.reader.version n side (view p).seen (sym h.anchor_is) (sym h.version_is) seen

  within : e.anchor < g.setting.anchors
  within = subst (λ (a : ℕ). a < g.setting.anchors) h.anchor_is (inside g t (view p) h.own.stands (pass_of p) h.below h.reader h.is)

  old_word : (side : Side) (n : ℕ) → side ≢ Start → Contains (view p).seen (Named e.anchor e.version side n) → e.version ≤ opening_counter g.setting → word_in g.setting g.setting.words (Beside side e.anchor) ≡ n
  old_word side n ne seen low = subst (λ (a : ℕ). word_in g.setting g.setting.words (Beside side a) ≡ n) h.anchor_is
      (old_name g t (view p) h.own.stands (pass_of p) h.below h.reader h.is side n ne (read_name side n seen) (let v = h.version_is in omega arith))

  some_chain : e.version ≤ opening_counter g.setting → g.chain e.anchor ≢ []
  some_chain low = some_slots (g.chain e.anchor) (subst (λ (a : ℕ). 0 < length (g.chain a)) h.anchor_is (old_slots g t (view p) h.own.stands (pass_of p) h.below h.reader h.is (let v = h.version_is in omega arith)))

  is_offer : opening_counter g.setting < e.version → IsOfferFor g e.offer h.reader.anchor (front_half (key_of e.url)) (back_half (key_of e.url))
  is_offer high = offered_for g t (view p) h.own.stands (pass_of p) h.below h.reader h.is e.offer (front_half (key_of e.url)) (back_half (key_of e.url))
      (read_name Offer e.offer h.offer_seen) (read_name Key0 (front_half (key_of e.url)) key.front) (read_name Key1 (back_half (key_of e.url)) key.back) (let v = h.version_is in omega arith)

  module _ (none : (url body : List ℕ) → IsResponse g e.anchor e.offer url body → url ≢ e.url) where
    -- an entry of the opening
    of_old : e.version ≤ opening_counter g.setting → IsOtherUrl r e
    of_old low =
        let few : e.offer < g.setting.slots = old_offer g t (view p) h.own.stands (pass_of p) h.below h.reader h.is e.offer (read_name Offer e.offer h.offer_seen) (let v = h.version_is in omega arith) in
        let held = (so.file y).complete e.anchor within (some_chain low) in
        let opened : IsOpened g e.anchor e.offer held.0.url held.0.body = record { entry = held.0; complete = held.1; chain_is = held.2; url_is = refl; body_is = refl } in
        let offer = old_word Offer e.offer (λ z. cc) h.offer_seen low in
        let its = so.old y e.anchor e.offer held.0.url held.0.body within few offer opened in
        let halves = so.keyed y e.anchor e.offer held.0.url held.0.body within few offer opened in
        let url : r.url e.offer ≡ held.0.url = ap (λ (b : Bool). cond b (past.url e.offer) (url_of g e.offer)) (lt-ltb e.offer g.setting.slots few) ∙ its.0 in
        let same : key_of held.0.url ≡ key_of e.url = one_key held.0.url e.url
        (sym halves.0 ∙ old_word Key0 (front_half (key_of e.url)) (λ z. cc) key.front low) (sym halves.1 ∙ old_word Key1 (back_half (key_of e.url)) (λ z. cc) key.back low) in
        record {
          good = subst IsUrl (sym url) held.1.url;
          same_key = ap key_of url ∙ same;
          differs = λ z. none held.0.url held.0.body (record { old = λ _. opened; new = λ high. absurd (omega arith) }) (sym url ∙ z);
        }

    -- one of the origin's
    of_new : opening_counter g.setting < e.version → IsOtherUrl r e
    of_new high =
        let many : g.setting.slots ≤ e.offer = new_offer g t (view p) h.own.stands (pass_of p) h.below h.reader h.is e.offer (read_name Offer e.offer h.offer_seen) (let v = h.version_is in omega arith) in
        let fits = is_offer high in
        let url : r.url e.offer ≡ url_of g e.offer = new_url g told past e.offer many in
        let offered : IsOffered g e.anchor e.offer (url_of g e.offer) (g.offers.body (e.offer - g.setting.slots)) = record { url_is = refl; body_is = refl; short = fits.short } in
        record {
          good = subst IsUrl (sym url) fits.url;
          same_key = ap key_of url ∙ one_key (url_of g e.offer) e.url (sym fits.key0) (sym fits.key1);
          differs = λ z. none (url_of g e.offer) (g.offers.body (e.offer - g.setting.slots)) (record { old = λ low. absurd (omega arith); new = λ _. offered }) (sym url ∙ z);
        }

    pub other_url : IsOtherUrl r e
    other_url = ⊎_elim {C = IsOtherUrl r e}
        (λ (high : opening_counter g.setting < e.version). of_new high)
        (λ (low : e.version ≤ opening_counter g.setting). of_old low)
        (cases_lt (opening_counter g.setting) e.version)

-- what was seen of the key of an entry that was opened under its URL
pub entry_key : (r : Run (List ℕ)) (v : View (List ℕ)) (a opened : ℕ) (url : List ℕ) (e : Standing) → IsEntryAt r v a opened url → a ≡ e.anchor → version_of opened ≡ e.version → url ≡ e.url → HasKey v e
entry_key r v a opened url e entry anchor version same = record {
  front = subst (λ (u : List ℕ). Contains v.seen (Named e.anchor e.version Key0 (front_half (key_of u)))) same (named_there a e.anchor (version_of opened) e.version (front_half (key_of url)) Key0 v.seen anchor version entry.front);
  back = subst (λ (u : List ℕ). Contains v.seen (Named e.anchor e.version Key1 (back_half (key_of u)))) same (named_there a e.anchor (version_of opened) e.version (back_half (key_of url)) Key1 v.seen anchor version entry.back);
}

-- of the same offer and URL
pub other_on : (r : Run (List ℕ)) (e f : Standing) → f.offer ≡ e.offer → f.url ≡ e.url → IsOtherUrl r e → IsOtherUrl r f
other_on r e f offer url h = record {
  good = subst (λ (o : ℕ). IsUrl (r.url o)) (sym offer) h.good;
  same_key = ap (λ (o : ℕ). key_of (r.url o)) offer ∙ h.same_key ∙ ap key_of (sym url);
  differs = λ z. h.differs (ap r.url (sym offer) ∙ z ∙ url);
}
