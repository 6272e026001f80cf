-- A hit is of a whole entry.
use Rattle.std.proofs.Common.{◌≡◌, ◌⊎◌, inl, inr, ◌∙◌, ℕ, List, refl, sym, ap, drop, Bool, true, false}
use Rattle.std.specs.Prelude.{Option, Some, None, not}
use Rattle.std.specs.Str.{bytes_eq}
use Rattle.std.proofs.lemmas.Slice.Eq.{bytes_eq-Decides}
use Rattle.store_key.specs.Key.{key_of}
use Rattle.store_key.specs.Anchor.{anchor_of}
use Rattle.lock_word.specs.declared.epoch.Epoch.{Epoch}
use Rattle.script_text.specs.declared.answer.Answer.{Answer}
use Rattle.script_text.specs.declared.answer.Answer.TheVariants as answer
use Rattle.plain_model.specs.declared.entry.Life.{Life}
use Rattle.plain_model.specs.declared.entry.Life.TheVariants.{Growing, Whole, GivenUp}
use Rattle.plain_model.specs.declared.entry.Entry.{Entry}
use Rattle.plain_model.specs.declared.store.Setting.{Setting}
use Rattle.plain_model.specs.declared.store.Tab.{Tab}
use Rattle.plain_model.specs.declared.store.Tab.TheVariants.{Free, Writing, Reading}
use Rattle.plain_model.specs.declared.store.Plain.{Plain}
use Rattle.plain_model.specs.Store.{place_at, entry_at, tab_at, with_tab, epoch_of, available}
use Rattle.plain_model.specs.Reading.{has_url, told, more}
use Rattle.plain_model.specs.Serving.{hit_by, get}
use Rattle.plain_laws.specs.Hit.{IsHit}
use Rattle.plain_laws.proofs.Looking.{Opens, opens}
use Rattle.plain_laws.proofs.Beginning.{set_here}

-- what a hit was before it was told as one
ended : (version v : ℕ) (bytes : List ℕ) (a : Answer) → hit_by version a ≡ answer.Hit v bytes → (a ≡ answer.Hit v bytes) ⊎ ((a ≡ answer.End bytes) × (version ≡ v))
ended version v bytes (answer.End given) e = inr ((cc), (cc))
ended version v bytes a e = inl (cc)

record IsEnd (s : Setting) (q : Plain) (bytes : List ℕ) : Type 0 where
  anchor : ℕ
  given : ℕ
  reads : tab_at q 7 ≡ Reading anchor given false
  entry : Entry
  there : entry_at q anchor ≡ Some entry
  whole : entry.life ≡ Whole
  body : bytes ≡ drop given entry.body

told_end : (room given : ℕ) (epoch : Epoch) (x : Entry) (bytes : List ℕ) (life : Life) → x.life ≡ life → told x.life epoch (drop given (available room x)) ≡ answer.End bytes
    → (x.life ≡ Whole) × (bytes ≡ drop given x.body)
told_end room given epoch x bytes Whole l e = let k : answer.End (drop given x.body) ≡ answer.End bytes = rw l at e in (l, (cc))
told_end room given epoch x bytes Growing l e =
    let k : told Growing epoch (drop given (available room x)) ≡ answer.End bytes = sym (ap (λ (y : Life). told y epoch (drop given (available room x))) l) ∙ e in cc
told_end room given epoch x bytes GivenUp l e =
    let k : told GivenUp epoch (drop given (available room x)) ≡ answer.End bytes = sym (ap (λ (y : Life). told y epoch (drop given (available room x))) l) ∙ e in cc

end_to : (s : Setting) (q : Plain) (bytes : List ℕ) (a given : ℕ) (o : Option Entry) → entry_at q a ≡ o → tab_at q 7 ≡ Reading a given false → (more s 7 q).answer ≡ answer.End bytes → IsEnd s q bytes
end_to s q bytes a given None e t is = let k : answer.Tab ≡ answer.End bytes = rw e at (rw t at is) in cc
end_to s q bytes a given (Some x) e t is =
    let k : told x.life (epoch_of s.room (place_at q a)) (drop given (available s.room x)) ≡ answer.End bytes = rw e at (rw t at is) in
    let w = told_end s.room given (epoch_of s.room (place_at q a)) x bytes x.life refl k in
    record { anchor = a; given = given; reads = t; entry = x; there = e; whole = w.0; body = w.1 }

end_of : (s : Setting) (q : Plain) (bytes : List ℕ) (t : Tab) → tab_at q 7 ≡ t → (more s 7 q).answer ≡ answer.End bytes → IsEnd s q bytes
end_of s q bytes Free t is = let k : answer.Tab ≡ answer.End bytes = rw t at is in cc
end_of s q bytes (Writing a) t is = let k : answer.Tab ≡ answer.End bytes = rw t at is in cc
end_of s q bytes (Reading a given true) t is = let k : answer.OtherUrl ≡ answer.End bytes = rw t at is in cc
end_of s q bytes (Reading a given false) t is = end_to s q bytes a given (entry_at q a) refl t is

-- reading never tells a hit by itself
told_no_hit : (life : Life) (epoch : Epoch) (bytes given : List ℕ) (v : ℕ) → told life epoch bytes ≡ answer.Hit v given → ⊥
told_no_hit Growing epoch bytes given v e = cc
told_no_hit Whole epoch bytes given v e = cc
told_no_hit GivenUp epoch bytes given v e = cc

no_hit_to : (s : Setting) (q : Plain) (v : ℕ) (bytes : List ℕ) (a given : ℕ) (o : Option Entry) → entry_at q a ≡ o → tab_at q 7 ≡ Reading a given false → (more s 7 q).answer ≡ answer.Hit v bytes → ⊥
no_hit_to s q v bytes a given None e t is = let k : answer.Tab ≡ answer.Hit v bytes = rw e at (rw t at is) in cc
no_hit_to s q v bytes a given (Some x) e t is = told_no_hit x.life (epoch_of s.room (place_at q a)) (drop given (available s.room x)) bytes v (rw e at (rw t at is))

no_hit : (s : Setting) (q : Plain) (v : ℕ) (bytes : List ℕ) (t : Tab) → tab_at q 7 ≡ t → (more s 7 q).answer ≡ answer.Hit v bytes → ⊥
no_hit s q v bytes Free t is = let k : answer.Tab ≡ answer.Hit v bytes = rw t at is in cc
no_hit s q v bytes (Writing a) t is = let k : answer.Tab ≡ answer.Hit v bytes = rw t at is in cc
no_hit s q v bytes (Reading a given true) t is = let k : answer.OtherUrl ≡ answer.Hit v bytes = rw t at is in cc
no_hit s q v bytes (Reading a given false) t is = no_hit_to s q v bytes a given (entry_at q a) refl t is

-- the reading tab is the one that was opened
one_reader : (a b given : ℕ) (other : Bool) (t : Tab) → t ≡ Reading b given false → (t ≡ Reading a 0 other) ⊎ (t ≡ Free) → (a ≡ b) × (given ≡ 0) × (other ≡ false)
one_reader a b given other t e (inl h) = let k : Reading a 0 other ≡ Reading b given false = sym h ∙ e in ((cc), (cc), (cc))
one_reader a b given other t e (inr h) = let k : Free ≡ Reading b given false = sym h ∙ e in cc

same_url : (url : List ℕ) (o : Option Entry) (e : Entry) → o ≡ Some e → not (has_url url o) ≡ false → e.url ≡ url
same_url url o e is h = by_test (bytes_eq e.url url) refl
  where
    by_test : (b : Bool) → bytes_eq e.url url ≡ b → e.url ≡ url
    by_test true t = (bytes_eq-Decides e.url url).0 t
    by_test false t = let k : true ≡ false = rw t at (rw is at h) in cc

hit_of_end : (s : Setting) (url : List ℕ) (p : Plain) (version : ℕ) (bytes : List ℕ) (anchor : ℕ) → anchor ≡ anchor_of (key_of url) s.anchors
    → (place_at p anchor).version ≡ version → IsEnd s (with_tab p 7 (Reading anchor 0 (not (has_url url (entry_at p anchor))))) bytes → IsHit s p url version bytes
hit_of_end s url p version bytes anchor at is h =
    let one = one_reader anchor h.anchor h.given (not (has_url url (entry_at p anchor))) (tab_at (with_tab p 7 (Reading anchor 0 (not (has_url url (entry_at p anchor))))) 7) h.reads (set_here p.tabs 7 (Reading anchor 0 (not (has_url url (entry_at p anchor)))) Free) in
    let there : entry_at p anchor ≡ Some h.entry = ap (λ (a : ℕ). entry_at p a) one.0 ∙ h.there in
    record {
      entry = h.entry;
      there = ap (λ (a : ℕ). entry_at p a) (sym at) ∙ there;
      whole = h.whole;
      has_url = same_url url (entry_at p anchor) h.entry there one.2;
      is_version = sym is ∙ ap (λ (a : ℕ). (place_at p a).version) at;
      body = h.body ∙ ap (λ (n : ℕ). drop n h.entry.body) one.1;
    }

hit_by_opening : (s : Setting) (url : List ℕ) (p : Plain) (version : ℕ) (bytes : List ℕ) → Opens s url p → (get s url p).answer ≡ answer.Hit version bytes → IsHit s p url version bytes
hit_by_opening s url p version bytes (Opens.missed cause e) is = let k : answer.Miss cause ≡ answer.Hit version bytes = rw e at is in cc
hit_by_opening s url p version bytes (Opens.in_use e) is = let k : answer.Tab ≡ answer.Hit version bytes = rw e at is in cc
hit_by_opening s url p version bytes (Opens.opened j t e) is = by_end (ended (place_at p anchor).version version bytes (more s 7 q).answer (rw e at is))
  where
    anchor : ℕ
    anchor = anchor_of (key_of url) s.anchors

    q : Plain
    q = with_tab p 7 (Reading anchor 0 (not (has_url url (entry_at p anchor))))

    by_end : ((more s 7 q).answer ≡ answer.Hit version bytes) ⊎ (((more s 7 q).answer ≡ answer.End bytes) × ((place_at p anchor).version ≡ version)) → IsHit s p url version bytes
    by_end (inl h) = absurd (no_hit s q version bytes (tab_at q 7) refl h)
    by_end (inr h) = hit_of_end s url p version bytes anchor refl h.1 (end_of s q bytes (tab_at q 7) refl h.0)

pub hit : (s : Setting) (url : List ℕ) (p : Plain) (version : ℕ) (bytes : List ℕ) → (get s url p).answer ≡ answer.Hit version bytes → IsHit s p url version bytes
hit s url p version bytes is = hit_by_opening s url p version bytes (opens s url p (tab_at p 7) refl) is
