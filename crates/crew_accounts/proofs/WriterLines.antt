-- What the line is that writes on a tab.
use Rattle.std.proofs.Common.{Bool, Contains, List, Some, subst, true, ◌+◌, ◌≡◌, ℕ}
use Rattle.rock_disk.specs.Cell.{CellState}
use Rattle.store_key.specs.Anchor.{back_half, front_half}
use Rattle.store_key.specs.Key.{key_of}
use Rattle.core_model.specs.declared.moves.Side.TheVariants.{Key0, Key1, Offer}
use Rattle.core_model.specs.declared.view.Sight.TheVariants.{Named}
use Rattle.core_model.specs.declared.view.View.{View}
use Rattle.line_account.specs.Accounts.{HasGivenUp}
use Rattle.line_account.specs.Deeds.{Grows, Halts, IsNamed}
use Rattle.script_text.specs.Requests.{url_in}
use Rattle.line_account.specs.Lines.{IsAnchorOf, Served, Writes, begun_by, gives_up}
use Rattle.store_rule.specs.declared.store.Pass.{Pass}
use Rattle.store_rule.specs.declared.store.Store.{Store}
use Rattle.store_rule.specs.Ground.{Ground, Offers, anchor_for, url_of}
use Rattle.store_rule.specs.Passes.{basis}
use Rattle.rock_writer.specs.Entries.{Entry}
use Rattle.store_serve.specs.Deeds.{HasNames, name_of}
use Rattle.crew_accounts.specs.Runs.{Past}
use Rattle.crew_accounts.specs.Tracks.{IsWriter}
use Rattle.crew_accounts.proofs.Halting.{SeenHalted}

-- the entry of a writing, with the line that began it
pub record IsBegunBy (g : Ground (List ℕ)) (e : Entry) (first : Served) : Type 0 where
  pub url : List ℕ
  pub named : url_in first.asked.request ≡ Some url
  pub offer : e.offer ≡ g.setting.slots + first.asked.number
  pub url_is : url_of g e.offer ≡ url
  pub anchor : e.anchor ≡ anchor_for g url
  pub drew : first.drew ≡ Some e.version

module _ (g : Ground (List ℕ)) (e : Entry) (first : Served) (h : IsBegunBy g e first) where
  pub anchor_is : IsAnchorOf g.setting.anchors (url_in first.asked.request) e.anchor
  anchor_is = record { url = h.url; named_is = h.named; anchor = h.anchor }

  module _ (earlier : List Served) (l : Served) (begun : begun_by earlier l ≡ Some first) where
    abbrev pub writes : Writes g.setting.anchors earlier l e.anchor e.version
    writes = record { first = first; begun_is = begun; drew = h.drew; anchor = anchor_is }

    pub named : (v : View (List ℕ)) → HasNames (name_of g e) v.seen → IsNamed g.setting v e.anchor e.version first
    named v k = record {
      url = h.url;
      url_is = h.named;
      key0 = subst (λ (u : List ℕ). Contains v.seen (Named e.anchor e.version Key0 (front_half (key_of u)))) h.url_is k.key0;
      key1 = subst (λ (u : List ℕ). Contains v.seen (Named e.anchor e.version Key1 (back_half (key_of u)))) h.url_is k.key1;
      offer = subst (λ (n : ℕ). Contains v.seen (Named e.anchor e.version Offer n)) h.offer k.offer;
    }

    pub grows : (v : View (List ℕ)) → HasNames (name_of g e) v.seen → Grows g.setting v earlier l e.anchor e.version
    grows v k = record { writes = writes; named = named v k }

    pub halts : gives_up l.answer ≡ true → Halts g.setting.anchors earlier l e.anchor e.version
    halts up = record { writes = writes; gave_up = up }

    pub given_up : (v : View (List ℕ)) → SeenHalted (name_of g e) v.seen → HasGivenUp g.setting.anchors v earlier l
    given_up v k = record { anchor = e.anchor; version = e.version; writes = writes; epoch = k.epoch; version_is = k.version_is; halted = k.halted; seen = k.seen }

-- that of a tab that writes
module _ {C O : Type 0} (tells : Bool) (state : C → CellState) (offers : O → Offers) (s : Store C O) (told : Bool) (past : Past) (served : List Served) (p : Pass C) (t : ℕ) where
  abbrev pub begun_by_first : (h : IsWriter tells state offers s told past served p t) → IsBegunBy (basis tells state offers s) h.entry h.first
  begun_by_first h = record { url = h.url; named = h.named; offer = h.offer; url_is = h.url_is; anchor = h.anchor; drew = h.drew }
