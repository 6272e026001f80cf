-- A store that was opened over cells: what its anchors had, and its past.
use Rattle.std.proofs.Common.{Bool, List, ap, length, map, subst, sym, ◌<◌, ◌≡◌, ◌⊎◌, ◌∙◌, ℕ}
use Rattle.std.specs.Prelude.{IsTrue}
use Rattle.std.specs.Global.{Vec}
use Rattle.rock_disk.specs.Cell.{CellState}
use Rattle.rebuild_model.specs.Entry.{Entry}
use Rattle.rebuild_model.specs.Rebuilt.{IsRebuilt, IsWinner}
use Rattle.line_account.specs.Printed.{HadEntry}
use Rattle.store_rule.specs.declared.store.Pass.{Pass}
use Rattle.store_rule.specs.declared.store.Store.{Store}
use Rattle.store_rule.specs.Ground.{Ground, Offers}
use Rattle.store_rule.specs.Passes.{basis}
use Rattle.store_rule.specs.Setting.{shown}
use Rattle.rock_open.specs.Opening.{IsStoreOver}
use Rattle.crew_accounts.specs.Runs.{IsTold, Past, run_of}
use Rattle.crew_accounts.specs.Openings.{HadKept, HadNone, HasPast, IsOldEntry, OpenedAsKept}
use Rattle.crew_accounts.proofs.AtAnchors.{OneKept, had}
use Rattle.crew_accounts.proofs.OldEntries.{old_entry}
use Rattle.crew_accounts.proofs.Pasts.{HoldsKept, OneBegins, holds_here, kept_begun, keyed_there, past_of, told_there}

module _ {C O : Type 0} (tells : Bool) (state : C → CellState) (offers : O → Offers) (slot anchors passes : ℕ) (origin : O) (cells : List C)
    (s : Store C O) (ps : Vec (Pass C)) (over : IsStoreOver tells state offers slot anchors passes origin cells s ps) where
  abbrev g : Ground (List ℕ)
  g = basis tells state offers s

  -- the images of the rebuild
  abbrev xs : List (List ℕ)
  xs = over.kept.images

  as_many : length xs ≡ g.setting.slots
  as_many = over.kept.many ∙ sym over.slots_are

  each_had : (a : ℕ) → a < anchors → HadKept g slot anchors xs a ⊎ HadNone g slot anchors xs a
  each_had = subst (λ (n : ℕ). (a : ℕ) → a < n → HadKept g slot n xs a ⊎ HadNone g slot n xs a) over.anchors_are
      (had g slot xs over.rebuilt (subst (λ (n : ℕ). IsRebuilt slot xs n over.rebuilt) (sym over.anchors_are) over.kept.rebuilt) over.opened as_many)

  pub opened_as_kept : OpenedAsKept tells state g slot anchors cells
  opened_as_kept = record { rebuilt = over.rebuilt; kept = over.kept; each = each_had; counter = over.opened.opened.counter }

  -- where the cells tell, the images are what they hold
  contents_are : IsTrue tells → g.setting.contents ≡ xs
  contents_are t = over.contents ∙ ap (λ (b : Bool). map (λ c. (shown b state c).now) cells) t ∙ sym (over.kept.told t)

  module _ (begins : OneBegins) (one : OneKept) (holds : HoldsKept) (small : slot < 4294967296) where
    abbrev past_here : Past
    past_here = past_of over.kept.rebuilt.entries

    told_here : IsTold g tells past_here tells
    told_here = let b = over.kept.rebuilt in record {
      cells = λ t. t;
      file = λ t. holds_here begins one g slot anchors xs over.rebuilt b each_had over.slot_is over.anchors_are (contents_are t) holds as_many over.opened.chain;
      old = λ t a offer url body lt low is was.
          told_there begins one g slot anchors xs over.rebuilt b each_had over.slot_is over.anchors_are (contents_are t) a offer url body lt was is;
      keyed = λ t a offer url body lt low is was.
          keyed_there begins one g slot anchors xs over.rebuilt b each_had over.slot_is over.anchors_are (contents_are t) a offer url body lt was;
      small = subst (λ (n : ℕ). n < 4294967296) (sym over.slot_is) small;
    }

    kept_here : (a : ℕ) (e : Entry) → IsWinner slot xs anchors a e → (past_here.url e.first ≡ e.url) × (past_here.body e.first ≡ e.body)
    kept_here a e won = let is = kept_begun begins one slot xs anchors a over.rebuilt over.kept.rebuilt e won in (ap Entry.url is, ap Entry.body is)

    old_here : (a : ℕ) → a < anchors → HadEntry (run_of g tells past_here) a → IsOldEntry (run_of g tells past_here) slot xs a
    old_here a lt there = old_entry g tells past_here slot anchors xs a (each_had a lt) (λ h. kept_here a h.entry h.winner) there

    pub has_past : HasPast tells state offers slot anchors cells s
    has_past = record {
      past = past_here;
      told = told_here;
      winners = λ t a e won. kept_here a e (subst (λ (ys : List (List ℕ)). IsWinner slot ys anchors a e) (sym (over.kept.told t)) won);
      old = λ t a lt there. subst (λ (ys : List (List ℕ)). IsOldEntry (run_of g tells past_here) slot ys a) (over.kept.told t) (old_here a lt there);
    }
