-- A store that was opened over cells that tell what they hold: a new pass shows the plain store, and what else is asked of such a store holds.
use Rattle.std.proofs.Common.{Bool, Contains, List, ap, arith, cond, false, length, map, refl, subst, suc, sym, true, zero, ◌∙◌, ◌≡◌, ℕ}
use Rattle.std.proofs.lemmas.Bool.{false≢true}
use Rattle.std.specs.Prelude.{IsTrue, nat_lt, replicate, slice_index_or}
use Rattle.std.specs.Global.{Vec}
use Rattle.std.proofs.lemmas.List.{length-map}
use Rattle.std.proofs.lemmas.List.Elements.{All-contains, All-contains_itself, All-map, All-weaker}
use Rattle.rock_disk.specs.Cell.{CellState}
use Rattle.rock_disk.specs.Opened.{AreSlots}
use Rattle.rebuild_model.specs.declared.rebuilt.Rebuilt.{Rebuilt}
use Rattle.rebuild_model.specs.Image.{IsFile}
use Rattle.rebuild_model.specs.Rebuilt.{IsRebuilt}
use Rattle.core_model.specs.Tabs.{is_free, tab_at}
use Rattle.core_model.specs.declared.tab.Tab.{Tab}
use Rattle.core_model.specs.declared.tab.Tab.TheVariants as tab
use Rattle.core_model.specs.declared.view.View.{View}
use Rattle.core_model.proofs.SlotsOpened.{map_contains}
use Rattle.plain_model.specs.declared.store.Plain.{Plain}
use Rattle.plain_model.specs.declared.store.Tab.TheVariants.{Free}
use Rattle.plain_model.specs.Opening.{IsOpened, kept_of, opened}
use Rattle.store_rule.specs.declared.store.Pass.{Pass}
use Rattle.store_rule.specs.declared.store.Store.{Store}
use Rattle.store_rule.specs.Ground.{Ground, Offers}
use Rattle.store_rule.specs.Passes.{IsNewOf, basis, view}
use Rattle.store_rule.specs.Rebuilding.{chain_kept}
use Rattle.store_rule.specs.Setting.{image_in, shown}
use Rattle.rock_open.specs.Opening.{IsStoreOver}
use Rattle.rock_reader.specs.Responses.{HoldsFile}
use Rattle.plain_runs.specs.Shows.{ShowsTab}
use Rattle.plain_model.specs.Store.{tab_at as plain_tab}
use Rattle.plain_runs.specs.Words.{Knows, no_guests, whole_lot}
use Rattle.plain_runs.proofs.ShowingOthers.{within_free}
use Rattle.plain_runs.specs.Ends.{HasVersions, TellsPieces}
use Rattle.plain_runs.specs.Runs.{ShowsPlain}
use Rattle.plain_runs.proofs.AtAnchors.{OneKept, knows_opened, versions_there}

-- the law that a store that was opened with what a rebuild of its file kept holds the file
abbrev pub HoldsKept : Type 0
HoldsKept = (g : Ground (List ℕ)) (r : Rebuilt) → length g.setting.contents ≡ g.setting.slots
    → IsRebuilt g.slot g.setting.contents g.setting.anchors r → g.chain ≡ chain_kept r.winners g.setting.anchors → HoldsFile g

free_tab : (n t : ℕ) → slice_index_or (replicate n Free) t Free ≡ Free
free_tab zero t = refl
free_tab (suc n) zero = refl
free_tab (suc n) (suc t) = free_tab n t

free_there : {X : Type 0} → (n t : ℕ) → slice_index_or {A = Tab X} (replicate n tab.Free) t tab.Free ≡ tab.Free
free_there zero t = refl
free_there (suc n) zero = refl
free_there (suc n) (suc t) = free_there n t

first_hand : (b : Bool) → ◌≡◌ {A = ℕ} (cond b 0 0) 0
first_hand true = refl
first_hand false = refl

module _ {C O : Type 0} (tells : Bool) (state : C → CellState) (offers : O → Offers) (slot anchors passes : ℕ) (origin : O) (cells : List C) (s : Store C O) (ps : Vec (Pass C))
    (over : IsStoreOver tells state offers slot anchors passes origin cells s ps) (told : IsTrue tells) where
  abbrev g : Ground (List ℕ)
  g = basis tells state offers s

  -- what reads of the cells give
  abbrev images : List (List ℕ)
  images = map (λ c. (state c).now) cells

  contents_are : g.setting.contents ≡ images
  contents_are = over.contents ∙ ap (λ (b : Bool). map (λ c. (shown b state c).now) cells) told

  many : length images ≡ g.setting.slots
  many = length-map cells (λ (c : C). (state c).now) ∙ sym over.slots_are

  pub as_many : length g.setting.contents ≡ g.setting.slots
  as_many = ap length contents_are ∙ many

  -- the rebuild is one of these images
  rebuilt_here : IsRebuilt g.slot images g.setting.anchors over.rebuilt
  rebuilt_here = subst (λ (n : ℕ). IsRebuilt n images g.setting.anchors over.rebuilt) (sym over.slot_is)
      (subst (λ (n : ℕ). IsRebuilt slot images n over.rebuilt) (sym over.anchors_are)
      (subst (λ (xs : List (List ℕ)). IsRebuilt slot xs anchors over.rebuilt) (over.kept.told told) over.kept.rebuilt))

  -- The plain store that is opened on the file is there.
  pub opens : (plain : Plain) × IsOpened slot images anchors plain
  opens = let b = subst (λ (xs : List (List ℕ)). IsRebuilt slot xs anchors over.rebuilt) (over.kept.told told) over.kept.rebuilt in
      (opened anchors (map (kept_of images) b.entries) over.rebuilt.greatest, record { rebuilt = over.rebuilt; is = b; store = refl })

  pub tells_pieces : TellsPieces g
  tells_pieces p = ap (λ (b : Bool). image_in b g.offers g.setting.slots g.slot p) told

  pub holds_file : HoldsKept → HoldsFile g
  holds_file holds = holds g over.rebuilt as_many (subst (λ (xs : List (List ℕ)). IsRebuilt g.slot xs g.setting.anchors over.rebuilt) (sym contents_are) rebuilt_here) over.opened.chain

  module _ (as_wide : (c : C) → IsTrue tells → length (state c).now ≡ (state c).width) (slots : AreSlots slot (map state cells)) (one : OneKept) where
    wide_at : (c : C) → Contains cells c → length (state c).now ≡ slot
    wide_at c among = as_wide c told ∙ All-contains (λ (x : CellState). x.width ≡ slot) (map state cells) (state c) slots.wide (map_contains state cells c among)

    file_here : IsFile slot images
    file_here = record {
      few = (let n = slots.few in let a = length-map cells state in let b = length-map cells (λ (c : C). (state c).now) in omega arith);
      sized = (let z = slots.size.from in omega arith);
      wide = All-map (λ (image : List ℕ). length image ≡ slot) (λ (c : C). (state c).now) cells
          (All-weaker (Contains cells) (λ c. length (state c).now ≡ slot) wide_at cells (All-contains_itself cells));
    }

    file_is : IsFile g.slot images
    file_is = subst (λ (n : ℕ). IsFile n images) (sym over.slot_is) file_here

    pub has_versions : HasVersions g
    has_versions = versions_there g images over.rebuilt rebuilt_here over.opened many contents_are file_is 0 one over.rebuilt rebuilt_here

    module _ (p : Pass C) (new : IsNewOf tells state offers s p) (plain : Plain) (o : IsOpened slot images anchors plain) where
      opened_here : IsOpened g.slot images g.setting.anchors plain
      opened_here = subst (λ (n : ℕ). IsOpened n images g.setting.anchors plain) (sym over.slot_is)
          (subst (λ (n : ℕ). IsOpened slot images n plain) (sym over.anchors_are) o)

      abbrev first : Plain
      first = opened g.setting.anchors (map (kept_of images) opened_here.is.entries) opened_here.rebuilt.greatest

      knows_it : Knows g (λ v. v) (view p) first no_guests
      knows_it = subst (λ (v : View (List ℕ)). Knows g (λ v. v) v first no_guests) (sym new.fresh)
          (knows_opened g images over.rebuilt rebuilt_here over.opened many contents_are file_is (view p).pass one opened_here.rebuilt opened_here.is)

      pub new_free : (t : ℕ) → tab_at (view p) t ≡ tab.Free
      new_free t = ap (λ (v : View (List ℕ)). tab_at v t) new.fresh ∙ free_there 9 t

      shows_first : ShowsPlain tells state offers s p first
      shows_first = record {
        own = new.own;
        inner_free = ap is_free (new_free 8);
        knows = knows_it;
        hand = ap (λ (n : ℕ). cond (nat_lt n g.setting.anchors) n 0) new.hand ∙ first_hand (nat_lt 0 g.setting.anchors);
        eight = refl;
        tabs = λ t lt own. subst (ShowsTab tells state offers s (λ v. v) p first t) (sym (free_tab 8 t)) (new_free t);
        within = λ t lt own. within_free whole_lot (plain_tab first t) (free_tab 8 t);
        away = λ t lt no. absurd (false≢true (sym no));
      }

      pub shows_opened : ShowsPlain tells state offers s p plain
      shows_opened = subst (ShowsPlain tells state offers s p) (sym opened_here.store) shows_first
