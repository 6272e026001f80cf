-- Marks change nothing of what a pass shows.
use Rattle.std.proofs.Common.{Contains, Bool, List, [], ap, arith, cond, refl, subst, sym, true, ◌<◌, ◌∷◌, ◌≡◌, ◌∙◌, ℕ}
use Rattle.std.proofs.lemmas.Bool.{false≢true}
use Rattle.std.proofs.lemmas.List.Elements.{Contains-append_right}
use Rattle.rock_disk.specs.Cell.{CellState}
use Rattle.core_alone.specs.Alone.{is_unlinked}
use Rattle.core_alone.proofs.Renewed.{TellsNoLink}
use Rattle.core_model.specs.Deeds.{mirrored}
use Rattle.core_model.specs.Layout.{index}
use Rattle.core_model.specs.TableForms.{learns}
use Rattle.core_model.specs.Tabs.{inner, is_free, tab_at}
use Rattle.core_model.specs.declared.view.Item.{Item}
use Rattle.core_model.specs.declared.view.Place.{Place}
use Rattle.core_model.specs.declared.view.Place.TheVariants.{Link}
use Rattle.core_model.specs.declared.view.Sight.{Sight}
use Rattle.core_model.specs.declared.view.View.{View}
use Rattle.plain_model.specs.declared.store.Plain.{Plain}
use Rattle.plain_model.specs.declared.store.Tab.{Tab}
use Rattle.plain_model.specs.declared.store.Tab.TheVariants.{Free, Reading, Writing}
use Rattle.plain_model.specs.Store.{tab_at as plain_tab}
use Rattle.tab_states.specs.declared.desks.Desk.{Desk}
use Rattle.store_rule.specs.declared.store.Pass.{Pass}
use Rattle.store_rule.specs.declared.store.Store.{Store}
use Rattle.tab_states.specs.Desks.{buffer_at, draft_at}
use Rattle.store_rule.specs.Ground.{Ground, Offers}
use Rattle.store_rule.specs.Passes.{Keeps, basis, view}
use Rattle.store_rule.specs.Words.{has}
use Rattle.store_serve.specs.Tabs.{IsFree, Leaves}
use Rattle.worker_shelf.proofs.Holding.{Stays}
use Rattle.plain_runs.specs.Shows.{ShowsTab}
use Rattle.plain_runs.specs.Words.{Knows, no_guests}
use Rattle.plain_runs.proofs.Frames.{knows_same}
use Rattle.plain_runs.specs.Runs.{ShowsPlain}

-- what a pass has of a word stays where it learns, by an item that is of no link
pub has_still : {X : Type 0} → (g : Ground X) (v : View X) (sights : List Sight) (item : Item) → TellsNoLink item.kind → (q : Place) → has g (learns v sights item) q ≡ has g v q
has_still g v sights item quiet (Link slot) =
    ap (λ (z : Bool). cond z 0 (mirrored g.setting (index g.setting (Link slot)) v.mirror)) same
  where
    same : is_unlinked slot (item ∷ v.trail) ≡ is_unlinked slot v.trail
    same = rw (quiet.not_owned, quiet.not_on_link) refl
has_still g v sights item quiet q = refl

module _ {C O : Type 0} (tells : Bool) (state : C → CellState) (offers : O → Offers) (s : Store C O) where
  -- the pass has seen more, and stands otherwise as it did
  pub record SeesMore (p q : Pass C) : Type 0 where
    pub keeps : Keeps tells state offers s p q
    pub sights : List Sight
    pub item : Item
    pub view_is : view q ≡ learns (view p) sights item
    pub quiet : TellsNoLink item.kind

  module _ (stays : Stays tells state offers s) (p q : Pass C) (more : SeesMore p q) where
    same_tab : (t : ℕ) → tab_at (view q) t ≡ tab_at (view p) t
    same_tab t = ap (λ (v : View (List ℕ)). tab_at v t) more.view_is

    pub free_still : (t : ℕ) → IsFree p t → IsFree q t
    free_still t free = same_tab t ∙ free

    -- no tab has changed, so each tab below the inner one is another than this
    pub leaves_all : is_free (tab_at (view p) inner) ≡ true → Leaves tells state offers s 9 p q
    leaves_all free = record {
      own = more.keeps.own;
      inner_free = ap is_free (same_tab inner) ∙ free;
      others = λ j ne far. same_tab j;
      desks = λ j ne far. (ap (λ (ds : List Desk). buffer_at ds j) more.keeps.desks, ap (λ (ds : List Desk). draft_at ds j) more.keeps.desks);
      keeps = record {
        pass = ap View.pass more.view_is;
        seen = λ x h. subst (λ (v : View (List ℕ)). Contains v.seen x) (sym more.view_is) (Contains-append_right more.sights (view p).seen x h);
        trail = (more.item ∷ [], ap View.trail more.view_is);
        met = λ a h. subst (λ (v : View (List ℕ)). Contains v.met a) (sym more.view_is) h;
      };
      places = more.keeps.places;
      cells = more.keeps.cells;
    }

    module _ (plain : Plain) (shows : ShowsPlain tells state offers s p plain) where
      abbrev leaves : Leaves tells state offers s 9 p q
      leaves = leaves_all shows.inner_free

      tab_still : (t : ℕ) → t < 8 → (tab : Tab) → ShowsTab tells state offers s (λ v. v) p plain t tab → ShowsTab tells state offers s (λ v. v) q plain t tab
      tab_still t lt Free h = free_still t h
      tab_still t lt (Writing a) h = record {
        inside = h.inside;
        entry = h.entry;
        there = h.there;
        grows = h.grows;
        written = h.written;
        writes = stays.writes p q 9 t h.written leaves (λ e. omega arith) h.writes;
        anchor_is = h.anchor_is;
        version_is = h.version_is;
        offer_is = h.offer_is;
        size = h.size;
      }
      tab_still t lt (Reading a given is_other) h = record {
        inside = h.inside;
        entry = h.entry;
        there = h.there;
        standing = h.standing;
        reads = stays.reads p q 9 t h.standing leaves (λ e. omega arith) h.reads;
        anchor_is = h.anchor_is;
        version_is = h.version_is;
        offer_is = h.offer_is;
        key_is = h.key_is;
        other_is = h.other_is;
        turned = h.turned;
        unread = h.unread;
        given_is = h.given_is;
      }

      pub shows_still : ShowsPlain tells state offers s q plain
      shows_still = record {
        own = more.keeps.own;
        inner_free = leaves.inner_free;
        knows = knows_more;
        hand = (cc (more.keeps.hand, shows.hand));
        eight = shows.eight;
        tabs = λ t lt own. tab_still t lt (plain_tab plain t) (shows.tabs t lt own);
        within = shows.within;
        away = λ t lt no. absurd (false≢true (sym no));
      }
        where
          -- no word has changed
          knows_more : Knows (basis tells state offers s) (λ v. v) (view q) plain no_guests
          knows_more = subst (λ (v : View (List ℕ)). Knows (basis tells state offers s) (λ v. v) v plain no_guests) (sym more.view_is)
              (knows_same (basis tells state offers s) (λ v. v) (view p) (learns (view p) more.sights more.item) plain no_guests shows.knows record { same = λ place known here none. has_still (basis tells state offers s) (view p) more.sights more.item more.quiet place })
