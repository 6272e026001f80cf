-- An entry whose first slot was wiped is in nothing that a crash leaves.
use Rattle.std.proofs.Common.{◌≡◌, ◌<◌, ◌≤◌, ◌^◌, ℕ, List, Bool, IsTrue, Contains, length, map, arith}
use mathlib.Core.Option.{some}
use lib.ListN.{get_elem?}
use Rattle.std.specs.Global.{Vec}
use Rattle.rock_disk.specs.Cell.{CellState}
use Rattle.rock_disk.specs.Crash.{IsCrashImage}
use Rattle.core_model.specs.declared.view.Sight.TheVariants.{Wiped}
use Rattle.core_model.specs.declared.view.View.{View}
use Rattle.core_model.specs.State.{State}
use Rattle.core_log.specs.Seen.{IsSeen}
use Rattle.crash_entries.proofs.Telling.{Tools}
use Rattle.store_rule.specs.declared.store.Pass.{Pass}
use Rattle.store_rule.specs.declared.store.Store.{Store}
use Rattle.store_rule.specs.Closing.{Closed}
use Rattle.store_rule.specs.Ground.{Ground, Offers, Rule}
use Rattle.store_rule.specs.Passes.{basis}
use Rattle.rock_open.specs.Opening.{IsStoreOver}
use Rattle.wiped_entries.specs.Now.{IsLeftNow}
use Rattle.wiped_entries.proofs.Gone.{begun, new_gone}
use Rattle.crashed_stores.specs.Gone.{HaveNone}
use Rattle.crashed_stores.specs.Left.{bytes_now, offers_in}
use Rattle.crashed_stores.proofs.Closed.{told_now}
use Rattle.crashed_stores.proofs.Over.{is_file, keeps}

module _ {C O : Type 0} (tells : Bool) (told : IsTrue tells) (cell : C → CellState) (offers : O → Offers) (slot anchors many : ℕ) (origin : O) (cells : List C) (store : Store C O) (passes : Vec (Pass C))
    (over : IsStoreOver tells cell offers slot anchors many origin cells store passes) where
  abbrev g : Ground (List ℕ)
  g = basis tells cell offers store

  pub wiped_gone : (s : State (List ℕ)) (rule : Rule g s) (t : Tools) → slot < 2 ^ 32 → length cells ≤ 1048576 → (images : List (List ℕ)) → IsLeftNow g.setting (λ x. x) s images → (a version wiped : ℕ)
      → IsSeen s.views (Wiped a version wiped) → HaveNone slot g version wiped images
  wiped_gone s rule t sized few images left a version wiped seen =
      let fits = over.slots_are in
      let file = is_file tells told cell offers slot anchors many origin cells store passes over in
      let kept = keeps tells told cell offers slot anchors many origin cells store passes over s rule in
      let wipes = rule.wiped rule.logged.log rule.logged.stands.of in record {
        begun = λ e c. begun t slot (offers_in g) g.setting (λ x. x) (bytes_now cell cells) s rule.logged.log sized (omega arith) file rule.sound rule.logged.stands kept wipes images left a version wiped seen e c;
        new = λ above e c. new_gone t slot (offers_in g) g.setting (λ x. x) (bytes_now cell cells) s rule.logged.log sized (omega arith) file rule.sound rule.logged.stands kept wipes images left a version wiped seen e c above;
      }

  pub closed_gone : (views : List (View (List ℕ))) (left : List C) (closed : Closed tells cell g views left) (t : Tools) → slot < 2 ^ 32 → length cells ≤ 1048576 → (images : List (List ℕ)) → IsCrashImage (map cell left) images
      → (v : View (List ℕ)) (j a version wiped : ℕ) → get_elem? views j ≡ some v → Contains v.seen (Wiped a version wiped) → HaveNone slot g version wiped images
  closed_gone views left closed t sized few images after v j a version wiped at seen = wiped_gone closed.gathered.state closed.gathered.rule t sized few images
      (told_now tells told cell g views left closed images after) a version wiped record { i = closed.gathered.index j; view = v; at = closed.gathered.at j v at; seen = seen }
