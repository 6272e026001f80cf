-- The run of a store: what does not change while lines are served on it.
use Rattle.std.specs.Prelude.{Bool, IsTrue, List, cond, nat_lt, ◌-◌, ◌<◌, ◌≡◌, ℕ}
use Rattle.store_key.specs.Anchor.{back_half, front_half}
use Rattle.store_key.specs.Key.{key_of}
use Rattle.entry_cut.specs.Content.{room_of}
use Rattle.core_model.specs.Layout.{word_in}
use Rattle.core_model.specs.declared.moves.Side.TheVariants.{Key0, Key1, Offer}
use Rattle.core_model.specs.declared.view.Place.TheVariants.{Beside}
use Rattle.line_account.specs.Answers.{Run}
use Rattle.store_rule.specs.Ground.{Ground, fits, url_of}
use Rattle.rock_reader.specs.Responses.{HoldsFile, IsOpened}

-- what is said of the offers below the slots, which are those of entries of the opening
pub record Past : Type 0 where
  pub url : ℕ → List ℕ
  pub body : ℕ → List ℕ

module _ (g : Ground (List ℕ)) (told : Bool) (past : Past) where
  -- The run of a store with this ground: where `told` is false nothing is said of bytes. An offer from the slots on is the origin's.
  -- The run fits where the store does.
  abbrev pub run_of : Run (List ℕ)
  run_of = record {
    setting = g.setting;
    room = room_of g.slot;
    tells = told;
    fits = fits g;
    url = λ offer. cond (nat_lt offer g.setting.slots) (past.url offer) (url_of g offer);
    body = λ offer. cond (nat_lt offer g.setting.slots) (past.body offer) (g.offers.body (offer - g.setting.slots));
  }

  -- Where something is said of bytes, the cells tell what they hold, and the opening's entries were those of the file. Where an anchor had
  -- an offer below the slots then, this has the URL and the body of the entry that the anchor had, and the halves of the key of this URL
  -- stood beside the anchor. The size of a slot has 32 bits.
  pub record IsTold (tells : Bool) : Type 0 where
    pub cells : IsTrue told → IsTrue tells
    pub file : IsTrue told → HoldsFile g
    pub old : IsTrue told → (a offer : ℕ) (url body : List ℕ) → a < g.setting.anchors → offer < g.setting.slots
        → word_in g.setting g.setting.words (Beside Offer a) ≡ offer
        → IsOpened g a offer url body → (past.url offer ≡ url) × (past.body offer ≡ body)
    pub keyed : IsTrue told → (a offer : ℕ) (url body : List ℕ) → a < g.setting.anchors → offer < g.setting.slots
        → word_in g.setting g.setting.words (Beside Offer a) ≡ offer
        → IsOpened g a offer url body
        → (word_in g.setting g.setting.words (Beside Key0 a) ≡ front_half (key_of url))
        × (word_in g.setting g.setting.words (Beside Key1 a) ≡ back_half (key_of url))
    pub small : g.slot < 4294967296
