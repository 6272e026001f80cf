-- What a worker comes to that is alone at its anchors: its answers, and what stands there when the store was closed.
use Rattle.std.specs.Prelude.{Bool, List, true, ◌&&◌, ◌<◌, ◌≡◌, ℕ}
use Rattle.std.specs.List.{range_with_len}
use Rattle.lock_word.specs.Words.{word_number}
use Rattle.script_text.specs.declared.answer.Answer.{Answer}
use Rattle.script_text.specs.declared.line.Line.{Line}
use Rattle.plain_model.specs.declared.store.Plain.{Plain}
use Rattle.plain_model.specs.declared.store.Setting.{Setting}
use Rattle.plain_model.specs.Serving.{after, leave_all}
use Rattle.plain_model.specs.Store.{word_at}
use Rattle.plain_laws.specs.Private.{IsServedAlone, is_private_anchor, private_lines}
use Rattle.plain_laws.specs.Renaming.{renamed_word}
use Rattle.store_rule.specs.Ground.{Ground, left_to}
use Rattle.plain_runs.specs.Ends.{HoldsWholeAt}
use Rattle.plain_runs.specs.Words.{setting_of}

-- what the private lines of a worker leave of the plain store by themselves, once all its tabs were left
abbrev pub left_alone : Setting → List Line → (worker : ℕ) → Plain → Plain
left_alone s script worker p = leave_all (range_with_len 0 8) (after s script (private_lines s script worker) p)

-- the anchor is private to the worker, and left to the pass
abbrev pub left_private : {X : Type 0} → Ground X → List Line → (worker pass : ℕ) → ℕ → Bool
left_private g script worker pass a = left_to g pass a && is_private_anchor (setting_of g) script worker a

-- At these anchors the words are those of the plain store, but for versions.
abbrev pub EndedAs : Setting → (here : ℕ → Bool) → (rename : ℕ → ℕ) → Plain → (last : ℕ → ℕ) → Type 0
EndedAs s here rename p last = (a : ℕ) → a < s.anchors → here a ≡ true → last a ≡ word_number (renamed_word rename (word_at s p a))

-- A worker was given these answers, and when the store was closed these were the words of the anchors, and the images of the slots. Its
-- private lines were answered as by a plain store of its own, and what they leave of that, its tabs left, stands at its anchors: its
-- whole entries at some, and its words at some. One function names all versions anew.
pub record IsPrivateRun (slot : ℕ) (s : Setting) (script : List Line) (worker : ℕ) (plain : Plain) (given : List Answer)
    (for_entries for_words : ℕ → Bool) (last : ℕ → ℕ) (images : List (List ℕ)) : Type 0 where
  -- it was served alone
  pub served : IsServedAlone s script worker plain given
  -- each entry that is whole there is complete in the images, under its URL, with its body
  pub entries : HoldsWholeAt slot s.anchors images for_entries served.rename (left_alone s script worker plain)
  -- and each of these anchors had the word of that store
  pub ended : EndedAs s for_words served.rename (left_alone s script worker plain) last
