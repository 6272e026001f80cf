-- Shelves leave their tabs, one after another.
use Rattle.std.proofs.Common.{◌≡◌, ◌≢◌, ℕ, ◌+◌, ◌<◌, ◌≤◌, List, length, get_or, set, sym, refl, ◌∙◌, subst, arith, below_more}
use Rattle.std.proofs.Math.ListN.{length-set}
use Rattle.script_text.specs.declared.shelf.Shelf.{Ghosts}
use Rattle.worker_pool.specs.Courses.{At}
use Rattle.worker_pool.specs.Running.{Left, AllLeft}
use Rattle.worker_pool.proofs.Places.{one_at, at_read, at_set_same, at_set_other, contains_at}

module _ {H N : Type 0} (g : Ghosts H N) where
  -- the shelves before place n left, and the others are as they were
  pub record AreLeftTo (n : ℕ) (before now : List H) : Type 0 where
    pub count : length now ≡ length before
    pub done : (w : ℕ) → w < n → (a b : H) → At before w a → At now w b → Left g a b
    pub rest : (w : ℕ) (b : H) → n ≤ w → At now w b → At before w b

  pub left_none : (shelves : List H) → AreLeftTo 0 shelves shelves
  left_none shelves = record { count = refl; done = λ w lt a b x y. absurd (omega arith); rest = λ w b le at. at }

  pub left_more : (n : ℕ) (before now : List H) (old new : H) → At now n old → Left g old new → AreLeftTo n before now → AreLeftTo (n + 1) before (set now n new)
  left_more n before now old new at is s = record {
    count = length-set now n new ∙ s.count;
    done = λ w lt. below_more (λ (j : ℕ). (a b : H) → At before j a → At (set now n new) j b → Left g a b) n
        (λ j less a b x y. let ne : j ≢ n = omega arith in s.done j less a b x (at_set_other now j n new b ne y))
        (λ a b x y. let here : a ≡ old = one_at before n a old x (s.rest n old (omega arith) at) in
        let there : b ≡ new = at_set_same now n new b y at.0 in
        subst (λ (z : H). Left g z b) (sym here) (subst (λ (z : H). Left g old z) (sym there) is))
        w lt;
    rest = λ w b le y. let ne : w ≢ n = omega arith in s.rest w b (omega arith) (at_set_other now w n new b ne y);
  }

  pub all_left : (n : ℕ) (before now : List H) → length now ≤ n → AreLeftTo n before now → AllLeft g before now
  all_left n before now le s = record {
    back = record {
      count = s.count;
      kept = λ w a b x y. (s.done w (let lt = y.0 in omega arith) a b x y).kept;
      free = λ b h tab. let y = contains_at now b h in let there : h.0 < length before = (let lt = y.0 in let same = s.count in omega arith) in
          (s.done h.0 (let lt = y.0 in omega arith) (get_or before h.0 b) b (at_read before h.0 b there) y).free tab;
    };
    has_left = λ w a b x y. (s.done w (let lt = y.0 in omega arith) a b x y).left;
  }
