-- The version of a logged piece is at most the one that stands at its anchor.
use Rattle.std.proofs.Common.{ℕ, ◌<◌, ◌≤◌, List, arith, subst, Contains, ap}
use Rattle.lock_word.specs.Words.{epoch_of, version_of}
use Rattle.core_model.specs.declared.view.LoggedPiece.{LoggedPiece}
use Rattle.core_model.specs.Layout.{Setting}
use Rattle.core_model.specs.State.{State, word}
use Rattle.core_model.specs.Trails.{seen_at}
use Rattle.core_model.specs.Sound.{Sound}
use Rattle.core_log.specs.Logged.{LinksStand}

pub version_stands : {X : Type 0} → (k : Setting X) (s : State X) (log : List LoggedPiece) (l : LoggedPiece) → Sound k s → LinksStand k s log → Contains log l → (l.anchor < k.anchors) × (l.piece.version ≤ version_of (epoch_of (word s l.anchor)))
version_stands k s log l so st c = let h = st.stood l c in
    let inside : l.anchor < k.anchors = subst (λ (a : ℕ). a < k.anchors) h.anchor (so.anchors.seen.inside h.i h.view h.at h.sight h.seen) in
    let known = so.anchors.seen.known h.i h.view h.at h.sight h.seen in let low = so.anchors.seen.epochs h.i h.view h.at l.anchor inside in
    let same = ap (λ (a : ℕ). seen_at a h.view.seen) h.anchor in let e = h.version_is in
    (inside, omega arith)
