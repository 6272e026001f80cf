-- An anchor of a store that is opened on a file holds no more slots than the entry that a rebuild keeps there.
use Rattle.std.proofs.Common.{List, ap, inl, inr, length, refl, subst, sym, ◌+◌, ◌∙◌, ◌≡◌, ◌≤◌, ◌⊎◌, ℕ}
use Rattle.std.specs.Prelude.{None, Option, Some}
use Rattle.slot_cell.specs.declared.header.TheConstants.{HEADER_SIZE}
use Rattle.plain_model.specs.declared.entry.Entry.{Entry}
use Rattle.plain_model.specs.declared.store.Plain.{Plain}
use Rattle.plain_model.specs.Opening.{IsOpened}
use Rattle.plain_model.specs.Slots.{held, held_by}
use Rattle.plain_model.specs.Store.{entry_at, place_at}
use Rattle.plain_laws.specs.Opened.{HoldsOfFile}
use Rattle.plain_laws.proofs.Filed.{stands_at}
use Rattle.plain_laws.proofs.Openings.{entry_holds}

pub held_of_file : (room : ℕ) (images : List (List ℕ)) (anchors anchor : ℕ) (p : Plain) → IsOpened (room + HEADER_SIZE) images anchors p
    → (held room (place_at p anchor) ≡ 0) ⊎ HoldsOfFile (room + HEADER_SIZE) images anchors anchor room p
held_of_file room images anchors anchor p o = by_entry (entry_at p anchor) refl
  where
    by_entry : (e : Option Entry) → entry_at p anchor ≡ e → (held room (place_at p anchor) ≡ 0) ⊎ HoldsOfFile (room + HEADER_SIZE) images anchors anchor room p
    by_entry None is = inl (ap (held_by room) is)
    by_entry (Some old) is =
        let s = stands_at (room + HEADER_SIZE) images anchors anchor p o old is in
        inr (record {
          file = s.file;
          winner = s.winner;
          few = subst (λ (e : Option Entry). held_by room e ≤ length s.file.chain) (ap Some s.entry ∙ sym is)
              (entry_holds room (room + HEADER_SIZE) images s.file refl s.winner.complete);
        })
