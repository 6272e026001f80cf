-- What is left of a file that was made, and whose header area was then written.
use Rattle.std.proofs.Common.{◌≡◌, ◌⊎◌, inl, inr, ◌+◌, ◌*◌, ◌-◌, ◌≤◌, ◌++◌, ℕ, List, Bool, length, take, drop, arith, ap, sym, ◌∙◌, subst, Some, None}
use Rattle.std.specs.Prelude.{IsTrue}
use Rattle.std.proofs.lemmas.List.{drop-replicate, length-replicate, take-replicate}
use Rattle.std.specs.FinMap.{get, insert}
use Rattle.db_layout.specs.Geometry.{header_of}
use Rattle.db_layout.specs.Layout.{file_size}
use Rattle.rock_disk.specs.Counts.{Counts}
use Rattle.rock_disk.specs.Created.{IsCreated, IsMaybeCreated}
use Rattle.rock_disk.specs.File.{File, Files, IsKept, IsNotAway, bytes_of, cut, uncut, zeros}
use Rattle.rock_disk.specs.Opened.{IsSmall}
use Rattle.rock_disk.proofs.Out.{get_inserted}
use Rattle.file_commands.specs.Create.{CreateLeaves, CreateSays, IsBlank, IsGeometry, IsHalfMade, IsMade, made_bytes}
use Rattle.file_commands.specs.Recording.{HoldsEither, IsRecorded, MayBeRecorded, RecordLeaves, geometry_of, recorded_bytes, with_header}
use Rattle.file_commands.specs.Report.{AnyCount, ReadEnds, ReadSays}
use Rattle.file_commands.proofs.HeaderWritten.{inserted_twice, others_inserted}
use Rattle.rock_status.specs.declared.status.Status.{Status}
use Rattle.rock_status.specs.declared.status.Status.TheVariants.{Done, Usage, Memory, SourceFault, SinkFault, DeviceFault, BadScript, Missing, Small, BadGeometry, Exists}

zeros_long : (n : ℕ) → length (zeros n) ≡ n
unfolding zeros
zeros_long n = length-replicate n 0

zeros_front : (n : ℕ) → take 16384 (zeros (16384 + n)) ≡ zeros 16384
unfolding zeros
zeros_front n = take-replicate 16384 (16384 + n) 0 (omega arith)

zeros_dropped : (n : ℕ) → drop 16384 (zeros (16384 + n)) ≡ zeros (16384 + n - 16384)
unfolding zeros
zeros_dropped n = drop-replicate 16384 (16384 + n) 0

zeros_behind : (n : ℕ) → drop 16384 (zeros (16384 + n)) ≡ zeros n
zeros_behind n = let less : 16384 + n - 16384 ≡ n = omega arith in zeros_dropped n ∙ ap zeros less

module _ (slot slots : ℕ) (name : List ℕ) (before made : Files) (is : IsCreated before made name (file_size slots slot)) where
  made_there : get made name ≡ Some (uncut (zeros (file_size slots slot)))
  made_there = ap (λ (m : Files). get m name) is ∙ get_inserted before name (uncut (zeros (file_size slots slot)))

  -- it is in
  pub made_home : IsNotAway (get made name)
  made_home = subst IsNotAway (sym made_there) tt

  one_file : (f : File) → get made name ≡ Some f → f ≡ uncut (zeros (file_size slots slot))
  one_file f there = let mine = made_there in cc

  its_bytes : (f : File) → get made name ≡ Some f → bytes_of f ≡ zeros (file_size slots slot)
  its_bytes f there = ap bytes_of (one_file f there)

  -- it is there
  pub not_missing : get made name ≡ None → ⊥
  not_missing none = let mine = made_there in cc

  -- and long enough
  pub not_small : (bytes : ℕ) → 1 ≤ slots → IsSmall made name slot bytes → ⊥
  not_small bytes some small =
      let long : length (bytes_of small.was) ≡ 16384 + slots * slot = ap length (its_bytes small.was small.found) ∙ zeros_long (file_size slots slot) in
      let enough : slot ≤ slots * slot = grind (arith, some) in
      omega (arith, small.size, small.short, long, enough)

  put_over : (after : Files) (f : File) → after ≡ insert made name f → after ≡ insert before name f
  put_over after f e = e ∙ (ap (λ (m : Files). insert m name f) is ∙ inserted_twice before name f (uncut (zeros (file_size slots slot))))

  -- what recording its slots leaves
  pub made_recorded : (after : Files) → IsRecorded (geometry_of slot slots) name made after → IsMade slot slots name before after
  made_recorded after r =
      put_over after (cut slot (recorded_bytes (geometry_of slot slots) (bytes_of r.was))) r.is
      ∙ ap (λ (bytes : List ℕ). insert before name (cut slot (header_of (geometry_of slot slots) ++ bytes))) (ap (drop 16384) (its_bytes r.was r.there) ∙ zeros_behind (slots * slot))

  pub made_blank : (after : Files) → IsKept slot name made after → IsBlank slot slots name before after
  made_blank after (inl same) = inl (same ∙ is)
  made_blank after (inr kept) =
      inr (put_over after (cut slot (bytes_of kept.0)) kept.2 ∙ ap (λ (bytes : List ℕ). insert before name (cut slot bytes)) (its_bytes kept.0 kept.1))

  pub half_made : (after : Files) → MayBeRecorded (geometry_of slot slots) name made after → IsHalfMade slot slots name before after
  half_made after m = record {
    header = m.header;
    either = subst (λ (old : List ℕ). HoldsEither old (header_of (geometry_of slot slots)) m.header) (ap (take 16384) (its_bytes m.was m.there) ∙ zeros_front (slots * slot)) m.either;
    is = put_over after (with_header slot (bytes_of m.was) m.header) m.is
        ∙ ap (λ (bytes : List ℕ). insert before name (with_header slot bytes m.header)) (its_bytes m.was m.there);
  }

  maybe_inserted : (after : Files) (f : File) → IsNotAway (Some f) → after ≡ insert before name f → IsMaybeCreated before after name
  maybe_inserted after f home e = record {
    others = λ other apart. ap (λ (m : Files). get m other) e ∙ others_inserted before name f other apart;
    home = subst IsNotAway (sym (ap (λ (m : Files). get m name) e ∙ get_inserted before name f)) home;
  }

  maybe_left : (after : Files) → (after ≡ made) ⊎ MayBeRecorded (geometry_of slot slots) name made after → IsMaybeCreated before after name
  maybe_left after (inl same) = maybe_inserted after (uncut (zeros (file_size slots slot))) tt (same ∙ is)
  maybe_left after (inr m) = maybe_inserted after (with_header slot (bytes_of m.was) m.header) tt (put_over after _ m.is)

  pub maybe_made : (after : Files) → IsMade slot slots name before after → IsMaybeCreated before after name
  maybe_made after made_so = maybe_inserted after (cut slot (made_bytes slot slots)) tt made_so

  -- nothing but this file is another, where its slots were not recorded
  pub unrecorded_maybe : (c c' : Counts) (after : Files) (status : Status) → ReadEnds AnyCount c c' status → RecordLeaves (geometry_of slot slots) name made after status → IsMaybeCreated before after name
  unrecorded_maybe c c' after Done k left = absurd k
  unrecorded_maybe c c' after Usage k left = absurd k
  unrecorded_maybe c c' after Memory k (inl same) = maybe_left after (inl same)
  unrecorded_maybe c c' after Memory k (inr kept) = maybe_inserted after (cut slot (bytes_of kept.0)) tt (put_over after (cut slot (bytes_of kept.0)) kept.2)
  unrecorded_maybe c c' after SourceFault k left = absurd k
  unrecorded_maybe c c' after SinkFault k left = absurd k
  unrecorded_maybe c c' after DeviceFault k left = maybe_left after left
  unrecorded_maybe c c' after (BadScript line cause) k left = absurd k
  unrecorded_maybe c c' after Missing k left = maybe_left after (inl left)
  unrecorded_maybe c c' after (Small bytes) k left = maybe_left after (inl left)
  unrecorded_maybe c c' after (BadGeometry field) k left = absurd (k.1.1 tt)
  unrecorded_maybe c c' after Exists k left = absurd k

-- what is said and left where its slots were not recorded
pub unrecorded_says : (slot slots : ℕ) (c c' : Counts) (name : List ℕ) (before made : Files) (status : Status) → IsGeometry slot slots → IsCreated before made name (file_size slots slot)
    → ReadEnds AnyCount c c' status → ReadSays AnyCount made name slot status → CreateSays before name status
unrecorded_says slot slots c c' name before made Done may is k says = absurd k
unrecorded_says slot slots c c' name before made Usage may is k says = tt
unrecorded_says slot slots c c' name before made Memory may is k says = tt
unrecorded_says slot slots c c' name before made SourceFault may is k says = tt
unrecorded_says slot slots c c' name before made SinkFault may is k says = tt
unrecorded_says slot slots c c' name before made DeviceFault may is k says = tt
unrecorded_says slot slots c c' name before made (BadScript line cause) may is k says = tt
unrecorded_says slot slots c c' name before made Missing may is k says = absurd (not_missing slot slots name before made is says)
unrecorded_says slot slots c c' name before made (Small bytes) may is k says = absurd (not_small slot slots name before made is bytes may.count.from says)
unrecorded_says slot slots c c' name before made (BadGeometry field) may is k says = tt
unrecorded_says slot slots c c' name before made Exists may is k says = absurd k

pub unrecorded_leaves : (tells : Bool) (slot slots : ℕ) (c c' : Counts) (name : List ℕ) (before made after : Files) (status : Status) → (IsTrue tells → IsCreated before made name (file_size slots slot))
    → ReadEnds AnyCount c c' status → (IsTrue tells → RecordLeaves (geometry_of slot slots) name made after status) → CreateLeaves tells slot slots name before after status
unrecorded_leaves tells slot slots c c' name before made after Done is k left = absurd k
unrecorded_leaves tells slot slots c c' name before made after Usage is k left = absurd k
unrecorded_leaves tells slot slots c c' name before made after Memory is k left = λ t. inr (made_blank slot slots name before made (is t) after (left t))
unrecorded_leaves tells slot slots c c' name before made after SourceFault is k left = absurd k
unrecorded_leaves tells slot slots c c' name before made after SinkFault is k left = absurd k
unrecorded_leaves tells slot slots c c' name before made after DeviceFault is k left = λ t. maybe_left slot slots name before made (is t) after (left t)
unrecorded_leaves tells slot slots c c' name before made after (BadScript line cause) is k left = absurd k
unrecorded_leaves tells slot slots c c' name before made after Missing is k left = tt
unrecorded_leaves tells slot slots c c' name before made after (Small bytes) is k left = tt
unrecorded_leaves tells slot slots c c' name before made after (BadGeometry field) is k left = absurd (k.1.1 tt)
unrecorded_leaves tells slot slots c c' name before made after Exists is k left = absurd k
