use Rattle.std.proofs.Common.{◌≡◌, ◌+◌, ◌≤◌, length, arith, refl, ap}
use Rattle.rock_disk.specs.File.{bytes_of}
use Rattle.rock_disk.specs.Memory.{file_of, files_of}
use Rattle.rock_disk.specs.declared.memory.entry.Entry.{Entry}
use Rattle.rock_disk.proofs.Places.{found_at, not_at}
use Rattle.rock_disk.proofs.Refusals.{missing, not_missing, small, not_small}
use Rattle.rock_disk.proofs.memory.entry.place_to_open.Goals as goal

pub returns-in_default-clause-missing : goal.returns-in_default-clause-missing
returns-in_default-clause-missing c = (λ w. not_at c.args.name.now c.args.entries.now c.args.entries.now refl c.in_default.ensures, λ none. refl)

pub returns-in_default-clause-small : goal.returns-in_default-clause-small
returns-in_default-clause-small c bytes =
    missing (files_of c.args.entries.now) c.args.name.now (not_at c.args.name.now c.args.entries.now c.args.entries.now refl c.in_default.ensures) bytes c.args.slot

pub returns-then-bytes-slot-clause-missing : goal.returns-then-bytes-slot-clause-missing
returns-then-bytes-slot-clause-missing c =
    let found = found_at c.args.name.now c.args.entries.now c.args.entries.now c.in-Some.place c.index-entries-place.result refl c.in-Some.ensures c.index-entries-place.is in
    not_missing _ _ _ _ found (λ w. cc)

pub returns-then-bytes-slot-clause-small : goal.returns-then-bytes-slot-clause-small
returns-then-bytes-slot-clause-small c bytes =
    let found = found_at c.args.name.now c.args.entries.now c.args.entries.now c.in-Some.place c.index-entries-place.result refl c.in-Some.ensures c.index-entries-place.is in
    let same = ap (λ (e : Entry). length (bytes_of (file_of e.file))) c.index-entries-place.is in
    let long : c.size-bytes.result ≡ length (bytes_of (file_of c.index-entries-place.result.file)) = omega arith in
    small _ _ _ c.args.slot c.size-bytes.result bytes found long c.if-bytes-slot.true

pub returns-clause-room : goal.returns-clause-room
returns-clause-room c =
    let same = ap (λ (e : Entry). length (bytes_of (file_of e.file))) c.index-entries-place.is in
    record {
      was = file_of c.index-entries-place.result.file;
      found = found_at c.args.name.now c.args.entries.now c.args.entries.now c.in-Some.place c.index-entries-place.result refl c.in-Some.ensures c.index-entries-place.is;
      room = omega arith;
    }

pub returns-clause-missing : goal.returns-clause-missing
returns-clause-missing c =
    let found = found_at c.args.name.now c.args.entries.now c.args.entries.now c.in-Some.place c.index-entries-place.result refl c.in-Some.ensures c.index-entries-place.is in
    not_missing _ _ _ _ found (λ w. cc)

pub returns-clause-small : goal.returns-clause-small
returns-clause-small c bytes =
    let found = found_at c.args.name.now c.args.entries.now c.args.entries.now c.in-Some.place c.index-entries-place.result refl c.in-Some.ensures c.index-entries-place.is in
    let same = ap (λ (e : Entry). length (bytes_of (file_of e.file))) c.index-entries-place.is in
    let room : 16384 + c.args.slot ≤ length (bytes_of (file_of c.index-entries-place.result.file)) = omega arith in
    not_small _ _ _ _ c.args.slot bytes found room (λ w. cc)
