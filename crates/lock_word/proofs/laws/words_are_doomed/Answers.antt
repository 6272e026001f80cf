use Rattle.lock_word.proofs.Dooming as dooming
use Rattle.lock_word.proofs.laws.words_are_doomed.Goals as goal

pub returns : goal.returns
returns c = record {
  readers = dooming.readers_of-doomed;
  epoch = dooming.epoch_of-doomed;
  version = dooming.version_of-doomed;
  doom = dooming.doom_of-doomed;
  stage = dooming.stage_of-doomed;
  word = dooming.is_word-doomed;
  added = dooming.doomed-undoomed;
  mode = dooming.mode_of-doomed;
  again = dooming.doomed-doomed;
  readable = dooming.readable-doomed;
  idle = dooming.idle-doomed;
  written = dooming.written-doomed;
}
