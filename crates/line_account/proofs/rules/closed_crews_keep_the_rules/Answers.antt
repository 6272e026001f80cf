use Rattle.line_account.proofs.rules.closed_crews_keep_the_rules.Goals as goal

pub returns : goal.returns
returns g c r script crew closed serves have = record {
  answers = record {
    possible = λ p. c.refusals_have_causes.ensures.answer r crew closed p;
    tab = λ p. c.refusals_have_causes.ensures.tab r crew closed p;
    long = λ p. c.refusals_have_causes.ensures.long r crew closed p;
    short = λ url body p long. c.refusals_have_causes.ensures.short r crew url body closed p long;
    added = λ first url body tab asked count p o. c.added_counts_are_exact.ensures r crew first url body tab asked count closed p o;
    ended = λ version x p. c.ends_tell_the_version_begun.ensures r crew version x closed p;
    opened = λ x p. c.entries_found_were_there.ensures.opened r crew x closed p;
    part = λ epoch bytes p. c.refusals_have_causes.ensures.part r crew epoch bytes closed p;
    busy = λ looked other p. c.refusals_have_causes.ensures.busy r crew looked other closed p;
    readers = λ a p. c.more_readers_come_from_others.ensures r crew a closed p;
    counted = λ a looked other p. c.busy_words_count_readers.ensures r crew a looked other closed p;
    spent = λ n p. ((c.spent_numbers_have_bounds.ensures r crew n closed p).0, c.scripts_bound_what_is_offered.ensures.spent r script crew n closed serves p);
    large = λ first url body p o. c.refusals_have_causes.ensures.large r crew first url body closed p o;
    small = λ first url body p o. c.refusals_have_causes.ensures.small r crew first url body closed p o;
    full = λ fit p. c.runs_that_fit_lose_nothing.ensures.full r crew closed fit p;
    other = λ tells url p. c.other_urls_have_the_key.ensures r crew url closed tells p;
    cause = λ cause p. c.refusals_have_causes.ensures.cause r crew cause closed p;
  };
  bodies = λ tells. record {
    hit_old = λ a x url bytes p low. c.hits_are_of_lines.ensures.old r crew a x url bytes closed tells p low;
    hit_new = λ a x url bytes p high. c.hit_versions_were_printed.ensures.body r crew a x url bytes closed tells p high;
    finished = λ a x p high. c.entries_given_whole_were_finished.ensures.finished r crew a x closed tells p high;
    not_halted = λ a x p high q. c.entries_given_whole_were_finished.ensures.kept r crew a x closed tells p high q;
    bytes = λ first url p. c.bytes_are_of_lines.ensures r crew first url closed tells p;
  };
  keys = record {
    old = λ a epoch key url p low is. c.keys_are_of_lines.ensures.old r crew a epoch key url closed p low is;
    kept = λ a epoch key p low. c.keys_are_of_lines.ensures.kept r crew a epoch key closed p low;
    new = λ a epoch key p high. c.keys_are_of_lines.ensures.new r crew a epoch key closed p high;
    found_old = λ a x url kept p low is. c.entries_found_were_there.ensures.old r crew a x url kept closed p low is;
    found_new = λ a x url p high. c.entries_found_were_there.ensures.new r crew a x url closed p high;
  };
  versions = record {
    printed = λ a x p. c.versions_are_begun_by_one_line.ensures.printed r.setting.anchors p.served a x p.so;
    told = λ a x p. c.versions_are_begun_by_one_line.ensures.told r crew a x closed p;
    line = λ a b x p q. c.versions_are_begun_by_one_line.ensures.line r crew a b x closed p q;
    anchor = λ a b x p q. c.versions_are_begun_by_one_line.ensures.anchor r crew a b x closed p q;
    version = λ a b x y p q. c.versions_are_begun_by_one_line.ensures.version r.setting.anchors p.served a b x y p.so q;
    once = λ a b x p q. c.versions_are_begun_by_one_line.ensures.once r crew a b x closed p q;
    bounds = λ a x p. ((c.begun_versions_have_bounds.ensures r crew a x closed p).0, c.scripts_bound_what_is_offered.ensures.versions r script crew a x closed serves p);
  };
  epochs = record {
    old = λ a e p low. c.epochs_have_versions.ensures.old r crew a e closed p low;
    stage = λ a e p low. c.epochs_have_versions.ensures.stage r crew a e closed p low;
    empty = λ a e p low none. c.epochs_have_versions.ensures.empty r crew a e closed p low none;
    new = λ a e p high. c.epochs_have_versions.ensures.new r crew a e closed p high;
    begun = λ a e p high. c.epochs_have_versions.ensures.begun r crew a e closed p high;
    alone_old = λ a x p low. c.versions_printed_alone_are_known.ensures.old r crew a x closed p low;
    alone_new = λ a x p high. c.versions_printed_alone_are_known.ensures.new r crew a x closed p high;
    found_old = λ a x url p low. c.entries_found_were_there.ensures.there r crew a x url closed p low;
    stored = λ a e p high undoomed at. c.entries_are_stored_by_lines.ensures r crew a e closed p high undoomed at;
    halted = λ a e p at. c.halted_entries_were_given_up.ensures.epoch r crew a e closed p at;
    halted_line = λ a p. c.halted_entries_were_given_up.ensures.line r crew a closed p;
    doomed = λ a e p is. c.doomed_entries_were_purged.ensures.epoch r crew a e closed p is;
    doomed_line = λ a x p. c.doomed_entries_were_purged.ensures.line r crew a x closed p;
    doomed_stage = λ a e p is. c.doomed_entries_were_purged.ensures.epoch_stage r crew a e closed p is;
    purged = λ e p. c.doomed_entries_were_purged.ensures.purged r crew e closed p;
    purged_stage = λ e p. c.doomed_entries_were_purged.ensures.stage r crew e closed p;
    given_back = λ a e p undoomed at. c.entries_are_given_back_by_lines.ensures r crew a e closed p undoomed at;
    given_back_new = λ fit a e p undoomed at. c.runs_that_fit_lose_nothing.ensures.old r crew a e closed fit p undoomed at;
  };
  order = c.lines_are_in_order.ensures r crew closed.view_at have;
  tabs = record {
    part = λ a x epoch p. c.tabs_stay_at_their_entries.ensures.part r crew a x epoch closed p;
    halted = λ a x p. c.tabs_stay_at_their_entries.ensures.halted r crew a x closed p;
    old = λ tells a x p low. c.tabs_stay_at_their_entries.ensures.old r crew a x closed tells p low;
    new = λ tells a x p high. c.tabs_stay_at_their_entries.ensures.new r crew a x closed tells p high;
    behind_end = λ tab p. c.tabs_stay_at_their_entries.ensures.behind_end r crew tab closed p;
    behind_other = λ tab p. c.tabs_stay_at_their_entries.ensures.behind_other r crew tab closed p;
    behind_halted = λ tab p. c.tabs_stay_at_their_entries.ensures.behind_halted r crew tab closed p;
    one_url = λ tells a x url p q. c.tabs_stay_at_their_entries.ensures.one_url r crew a x url closed tells p q;
  };
  parts = λ tells. c.parts_are_not_short.ensures r crew closed have tells;
}
