use Rattle.history_core.proofs.Laws.{laws_after, laws_open, laws}
use Rattle.pin_core.proofs.Schedules as pins
use Rattle.history_core.proofs.Histories.{legal, at_base, syncs, own, apart, fronts, in_order, go_out_flushed, loaded_flushed, noted_done, log_held, entries, reads_stand, sizes_stand, writes_stand, log_first, lanes_hold, clean_stored, sound, hold_cells, words, held, durable, device_holds}
use Rattle.history_core.proofs.Staying.{calls_stay}
use Rattle.history_core.proofs.KeptFlushed.{holds_keep}
use Rattle.history_core.proofs.Lasting.{opening_stays, log_grows}
use Rattle.history_core.proofs.Sound.{shows, stay_untouched, unsound_first}
use Rattle.history_core.proofs.Images.{images_alone}
use Rattle.history_core.proofs.EntryBlocks.{entries_of_blocks}
use Rattle.history_core.proofs.There.{blocks_are_there}
use Rattle.history_core.proofs.Covered.{syncs_cover}
use Rattle.history_core.proofs.Crashes.{dirty_have, written_have, crashes_redo}
use Rattle.history_core.proofs.Counters.{counters_sums}
use Rattle.history_core.proofs.Residents.{residents_stay, lost_cleared}
use Rattle.history_core.proofs.Listed.{pins_listed}
use Rattle.history_core.proofs.Marked.{loads_mark_gone}
use Rattle.history_core.proofs.Redo.{been_kept}
use Rattle.pin_core.proofs.SizeSchedules as sized
use Rattle.page_core.proofs.Histories.{new_blocks}
use Rattle.history_core.proofs.all_histories.Goals as goal

pub returns-clause-holds_keep : goal.returns-clause-holds_keep
returns-clause-holds_keep c = holds_keep

pub returns-clause-kept : goal.returns-clause-kept
returns-clause-kept c = λ es s t h r. laws_after r h

pub returns-clause-opens : goal.returns-clause-opens
returns-clause-opens c = laws_open

pub returns-clause-legal : goal.returns-clause-legal
returns-clause-legal c = λ s r. legal s r.invariant

pub returns-clause-fronts : goal.returns-clause-fronts
returns-clause-fronts c = λ s r. fronts s r.invariant

pub returns-clause-entries : goal.returns-clause-entries
returns-clause-entries c = λ s r. entries s r.invariant

pub returns-clause-reads_stand : goal.returns-clause-reads_stand
returns-clause-reads_stand c = λ s r. reads_stand s r.invariant

pub returns-clause-sizes_stand : goal.returns-clause-sizes_stand
returns-clause-sizes_stand c = λ s r. sizes_stand s r.invariant

pub returns-clause-writes_stand : goal.returns-clause-writes_stand
returns-clause-writes_stand c = λ s r. writes_stand s r.invariant

pub returns-clause-log_first : goal.returns-clause-log_first
returns-clause-log_first c = λ s r. log_first s r.invariant

pub returns-clause-lanes_hold : goal.returns-clause-lanes_hold
returns-clause-lanes_hold c = λ s r. lanes_hold s r.invariant

pub returns-clause-clean_stored : goal.returns-clause-clean_stored
returns-clause-clean_stored c = λ s r. clean_stored s r.invariant

pub returns-clause-words : goal.returns-clause-words
returns-clause-words c = λ s r. words s r.invariant r.redo

pub returns-clause-held : goal.returns-clause-held
returns-clause-held c = λ s r. held s r.invariant

pub returns-clause-sound : goal.returns-clause-sound
returns-clause-sound c = λ s r. sound s r.invariant

pub returns-clause-hold_cells : goal.returns-clause-hold_cells
returns-clause-hold_cells c = λ s r. hold_cells s r.invariant

pub returns-clause-unique : goal.returns-clause-unique
returns-clause-unique c = λ s r. pins.unique s.pool.core r.invariant.pool.core

pub returns-clause-remembers : goal.returns-clause-remembers
returns-clause-remembers c = λ s r. pins.remembers s.pool.core r.invariant.pool.core

pub returns-clause-durable : goal.returns-clause-durable
returns-clause-durable c = λ s r. durable s r.invariant

pub returns-clause-device_holds : goal.returns-clause-device_holds
returns-clause-device_holds c = λ s r. device_holds s r.invariant r.rest

pub returns-clause-in_order : goal.returns-clause-in_order
returns-clause-in_order c = λ s r. in_order s r.invariant

pub returns-clause-go_out_flushed : goal.returns-clause-go_out_flushed
returns-clause-go_out_flushed c = λ s r. go_out_flushed s r.invariant

pub returns-clause-loaded : goal.returns-clause-loaded
returns-clause-loaded c = λ s r. loaded_flushed s r.invariant

pub returns-clause-noted_done : goal.returns-clause-noted_done
returns-clause-noted_done c = λ s r. noted_done s r.invariant

pub returns-clause-log_held : goal.returns-clause-log_held
returns-clause-log_held c = λ s r. log_held s r.invariant

pub returns-clause-calls_stay : goal.returns-clause-calls_stay
returns-clause-calls_stay c = calls_stay

pub returns-clause-own : goal.returns-clause-own
returns-clause-own c = λ s r. own s r.invariant

pub returns-clause-apart : goal.returns-clause-apart
returns-clause-apart c = λ s r. apart s r.invariant

pub returns-clause-laws : goal.returns-clause-laws
returns-clause-laws c = laws

pub returns-clause-at_base : goal.returns-clause-at_base
returns-clause-at_base c = λ s r. at_base s r.invariant

pub returns-clause-syncs : goal.returns-clause-syncs
returns-clause-syncs c = syncs

pub returns-clause-fixed : goal.returns-clause-fixed
returns-clause-fixed c = opening_stays

pub returns-clause-grows : goal.returns-clause-grows
returns-clause-grows c = log_grows

pub returns-clause-ends : goal.returns-clause-ends
returns-clause-ends c = λ s r. r.ends

pub returns-clause-shows_sound : goal.returns-clause-shows_sound
returns-clause-shows_sound c = λ s r. shows s r.invariant r.sound

pub returns-clause-unsound : goal.returns-clause-unsound
returns-clause-unsound c = λ s r. stay_untouched s r.invariant r.sound

pub returns-clause-unsound_first : goal.returns-clause-unsound_first
returns-clause-unsound_first c = λ s r. unsound_first s r.invariant (images_alone s r)

pub returns-clause-images_alone : goal.returns-clause-images_alone
returns-clause-images_alone c = images_alone

pub returns-clause-ranges_follow : goal.returns-clause-ranges_follow
returns-clause-ranges_follow c = λ s r. r.redo.follows

pub returns-clause-of_blocks : goal.returns-clause-of_blocks
returns-clause-of_blocks c = entries_of_blocks

pub returns-clause-there : goal.returns-clause-there
returns-clause-there c = blocks_are_there

pub returns-clause-covered : goal.returns-clause-covered
returns-clause-covered c = λ s r. syncs_cover s r.reached

pub returns-clause-dirty_have : goal.returns-clause-dirty_have
returns-clause-dirty_have c = dirty_have

pub returns-clause-written_have : goal.returns-clause-written_have
returns-clause-written_have c = written_have

pub returns-clause-crashes : goal.returns-clause-crashes
returns-clause-crashes c = crashes_redo

pub returns-clause-hints : goal.returns-clause-hints
returns-clause-hints c = λ s r. r.hints.named

pub returns-clause-counters : goal.returns-clause-counters
returns-clause-counters c = counters_sums

pub returns-clause-residents : goal.returns-clause-residents
returns-clause-residents c = lost_cleared

pub returns-clause-residents_stay : goal.returns-clause-residents_stay
returns-clause-residents_stay c = residents_stay

pub returns-clause-sighted : goal.returns-clause-sighted
returns-clause-sighted c = pins_listed

pub returns-clause-marked : goal.returns-clause-marked
returns-clause-marked c = loads_mark_gone

pub returns-clause-size_rights : goal.returns-clause-size_rights
returns-clause-size_rights c = λ s fork r. sized.rights s.pool.core fork r.invariant.pool.sizes

pub returns-clause-sizes_logged : goal.returns-clause-sizes_logged
returns-clause-sizes_logged c = λ s fork r. sized.logged s.pool.core fork r.invariant.pool.sizes

pub returns-clause-seen_blocks : goal.returns-clause-seen_blocks
returns-clause-seen_blocks c = λ s r. sized.seen_blocks s.pool.core r.invariant.pool.core r.invariant.pool.sizes

pub returns-clause-new_blocks : goal.returns-clause-new_blocks
returns-clause-new_blocks c = λ s r. new_blocks s.pool r.invariant.pool

pub returns-clause-by_log : goal.returns-clause-by_log
returns-clause-by_log c = λ s r. r.invariant.sizes

pub returns-clause-redo : goal.returns-clause-redo
returns-clause-redo c = λ s r. record { now = r.redo.highest.reached; stays = λ e t x p been. been_kept x p been; loaded = r.redo.loaded }

pub returns-clause-tested : goal.returns-clause-tested
returns-clause-tested c = λ s r. r.redo.chosen

pub returns-clause-behind : goal.returns-clause-behind
returns-clause-behind c = λ s r. r.rest.behind

pub returns-clause-bounded : goal.returns-clause-bounded
returns-clause-bounded c = λ s r. r.counters.bounded

pub returns-clause-tags : goal.returns-clause-tags
returns-clause-tags c = λ s r. sized.tag_words s.pool.core r.invariant.pool.sizes

pub returns-clause-others : goal.returns-clause-others
returns-clause-others c = λ s r. r.invariant.pool.gone

pub returns-clause-noted : goal.returns-clause-noted
returns-clause-noted c = λ s r. r.invariant.pool.sizes.noted

pub returns-clause-passed : goal.returns-clause-passed
returns-clause-passed c = λ s r. r.invariant.pool.sizes.passed
