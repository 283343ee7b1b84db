use Rattle.pin_core.proofs.Schedules as pins
use Rattle.pin_core.proofs.SizeSchedules as sized
use Rattle.page_core.proofs.Opening.{opens}
use Rattle.page_core.proofs.Stepping.{run_keeps}
use Rattle.page_core.proofs.Histories.{reached, stay, copy_latches, dirtied, locks, sharers_few, one_io, rights, one_out, pages_home, applies, frames_hold, sound, new_blocks, copies_are, waiters, wait_once, cleanup_alone}
use Rattle.page_core.proofs.all_histories.Goals as goal

pub returns-clause-kept : goal.returns-clause-kept
returns-clause-kept c = λ es s t h r. run_keeps r h

pub returns-clause-opens : goal.returns-clause-opens
returns-clause-opens c = opens

pub returns-clause-counted : goal.returns-clause-counted
returns-clause-counted c = λ s h. pins.counted s.core h.core

pub returns-clause-unique : goal.returns-clause-unique
returns-clause-unique c = λ s h. pins.unique s.core h.core

pub returns-clause-few : goal.returns-clause-few
returns-clause-few c = λ s h. pins.few s.core h.core

pub returns-clause-accounted : goal.returns-clause-accounted
returns-clause-accounted c = λ s h. h.core.accounted

pub returns-clause-held : goal.returns-clause-held
returns-clause-held c = λ s h. pins.held s.core h.core

pub returns-clause-holders : goal.returns-clause-holders
returns-clause-holders c = λ s h. pins.holders s.core h.core

pub returns-clause-taken : goal.returns-clause-taken
returns-clause-taken c = λ s h. pins.taken s.core h.core

pub returns-clause-stay : goal.returns-clause-stay
returns-clause-stay c = stay

pub returns-clause-usages : goal.returns-clause-usages
returns-clause-usages c = λ s h. pins.usages s.core h.core

pub returns-clause-packed : goal.returns-clause-packed
returns-clause-packed c = λ s h. pins.packed s.core h.core

pub returns-clause-untagged : goal.returns-clause-untagged
returns-clause-untagged c = λ s h. pins.untagged s.core h.core

pub returns-clause-flags : goal.returns-clause-flags
returns-clause-flags c = λ s h. pins.flags s.core h.core

pub returns-clause-seen : goal.returns-clause-seen
returns-clause-seen c = λ s h. pins.seen s.core h.core

pub returns-clause-copy_latches : goal.returns-clause-copy_latches
returns-clause-copy_latches c = λ s f h below. copy_latches s h f below

pub returns-clause-dirtied : goal.returns-clause-dirtied
returns-clause-dirtied c = dirtied

pub returns-clause-exact : goal.returns-clause-exact
returns-clause-exact c = λ s h. pins.exact s.core h.core

pub returns-clause-remembers : goal.returns-clause-remembers
returns-clause-remembers c = λ s h. pins.remembers s.core h.core

pub returns-clause-locks : goal.returns-clause-locks
returns-clause-locks c = λ s f h below. locks s h f below

pub returns-clause-one_io : goal.returns-clause-one_io
returns-clause-one_io c = λ s f h below. one_io s h f below

pub returns-clause-rights : goal.returns-clause-rights
returns-clause-rights c = rights

pub returns-clause-one_out : goal.returns-clause-one_out
returns-clause-one_out c = one_out

pub returns-clause-frames_hold : goal.returns-clause-frames_hold
returns-clause-frames_hold c = frames_hold

pub returns-clause-sound : goal.returns-clause-sound
returns-clause-sound c = sound

pub returns-clause-copies_are : goal.returns-clause-copies_are
returns-clause-copies_are c = copies_are

pub returns-clause-waiters : goal.returns-clause-waiters
returns-clause-waiters c = λ s f h below. waiters s h f below

pub returns-clause-one_wait : goal.returns-clause-one_wait
returns-clause-one_wait c = wait_once

pub returns-clause-granted : goal.returns-clause-granted
returns-clause-granted c = λ s f h below. cleanup_alone s h f below

pub returns-clause-reached : goal.returns-clause-reached
returns-clause-reached c = reached

pub returns-clause-pinned : goal.returns-clause-pinned
returns-clause-pinned c = λ s h. pins.own_pins s.core h.core

pub returns-clause-blocks : goal.returns-clause-blocks
returns-clause-blocks c = λ s h. sized.tag_words s.core h.sizes

pub returns-clause-maps_seen : goal.returns-clause-maps_seen
returns-clause-maps_seen c = λ s h. pins.maps_seen s.core h.core

pub returns-clause-maps_home : goal.returns-clause-maps_home
returns-clause-maps_home c = λ s h. pins.maps_home s.core h.core

pub returns-clause-sharers : goal.returns-clause-sharers
returns-clause-sharers c = sharers_few

pub returns-clause-pages_home : goal.returns-clause-pages_home
returns-clause-pages_home c = pages_home

pub returns-clause-applies : goal.returns-clause-applies
returns-clause-applies c = applies

pub returns-clause-size_rights : goal.returns-clause-size_rights
returns-clause-size_rights c = λ s fork h. sized.rights s.core fork h.sizes

pub returns-clause-sizes_logged : goal.returns-clause-sizes_logged
returns-clause-sizes_logged c = λ s fork h. sized.logged s.core fork h.sizes

pub returns-clause-seen_blocks : goal.returns-clause-seen_blocks
returns-clause-seen_blocks c = λ s h. sized.seen_blocks s.core h.core h.sizes

pub returns-clause-new_blocks : goal.returns-clause-new_blocks
returns-clause-new_blocks c = new_blocks

pub returns-clause-others : goal.returns-clause-others
returns-clause-others c = λ s h. h.gone
