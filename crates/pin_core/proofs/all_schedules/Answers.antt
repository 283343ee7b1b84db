use Rattle.pin_core.proofs.Opening.{opens}
use Rattle.pin_core.proofs.Stepping.{run_keeps}
use Rattle.pin_core.proofs.Schedules.{reached, usages, packed, untagged, flags, seen, unique, own_pins, few, counted, held, holders, exact, taken, maps_seen, maps_home, remembers, stay}
use Rattle.pin_core.proofs.SizeSteps.{run_keeps_law, sizes_open}
use Rattle.pin_core.proofs.SizeSchedules.{sizes_reached, tag_words, rights, logged, seen_blocks}
use Rattle.pin_core.proofs.all_schedules.Goals as goal

pub returns-clause-kept : goal.returns-clause-kept
returns-clause-kept c = λ es s t h r. run_keeps r h

pub returns-clause-opens : goal.returns-clause-opens
returns-clause-opens c = opens

pub returns-clause-unique : goal.returns-clause-unique
returns-clause-unique c = unique

pub returns-clause-stay : goal.returns-clause-stay
returns-clause-stay c = stay

pub returns-clause-counted : goal.returns-clause-counted
returns-clause-counted c = counted

pub returns-clause-held : goal.returns-clause-held
returns-clause-held c = held

pub returns-clause-holders : goal.returns-clause-holders
returns-clause-holders c = holders

pub returns-clause-remembers : goal.returns-clause-remembers
returns-clause-remembers c = remembers

pub returns-clause-usages : goal.returns-clause-usages
returns-clause-usages c = usages

pub returns-clause-packed : goal.returns-clause-packed
returns-clause-packed c = packed

pub returns-clause-untagged : goal.returns-clause-untagged
returns-clause-untagged c = untagged

pub returns-clause-flags : goal.returns-clause-flags
returns-clause-flags c = flags

pub returns-clause-seen : goal.returns-clause-seen
returns-clause-seen c = seen

pub returns-clause-exact : goal.returns-clause-exact
returns-clause-exact c = exact

pub returns-clause-taken : goal.returns-clause-taken
returns-clause-taken c = taken

pub returns-clause-few : goal.returns-clause-few
returns-clause-few c = few

pub returns-clause-accounted : goal.returns-clause-accounted
returns-clause-accounted c = λ s h. h.accounted

pub returns-clause-reached : goal.returns-clause-reached
returns-clause-reached c = reached

pub returns-clause-pinned : goal.returns-clause-pinned
returns-clause-pinned c = own_pins

pub returns-clause-maps_seen : goal.returns-clause-maps_seen
returns-clause-maps_seen c = maps_seen

pub returns-clause-maps_home : goal.returns-clause-maps_home
returns-clause-maps_home c = maps_home

pub returns-clause-sizes_kept : goal.returns-clause-sizes_kept
returns-clause-sizes_kept c = λ es s t h x r. run_keeps_law r h x

pub returns-clause-sizes_open : goal.returns-clause-sizes_open
returns-clause-sizes_open c = sizes_open

pub returns-clause-sizes_reached : goal.returns-clause-sizes_reached
returns-clause-sizes_reached c = sizes_reached

pub returns-clause-blocks : goal.returns-clause-blocks
returns-clause-blocks c = tag_words

pub returns-clause-size_rights : goal.returns-clause-size_rights
returns-clause-size_rights c = rights

pub returns-clause-sizes_logged : goal.returns-clause-sizes_logged
returns-clause-sizes_logged c = logged

pub returns-clause-seen_blocks : goal.returns-clause-seen_blocks
returns-clause-seen_blocks c = seen_blocks
