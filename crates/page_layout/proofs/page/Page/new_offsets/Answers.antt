use Rattle.std.proofs.Common.{arith}
use Rattle.page_layout.proofs.Compactable.{place_fits, count_fits}
use Rattle.page_layout.proofs.Keys.{all_placed, key_room, placed_more, room_fits, upper_is}
use Rattle.page_layout.proofs.page.Page.new_offsets.Goals as goal

pub loop-i-init : goal.loop-i-init
loop-i-init c = record { upper = omega arith; placed = λ j h. absurd (omega arith) }

pub loop-i-preserved : goal.loop-i-preserved
loop-i-preserved c =
    let page = c.args.self.now in
    let keys = c.args.keys.now in
    let i = c.loop-i.i in
    let more = room_fits page keys c.requires.sorted c.requires.compactable i (omega arith) in
    let room = key_room page keys c.requires.sorted i (omega arith) in
    let before = c.loop-i.invariant.upper in
    let rounded = c.rounded_up-upper.ensures in
    let size = c.item_at.ensures.length in
    record { upper = omega arith; placed = placed_more page keys c.loop-i.offsets c.requires.sorted i c.from.result _ (omega arith) c.from.ensures (let few = count_fits page c.requires.compactable in let each = (c.requires.sorted.each i (omega arith)).within in let is = c.from.ensures in omega arith) (omega arith) c.loop-i.invariant.placed }

pub overflow_sub-upper : goal.overflow_sub-upper
overflow_sub-upper c =
    let page = c.args.self.now in
    let keys = c.args.keys.now in
    let i = c.loop-i.i in
    let more = room_fits page keys c.requires.sorted c.requires.compactable i (omega arith) in
    let room = key_room page keys c.requires.sorted i (omega arith) in
    let before = c.loop-i.invariant.upper in
    let rounded = c.rounded_up-upper.ensures in
    let size = c.item_at.ensures.length in
    omega arith

pub item_at-requires : goal.item_at-requires
item_at-requires c =
    let page = c.args.self.now in
    record { within = place_fits page _ c.requires.compactable (c.requires.sorted.each c.loop-i.i (omega arith)).within }

pub returns-clause-upper : goal.returns-clause-upper
returns-clause-upper c = upper_is c.args.self.now c.args.keys.now c.loop-i.upper c.loop-i.i c.requires.sorted c.requires.compactable (omega arith) c.loop-i.invariant.upper

pub returns-clause-offsets : goal.returns-clause-offsets
returns-clause-offsets c =
    let few = count_fits c.args.self.now c.requires.compactable in
    all_placed c.args.self.now c.args.keys.now c.loop-i.offsets c.requires.sorted c.requires.compactable (omega arith) (λ j below. c.loop-i.invariant.placed j (omega arith))

pub bounds-offsets-from : goal.bounds-offsets-from
bounds-offsets-from c =
    let few = count_fits c.args.self.now c.requires.compactable in
    let each = (c.requires.sorted.each c.loop-i.i (omega arith)).within in
    let is = c.from.ensures in
    omega arith
