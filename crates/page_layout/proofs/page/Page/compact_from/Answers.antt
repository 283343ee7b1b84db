use Rattle.std.proofs.Common.{◌+◌, ◌-◌, ◌*◌, ◌/◌, ◌%◌, ◌&&◌, ℕ, List, cond, leb, ltb, get_or, arith, ap, ◌∙◌}
use Rattle.std.specs.Int.{byte_at}
use Rattle.page_layout.specs.Fields.{item_count}
use Rattle.page_layout.specs.Rewritten.{item_byte, new_pointer, new_upper}
use Rattle.page_layout.proofs.Compactable.{count_fits}
use Rattle.page_layout.proofs.Final.{cleared_above, flags_is, new_ends, steps_make}
use Rattle.page_layout.proofs.page.Page.compact_from.Goals as goal

pub has_unused-requires : goal.has_unused-requires
has_unused-requires c =
    let ends = new_ends c.args.page.now c.requires in
    let left = c.pointers_left-left.ensures in
    record { compactable = c.requires; within = omega arith }

pub clear-requires : goal.clear-requires
clear-requires c =
    let ends = new_ends c.args.page.now c.requires in
    let left = c.pointers_left-left.ensures in
    let few = count_fits c.args.page.now c.requires in
    record { ordered = omega arith; within = omega arith }

pub write_pointers-requires : goal.write_pointers-requires
write_pointers-requires c =
    let ends = new_ends c.args.page.now c.requires in
    let left = c.pointers_left-left.ensures in
    record { compactable = c.requires; within = omega arith; offsets = c.new_offsets-upper.ensures.offsets }

pub move_items-requires : goal.move_items-requires
move_items-requires c = record {
  compactable = c.requires;
  cleared = cleared_above c.args.page.now c.write_pointers.new.self c.clear.new.self c.copy_from.new.self c.pointers_left-left.result c.requires c.pointers_left-left.ensures c.copy_from.ensures c.clear.ensures c.write_pointers.ensures;
  offsets = c.new_offsets-upper.ensures.offsets;
}

pub returns : goal.returns
returns c =
    let page = c.args.page.now in
    let left = c.pointers_left-left.result in
    let flags = flags_is page c.header.result c.from.result left c.has_unused.result c.header.ensures c.from.ensures c.has_unused.ensures c.pointers_left-left.ensures in
    c.write_ends.ensures.bytes
    ∙ steps_make page c.move_items.new.self _ left c.new_offsets-upper.result c.requires flags c.pointers_left-left.ensures c.new_offsets-upper.ensures.upper c.write_ends.ensures.size (λ k.
    c.move_items.ensures k
    ∙ ap (λ (x : ℕ). cond (ltb k (new_upper page)) x (item_byte page k (item_count page)))
    (c.write_pointers.ensures k
    ∙ ap (λ (x : ℕ). cond (leb 24 k && ltb k (24 + 4 * left)) (byte_at ((k - 24) % 4) (new_pointer page ((k - 24) / 4))) x)
    (c.clear.ensures k ∙ ap (λ (l : List ℕ). cond (leb (24 + 4 * left) k && ltb k 8192) 0 (get_or l k 0)) c.copy_from.ensures)))

pub overflow_mul-lower : goal.overflow_mul-lower
overflow_mul-lower c =
    let ends = new_ends c.args.page.now c.requires in
    let left = c.pointers_left-left.ensures in
    let few = count_fits c.args.page.now c.requires in
    omega arith

pub overflow_add-lower : goal.overflow_add-lower
overflow_add-lower c =
    let ends = new_ends c.args.page.now c.requires in
    let left = c.pointers_left-left.ensures in
    let few = count_fits c.args.page.now c.requires in
    omega arith
