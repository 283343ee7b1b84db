use Rattle.std.proofs.Common.{◌∙◌}
use Rattle.page_layout.proofs.Dumps.{line_is}
use Rattle.page_layout.proofs.dump.append_pointer.Goals as goal

pub returns : goal.returns
returns c = line_is c.args.page.now c.args.number c.item-item.result c.args.text.now.items c.bytes.result.now c.extend_from_slice.new.self.items c.append_tail.new.text.items c.requires.first c.item-item.ensures.is (c.bytes.ensures ∙ c.write_head.ensures) c.in_ok-extend_from_slice.ensures.items c.in_ok-append_tail.ensures
