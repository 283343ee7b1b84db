use Rattle.page_layout.proofs.Dumps.{tail_none, tail_some}
use Rattle.page_layout.proofs.dump.append_tail.Goals as goal

pub returns-then-item-ne1 : goal.returns-then-item-ne1
returns-then-item-ne1 c = tail_none c.args.page.now c.args.item c.args.text.now.items c.if-item-ne1.true

pub returns : goal.returns
returns c = tail_some c.args.page.now c.args.item c.args.text.now.items c.append_item.new.text.items c.extend_from_slice.new.self.items c.if-item-ne1.false c.in_ok-append_item.ensures c.in_ok-extend_from_slice.ensures.items
