use Rattle.std.proofs.Common.{ap, ◌∙◌}
use Rattle.pin_core.specs.declared.view.PartitionHold.{PartitionHold}
use Rattle.atomic_table.specs.Table.{rest}
use Rattle.table_tests.proofs.Seats.{closes_turned}
use Rattle.table_tests.proofs.values.count_entries.Goals as goal

pub returns : goal.returns
returns g c = let a = c.take_turn.ensures in let o = c.value_out.ensures in let m = c.in-Map.ensures.out in let b = c.value_back.ensures in let l = c.give_turn.ensures in closes_turned _ _ _ c.args.partition c.requires.closes
    (l.seat.table ∙ b.seat.0 ∙ o.seat.0 ∙ a.seat.table)
    (l.seat.id ∙ b.seat.1 ∙ o.seat.1 ∙ a.seat.id)
    (l.seat.hand ∙ b.hand ∙ ap rest o.hand ∙ a.seat.hand ∙ c.requires.closes.hand)
    (l.work ∙ b.back.0 ∙ m.3 ∙ a.work)
    (ap (λ (h : PartitionHold). h.held) l.turned.0)
    (λ q n. l.turned.1 q n ∙ b.back.1.others q n ∙ m.4.others q n ∙ a.turned.1 q n)
    (l.turned.2 ∙ b.back.1.lanes ∙ m.4.lanes ∙ a.turned.2)
    (l.turned.3 ∙ b.back.1.log ∙ m.4.log ∙ a.turned.3)
