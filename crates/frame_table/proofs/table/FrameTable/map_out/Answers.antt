use Rattle.std.proofs.Common.{List, subst, sym}
use Rattle.pin_core.specs.declared.view.MapEntry.{MapEntry}
use Rattle.pin_core.specs.State.{hold}
use Rattle.frame_table.specs.Latches.{HasNamed}
use Rattle.frame_table.proofs.Mapping.{out_named}
use Rattle.frame_table.proofs.table.FrameTable.map_out.Goals as goal

pub returns-clause-named : goal.returns-clause-named
returns-clause-named g c unchanged = subst (λ (l : List MapEntry). HasNamed (hold c.args.seat.now.me.0 c.args.partition).change l) (sym c.in-Map.ensures.map.1.0) (out_named _ _ _ _ c.in-Map.ensures.map.3 unchanged)
