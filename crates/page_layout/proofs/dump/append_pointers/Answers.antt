use Rattle.std.proofs.Common.{◌≡◌, ◌++◌, ℕ, arith, ap, ◌∙◌}
use Rattle.page_layout.specs.Dump.{pointer_lines}
use Rattle.page_layout.specs.Fields.{item_count}
use Rattle.page_layout.proofs.Dumps.{lines_none, lines_step}
use Rattle.page_layout.proofs.dump.append_pointers.Goals as goal

pub loop-place-init : goal.loop-place-init
loop-place-init c = lines_none c.args.page.now c.args.text.now.items

pub loop-place-preserved : goal.loop-place-preserved
loop-place-preserved c = lines_step c.args.page.now c.args.text.now.items _ _ c.loop-place.place c.loop-place.invariant c.in_ok-append_pointer.ensures

pub returns : goal.returns
returns c =
    let all : c.loop-place.place ≡ item_count c.args.page.now = omega arith in
    c.loop-place.invariant ∙ ap (λ (n : ℕ). c.args.text.now.items ++ pointer_lines c.args.page.now n) all
