use Rattle.std.proofs.Common.{◌++◌, ℕ, List, ap, sym, ◌∙◌}
use Rattle.page_layout.proofs.Dumps.{used_none, used_none_new, used_some}
use Rattle.page_layout.proofs.dump.append_used.Goals as goal

pub returns-then-is_new : goal.returns-then-is_new
returns-then-is_new c = used_none_new c.args.page.now c.args.text.now.items (sym c.is_new.ensures ∙ c.if-is_new.true)

pub returns-then-not-is_sound : goal.returns-then-not-is_sound
returns-then-not-is_sound c = used_none c.args.page.now c.args.text.now.items (sym c.is_sound.ensures ∙ c.if-not-is_sound.true)

pub returns : goal.returns
returns c =
    c.in_ok-append_pointers.ensures ∙ ap (λ (l : List ℕ). c.args.text.now.items ++ l) (used_some c.args.page.now (sym c.is_sound.ensures ∙ c.if-not-is_sound.false) (sym c.is_new.ensures ∙ c.if-is_new.false))
