use Rattle.std.proofs.Common.{arith, ◌∙◌, sym, ap, List, length, subst, ℕ, ◌≡◌}
use Rattle.atomic_table.specs.Table.{Me}
use Rattle.pin_core.specs.declared.view.View.{View}
use Rattle.table_rule.specs.declared.opening.Opening.{Opening}
use Rattle.table_rule.specs.declared.value.Value.{Value}
use Rattle.table_rule.specs.Layout.{word_count, slot_count}
use Rattle.table_rule.specs.Laid.{AreOpening, AreSlots, home_log}
use Rattle.table_rule.proofs.Laying.{lanes_counted}
use Rattle.std.proofs.lemmas.Grind.{common_steps}
use Rattle.table_rule.proofs.Opens.{opens_built, laid_ends, lanes_are, log_is}
use Rattle.frame_table.proofs.Resting.{first_idle}
use Rattle.frame_table.proofs.table.FrameTable.build.Goals as goal

pub new-requires : goal.new-requires
new-requires g c = opens_built _ _ _ _ _ _ _ c.of.ensures (ap (λ v. v.items) c.of-2.ensures) c.of-3.ensures (subst (λ (ws : List ℕ). AreOpening ws c.args.config.frames c.args.base) (sym c.deref.ensures.value) c.in-Ok.ensures) c.lay.ensures
    c.requires.backends.0 c.requires.backends.1 c.requires.lanes.0 c.requires.lanes.2 c.requires.base c.requires.devices c.requires.log

pub take_back-lanes-requires : goal.take_back-lanes-requires
take_back-lanes-requires g c = let s = c.lay.ensures in let same = c.in-Err.ensures.err in (
  home_log s.room c.args.log,
  s.list,
  laid_ends _ _ _ _ s _ same,
  s.empty,
  (let e = ap (λ (l : List g.row.L.Denot). length l) (lanes_are _ _ _ _ s _ same) in let r = s.list_room in omega arith),
)

pub returns-in-Err-clause-back : goal.returns-in-Err-clause-back
returns-in-Err-clause-back g c = let s = c.lay.ensures in let same = c.in-Err.ensures.err in let t = c.take_back-lanes.ensures in (
  t.3 ∙ lanes_are _ _ _ _ s _ same,
  t.4 ∙ log_is _ _ _ _ s _ _ _ same t.2,
)

pub returns-in-Ok-new-clause-rest : goal.returns-in-Ok-new-clause-rest
returns-in-Ok-new-clause-rest g c = first_idle c.args.base c.args.config.frames 128 c.args.config.lanes _ (ap (λ (m : Me _ View). m.0) c.in-Ok-new.ensures.ok.4)

-- how many words and slots there are at the start
words_wide : (n base : ℕ) (words : List ℕ) → AreOpening words n base → length words ≡ word_count n
words_wide n base words h = let b = h.frames.wide in ap (λ (l : List ℕ). length l) h.is ∙ grind (arith, common_steps, b)

slots_wide : (L G : Type 0) (n : ℕ) (lanes : List L) (log : G) (ys : List (Value L G)) → AreSlots n lanes log ys → length ys ≡ slot_count n
slots_wide L G n lanes log ys h = let a = lanes_counted L G 0 lanes in let b = h.counted in let c = h.few in ap (λ (l : List (Value L G)). length l) h.is ∙ grind (arith, common_steps, a, b, c)

pub invariant_of-result-clause-wide : goal.invariant_of-result-clause-wide
invariant_of-result-clause-wide g c = let o = c.in-Ok-new.ensures.ok in let same : c.args.config.frames ≡ c.in-Ok-new.table.shared.key.config.frames = sym (ap (λ (k : Opening g.row.L.Denot g.row.G.Denot). k.config.frames) o.5) in (
  o.0 ∙ ap (λ (l : List ℕ). length l) c.deref.ensures.value ∙ words_wide _ _ _ c.in-Ok.ensures ∙ ap word_count same,
  o.1 ∙ slots_wide g.row.L.Denot g.row.G.Denot _ _ _ _ c.lay.ensures ∙ ap (λ (n : ℕ). slot_count n) same,
)
