use Rattle.std.proofs.lemmas.Bool.{OnFalse_at, OnFalse_from, OnTrue_at, OnTrue_from}
use Rattle.pin_core.specs.declared.view.View.{View}
use Rattle.buffer_frames.proofs.Calm.{victim_worked}
use Rattle.buffer_frames.specs.VictimChoices.{ClearsTag, FindsInUse, IsDirtied}
use Rattle.buffer_frames.specs.Working.{Within}
use Rattle.buffer_frames.proofs.Outside.{Freed, freed_under, grows_outside, links_worked, outside_worked, rises_counted}
use Rattle.buffer_frames.proofs.WorkSteps.{within_on}
use Rattle.std.proofs.Common.{◌≡◌, ◌+◌, ap, ◌∙◌, ℕ}
use Rattle.buffer_frames.proofs.erasing.erase.Given.{Over}
use Rattle.buffer_frames.proofs.Keeps.{keeps_freed}
use Rattle.buffer_frames.proofs.Latching.{may_take_part}
use Rattle.buffer_frames.proofs.erasing.erase.Goals as goal

pub take_counted-requires-clause-free : goal.take_counted-requires-clause-free
take_counted-requires-clause-free g c = may_take_part _ c.requires.latches c.requires.stands.quiet

pub returns-clause-victim : goal.returns-clause-victim
returns-clause-victim g c = victim_worked c.args.held.now c.args.frame c.erase_latched-erased.new.seat.me.0 c.give_turn.new.seat.me.0 (links_worked c.erase_latched-erased.new.seat.me.0 c.give_turn.new.seat.me.0 c.give_turn.ensures.work) c.erase_latched-erased.ensures.victim

module _ (g : Over) (c : goal.After-give_turn g) where
  searches : Freed c.args.seat.now.me.0 c.take_counted.new.seat.me.0 c.give_turn.new.seat.me.0
  searches = let k = c.take_counted.ensures in let u = c.give_turn.ensures in freed_under c.partition-partition.result c.args.seat.now.me.0 c.take_counted.new.seat.me.0 c.erase_latched-erased.new.seat.me.0 c.give_turn.new.seat.me.0 k.work k.turned.2 k.turned.3 c.erase_latched-erased.ensures.keeps.same u.work u.turned.2 u.turned.3

  within_latched : (Work : View → View → Type 0) → Within Work c.take_counted.new.seat.me.0 c.erase_latched-erased.new.seat.me.0 → Within Work c.args.seat.now.me.0 c.give_turn.new.seat.me.0
  within_latched Work work = let k = c.take_counted.ensures in let u = c.give_turn.ensures in within_on Work c.args.seat.now.me.0 c.take_counted.new.seat.me.0 c.erase_latched-erased.new.seat.me.0 c.give_turn.new.seat.me.0
      (rises_counted c.partition-partition.result c.args.seat.now.me.0 c.take_counted.new.seat.me.0 k.work k.turned.2 k.turned.3 k.grows) work
      (grows_outside c.erase_latched-erased.new.seat.me.0 c.give_turn.new.seat.me.0 u.grows (outside_worked c.erase_latched-erased.new.seat.me.0 c.give_turn.new.seat.me.0 u.work u.turned.2 u.turned.3))

pub returns-clause-counted : goal.returns-clause-counted
returns-clause-counted g c = c.take_counted.ensures.counted ∙ (searches g c).shown

pub returns-clause-turns : goal.returns-clause-turns
returns-clause-turns g c = (searches g c).turns

pub returns-clause-hints : goal.returns-clause-hints
returns-clause-hints g c = (searches g c).hints

pub returns-clause-emptied : goal.returns-clause-emptied
returns-clause-emptied g c = OnTrue_from _ _ (λ yes. within_latched g c (ClearsTag c.args.frame) (OnTrue_at yes c.erase_latched-erased.ensures.emptied))

pub returns-clause-in_use : goal.returns-clause-in_use
returns-clause-in_use g c = OnFalse_from _ _ (λ no. within_latched g c (FindsInUse IsDirtied c.args.frame) (OnFalse_at no c.erase_latched-erased.ensures.in_use))

pub returns-clause-keeps : goal.returns-clause-keeps
returns-clause-keeps g c = let k = c.take_counted.ensures in let u = c.give_turn.ensures in keeps_freed c.partition-partition.ensures.value c.requires.stands k.seat k.work k.grows k.turned c.erase_latched-erased.ensures.keeps u.seat u.work u.grows u.turned

module _ (g : Over) (c : goal.After-give_turn g) where
  after : c.give_turn.new.seat.me.0.cleared ≡ c.erase_latched-erased.new.seat.me.0.cleared
  after = ap (λ (v : View). v.cleared) c.give_turn.ensures.work

pub returns-clause-taken : goal.returns-clause-taken
returns-clause-taken g c = OnTrue_from _ _ (λ yes. after g c ∙ OnTrue_at yes c.erase_latched-erased.ensures.taken ∙ ap (λ (n : ℕ). n + 1) (searches g c).before)

pub returns-clause-untaken : goal.returns-clause-untaken
returns-clause-untaken g c = OnFalse_from _ _ (λ no. after g c ∙ OnFalse_at no c.erase_latched-erased.ensures.untaken ∙ (searches g c).before)
