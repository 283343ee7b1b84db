use Rattle.std.proofs.Common.{◌≡◌, ◌∙◌, ℕ, true, false, ap, refl, sym, subst}
use Rattle.crossbeam_utils.specs.Padded.{padded_value}
use Rattle.page_layout.specs.Soundness.{is_new_page, is_sound_page}
use Rattle.pin_core.specs.declared.view.Content.TheVariants.{Exclusive}
use Rattle.pin_core.specs.declared.view.View.{View}
use Rattle.pin_core.specs.State.{Page, link}
use Rattle.frame_table.specs.Seats.{base_of, relations_of}
use Rattle.buffer_frames.specs.Rests.{HasNoDevice, LinksRest}
use Rattle.buffer_frames.specs.Tokens.{IsPinnedFor}
use Rattle.backend_pass.specs.Managers.{Belongs}
use Rattle.backend_pass.specs.Passes.{IsNumbered, IsShown, PassState, shown_after_put, view_in}
use Rattle.backend_pass.proofs.Counted.{counted_kept, told_of}
use Rattle.backend_pass.proofs.Flushed.{block_of_token, frame_of_token}
use Rattle.backend_pass.proofs.PassPuts.{belongs_put, calls_unput, dirtied_unput, entered_unput}
use Rattle.backend_pass.proofs.PassPuts.{front_put, locks_put, none_unentered_put, numbered_put}
use Rattle.backend_pass.proofs.PassPuts.{put_complete, same_put, shown_by_put}
use Rattle.backend_pass.proofs.SeatWork.{PutsOne, frame_worked}
use Rattle.backend_pass.proofs.Seated.{Worked, put_from}
use Rattle.backend_pass.proofs.pass.Pass.put.Given.{Over}
use Rattle.backend_pass.proofs.pass.Pass.put.Goals.{After-return_seat}
use Rattle.backend_pass.proofs.pass.Pass.put.Goals as goal

-- what the call did to the seat
worked : (g : Over) (c : After-return_seat g)
    → Worked (λ v w. PutsOne (relations_of c.args.manager.now.table)
    c.args.exclusive.now.pinned.frame c.args.exclusive.now.pinned.tag c.copy_from.new.self v w
    c.put_locked-answer.result) c.self.inside.held c.self.inside.seat c.return_seat.new.badge
worked g c =
    let e = c.put_locked-answer.ensures in
    frame_worked {L = g.row.L.Denot} {G = g.row.G.Denot} c.self.inside.held _ _ _ _
    c.take_seat-seat.ensures e.seat c.return_seat.ensures c.self.invariant.1
    (λ v w. PutsOne (relations_of c.args.manager.now.table)
    c.args.exclusive.now.pinned.frame c.args.exclusive.now.pinned.tag c.copy_from.new.self v w
    c.put_locked-answer.result) e.stands.quiet e.rests e.puts.partitions record {
      puts = e.puts;
      right = e.right;
      marked = e.marked;
      answer = e.answer;
      calls = e.calls;
      met = e.met;
      torn = e.torn;
      entered = e.entered;
    }

-- what it did with the caller's page
puts : (g : Over) (c : After-return_seat g)
    → PutsOne (relations_of c.args.manager.now.table) c.args.exclusive.now.pinned.frame
    c.args.exclusive.now.pinned.tag c.args.page.now c.args.self.now.view
    (view_in c.return_seat.new.badge.views) c.put_locked-answer.result
puts g c =
    let w = view_in c.return_seat.new.badge.views in
    subst (λ (page : Page). PutsOne (relations_of c.args.manager.now.table)
    c.args.exclusive.now.pinned.frame c.args.exclusive.now.pinned.tag page c.args.self.now.view
    w c.put_locked-answer.result) c.copy_from.ensures
    (subst (λ (p : PassState). PutsOne (relations_of c.args.manager.now.table)
    c.args.exclusive.now.pinned.frame c.args.exclusive.now.pinned.tag c.copy_from.new.self p.view
    w c.put_locked-answer.result) c.self.view_is (worked g c).did)

pub show_block-requires : goal.show_block-requires
show_block-requires g c = block_of_token {L = g.row.L.Denot} {G = g.row.G.Denot}
    g.L.BlockLane.contents
    c.args.manager.now _ c.args.exclusive.now.pinned.tag c.args.exclusive.now.pinned.frame
    c.requires.pinned c.requires.belongs

pub put_locked-answer-requires-clause-stands : goal.put_locked-answer-requires-clause-stands
put_locked-answer-requires-clause-stands g c = record {
  fits = c.take_seat-seat.ensures.table ∙ ap (λ (p : PassState). p.table) c.self.view_is
      ∙ c.requires.belongs.table;
  hand = c.take_seat-seat.ensures.hand;
  quiet = subst HasNoDevice c.take_seat-seat.ensures.view c.self.invariant.1.quiet;
}

pub put_locked-answer-requires-clause-rests : goal.put_locked-answer-requires-clause-rests
put_locked-answer-requires-clause-rests g c =
    subst (LinksRest c.self.inside.held) c.take_seat-seat.ensures.view c.self.invariant.1.links

pub put_locked-answer-requires-clause-inside : goal.put_locked-answer-requires-clause-inside
put_locked-answer-requires-clause-inside g c =
    frame_of_token {L = g.row.L.Denot} {G = g.row.G.Denot} g.L.BlockLane.contents
    c.args.manager.now _ c.args.exclusive.now.pinned.tag c.args.exclusive.now.pinned.frame
    c.requires.pinned c.requires.belongs

pub put_locked-answer-requires-clause-pinned : goal.put_locked-answer-requires-clause-pinned
put_locked-answer-requires-clause-pinned g c =
    subst (λ (p : PassState). IsPinnedFor c.args.exclusive.now.pinned.tag
    c.args.exclusive.now.pinned.frame p.tokens) (sym c.self.view_is) c.requires.pinned

pub put_locked-answer-requires-clause-right : goal.put_locked-answer-requires-clause-right
put_locked-answer-requires-clause-right g c =
    subst (λ (v : View). (link v c.args.exclusive.now.pinned.frame).content ≡ Exclusive)
    c.take_seat-seat.ensures.view
    (subst (λ (p : PassState). (link p.view c.args.exclusive.now.pinned.frame).content ≡ Exclusive)
    (sym c.self.view_is) c.requires.locked)

pub put_locked-answer-requires-clause-sound : goal.put_locked-answer-requires-clause-sound
put_locked-answer-requires-clause-sound g c =
    subst (λ (p : Page). is_sound_page p ≡ true) (sym c.copy_from.ensures) c.requires.sound

pub put_locked-answer-requires-clause-used : goal.put_locked-answer-requires-clause-used
put_locked-answer-requires-clause-used g c =
    subst (λ (p : Page). is_new_page p ≡ false) (sym c.copy_from.ensures) c.requires.used

pub invariant_of-self : goal.invariant_of-self
invariant_of-self g c =
    let i = c.self.invariant in
    let e = worked g (goal.at.invariant_of-self g c).After-return_seat in
    let v = view_in c.self.inside.seat.views in
    let w = view_in c.return_seat.new.badge.views in
    let answer = c.put_locked-answer.result in (
      e.badge.one,
      e.rests,
      subst (λ (id : ℕ). IsNumbered c.self.inside.number id w) (sym e.badge.id)
          (numbered_put c.args.exclusive.now.pinned.frame c.self.inside.number
          c.self.inside.seat.id v w e.did.puts i.2),
      subst (IsShown w) (sym (c.new-self-inside.ensures ∙ c.after_put-shown.ensures
          ∙ ap (shown_after_put answer) c.deref.ensures))
          (shown_by_put (relations_of c.args.manager.now.table)
          c.args.exclusive.now.pinned.frame c.args.exclusive.now.pinned.tag _ v w
          (padded_value c.self.inside.shown) answer e.did.answer e.did.met i.3),
      i.4,
      counted_kept _ _ _ _ (ap told_of e.did.puts.kept) i.5,
    )

pub returns-clause-belongs : goal.returns-clause-belongs
returns-clause-belongs g c =
    let e = worked g (goal.at.returns-clause-belongs g c).After-return_seat in
    belongs_put {L = g.row.L.Denot} {G = g.row.G.Denot} g.L.BlockLane.contents
    c.args.manager.now _ _ e.badge.table refl refl
    (front_put (base_of c.args.manager.now.table) (relations_of c.args.manager.now.table)
    c.args.exclusive.now.pinned.frame c.args.exclusive.now.pinned.tag _
    (view_in c.self.inside.seat.views) (view_in c.return_seat.new.badge.views)
    c.put_locked-answer.result e.did.answer) e.did.puts.advances.end_seen
    (subst (Belongs {L = g.row.L.Denot} {G = g.row.G.Denot} g.L.BlockLane.contents
    c.args.manager.now)
    (sym c.self.view_is) c.requires.belongs)

pub returns-clause-same : goal.returns-clause-same
returns-clause-same g c =
    let e = worked g (goal.at.returns-clause-same g c).After-return_seat in
    put_from _ _ _ c.self.view_is
    (same_put c.args.exclusive.now.pinned.frame _ _ e.badge.table e.badge.id refl e.did.puts)

pub returns-clause-locks : goal.returns-clause-locks
returns-clause-locks g c =
    let e = puts g (goal.at.returns-clause-locks g c).After-return_seat in
    locks_put c.args.exclusive.now.pinned.frame _ _ e.puts c.requires.locked e.right

pub returns-clause-others : goal.returns-clause-others
returns-clause-others g c =
    (puts g (goal.at.returns-clause-others g c).After-return_seat).puts.others

pub returns-clause-marked : goal.returns-clause-marked
returns-clause-marked g c = (puts g (goal.at.returns-clause-marked g c).After-return_seat).marked

pub returns-clause-answer : goal.returns-clause-answer
returns-clause-answer g c = (puts g (goal.at.returns-clause-answer g c).After-return_seat).answer

pub returns-clause-devices : goal.returns-clause-devices
returns-clause-devices g c = (puts g (goal.at.returns-clause-devices g c).After-return_seat).calls

pub returns-clause-met : goal.returns-clause-met
returns-clause-met g c = (puts g (goal.at.returns-clause-met g c).After-return_seat).met

pub returns-clause-torn : goal.returns-clause-torn
returns-clause-torn g c = (puts g (goal.at.returns-clause-torn g c).After-return_seat).torn

pub returns-clause-place_loads : goal.returns-clause-place_loads
returns-clause-place_loads g c = ap (λ (x : View). x.place_loads)
    (puts g (goal.at.returns-clause-place_loads g c).After-return_seat).puts.kept

pub returns-clause-refused : goal.returns-clause-refused
returns-clause-refused g c =
    let e = puts g (goal.at.returns-clause-refused g c).After-return_seat in
    calls_unput (relations_of c.args.manager.now.table) c.args.exclusive.now.pinned.frame
    c.args.exclusive.now.pinned.tag c.args.page.now c.args.self.now _ c.put_locked-answer.result
    e.answer (ap (λ (x : View). x.place_loads) e.puts.kept)

pub returns-clause-complete : goal.returns-clause-complete
returns-clause-complete g c = put_complete (relations_of c.args.manager.now.table)
    c.args.exclusive.now.pinned.frame c.args.exclusive.now.pinned.tag c.args.page.now _ _
    c.put_locked-answer.result
    (puts g (goal.at.returns-clause-complete g c).After-return_seat).answer

pub returns-clause-unentered : goal.returns-clause-unentered
returns-clause-unentered g c = ap (λ (x : View). x.unentered)
    (puts g (goal.at.returns-clause-unentered g c).After-return_seat).puts.kept

pub returns-clause-none_unentered : goal.returns-clause-none_unentered
returns-clause-none_unentered g c = none_unentered_put
    (link (view_in c.return_seat.new.badge.views) c.args.exclusive.now.pinned.frame)
    c.put_locked-answer.result
    (puts g (goal.at.returns-clause-none_unentered g c).After-return_seat).entered

pub returns-clause-dirtied : goal.returns-clause-dirtied
returns-clause-dirtied g c = dirtied_unput (relations_of c.args.manager.now.table)
    c.args.exclusive.now.pinned.frame c.args.exclusive.now.pinned.tag c.args.page.now _ _
    c.put_locked-answer.result
    (puts g (goal.at.returns-clause-dirtied g c).After-return_seat).answer

pub returns-clause-entered : goal.returns-clause-entered
returns-clause-entered g c = entered_unput (relations_of c.args.manager.now.table)
    c.args.exclusive.now.pinned.frame c.args.exclusive.now.pinned.tag c.args.page.now _ _
    c.put_locked-answer.result
    (puts g (goal.at.returns-clause-entered g c).After-return_seat).answer
